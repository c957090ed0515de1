-- Test 23 on the words that an old state was laid into is that of the old state, with its own limit. Assumes nothing.
use Rattle.std.proofs.Common.{◌≡◌, ap, sym, ◌∙◌, Bool, true, false, ◌&&◌, List, ℕ, ◌+◌, ◌-◌, arith, leb, length}
use Rattle.lists.specs.Runs.{Result}
use Rattle.terms.specs.State.{State, sound}
use Rattle.terms.specs.Refusals.{faultless, refusal, gate, resolve}
use Rattle.terms.specs.Answers.{Answer, accepted}
use Rattle.terms.specs.Start.{turned_down}
use Rattle.terms.specs.Longer.{longer}
use Rattle.carrying.specs.Carry.{as_state, carry}
use Rattle.terms.proofs.Longer.{sound_within}
use Rattle.layout.specs.Words.{room_of_words, state_of}
use Rattle.layout.proofs.Stores.{same_room}
use Rattle.carrying.specs.OldWords.{old_room_of, old_state_of}
use Rattle.carrying.proofs.Fits.{Fit, old_shaped}

module _ (old-most most : ℕ) (old words laid : List ℕ) (f : Fit old-most most old words) (long : length laid ≡ length words)
    (e : state_of laid ≡ longer (room_of_words words - old_room_of old) (as_state (old_state_of old))) where
  abbrev limit : ℕ
  limit = old_room_of old

  abbrev before : State
  before = as_state (old_state_of old)

  pub tested : (room : ℕ) (b : Bool) → room ≡ limit → b ≡ (leb (state_of laid).table.count room && sound (room_of_words laid) (state_of laid)) → b ≡ sound limit before
  tested room b r t =
      let whole : limit + (room_of_words words - limit) ≡ room_of_words words = omega (arith, f.enough) in
      t ∙ rw (e, same_room words laid long, r) (rw whole at (sound_within limit (room_of_words words - limit) before (old_shaped limit old)))

  -- the test decides
  by_test : (b : Bool) → sound limit before ≡ b
      → carry limit (room_of_words words) (old_state_of old)
      ≡ resolve (gate (refusal 23) b faultless) (record { state = longer (room_of_words words - limit) before; answer = accepted }) (turned_down (room_of_words words))
  unfolding carry
  by_test b q = ap (λ x. resolve (gate (refusal 23) x faultless) (record { state = longer (room_of_words words - limit) before; answer = accepted }) (turned_down (room_of_words words))) q

  pub carried : sound limit before ≡ true → ◌≡◌ {A = Result State Answer} (record { state = state_of laid; answer = accepted }) (carry limit (room_of_words words) (old_state_of old))
  unfolding gate
  carried ok = ap (λ s. record { state = s; answer = accepted }) e ∙ sym (by_test true ok)

  pub not_carried : (r : Result State Answer) → sound limit before ≡ false → r ≡ turned_down (room_of_words laid) (refusal 23) → r ≡ carry limit (room_of_words words) (old_state_of old)
  unfolding gate
  not_carried r broken d = d ∙ ap (λ k. turned_down k (refusal 23)) (same_room words laid long) ∙ sym (by_test false broken)
