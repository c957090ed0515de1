-- What the loop of a caller needs to end: a step that goes on has taken a byte, and one without room had none. Assumes nothing.
use Rattle.std.proofs.Common.{◌≡◌, refl, ap, sym, ◌∙◌, Bool, true, false, List, ℕ, suc, ◌≤◌, ◌<◌, arith, leb-false, leb, length}
use Rattle.std.specs.Borrow.{Bor}
use Rattle.lists.specs.Choices.{pick}
use Rattle.terms.specs.State.{State}
use Rattle.terms.specs.Limits.{max_places}
use Rattle.arbiter.specs.ByValue.{held}
use Rattle.listing.specs.declared.steps.Output.TheVariants.{More, NoRoom}
use Rattle.listing.specs.declared.steps.StepResult.{StepResult}
use Rattle.listing.specs.Listing.{Step, step}
use Rattle.listing.specs.Room.{line_room, Outcome, written_out, no_room, written, in_buffer, output_of, outcome_of}
use Rattle.in_a_row.proofs.InARow.{follows, step_leaves}

-- how many steps may follow an outcome
abbrev follows_outcome : Outcome → ℕ
follows_outcome (written_out t buffer) = follows t
follows_outcome (no_room s buffer) = 0

buffer_follows : (t : Step) (given : State) (old : List ℕ) → follows_outcome (in_buffer max_places t given old) ≤ follows t
buffer_follows t given old = grind arith

module _ (s : State) (bytes old buffer : List ℕ) (r : StepResult) (e : outcome_of r buffer ≡ in_buffer max_places (step max_places s bytes) s old) where
  pub more_takes : (wrote : ℕ) (rest : Bor (List ℕ)) → r.output ≡ More wrote rest → length rest.now < length bytes
  more_takes wrote rest f =
      let here : suc (length rest.now) ≡ follows_outcome (in_buffer max_places (step max_places s bytes) s old) =
      sym (ap (λ w. follows_outcome (output_of w (held r.state) buffer)) f) ∙ ap follows_outcome e in
      omega (arith, here, buffer_follows (step max_places s bytes) s old, step_leaves max_places s bytes)

  pub no_room_lem : r.output ≡ NoRoom → length old < line_room max_places
  no_room_lem f = by_room (leb (line_room max_places) (length old)) refl (sym (ap (λ w. output_of w (held r.state) buffer) f) ∙ e) where
    by_room : (room : Bool) → leb (line_room max_places) (length old) ≡ room → no_room (held r.state) buffer ≡ pick room (written (step max_places s bytes) old) (no_room s old) → length old < line_room max_places
    by_room true l g = let z : ◌≡◌ {A = ℕ} 0 1 = cc in absurd (omega arith)
    by_room false l g = leb-false (line_room max_places) (length old) l
