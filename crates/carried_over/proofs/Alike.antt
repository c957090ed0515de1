-- A state that was carried over runs on alike. Assumes nothing.
use Rattle.std.proofs.Common.{◌≡◌, refl, ap, sym, ◌∙◌, true, List, [], ◌∷◌, ◌++◌, ℕ, ◌+◌, ◌-◌, ◌≤◌, arith, length}
use Rattle.lists.specs.Runs.{end, answers}
use Rattle.lists.proofs.Runs.{keeps, end_append, answers_append}
use Rattle.lists.proofs.Tests.{cases}
use Rattle.terms.specs.State.{State, sound, Shaped}
use Rattle.terms.specs.Refusals.{refusal, gate}
use Rattle.terms.specs.Answers.{accepted, refused}
use Rattle.terms.specs.Longer.{longer}
use Rattle.carrying.specs.Carry.{OldState, as_state, kept, carry}
use Rattle.carrying.proofs.Kept.{as_state_kept, kept_many}
use Rattle.carrying.proofs.Fits.{as_state_shaped}
use Rattle.terms.proofs.Longer.{longer_shaped, few_places, same_sound, same_figures}
use Rattle.terms.proofs.Checks.{fair}
use Rattle.terms.proofs.Sound.{Sound, sound_table, sound_open, sound_shut}
use Rattle.rule.specs.Calls.{Call, called}
use Rattle.rule.proofs.Longer.{call_shaped, call_few, same_call, same_run}
use Rattle.guarantees.specs.Counts.{start_state, state_after}
use Rattle.guarantees.proofs.Start.{called_sound}
use Rattle.guarantees.proofs.Sound.{sound_end, end_ruled}
use Rattle.carried_over.specs.Alike.{Alike, RunsOnAlike, CarriedMidRun, CountAboveIs23, SoundIsCarried, CarriedFromSound, CarriedFromStart}
use Rattle.carried_over.proofs.Longer.{same_chain, same_look, same_standing, same_lead, same_write}

-- ---- a list of calls

-- what every call keeps: the lists' lengths, and that N is a number of places
record Kept (room : ℕ) (s : State) : Type 0 where
  shaped : Shaped room s
  few : s.table.count ≤ room

module _ (room extra : ℕ) where
  next_kept : (s : State) (c : Call) → Kept room s → Kept room (called room s c).state
  next_kept s c k = record { shaped = call_shaped room s c k.shaped; few = call_few room s c k.few }

  same_calls : (s : State) (calls : List Call) → Kept room s
      → (answers (called (room + extra)) (longer extra s) calls ≡ answers (called room) s calls)
      × (end (called (room + extra)) (longer extra s) calls ≡ longer extra (end (called room) s calls))
      × Kept room (end (called room) s calls)
  unfolding end answers
  same_calls s [] k = (refl, refl, k)
  same_calls s (c ∷ calls) k =
      let one = same_call room extra s k.shaped c in
      let rest = same_calls (called room s c).state calls (next_kept s c k) in
      (rw one (ap (λ answered. (called room s c).answer ∷ answered) rest.0), rw one rest.1, rest.2)

-- with room for `new` places, and not fewer than before
module _ (old new : ℕ) (larger : old ≤ new) where
  abbrev extra : ℕ
  extra = new - old

  whole : old + extra ≡ new
  whole = omega arith

  all_alike : (s : State) → Kept old s → Alike old new s (longer extra s)
  all_alike s k =
      let v = k.shaped in
      record {
        behind = refl;
        run = λ log. rw whole at (same_run old extra s v log);
        lead = λ p log. rw whole at (same_lead old extra s v p log);
        figures = λ p j. rw whole at (same_figures old extra s v p j);
        chain = λ p names. rw whole at (same_chain old extra s v p names);
        write = λ buffer. rw whole at (same_write old extra s v buffer k.few);
        account = λ p. rw whole at (same_look old extra s v p);
        standing = rw whole at (same_standing old extra s v);
      }

-- ---- carried over

module _ (old new : ℕ) (o : OldState) (many : length o.places ≡ old) (larger : old ≤ new) where
  shaped : Shaped old (as_state o)
  shaped = as_state_shaped old o many

  carried : sound old (as_state o) ≡ true → carry old new o ≡ record { state = longer (new - old) (as_state o); answer = accepted }
  unfolding carry gate
  carried ok = rw ok

  accepted_sound : (carry old new o).answer ≡ accepted → sound old (as_state o) ≡ true
  unfolding carry gate
  accepted_sound e = cases (sound old (as_state o)) (λ q. q) (λ q. not_refused (rw q at e))
    where
      not_refused : {X : Type 0} → refused (refusal 23) ≡ accepted → X
      not_refused f = absurd cc

  both_kept : sound old (as_state o) ≡ true → Kept old (as_state o)
  both_kept ok = record { shaped = shaped; few = few_places old (new - old) (as_state o) shaped ok }

pub runs_on_alike : RunsOnAlike
runs_on_alike old new o many larger ok calls =
    let fine = accepted_sound old new o many larger ok in
    let same = same_calls old (new - old) (as_state o) calls (both_kept old new o many larger fine) in
    let like = all_alike old new larger (end (called old) (as_state o) calls) same.2 in
    let ends = rw (whole old new larger) at same.1 in
    rw (carried old new o many larger fine) (rw (whole old new larger) at same.0, rw ends like)

pub carried_mid_run : CarriedMidRun
carried_mid_run old new larger s v before after ok =
    let last = end (called old) s before in
    let shape = keeps (called old) (Shaped old) (call_shaped old) s before v in
    let goes_on = (runs_on_alike old new (kept last) (kept_many old last shape) larger ok after).0 in
    answers_append (called old) s before after
    ∙ ap (λ answered. answers (called old) s before ++ answered)
    (ap (λ x. answers (called old) x after) (sym (as_state_kept old last shape)) ∙ sym goes_on)

pub sound_is_carried : SoundIsCarried
sound_is_carried old new o many larger ok =
    let v = shaped old new o many larger in
    let more = rw (whole old new larger) at (longer_shaped old (new - old) (as_state o) v) in
    let fine = rw (whole old new larger) at (same_sound old (new - old) (as_state o) v ∙ ok) in
    rw (carried old new o many larger ok) (refl, more, fine)

pub count_above_is_23 : CountAboveIs23
unfolding carry gate
count_above_is_23 old new o over = cases (sound old (as_state o))
    (λ q. absurd (omega (arith, over, (fair old (as_state o).table (sound_table old (as_state o) q)).count_most)))
    (λ q. rw q)

-- ---- from a sound state, and from an accepted start

pub carried_from_sound : CarriedFromSound
carried_from_sound old new larger s shape ok before after =
    let v = sound_end old s before (sound_open old s shape ok) in
    let last : Sound old (end (called old) s before) = rw (end_ruled old s before (sound_open old s shape ok)) v in
    let shaped : Shaped old (end (called old) s before) = record { rows = last.rows; accounts = last.accounts } in
    let fine = ap (sound old) (as_state_kept old (end (called old) s before) shaped) ∙ sound_shut old (end (called old) s before) last in
    let accepts = (sound_is_carried old new (kept (end (called old) s before)) (kept_many old (end (called old) s before) shaped) larger fine).0 in
    (accepts, carried_mid_run old new larger s shape before after accepts)

pub carried_from_start : CarriedFromStart
carried_from_start old new larger t first a before inside more =
    let v = called_sound old t first a before in
    let there = end_append (called old) (start_state old t first) before inside in
    rw (sym there) at (carried_from_sound old new larger (state_after old t first before) (record { rows = v.rows; accounts = v.accounts }) (sound_shut old _ v) inside more)
