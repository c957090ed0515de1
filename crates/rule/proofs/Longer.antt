-- The lengths of a state's lists stay, whatever the calls; and a state with clear rows and accounts behind its own: the rule and every call
-- on it are those of the state, and leave the same behind. Assumes nothing.
use Rattle.std.proofs.Common.{◌≡◌, refl, ap, ◌∙◌, List, [], ◌∷◌, ◌++◌, ℕ, zero, suc, ◌+◌, ◌≤◌, ◌<◌, arith, ltb-true, ltb, length, replicate, length-take, length-set, Option, Some, None}
use lib.Seq.{set-append_left}
use Rattle.lists.specs.Runs.{Result}
use Rattle.lists.proofs.Tests.{cases}
use Rattle.terms.specs.declared.refusals.Refusal.{Refusal}
use Rattle.terms.specs.declared.place.Requestor.{Requestor}
use Rattle.terms.specs.declared.place.Account.{Account}
use Rattle.terms.specs.Table.{requestors_of}
use Rattle.terms.specs.State.{State, no_account, sound, Shaped}
use Rattle.terms.specs.Refusals.{Verdict, faultless, fault, refusal, gate, then, resolve}
use Rattle.terms.specs.Answers.{Answer, accepted, refused}
use Rattle.terms.specs.Input.{input_verdict}
use Rattle.terms.specs.Longer.{longer}
use Rattle.terms.proofs.Longer.{same_rows, few_places, same_sound, same_account}
use Rattle.rule.specs.Rule.{first_eligible, after}
use Rattle.rule.specs.Calls.{Call, post, slot, grant_of, advanced, with_post, done, rule_verdict, outcome, called}
use Rattle.rule.specs.Log.{Outcome, grant_byte, slots_state, slots_log, slots_verdict, run_verdict, run}
use Rattle.rule.proofs.Slots.{after_length}

-- ---- the lists stay as long

pub slot_shaped : (room : ℕ) (s : State) (g : Option ℕ) → Shaped room s → Shaped room (advanced s g)
unfolding advanced
slot_shaped room s g h = record {
  rows = h.rows;
  accounts = after_length s.table.denominator g (requestors_of s.table) s.accounts ∙ h.accounts;
}

outcome_shaped : (room : ℕ) (v : Verdict) (s : State) (c : Call) → Shaped room s → Shaped room (outcome v s c).state
unfolding done with_post
outcome_shaped room faultless s (post p count) h = record { rows = h.rows; accounts = simp length-set h.accounts }
outcome_shaped room faultless s slot h = slot_shaped room s (grant_of s) h
outcome_shaped room (fault r) s c h = h

pub call_shaped : (room : ℕ) (s : State) (c : Call) → Shaped room s → Shaped room (called room s c).state
unfolding called
call_shaped room s c h = outcome_shaped room (gate (refusal 23) (sound room s) (rule_verdict s c)) s c h

-- and N is what it was
outcome_few : (room : ℕ) (v : Verdict) (s : State) (c : Call) → s.table.count ≤ room → (outcome v s c).state.table.count ≤ room
unfolding done with_post advanced
outcome_few room faultless s (post p count) few = few
outcome_few room faultless s slot few = few
outcome_few room (fault r) s c few = few

pub call_few : (room : ℕ) (s : State) (c : Call) → s.table.count ≤ room → (called room s c).state.table.count ≤ room
unfolding called
call_few room s c few = outcome_few room (gate (refusal 23) (sound room s) (rule_verdict s c)) s c few

slots_shaped : (room k : ℕ) (s : State) → Shaped room s → Shaped room (slots_state k s)
unfolding slots_state
slots_shaped room zero s v = v
slots_shaped room (suc k) s v = slots_shaped room k (advanced s (grant_of s)) (slot_shaped room s (grant_of s) v)

pub run_shaped : (room : ℕ) (s : State) (log : List ℕ) → Shaped room s → Shaped room (run room s log).state
unfolding run
run_shaped room s log v = by (run_verdict room s (length log))
  where
    by : (w : Verdict) → Shaped room (resolve {X = Outcome} w (record { state = slots_state (length log) s; answer = accepted; log = slots_log (length log) s }) (λ r. record { state = s; answer = refused r; log = log })).state
    by faultless = slots_shaped room (length log) s v
    by (fault r) = v

-- ---- the rule

first_same : (d : ℕ) (rs : List Requestor) (accounts even : List Account) → length rs ≤ length accounts
    → first_eligible d rs (accounts ++ even) ≡ first_eligible d rs accounts
unfolding first_eligible
first_same d [] accounts even h = refl
first_same d (r ∷ rs) [] even h = absurd (omega arith)
first_same d (r ∷ rs) (a ∷ accounts) even h = rw (first_same d rs accounts even (omega arith))

after_same : (d : ℕ) (g : Option ℕ) (rs : List Requestor) (accounts even : List Account) → length rs ≤ length accounts
    → after d g rs (accounts ++ even) ≡ after d g rs accounts ++ even
unfolding after
after_same d g [] accounts even h = refl
after_same d g (r ∷ rs) [] even h = absurd (omega arith)
after_same d None (r ∷ rs) (a ∷ accounts) even h = rw (after_same d None rs accounts even (omega arith))
after_same d (Some zero) (r ∷ rs) (a ∷ accounts) even h = rw (after_same d None rs accounts even (omega arith))
after_same d (Some (suc p)) (r ∷ rs) (a ∷ accounts) even h = rw (after_same d (Some p) rs accounts even (omega arith))

module _ (room extra : ℕ) (s : State) (v : Shaped room s) (few : s.table.count ≤ room) where
  abbrev places : List Requestor
  places = requestors_of s.table

  enough : length places ≤ length s.accounts
  enough = omega (arith, length-take s.table.count s.table.requestors, v.accounts)

  same_grant : grant_of (longer extra s) ≡ grant_of s
  unfolding grant_of
  same_grant =
      rw (same_rows room extra s.table v.rows few, first_same s.table.denominator places s.accounts (replicate extra no_account) enough)

  same_slot : (g : Option ℕ) → advanced (longer extra s) g ≡ longer extra (advanced s g)
  unfolding advanced
  same_slot g =
      rw (same_rows room extra s.table v.rows few, after_same s.table.denominator g places s.accounts (replicate extra no_account) enough)

  slot_few : (g : Option ℕ) → (advanced s g).table.count ≤ room
  unfolding advanced
  slot_few g = few

same_slots : (room extra k : ℕ) (s : State) → Shaped room s → s.table.count ≤ room
    → (slots_state k (longer extra s) ≡ longer extra (slots_state k s)) × (slots_log k (longer extra s) ≡ slots_log k s)
unfolding slots_state slots_log
same_slots room extra zero s v few = (refl, refl)
same_slots room extra (suc k) s v few =
    let g = grant_of s in
    let next = same_slot room extra s v few g in
    let rest = same_slots room extra k (advanced s g) (slot_shaped room s g v) (slot_few room extra s v few g) in
    (rw (same_grant room extra s v few, next) rest.0, rw (same_grant room extra s v few, next) (ap (λ l. grant_byte g ∷ l) rest.1))

-- ---- the calls on a state

pub resolved : {X Y : Type 0} (f : X → Y) (w : Verdict) (x : X) (down : Refusal → X) → resolve w (f x) (λ r. f (down r)) ≡ f (resolve w x down)
resolved f faultless x down = refl
resolved f (fault r) x down = refl

module _ (room extra : ℕ) (s : State) (v : Shaped room s) where
  abbrev big : State
  big = longer extra s

  abbrev called_longer : Result State Answer → Result State Answer
  called_longer d = record { state = longer extra d.state; answer = d.answer }

  same_verdict : (c : Call) → rule_verdict big c ≡ rule_verdict s c
  unfolding rule_verdict
  same_verdict (post p count) = rw (same_account room extra s v p)
  same_verdict slot = refl

  same_outcome : (c : Call) (w : Verdict) → s.table.count ≤ room → rule_verdict s c ≡ w → outcome w big c ≡ called_longer (outcome w s c)
  unfolding done with_post rule_verdict gate
  same_outcome (post p count) faultless few e =
      let here : p < s.table.count = cases (ltb p s.table.count) (λ q. ltb-true p _ q) (λ q. faultless_never (rw q at e)) in
      rw (same_account room extra s v p, set-append_left s.accounts (replicate extra no_account) p _ (omega (arith, here, v.accounts)))
    where
      faultless_never : {X : Type 0} → fault (refusal 11) ≡ faultless → X
      faultless_never f = let z : ◌≡◌ {A = ℕ} 0 1 = cc in absurd (omega arith)
  same_outcome slot faultless few e = rw (same_grant room extra s v few, same_slot room extra s v few (grant_of s))
  same_outcome c (fault r) few e = refl

  pub same_call : (c : Call) → called (room + extra) big c ≡ called_longer (called room s c)
  unfolding called gate
  same_call c = cases (sound room s)
      (λ q. rw (same_sound room extra s v, q, same_verdict c) (same_outcome c (rule_verdict s c) (few_places room extra s v q) refl))
      (λ q. rw (same_sound room extra s v, q))

  abbrev ran_longer : Outcome → Outcome
  ran_longer d = record { state = longer extra d.state; answer = d.answer; log = d.log }

  pub same_run : (log : List ℕ) → run (room + extra) big log ≡ ran_longer (run room s log)
  unfolding run run_verdict gate
  same_run log = cases (sound room s)
      (λ q. let slots = same_slots room extra (length log) s v (few_places room extra s v q) in
      rw (same_sound room extra s v, q, slots.0, slots.1) (resolved ran_longer (then (input_verdict (length log)) (slots_verdict s.slot.0 (length log))) _ _))
      (λ q. rw (same_sound room extra s v, q))
