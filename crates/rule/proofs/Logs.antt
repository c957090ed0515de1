-- Slots one after the other: one slot more at the end, that the state stays sound, and their log in a lent buffer. Assumes nothing.
use Rattle.std.proofs.Common.{◌≡◌, refl, ap, sym, ◌∙◌, true, false, List, [], ◌∷◌, ◌++◌, append-nil, ℕ, zero, suc, ◌+◌, ◌-◌, ◌≤◌, ◌<◌, zero-add, suc-add, arith, leb-true, length, set, take, drop, length-take, drop_of_length-le, Option, Some, None}
use borrow.Rule.Slice.PartMut.{put_mid}
use Rattle.lists.specs.Overwriting.{written_over}
use Rattle.lists.proofs.Overwriting.{length_over, written_behind}
use Rattle.terms.specs.declared.refusals.Refusal.{Refusal}
use Rattle.terms.specs.declared.place.Requestor.{Requestor}
use Rattle.terms.specs.declared.place.Account.{Account}
use Rattle.terms.specs.State.{State, sound}
use Rattle.terms.specs.Limits.{max_slot}
use Rattle.terms.specs.Refusals.{Verdict, faultless, fault, refusal, gate, then}
use Rattle.terms.specs.Answers.{Answer, accepted, refused}
use Rattle.terms.specs.Input.{input_verdict}
use Rattle.terms.proofs.Checks.{gate_open, then_open, gate_passed}
use Rattle.terms.proofs.Sound.{Sound}
use Rattle.rule.specs.Rule.{first_eligible}
use Rattle.rule.specs.Calls.{grant_of, advanced}
use Rattle.rule.specs.Log.{grant_byte, slots_state, slots_log, slots_verdict, run_verdict, Outcome, run}
use Rattle.rule.proofs.Search.{first_found}
use Rattle.rule.proofs.Kept.{fair_table, advanced_sound}

-- ---- the byte of a grant

-- a grant among the first n places has a byte of its own
pub byte_of : (d n : ℕ) (rs : List Requestor) (accounts : List Account) (g : Option ℕ) → n ≤ 255 → g ≡ first_eligible d (take n rs) accounts → grant_byte g < 256
byte_of d n rs accounts None few e = omega arith
byte_of d n rs accounts (Some p) few e = omega (arith, (first_found d p (take n rs) accounts (sym e)).0, length-take n rs)

pub byte_fits : (s : State) (g : Option ℕ) (places : ℕ) → Sound places s → places ≤ 255 → g ≡ grant_of s → grant_byte g < 256
unfolding grant_of
byte_fits s g places v few e =
    byte_of s.table.denominator s.table.count s.table.requestors s.accounts g (omega (arith, (fair_table places s v).count_most)) e

-- ---- slots, and then more slots

pub state_adds : (a b : ℕ) (s : State) → slots_state (a + b) s ≡ slots_state b (slots_state a s)
unfolding slots_state
state_adds zero b s = rw (zero-add b)
state_adds (suc a) b s = rw (suc-add a b) (state_adds a b (advanced s (grant_of s)))

pub log_adds : (a b : ℕ) (s : State) → slots_log (a + b) s ≡ slots_log a s ++ slots_log b (slots_state a s)
unfolding slots_state slots_log
log_adds zero b s = rw (zero-add b)
log_adds (suc a) b s = rw (suc-add a b) (ap (λ l. grant_byte (grant_of s) ∷ l) (log_adds a b (advanced s (grant_of s))))

-- one slot more at the end
pub state_more : (k : ℕ) (s : State) → slots_state (k + 1) s ≡ advanced (slots_state k s) (grant_of (slots_state k s))
unfolding slots_state
state_more k s = state_adds k 1 s

pub log_more : (k : ℕ) (s : State) → slots_log (k + 1) s ≡ slots_log k s ++ (grant_byte (grant_of (slots_state k s)) ∷ [])
unfolding slots_log slots_state
log_more k s = log_adds k 1 s

pub length_log : (k : ℕ) (s : State) → length (slots_log k s) ≡ k
unfolding slots_log
length_log zero s = refl
length_log (suc k) s = ap suc (length_log k (advanced s (grant_of s)))

-- ---- the state stays sound, and its slot number rises by 1 in each slot

pub slots_sound : (limit k : ℕ) (s : State) → Sound limit s → s.slot.0 + k ≤ max_slot → Sound limit (slots_state k s) × ((slots_state k s).slot.0 ≡ s.slot.0 + k)
unfolding slots_state advanced
slots_sound limit zero s v h = (v, omega arith)
slots_sound limit (suc k) s v h =
    let rest = slots_sound limit k (advanced s (grant_of s)) (advanced_sound limit s v (omega arith)) (omega arith) in
    (rest.0, omega (arith, rest.1))

pub slots_table : (k : ℕ) (s : State) → (slots_state k s).table ≡ s.table
unfolding slots_state advanced
slots_table zero s = refl
slots_table (suc k) s = slots_table k (advanced s (grant_of s))

-- ---- in a lent log

-- the first k slots are done, and their bytes stand in front of what the log held
pub record Along (s : State) (old log : List ℕ) (state : State) (k : ℕ) : Type 0 where
  pub within : k ≤ length old
  pub now : state ≡ slots_state k s
  pub same : log ≡ written_over (slots_log k s) old

pub along_none : (s : State) (old : List ℕ) → Along s old old s 0
unfolding slots_state slots_log written_over
along_none s old = record { within = omega arith; now = refl; same = refl }

module _ {s : State} {old log : List ℕ} {state : State} {k : ℕ} (a : Along s old log state k) where
  pub along_length : length log ≡ length old
  along_length = rw a.same (length_over (slots_log k s) old (omega (arith, length_log k s, a.within)))

  pub along_next : k < length log → (next : State) (part : List ℕ) → next ≡ advanced state (grant_of state)
      → part ≡ written_over (grant_byte (grant_of state) ∷ []) (take (length log - k) (drop k log))
      → Along s old (put_mid k (length log - k) log part) next (k + 1)
  along_next h next part e f = record {
    within = omega (arith, along_length);
    now = e ∙ ap (λ x. advanced x (grant_of x)) a.now ∙ sym (state_more k s);
    same =
        rw a.same
        (written_behind (slots_log k s) old k (length_log k s) (grant_byte (grant_of (slots_state k s)) ∷ []) part (rw (a.same, a.now) at f))
        ∙ ap (λ l. written_over l old) (sym (log_more k s));
  }

  pub along_all : length log ≤ k → (state ≡ slots_state (length old) s) × (log ≡ slots_log (length old) s)
  unfolding written_over
  along_all h =
      let all : k ≡ length old = omega (arith, along_length, a.within) in
      let over : length old ≤ length (slots_log k s) = omega (arith, length_log k s) in
      let none : drop (length (slots_log k s)) old ≡ [] = drop_of_length-le old over in
      (a.now ∙ ap (λ n. slots_state n s) all, a.same ∙ ap (λ l. slots_log k s ++ l) none ∙ append-nil (slots_log k s) ∙ ap (λ n. slots_log n s) all)

-- the first byte of a list that has one
pub first_byte : (x y : ℕ) (old : List ℕ) → x ≡ y → 1 ≤ length old → set old 0 x ≡ written_over (y ∷ []) old
unfolding written_over
first_byte x y [] e h = absurd (omega arith)
first_byte x y (z ∷ old) e h = rw e

-- ---- the whole run

module _ (limit : ℕ) (s : State) (old : List ℕ) where
  -- 13, then 22
  abbrev pub length_verdict : Verdict
  length_verdict = then (input_verdict (length old)) (slots_verdict s.slot.0 (length old))

  pub run_unsound : (state : State) (a : Answer) → sound limit s ≡ false → state ≡ s → a ≡ refused (refusal 23)
      → ◌≡◌ {A = Outcome} (record { state = state; answer = a; log = old }) (run limit s old)
  unfolding run run_verdict gate
  run_unsound state a e f g = rw (e, f, g)

  module _ (ok : sound limit s ≡ true) where
    pub run_refused : (state : State) (a : Answer) (r : Refusal) → length_verdict ≡ fault r → state ≡ s → a ≡ refused r
        → ◌≡◌ {A = Outcome} (record { state = state; answer = a; log = old }) (run limit s old)
    unfolding run run_verdict
    run_refused state a r e f g = rw (gate_passed (refusal 23) (sound limit s) length_verdict ok, e, f, g)

    pub run_done : (state : State) (log : List ℕ) → length_verdict ≡ faultless → state ≡ slots_state (length old) s → log ≡ slots_log (length old) s
        → ◌≡◌ {A = Outcome} (record { state = state; answer = accepted; log = log }) (run limit s old)
    unfolding run run_verdict
    run_done state log e f g = rw (gate_passed (refusal 23) (sound limit s) length_verdict ok, e, f, g)

    pub run_below : length_verdict ≡ faultless → s.slot.0 + length old ≤ max_slot
    unfolding slots_verdict
    run_below e = leb-true _ _ (gate_open _ _ _ (then_open _ _ e).1).0
