-- An accepted run is so many slots of the rule, and they are calls of slot. Assumes nothing.
use Rattle.std.proofs.Common.{◌≡◌, refl, ap, ap₂, sym, ◌∙◌, true, List, ◌∷◌, ◌++◌, map, ℕ, zero, suc, ◌+◌, ◌≤◌, ◌<◌, arith, lt-ltb, leb-true, le-leb, length, length-append}
use Rattle.lists.specs.Runs.{end, answers}
use Rattle.lists.specs.Sums.{total}
use Rattle.terms.specs.State.{State, sound, Shaped}
use Rattle.terms.specs.Limits.{max_slot, max_input}
use Rattle.terms.specs.Refusals.{Verdict, faultless, fault, gate, then, resolve}
use Rattle.terms.specs.Answers.{accepted, refused, slot_answer}
use Rattle.terms.specs.Input.{input_verdict}
use Rattle.terms.proofs.Checks.{gate_open, then_open}
use Rattle.terms.proofs.Sound.{sound_shut, sound_open}
use Rattle.rule.specs.Calls.{slot, grant_of, advanced, done, rule_verdict, ruled}
use Rattle.rule.specs.Log.{grant_byte, slots_state, slots_log, slots_verdict, run_verdict, Outcome, run}
use Rattle.rule.proofs.Logs.{slots_sound, state_adds, log_adds}
use Rattle.guarantees.specs.Counts.{slots_in, state_after}
use Rattle.guarantees.specs.RunSlots.{slots, answer_byte, RunIsSlots, RunFromStart, RunSplits}
use Rattle.guarantees.proofs.Grants.{slot_in, in_slot_answer, slot_in_lem}
use Rattle.guarantees.proofs.Sound.{end_ruled, answers_ruled}
use Rattle.guarantees.proofs.Start.{entered_sound, entered_ruled}

-- ---- slots of the rule

-- below the limit a slot is carried out
slot_ruled : (s : State) → s.slot.0 < max_slot → ruled s slot ≡ record { state = advanced s (grant_of s); answer = slot_answer s.slot.0 (grant_of s) }
unfolding ruled rule_verdict gate done
slot_ruled s h = rw (lt-ltb s.slot.0 max_slot h)

pub record Ruled (s : State) (k : ℕ) : Type 0 where
  pub state : end ruled s (slots k) ≡ slots_state k s
  pub log : map answer_byte (answers ruled s (slots k)) ≡ slots_log k s
  pub count : slots_in (answers ruled s (slots k)) ≡ k

one_more : (k : ℕ) → 1 + k ≡ suc k
one_more k = omega arith

pub slots_ruled : (k : ℕ) (s : State) → s.slot.0 + k ≤ max_slot → Ruled s k
unfolding end answers slots_state slots_log total advanced
slots_ruled zero s h = record { state = refl; log = refl; count = refl }
slots_ruled (suc k) s h =
    let rest = slots_ruled k (advanced s (grant_of s)) (omega arith) in
    let one = slot_ruled s (omega arith) in
    record {
      state = ap (λ u. end ruled u.state (slots k)) one ∙ rest.state;
      log =
          ap (λ u. answer_byte u.answer ∷ map answer_byte (answers ruled u.state (slots k))) one
          ∙ ap₂ (λ x l. x ∷ l) (in_slot_answer {X = ℕ} 255 grant_byte s.slot.0 (grant_of s)) rest.log;
      count =
          ap (λ u. slot_in u.answer + slots_in (answers ruled u.state (slots k))) one
          ∙ ap₂ (λ x y. x + y) (slot_in_lem s.slot.0 (grant_of s)) rest.count ∙ one_more k;
    }

-- ---- an accepted run

-- what its checks say
pub record Passed (limit : ℕ) (s : State) (old : List ℕ) : Type 0 where
  pub sound_is : sound limit s ≡ true
  pub short : length old ≤ max_input
  pub below : s.slot.0 + length old ≤ max_slot
  pub state : (run limit s old).state ≡ slots_state (length old) s
  pub log : (run limit s old).log ≡ slots_log (length old) s

pub passed : (limit : ℕ) (s : State) (old : List ℕ) → (run limit s old).answer ≡ accepted → Passed limit s old
unfolding run run_verdict input_verdict slots_verdict
passed limit s old e = told (run_verdict limit s (length old)) refl e where
  told : (v : Verdict) → run_verdict limit s (length old) ≡ v
      → (resolve {X = Outcome} v (record { state = slots_state (length old) s; answer = accepted; log = slots_log (length old) s }) (λ r. record { state = s; answer = refused r; log = old })).answer ≡ accepted
      → Passed limit s old
  told faultless f g =
      let a = gate_open _ _ _ f in
      let b = then_open _ _ a.1 in
      record { sound_is = a.0; short = leb-true _ _ (gate_open _ _ _ b.0).0; below = leb-true _ _ (gate_open _ _ _ b.1).0; state = rw f; log = rw f }
  told (fault r) f g = let z : ◌≡◌ {A = ℕ} 0 1 = cc in absurd (omega arith)

-- and the other way round
accept_run : (limit : ℕ) (s : State) (old : List ℕ) → sound limit s ≡ true → length old ≤ max_input → s.slot.0 + length old ≤ max_slot
    → run limit s old ≡ record { state = slots_state (length old) s; answer = accepted; log = slots_log (length old) s }
unfolding run run_verdict input_verdict slots_verdict gate then
accept_run limit s old ok short below = rw (ok, le-leb (length old) max_input short, le-leb (s.slot.0 + length old) max_slot below)

pub run_is_slots : RunIsSlots
run_is_slots limit s old shape e =
    let p = passed limit s old e in
    let v = sound_open limit s shape p.sound_is in
    let r = slots_ruled (length old) s p.below in
    let answered = answers_ruled limit s (slots (length old)) v in
    record {
      log = p.log ∙ sym (ap (map answer_byte) answered ∙ r.log);
      state = p.state ∙ sym (end_ruled limit s (slots (length old)) v ∙ r.state);
      all_accepted = ap slots_in answered ∙ r.count;
    }

pub run_from_start : RunFromStart
run_from_start limit t first a before old e =
    let same = entered_ruled limit t first a before in
    let v = entered_sound limit t first a before in
    let shape : Shaped limit (state_after limit t first before) = rw same (record { rows = v.rows; accounts = v.accounts }) in
    run_is_slots limit (state_after limit t first before) old shape e

-- ---- one run and then another

pub run_splits : RunSplits
run_splits limit s one two shape e =
    let p = passed limit s (one ++ two) e in
    let both : length (one ++ two) ≡ length one + length two = length-append one two in
    let v = sound_open limit s shape p.sound_is in
    let middle = slots_sound limit (length one) s v (omega (arith, p.below)) in
    let first = accept_run limit s one p.sound_is (omega (arith, p.short)) (omega (arith, p.below)) in
    let second = accept_run limit (slots_state (length one) s) two (sound_shut limit _ middle.0) (omega (arith, p.short)) (omega (arith, p.below, middle.1)) in
    record {
      first_accepted = rw first;
      second_accepted = rw (first, second);
      log = rw (first, second) (p.log ∙ ap (λ n. slots_log n s) both ∙ log_adds (length one) (length two) s);
      state = rw (first, second) (p.state ∙ ap (λ n. slots_state n s) both ∙ state_adds (length one) (length two) s);
    }
