-- One call of the rule by its three kinds, refused, posted and slot: the eliminator of every fact about a run, and what each kind
-- says. Assumes nothing.
use Rattle.std.proofs.Common.{◌≡◌, refl, sym, ℕ, ◌+◌, ◌≤◌, ◌<◌, arith, ltb-true, leb-true, eqb-true, eqb, length, take, get_or-set_same, get_or-set_other, Option, Some, None}
use borrow.Author.Tests.{eqb-false}
use Rattle.lists.specs.Choices.{pick}
use Rattle.lists.proofs.Tests.{cases}
use Rattle.lists.specs.Sums.{total}
use Rattle.lists.proofs.Sums.{total_take_set, at_set}
use Rattle.terms.specs.declared.refusals.Refusal.{Refusal}
use Rattle.terms.specs.State.{State, credit, backlog, no_account, account_at}
use Rattle.terms.specs.Limits.{max_backlog, max_slot}
use Rattle.terms.specs.Refusals.{Verdict, faultless, fault, refusal}
use Rattle.terms.specs.Answers.{Answer, accepted, refused, slot_answer}
use Rattle.terms.proofs.Checks.{faultless_fault, gate_open, gate_not}
use Rattle.rule.specs.Calls.{Call, post, slot, grant_of, advanced, with_count, with_post, done, rule_verdict, outcome, ruled}
use Rattle.rule.proofs.Verdicts.{outcome_table}

-- P of a call, the state that it hands back and its answer
module _ (P : Call → State → Answer → Type 0) (s : State) where
  by_verdict : (c : Call) (v : Verdict) → rule_verdict s c ≡ v
      → ((r : Refusal) → rule_verdict s c ≡ fault r → P c s (refused r))
      → ((p count : ℕ) → rule_verdict s (post p count) ≡ faultless → P (post p count) (with_post s p count) accepted)
      → (rule_verdict s slot ≡ faultless → P slot (advanced s (grant_of s)) (slot_answer s.slot.0 (grant_of s)))
      → P c (outcome v s c).state (outcome v s c).answer
  unfolding done
  by_verdict c (fault r) e on-refusal on_post on-slot = on-refusal r e
  by_verdict (post p count) faultless e on-refusal on_post on-slot = on_post p count e
  by_verdict slot faultless e on-refusal on_post on-slot = on-slot e

  pub by_kind : (c : Call)
      → ((r : Refusal) → rule_verdict s c ≡ fault r → P c s (refused r))
      → ((p count : ℕ) → rule_verdict s (post p count) ≡ faultless → P (post p count) (with_post s p count) accepted)
      → (rule_verdict s slot ≡ faultless → P slot (advanced s (grant_of s)) (slot_answer s.slot.0 (grant_of s)))
      → P c (ruled s c).state (ruled s c).answer
  unfolding ruled
  by_kind c = by_verdict c (rule_verdict s c) refl

module _ (s : State) where
  -- no call changes the table
  pub table_stands : (c : Call) → (ruled s c).state.table ≡ s.table
  unfolding ruled
  table_stands c = outcome_table (rule_verdict s c) s c

  -- an accepted post
  pub post_place : (p count : ℕ) → rule_verdict s (post p count) ≡ faultless → p < s.table.count
  unfolding rule_verdict
  post_place p count e = ltb-true _ _ (gate_open _ _ _ e).0

  pub post_fits : (p count : ℕ) → rule_verdict s (post p count) ≡ faultless → backlog (account_at p s.accounts) + count ≤ max_backlog
  unfolding rule_verdict
  post_fits p count e = leb-true _ _ (gate_open _ _ _ (gate_open _ _ _ e).1).0

  -- it leaves every credit
  pub posted_credits : (k p count : ℕ) → total credit (take k (with_post s p count).accounts) ≡ total credit (take k s.accounts)
  unfolding with_post with_count
  posted_credits k p count = total_take_set credit no_account k p (with_count count (account_at p s.accounts)) s.accounts refl

  pub posted_credit : (q p count : ℕ) → credit (account_at q (with_post s p count).accounts) ≡ credit (account_at q s.accounts)
  unfolding with_post with_count
  posted_credit q p count = at_set credit no_account q p (with_count count (account_at p s.accounts)) s.accounts refl

  -- and adds its count to the one backlog
  pub posted_backlog : (q p count : ℕ) → p < length s.accounts
      → backlog (account_at q (with_post s p count).accounts) ≡ pick (eqb p q) count 0 + backlog (account_at q s.accounts)
  unfolding with_post with_count
  posted_backlog q p count held = cases (eqb p q)
      (λ same. rw (same, ← eqb-true p q same, get_or-set_same s.accounts p (with_count count (account_at p s.accounts)) no_account held) (omega arith))
      (λ apart. rw (apart, get_or-set_other s.accounts p q (with_count count (account_at p s.accounts)) no_account (λ e. eqb-false p q apart (sym e))) (omega arith))

  -- an accepted slot
  pub slot_below : rule_verdict s slot ≡ faultless → s.slot.0 < max_slot
  unfolding rule_verdict
  slot_below e = ltb-true _ _ (gate_open _ _ _ e).0

-- the rule itself turns down by 11, 21 and 22 alone
rule_never_23 : (s : State) (c : Call) → rule_verdict s c ≡ fault (refusal 23) → ⊥
unfolding rule_verdict
rule_never_23 s (post p count) = gate_not _ _ _ _ (omega arith) (gate_not _ _ _ _ (omega arith) (faultless_fault _))
rule_never_23 s slot = gate_not _ _ _ _ (omega arith) (faultless_fault _)

slot_answer_not : (stamp : ℕ) (g : Option ℕ) (r : Refusal) → slot_answer stamp g ≡ refused r → ⊥
slot_answer_not stamp None r e = let z : ◌≡◌ {A = ℕ} 0 1 = cc in omega arith
slot_answer_not stamp (Some p) r e = let z : ◌≡◌ {A = ℕ} 0 1 = cc in omega arith

pub ruled_never_23 : (s : State) (c : Call) → (ruled s c).answer ≡ refused (refusal 23) → ⊥
ruled_never_23 s c = by_kind (λ c u a. a ≡ refused (refusal 23) → ⊥) s c
    (λ r e x. rule_never_23 s c (cc))
    (λ p count e x. let z : ◌≡◌ {A = ℕ} 0 1 = cc in omega arith)
    (λ e. slot_answer_not s.slot.0 (grant_of s) (refusal 23))
