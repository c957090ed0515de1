-- Posts and slots on a state: what each does and answers (clauses 5.1 to 5.6), what turns it down, and 23 in front. `ruled` is the rule's
-- own step, which passes over what 11, 21 and 22 turn down; `called` is what the contracts of post and slot say.
use Rattle.std.specs.Prelude.{ℕ, ◌+◌, ltb, leb, set, Option}
use Rattle.lists.specs.Runs.{Result}
use Rattle.terms.specs.declared.place.Account.{Account}
use Rattle.terms.specs.State.{State, backlog, account_at, sound, at_place}
use Rattle.terms.specs.Limits.{max_backlog, max_slot}
use Rattle.terms.specs.Refusals.{Verdict, faultless, refusal, gate, resolve}
use Rattle.terms.specs.Answers.{Answer, accepted, refused, slot_answer}
use Rattle.terms.specs.Table.{requestors_of}
use Rattle.rule.specs.Rule.{first_eligible, after}

pub data Call : Type 0 where
  post : (place count : ℕ) → Call
  slot : Call

-- whom a slot grants (clause 5.2)
unfoldable pub grant_of : State → Option ℕ
grant_of s = first_eligible s.table.denominator (requestors_of s.table) s.accounts

-- the state after a slot that granted g: every account, and the slot number of clause 5.6
unfoldable pub advanced : State → Option ℕ → State
advanced s g = record {
  table = s.table;
  slot = record { 0 = s.slot.0 + 1 };
  accounts = after s.table.denominator g (requestors_of s.table) s.accounts;
}

-- clause 5.1: a post raises the backlog of one place by its count, which may be 0
unfoldable pub with_count : ℕ → Account → Account
with_count count a = record { credit = a.credit; backlog = record { 0 = backlog a + count } }

unfoldable pub with_post : State → ℕ → ℕ → State
with_post s p count = record {
  table = s.table;
  slot = s.slot;
  accounts = set s.accounts p (with_count count (account_at p s.accounts));
}

-- what an accepted call does and answers; a slot is stamped with the number that it had (clause 5.6)
unfoldable pub done : State → Call → Result State Answer
done s (post p count) = record { state = with_post s p count; answer = accepted }
done s slot = record { state = advanced s (grant_of s); answer = slot_answer s.slot.0 (grant_of s) }

-- What turns a call down. Post: clauses 12.11 and 12.21. Slot: clause 12.22. 23 is not among them: from an accepted start it never turns
-- a call down (guarantees, CreditSums), so the rule needs no look at it.
unfoldable pub rule_verdict : State → Call → Verdict
rule_verdict s (post p count) =
    at_place s p (gate (refusal 21) (leb (backlog (account_at p s.accounts) + count) max_backlog) faultless)
rule_verdict s slot = gate (refusal 22) (ltb s.slot.0 max_slot) faultless

-- clause 1.5: accepted, it is carried out whole; refused, the state is the one handed in
abbrev pub outcome : Verdict → State → Call → Result State Answer
outcome v s c = resolve v (done s c) (λ r. record { state = s; answer = refused r })

-- the rule's own step (clause 10.2)
unfoldable pub ruled : State → Call → Result State Answer
ruled s c = outcome (rule_verdict s c) s c

-- a call (clause 1.4) with its checks in order (clauses 13.7 and 13.8), 23 first; `limit` is how many places there is room for
unfoldable pub called : ℕ → State → Call → Result State Answer
called limit s c = outcome (gate (refusal 23) (sound limit s) (rule_verdict s c)) s c
