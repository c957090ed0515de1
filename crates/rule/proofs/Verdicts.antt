-- What a call comes to by the outcome of its checks. Assumes nothing.
use Rattle.std.proofs.Common.{◌≡◌, refl, true, false, ℕ, ◌+◌, ◌≤◌, ◌<◌, lt-ltb, le-ltb, le-leb}
use borrow.Author.Tests.{lt-leb}
use Rattle.lists.specs.Runs.{Result}
use Rattle.terms.specs.declared.refusals.Refusal.{Refusal}
use Rattle.terms.specs.State.{State, backlog, account_at, sound}
use Rattle.terms.specs.Limits.{max_backlog, max_slot}
use Rattle.terms.specs.Refusals.{Verdict, faultless, fault, refusal, gate}
use Rattle.terms.specs.Answers.{Answer, refused}
use Rattle.rule.specs.Calls.{Call, post, slot, with_post, advanced, done, rule_verdict, outcome, called}

-- the state handed in, and why
abbrev pub turned_down : State → Refusal → Result State Answer
turned_down s r = record { state = s; answer = refused r }

-- no call changes the table
pub outcome_table : (v : Verdict) (s : State) (c : Call) → (outcome v s c).state.table ≡ s.table
unfolding done with_post advanced
outcome_table faultless s (post p count) = refl
outcome_table faultless s slot = refl
outcome_table (fault r) s c = refl

module _ (limit : ℕ) (s : State) (c : Call) where
  pub called_unsound : sound limit s ≡ false → called limit s c ≡ turned_down s (refusal 23)
  unfolding called gate
  called_unsound e = rw e

  pub called_refused : sound limit s ≡ true → (r : Refusal) → rule_verdict s c ≡ fault r → called limit s c ≡ turned_down s r
  unfolding called gate
  called_refused e r v = rw (e, v)

  pub called_done : sound limit s ≡ true → rule_verdict s c ≡ faultless → called limit s c ≡ done s c
  unfolding called gate
  called_done e v = rw (e, v)

module _ (s : State) (p count : ℕ) where
  pub post_over : p < s.table.count → max_backlog < backlog (account_at p s.accounts) + count → rule_verdict s (post p count) ≡ fault (refusal 21)
  unfolding rule_verdict gate
  post_over h over = rw (lt-ltb _ _ h, lt-leb _ _ over)

  pub post_within : p < s.table.count → backlog (account_at p s.accounts) + count ≤ max_backlog → rule_verdict s (post p count) ≡ faultless
  unfolding rule_verdict gate
  post_within h within = rw (lt-ltb _ _ h, le-leb _ _ within)

module _ (s : State) where
  pub slot_at_limit : max_slot ≤ s.slot.0 → rule_verdict s slot ≡ fault (refusal 22)
  unfolding rule_verdict gate
  slot_at_limit h = rw (le-ltb _ _ h)

  pub slot_below_limit : s.slot.0 < max_slot → rule_verdict s slot ≡ faultless
  unfolding rule_verdict gate
  slot_below_limit h = rw (lt-ltb _ _ h)
