-- What one slot does to a place that waits: one above it is granted, or it is, or it is short of credit. Assumes nothing.
use Rattle.std.proofs.Common.{ap, ◌≡◌, ◌∙◌, List, [], ◌∷◌, ℕ, zero, suc, ◌+◌, ◌<◌, not-suc-le-zero, arith, length, None}
use Rattle.terms.specs.declared.place.Requestor.{Requestor}
use Rattle.terms.specs.declared.place.Account.{Account}
use Rattle.terms.specs.State.{credit, backlog, account_at}
use Rattle.terms.specs.Table.{requestor_at}
use Rattle.rule.specs.Rule.{first_eligible, served, after}
use Rattle.rule.proofs.Accounts.{passed_waiting}
use Rattle.rule.proofs.Head.{slotted, Passed, by_head}
use Rattle.rule.specs.Grants.{to_place, to_first}
use Rattle.rule.proofs.Grants.{to_first_zero}

pub data Turn (d p : ℕ) (rs : List Requestor) (accounts : List Account) : Type 0 where
  above : to_first p (first_eligible d rs accounts) ≡ 1 → to_place p (first_eligible d rs accounts) ≡ 0
      → credit (account_at p (slotted d rs accounts)) ≡ credit (account_at p accounts) + (requestor_at p rs).rate → Turn d p rs accounts
  own : to_first p (first_eligible d rs accounts) ≡ 0 → to_place p (first_eligible d rs accounts) ≡ 1
      → credit (account_at p (slotted d rs accounts)) + d ≡ credit (account_at p accounts) + (requestor_at p rs).rate → Turn d p rs accounts
  short : to_first p (first_eligible d rs accounts) ≡ 0 → to_place p (first_eligible d rs accounts) ≡ 0
      → credit (account_at p accounts) + (requestor_at p rs).rate < d
      → credit (account_at p (slotted d rs accounts)) ≡ credit (account_at p accounts) + (requestor_at p rs).rate → Turn d p rs accounts

after_idle_credit : (d p : ℕ) (rs : List Requestor) (accounts : List Account) → p < length rs → 0 < backlog (account_at p accounts)
    → credit (account_at p (after d None rs accounts)) ≡ credit (account_at p accounts) + (requestor_at p rs).rate
unfolding after
after_idle_credit d p [] accounts h waits = absurd (not-suc-le-zero h)
after_idle_credit d p (r ∷ rs) [] h waits = absurd (not-suc-le-zero waits)
after_idle_credit d zero (r ∷ rs) (a ∷ accounts) h waits = ap credit (passed_waiting r a waits)
after_idle_credit d (suc p) (r ∷ rs) (a ∷ accounts) h waits = after_idle_credit d p rs accounts (omega arith) waits

pub turn : (d p : ℕ) (rs : List Requestor) (accounts : List Account) → p < length rs → 0 < backlog (account_at p accounts) → Turn d p rs accounts
unfolding served
turn d p [] accounts h waits = absurd (not-suc-le-zero h)
turn d p (r ∷ rs) [] h waits = absurd (not-suc-le-zero waits)
turn d zero (r ∷ rs) (a ∷ accounts) h waits = by_head d r rs a accounts
    (λ y. own (to_first_zero (first_eligible d (r ∷ rs) (a ∷ accounts))) y.to_head_is (rw y.slotted_is (omega (arith, y.enough))))
    (λ n. short (to_first_zero (first_eligible d (r ∷ rs) (a ∷ accounts))) n.to_head_is (n.short waits) (rw n.slotted_is (ap credit (passed_waiting r a waits))))
turn d (suc p) (r ∷ rs) (a ∷ accounts) h waits = by_head d r rs a accounts
    (λ y. above (y.to_first_is p) (y.to_tail_is p) (rw y.slotted_is (after_idle_credit d p rs accounts (omega arith) waits)))
    (λ n. further n (turn d p rs accounts (omega arith) waits))
  where
    further : Passed d r rs a accounts → Turn d p rs accounts → Turn d (suc p) (r ∷ rs) (a ∷ accounts)
    further n (above f g c) = above (n.to_first_is p ∙ f) (n.to_tail_is p ∙ g) (rw n.slotted_is c)
    further n (own f g c) = own (n.to_first_is p ∙ f) (n.to_tail_is p ∙ g) (rw n.slotted_is c)
    further n (short f g l c) = short (n.to_first_is p ∙ f) (n.to_tail_is p ∙ g) l (rw n.slotted_is c)
