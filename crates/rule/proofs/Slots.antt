-- What one slot leaves of the accounts: their number, all past the last requestor, and each backlog less the grant.
-- Assumes nothing.
use Rattle.std.proofs.Common.{◌≡◌, refl, ap, List, [], ◌∷◌, ℕ, zero, suc, ◌+◌, arith, length, drop, Option, Some, None}
use Rattle.terms.specs.declared.place.Requestor.{Requestor}
use Rattle.terms.specs.declared.place.Account.{Account}
use Rattle.terms.specs.State.{backlog, account_at}
use Rattle.rule.specs.Rule.{first_eligible, served, passed, after}
use Rattle.rule.proofs.Head.{slotted, by_head, slotted_no_place, slotted_no_account, first_no_place, first_no_account}
use Rattle.rule.specs.Grants.{to_place}

pub after_length : (d : ℕ) (g : Option ℕ) (rs : List Requestor) (accounts : List Account) → length (after d g rs accounts) ≡ length accounts
unfolding after
after_length d g [] accounts = refl
after_length d g (r ∷ rs) [] = refl
after_length d None (r ∷ rs) (a ∷ accounts) = ap suc (after_length d None rs accounts)
after_length d (Some zero) (r ∷ rs) (a ∷ accounts) = ap suc (after_length d None rs accounts)
after_length d (Some (suc p)) (r ∷ rs) (a ∷ accounts) = ap suc (after_length d (Some p) rs accounts)

pub after_past : (d : ℕ) (g : Option ℕ) (rs : List Requestor) (accounts : List Account) → drop (length rs) (after d g rs accounts) ≡ drop (length rs) accounts
unfolding after
after_past d g [] accounts = refl
after_past d g (r ∷ rs) [] = refl
after_past d None (r ∷ rs) (a ∷ accounts) = after_past d None rs accounts
after_past d (Some zero) (r ∷ rs) (a ∷ accounts) = after_past d None rs accounts
after_past d (Some (suc p)) (r ∷ rs) (a ∷ accounts) = after_past d (Some p) rs accounts

after_idle_backlog : (d p : ℕ) (rs : List Requestor) (accounts : List Account) → backlog (account_at p (after d None rs accounts)) ≡ backlog (account_at p accounts)
unfolding after passed
after_idle_backlog d p [] accounts = refl
after_idle_backlog d p (r ∷ rs) [] = refl
after_idle_backlog d zero (r ∷ rs) (a ∷ accounts) = refl
after_idle_backlog d (suc p) (r ∷ rs) (a ∷ accounts) = after_idle_backlog d p rs accounts

-- a slot takes from a backlog what it grants
pub slotted_backlog : (d p : ℕ) (rs : List Requestor) (accounts : List Account)
    → to_place p (first_eligible d rs accounts) + backlog (account_at p (slotted d rs accounts)) ≡ backlog (account_at p accounts)
unfolding to_place served passed
slotted_backlog d p [] accounts = rw (first_no_place d accounts, slotted_no_place d accounts) (omega arith)
slotted_backlog d p (r ∷ rs) [] = rw (first_no_account d (r ∷ rs), slotted_no_account d (r ∷ rs))
slotted_backlog d zero (r ∷ rs) (a ∷ accounts) = by_head d r rs a accounts
    (λ y. rw (y.slotted_is, y.to_head_is) (omega (arith, y.waiting)))
    (λ n. rw (n.slotted_is, n.to_head_is) (omega arith))
slotted_backlog d (suc p) (r ∷ rs) (a ∷ accounts) = by_head d r rs a accounts
    (λ y. rw (y.slotted_is, y.to_tail_is p) (omega (arith, after_idle_backlog d p rs accounts)))
    (λ n. rw (n.slotted_is, n.to_tail_is p) (slotted_backlog d p rs accounts))
