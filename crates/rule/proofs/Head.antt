-- What the rule does at the first of several places: it is granted, or passed over and the search goes on. Assumes nothing.
use Rattle.std.proofs.Common.{◌≡◌, refl, true, false, List, [], ◌∷◌, ℕ, suc, ◌+◌, ◌≤◌, ◌<◌, arith, lt-ltb, ne_eqb, Option, Some, None}
use Rattle.lists.proofs.Tests.{cases}
use Rattle.terms.specs.declared.place.Requestor.{Requestor}
use Rattle.terms.specs.declared.place.Account.{Account}
use Rattle.terms.specs.State.{backlog}
use Rattle.rule.proofs.Accounts.{eligible_true, eligible_false}
use Rattle.rule.specs.Rule.{eligible, later, first_eligible, served, passed, after}
use Rattle.rule.specs.Grants.{to_place, to_first}
use Rattle.rule.proofs.Grants.{to_first_later, to_place_later_zero, to_place_later}

-- the accounts after a slot: the search, and what it makes of them
unfoldable pub slotted : ℕ → List Requestor → List Account → List Account
slotted d rs accounts = after d (first_eligible d rs accounts) rs accounts

module _ (d : ℕ) (r : Requestor) (rs : List Requestor) (a : Account) (accounts : List Account) where
  pub record Granted : Type 0 where
    pub waiting : 0 < backlog a
    pub enough : d ≤ a.credit + r.rate
    pub slotted_is : slotted d (r ∷ rs) (a ∷ accounts) ≡ served d r a ∷ after d None rs accounts
    pub to_first_is : (k : ℕ) → to_first (suc k) (first_eligible d (r ∷ rs) (a ∷ accounts)) ≡ 1
    pub to_head_is : to_place 0 (first_eligible d (r ∷ rs) (a ∷ accounts)) ≡ 1
    pub to_tail_is : (p : ℕ) → to_place (suc p) (first_eligible d (r ∷ rs) (a ∷ accounts)) ≡ 0

  pub record Passed : Type 0 where
    pub short : 0 < backlog a → a.credit + r.rate < d
    pub slotted_is : slotted d (r ∷ rs) (a ∷ accounts) ≡ passed r a ∷ slotted d rs accounts
    pub to_first_is : (k : ℕ) → to_first (suc k) (first_eligible d (r ∷ rs) (a ∷ accounts)) ≡ to_first k (first_eligible d rs accounts)
    pub to_head_is : to_place 0 (first_eligible d (r ∷ rs) (a ∷ accounts)) ≡ 0
    pub to_tail_is : (p : ℕ) → to_place (suc p) (first_eligible d (r ∷ rs) (a ∷ accounts)) ≡ to_place p (first_eligible d rs accounts)

  pub after_later : (g : Option ℕ) → after d (later g) (r ∷ rs) (a ∷ accounts) ≡ passed r a ∷ after d g rs accounts
  unfolding after later
  after_later None = refl
  after_later (Some p) = refl

  pub head_granted : eligible d r a ≡ true → Granted
  unfolding slotted first_eligible after to_first to_place
  head_granted e = record {
    waiting = (eligible_true r a d e).0;
    enough = (eligible_true r a d e).1;
    slotted_is = rw e;
    to_first_is = λ k. rw (e, lt-ltb 0 (suc k) (omega arith));
    to_head_is = rw e;
    to_tail_is = λ p. rw (e, ne_eqb 0 (suc p) (omega arith));
  }

  pub head_passed : eligible d r a ≡ false → Passed
  unfolding slotted first_eligible
  head_passed e = record {
    short = eligible_false r a d e;
    slotted_is = rw e (after_later (first_eligible d rs accounts));
    to_first_is = λ k. rw e (to_first_later k (first_eligible d rs accounts));
    to_head_is = rw e (to_place_later_zero (first_eligible d rs accounts));
    to_tail_is = λ p. rw e (to_place_later p (first_eligible d rs accounts));
  }

  pub by_head {ℓ} : {X : Type ℓ} → (Granted → X) → (Passed → X) → X
  by_head f g = cases (eligible d r a) (λ e. f (head_granted e)) (λ e. g (head_passed e))

-- with no requestor, or no account, nothing happens
pub slotted_no_place : (d : ℕ) (accounts : List Account) → slotted d [] accounts ≡ accounts
unfolding slotted first_eligible after
slotted_no_place d accounts = refl

pub first_no_place : (d : ℕ) (accounts : List Account) → first_eligible d [] accounts ≡ None
unfolding first_eligible
first_no_place d accounts = refl

pub first_no_account : (d : ℕ) (rs : List Requestor) → first_eligible d rs [] ≡ None
unfolding first_eligible
first_no_account d [] = refl
first_no_account d (r ∷ rs) = refl

pub after_no_account : (d : ℕ) (g : Option ℕ) (rs : List Requestor) → after d g rs [] ≡ []
unfolding after
after_no_account d g [] = refl
after_no_account d g (r ∷ rs) = refl

pub slotted_no_account : (d : ℕ) (rs : List Requestor) → slotted d rs [] ≡ []
unfolding slotted
slotted_no_account d rs = after_no_account d (first_eligible d rs []) rs
