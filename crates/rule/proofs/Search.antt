-- The place that a slot grants is one of the requestors', and eligible. Assumes nothing.
use Rattle.std.proofs.Common.{◌≡◌, refl, true, List, [], ◌∷◌, ℕ, suc, ◌<◌, arith, length, Option, Some, None}
use Rattle.lists.proofs.Tests.{cases}
use Rattle.terms.specs.declared.place.Requestor.{Requestor}
use Rattle.terms.specs.declared.place.Account.{Account}
use Rattle.terms.specs.State.{account_at}
use Rattle.terms.specs.Table.{requestor_at}
use Rattle.rule.specs.Rule.{eligible, first_eligible, later}

module _ (d : ℕ) where
  -- a place that is found is one of the requestors', and eligible
  abbrev Found : ℕ → List Requestor → List Account → Type 0
  Found p rs accounts = (p < length rs) × (eligible d (requestor_at p rs) (account_at p accounts) ≡ true)

  pub first_found : (p : ℕ) (rs : List Requestor) (accounts : List Account) → first_eligible d rs accounts ≡ Some p → Found p rs accounts
  unfolding first_eligible later
  first_found p [] accounts e = let z : ◌≡◌ {A = ℕ} 0 1 = cc in absurd (omega arith)
  first_found p (r ∷ rs) [] e = let z : ◌≡◌ {A = ℕ} 0 1 = cc in absurd (omega arith)
  first_found p (r ∷ rs) (a ∷ accounts) e = cases (eligible d r a)
      (λ q. here q (rw q at e))
      (λ q. further p (first_eligible d rs accounts) (λ i f. first_found i rs accounts f) refl (rw q at e))
    where
      here : eligible d r a ≡ true → Some 0 ≡ Some p → Found p (r ∷ rs) (a ∷ accounts)
      here q f = let z : 0 ≡ p = cc in rw (← z) (omega arith, q)

      further : (p : ℕ) (g : Option ℕ) → ((i : ℕ) → first_eligible d rs accounts ≡ Some i → Found i rs accounts)
          → first_eligible d rs accounts ≡ g → later g ≡ Some p → Found p (r ∷ rs) (a ∷ accounts)
      further p None rest f e = let z : ◌≡◌ {A = ℕ} 0 1 = cc in absurd (omega arith)
      further p (Some i) rest f e = let z : suc i ≡ p = cc in rw (← z) (omega (arith, (rest i f).0), (rest i f).1)
