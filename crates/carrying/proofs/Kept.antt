-- What an old unit had of a state is that state, and has as many places. Assumes nothing.
use Rattle.std.proofs.Common.{◌≡◌, refl, ap, sym, ◌∙◌, List, [], ◌∷◌, map, ℕ, arith, length}
use Rattle.lists.specs.Pairs.{paired}
use Rattle.lists.proofs.Pairs.{length_paired}
use Rattle.terms.specs.declared.place.Requestor.{Requestor}
use Rattle.terms.specs.declared.place.Account.{Account}
use Rattle.terms.specs.State.{State, Shaped}
use Rattle.carrying.specs.Carry.{old_row, old_account, as_state, kept_place, kept}

parts : (rs : List Requestor) (accounts : List Account) → length rs ≡ length accounts
    → (map old_row (paired kept_place rs accounts) ≡ rs) × (map old_account (paired kept_place rs accounts) ≡ accounts)
unfolding paired
parts [] [] h = (refl, refl)
parts [] (a ∷ accounts) h = absurd (omega arith)
parts (r ∷ rs) [] h = absurd (omega arith)
parts (r ∷ rs) (a ∷ accounts) h = let more = parts rs accounts (omega arith) in (ap (λ l. r ∷ l) more.0, ap (λ l. a ∷ l) more.1)

module _ (limit : ℕ) (s : State) (v : Shaped limit s) where
  same : length s.table.requestors ≡ length s.accounts
  same = v.rows ∙ sym v.accounts

  pub as_state_kept : as_state (kept s) ≡ s
  as_state_kept = let both = parts s.table.requestors s.accounts same in rw (both.0, both.1)

  pub kept_many : length (kept s).places ≡ limit
  kept_many = length_paired kept_place s.table.requestors s.accounts same ∙ v.rows
