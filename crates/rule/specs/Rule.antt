-- The rule of a slot (clauses 5.2 to 5.5), over the denominator D, the requestors of places 0 to N−1 and the accounts of the same
-- places. Accounts past the last requestor are left as they are.
use Rattle.std.specs.Prelude.{Bool, false, List, [], ◌∷◌, ℕ, zero, suc, ◌+◌, ◌-◌, min, ltb, leb, Option, Some, None}
use Rattle.lists.specs.Choices.{pick}
use Rattle.terms.specs.declared.place.Requestor.{Requestor}
use Rattle.terms.specs.declared.place.Account.{Account}
use Rattle.terms.specs.State.{backlog}

-- clause 5.2: eligible is who has something waiting, and with this slot's share the credit for one transfer
unfoldable pub eligible : ℕ → Requestor → Account → Bool
eligible d r a = pick (ltb 0 (backlog a)) (leb d (a.credit + r.rate)) false

-- one place further on
unfoldable pub later : Option ℕ → Option ℕ
later None = None
later (Some p) = Some (suc p)

-- the grant goes to the first eligible place, from 0 on (clause 5.2)
unfoldable pub first_eligible : ℕ → List Requestor → List Account → Option ℕ
first_eligible d [] accounts = None
first_eligible d (r ∷ rs) [] = None
first_eligible d (r ∷ rs) (a ∷ accounts) = pick (eligible d r a) (Some 0) (later (first_eligible d rs accounts))

-- clause 5.3: the granted place has one transfer fewer waiting, and pays D out of its credit and its share
unfoldable pub served : ℕ → Requestor → Account → Account
served d r a = record { credit = a.credit + r.rate - d; backlog = record { 0 = backlog a - 1 } }

-- clause 5.4: a place that waits and is not granted keeps its whole share, above its burst too
-- clause 5.5: one with nothing waiting saves no more than its burst
unfoldable pub passed : Requestor → Account → Account
passed r a = record {
  credit = pick (ltb 0 (backlog a)) (a.credit + r.rate) (min (a.credit + r.rate) r.burst);
  backlog = a.backlog;
}

-- every account after a slot that granted the place named (clauses 5.3 to 5.5)
unfoldable pub after : ℕ → Option ℕ → List Requestor → List Account → List Account
after d g [] accounts = accounts
after d g (r ∷ rs) [] = []
after d None (r ∷ rs) (a ∷ accounts) = passed r a ∷ after d None rs accounts
after d (Some zero) (r ∷ rs) (a ∷ accounts) = served d r a ∷ after d None rs accounts
after d (Some (suc p)) (r ∷ rs) (a ∷ accounts) = passed r a ∷ after d (Some p) rs accounts
