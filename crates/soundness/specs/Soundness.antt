-- What one walk over the first n places tests of their rows and accounts: checks 3, 4 and 5, the backlogs, the credit sums, and the rate sum
-- at its end. No call's promise names it: with D, N, the slot number and what lies past place N−1 it is test 23 (clause 11.1).
use Rattle.std.specs.Prelude.{Bool, ◌&&◌, List, ℕ, leb, take}
use Rattle.lists.specs.Sums.{total}
use Rattle.terms.specs.declared.place.Requestor.{Requestor}
use Rattle.terms.specs.declared.place.Account.{Account}
use Rattle.terms.specs.Table.{rate, state_row_verdict, each_place}
use Rattle.terms.specs.State.{is_faultless, accounts_hold}

unfoldable pub places_hold : (d n : ℕ) → List Requestor → List Account → Bool
places_hold d n rs accounts =
    is_faultless (each_place (state_row_verdict d) 0 (take n rs))
    && (accounts_hold n rs accounts
    && leb (total rate (take n rs)) d)
