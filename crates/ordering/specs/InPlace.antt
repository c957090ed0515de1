-- A table put in order where it stands in a state's words (clause 8.1), and what the search knows of them on its way.
use Rattle.std.specs.Prelude.{◌≡◌, List, ◌∷◌, ◌++◌, ℕ, suc, ◌≤◌, take, drop}
use Rattle.lists.specs.Orders.{without}
use Rattle.lists.specs.Runs.{Result}
use Rattle.terms.specs.declared.place.Requestor.{Requestor}
use Rattle.terms.specs.Table.{requestor_at}
use Rattle.terms.specs.Figures.{bursts_above, rates_above}
use Rattle.terms.specs.Answers.{Answer, accepted, unless}
use Rattle.terms.specs.TableResult.{TableResult}
use Rattle.terms.specs.State.{State}
use Rattle.terms.specs.Start.{turned_down}
use Rattle.layout.specs.Words.{with_table}
use Rattle.admission.specs.Checked.{table_in, rows_in, OfferChecked}

-- a state whose table was put in order: the slot number and the accounts stay; a refusal leaves a state that is all 0 (clause 1.6)
abbrev pub in_state : ℕ → State → TableResult → Result State Answer
in_state limit s o = unless o.answer (turned_down limit) (record { state = with_table s o.table; answer = accepted })

-- and of such a result the table alone
abbrev pub table_only : Result State Answer → TableResult
table_only r = record { table = r.state.table; answer = r.answer }

-- the first k rows remain, and the sums are theirs
pub record Remaining (most : ℕ) (words : List ℕ) (k bursts rates : ℕ) : Type 0 where
  pub checked : OfferChecked most words
  pub few : k ≤ (table_in words).count
  pub bursts_are : bursts ≡ bursts_above k (rows_in words)
  pub rates_are : rates ≡ rates_above k (rows_in words)

-- row i becomes row p, which has a lower priority, and each between them moves up by one
abbrev pub rows_lowered : (i p : ℕ) → List Requestor → List Requestor
rows_lowered i p rows = without i (take (suc p) rows) ++ requestor_at i rows ∷ drop (suc p) rows

abbrev pub lowered : (i p : ℕ) → State → State
lowered i p s = with_table s (record {
  denominator = s.table.denominator;
  count = s.table.count;
  requestors = rows_lowered i p s.table.requestors;
})
