-- A table given as numbers (clauses 2.6 and 15.1): D, N, then rate, burst, need and within of each place that there is room for. Those past
-- place N−1 are 0, or check 2 refuses the table.
use Rattle.std.specs.Prelude.{Bool, List, ◌∷◌, ℕ, ◌+◌, ◌*◌, eqb, length, get_or}
use Rattle.lists.specs.Sums.{joined}
use Rattle.lists.specs.Places.{places_from}
use Rattle.terms.specs.declared.place.Requestor.{Requestor}
use Rattle.terms.specs.Table.{Table, row_numbers}
use Rattle.layout.specs.Words.{row_from}

-- where the numbers of place p begin
abbrev pub row_start : (p : ℕ) → ℕ
row_start p = 2 + 4 * p

-- the numbers of a table with room for so many places (clause 15.1)
abbrev pub number_count : (room : ℕ) → ℕ
number_count room = row_start room

-- as many as there is room for (clause 15.3)
abbrev pub right_numbers : (room : ℕ) → List ℕ → Bool
right_numbers room numbers = eqb (length numbers) (number_count room)

-- from a table to its numbers, all rows of its array (clause 2.6)
unfoldable pub all_numbers : Table → List ℕ
all_numbers t = t.denominator ∷ t.count ∷ joined row_numbers t.requestors

-- from numbers to the row of place p, and to the table (clause 2.6)
abbrev pub numbers_row : List ℕ → (p : ℕ) → Requestor
numbers_row numbers p = row_from numbers (row_start p)

unfoldable pub numbers_table : (room : ℕ) → List ℕ → Table
numbers_table room numbers = record {
  denominator = get_or numbers 0 0;
  count = get_or numbers 1 0;
  requestors = places_from (numbers_row numbers) 0 room;
}
