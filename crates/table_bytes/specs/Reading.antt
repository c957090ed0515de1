-- Clauses 3.2, 3.3 and 13.2: a table's bytes as they are read. Each number is read from what the one before it left, 8 or 9 if there is
-- none, and held to its limits, 1 to 5, before the next; a place whose numbers have been read is checked for 17 before the next place; then
-- come 10, 6 and 7. A refused reading hands back a table whose every field is 0 (clause 1.6).
use Rattle.std.specs.Prelude.{List, [], ◌∷◌, ℕ, zero, suc, eqb, length, drop, Result, Ok, Err}
use Rattle.std.specs.Borrow.{Bor}
use Rattle.groups.specs.Groups as number
use Rattle.groups.specs.Groups.{Number, Ended, Malformed, number_of}
use Rattle.terms.specs.declared.refusals.Cause.{Cause}
use Rattle.terms.specs.declared.refusals.Refusal.{Refusal}
use Rattle.terms.specs.declared.place.Requestor.{Requestor}
use Rattle.terms.specs.Table.{Table, table_of, Bounds, denominator_bounds, count_bounds, rate_bounds, burst_bounds, need_bounds, within_bounds, held_to, need_fits_verdict, rate_sum_verdict}
use Rattle.terms.specs.Refusals.{Verdict, faultless, refusal, refusal_of, gate, then, resolve}
use Rattle.terms.specs.Figures.{finishes_verdict}
use Rattle.terms.specs.TableResult.{TableResult, accept, refuse}

-- what a reading from the start of some bytes comes to: a value and the rest of the bytes, or a refusal
pub data Read (X : Type 0) : Type 0 where
  read : X → (rest : List ℕ) → Read X
  stop : Refusal → Read X

-- what comes next is read from the rest (clause 3.3)
unfoldable pub next : {X Y : Type 0} → Read X → (X → List ℕ → Read Y) → Read Y
next (read x rest) more = more x rest
next (stop r) more = stop r

-- a number is read (clauses 3.2, 12.8 and 12.9)
abbrev pub read_as : List ℕ → number.Reading → Read ℕ
read_as bytes (Number x taken) = read x (drop taken bytes)
read_as bytes Ended = stop (refusal 8)
read_as bytes Malformed = stop (refusal 9)

abbrev pub number_read : List ℕ → Read ℕ
number_read bytes = read_as bytes (number_of bytes)

-- what was read, by what its check found
abbrev pub checked_read : {X : Type 0} → Verdict → X → (rest : List ℕ) → Read X
checked_read v x rest = resolve v (read x rest) stop

-- a number is read and checked (clause 3.3)
unfoldable pub field_read : Bounds → List ℕ → Read ℕ
field_read b bytes = next (number_read bytes) λ x rest. checked_read (held_to b x) x rest

-- n, b, j and L of place p (clause 13.2)
unfoldable pub row_fields_read : ℕ → ℕ → List ℕ → Read Requestor
row_fields_read d p bytes =
    next (field_read (rate_bounds d p) bytes) λ n rest.
    next (field_read (burst_bounds d p) rest) λ b rest.
    next (field_read (need_bounds p) rest) λ j rest.
    next (field_read (within_bounds p) rest) λ l rest.
    read (record { rate = n; burst = b; need = record { 0 = j }; within = record { 0 = l } }) rest

-- the row that they are, once it passed 17 (clauses 3.3 and 13.2)
unfoldable pub row_read : ℕ → ℕ → List ℕ → Read Requestor
row_read d p bytes = next (row_fields_read d p bytes) λ r rest. checked_read (need_fits_verdict d p r) r rest

-- so many items one after the other, from place p on, each read from the bytes that the one before it left
unfoldable pub items_read : {X : Type 0} → (item : (place : ℕ) → List ℕ → Read X) → (items p : ℕ) → List ℕ → Read (List X)
items_read item zero p bytes = read [] bytes
items_read item (suc items) p bytes =
    next (item p bytes) λ x rest.
    next (items_read item items (suc p) rest) λ xs rest.
    read (x ∷ xs) rest

-- the rows of so many places
abbrev pub rows_read : (places d p : ℕ) → List ℕ → Read (List Requestor)
rows_read places d p bytes = items_read (row_read d) places p bytes

-- the places of a table, whose D and N have been read, by how each row is read; `limit` is how many places there is room for
unfoldable pub places_by : (row : (d p : ℕ) → List ℕ → Read Requestor) → (limit d n : ℕ) → List ℕ → Read Table
places_by row limit d n bytes = next (items_read (row d) n 0 bytes) λ rows rest. read (table_of limit d n rows) rest

abbrev pub places_read : (limit d n : ℕ) → List ℕ → Read Table
places_read limit d n bytes = places_by row_read limit d n bytes

-- D, N and the places (clause 3.3)
unfoldable pub numbers_by : (row : (d p : ℕ) → List ℕ → Read Requestor) → ℕ → List ℕ → Read Table
numbers_by row limit bytes =
    next (field_read denominator_bounds bytes) λ d rest.
    next (field_read (count_bounds limit) rest) λ n rest.
    places_by row limit d n rest

abbrev pub numbers_read : ℕ → List ℕ → Read Table
numbers_read limit bytes = numbers_by row_read limit bytes

-- clause 12.10, by what is left behind them
abbrev pub left_verdict : (rest : List ℕ) → Verdict
left_verdict rest = gate (refusal 10) (eqb (length rest) 0) faultless

-- then 10, 6, 7 (clause 13.2)
unfoldable pub last_verdict : Table → (rest : List ℕ) → Verdict
last_verdict t rest = then (left_verdict rest) (then (rate_sum_verdict t) (finishes_verdict t))

unfoldable pub settled : ℕ → Read Table → TableResult
settled limit (read t rest) = resolve (last_verdict t rest) (accept t) (refuse limit)
settled limit (stop r) = refuse limit r

-- a table from its bytes: one table or one refusal (clause 3.6)
unfoldable pub read_table : ℕ → List ℕ → TableResult
read_table limit bytes = settled limit (numbers_read limit bytes)

-- the code's answers in these values: what was read, and the rest of the bytes as it stands in them
abbrev pub read_of : {X : Type 0} → Result (X × Bor (List ℕ)) Cause → Read X
read_of (Ok r) = read r.0 r.1.now
read_of (Err c) = stop (refusal_of c)
