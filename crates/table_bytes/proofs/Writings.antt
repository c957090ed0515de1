-- A table's numbers in a list, and each way out of a writing of their bytes. Assumes nothing.
use Rattle.std.proofs.Common.{◌≡◌, refl, ap, List, ◌∷◌, ℕ, suc, ◌+◌, ◌-◌, ◌*◌, ◌≤◌, ◌<◌, arith, le-leb, length, set, take, drop, length-append, length-take, take_at, get_or-take, length-take-le}
use borrow.Author.Tests.{lt-leb}
use Rattle.lists.specs.Sums.{joined}
use Rattle.lists.specs.Overwriting.{written_over}
use Rattle.lists.proofs.Sums.{joined_next, length_joined_same}
use Rattle.lists.proofs.Overwriting.{stored_behind}
use Rattle.terms.specs.declared.refusals.Refusal.{Refusal}
use Rattle.terms.specs.declared.place.Requestor.{Requestor}
use Rattle.terms.specs.Table.{Table, row_numbers, no_requestor, requestor_at, requestors_of, table_verdict}
use Rattle.terms.specs.Refusals.{faultless, fault, refusal, gate, then}
use Rattle.terms.specs.Figures.{admission_verdict}
use Rattle.terms.proofs.Checks.{Row, fair}
use Rattle.groups.specs.Groups.{number_bytes}
use Rattle.table_bytes.specs.Writing.{table_numbers, table_bytes, write_verdict, wrote, refused, TableWritten, write_table}

-- ---- the numbers of a table

-- D, N, and the numbers of the first p rows
abbrev pub numbers_to : Table → ℕ → List ℕ
numbers_to t p = t.denominator ∷ t.count ∷ joined row_numbers (take p t.requestors)

-- how many they are
length_to : (t : Table) (p : ℕ) → p ≤ length t.requestors → length (numbers_to t p) ≡ 2 + 4 * p
length_to t p h = omega (arith, length_joined_same row_numbers 4 (λ r. refl) (take p t.requestors), length-take-le p t.requestors h)

module _ (t : Table) (old numbers : List ℕ) (p : ℕ) (e : numbers ≡ written_over (numbers_to t p) old) where
  -- one row more, stored behind them
  pub row_stored : (r : Requestor) → p < length t.requestors → 2 + 4 * length t.requestors ≤ length old → r ≡ requestor_at p t.requestors
      → set (set (set (set numbers (2 + 4 * p) r.rate) (2 + 4 * p + 1) r.burst) (2 + 4 * p + 2) r.need.0) (2 + 4 * p + 3) r.within.0
      ≡ written_over (numbers_to t (p + 1)) old
  row_stored r h room here =
      let rs = t.requestors in
      let one : 2 + 4 * p + 1 ≡ suc (2 + 4 * p) = omega arith in
      let two : 2 + 4 * p + 2 ≡ suc (suc (2 + 4 * p)) = omega arith in
      let three : 2 + 4 * p + 3 ≡ suc (suc (suc (2 + 4 * p))) = omega arith in
      rw (one, two, three, e, here, joined_next row_numbers no_requestor rs p h)
      (stored_behind (numbers_to t p) old (row_numbers (requestor_at p rs)) (2 + 4 * p) (length_to t p (omega arith)) (omega arith))

  -- behind the last row, they are the table's
  pub rows_stored : p ≤ t.count → t.count ≤ p → numbers ≡ written_over (table_numbers t) old
  unfolding table_numbers
  rows_stored most least = let all : p ≡ t.count = omega arith in rw all at e

-- the row of place p is within the limits that the checks let pass
pub row_fits : (limit : ℕ) (t : Table) (p : ℕ) → length t.requestors ≡ limit → table_verdict limit t ≡ faultless → p < t.count → Row t.denominator (requestor_at p t.requestors)
row_fits limit t p long ok h =
    let f = fair limit t ok in
    let inside : p < length (requestors_of t) = simp length-take (omega (arith, f.count_most)) in
    rw (get_or-take t.count t.requestors p no_requestor h) at (f.row p inside)

-- ---- the whole writing

-- what is lent of the list: the first 2 + 4 × N numbers are there, and they are the table's
pub record Lent (limit : ℕ) (t : Table) (numbers : List ℕ) : Type 0 where
  pub few : t.count ≤ limit
  pub inside : 2 + 4 * t.count ≤ length numbers
  pub same : take (2 + 4 * t.count - 0) numbers ≡ table_numbers t

-- a table that passes its checks, stored in front of an old list
pub lent : (limit : ℕ) (t : Table) (numbers old : List ℕ) → length t.requestors ≡ limit → table_verdict limit t ≡ faultless → numbers ≡ written_over (table_numbers t) old → Lent limit t numbers
unfolding table_numbers written_over
lent limit t numbers old long ok e =
    let most = (fair limit t ok).count_most in
    let front = numbers_to t t.count in
    let all : length front ≡ 2 + 4 * t.count = length_to t t.count (omega arith) in
    record {
      few = most;
      inside = rw e (simp length-append (omega arith));
      same = rw e (take_at front (drop (length front) old) (2 + 4 * t.count - 0) (omega arith));
    }

module _ (limit : ℕ) (t : Table) (old : List ℕ) where
  -- refused by the checks of a table given as numbers
  pub write_refused : (why : Refusal) → admission_verdict limit t ≡ fault why → ◌≡◌ {A = TableWritten} (record { answer = refused why; buffer = old }) (write_table limit t old)
  unfolding write_table write_verdict then
  write_refused why e = rw e

  module _ (ok : admission_verdict limit t ≡ faultless) (numbers : List ℕ) (size : ℕ) (n : numbers ≡ table_numbers t) (s : size ≡ length (joined number_bytes numbers)) where
    -- the bytes are the table's
    bytes_are : joined number_bytes numbers ≡ table_bytes t
    unfolding table_bytes
    bytes_are = ap (joined number_bytes) n

    -- refused because the bytes do not fit
    pub write_short : length old < size → ◌≡◌ {A = TableWritten} (record { answer = refused (refusal 14); buffer = old }) (write_table limit t old)
    unfolding write_table write_verdict then gate
    write_short h = rw (ok, lt-leb (length (table_bytes t)) (length old) (omega (arith, ap length bytes_are)))

    -- written
    pub write_whole : (buffer : List ℕ) → size ≤ length old → buffer ≡ written_over (joined number_bytes numbers) old
        → ◌≡◌ {A = TableWritten} (record { answer = wrote size; buffer = buffer }) (write_table limit t old)
    unfolding write_table write_verdict then gate
    write_whole buffer h b = rw (ok, le-leb (length (table_bytes t)) (length old) (omega (arith, ap length bytes_are)), b, s, bytes_are)
