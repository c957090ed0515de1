-- The rows of a table given as numbers as items, and the round trip of a table and its numbers. Assumes nothing.
use Rattle.std.proofs.Common.{◌≡◌, refl, ap, sym, ◌∙◌, List, ℕ, [], ◌∷◌, ◌++◌, append-nil, ◌+◌, ◌*◌, ◌≤◌, arith, eqb-true, eq-eqb, length, get_or, drop, drop_of_length-le, drop-cons}
use Rattle.std.proofs.lemmas.Grind.{common_steps}
use Rattle.lists.specs.Sums.{joined}
use Rattle.lists.proofs.Sums.{length_joined_same}
use Rattle.terms.specs.declared.place.Requestor.{Requestor}
use Rattle.terms.specs.Table.{row_numbers}
use Rattle.layout.specs.Words.{row_from}
use Rattle.layout.specs.Numbers.{row_start, number_count, all_numbers, numbers_table}
use Rattle.layout.specs.RoundTrip.{NumbersReadBack, TableWrittenBack}
use Rattle.layout.proofs.Items.{drop_next, Items, written_read, read_written}

-- a row's four numbers
row_read : (r : Requestor) (front rest : List ℕ) → row_from (front ++ (row_numbers r ++ rest)) (length front) ≡ r
row_read r front rest = grind (arith, common_steps)

row_stands : (numbers : List ℕ) (k : ℕ) → k + 4 ≤ length numbers → row_numbers (row_from numbers k) ++ drop (k + 4) numbers ≡ drop k numbers
row_stands numbers k h = grind (arith, common_steps, drop_next)

unfoldable rows : Items Requestor
rows = record {
  width = 4;
  write = row_numbers;
  read = row_from;
  at = row_start;
  next = λ p. omega arith;
  wide = λ r. refl;
  read_write = row_read;
  write_read = row_stands;
}

pub numbers_read_back : NumbersReadBack
unfolding all_numbers numbers_table rows
numbers_read_back room t long =
    let rs = joined row_numbers t.requestors in
    let head = t.denominator ∷ t.count ∷ [] in
    let back = written_read rows (all_numbers t) t.requestors 0 head [] refl (ap (λ l. head ++ l) (sym (append-nil rs))) in
    let many : length rs ≡ 4 * length t.requestors = length_joined_same row_numbers 4 (λ r. refl) t.requestors in
    let all : length (all_numbers t) ≡ number_count room = omega (arith, many) in
    (eq-eqb (length (all_numbers t)) (number_count room) all, rw (rw long at back))

pub table_written_back : TableWrittenBack
unfolding all_numbers numbers_table rows
table_written_back room numbers e =
    let long = eqb-true (length numbers) (number_count room) e in
    let rs = joined row_numbers (numbers_table room numbers).requestors in
    let none : drop (number_count room) numbers ≡ [] = drop_of_length-le numbers {i = number_count room} (omega arith) in
    let rows_stand : rs ++ drop (number_count room) numbers ≡ drop 2 numbers = read_written rows numbers room (omega arith) in
    let head : numbers ≡ get_or numbers 0 0 ∷ get_or numbers 1 0 ∷ drop 2 numbers =
    drop-cons numbers 0 0 (omega arith) ∙ ap (λ l. get_or numbers 0 0 ∷ l) (drop-cons numbers 1 0 (omega arith)) in
    ap (λ l. get_or numbers 0 0 ∷ get_or numbers 1 0 ∷ l) (sym (append-nil rs) ∙ ap (λ l. rs ++ l) (sym none) ∙ rows_stand) ∙ sym head
