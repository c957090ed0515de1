-- `queries::write::write_admitted` meets its contract. Admission passed, so what is left is the room for the bytes; the numbers are put only
-- where there is enough. Assumes nothing.
use Rattle.std.proofs.Common.{sym, arith, length-take-le}
use Rattle.terms.specs.Limits.{max_places}
use Rattle.table_bytes.proofs.Writings.{write_short, write_whole}
use Rattle.admission.proofs.Rows.{head_there}
use Rattle.queries.proofs.Queries.{admitted_checked, numbers_lent}
use Rattle.queries.proofs.write.write_admitted.Goals as goal

pub of-requires : goal.of-requires
of-requires c = admitted_checked _ c.slice-words.ensures.right (rw c.slice-words.ensures.same c.requires)

pub count-requires : goal.count-requires
count-requires c = head_there _ max_places c.slice-words.ensures.right

pub overflow_mul-room : goal.overflow_mul-room
overflow_mul-room c =
    let few = (numbers_lent _ c.slice-words.ensures.right (rw c.slice-words.ensures.same c.requires) _ _ _ (rw c.of.ensures at c.numbers_of_words.ensures) c.count.ensures).few in omega arith

pub overflow_add-room : goal.overflow_add-room
overflow_add-room c =
    let few = (numbers_lent _ c.slice-words.ensures.right (rw c.slice-words.ensures.same c.requires) _ _ _ (rw c.of.ensures at c.numbers_of_words.ensures) c.count.ensures).few in omega arith

pub slice_bounds-room-end : goal.slice_bounds-room-end
slice_bounds-room-end c = (numbers_lent _ c.slice-words.ensures.right (rw c.slice-words.ensures.same c.requires) _ _ _ (rw c.of.ensures at c.numbers_of_words.ensures) c.count.ensures).inside

pub slice_bounds-numbers-end : goal.slice_bounds-numbers-end
slice_bounds-numbers-end c =
    sym (length-take-le _ _ (numbers_lent _ c.slice-words.ensures.right (rw c.slice-words.ensures.same c.requires) _ _ _ (rw c.of.ensures at c.numbers_of_words.ensures) c.count.ensures).inside)

pub returns-then-buffer-size : goal.returns-then-buffer-size
returns-then-buffer-size c =
    let same = (numbers_lent _ c.slice-words.ensures.right (rw c.slice-words.ensures.same c.requires) _ _ _ (rw c.of.ensures at c.numbers_of_words.ensures) c.count.ensures).same in
    rw (c.into.ensures, ← c.slice-words.ensures.same) (write_short _ _ _ (rw c.slice-words.ensures.same c.requires) _ _ same c.bytes_len-size.ensures c.if-buffer-size.true)

pub returns : goal.returns
returns c =
    let same = (numbers_lent _ c.slice-words.ensures.right (rw c.slice-words.ensures.same c.requires) _ _ _ (rw c.of.ensures at c.numbers_of_words.ensures) c.count.ensures).same in
    rw (← c.slice-words.ensures.same) (write_whole _ _ _ (rw c.slice-words.ensures.same c.requires) _ _ same c.bytes_len-size.ensures _ c.if-buffer-size.false c.put_numbers.ensures)
