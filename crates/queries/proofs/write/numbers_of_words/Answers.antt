use Rattle.std.proofs.Common.{◌≡◌, sym, ◌∙◌, ◌<◌, arith}
use Rattle.lists.specs.Sums.{joined}
use Rattle.terms.specs.Limits.{max_places}
use Rattle.terms.proofs.Checks.{fair}
use Rattle.table_bytes.proofs.Writings.{row_stored, rows_stored}
use Rattle.layout.specs.Words.{room_of_words}
use Rattle.layout.proofs.RoundTrip.{right}
use Rattle.admission.specs.Checked.{table_in}
use Rattle.admission.proofs.Rows.{denominator_word, count_word, rows_length, row_at, head_there, placed}
use Rattle.queries.proofs.Queries.{checked_row, head_stored}
use Rattle.queries.proofs.write.numbers_of_words.Goals as goal

pub count-n-requires : goal.count-n-requires
count-n-requires c = head_there _ max_places c.slice-words.ensures.checked.right

pub denominator-requires : goal.denominator-requires
denominator-requires c = head_there _ max_places c.slice-words.ensures.checked.right

-- D and N are within their limits
pub overflow_cast-numbers : goal.overflow_cast-numbers
overflow_cast-numbers c = omega (arith, c.denominator.ensures, denominator_word c.slice-words.result.now, (fair _ _ c.slice-words.ensures.checked.passes).denominator_most)

pub overflow_cast-numbers-2 : goal.overflow_cast-numbers-2
overflow_cast-numbers-2 c =
    omega (arith, c.count-n.ensures, count_word c.slice-words.result.now, (fair _ _ c.slice-words.ensures.checked.passes).count_most, (right max_places _ c.slice-words.ensures.checked.right).room_most)

pub loop-p-init : goal.loop-p-init
unfolding joined
loop-p-init c =
    let w = c.slice-words.result.now in
    record {
      few = omega (arith, c.count-n.ensures, count_word w, (fair _ _ c.slice-words.ensures.checked.passes).count_most, (right max_places _ c.slice-words.ensures.checked.right).room_most);
      written = rw (c.denominator.ensures ∙ denominator_word w, c.count-n.ensures ∙ count_word w) (head_stored c.args.numbers.now _ _ (omega (arith, c.told-numbers)));
    }

pub requestor-r-requires : goal.requestor-r-requires
requestor-r-requires c =
    (placed max_places _ c.loop-p.p c.slice-words.ensures.checked (omega (arith, c.loop-p-test.true, c.count-n.ensures, count_word c.slice-words.result.now))).there

-- and so is each row
pub overflow_cast-numbers-in-loop-p : goal.overflow_cast-numbers-in-loop-p
overflow_cast-numbers-in-loop-p c =
    (checked_row max_places _ _ _ c.slice-words.ensures.checked (omega (arith, c.loop-p-test.true, c.count-n.ensures, count_word c.slice-words.result.now)) c.requestor-r.ensures).rate

pub overflow_cast-numbers-in-loop-p-2 : goal.overflow_cast-numbers-in-loop-p-2
overflow_cast-numbers-in-loop-p-2 c =
    (checked_row max_places _ _ _ c.slice-words.ensures.checked (omega (arith, c.loop-p-test.true, c.count-n.ensures, count_word c.slice-words.result.now)) c.requestor-r.ensures).burst

pub overflow_cast-numbers-in-loop-p-3 : goal.overflow_cast-numbers-in-loop-p-3
overflow_cast-numbers-in-loop-p-3 c =
    (checked_row max_places _ _ _ c.slice-words.ensures.checked (omega (arith, c.loop-p-test.true, c.count-n.ensures, count_word c.slice-words.result.now)) c.requestor-r.ensures).need

pub overflow_cast-numbers-in-loop-p-4 : goal.overflow_cast-numbers-in-loop-p-4
overflow_cast-numbers-in-loop-p-4 c =
    (checked_row max_places _ _ _ c.slice-words.ensures.checked (omega (arith, c.loop-p-test.true, c.count-n.ensures, count_word c.slice-words.result.now)) c.requestor-r.ensures).within

pub loop-p-preserved : goal.loop-p-preserved
loop-p-preserved c =
    let l = c.loop-p in
    let w = c.slice-words.result.now in
    let inside : l.p < room_of_words w = omega (arith, c.loop-p-test.true, c.count-n.ensures, count_word w, (fair _ _ c.slice-words.ensures.checked.passes).count_most) in
    record {
      few = l.invariant.few;
      written = row_stored (table_in w) c.args.numbers.now _ l.p l.invariant.written _ (omega (arith, rows_length w, inside))
          (omega (arith, rows_length w, (right max_places _ c.slice-words.ensures.checked.right).room_most)) (c.requestor-r.ensures ∙ sym (row_at w l.p inside));
    }

pub returns : goal.returns
returns c =
    let l = c.loop-p in
    let many : c.count-n.result ≡ (table_in c.slice-words.result.now).count = c.count-n.ensures ∙ count_word c.slice-words.result.now in
    rw (← c.slice-words.ensures.same)
    (rows_stored (table_in c.slice-words.result.now) _ _ l.p l.invariant.written (omega (arith, many, l.auto)) (omega (arith, many, c.loop-p-test.false)))
