use Rattle.std.proofs.Common.{sym, ◌∙◌, arith}
use Rattle.lists.specs.Places.{places_from}
use Rattle.lists.proofs.Overwriting.{overwrite_more, overwrite_all}
use Rattle.terms.specs.Limits.{max_places}
use Rattle.terms.specs.Table.{no_requestor}
use Rattle.layout.specs.Words.{row_in, words_state}
use Rattle.layout.proofs.Items.{length_places, at_place}
use Rattle.arbiter.proofs.ByValue.{room_full}
use Rattle.arbiter.proofs.Shapes.{words_full}
use Rattle.arbiter.proofs.table.table_of.Goals as goal

pub loop-p-preserved : goal.loop-p-preserved
loop-p-preserved c =
    let l = c.loop-p in
    let rows = places_from (row_in c.args.s.words) 0 max_places in
    let many = length_places (row_in c.args.s.words) 0 max_places in
    (l.invariant.0, overwrite_more no_requestor rows _ l.rows l.p _ (omega (arith, many, c.loop-p-test.true)) (omega (arith, l.invariant.0, c.loop-p-test.true)) l.invariant.1 (c.requestor.ensures ∙ sym (at_place (row_in c.args.s.words) no_requestor max_places l.p c.loop-p-test.true)))

pub returns : goal.returns
unfolding words_state
returns c =
    let words = c.args.s.words in
    let l = c.loop-p in
    let many = length_places (row_in words) 0 max_places in
    let all = l.invariant.1 ∙ overwrite_all no_requestor (places_from (row_in words) 0 max_places) _ l.p (omega (arith, many, c.loop-p-test.false)) (omega (arith, l.invariant.0, c.loop-p-test.false)) in
    rw (room_full words (words_full c.args.s c.well_formed.0), all, c.denominator.ensures, c.count.ensures)
