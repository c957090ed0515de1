-- Row after row, and then 10.
use Rattle.std.proofs.Common.{sym, ◌∙◌, arith}
use Rattle.std.proofs.lemmas.Grind.{common_steps}
use Rattle.terms.specs.Limits.{max_places}
use Rattle.layout.proofs.RoundTrip.{right}
use Rattle.starts.proofs.Rows.{reading_none, reading_there, reading_more, reading_stop, reading_left, reading_end}
use Rattle.starts.proofs.laying.lay_places.Goals as goal

pub loop-p-init : goal.loop-p-init
loop-p-init c = reading_none _ _ _ _ _ (c.lay_head.auto.words ∙ (right max_places _ c.requires.0).long) c.lay_head.ensures

pub returns-in_err-row : goal.returns-in_err-row
returns-in_err-row c = let stop = reading_stop c.loop-p.invariant in grind (arith, common_steps, stop)

pub put_row-requires : goal.put_row-requires
put_row-requires c = reading_there c.loop-p.invariant c.loop-p-test.true c.requires.1

pub loop-p-preserved : goal.loop-p-preserved
loop-p-preserved c = rw c.put_row.ensures (reading_more c.loop-p.invariant c.loop-p-test.true c.requires.1 _ _ (sym c.in_ok-row.ensures))

pub returns-then-not-is_empty : goal.returns-then-not-is_empty
returns-then-not-is_empty c = rw c.into.ensures (reading_left c.loop-p.invariant (omega arith) (sym c.is_empty.ensures ∙ c.if-not-is_empty.true))

pub returns : goal.returns
returns c = reading_end c.loop-p.invariant (omega arith) (sym c.is_empty.ensures ∙ c.if-not-is_empty.false)
