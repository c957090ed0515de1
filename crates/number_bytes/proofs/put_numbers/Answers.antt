-- Each number finds room in the part of the buffer that is left.
use Rattle.std.proofs.Common.{arith}
use Rattle.number_bytes.proofs.Counts.{written_none, written_next, written_inside}
use Rattle.number_bytes.proofs.put_numbers.Goals as goal

pub loop-x-init : goal.loop-x-init
loop-x-init c = written_none _ _

pub overflow_add-at : goal.overflow_add-at
overflow_add-at c = omega (arith, written_inside c.requires c.loop-x.invariant c.loop-x-test.true _ _ c.write_number-at.ensures)

pub loop-x-preserved : goal.loop-x-preserved
loop-x-preserved c = written_next c.requires c.loop-x.invariant c.loop-x-test.true _ _ c.write_number-at.ensures
