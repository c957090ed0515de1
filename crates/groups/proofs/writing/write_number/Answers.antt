-- The steps of the loop.
use Rattle.std.proofs.Common.{arith}
use Rattle.groups.proofs.Writings.{put_none, put_next, put_last}
use Rattle.groups.proofs.writing.write_number.Goals as goal

pub loop-k-init : goal.loop-k-init
loop-k-init c = put_none _ _ (omega arith)

pub loop-k-preserved : goal.loop-k-preserved
loop-k-preserved c = put_next (omega arith) c.loop-k.invariant (omega arith)

pub overflow_cast-buffer-2 : goal.overflow_cast-buffer-2
overflow_cast-buffer-2 c = omega (arith, put_last (omega arith) c.loop-k.invariant c.number_len-len.result c.number_len-len.ensures (omega arith))
