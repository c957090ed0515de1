use Rattle.std.proofs.Common.{◌∙◌, arith}
use Rattle.replay.proofs.Replays.{standing_first, standing_more, standing_last}
use Rattle.replay.proofs.make_calls.Goals as goal

pub loop-i-init : goal.loop-i-init
loop-i-init c = standing_first _ _ _ _

pub loop-i-preserved : goal.loop-i-preserved
loop-i-preserved c =
    standing_more _ _ _ _ _ _ _ c.loop-i.invariant (omega (arith, c.min-i-end.ensures)) _ c.read.ensures _ _ _
    c.make.ensures.state (c.copy_from_slice.ensures.after ∙ c.make.ensures.answer) (omega arith)

pub returns : goal.returns
returns c = standing_last _ _ _ _ _ _ c.loop-i.i c.loop-i.invariant (omega (arith, c.min-i-end.ensures, c.loop-i.auto.i-end))
