-- `moves::runs::log_slots` meets its contract: a slot more is done, and its byte stands behind those before it. Assumes nothing.
use Rattle.std.proofs.Common.{arith}
use Rattle.moves.proofs.Going.{going_none, going_next}
use Rattle.moves.proofs.runs.log_slots.Goals as goal

pub loop-at-init : goal.loop-at-init
loop-at-init c =
    let a = c.args in going_none a.words.now a.d a.n a.log.now c.requires.0

pub loop-at-preserved : goal.loop-at-preserved
loop-at-preserved c =
    let a = c.args in let l = c.loop-at in
    going_next a.words.now a.d a.n a.log.now c.requires.0 c.requires.1 l.words l.log l.at l.invariant (omega arith) _ _ (omega arith) c.log_slot.ensures.state c.log_slot.ensures.log
