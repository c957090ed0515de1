use Rattle.chains.proofs.Walks.{clear_all}
use Rattle.chains.proofs.following.stays_clear.Goals as goal

pub returns : goal.returns
returns c = let l = c.loop-step in clear_all _ _ _ l.at l._step l.invariant c.loop-step-test.false
