-- `replay::make_calls` meets its contract. The loop's invariant, `Standing`: state and lent numbers are those of the run of the first i
-- calls. Assumes nothing.
use Rattle.terms.specs.Limits.{max_places}
use Rattle.arbiter.specs.ByValue.{held}
use Rattle.replay.proofs.Replays.{Standing}
use Rattle.replay.proofs.make_calls.Given as goal

abbrev pub invariant-loop-i : goal.invariant-loop-i
invariant-loop-i l = Standing max_places l.calls l.initial.answers (held l.initial.s) l.answers (held l.s) l.i
