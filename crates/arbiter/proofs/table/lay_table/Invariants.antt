-- `arbiter::table::lay_table` meets its contract. The loop's invariant: D and N are laid, and so are the first p rows. Assumes nothing.
use Rattle.std.proofs.Common.{replicate}
use Rattle.terms.specs.Limits.{max_places}
use Rattle.layout.specs.Words.{word_count}
use Rattle.layout.proofs.Laid.{Laying}
use Rattle.arbiter.proofs.table.lay_table.Given as goal

abbrev pub invariant-loop-p : goal.invariant-loop-p
invariant-loop-p l = Laying l.fn.t.requestors (replicate (word_count max_places) 0) max_places l.fn.t.denominator l.fn.t.count l.words l.p
