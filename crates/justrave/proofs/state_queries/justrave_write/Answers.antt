-- `justrave::state_queries::justrave_write` meets its contract. What is told is how many bytes were written. Assumes nothing.
use Rattle.std.proofs.Common.{rules}
use Rattle.terms.specs.Limits.{max_places}
use Rattle.justrave.proofs.Queries.{one_put, write_told}
use Rattle.justrave.proofs.state_queries.justrave_write.Goals as goal

pub returns-in-Ok : goal.returns-in-Ok
returns-in-Ok c =
    let a = c.args in
    write_told max_places a.state.now a.buffer.now a.answer.now (search rules) (search rules) c.in-Ok.bytes _ (rw c.in-Some.ensures.same at c.in-Ok.ensures) _ (one_put a.answer.now c.in-Ok.bytes (search rules))
