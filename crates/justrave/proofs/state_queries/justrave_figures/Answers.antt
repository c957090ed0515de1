-- `justrave::state_queries::justrave_figures` meets its contract. Both figures are told, each in its word. Assumes nothing.
use Rattle.std.proofs.Common.{rules}
use Rattle.terms.specs.Limits.{max_places}
use Rattle.justrave.proofs.Queries.{figures_told}
use Rattle.justrave.proofs.state_queries.justrave_figures.Goals as goal

pub returns-in-Ok : goal.returns-in-Ok
returns-in-Ok c = let a = c.args in figures_told max_places a.state.now a.place a.j a.answer.now (search rules) c.in-Ok.f (rw c.in-Some.ensures.same at c.in-Ok.ensures) _ c.put_two.ensures
