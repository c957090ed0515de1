-- `justrave::state_queries::justrave_lead` meets its contract. The lead that is told is that of the place. Assumes nothing.
use Rattle.std.proofs.Common.{ap, ◌∙◌, to_z-of_z, set, rules, w64}
use Rattle.terms.specs.Limits.{max_places}
use Rattle.justrave.proofs.Queries.{one_put, lead_told}
use Rattle.justrave.proofs.state_queries.justrave_lead.Goals as goal

pub returns-in-Ok : goal.returns-in-Ok
returns-in-Ok c =
    let a = c.args in
    let put = ap (λ y. set a.answer.now 0 y) (to_z-of_z {w = w64} (search rules)) ∙ one_put a.answer.now c.in-Ok.x (search rules) in
    lead_told max_places a.state.now a.place a.log.now a.answer.now (search rules) c.in-Ok.x (rw c.in-Some.ensures.same at c.in-Ok.ensures) _ put
