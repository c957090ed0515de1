-- A start from a table that was put in order is accepted, and so the service bounds and its needs hold of it. Assumes nothing.
use Rattle.std.proofs.Common.{◌≡◌, le-leb}
use Rattle.terms.specs.Limits.{max_slot}
use Rattle.terms.specs.Refusals.{gate, then}
use Rattle.terms.specs.Answers.{accepted}
use Rattle.terms.specs.Start.{start_verdict, start}
use Rattle.guarantees.specs.Counts.{Accepted}
use Rattle.guarantees.proofs.ServiceBounds.{service_bounds}
use Rattle.guarantees.proofs.Need.{own_need}
use Rattle.ordering.proofs.Claims.{answer_passes}
use Rattle.ordered_tables.specs.Promised.{OrderedLineIsPromised}

pub ordered_line_is_promised : OrderedLineIsPromised
unfolding start start_verdict gate then
ordered_line_is_promised limit t u first shape e early =
    let (passes, rows) = answer_passes limit t u shape e in
    let begins : (start limit u first).answer ≡ accepted = rw (passes, le-leb first max_slot early) in
    let a : Accepted limit u first = record { rows = rows; answer = begins } in
    record { start_accepted = a; service_bounds = service_bounds limit u first a; need = own_need limit u first a }
