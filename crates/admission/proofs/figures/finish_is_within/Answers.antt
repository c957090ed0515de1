-- `admission::figures::finish_is_within` meets its contract. The figure is the least number of slots that covers the sum. Assumes nothing.
use Rattle.std.proofs.Common.{sym}
use Rattle.terms.proofs.Figures.{finish_within}
use Rattle.admission.proofs.figures.finish_is_within.Goals as goal

pub returns : goal.returns
returns c =
    let parts = c.args.parts in
    sym (finish_within parts.d parts.bursts parts.left parts.n parts.j.0 parts.fit.left_least parts.fit.rate_least c.args.within.0)
