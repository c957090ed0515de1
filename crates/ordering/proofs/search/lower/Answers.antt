use Rattle.std.proofs.Common.{ap, ◌∙◌}
use Rattle.terms.specs.Limits.{max_places}
use Rattle.layout.specs.Words.{put_row}
use Rattle.layout.proofs.RoundTrip.{right}
use Rattle.ordering.proofs.InPlace.{lowering_more}
use Rattle.ordering.proofs.search.lower.Goals as goal

pub loop-q-preserved : goal.loop-q-preserved
loop-q-preserved c =
    let stored = c.put_row.ensures ∙ ap (put_row _ _) c.requestor-next.ensures in
    lowering_more _ _ _ (right max_places _ c.requires.0).long c.requires.2 _ _ c.loop-q.invariant c.loop-q-test.true _ stored
