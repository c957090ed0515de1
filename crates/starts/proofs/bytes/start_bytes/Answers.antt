-- The bytes are read into the words, and the start is made of them.
use Rattle.std.proofs.Common.{ap, ◌∙◌}
use Rattle.terms.specs.Limits.{max_places}
use Rattle.terms.specs.Refusals.{refusal_of}
use Rattle.terms.specs.Start.{start, turned_down}
use Rattle.layout.proofs.Stores.{same_room, right_stands}
use Rattle.admission.specs.Checked.{table_in}
use Rattle.starts.proofs.Begun.{begun_none, begun_all}
use Rattle.starts.proofs.bytes.start_bytes.Goals as goal

pub returns-in-Err : goal.returns-in-Err
returns-in-Err c =
    c.turn_down.ensures.told ∙ ap (λ k. turned_down k (refusal_of c.in-Err.why)) (same_room _ _ c.lay_bytes.auto.words) ∙ begun_none _ _ _ _ (rw c.in-Err.is at c.lay_bytes.ensures)

pub returns : goal.returns
returns c =
    let words = c.lay_bytes.new.words in
    c.start_laid.ensures.begun (right_stands max_places _ _ c.lay_bytes.auto.words c.requires)
    ∙ ap (λ k. start k (table_in words) c.args.first.0) (same_room _ _ c.lay_bytes.auto.words) ∙ begun_all _ _ _ (table_in words) (rw c.in_default.is at c.lay_bytes.ensures)
