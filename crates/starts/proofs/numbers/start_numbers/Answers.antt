-- The start of the words is that of the table that was laid into them.
use Rattle.std.proofs.Common.{ap, ◌∙◌}
use Rattle.terms.specs.Limits.{max_places}
use Rattle.layout.proofs.Stores.{right_stands}
use Rattle.opening.proofs.Opened.{start_of}
use Rattle.starts.proofs.numbers.start_numbers.Goals as goal

pub returns : goal.returns
returns c = c.start_laid.ensures.begun (right_stands max_places _ _ c.lay.auto.words c.requires.0) ∙ start_of _ _ _ _ c.lay.auto.words (ap (λ s. s.table) c.lay.ensures)
