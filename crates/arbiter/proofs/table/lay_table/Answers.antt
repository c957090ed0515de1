use Rattle.std.proofs.Common.{refl, ap, ◌∙◌}
use Rattle.terms.specs.Limits.{max_places}
use Rattle.layout.specs.Words.{word_count, with_table}
use Rattle.layout.proofs.Laid.{laying_none, laying_more, laying_end}
use Rattle.layout.proofs.Stores.{zero_state}
use Rattle.arbiter.specs.ByValue.{given}
use Rattle.arbiter.proofs.Shapes.{table_rows}
use Rattle.arbiter.proofs.table.lay_table.Goals as goal

pub loop-p-init : goal.loop-p-init
loop-p-init c = rw c.put_head.ensures (laying_none _ _ _ _ _ refl)

pub loop-p-preserved : goal.loop-p-preserved
loop-p-preserved c =
    rw c.put_row.ensures (laying_more _ _ _ _ _ (table_rows c.args.t c.well_formed.0) _ _ _ c.loop-p.invariant c.loop-p-test.true refl)

pub returns : goal.returns
returns c =
    laying_end _ _ _ _ _ (table_rows c.args.t c.well_formed.0) _ _ c.loop-p.invariant c.loop-p-test.false
    ∙ ap (λ s. with_table s (given c.args.t)) (zero_state max_places (word_count max_places))
