-- `queries::figures::figures_words` meets its contract. Its place passed 23 and 11, and j is held to its bounds. Assumes nothing.
use Rattle.std.proofs.Common.{sym}
use Rattle.queries.proofs.Queries.{query_below, need_held}
use Rattle.queries.proofs.figures.figures_words.Goals as goal

pub finish-requires : goal.finish-requires
finish-requires c =
    (rw c.in_ok-checked.ensures.same (query_below _ _ (sym c.in_ok-checked.ensures.found)), need_held _ _ _ c.need_bounds.ensures c.in_ok-hold.ensures)
