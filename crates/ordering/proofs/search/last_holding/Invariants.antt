-- `ordering::search::last_holding` meets its contract. The loop's invariant: none of those from i on holds. Assumes nothing.
use Rattle.std.proofs.Common.{◌≡◌, take}
use Rattle.admission.specs.Checked.{table_in, rows_in}
use Rattle.ordering.specs.Order.{last_holding}
use Rattle.ordering.proofs.search.last_holding.Given as goal

abbrev pub invariant-loop-i : goal.invariant-loop-i
invariant-loop-i l = last_holding (table_in l.words).denominator (take l.k (rows_in l.words)) l.k ≡ last_holding (table_in l.words).denominator (take l.k (rows_in l.words)) l.i
