-- `arbiter::table::table_of` meets its contract. The loop's invariant: the first p rows are those of the words. Assumes nothing.
use Rattle.std.proofs.Common.{◌≡◌, ◌++◌, length, take, drop}
use Rattle.lists.specs.Places.{places_from}
use Rattle.terms.specs.Limits.{max_places}
use Rattle.layout.specs.Words.{row_in}
use Rattle.arbiter.proofs.table.table_of.Given as goal

abbrev pub invariant-loop-p : goal.invariant-loop-p
invariant-loop-p l = (length l.initial.rows ≡ max_places) × (l.rows ≡ take l.p (places_from (row_in l.s.words) 0 max_places) ++ drop l.p l.initial.rows)
