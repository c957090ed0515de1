-- `queries::write::numbers_of_words` meets its contract. The loop's invariant: D, N and the numbers of the first p rows stand in front of
-- what was lent. Assumes nothing.
use Rattle.std.proofs.Common.{◌≡◌, ◌≤◌}
use Rattle.lists.specs.Overwriting.{written_over}
use Rattle.terms.specs.Limits.{max_places}
use Rattle.table_bytes.proofs.Writings.{numbers_to}
use Rattle.admission.specs.Checked.{table_in}
use Rattle.queries.proofs.write.numbers_of_words.Given as goal

abbrev pub invariant-loop-p : goal.invariant-loop-p
invariant-loop-p l = record {
  few : l.n ≤ max_places;
  written : l.numbers ≡ written_over (numbers_to (table_in l.words) l.p) l.fn.numbers;
}
