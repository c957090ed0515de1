-- A start from a table's bytes (clause 4.2). A start from a table given as numbers is `start` of terms.
use Rattle.std.specs.Prelude.{ℕ}
use Rattle.lists.specs.Runs.{Result}
use Rattle.terms.specs.State.{State}
use Rattle.terms.specs.Answers.{Answer, unless}
use Rattle.terms.specs.Start.{start, turned_down}
use Rattle.terms.specs.TableResult.{TableResult}

-- clauses 4.2 and 13.3: the reader's checks, then the start's
unfoldable pub begun : (room : ℕ) → TableResult → (first : ℕ) → Result State Answer
begun room t first = unless t.answer (turned_down room) (start room t.table first)
