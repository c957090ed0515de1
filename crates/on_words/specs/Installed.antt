-- Clause 7.5 turns no installed basin away: what a unit with the figure from before request 1 took, as a table's bytes or as numbers,
-- begins a state with outcome 0, if each need fits its burst. Where one does not, it is refused 17 since request 6, and nothing else is
-- found.
use Rattle.std.specs.Prelude.{◌≡◌, true, List, ℕ, ◌≤◌}
use Rattle.terms.specs.Table.{Table, needs_fit_verdict, rate_sum_verdict}
use Rattle.terms.specs.Limits.{max_slot}
use Rattle.terms.specs.Refusals.{Verdict, faultless, then, resolve}
use Rattle.layout.specs.Words.{room_of_words, right_length}
use Rattle.layout.specs.Numbers.{right_numbers, numbers_table}
use Rattle.terms.specs.TableResult.{accept, refuse}
use Rattle.table_bytes.specs.Reading.{Read, read, row_fields_read, numbers_by, left_verdict, read_table}
use Rattle.guarantees.specs.FinishFigure.{former_finishes_verdict, former_verdict}
use Rattle.justrave.specs.Exported.{started, started_of}
use Rattle.on_words.specs.Begins.{Begins}

-- the numbers as such a unit read them: without 17
abbrev pub former_numbers : ℕ → List ℕ → Read Table
former_numbers limit bytes = numbers_by row_fields_read limit bytes

-- what it then tested: 10, 6, and 7 by the former figure
unfoldable pub former_last : Table → (rest : List ℕ) → Verdict
former_last t rest = then (left_verdict rest) (then (rate_sum_verdict t) (former_finishes_verdict t))

-- bytes that it read as the table t
pub record FormerlyRead (limit : ℕ) (bytes : List ℕ) (t : Table) : Type 0 where
  pub rest : List ℕ
  pub numbers : former_numbers limit bytes ≡ read t rest
  pub last : former_last t rest ≡ faultless

-- clause 7.5: they are read as it, or refused 17
abbrev pub StillRead : Type 0
StillRead = (limit : ℕ) (bytes : List ℕ) (t : Table) → FormerlyRead limit bytes t → read_table limit bytes ≡ resolve (needs_fit_verdict t) (accept t) (refuse limit)

-- clause 7.5: a start from them tells 0, and begins that table
abbrev pub InstalledBytesBegin : Type 0
InstalledBytesBegin =
    (most : ℕ) (bytes : List ℕ) (t : Table) (first : ℕ) (words : List ℕ) → right_length most words ≡ true → FormerlyRead (room_of_words words) bytes t → needs_fit_verdict t ≡ faultless → first ≤ max_slot
    → ((started most bytes first words).outcome ≡ 0) × Begins (room_of_words words) t first (started most bytes first words).words

-- and so does one from a table's numbers (clause 7.5)
abbrev pub InstalledNumbersBegin : Type 0
InstalledNumbersBegin =
    (most : ℕ) (numbers : List ℕ) (first : ℕ) (words : List ℕ) → right_length most words ≡ true → right_numbers (room_of_words words) numbers ≡ true
    → former_verdict (room_of_words words) (numbers_table (room_of_words words) numbers) ≡ faultless → needs_fit_verdict (numbers_table (room_of_words words) numbers) ≡ faultless → first ≤ max_slot
    → ((started_of most numbers first words).outcome ≡ 0) × Begins (room_of_words words) (numbers_table (room_of_words words) numbers) first (started_of most numbers first words).words
