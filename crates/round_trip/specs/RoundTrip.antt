-- Clause 3.6: an accepted table, written and read, is that table, and accepted bytes, read and written, are those bytes. It holds for any
-- largest N that a number can be. A table's array has as many rows as the largest N, and a byte is below 256.
use Rattle.std.specs.Prelude.{◌≡◌, List, ℕ, ◌≤◌, length, take}
use Rattle.lists.specs.Overwriting.{written_over}
use Rattle.groups.specs.Groups.{max_number}
use Rattle.groups.specs.Inverse.{Bytes}
use Rattle.terms.specs.Table.{Table}
use Rattle.terms.specs.Refusals.{faultless}
use Rattle.terms.specs.Figures.{admission_verdict}
use Rattle.terms.specs.TableResult.{accept}
use Rattle.table_bytes.specs.Reading.{read_table}
use Rattle.table_bytes.specs.Writing.{table_bytes, wrote, write_table}

-- an accepted table's bytes are bytes, and are read as that table (clause 3.6)
abbrev pub BytesReadBack : Type 0
BytesReadBack =
    (limit : ℕ) (t : Table) → limit ≤ max_number → length t.requestors ≡ limit
    → admission_verdict limit t ≡ faultless
    → Bytes (table_bytes t) × (read_table limit (table_bytes t) ≡ accept t)

-- so what an accepted writing wrote is read as the table that was written (clause 3.6)
abbrev pub WrittenReadsBack : Type 0
WrittenReadsBack =
    (limit : ℕ) (t : Table) (old : List ℕ) (k : ℕ) → limit ≤ max_number → length t.requestors ≡ limit
    → (write_table limit t old).answer ≡ wrote k
    → read_table limit (take k (write_table limit t old).buffer) ≡ accept t

-- a table that was read from some bytes is written as those bytes, into any buffer that has room for them (clause 3.6)
abbrev pub ReadWritesBack : Type 0
ReadWritesBack =
    (limit : ℕ) (bytes : List ℕ) (t : Table) (old : List ℕ) → Bytes bytes → length bytes ≤ length old
    → read_table limit bytes ≡ accept t
    → write_table limit t old ≡ record { answer = wrote (length bytes); buffer = written_over bytes old }
