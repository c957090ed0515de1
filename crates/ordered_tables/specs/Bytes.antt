-- Clause 8.3, from bytes to bytes. Once all numbers are read and none is left over, an ordering of bytes is that of the table which they
-- are, refusals included; what it writes is read as the table in order, and is as many bytes; and the bytes of a table in order come back
-- as they are (clause 8.2). A byte is below 256, and `limit` is any largest N that a number can be.
use Rattle.std.specs.Prelude.{◌≡◌, List, [], ℕ, ◌≤◌, leb, length, take}
use Rattle.lists.specs.Overwriting.{written_over}
use Rattle.groups.specs.Groups.{max_number}
use Rattle.groups.specs.Inverse.{Bytes}
use Rattle.terms.specs.declared.refusals.Refusal.{Refusal}
use Rattle.terms.specs.Table.{Table, offered_verdict}
use Rattle.terms.specs.Refusals.{faultless, refusal, gate, resolve}
use Rattle.terms.specs.TableResult.{accept}
use Rattle.table_bytes.specs.Reading.{read, numbers_read, read_table}
use Rattle.table_bytes.specs.Writing.{table_bytes, wrote, refused, write_table}
use Rattle.starts.specs.Laying.{unread, laid}
use Rattle.ordering.specs.Order.{order}
use Rattle.ordering.specs.Claims.{NoOrderPasses}
use Rattle.ordered_bytes.specs.OrderBytes.{order_read, order_bytes}

-- clause 8.3: the bytes list the table t, and u is it in order
pub record Listed (limit : ℕ) (bytes : List ℕ) (t u : Table) : Type 0 where
  pub numbers : numbers_read limit bytes ≡ read t []
  pub shape : length t.requestors ≡ limit
  pub ordered : order limit t ≡ accept u

-- 8, 9, 1 to 5, 17 and 10 are the reader's, and write nothing (clauses 8.3 and 13.6)
abbrev pub UnreadIsRefused : Type 0
UnreadIsRefused = (limit : ℕ) (bytes old : List ℕ) (why : Refusal) → laid (numbers_read limit bytes) ≡ unread why
    → order_bytes limit bytes old ≡ record { answer = refused why; buffer = old }

-- clause 8.3, bytes that were read to their end: what is found of their table is found of them, so that a refusal tells the same (ordering,
-- Claims)
abbrev pub ReadIsOrdered : Type 0
ReadIsOrdered = (limit : ℕ) (bytes : List ℕ) (t : Table) → numbers_read limit bytes ≡ read t []
    → (order_read limit (numbers_read limit bytes) ≡ order limit t) × (length t.requestors ≡ limit)

-- the bytes list a table that passes 1 to 6 and 17, and no order of it passes
pub record Orderless (limit : ℕ) (bytes : List ℕ) : Type 0 where
  pub table : Table
  pub numbers : numbers_read limit bytes ≡ read table []
  pub checked : offered_verdict limit table ≡ faultless
  pub none_passes : NoOrderPasses limit table

-- clause 8.2 from bytes
abbrev pub FifteenOfBytes : Type 0
FifteenOfBytes = (limit : ℕ) (bytes old : List ℕ)
    → ((order_bytes limit bytes old).answer ≡ refused (refusal 15) → Orderless limit bytes) × (Orderless limit bytes → (order_bytes limit bytes old).answer ≡ refused (refusal 15))

-- clause 8.3: every ordering that is not refused ahead of 14 has read the bytes of a table to their end, and it is that table in order
abbrev pub OrderedIsListed : Type 0
OrderedIsListed = (limit : ℕ) (bytes : List ℕ) (u : Table) → order_read limit (numbers_read limit bytes) ≡ accept u → (t : Table) × Listed limit bytes t u

-- and is written as the writer writes it, whose admission then passes (clause 8.3)
abbrev pub AsTheWriter : Type 0
AsTheWriter = (limit : ℕ) (bytes : List ℕ) (u : Table) (old : List ℕ) → order_read limit (numbers_read limit bytes) ≡ accept u
    → order_bytes limit bytes old ≡ write_table limit u old

-- clause 8.3: 14 goes by the bytes that were read: as many are written
abbrev pub AsManyBytes : Type 0
AsManyBytes = (limit : ℕ) (bytes : List ℕ) (t u : Table) (old : List ℕ) → Bytes bytes → Listed limit bytes t u
    → order_bytes limit bytes old
    ≡ resolve (gate (refusal 14) (leb (length bytes) (length old)) faultless)
    (record { answer = wrote (length bytes); buffer = written_over (table_bytes u) old })
    (λ why. record { answer = refused why; buffer = old })

-- clause 8.3: what was written is read as the table in order
abbrev pub WrittenReadsInOrder : Type 0
WrittenReadsInOrder = (limit : ℕ) (bytes old : List ℕ) (k : ℕ) → limit ≤ max_number → (order_bytes limit bytes old).answer ≡ wrote k
    → (t u : Table) × Listed limit bytes t u × (read_table limit (take k (order_bytes limit bytes old).buffer) ≡ accept u)

-- clause 8.2 from bytes: those that are read as a table come back as they are
abbrev pub RightBytesStay : Type 0
RightBytesStay = (limit : ℕ) (bytes : List ℕ) (t : Table) (old : List ℕ) → Bytes bytes → length bytes ≤ length old → read_table limit bytes ≡ accept t
    → order_bytes limit bytes old ≡ record { answer = wrote (length bytes); buffer = written_over bytes old }

-- so do the bytes that an ordering wrote
abbrev pub WrittenBytesStay : Type 0
WrittenBytesStay = (limit : ℕ) (bytes old : List ℕ) (k : ℕ) (other : List ℕ) → limit ≤ max_number → (order_bytes limit bytes old).answer ≡ wrote k → k ≤ length other
    → let made = take k (order_bytes limit bytes old).buffer in
    order_bytes limit made other ≡ record { answer = wrote k; buffer = written_over made other }
