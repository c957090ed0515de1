-- The exported call that puts a table in order: a refusal leaves what was lent, 255 tells a lent answer of a wrong length, an order that
-- passes is found, and what was written with outcome 0 begins a line in any words that have room for its N: one with the requestors of the
-- list, for which the service bounds and the needs hold (clause 8.4).
use Rattle.std.specs.Prelude.{◌≡◌, true, List, [], ℕ, ◌≤◌, eqb, length, take, get_or}
use Rattle.groups.specs.Groups.{max_number}
use Rattle.groups.specs.Inverse.{Bytes}
use Rattle.lists.specs.Orders.{Permuted}
use Rattle.terms.specs.Limits.{max_slot}
use Rattle.terms.specs.Table.{Table, requestors_of}
use Rattle.terms.specs.Refusals.{faultless}
use Rattle.terms.specs.Figures.{admission_verdict}
use Rattle.layout.specs.Words.{room_of_words, right_length, state_words}
use Rattle.table_bytes.specs.Reading.{read, numbers_read}
use Rattle.guarantees.specs.Counts.{start_state}
use Rattle.ordering.specs.Claims.{same_requestor, Reordered}
use Rattle.ordered_tables.specs.Promised.{Promised}
use Rattle.justrave.specs.Exported.{Wrote, started, ordered}
use Rattle.on_words.specs.Claims.{Exactly255, Refused}

-- clause 1.5, and clause 15.3 for 255
abbrev pub OrderRefused : Type 0
OrderRefused =
    (most : ℕ) (bytes buffer old : List ℕ) → let r = ordered most bytes buffer old in
    Refused r.outcome → (r.buffer ≡ buffer) × (r.answer ≡ old)

-- clause 15.3
abbrev pub Order255 : Type 0
Order255 = (most : ℕ) (bytes buffer old : List ℕ) → Exactly255 (eqb (length old) 1) (ordered most bytes buffer old).outcome

-- clause 8.2: where some order passes, and there is room for as many bytes, the outcome is 0
abbrev pub OrderAccepted : Type 0
OrderAccepted =
    (most : ℕ) (bytes buffer old : List ℕ) (t v : Table) → Bytes bytes → numbers_read most bytes ≡ read t [] → Reordered t v → admission_verdict most v ≡ faultless
    → length bytes ≤ length buffer → length old ≡ 1 → (ordered most bytes buffer old).outcome ≡ 0

-- the bytes that were written: as many from the buffer's start on as the answer says
abbrev pub written_bytes : Wrote → List ℕ
written_bytes r = take (get_or r.answer 0 0) r.buffer

-- clause 8.4: a line that was begun with the bytes `made` of the list t in order
pub record OrderedLine (most : ℕ) (t : Table) (made : List ℕ) (first : ℕ) (words : List ℕ) : Type 0 where
  pub accepted : (started most made first words).outcome ≡ 0
  pub line : Table
  pub words_are : (started most made first words).words ≡ state_words (start_state (room_of_words words) line first)
  pub denominator : line.denominator ≡ t.denominator
  pub count : line.count ≡ t.count
  pub requestors : Permuted same_requestor (requestors_of line) (requestors_of t)
  pub promised : Promised (room_of_words words) line first

-- clause 8.4
abbrev pub OrderedBytesBegin : Type 0
OrderedBytesBegin =
    (most : ℕ) (bytes buffer old : List ℕ) (t : Table) (first : ℕ) (words : List ℕ) → most ≤ max_number → right_length most words ≡ true → first ≤ max_slot
    → let r = ordered most bytes buffer old in
    r.outcome ≡ 0 → numbers_read most bytes ≡ read t [] → t.count ≤ room_of_words words → OrderedLine most t (written_bytes r) first words
