-- A start for firmware whose outcome is 0 is an accepted start, as in the service bounds (clauses 10.1 to 10.4), from a table's bytes and
-- from a table given as numbers alike, and an accepted one's outcome is 0. The limit is the room of the lent words. The service bounds
-- speak of the calls by value; that the exported calls in a row are these is Claims.CallsInARow.
use Rattle.std.specs.Prelude.{◌≡◌, true, List, ℕ}
use Rattle.terms.specs.Table.{Table}
use Rattle.rule.specs.Calls.{Call}
use Rattle.terms.specs.Answers.{accepted}
use Rattle.terms.specs.Start.{start}
use Rattle.layout.specs.Words.{room_of_words, right_length, state_words}
use Rattle.layout.specs.Numbers.{right_numbers, numbers_table}
use Rattle.table_bytes.specs.Reading.{read_table}
use Rattle.starts.specs.Starts.{begun}
use Rattle.guarantees.specs.Counts.{Accepted, start_state}
use Rattle.guarantees.specs.ServiceBounds.{ServiceBounds}
use Rattle.justrave.specs.Exported.{started, started_of}

-- the start of this table is accepted, the words are those of the state that it hands back, and every list of calls from it keeps to
-- the service bounds (clauses 10.1 to 10.4)
pub record Begins (limit : ℕ) (t : Table) (first : ℕ) (words : List ℕ) : Type 0 where
  pub start_accepted : Accepted limit t first
  pub words_are : words ≡ state_words (start_state limit t first)
  pub service_bounds : (before inside : List Call) → ServiceBounds limit t first before inside

-- clause 10.2 of lists of calls from words that a start made
abbrev pub BytesBeginServiceBounds : Type 0
BytesBeginServiceBounds =
    (most : ℕ) (bytes : List ℕ) (first : ℕ) (words : List ℕ) → (started most bytes first words).outcome ≡ 0
    → Begins (room_of_words words) (read_table (room_of_words words) bytes).table first (started most bytes first words).words

abbrev pub NumbersBeginServiceBounds : Type 0
NumbersBeginServiceBounds =
    (most : ℕ) (numbers : List ℕ) (first : ℕ) (words : List ℕ) → (started_of most numbers first words).outcome ≡ 0
    → Begins (room_of_words words) (numbers_table (room_of_words words) numbers) first (started_of most numbers first words).words

-- clause 15.4: the outcome of an accepted start
abbrev pub AcceptedBytesTell0 : Type 0
AcceptedBytesTell0 =
    (most : ℕ) (bytes : List ℕ) (first : ℕ) (words : List ℕ) → right_length most words ≡ true
    → (begun (room_of_words words) (read_table (room_of_words words) bytes) first).answer ≡ accepted
    → (started most bytes first words).outcome ≡ 0

abbrev pub AcceptedNumbersTell0 : Type 0
AcceptedNumbersTell0 =
    (most : ℕ) (numbers : List ℕ) (first : ℕ) (words : List ℕ) → right_length most words ≡ true → right_numbers (room_of_words words) numbers ≡ true
    → (start (room_of_words words) (numbers_table (room_of_words words) numbers) first).answer ≡ accepted
    → (started_of most numbers first words).outcome ≡ 0
