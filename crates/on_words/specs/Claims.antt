-- What holds of the calls on lent words beyond each one's own definition. On a state's words, with room for as many places as one likes up
-- to the largest N, they are the calls by value (clause 15.1), one by one and in a row, and any words of a right length are a state's
-- (layout, RoundTrip). 255 tells a wrong length (clause 15.3) and 23 a state that breaks a rule (clause 11.1). An outcome other than 0 says
-- that nothing was done to what was lent (clause 1.5); a refused start or carrying over alone clears the words (clause 1.6). `most` is the
-- largest N. That room makes no difference: Room.
use Rattle.std.specs.Prelude.{◌≡◌, Bool, true, false, ◌&&◌, List, [], ◌∷◌, map, ℕ, ◌≤◌, eqb, ℤ, length, replicate}
use Rattle.lists.specs.Runs.{Result, end, answers}
use Rattle.terms.specs.State.{State, sound, Shaped}
use Rattle.terms.specs.Table.{Table}
use Rattle.terms.specs.Answers.{Answer, accepted}
use Rattle.terms.specs.Start.{start}
use Rattle.terms.specs.Queries as queries
use Rattle.terms.specs.Chain as chains
use Rattle.lead_parts.specs.Lead as leads
use Rattle.table_bytes.specs.Reading.{read_table}
use Rattle.table_bytes.specs.Writing as writing
use Rattle.rule.specs.Calls.{Call, post, slot, called}
use Rattle.rule.specs.Log.{run}
use Rattle.layout.specs.Words.{room_of_words, right_length, state_words, state_of}
use Rattle.layout.specs.Numbers.{all_numbers, numbers_table, right_numbers}
use Rattle.starts.specs.Starts.{begun}
use Rattle.queries.specs.Look as look
use Rattle.outcomes.specs.Outcomes.{answer_code, wrong_length}
use Rattle.justrave.specs.Exported.{Stated, stated, posted, slot_words, slot_stated, slotted, run_stated, ran, started, started_of, figures_output, figured, chain_output, chained, look_output, account_exported, stands, standing_exported, lead_output, led, write_output, wrote}

-- a state with room for so many places, 1 to the largest N
pub record Fits (most room : ℕ) (s : State) : Type 0 where
  pub shaped : Shaped room s
  pub some : 1 ≤ room
  pub few : room ≤ most

-- ---- one call (clause 15.1)

abbrev pub PostByValue : Type 0
PostByValue =
    (most room : ℕ) (s : State) (p count : ℕ) → Fits most room s
    → posted most (state_words s) p count ≡ stated (called room s (post p count))

-- a start from a table's numbers is the start of the table, in words with room for as many rows
abbrev pub StartByValue : Type 0
StartByValue =
    (most : ℕ) (t : Table) (first : ℕ) (words : List ℕ) → right_length most words ≡ true → length t.requestors ≡ room_of_words words
    → started_of most (all_numbers t) first words ≡ stated (start (room_of_words words) t first)

-- clause 4.2: a start from accepted bytes, and one from the numbers of the table that was read
abbrev pub StartsAgree : Type 0
StartsAgree =
    (most : ℕ) (bytes : List ℕ) (first : ℕ) (words : List ℕ) → (read_table (room_of_words words) bytes).answer ≡ accepted
    → started most bytes first words ≡ started_of most (all_numbers (read_table (room_of_words words) bytes).table) first words

-- `old` is the lent answer; one of a wrong length is 255
abbrev pub SlotByValue : Type 0
SlotByValue =
    (most room : ℕ) (s : State) (old : List ℕ) → Fits most room s → length old ≡ 2
    → slotted most (state_words s) old ≡ slot_stated old (called room s slot)

abbrev pub RunByValue : Type 0
RunByValue = (most room : ℕ) (s : State) (log : List ℕ) → Fits most room s → ran most (state_words s) log ≡ run_stated (run room s log)

abbrev pub FiguresByValue : Type 0
FiguresByValue =
    (most room : ℕ) (s : State) (p j : ℕ) (old : List ℕ) → Fits most room s → length old ≡ 2
    → figured most (state_words s) p j old ≡ figures_output old (queries.figures room s p j)

-- as many names are lent as the words have room for places
abbrev pub ChainByValue : Type 0
ChainByValue =
    (most room : ℕ) (s : State) (p : ℕ) (names old : List ℕ) → Fits most room s → length old ≡ 1 → length names ≡ room
    → chained most (state_words s) p names old ≡ chain_output old (chains.chain room s p names)

abbrev pub AccountByValue : Type 0
AccountByValue =
    (most room : ℕ) (s : State) (p : ℕ) (old : List ℕ) → Fits most room s → length old ≡ 2
    → account_exported most (state_words s) p old ≡ look_output old (look.account_query room s p)

abbrev pub StandingByValue : Type 0
StandingByValue =
    (most room : ℕ) (s : State) (old : List ℕ) → Fits most room s → length old ≡ 2
    → standing_exported most (state_words s) old ≡ stands old (look.standing room s)

abbrev pub LeadByValue : Type 0
LeadByValue =
    (most room : ℕ) (s : State) (p : ℕ) (log : List ℕ) (old : List ℤ) → Fits most room s → length old ≡ 1
    → led most (state_words s) p log old ≡ lead_output old (leads.lead_query room s p log)

-- the writer takes a table and no state, so that 23 is the boundary's own test here
abbrev pub WriteByValue : Type 0
WriteByValue =
    (most room : ℕ) (s : State) (buffer old : List ℕ) → Fits most room s → length old ≡ 1 → sound room s ≡ true
    → wrote most (state_words s) buffer old ≡ write_output old (writing.write_table room s.table buffer)

-- ---- calls in a row (clause 15.1)

-- what a main loop lends, call after call
pub record Buffers : Type 0 where
  pub words : List ℕ
  pub answer : List ℕ

-- a post or a slot on them, and the outcome; a post is lent no answer
abbrev pub call_on_buffers : ℕ → Buffers → Call → Result Buffers ℕ
call_on_buffers most buffers (post p count) =
    let r = posted most buffers.words p count in
    record { state = record { words = r.words; answer = buffers.answer }; answer = r.outcome }
call_on_buffers most buffers slot =
    let r = slotted most buffers.words buffers.answer in
    record { state = record { words = r.words; answer = r.answer }; answer = r.outcome }

-- the lent answer after calls by value that answered so: each slot that was not refused writes over it
unfoldable pub last_output : (old : List ℕ) → List Answer → List ℕ
last_output old [] = old
last_output old (a ∷ rest) = last_output (slot_words old a) rest

-- Any list of posts and slots, refused ones too: the words at the end are those of the state at the end, each outcome is the answer's, and
-- the lent answer is what the last slot put there. A run is so many slots (guarantees, RunSlots).
abbrev pub CallsInARow : Type 0
CallsInARow =
    (most room : ℕ) (s : State) (old : List ℕ) (calls : List Call) → Fits most room s → length old ≡ 2
    → let buffers : Buffers = record { words = state_words s; answer = old } in
    let answered = answers (called room) s calls in
    (end (call_on_buffers most) buffers calls ≡ record { words = state_words (end (called room) s calls); answer = last_output old answered })
    × (answers (call_on_buffers most) buffers calls ≡ map answer_code answered)

-- clause 15.1: the state whose words a start leaves, whatever the bytes or the numbers, is one that the claims above hold for
abbrev pub StartShaped : Type 0
StartShaped = (room : ℕ) (bytes : List ℕ) (first : ℕ) → Shaped room (begun room (read_table room bytes) first).state

abbrev pub StartOfNumbersShaped : Type 0
StartOfNumbersShaped = (room : ℕ) (numbers : List ℕ) (first : ℕ) → Shaped room (start room (numbers_table room numbers) first).state

-- ---- 255 and 23

-- clause 15.3: 255 is the outcome exactly where the lent words, an old state's words, the lent answer, the numbers or the names have a
-- wrong length
abbrev pub Exactly255 : (lengths : Bool) → (outcome : ℕ) → Type 0
Exactly255 lengths outcome = (lengths ≡ false → outcome ≡ wrong_length) × (outcome ≡ wrong_length → lengths ≡ false)

pub record Lengths (most : ℕ) (words : List ℕ) : Type 0 where
  pub start : (bytes : List ℕ) (first : ℕ) → Exactly255 (right_length most words) (started most bytes first words).outcome
  pub numbers : (numbers : List ℕ) (first : ℕ)
      → Exactly255 (right_length most words && right_numbers (room_of_words words) numbers) (started_of most numbers first words).outcome
  pub post : (p count : ℕ) → Exactly255 (right_length most words) (posted most words p count).outcome
  pub slot : (old : List ℕ) → Exactly255 (right_length most words && eqb (length old) 2) (slotted most words old).outcome
  pub run : (log : List ℕ) → Exactly255 (right_length most words) (ran most words log).outcome
  pub figures : (p j : ℕ) (old : List ℕ) → Exactly255 (right_length most words && eqb (length old) 2) (figured most words p j old).outcome
  pub chain : (p : ℕ) (names old : List ℕ)
      → Exactly255 (right_length most words && (eqb (length old) 1 && eqb (length names) (room_of_words words))) (chained most words p names old).outcome
  pub account : (p : ℕ) (old : List ℕ) → Exactly255 (right_length most words && eqb (length old) 2) (account_exported most words p old).outcome
  pub standing : (old : List ℕ) → Exactly255 (right_length most words && eqb (length old) 2) (standing_exported most words old).outcome
  pub lead : (p : ℕ) (log : List ℕ) (old : List ℤ) → Exactly255 (right_length most words && eqb (length old) 1) (led most words p log old).outcome
  pub write : (buffer old : List ℕ) → Exactly255 (right_length most words && eqb (length old) 1) (wrote most words buffer old).outcome

-- clauses 12.255 and 15.3
abbrev pub WrongLength : Type 0
WrongLength = (most : ℕ) (words : List ℕ) → Lengths most words

-- clause 11.1: with the right lengths, words that are no sound state's are 23 in every call, whatever else is handed in
pub record Broken (most : ℕ) (words : List ℕ) : Type 0 where
  pub post : (p count : ℕ) → (posted most words p count).outcome ≡ 23
  pub slot : (old : List ℕ) → length old ≡ 2 → (slotted most words old).outcome ≡ 23
  pub run : (log : List ℕ) → (ran most words log).outcome ≡ 23
  pub figures : (p j : ℕ) (old : List ℕ) → length old ≡ 2 → (figured most words p j old).outcome ≡ 23
  pub chain : (p : ℕ) (names old : List ℕ) → length old ≡ 1 → length names ≡ room_of_words words → (chained most words p names old).outcome ≡ 23
  pub account : (p : ℕ) (old : List ℕ) → length old ≡ 2 → (account_exported most words p old).outcome ≡ 23
  pub standing : (old : List ℕ) → length old ≡ 2 → (standing_exported most words old).outcome ≡ 23
  pub lead : (p : ℕ) (log : List ℕ) (old : List ℤ) → length old ≡ 1 → (led most words p log old).outcome ≡ 23
  pub write : (buffer old : List ℕ) → length old ≡ 1 → (wrote most words buffer old).outcome ≡ 23

abbrev pub BrokenWords : Type 0
BrokenWords = (most : ℕ) (words : List ℕ) → right_length most words ≡ true → sound (room_of_words words) (state_of words) ≡ false → Broken most words

-- ---- what was not carried out (clause 1.5)

abbrev pub Refused : (outcome : ℕ) → Type 0
Refused outcome = outcome ≡ 0 → ⊥

abbrev pub PostRefused : Type 0
PostRefused =
    (most : ℕ) (words : List ℕ) (p count : ℕ) → let r = posted most words p count in
    Refused r.outcome → r.words ≡ words

abbrev pub SlotRefused : Type 0
SlotRefused =
    (most : ℕ) (words old : List ℕ) → let r = slotted most words old in
    Refused r.outcome → (r.words ≡ words) × (r.answer ≡ old)

abbrev pub RunRefused : Type 0
RunRefused =
    (most : ℕ) (words log : List ℕ) → let r = ran most words log in
    Refused r.outcome → (r.words ≡ words) × (r.log ≡ log)

abbrev pub FiguresRefused : Type 0
FiguresRefused =
    (most : ℕ) (words : List ℕ) (p j : ℕ) (old : List ℕ) → let r = figured most words p j old in
    Refused r.outcome → r.answer ≡ old

abbrev pub ChainRefused : Type 0
ChainRefused =
    (most : ℕ) (words : List ℕ) (p : ℕ) (names old : List ℕ) → let r = chained most words p names old in
    Refused r.outcome → r.answer ≡ old

abbrev pub AccountRefused : Type 0
AccountRefused =
    (most : ℕ) (words : List ℕ) (p : ℕ) (old : List ℕ) → let r = account_exported most words p old in
    Refused r.outcome → r.answer ≡ old

abbrev pub StandingRefused : Type 0
StandingRefused =
    (most : ℕ) (words old : List ℕ) → let r = standing_exported most words old in
    Refused r.outcome → r.answer ≡ old

abbrev pub LeadRefused : Type 0
LeadRefused =
    (most : ℕ) (words : List ℕ) (p : ℕ) (log : List ℕ) (old : List ℤ) → let r = led most words p log old in
    Refused r.outcome → r.answer ≡ old

abbrev pub WriteRefused : Type 0
WriteRefused =
    (most : ℕ) (words buffer old : List ℕ) → let r = wrote most words buffer old in
    Refused r.outcome → (r.buffer ≡ buffer) × (r.answer ≡ old)

-- clause 1.6: a refused start clears the words; 255 leaves them as they were
abbrev pub Clears : (words : List ℕ) → Stated → Type 0
Clears words r =
    (Refused r.outcome → (r.outcome ≡ wrong_length → ⊥) → r.words ≡ replicate (length words) 0)
    × (r.outcome ≡ wrong_length → r.words ≡ words)

abbrev pub StartRefused : Type 0
StartRefused = (most : ℕ) (bytes : List ℕ) (first : ℕ) (words : List ℕ) → Clears words (started most bytes first words)

abbrev pub StartOfNumbersRefused : Type 0
StartOfNumbersRefused = (most : ℕ) (numbers : List ℕ) (first : ℕ) (words : List ℕ) → Clears words (started_of most numbers first words)
