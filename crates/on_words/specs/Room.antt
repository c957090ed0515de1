-- Clause 15.2: room makes no difference. Behind its N places a state's words may have room for more, which is zeros. With more zeros behind
-- them, up to the largest N, each call tells the same, and leaves the same words in front of as many zeros. Read the other way round: zeros
-- behind may be left away. So it is with any words of a right length, and not a sound state's alone: the others are 23 both ways. Those
-- among them whose N is above their room are so with more room too, since the zeros that N then counts as a place are no requestor's: its
-- rate is 0. A start can tell the room, by 2, where it is too little for N; and a carrying over, by 255. `most` is the largest N where the
-- zeros are put behind, and `old_most` where they are not: in one unit the same, and beside an old unit that one's.
use Rattle.std.specs.Prelude.{◌≡◌, true, List, ◌++◌, ℕ, ◌+◌, ◌*◌, ◌≤◌, ℤ, length, replicate}
use Rattle.lists.specs.Runs.{end, answers}
use Rattle.rule.specs.Calls.{Call}
use Rattle.layout.specs.Words.{room_of_words, right_length}
use Rattle.justrave.specs.Exported.{Stated, posted, Slotted, slotted, Ran, ran, started, started_of, figured, chained, account_exported, standing_exported, led, wrote}
use Rattle.on_words.specs.Claims.{Buffers, call_on_buffers}

-- the words with room for so many places more
abbrev pub more : (extra : ℕ) → List ℕ → List ℕ
more extra words = words ++ replicate (6 * extra) 0

-- a table's numbers with room for so many places more
abbrev pub more_numbers : (extra : ℕ) → List ℕ → List ℕ
more_numbers extra numbers = numbers ++ replicate (4 * extra) 0

-- what is left with so much more room, where this is left without
abbrev pub stated_more : (extra : ℕ) → Stated → Stated
stated_more extra r = record { words = more extra r.words; outcome = r.outcome }

abbrev pub slotted_more : (extra : ℕ) → Slotted → Slotted
slotted_more extra r = record { words = more extra r.words; answer = r.answer; outcome = r.outcome }

abbrev pub ran_more : (extra : ℕ) → Ran → Ran
ran_more extra r = record { words = more extra r.words; log = r.log; outcome = r.outcome }

-- a start comes to the same, unless it is refused 2: with more room there may be room for N
abbrev pub Unless2 : (extra : ℕ) → (without within : Stated) → Type 0
Unless2 extra without within = (without.outcome ≡ 2 → ⊥) → within ≡ stated_more extra without

pub record Alike (old_most most extra : ℕ) (words : List ℕ) : Type 0 where
  -- the calls that change a state
  pub post : (p count : ℕ) → posted most (more extra words) p count ≡ stated_more extra (posted old_most words p count)
  pub slot : (old : List ℕ) → slotted most (more extra words) old ≡ slotted_more extra (slotted old_most words old)
  pub run : (log : List ℕ) → ran most (more extra words) log ≡ ran_more extra (ran old_most words log)
  -- those that make one
  pub start : (bytes : List ℕ) (first : ℕ) → Unless2 extra (started old_most bytes first words) (started most bytes first (more extra words))
  pub numbers : (numbers : List ℕ) (first : ℕ)
      → Unless2 extra (started_of old_most numbers first words) (started_of most (more_numbers extra numbers) first (more extra words))
  -- the queries
  pub figures : (p j : ℕ) (old : List ℕ) → figured most (more extra words) p j old ≡ figured old_most words p j old
  -- each further place has a name, and whatever these are makes no difference
  pub chain : (p : ℕ) (names past old : List ℕ) → length past ≡ extra → chained most (more extra words) p (names ++ past) old ≡ chained old_most words p names old
  pub account : (p : ℕ) (old : List ℕ) → account_exported most (more extra words) p old ≡ account_exported old_most words p old
  pub standing : (old : List ℕ) → standing_exported most (more extra words) old ≡ standing_exported old_most words old
  pub lead : (p : ℕ) (log : List ℕ) (old : List ℤ) → led most (more extra words) p log old ≡ led old_most words p log old
  pub write : (buffer old : List ℕ) → wrote most (more extra words) buffer old ≡ wrote old_most words buffer old

-- clause 15.2
abbrev pub AnyRoom : Type 0
AnyRoom = (old_most most extra : ℕ) (words : List ℕ) → right_length old_most words ≡ true → room_of_words words + extra ≤ most → Alike old_most most extra words

-- clause 15.2 of any list of posts and slots: the words at the end, the lent answer, and each outcome
abbrev pub AnyRoomInARow : Type 0
AnyRoomInARow =
    (old_most most extra : ℕ) (buffers : Buffers) (calls : List Call) → right_length old_most buffers.words ≡ true → room_of_words buffers.words + extra ≤ most
    → let roomy : Buffers = record { words = more extra buffers.words; answer = buffers.answer } in
    let last = end (call_on_buffers old_most) buffers calls in
    (end (call_on_buffers most) roomy calls ≡ record { words = more extra last.words; answer = last.answer })
    × (answers (call_on_buffers most) roomy calls ≡ answers (call_on_buffers old_most) buffers calls)
