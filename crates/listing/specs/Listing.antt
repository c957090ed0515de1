-- What slotlist prints is `listing` of its input bytes (clauses 14.1 to 14.4). It is told in steps: each has a text, and is the last one or
-- hands on a state and the rest of the input. A step is the program's telling of its calls and no call itself: a refusal is a line here.
-- What a step reads of the input stands in reads. `limit` is the largest N throughout.
use Rattle.std.specs.Prelude.{List, [], ◌∷◌, ◌++◌, ℕ, Some, None, zero, suc, eqb, length}
use Rattle.lists.specs.Choices.{pick}
use Rattle.lists.specs.Runs.{Result}
use Rattle.terms.specs.State.{State, sound}
use Rattle.terms.specs.Refusals.{refusal}
use Rattle.terms.specs.Answers.{Answer, accepted, granted, idle, refused, unless}
use Rattle.terms.specs.Start.{no_state}
use Rattle.table_bytes.specs.Reading.{Read, read, stop}
use Rattle.rule.specs.Calls.{post, slot, called}
use Rattle.lines.specs.Lines.{header, end_line, refused_line, slot_line}
use Rattle.reads.specs.Reads.{counts_read, begun}

pub data Step : Type 0 where
  -- print the text, and go on from this state with the rest of the input
  more : (text : List ℕ) → State → (rest : List ℕ) → Step
  -- print the text, and stop with this state
  last : (text : List ℕ) → State → Step

-- ---- a slot

-- clause 14.1: the counts are posted from place p on, until one is refused
unfoldable pub posted : ℕ → State → (p : ℕ) → (counts : List ℕ) → Result State Answer
posted limit s p [] = record { state = s; answer = accepted }
posted limit s p (count ∷ counts) =
    let one = called limit s (post p count) in
    unless one.answer (λ why. one) (posted limit one.state (suc p) counts)

-- clause 14.1: and then the slot is done
unfoldable pub post_and_slot : ℕ → State → (counts : List ℕ) → Result State Answer
post_and_slot limit s counts =
    let filled = posted limit s 0 counts in
    unless filled.answer (λ why. filled) (called limit filled.state slot)

-- Clauses 14.2 and 14.3: a slot's line and the state after it, or a refusal's in its place and the state before the slot's counts. A slot
-- is never just accepted.
unfoldable pub slot_output : (before : State) → Answer → (after : State) → (rest : List ℕ) → Step
slot_output before (granted stamp p) after rest = more (slot_line stamp (Some p) after) after rest
slot_output before (idle stamp) after rest = more (slot_line stamp None after) after rest
slot_output before (refused why) after rest = last (refused_line why) before
slot_output before accepted after rest = last [] before

-- clauses 13.15 and 14.1: a slot's counts are all read, and only then posted
unfoldable pub slot_step : ℕ → State → Read (List ℕ) → Step
slot_step limit s (read counts rest) = let done = post_and_slot limit s counts in slot_output s done.answer done.state rest
slot_step limit s (stop why) = last (refused_line why) s

-- Clauses 13.15 and 14.2: one slot from the rest of the input, or the end where nothing is left of it. The program starts at slot 0, so the
-- slot number is the number of slots. A state that is not sound, which no accepted start makes and no step goes on with, is refused 23
-- ahead of all else (clause 14.5).
unfoldable pub step : ℕ → State → (rest : List ℕ) → Step
step limit s rest =
    pick (sound limit s)
    (pick (eqb (length rest) 0) (last (end_line s.slot.0) s) (slot_step limit s (counts_read s.table.count rest)))
    (last (refused_line (refusal 23)) s)

-- ---- the beginning

-- clause 14.2: the header is ahead of everything, a refusal too
unfoldable pub headed : ℕ → Read State → Step
headed limit (read s rest) = more header s rest
headed limit (stop why) = last (header ++ refused_line why) (no_state limit)

unfoldable pub first_step : ℕ → (input : List ℕ) → Step
first_step limit input = headed limit (begun limit input)

-- ---- all of it

-- a step's text and those of at most `follow` steps after it
unfoldable pub texts : ℕ → (follow : ℕ) → Step → List ℕ
texts limit zero (more text s rest) = text
texts limit zero (last text s) = text
texts limit (suc follow) (more text s rest) = text ++ texts limit follow (step limit s rest)
texts limit (suc follow) (last text s) = text

-- What slotlist prints: clauses 14.1 to 14.3, with an example in clause 14.4. Each step but the last takes a byte of the input at least, so
-- no more steps than bytes follow the first.
unfoldable pub listing : ℕ → (input : List ℕ) → List ℕ
listing limit input = texts limit (length input) (first_step limit input)
