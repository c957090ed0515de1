-- A step's text in a lent buffer (clause 14.5). A buffer with so much room takes any step's text; with less the step does nothing and
-- says so.
use Rattle.std.specs.Prelude.{List, ℕ, ◌+◌, ◌*◌, leb, length, take}
use Rattle.lists.specs.Choices.{pick}
use Rattle.lists.specs.Overwriting.{written_over}
use Rattle.terms.specs.State.{State}
use Rattle.listing.specs.declared.steps.Output.{Output}
use Rattle.listing.specs.declared.steps.Output.TheVariants.{More, Last, NoRoom}
use Rattle.listing.specs.declared.steps.StepResult.{StepResult}
use Rattle.arbiter.specs.ByValue.{held}
use Rattle.lines.specs.Text.{max_earlier}
use Rattle.listing.specs.Listing.{Step, more, last}

-- an item: its digits, and the space or the line feed behind it
abbrev pub item_room : ℕ
item_room = 2 + max_earlier

-- room for any step's text, where `limit` is the largest N: a line has at most a stamp, a place, and a credit to each place
abbrev pub line_room : ℕ → ℕ
line_room limit = (2 + limit) * item_room

abbrev pub text_of : Step → List ℕ
text_of (more text s rest) = text
text_of (last text s) = text

-- what a step comes to, and the buffer afterwards
pub data Outcome : Type 0 where
  written_out : Step → (buffer : List ℕ) → Outcome
  no_room : State → (buffer : List ℕ) → Outcome

-- the step's text is written at the buffer's start
abbrev pub written : Step → (old : List ℕ) → Outcome
written t old = written_out t (written_over (text_of t) old)

abbrev pub in_buffer : ℕ → Step → (given : State) → (old : List ℕ) → Outcome
in_buffer limit t given old = pick (leb (line_room limit) (length old)) (written t old) (no_room given old)

-- the code's result and the lent buffer in these values
abbrev pub output_of : Output → State → (buffer : List ℕ) → Outcome
output_of (More wrote rest) s buffer = written_out (more (take wrote buffer) s rest.now) buffer
output_of (Last wrote) s buffer = written_out (last (take wrote buffer) s) buffer
output_of NoRoom s buffer = no_room s buffer

abbrev pub outcome_of : StepResult → (buffer : List ℕ) → Outcome
outcome_of r buffer = output_of r.output (held r.state) buffer

-- how many bytes of the buffer a step wrote
abbrev pub wrote_by : Output → ℕ
wrote_by (More wrote rest) = wrote
wrote_by (Last wrote) = wrote
wrote_by NoRoom = 0
