-- What slotlist reads of its input (clause 14.1), with the checks that come up in it (clause 13.15). What is read comes to a value and the
-- rest of the input, or to a refusal. `limit` is the largest N throughout.
use Rattle.std.specs.Prelude.{List, ℕ, leb, length, take, drop}
use Rattle.lists.specs.Choices.{pick}
use Rattle.terms.specs.State.{State}
use Rattle.terms.specs.Refusals.{refusal, resolve}
use Rattle.terms.specs.Answers.{unless}
use Rattle.terms.specs.Start.{start}
use Rattle.terms.specs.Input.{input_verdict}
use Rattle.terms.specs.TableResult.{TableResult}
use Rattle.table_bytes.specs.Reading.{Read, read, stop, next, number_read, items_read, read_table}

-- ---- the beginning

-- clause 14.1: the table starts at slot 0, or is refused
unfoldable pub start_read : ℕ → TableResult → (rest : List ℕ) → Read State
start_read limit r rest =
    unless r.answer stop
    (let started = start limit r.table 0 in
    unless started.answer stop (read started.state rest))

-- clauses 12.8 and 14.1: the table's length, which is 8 if it passes the rest, and so many bytes of table
unfoldable pub state_read : ℕ → (input : List ℕ) → Read State
state_read limit input =
    next (number_read input) λ size rest.
    pick (leb size (length rest)) (start_read limit (read_table limit (take size rest)) (drop size rest)) (stop (refusal 8))

-- clause 13.15: 13 is ahead of all else
unfoldable pub begun : ℕ → (input : List ℕ) → Read State
begun limit input = resolve (input_verdict (length input)) (state_read limit input) stop

-- ---- a slot

-- clause 14.1: its N counts, each read from the bytes that the one before it left
abbrev pub counts_read : (n : ℕ) → List ℕ → Read (List ℕ)
counts_read n bytes = items_read (λ p rest. number_read rest) n 0 bytes
