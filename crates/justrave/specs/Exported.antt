-- What each call for firmware does to the memory that is lent to it (clauses 15.3 and 15.5), and its outcome, one number (clause 15.4). The
-- calls are those by value on the state that the words are (clause 15.1); how many places the words have room for is the `limit` of each
-- (clause 15.2). One of those with an outcome is lent no state: it puts a table's bytes in order; and one makes a state of an old state's
-- words, whose room is the limit of its check. `most` is the largest N. What is said of memory is said of it at exit; that lent memory does
-- not overlap is the caller's part (clause 15.7), in Rattle and Rust by its types.
use Rattle.std.specs.Prelude.{Bool, true, ◌&&◌, List, [], ◌∷◌, ℕ, ◌+◌, eqb, ℤ, length}
use Rattle.lists.specs.Choices.{pick, in_range}
use Rattle.lists.specs.Runs.{Result}
use Rattle.terms.specs.declared.place.Account.{Account}
use Rattle.terms.specs.State.{State, credit, backlog, sound}
use Rattle.terms.specs.Refusals.{refusal}
use Rattle.terms.specs.Answers.{Answer, accepted, granted, idle, refused}
use Rattle.terms.specs.Start.{start}
use Rattle.carrying.specs.Carry.{carry}
use Rattle.terms.specs.Queries as queries
use Rattle.terms.specs.Chain as chains
use Rattle.lead_parts.specs.Lead as leads
use Rattle.table_bytes.specs.Reading.{read_table}
use Rattle.table_bytes.specs.Writing as writing
use Rattle.rule.specs.Calls.{post, slot, called}
use Rattle.rule.specs.Log.{Outcome, run}
use Rattle.layout.specs.Words.{word_count, room_of_words, right_length, state_words, state_of}
use Rattle.layout.specs.Numbers.{numbers_table, right_numbers}
use Rattle.starts.specs.Starts.{begun}
use Rattle.carrying.specs.OldWords.{old_room_of, old_state_of}
use Rattle.carrying.specs.Fits.{fits_into}
use Rattle.ordered_bytes.specs.OrderBytes.{order_bytes}
use Rattle.queries.specs.Look as look
use Rattle.outcomes.specs.Outcomes.{refusal_code, answer_code, wrong_length}

-- clause 15.1: the words of a state with room for so many places, 1 to `most`; 0 where no state has that room
abbrev pub size_of : (most places : ℕ) → ℕ
size_of most places = pick (in_range 1 most places) (word_count places) 0

-- A call on the state that the words are, with their room for its limit; or what comes of a wrong length of the words or of what is lent
-- beside them (clause 15.3).
unfoldable pub on_state : {X : Type 0} → (most : ℕ) → (words : List ℕ) → (beside : Bool) → (turned_down : X) → ((limit : ℕ) → State → X) → X
on_state most words beside turned_down call = pick (right_length most words && beside) (call (room_of_words words) (state_of words)) turned_down

-- ---- the calls that change the state (clause 15.5). A refused call hands back its state, so its words are the same (layout, RoundTrip).

pub record Stated : Type 0 where
  pub words : List ℕ
  pub outcome : ℕ

abbrev pub stated : Result State Answer → Stated
stated r = record { words = state_words r.state; outcome = answer_code r.answer }

unfoldable pub posted : (most : ℕ) → (words : List ℕ) → (place count : ℕ) → Stated
posted most words p count =
    on_state most words true (record { words = words; outcome = wrong_length })
    λ limit s. stated (called limit s (post p count))

pub record Slotted : Type 0 where
  pub words : List ℕ
  pub answer : List ℕ
  pub outcome : ℕ

-- clause 15.5: the stamp, and the place granted + 1 or 0 for idle; a refused slot leaves the lent answer as it was
abbrev pub slot_words : (old : List ℕ) → Answer → List ℕ
slot_words old (granted stamp p) = stamp ∷ (p + 1) ∷ []
slot_words old (idle stamp) = stamp ∷ 0 ∷ []
slot_words old accepted = old
slot_words old (refused r) = old

abbrev pub slot_stated : (old : List ℕ) → Result State Answer → Slotted
slot_stated old r = record { words = state_words r.state; answer = slot_words old r.answer; outcome = answer_code r.answer }

unfoldable pub slotted : (most : ℕ) → (words old : List ℕ) → Slotted
slotted most words old =
    on_state most words (eqb (length old) 2) (record { words = words; answer = old; outcome = wrong_length })
    λ limit s. slot_stated old (called limit s slot)

pub record Ran : Type 0 where
  pub words : List ℕ
  pub log : List ℕ
  pub outcome : ℕ

abbrev pub run_stated : Outcome → Ran
run_stated r = record { words = state_words r.state; log = r.log; outcome = answer_code r.answer }

unfoldable pub ran : (most : ℕ) → (words log : List ℕ) → Ran
ran most words log =
    on_state most words true (record { words = words; log = log; outcome = wrong_length })
    λ limit s. run_stated (run limit s log)

-- ---- the calls that make a state. What the words held before does not matter; refused, they are all 0 (clause 1.6).

-- what such a call leaves in the lent words, or what comes of a wrong length (clause 15.3)
unfoldable pub leaves : (lengths : Bool) → (words : List ℕ) → Result State Answer → Stated
leaves lengths words made = pick lengths (stated made) (record { words = words; outcome = wrong_length })

-- from a table's bytes (clause 4.2)
unfoldable pub started : (most : ℕ) → (bytes : List ℕ) → (first : ℕ) → (words : List ℕ) → Stated
started most bytes first words = leaves (right_length most words) words (begun (room_of_words words) (read_table (room_of_words words) bytes) first)

-- from a table given as numbers (clause 4.1)
unfoldable pub started_of : (most : ℕ) → (numbers : List ℕ) → (first : ℕ) → (words : List ℕ) → Stated
started_of most numbers first words =
    leaves (right_length most words && right_numbers (room_of_words words) numbers) words (start (room_of_words words) (numbers_table (room_of_words words) numbers) first)

-- from an old state's words, with room for at least as many places (clause 11.4)
unfoldable pub carried_over : (old_most most : ℕ) → (old words : List ℕ) → Stated
carried_over old_most most old words =
    leaves (fits_into old_most most old words) words (carry (old_room_of old) (room_of_words words) (old_state_of old))

-- ---- the calls that ask (clause 15.5): the state stays as it is, and a refused one leaves the lent answer as it was

pub record Figured : Type 0 where
  pub answer : List ℕ
  pub outcome : ℕ

-- clause 15.5: the reported wait, and the finish figure
abbrev pub figures_output : (old : List ℕ) → queries.FiguresAnswer → Figured
figures_output old (queries.figured wait finish) = record { answer = wait ∷ finish ∷ []; outcome = 0 }
figures_output old (queries.refused r) = record { answer = old; outcome = refusal_code r }

unfoldable pub figured : (most : ℕ) → (words : List ℕ) → (place j : ℕ) → (old : List ℕ) → Figured
figured most words p j old =
    on_state most words (eqb (length old) 2) (record { answer = old; outcome = wrong_length })
    λ limit s. figures_output old (queries.figures limit s p j)

-- clause 15.5: the chain figure
abbrev pub chain_output : (old : List ℕ) → chains.ChainAnswer → Figured
chain_output old (chains.figured figure) = record { answer = figure ∷ []; outcome = 0 }
chain_output old (chains.refused r) = record { answer = old; outcome = refusal_code r }

-- as many names are lent as the words have room for places (clause 15.3)
unfoldable pub chained : (most : ℕ) → (words : List ℕ) → (place : ℕ) → (names old : List ℕ) → Figured
chained most words p names old =
    on_state most words (eqb (length old) 1 && eqb (length names) (room_of_words words)) (record { answer = old; outcome = wrong_length })
    λ limit s. chain_output old (chains.chain limit s p names)

-- clause 15.5: the credit and the backlog of a place
abbrev pub look_output : (old : List ℕ) → look.Looked Account → Figured
look_output old (look.looked a) = record { answer = credit a ∷ backlog a ∷ []; outcome = 0 }
look_output old (look.refused r) = record { answer = old; outcome = refusal_code r }

unfoldable pub account_exported : (most : ℕ) → (words : List ℕ) → (place : ℕ) → (old : List ℕ) → Figured
account_exported most words p old =
    on_state most words (eqb (length old) 2) (record { answer = old; outcome = wrong_length })
    λ limit s. look_output old (look.account_query limit s p)

-- clause 15.5: the slot number and N
abbrev pub stands : (old : List ℕ) → look.Looked look.Standing → Figured
stands old (look.looked x) = record { answer = x.slot ∷ x.count ∷ []; outcome = 0 }
stands old (look.refused r) = record { answer = old; outcome = refusal_code r }

unfoldable pub standing_exported : (most : ℕ) → (words old : List ℕ) → Figured
standing_exported most words old =
    on_state most words (eqb (length old) 2) (record { answer = old; outcome = wrong_length })
    λ limit s. stands old (look.standing limit s)

pub record Led : Type 0 where
  pub answer : List ℤ
  pub outcome : ℕ

-- clause 15.5: the lead
abbrev pub lead_output : (old : List ℤ) → leads.LeadAnswer → Led
lead_output old (leads.lead x) = record { answer = x ∷ []; outcome = 0 }
lead_output old (leads.refused r) = record { answer = old; outcome = refusal_code r }

unfoldable pub led : (most : ℕ) → (words : List ℕ) → (place : ℕ) → (log : List ℕ) → (old : List ℤ) → Led
led most words p log old =
    on_state most words (eqb (length old) 1) (record { answer = old; outcome = wrong_length })
    λ limit s. lead_output old (leads.lead_query limit s p log)

pub record Wrote : Type 0 where
  pub buffer : List ℕ
  pub answer : List ℕ
  pub outcome : ℕ

-- clause 15.5: how many bytes were written
abbrev pub write_words : (old : List ℕ) → writing.WriteAnswer → List ℕ
write_words old (writing.wrote bytes) = bytes ∷ []
write_words old (writing.refused r) = old

abbrev pub write_code : writing.WriteAnswer → ℕ
write_code (writing.wrote bytes) = 0
write_code (writing.refused r) = refusal_code r

abbrev pub write_output : (old : List ℕ) → writing.TableWritten → Wrote
write_output old w = record { buffer = w.buffer; answer = write_words old w.answer; outcome = write_code w.answer }

-- the table of the state, and ahead of the writer's own checks test 23 (clause 13.4)
unfoldable pub wrote : (most : ℕ) → (words buffer old : List ℕ) → Wrote
wrote most words buffer old =
    on_state most words (eqb (length old) 1) (record { buffer = buffer; answer = old; outcome = wrong_length })
    λ limit s. pick (sound limit s)
    (write_output old (writing.write_table limit s.table buffer))
    (record { buffer = buffer; answer = old; outcome = refusal_code (refusal 23) })

-- ---- the call that puts a table in order (clause 15.5): no state is lent

-- clause 8.3: the bytes of the table in order, and how many they are; `most` places are room for any table (clause 15.2)
unfoldable pub ordered : (most : ℕ) → (bytes buffer old : List ℕ) → Wrote
ordered most bytes buffer old =
    pick (eqb (length old) 1)
    (write_output old (order_bytes most bytes buffer))
    (record { buffer = buffer; answer = old; outcome = wrong_length })
