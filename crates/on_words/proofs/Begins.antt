-- Outcome 0 means an accepted start: a wrong length is 255, and no refusal's outcome is 0. Assumes nothing.
use Rattle.std.proofs.Common.{◌≡◌, refl, ap, sym, ◌∙◌, Bool, true, false, ◌&&◌, List, ℕ, arith, length}
use Rattle.lists.specs.Runs.{Result}
use Rattle.terms.specs.declared.refusals.Refusal.{Refusal}
use Rattle.terms.specs.Table.{Table}
use Rattle.terms.specs.State.{State}
use Rattle.terms.specs.Answers.{Answer, accepted, refused}
use Rattle.terms.specs.Start.{start}
use Rattle.layout.specs.Words.{room_of_words, right_length, state_words}
use Rattle.layout.specs.Numbers.{right_numbers, numbers_row, numbers_table}
use Rattle.layout.proofs.Items.{length_places}
use Rattle.table_bytes.specs.Reading.{read_table}
use Rattle.table_bytes.proofs.Opened.{rows_taken, table_open, Ends, turned_down_lem, carried_out, read_ends}
use Rattle.starts.specs.Starts.{begun}
use Rattle.outcomes.specs.Outcomes.{answer_code}
use Rattle.outcomes.specs.Places.{of_a_table, AmongRefusals}
use Rattle.outcomes.proofs.Places.{table_any, code_apart, start_names_below, table_start_names_below}
use Rattle.guarantees.specs.Counts.{Accepted}
use Rattle.guarantees.proofs.Start.{start_ends}
use Rattle.guarantees.proofs.ServiceBounds.{service_bounds}
use Rattle.justrave.specs.Exported.{leaves, started, started_of}
use Rattle.on_words.specs.Begins.{Begins, BytesBeginServiceBounds, NumbersBeginServiceBounds, AcceptedBytesTell0, AcceptedNumbersTell0}

-- lengths that hold, and an answer that is no refusal
left : {X : Type 0} (lengths : Bool) (words : List ℕ) (made : Result State Answer) → (leaves lengths words made).outcome ≡ 0
    → (answer_code made.answer ≡ 0 → (leaves lengths words made).words ≡ state_words made.state → X) → X
unfolding leaves
left true words made e go = go e refl
left false words made e go = absurd (omega arith)

no_refusal : {X : Type 0} (limit : ℕ) (a : Answer) (r : Refusal) → a ≡ refused r → AmongRefusals of_a_table limit r → answer_code a ≡ 0 → X
no_refusal limit a r e told f = absurd ((code_apart limit r (table_any told)).0 (sym (ap answer_code e) ∙ f))

-- a start of a table
table_begins : (limit : ℕ) (t : Table) (first : ℕ) (words : List ℕ) → length t.requestors ≡ limit → answer_code (start limit t first).answer ≡ 0
    → words ≡ state_words (start limit t first).state → Begins limit t first words
table_begins limit t first words rows e w = start_ends limit t first
    (λ ok.
    let a : Accepted limit t first = record { rows = rows; answer = ok } in
    record { start_accepted = a; words_are = w; service_bounds = service_bounds limit t first a })
    (λ r not. no_refusal limit (start limit t first).answer r not (table_start_names_below limit t first r not) e)

bytes_begin : (limit : ℕ) (bytes : List ℕ) (first : ℕ) (words : List ℕ) → Ends limit bytes → answer_code (begun limit (read_table limit bytes) first).answer ≡ 0
    → words ≡ state_words (begun limit (read_table limit bytes) first).state → Begins limit (read_table limit bytes).table first words
unfolding begun
bytes_begin limit bytes first words (turned_down_lem why r) e w =
    no_refusal limit (begun limit (read_table limit bytes) first).answer why (rw r) (start_names_below limit bytes first why (rw r)) e
bytes_begin limit bytes first words (carried_out t r ok) e w =
    rw r (table_begins limit t first words (rows_taken (table_open limit bytes t r).taken) (rw r at e) (rw r at w))

pub bytes_begin_service_bounds : BytesBeginServiceBounds
unfolding started
bytes_begin_service_bounds most bytes first words e =
    left (right_length most words) words (begun (room_of_words words) (read_table (room_of_words words) bytes) first) e (λ f w. bytes_begin (room_of_words words) bytes first _ (read_ends (room_of_words words) bytes) f w)

pub numbers_begin_service_bounds : NumbersBeginServiceBounds
unfolding started_of numbers_table
numbers_begin_service_bounds most numbers first words e =
    left (right_length most words && right_numbers (room_of_words words) numbers) words (start (room_of_words words) (numbers_table (room_of_words words) numbers) first) e
    (λ f w. table_begins (room_of_words words) (numbers_table (room_of_words words) numbers) first _ (length_places (numbers_row numbers) 0 (room_of_words words)) f w)

-- ---- and an accepted start tells 0

left_accepted : (lengths : Bool) (words : List ℕ) (made : Result State Answer) → lengths ≡ true → made.answer ≡ accepted → (leaves lengths words made).outcome ≡ 0
unfolding leaves
left_accepted lengths words made e f = rw (e, f)

pub accepted_bytes_tell_0 : AcceptedBytesTell0
unfolding started
accepted_bytes_tell_0 most bytes first words right a = left_accepted (right_length most words) words (begun (room_of_words words) (read_table (room_of_words words) bytes) first) right a

pub accepted_numbers_tell_0 : AcceptedNumbersTell0
unfolding started_of
accepted_numbers_tell_0 most numbers first words right these a =
    left_accepted (right_length most words && right_numbers (room_of_words words) numbers) words (start (room_of_words words) (numbers_table (room_of_words words) numbers) first) (rw (right, these)) a
