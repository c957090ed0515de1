-- The calls on lent words as the calls by value, one by one and in a row; and what was not carried out. Assumes nothing.
use Rattle.std.proofs.Common.{◌≡◌, refl, ap, sym, ◌∙◌, Bool, true, false, ◌&&◌, List, [], ◌∷◌, ℕ, arith, eq-eqb, eqb, ℤ, length, replicate, Option, Some, None}
use lib.ListN.{length-replicate, length-map}
use Rattle.lists.specs.Choices.{pick}
use Rattle.lists.specs.Overwriting.{written_over}
use Rattle.lists.specs.Runs.{Result, end, answers}
use Rattle.lists.proofs.Tests.{cases, true_false, and_true, true_and}
use Rattle.terms.specs.declared.refusals.Refusal.{Refusal}
use Rattle.terms.specs.declared.place.Account.{Account}
use Rattle.terms.specs.State.{State, no_account, sound, Shaped, place_verdict}
use Rattle.terms.specs.Table.{Table, no_requestor, table_of}
use Rattle.terms.specs.Refusals.{Verdict, faultless, fault, refusal, gate, then, resolve}
use Rattle.terms.specs.Answers.{Answer, accepted, granted, idle, refused, unless, slot_answer}
use Rattle.terms.specs.Start.{fresh, opening, no_state, start_verdict, start, turned_down}
use Rattle.terms.specs.Queries as queries
use Rattle.terms.specs.Chain as chains
use Rattle.lead_parts.specs.Lead as leads
use Rattle.terms.specs.TableResult.{TableResult, accept, refuse}
use Rattle.table_bytes.specs.Reading.{Read, read, stop, numbers_read, last_verdict, settled, read_table}
use Rattle.table_bytes.specs.Writing as writing
use Rattle.table_bytes.proofs.Opened.{numbers_open, rows_taken}
use Rattle.rule.specs.Calls.{Call, post, slot, grant_of, done, rule_verdict, outcome, called}
use Rattle.rule.proofs.Verdicts.{called_unsound}
use Rattle.rule.specs.Log.{Outcome, slots_state, slots_log, run_verdict, run}
use Rattle.rule.proofs.Longer.{call_shaped}
use Rattle.rule.proofs.Logs.{run_unsound}
use Rattle.layout.specs.Words.{word_count, room_of_words, right_length, state_words, state_of}
use Rattle.layout.specs.Numbers.{all_numbers, numbers_row, numbers_table, right_numbers}
use Rattle.layout.proofs.Items.{length_places}
use Rattle.layout.proofs.RoundTrip.{right, words_read_back, words_of, state_written_back}
use Rattle.layout.proofs.Stores.{zero_state}
use Rattle.layout.proofs.TableNumbers.{numbers_read_back}
use Rattle.starts.specs.Starts.{begun}
use Rattle.queries.specs.Look as look
use Rattle.outcomes.specs.Outcomes.{refusal_code, answer_code, wrong_length}
use Rattle.outcomes.specs.Places.{of_any_call, AmongRefusals}
use Rattle.outcomes.proofs.Places.{table_any, state_any, chain_any, code_apart, start_names_below, table_start_names_below, calls_name_below, runs_name_below, leads_name_below, figures_name_below, chains_name_below, write_names_below, looks_name_below, standings_name_below}
use Rattle.justrave.specs.Exported.{on_state, Stated, posted, slot_words, Slotted, slotted, Ran, ran, leaves, started, started_of, Figured, figures_output, figured, chain_output, chained, look_output, account_exported, stands, standing_exported, lead_output, Led, led, Wrote, write_output, wrote}
use Rattle.on_words.specs.Claims.{Fits, PostByValue, StartByValue, StartsAgree, SlotByValue, RunByValue, FiguresByValue, ChainByValue, AccountByValue, StandingByValue, LeadByValue, WriteByValue, call_on_buffers, last_output, CallsInARow, Exactly255, Lengths, WrongLength, Broken, BrokenWords, StartShaped, StartOfNumbersShaped, Refused, Clears, PostRefused, SlotRefused, RunRefused, FiguresRefused, ChainRefused, AccountRefused, StandingRefused, LeadRefused, WriteRefused, StartRefused, StartOfNumbersRefused}

and_one : (b : Bool) → (b && true) ≡ b
and_one true = refl
and_one false = refl

-- ---- one call

-- a call on a state's words is the call on the state
module _ {X : Type 0} (most room : ℕ) (s : State) (beside : Bool) (down : X) (call : ℕ → State → X) where
  on_words : Fits most room s → beside ≡ true → on_state most (state_words s) beside down call ≡ call room s
  unfolding on_state
  on_words v b =
      let back = words_read_back most room s v.shaped v.some v.few in
      rw (true_and _ _ back.0 b, back.1, back.2)

pub post_by_value : PostByValue
unfolding posted
post_by_value most room s p count v = on_words most room s true _ _ v refl

pub start_by_value : StartByValue
unfolding started_of leaves
start_by_value most t first words long rows = let back = numbers_read_back (room_of_words words) t rows in rw (long, back.0, back.1)

pub slot_by_value : SlotByValue
unfolding slotted
slot_by_value most room s old v two = on_words most room s (eqb (length old) 2) _ _ v (eq-eqb (length old) 2 two)

pub run_by_value : RunByValue
unfolding ran
run_by_value most room s log v = on_words most room s true _ _ v refl

pub figures_by_value : FiguresByValue
unfolding figured
figures_by_value most room s p j old v two = on_words most room s (eqb (length old) 2) _ _ v (eq-eqb (length old) 2 two)

pub chain_by_value : ChainByValue
unfolding chained
chain_by_value most room s p names old v one as_many =
    let full = (words_read_back most room s v.shaped v.some v.few).1 in
    on_words most room s (eqb (length old) 1 && eqb (length names) (room_of_words (state_words s))) _ _ v
    (true_and _ _ (eq-eqb (length old) 1 one) (eq-eqb (length names) (room_of_words (state_words s)) (as_many ∙ sym full)))

pub account_by_value : AccountByValue
unfolding account_exported
account_by_value most room s p old v two = on_words most room s (eqb (length old) 2) _ _ v (eq-eqb (length old) 2 two)

pub standing_by_value : StandingByValue
unfolding standing_exported
standing_by_value most room s old v two = on_words most room s (eqb (length old) 2) _ _ v (eq-eqb (length old) 2 two)

pub lead_by_value : LeadByValue
unfolding led
lead_by_value most room s p log old v one = on_words most room s (eqb (length old) 1) _ _ v (eq-eqb (length old) 1 one)

pub write_by_value : WriteByValue
unfolding wrote
write_by_value most room s buffer old v one ok = on_words most room s (eqb (length old) 1) _ _ v (eq-eqb (length old) 1 one) ∙ rw ok

-- ---- calls in a row

-- a post leaves the lent answer
post_answer : (v : Verdict) (s : State) (p count : ℕ) (old : List ℕ) → slot_words old (outcome v s (post p count)).answer ≡ old
unfolding done
post_answer faultless s p count old = refl
post_answer (fault r) s p count old = refl

-- and a slot leaves it two words long
answer_long : (old : List ℕ) (a : Answer) → length old ≡ 2 → length (slot_words old a) ≡ 2
answer_long old accepted two = two
answer_long old (granted stamp p) two = refl
answer_long old (idle stamp) two = refl
answer_long old (refused r) two = two

module _ (most room : ℕ) where
  call_fits : (s : State) (c : Call) → Fits most room s → Fits most room (called room s c).state
  call_fits s c v = record { shaped = call_shaped room s c v.shaped; some = v.some; few = v.few }

  one_call : (s : State) (c : Call) (old : List ℕ) → Fits most room s → length old ≡ 2
      → call_on_buffers most (record { words = state_words s; answer = old }) c
      ≡ record { state = record { words = state_words (called room s c).state; answer = slot_words old (called room s c).answer }; answer = answer_code (called room s c).answer }
  unfolding called
  one_call s (post p count) old v two =
      rw (post_by_value most room s p count v, post_answer (gate (refusal 23) (sound room s) (rule_verdict s (post p count))) s p count old)
  one_call s slot old v two = rw (slot_by_value most room s old v two)

pub in_a_row : CallsInARow
unfolding end answers last_output
in_a_row most room s old [] v two = (refl, refl)
in_a_row most room s old (c ∷ calls) v two =
    let a = (called room s c).answer in
    let more = in_a_row most room (called room s c).state (slot_words old a) calls (call_fits most room s c v) (answer_long old a two) in
    (rw (one_call most room s c old v two) more.0, rw (one_call most room s c old v two) (ap (λ l. answer_code a ∷ l) more.1))

-- ---- the state that a start leaves

none_shaped : (room : ℕ) → Shaped room (no_state room)
unfolding no_state table_of written_over
none_shaped room = record { rows = length-replicate room no_requestor; accounts = length-replicate room no_account }

start_of : (room : ℕ) (t : Table) (first : ℕ) → length t.requestors ≡ room → Shaped room (start room t first).state
unfolding start opening
start_of room t first rows = by (start_verdict room t first)
  where
    made : Verdict → Result State Answer
    made v = resolve v (record { state = opening t first; answer = accepted }) (turned_down room)

    by : (v : Verdict) → Shaped room (made v).state
    by faultless = record { rows = rows; accounts = length-map t.requestors fresh ∙ rows }
    by (fault r) = none_shaped room

module _ (room : ℕ) where
  -- a table that was read, or none, has as many rows as there is room for
  settled_long : (x : Read Table) → ((t : Table) (rest : List ℕ) → x ≡ read t rest → length t.requestors ≡ room)
      → length (settled room x).table.requestors ≡ room
  unfolding settled table_of written_over
  settled_long (stop r) h = length-replicate room no_requestor
  settled_long (read t rest) h = by (last_verdict t rest)
    where
      by : (v : Verdict) → length (resolve {X = TableResult} v (accept t) (refuse room)).table.requestors ≡ room
      by faultless = h t rest refl
      by (fault r) = length-replicate room no_requestor

  pub read_long : (bytes : List ℕ) → length (read_table room bytes).table.requestors ≡ room
  unfolding read_table
  read_long bytes = settled_long (numbers_read room bytes) (λ t rest e. rows_taken (numbers_open room bytes t rest e))

pub start_shaped : StartShaped
unfolding begun
start_shaped room bytes first = by (read_table room bytes).answer
  where
    made : Shaped room (start room (read_table room bytes).table first).state
    made = start_of room (read_table room bytes).table first (read_long room bytes)

    by : (a : Answer) → Shaped room (unless a (turned_down room) (start room (read_table room bytes).table first)).state
    by accepted = made
    by (granted stamp p) = made
    by (idle stamp) = made
    by (refused r) = none_shaped room

pub starts_agree : StartsAgree
unfolding started started_of begun
starts_agree most bytes first words e =
    let t = (read_table (room_of_words words) bytes).table in
    let back = numbers_read_back (room_of_words words) t (read_long (room_of_words words) bytes) in
    let lengths : (right_length most words && right_numbers (room_of_words words) (all_numbers t)) ≡ right_length most words = rw back.0 (and_one (right_length most words)) in
    rw (e, lengths, back.1)

pub numbers_rows : (room : ℕ) (numbers : List ℕ) → length (numbers_table room numbers).requestors ≡ room
unfolding numbers_table
numbers_rows room numbers = length_places (numbers_row numbers) 0 room

pub start_of_numbers_shaped : StartOfNumbersShaped
start_of_numbers_shaped room numbers first = start_of room (numbers_table room numbers) first (numbers_rows room numbers)

-- ---- what a call comes to

-- it was carried out, or turned down by a refusal that is not 255, and then all stands
pub data Ends (room outcome : ℕ) (Stands : Type 0) : Type 0 where
  went : outcome ≡ 0 → Ends room outcome Stands
  turned : (r : Refusal) → AmongRefusals of_any_call room r → outcome ≡ refusal_code r → Stands → Ends room outcome Stands

module _ {room outcome : ℕ} {Stands : Type 0} where
  pub all_stands : Ends room outcome Stands → Refused outcome → Stands
  all_stands (went e) h = absurd (h e)
  all_stands (turned r t e s) h = s

  pub never_255 : Ends room outcome Stands → outcome ≡ wrong_length → ⊥
  never_255 (went e) f = omega arith
  never_255 (turned r t e s) f = (code_apart room r t).1 (sym e ∙ f)

-- a table's bytes, written
pub written_ends : (room : ℕ) (t : Table) (buffer old : List ℕ)
    → let d = write_output old (writing.write_table room t buffer) in Ends room d.outcome ((d.buffer ≡ buffer) × (d.answer ≡ old))
unfolding writing.write_table
written_ends room t buffer old = by (writing.write_verdict room t (length buffer)) (λ r e. table_any (write_names_below room t buffer r e))
  where
    made : Verdict → writing.TableWritten
    made v =
        resolve v (record { answer = writing.wrote (length (writing.table_bytes t)); buffer = written_over (writing.table_bytes t) buffer })
        (λ r. record { answer = writing.refused r; buffer = buffer })

    by : (v : Verdict) → ((r : Refusal) → (made v).answer ≡ writing.refused r → AmongRefusals of_any_call room r)
        → let d = write_output old (made v) in Ends room d.outcome ((d.buffer ≡ buffer) × (d.answer ≡ old))
    by faultless names = went refl
    by (fault r) names = turned r (names r refl) refl (refl, refl)

module _ (room : ℕ) (s : State) where
  -- a slot's answer is written nowhere where the slot was refused
  abbrev Stands : Result State Answer → Type 0
  Stands r = (r.state ≡ s) × ((old : List ℕ) → slot_words old r.answer ≡ old)

  outcome_ends : (v : Verdict) (c : Call) → ((r : Refusal) → (outcome v s c).answer ≡ refused r → AmongRefusals of_any_call room r)
      → Ends room (answer_code (outcome v s c).answer) (Stands (outcome v s c))
  unfolding done
  outcome_ends faultless (post p count) t = went refl
  outcome_ends faultless slot t = went (by (grant_of s))
    where
      by : (g : Option ℕ) → answer_code (slot_answer s.slot.0 g) ≡ 0
      by None = refl
      by (Some p) = refl
  outcome_ends (fault r) c t = turned r (t r refl) refl (refl, λ old. refl)

  call_ends : (c : Call) → Ends room (answer_code (called room s c).answer) (Stands (called room s c))
  unfolding called
  call_ends c = outcome_ends (gate (refusal 23) (sound room s) (rule_verdict s c)) c (λ r e. state_any (calls_name_below room s c r e))

  run_ends : (log : List ℕ) → Ends room (answer_code (run room s log).answer) (((run room s log).state ≡ s) × ((run room s log).log ≡ log))
  unfolding run
  run_ends log = by (run_verdict room s (length log)) (λ r e. state_any (runs_name_below room s log r e))
    where
      made : Verdict → Outcome
      made v =
          resolve v (record { state = slots_state (length log) s; answer = accepted; log = slots_log (length log) s })
          (λ r. record { state = s; answer = refused r; log = log })

      by : (v : Verdict) → ((r : Refusal) → (made v).answer ≡ refused r → AmongRefusals of_any_call room r)
          → Ends room (answer_code (made v).answer) (((made v).state ≡ s) × ((made v).log ≡ log))
      by faultless t = went refl
      by (fault r) t = turned r (t r refl) refl (refl, refl)

  figures_ends : (p j : ℕ) (old : List ℕ) → let d = figures_output old (queries.figures room s p j) in Ends room d.outcome (d.answer ≡ old)
  figures_ends p j old = by (queries.figures room s p j) (λ r e. state_any (figures_name_below room s p j r e))
    where
      by : (a : queries.FiguresAnswer) → ((r : Refusal) → a ≡ queries.refused r → AmongRefusals of_any_call room r) → Ends room (figures_output old a).outcome ((figures_output old a).answer ≡ old)
      by (queries.figured wait finish) t = went refl
      by (queries.refused r) t = turned r (t r refl) refl refl

  chain_ends : (p : ℕ) (names old : List ℕ) → let d = chain_output old (chains.chain room s p names) in Ends room d.outcome (d.answer ≡ old)
  chain_ends p names old = by (chains.chain room s p names) (λ r e. chain_any (chains_name_below room s p names r e))
    where
      by : (a : chains.ChainAnswer) → ((r : Refusal) → a ≡ chains.refused r → AmongRefusals of_any_call room r) → Ends room (chain_output old a).outcome ((chain_output old a).answer ≡ old)
      by (chains.figured figure) t = went refl
      by (chains.refused r) t = turned r (t r refl) refl refl

  account_ends : (p : ℕ) (old : List ℕ) → let d = look_output old (look.account_query room s p) in Ends room d.outcome (d.answer ≡ old)
  account_ends p old = by (look.account_query room s p) (λ r e. state_any (looks_name_below room s p r e))
    where
      by : (a : look.Looked Account) → ((r : Refusal) → a ≡ look.refused r → AmongRefusals of_any_call room r) → Ends room (look_output old a).outcome ((look_output old a).answer ≡ old)
      by (look.looked x) t = went refl
      by (look.refused r) t = turned r (t r refl) refl refl

  standing_ends : (old : List ℕ) → let d = stands old (look.standing room s) in Ends room d.outcome (d.answer ≡ old)
  standing_ends old = by (look.standing room s) (λ r e. state_any (standings_name_below room s r e))
    where
      by : (a : look.Looked look.Standing) → ((r : Refusal) → a ≡ look.refused r → AmongRefusals of_any_call room r) → Ends room (stands old a).outcome ((stands old a).answer ≡ old)
      by (look.looked x) t = went refl
      by (look.refused r) t = turned r (t r refl) refl refl

  lead_ends : (p : ℕ) (log : List ℕ) (old : List ℤ) → let d = lead_output old (leads.lead_query room s p log) in Ends room d.outcome (d.answer ≡ old)
  lead_ends p log old = by (leads.lead_query room s p log) (λ r e. state_any (leads_name_below room s p log r e))
    where
      by : (a : leads.LeadAnswer) → ((r : Refusal) → a ≡ leads.refused r → AmongRefusals of_any_call room r) → Ends room (lead_output old a).outcome ((lead_output old a).answer ≡ old)
      by (leads.lead x) t = went refl
      by (leads.refused r) t = turned r (t r refl) refl refl

  abbrev writing_call : (buffer old : List ℕ) → Wrote
  writing_call buffer old =
      pick (sound room s) (write_output old (writing.write_table room s.table buffer))
      (record { buffer = buffer; answer = old; outcome = refusal_code (refusal 23) })

  write_ends : (buffer old : List ℕ) → let d = writing_call buffer old in Ends room d.outcome ((d.buffer ≡ buffer) × (d.answer ≡ old))
  write_ends buffer old =
      cases (sound room s)
      (λ q. rw q (written_ends room s.table buffer old))
      (λ q. rw q (turned (refusal 23) (record { number = refl; names = refl; origin = refl; place = tt }) refl (refl, refl)))

-- ---- what was not carried out

module _ {X : Type 0} (out : X → ℕ) (most : ℕ) (words : List ℕ) (beside : Bool) (down : X) (call : ℕ → State → X) where
  abbrev here : X
  here = call (room_of_words words) (state_of words)

  -- what stands where the length is wrong, and where the call on the words' state is refused
  left : (Stands : X → Type 0) → Stands down → (right_length most words ≡ true → Refused (out here) → Stands here)
      → Refused (out (on_state most words beside down call)) → Stands (on_state most words beside down call)
  unfolding on_state
  left Stands a b = cases (right_length most words && beside)
      (λ q. rw q (b (and_true (right_length most words) beside q).0))
      (λ q. rw q (λ h. a))

  -- 255 is the length's
  exactly : out down ≡ wrong_length → (out here ≡ wrong_length → ⊥) → Exactly255 (right_length most words && beside) (out (on_state most words beside down call))
  unfolding on_state
  exactly e never = cases (right_length most words && beside)
      (λ q. rw q ((λ f. true_false f), λ f. absurd (never f)))
      (λ q. rw q ((λ f. e), λ f. refl))

-- a state handed back is the same words
module _ (most : ℕ) (words : List ℕ) (long : right_length most words ≡ true) where
  handed_back : (s : State) → s ≡ state_of words → state_words s ≡ words
  handed_back s e = ap state_words e ∙ state_written_back most words long

pub post_refused : PostRefused
unfolding posted
post_refused most words p count =
    left (λ (x : Stated). x.outcome) most words true _ _ (λ (x : Stated). x.words ≡ words) refl
    (λ long h. handed_back most words long _ (all_stands (call_ends (room_of_words words) (state_of words) (post p count)) h).0)

pub slot_refused : SlotRefused
unfolding slotted
slot_refused most words old =
    left (λ (x : Slotted). x.outcome) most words (eqb (length old) 2) _ _ (λ (x : Slotted). (x.words ≡ words) × (x.answer ≡ old)) (refl, refl)
    (λ long h. let same = all_stands (call_ends (room_of_words words) (state_of words) slot) h in (handed_back most words long _ same.0, same.1 old))

pub run_refused : RunRefused
unfolding ran
run_refused most words log =
    left (λ (x : Ran). x.outcome) most words true _ _ (λ (x : Ran). (x.words ≡ words) × (x.log ≡ log)) (refl, refl)
    (λ long h. let same = all_stands (run_ends (room_of_words words) (state_of words) log) h in (handed_back most words long _ same.0, same.1))

pub figures_refused : FiguresRefused
unfolding figured
figures_refused most words p j old =
    left (λ (x : Figured). x.outcome) most words (eqb (length old) 2) _ _ (λ (x : Figured). x.answer ≡ old) refl
    (λ long. all_stands (figures_ends (room_of_words words) (state_of words) p j old))

pub chain_refused : ChainRefused
unfolding chained
chain_refused most words p names old =
    left (λ (x : Figured). x.outcome) most words (eqb (length old) 1 && eqb (length names) (room_of_words words)) _ _ (λ (x : Figured). x.answer ≡ old) refl
    (λ long. all_stands (chain_ends (room_of_words words) (state_of words) p names old))

pub account_refused : AccountRefused
unfolding account_exported
account_refused most words p old =
    left (λ (x : Figured). x.outcome) most words (eqb (length old) 2) _ _ (λ (x : Figured). x.answer ≡ old) refl
    (λ long. all_stands (account_ends (room_of_words words) (state_of words) p old))

pub standing_refused : StandingRefused
unfolding standing_exported
standing_refused most words old =
    left (λ (x : Figured). x.outcome) most words (eqb (length old) 2) _ _ (λ (x : Figured). x.answer ≡ old) refl
    (λ long. all_stands (standing_ends (room_of_words words) (state_of words) old))

pub lead_refused : LeadRefused
unfolding led
lead_refused most words p log old =
    left (λ (x : Led). x.outcome) most words (eqb (length old) 1) _ _ (λ (x : Led). x.answer ≡ old) refl
    (λ long. all_stands (lead_ends (room_of_words words) (state_of words) p log old))

pub write_refused : WriteRefused
unfolding wrote
write_refused most words buffer old =
    left (λ (x : Wrote). x.outcome) most words (eqb (length old) 1) _ _ (λ (x : Wrote). (x.buffer ≡ buffer) × (x.answer ≡ old)) (refl, refl)
    (λ long. all_stands (write_ends (room_of_words words) (state_of words) buffer old))

-- ---- a refused start

start_ends : (room : ℕ) (t : Table) (first : ℕ) → Ends room (answer_code (start room t first).answer) ((start room t first).state ≡ no_state room)
unfolding start
start_ends room t first = by (start_verdict room t first) (λ r e. table_any (table_start_names_below room t first r e))
  where
    made : Verdict → Result State Answer
    made v = resolve v (record { state = opening t first; answer = accepted }) (turned_down room)

    by : (v : Verdict) → ((r : Refusal) → (made v).answer ≡ refused r → AmongRefusals of_any_call room r) → Ends room (answer_code (made v).answer) ((made v).state ≡ no_state room)
    by faultless t = went refl
    by (fault r) t = turned r (t r refl) refl refl

begun_ends : (room : ℕ) (bytes : List ℕ) (first : ℕ)
    → let d = begun room (read_table room bytes) first in Ends room (answer_code d.answer) (d.state ≡ no_state room)
unfolding begun
begun_ends room bytes first = by (read_table room bytes).answer (λ r e. table_any (start_names_below room bytes first r e))
  where
    goes_on : Result State Answer
    goes_on = start room (read_table room bytes).table first

    by : (a : Answer) → ((r : Refusal) → (unless a (turned_down room) goes_on).answer ≡ refused r → AmongRefusals of_any_call room r)
        → Ends room (answer_code (unless a (turned_down room) goes_on).answer) ((unless a (turned_down room) goes_on).state ≡ no_state room)
    by accepted t = start_ends room (read_table room bytes).table first
    by (granted stamp p) t = start_ends room (read_table room bytes).table first
    by (idle stamp) t = start_ends room (read_table room bytes).table first
    by (refused r) t = turned r (t r refl) refl refl

-- the words of the state whose every field is 0
clear_words : (most : ℕ) (words : List ℕ) → right_length most words ≡ true → state_words (no_state (room_of_words words)) ≡ replicate (length words) 0
clear_words most words long =
    let n = length words in
    let all : length {A = ℕ} (replicate n 0) ≡ word_count (room_of_words words) = length-replicate n 0 ∙ (right most words long).long in
    sym (words_of (room_of_words words) (replicate n 0) (no_state (room_of_words words)) all (zero_state (room_of_words words) n))

-- whatever made it
module _ (most : ℕ) (words : List ℕ) (lengths : Bool) (d : Result State Answer) (ends : Ends (room_of_words words) (answer_code d.answer) (d.state ≡ no_state (room_of_words words))) where
  pub clears : (lengths ≡ true → right_length most words ≡ true) → Clears words (leaves lengths words d)
  unfolding leaves
  clears long = cases lengths
      (λ q. rw q ((λ h k. ap state_words (all_stands ends h) ∙ clear_words most words (long q)), λ e. absurd (never_255 ends e)))
      (λ q. rw q ((λ h k. absurd (k refl)), λ e. refl))

  pub leaves_255 : Exactly255 lengths (leaves lengths words d).outcome
  unfolding leaves
  leaves_255 = cases lengths
      (λ q. rw q ((λ f. true_false f), λ f. absurd (never_255 ends f)))
      (λ q. rw q ((λ f. refl), λ f. refl))

pub start_refused : StartRefused
unfolding started
start_refused most bytes first words = clears most words (right_length most words) _ (begun_ends (room_of_words words) bytes first) (λ long. long)

pub start_of_numbers_refused : StartOfNumbersRefused
unfolding started_of
start_of_numbers_refused most numbers first words =
    clears most words (right_length most words && right_numbers (room_of_words words) numbers) _ (start_ends (room_of_words words) (numbers_table (room_of_words words) numbers) first)
    (λ all. (and_true (right_length most words) (right_numbers (room_of_words words) numbers) all).0)

-- ---- 255 and 23

module _ (most : ℕ) (words : List ℕ) where
  abbrev room : ℕ
  room = room_of_words words

  abbrev held : State
  held = state_of words

  -- of a call that is lent no answer the words' length alone counts
  words_only : (outcome : ℕ) → Exactly255 (right_length most words && true) outcome → Exactly255 (right_length most words) outcome
  words_only outcome e = rw (and_one (right_length most words)) at e

  lengths : Lengths most words
  unfolding started started_of posted slotted ran figured chained account_exported standing_exported led wrote
  lengths = record {
    start = λ bytes first. leaves_255 most words (right_length most words) _ (begun_ends room bytes first);
    numbers = λ numbers first. leaves_255 most words (right_length most words && right_numbers room numbers) _ (start_ends room (numbers_table room numbers) first);
    post = λ p count. words_only _ (exactly (λ (x : Stated). x.outcome) most words true _ _ refl (never_255 (call_ends room held (post p count))));
    slot = λ old. exactly (λ (x : Slotted). x.outcome) most words (eqb (length old) 2) _ _ refl (never_255 (call_ends room held slot));
    run = λ log. words_only _ (exactly (λ (x : Ran). x.outcome) most words true _ _ refl (never_255 (run_ends room held log)));
    figures = λ p j old. exactly (λ (x : Figured). x.outcome) most words (eqb (length old) 2) _ _ refl (never_255 (figures_ends room held p j old));
    chain = λ p names old. exactly (λ (x : Figured). x.outcome) most words (eqb (length old) 1 && eqb (length names) room) _ _ refl (never_255 (chain_ends room held p names old));
    account = λ p old. exactly (λ (x : Figured). x.outcome) most words (eqb (length old) 2) _ _ refl (never_255 (account_ends room held p old));
    standing = λ old. exactly (λ (x : Figured). x.outcome) most words (eqb (length old) 2) _ _ refl (never_255 (standing_ends room held old));
    lead = λ p log old. exactly (λ (x : Led). x.outcome) most words (eqb (length old) 1) _ _ refl (never_255 (lead_ends room held p log old));
    write = λ buffer old. exactly (λ (x : Wrote). x.outcome) most words (eqb (length old) 1) _ _ refl (never_255 (write_ends room held buffer old));
  }

pub wrong_length_lem : WrongLength
wrong_length_lem most words = lengths most words

-- the call on the state that the words are
module _ {X : Type 0} (most : ℕ) (words : List ℕ) (beside : Bool) (down : X) (call : ℕ → State → X) where
  on_call : right_length most words ≡ true → beside ≡ true → on_state most words beside down call ≡ call (room_of_words words) (state_of words)
  unfolding on_state
  on_call long b = rw (true_and _ _ long b)

module _ (most : ℕ) (words : List ℕ) (long : right_length most words ≡ true) (broken : sound (room_of_words words) (state_of words) ≡ false) where
  abbrev s : State
  s = state_of words

  code_23 : refusal_code (refusal 23) ≡ 23
  unfolding refusal_code
  code_23 = refl

  call_23 : (c : Call) → answer_code (called (room_of_words words) s c).answer ≡ 23
  call_23 c = ap (λ (r : Result State Answer). answer_code r.answer) (called_unsound (room_of_words words) s c broken) ∙ code_23

  place_23 : (p : ℕ) → place_verdict (room_of_words words) s p ≡ fault (refusal 23)
  unfolding place_verdict gate
  place_23 p = rw broken

  all_23 : Broken most words
  unfolding posted slotted ran figured chained account_exported standing_exported led wrote queries.figures queries.figures_verdict chains.chain chains.chain_verdict look.account_query look.standing leads.lead_query leads.lead_verdict gate then
  all_23 = record {
    post = λ p count. ap (λ (x : Stated). x.outcome) (on_call most words true _ _ long refl) ∙ call_23 (post p count);
    slot = λ old two. ap (λ (x : Slotted). x.outcome) (on_call most words (eqb (length old) 2) _ _ long (eq-eqb (length old) 2 two)) ∙ call_23 slot;
    run = λ log. ap (λ (x : Ran). x.outcome) (on_call most words true _ _ long refl)
        ∙ ap (λ (r : Outcome). answer_code r.answer) (sym (run_unsound (room_of_words words) s log s (refused (refusal 23)) broken refl refl)) ∙ code_23;
    figures = λ p j old two. ap (λ (x : Figured). x.outcome) (on_call most words (eqb (length old) 2) _ _ long (eq-eqb (length old) 2 two)) ∙ rw (place_23 p) code_23;
    chain = λ p names old one as_many. ap (λ (x : Figured). x.outcome) (on_call most words (eqb (length old) 1 && eqb (length names) (room_of_words words)) _ _ long (true_and _ _ (eq-eqb (length old) 1 one) (eq-eqb (length names) (room_of_words words) as_many))) ∙ rw (place_23 p) code_23;
    account = λ p old two. ap (λ (x : Figured). x.outcome) (on_call most words (eqb (length old) 2) _ _ long (eq-eqb (length old) 2 two)) ∙ rw (place_23 p) code_23;
    standing = λ old two. ap (λ (x : Figured). x.outcome) (on_call most words (eqb (length old) 2) _ _ long (eq-eqb (length old) 2 two)) ∙ rw broken code_23;
    lead = λ p log old one. ap (λ (x : Led). x.outcome) (on_call most words (eqb (length old) 1) _ _ long (eq-eqb (length old) 1 one)) ∙ rw (place_23 p) code_23;
    write = λ buffer old one. ap (λ (x : Wrote). x.outcome) (on_call most words (eqb (length old) 1) _ _ long (eq-eqb (length old) 1 one)) ∙ rw broken code_23;
  }

pub broken_words : BrokenWords
broken_words most words long broken = all_23 most words long broken
