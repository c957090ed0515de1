-- A table's bytes are read into words: what the words are on the way, where a row is refused, and once all are read; and what the reading
-- that is left in them says of the bytes. Assumes nothing.
use Rattle.std.proofs.Common.{◌≡◌, refl, ap, sym, ◌∙◌, List, [], ◌∷◌, ℕ, suc, ◌+◌, ◌≤◌, ◌<◌, arith, true, false, eqb, ne_eqb, length}
use Rattle.terms.specs.declared.refusals.Refusal.{Refusal}
use Rattle.terms.specs.declared.place.Requestor.{Requestor}
use Rattle.terms.specs.State.{State}
use Rattle.terms.specs.Start.{no_state}
use Rattle.terms.specs.Table.{Table, table_of, count_bounds, held_to}
use Rattle.terms.specs.Refusals.{Verdict, faultless, fault, refusal, gate, then, resolve}
use Rattle.terms.proofs.Checks.{held_open}
use Rattle.table_bytes.specs.Reading.{Read, read, stop, next, row_read, left_verdict, places_read, places_by}
use Rattle.table_bytes.proofs.Readings.{Sofar, sofar_none, sofar_next, done_stop, done_end}
use Rattle.layout.specs.Words.{word_count, words_state, state_of, put_row, with_table}
use Rattle.layout.proofs.Laid.{state_with_room}
use Rattle.layout.proofs.Stores.{put_row_lem, put_row_length}
use Rattle.admission.specs.Checked.{table_in}
use Rattle.starts.specs.Laying.{complete, unread, laid}

-- no table is both
complete_unread : {X : Type 0} {t : Table} {why : Refusal} → complete t ≡ unread why → X
complete_unread e = let z : ◌≡◌ {A = ℕ} 0 1 = cc in absurd (omega arith)

-- ---- row after row

-- the first p rows of n stand in the words, and what is left of the bytes comes to the same as all of them
pub record Reading (room d n : ℕ) (bytes words : List ℕ) (p : ℕ) (left : List ℕ) : Type 0 where
  pub long : length words ≡ word_count room
  pub sofar : Sofar room d n bytes (words_state room words).table p left

pub reading_none : (room d n : ℕ) (bytes words : List ℕ) → length words ≡ word_count room → state_of words ≡ with_table (no_state room) (table_of room d n [])
    → Reading room d n bytes words 0 bytes
reading_none room d n bytes words long e = record {
  long = long;
  sofar = sofar_none room d n bytes (words_state room words).table (ap (λ (s : State). s.table) (sym (state_with_room room words long) ∙ e));
}

module _ {room d n : ℕ} {bytes words : List ℕ} {p : ℕ} {left : List ℕ} (v : Reading room d n bytes words p left) where
  -- N is within the room, so there is a place for one row more
  module _ (h : p < n) (counted : held_to (count_bounds room) n ≡ faultless) where
    inside : p < room
    inside = omega (arith, (held_open (count_bounds room) n counted).1)

    pub reading_there : word_count (p + 1) ≤ length words
    reading_there = omega (arith, inside, v.long)

    pub reading_more : (r : Requestor) (rest : List ℕ) → row_read d p left ≡ read r rest → Reading room d n bytes (put_row words p r) (p + 1) rest
    reading_more r rest e = record {
      long = put_row_length words p r ∙ v.long;
      sofar = rw (put_row_lem words p r room v.long inside) (sofar_next v.sofar r rest h inside e);
    }

  pub reading_stop : (why : Refusal) → p < n → row_read d p left ≡ stop why → unread why ≡ laid (places_read room d n bytes)
  unfolding places_by next
  reading_stop why h e = rw (done_stop v.sofar.done why h e)

  -- all rows stand there, and 10 is what can be found then
  read_all : n ≤ p → resolve (left_verdict left) (complete (table_in words)) unread ≡ laid (places_read room d n bytes)
  unfolding places_by next
  read_all h =
      let own : table_in words ≡ table_of room d n v.sofar.rows = ap (λ (s : State). s.table) (state_with_room room words v.long) ∙ v.sofar.table in
      rw (done_end v.sofar.done h) (ap (λ t. resolve (left_verdict left) (complete t) unread) own)

  pub reading_left : n ≤ p → eqb (length left) 0 ≡ false → unread (refusal 10) ≡ laid (places_read room d n bytes)
  unfolding gate
  reading_left h some = rw some at (read_all h)

  pub reading_end : n ≤ p → eqb (length left) 0 ≡ true → complete (table_in words) ≡ laid (places_read room d n bytes)
  unfolding gate
  reading_end h none = rw none at (read_all h)

-- ---- what the words say of the bytes

-- all numbers were read, and nothing is left
pub laid_all : (r : Read Table) (t : Table) → complete t ≡ laid r → r ≡ read t []
unfolding gate
laid_all (read u []) t e = let table : t ≡ u = cc in ap (λ x. read x []) (sym table)
laid_all (read u (x ∷ rest)) t e = complete_unread (e ∙ ap (λ b. resolve (gate (refusal 10) b faultless) (complete u) unread) (ne_eqb (suc (length rest)) 0 (λ z. omega arith)))
laid_all (stop why) t e = complete_unread e

-- a number was refused, or 10 is the fault, whatever is checked after it
pub data Stopped (r : Read Table) (why : Refusal) : Type 0 where
  at_number : r ≡ stop why → Stopped r why
  left_over : (t : Table) (rest : List ℕ) → r ≡ read t rest → ((more : Verdict) → then (left_verdict rest) more ≡ fault why) → Stopped r why

pub laid_none : (r : Read Table) (why : Refusal) → unread why ≡ laid r → Stopped r why
unfolding gate then
laid_none (read t []) why e = complete_unread (sym e)
laid_none (read t (x ∷ rest)) why e =
    let some_left = ne_eqb (suc (length rest)) 0 (λ z. omega arith) in
    let other = e ∙ ap (λ b. resolve (gate (refusal 10) b faultless) (complete t) unread) some_left in
    let same : refusal 10 ≡ why = cc in
    left_over t (x ∷ rest) refl (λ more. rw some_left (ap fault same))
laid_none (stop other) why e = let same : why ≡ other = cc in at_number (ap stop (sym same))
