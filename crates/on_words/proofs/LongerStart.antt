-- A start of a table with clear rows behind its own, from its bytes or its numbers, is that of the table, with the same behind its state; but
-- for 2, where N is above the room. Assumes nothing.
use Rattle.std.proofs.Common.{◌≡◌, refl, ap, sym, ◌∙◌, true, List, [], ◌∷◌, ◌++◌, map, append_assoc, ℕ, zero, suc, ◌+◌, ◌*◌, ◌≤◌, ◌<◌, arith, leb-true, leb-false, le-leb, eqb-true, eq-eqb, ne_eqb, leb, length, drop, replicate, length-append}
use borrow.Author.Tests.{lt-leb, eqb-false}
use lib.ListN.{length-replicate, replicate-append-replicate}
use lib.Seq.{drop-append-le}
use Rattle.lists.specs.Choices.{in_range}
use Rattle.lists.specs.Sums.{joined}
use Rattle.lists.specs.Overwriting.{written_over}
use Rattle.lists.specs.Runs.{Result, end}
use Rattle.lists.proofs.Sums.{joined_append}
use Rattle.lists.proofs.Tests.{cases, in_range_true, in_range_lem}
use Rattle.terms.specs.declared.refusals.Refusal.{Refusal}
use Rattle.terms.specs.declared.place.Requestor.{Requestor}
use Rattle.terms.specs.Table.{Table, no_requestor, row_numbers, table_of, denominator_bounds, count_bounds, held_to, rate_sum_verdict, verdict_by}
use Rattle.terms.specs.State.{State, no_account}
use Rattle.terms.specs.Refusals.{Verdict, faultless, fault, refusal, gate, then, resolve}
use Rattle.terms.specs.Answers.{Answer, accepted, granted, idle, refused, unless}
use Rattle.terms.specs.Figures.{admission_verdict}
use Rattle.terms.specs.Start.{fresh, opening, no_state, start_verdict, start, turned_down}
use Rattle.terms.specs.Longer.{longer_table, longer}
use Rattle.terms.proofs.Longer.{same_rows, same_admission}
use Rattle.terms.proofs.Checks.{held_open}
use Rattle.terms.proofs.Tables.{table_length}
use Rattle.terms.specs.TableResult.{TableResult, accept, refuse}
use Rattle.table_bytes.specs.Reading.{Read, read, stop, next, number_read, field_read, rows_read, places_read, last_verdict, settled, read_table, places_by, numbers_by}
use Rattle.table_bytes.proofs.Accepted.{field_open, rows_open}
use Rattle.layout.specs.Numbers.{number_count, right_numbers, all_numbers, numbers_table}
use Rattle.layout.proofs.TableNumbers.{numbers_read_back, table_written_back}
use Rattle.starts.specs.Starts.{begun}
use Rattle.on_words.specs.Room.{more_numbers}
use Rattle.on_words.proofs.Claims.{read_long, numbers_rows}

-- ---- a start

none_longer : (room extra : ℕ) → no_state (room + extra) ≡ longer extra (no_state room)
unfolding no_state table_of written_over
none_longer room extra = rw (sym (replicate-append-replicate room extra no_requestor), sym (replicate-append-replicate room extra no_account))

opened_longer : (extra : ℕ) (t : Table) (first : ℕ) → opening (longer_table extra t) first ≡ longer extra (opening t first)
unfolding opening
opened_longer extra t first = rw (accounts t.requestors extra)
  where
    accounts : (rs : List Requestor) (n : ℕ) → map fresh (rs ++ replicate n no_requestor) ≡ map fresh rs ++ replicate n no_account
    accounts [] zero = refl
    accounts [] (suc n) = ap (λ l. no_account ∷ l) (accounts [] n)
    accounts (r ∷ rs) n = ap (λ l. fresh r ∷ l) (accounts rs n)

count_above : (room n : ℕ) → room < n → held_to (count_bounds room) n ≡ fault (refusal 2)
unfolding held_to gate
count_above room n over = rw (le-leb 1 n (omega arith), lt-leb n room over)

two_above : (d rest long fin end last : Verdict) → (then (then (then d (then (fault (refusal 2)) rest)) fin) last ≡ fault (refusal 2) → ⊥)
    → then (then (then d long) end) last ≡ then (then (then d (then (fault (refusal 2)) rest)) fin) last
unfolding then
two_above faultless rest long fin end last h = absurd (h refl)
two_above (fault r) rest long fin end last h = refl

module _ (room extra : ℕ) where
  abbrev pub made_longer : Result State Answer → Result State Answer
  made_longer d = record { state = longer extra d.state; answer = d.answer }

  module _ (t : Table) (rows : length t.requestors ≡ room) (first : ℕ) where
    -- N above the room is 2, unless D was refused
    above : room < t.count → (start_verdict room t first ≡ fault (refusal 2) → ⊥) → start_verdict (room + extra) (longer_table extra t) first ≡ start_verdict room t first
    unfolding start_verdict admission_verdict verdict_by
    above over h = let two = count_above room t.count over in rw two (two_above (held_to denominator_bounds t.denominator) _ _ _ _ _ (rw two at h))

    same_start_verdict : (start_verdict room t first ≡ fault (refusal 2) → ⊥) → start_verdict (room + extra) (longer_table extra t) first ≡ start_verdict room t first
    unfolding start_verdict
    same_start_verdict h = cases (leb t.count room)
        (λ q. rw (same_admission room extra t rows (leb-true t.count room q)))
        (λ q. above (leb-false t.count room q) h)

    pub same_start : ((start room t first).answer ≡ refused (refusal 2) → ⊥) → start (room + extra) (longer_table extra t) first ≡ made_longer (start room t first)
    unfolding start
    same_start h = by (start_verdict room t first) refl where
      by : (v : Verdict) → start_verdict room t first ≡ v → start (room + extra) (longer_table extra t) first ≡ made_longer (start room t first)
      by faultless e = rw (same_start_verdict (λ f. h (rw f)), e, opened_longer extra t first)
      by (fault r) e = rw (same_start_verdict (λ f. h (rw f)), e, none_longer room extra)

-- ---- a table's bytes

module _ (room extra : ℕ) where
  abbrev read_longer : TableResult → TableResult
  read_longer r = record { table = longer_table extra r.table; answer = r.answer }

  refuse_longer : (r : Refusal) → refuse (room + extra) r ≡ read_longer (refuse room r)
  unfolding table_of written_over
  refuse_longer r = rw (sym (replicate-append-replicate room extra no_requestor))

  settle_longer : (w : Verdict) (t : Table) → resolve w (accept (longer_table extra t)) (refuse (room + extra)) ≡ read_longer (resolve w (accept t) (refuse room))
  settle_longer faultless t = refl
  settle_longer (fault r) t = refuse_longer r

  -- a table of rows that were read
  module _ (d n : ℕ) (rows : List Requestor) (few : length rows ≤ room) where
    pub table_longer : table_of (room + extra) d n rows ≡ longer_table extra (table_of room d n rows)
    unfolding table_of written_over
    table_longer =
        let clear = replicate room no_requestor in
        let there : length rows ≤ length clear = omega (arith, length-replicate room no_requestor) in
        rw (
          sym (replicate-append-replicate room extra no_requestor),
          drop-append-le (length rows) clear (replicate extra no_requestor) there,
          append_assoc rows (drop (length rows) clear) (replicate extra no_requestor),
        )

    same_last : (rest : List ℕ) → n ≤ room → last_verdict (table_of (room + extra) d n rows) rest ≡ last_verdict (table_of room d n rows) rest
    unfolding last_verdict rate_sum_verdict table_of
    same_last rest fits =
        rw (ap (λ t. t.requestors) table_longer, same_rows room extra (table_of room d n rows) (table_length room d n rows few) fits)

  places_longer : (d n : ℕ) (bytes : List ℕ) → n ≤ room → settled (room + extra) (places_read (room + extra) d n bytes) ≡ read_longer (settled room (places_read room d n bytes))
  unfolding settled places_by next
  places_longer d n bytes fits = by (rows_read n d 0 bytes) refl
    where
      by : (x : Read (List Requestor)) → rows_read n d 0 bytes ≡ x
          → settled (room + extra) (next x λ rows rest. read (table_of (room + extra) d n rows) rest) ≡ read_longer (settled room (next x λ rows rest. read (table_of room d n rows) rest))
      by (stop r) e = refuse_longer r
      by (read rows rest) e =
          let few : length rows ≤ room = omega (arith, (rows_open n d 0 bytes rows rest e).count) in
          rw (same_last d n rows few rest fits, table_longer d n rows few) (settle_longer (last_verdict (table_of room d n rows) rest) (table_of room d n rows))

  field_longer : (bytes : List ℕ) → (field_read (count_bounds room) bytes ≡ stop (refusal 2) → ⊥) → field_read (count_bounds (room + extra)) bytes ≡ field_read (count_bounds room) bytes
  unfolding field_read next held_to gate
  field_longer bytes h = by (number_read bytes) h
    where
      held : ℕ → Read ℕ → Read ℕ
      held most x = next x λ n rest. resolve (held_to (count_bounds most) n) (read n rest) stop

      by : (x : Read ℕ) → (held room x ≡ stop (refusal 2) → ⊥) → held (room + extra) x ≡ held room x
      by (stop r) h = refl
      by (read n rest) h = cases (in_range 1 room n)
          (λ q. let e = in_range_true 1 room n q in
          let wide : in_range 1 (room + extra) n ≡ true = in_range_lem e.0 (omega (arith, e.1)) in rw (q, wide))
          (λ q. absurd (h (rw q)))

  same_read : (bytes : List ℕ) → ((read_table room bytes).answer ≡ refused (refusal 2) → ⊥) → read_table (room + extra) bytes ≡ read_longer (read_table room bytes)
  unfolding read_table numbers_by next settled
  same_read bytes h = first (field_read denominator_bounds bytes) h
    where
      counted : ℕ → ℕ → Read ℕ → Read Table
      counted most d x = next x λ n rest. places_read most d n rest

      second : (d : ℕ) (bytes : List ℕ) (x : Read ℕ) → field_read (count_bounds room) bytes ≡ x → settled (room + extra) (counted (room + extra) d x) ≡ read_longer (settled room (counted room d x))
      second d bytes (stop r) e = refuse_longer r
      second d bytes (read n rest) e = places_longer d n rest (held_open (count_bounds room) n (field_open (count_bounds room) bytes n rest e).held).1

      all : ℕ → Read ℕ → Read Table
      all most x = next x λ d rest. counted most d (field_read (count_bounds most) rest)

      first : (x : Read ℕ) → ((settled room (all room x)).answer ≡ refused (refusal 2) → ⊥) → settled (room + extra) (all (room + extra) x) ≡ read_longer (settled room (all room x))
      first (stop r) h = refuse_longer r
      first (read d rest) h = rw (field_longer rest (λ e. h (rw e))) (second d rest (field_read (count_bounds room) rest) refl)

  pub same_begun : (bytes : List ℕ) (first : ℕ) → ((begun room (read_table room bytes) first).answer ≡ refused (refusal 2) → ⊥)
      → begun (room + extra) (read_table (room + extra) bytes) first ≡ made_longer room extra (begun room (read_table room bytes) first)
  unfolding begun
  same_begun bytes first h = rw (same_read bytes (λ e. h (rw e))) (by (read_table room bytes).answer h)
    where
      t : Table
      t = (read_table room bytes).table

      by : (a : Answer) → ((unless a (turned_down room) (start room t first)).answer ≡ refused (refusal 2) → ⊥)
          → unless a (turned_down (room + extra)) (start (room + extra) (longer_table extra t) first) ≡ made_longer room extra (unless a (turned_down room) (start room t first))
      by accepted h = same_start room extra t (read_long room bytes) first h
      by (granted stamp p) h = same_start room extra t (read_long room bytes) first h
      by (idle stamp) h = same_start room extra t (read_long room bytes) first h
      by (refused r) h = rw (none_longer room extra)

-- ---- a table's numbers

clear_numbers : (n : ℕ) → joined row_numbers (replicate n no_requestor) ≡ replicate (4 * n) 0
unfolding joined
clear_numbers zero = refl
clear_numbers (suc n) = let again : 4 * suc n ≡ suc (suc (suc (suc (4 * n)))) = omega arith in rw (again, clear_numbers n)

numbers_longer : (extra : ℕ) (t : Table) → all_numbers (longer_table extra t) ≡ more_numbers extra (all_numbers t)
unfolding all_numbers
numbers_longer extra t = rw (joined_append row_numbers t.requestors (replicate extra no_requestor), clear_numbers extra)

module _ (room extra : ℕ) (numbers : List ℕ) where
  pub same_numbers : right_numbers room numbers ≡ true → numbers_table (room + extra) (more_numbers extra numbers) ≡ longer_table extra (numbers_table room numbers)
  same_numbers e =
      let t = numbers_table room numbers in
      let long : length (t.requestors ++ replicate extra no_requestor) ≡ room + extra =
      length-append t.requestors (replicate extra no_requestor) ∙ rw (numbers_rows room numbers, length-replicate extra no_requestor) in
      let written : more_numbers extra numbers ≡ all_numbers (longer_table extra t) = ap (more_numbers extra) (sym (table_written_back room numbers e)) ∙ sym (numbers_longer extra t) in
      ap (numbers_table (room + extra)) written ∙ (numbers_read_back (room + extra) (longer_table extra t) long).1

  pub same_count : right_numbers (room + extra) (more_numbers extra numbers) ≡ right_numbers room numbers
  same_count =
      let all : length (more_numbers extra numbers) ≡ length numbers + 4 * extra = length-append numbers (replicate (4 * extra) 0) ∙ rw (length-replicate {A = ℕ} (4 * extra) 0) in
      cases (right_numbers room numbers)
      (λ q. rw q (eq-eqb (length (more_numbers extra numbers)) (number_count (room + extra)) (omega (arith, all, eqb-true (length numbers) (number_count room) q))))
      (λ q. rw q (ne_eqb (length (more_numbers extra numbers)) (number_count (room + extra)) (λ e. eqb-false (length numbers) (number_count room) q (omega (arith, all, e)))))
