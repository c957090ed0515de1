-- What is known of a place that may be asked about; of the numbers of a table that passed its checks, and of one that passed admission; and
-- the ways out of a look at where the line stands. Assumes nothing.
use Rattle.std.proofs.Common.{◌≡◌, refl, ap, sym, ◌∙◌, true, false, List, [], ◌∷◌, ℕ, ◌+◌, ◌-◌, ◌*◌, ◌≤◌, ◌<◌, arith, length, get_or, set, take, ℤ, pos, ◌-ℤ◌, Fits, w32}
use Rattle.lists.specs.Overwriting.{written_over}
use Rattle.terms.specs.declared.place.Requestor.{Requestor}
use Rattle.terms.specs.declared.bounds.Bounds as code
use Rattle.terms.specs.Limits.{max_places, max_denominator, max_need}
use Rattle.terms.specs.Table.{rate, bounds_of, need_bounds, held_to, requestor_at}
use Rattle.terms.specs.State.{State, account_at, sound, place_verdict}
use Rattle.terms.specs.Refusals.{faultless, refusal, gate, then}
use Rattle.terms.specs.Input.{input_verdict}
use Rattle.terms.specs.Figures.{admission_verdict}
use Rattle.terms.proofs.Checks.{held_open, Row, fair, admitted}
use Rattle.terms.proofs.Sound.{place_open}
use Rattle.table_bytes.specs.Writing.{table_numbers}
use Rattle.table_bytes.proofs.Writings.{row_fits, lent}
use Rattle.layout.specs.Words.{word_count, room_of_words, right_length, row_in, account_in, state_of}
use Rattle.layout.proofs.RoundTrip as trip
use Rattle.admission.specs.Checked.{table_in, Checked}
use Rattle.admission.proofs.Rows.{denominator_word, count_word, rows_length, row_at, room_past, Placed, placed}
use Rattle.lead_parts.specs.Counts.{bytes_equal}
use Rattle.lead_parts.specs.Lead.{lead, lead_of, lead_verdict, lead_query}
use Rattle.queries.specs.Look.{looked, refused, standing}

-- ---- a place that may be asked about

pub query_below : (words : List ℕ) (p : ℕ) → place_verdict (room_of_words words) (state_of words) p ≡ faultless → p < (table_in words).count
query_below words p ok = (place_open (room_of_words words) (state_of words) p ok).1

module _ (most : ℕ) (words : List ℕ) (p : ℕ) (checked : Checked most words) (ok : place_verdict (room_of_words words) (state_of words) p ≡ faultless) where
  pub query_place : Placed most words p
  query_place = placed most words p checked (query_below words p ok)

  pub query_there : word_count (p + 1) ≤ length words
  query_there = query_place.there

  -- D and the place's rate, as the words have them
  pub query_numbers : (get_or words 0 0 ≤ max_denominator) × ((row_in words p).rate ≤ max_denominator)
  query_numbers =
      let f = query_place in
      (omega (arith, denominator_word words, f.denominator_most), omega (arith, f.rates, f.denominator_most))

  in_room : p < room_of_words words
  in_room = room_past words p query_place.there

  pub query_row : row_in words p ≡ requestor_at p (state_of words).table.requestors
  query_row = sym (row_at words p in_room)

  -- the lead, by D, the place's rate and its grants as words and log have them
  pub query_lead : (log : List ℕ) (d g n : ℕ) (x : ℤ) → d ≡ get_or words 0 0 → g ≡ bytes_equal p log → n ≡ (row_in words p).rate
      → x ≡ pos (d * g) -ℤ pos (n * length log) → faultless ≡ input_verdict (length log) → lead x ≡ lead_query (room_of_words words) (state_of words) p log
  unfolding lead_query lead_verdict lead_of then
  query_lead log d g n x ed eg en e short = rw (ok, ← short, e, ed ∙ denominator_word words, eg, en ∙ ap rate query_row)

  pub query_account : account_in words p ≡ account_at p (state_of words).accounts
  query_account = sym (trip.account_at_lem (room_of_words words) words p in_room)

-- j transfers that are held to their bounds
pub need_held : (b : code.Bounds) (p j : ℕ) → bounds_of b ≡ need_bounds p → faultless ≡ held_to (bounds_of b) j → j ≤ max_need
need_held b p j e f = (held_open (need_bounds p) j (sym (rw e at f))).1

-- ---- the numbers of a table that passed its checks

-- each number of a row fits 32 bits
pub record RowFits (r : Requestor) : Type 0 where
  pub rate : Fits w32 r.rate
  pub burst : Fits w32 r.burst
  pub need : Fits w32 r.need.0
  pub within : Fits w32 r.within.0

module _ (most : ℕ) (words : List ℕ) where
  pub checked_row : (p : ℕ) (r : Requestor) → Checked most words → p < (table_in words).count → r ≡ row_in words p → RowFits r
  checked_row p r k h e =
      let f = fair (room_of_words words) (table_in words) k.passes in
      let there : p < room_of_words words = omega (arith, f.count_most) in
      let row : Row (table_in words).denominator r = rw (e, ← row_at words p there) (row_fits (room_of_words words) (table_in words) p (rows_length words) k.passes h) in
      record {
        rate = omega (arith, row.rate_most, f.denominator_most);
        burst = omega (arith, row.burst_most);
        need = omega (arith, row.need_most);
        within = omega (arith, row.within_most);
      }

-- two numbers stored in front of a list
pub head_stored : (old : List ℕ) (x y : ℕ) → 2 ≤ length old → set (set old 0 x) 1 y ≡ written_over (x ∷ y ∷ []) old
unfolding written_over
head_stored [] x y h = absurd (omega (arith, h))
head_stored (a ∷ []) x y h = absurd (omega (arith, h))
head_stored (a ∷ b ∷ old) x y h = refl

-- ---- the numbers of a table that passed admission

module _ (words : List ℕ) (right : right_length max_places words ≡ true) (ok : admission_verdict (room_of_words words) (table_in words) ≡ faultless) where
  pub admitted_checked : Checked max_places words
  admitted_checked = record { right = right; passes = (admitted _ _ ok).passes }

  -- stored in front of a list, they are its first 2 + 4 × n numbers; n is N as the words have it
  pub record Lent (numbers : List ℕ) (n : ℕ) : Type 0 where
    pub few : n ≤ max_places
    pub inside : 2 + 4 * n ≤ length numbers
    pub same : take (2 + 4 * n) numbers ≡ table_numbers (table_in words)

  pub numbers_lent : (numbers old : List ℕ) (n : ℕ) → numbers ≡ written_over (table_numbers (table_in words)) old → n ≡ get_or words 1 0 → Lent numbers n
  numbers_lent numbers old n e f =
      let l = lent _ _ _ _ (rows_length words) admitted_checked.passes e in
      let many : n ≡ (table_in words).count = f ∙ count_word words in
      let used : 2 + 4 * (table_in words).count - 0 ≡ 2 + 4 * (table_in words).count = omega arith in
      record {
        few = omega (arith, many, l.few, (trip.right max_places words right).room_most);
        inside = rw many l.inside;
        same = rw many (rw used at l.same);
      }

-- ---- the ways out of a look at where the line stands

module _ (limit : ℕ) (s : State) where
  pub standing_unsound : sound limit s ≡ false → refused (refusal 23) ≡ standing limit s
  unfolding standing gate
  standing_unsound not = rw not

  pub standing_looked : sound limit s ≡ true → looked (record { slot = s.slot.0; count = s.table.count }) ≡ standing limit s
  unfolding standing gate
  standing_looked ok = rw ok
