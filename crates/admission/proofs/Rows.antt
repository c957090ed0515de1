-- The table that words are, row by row; its sums above a place; and what is known of a place once checks 1 to 6 are passed. For any room.
-- Assumes nothing.
use Rattle.std.proofs.Common.{◌≡◌, refl, ap, ◌∙◌, true, List, ℕ, ◌+◌, ◌-◌, ◌*◌, ◌≤◌, ◌<◌, mul-le-mul_right, add-one, arith, length, take, get_or}
use Rattle.lists.specs.Sums.{total}
use Rattle.lists.proofs.Sums.{total_take_suc}
use Rattle.terms.specs.declared.place.Requestor.{Requestor}
use Rattle.terms.specs.Limits.{max_burst, max_need, max_within, max_denominator}
use Rattle.terms.specs.Table.{no_requestor, requestor_at, requestors_of}
use Rattle.terms.specs.Figures.{bursts_above, rates_above, finish_of, finish}
use Rattle.terms.proofs.Above.{above}
use Rattle.terms.proofs.Checks.{offered_passes}
use Rattle.layout.specs.Words.{word_count, room_of_words, right_length, row_in, words_state}
use Rattle.layout.proofs.Items.{length_places, at_place}
use Rattle.layout.proofs.RoundTrip.{right}
use Rattle.admission.specs.Checked.{table_in, rows_in, Checked, OfferChecked, Parts}

module _ (words : List ℕ) where
  -- ---- the table's fields

  pub denominator_word : get_or words 0 0 ≡ (table_in words).denominator
  unfolding words_state
  denominator_word = refl

  pub count_word : get_or words 1 0 ≡ (table_in words).count
  unfolding words_state
  count_word = refl

  pub rows_length : length (rows_in words) ≡ room_of_words words
  unfolding words_state
  rows_length = length_places (row_in words) 0 (room_of_words words)

  pub row_at : (p : ℕ) → p < room_of_words words → requestor_at p (rows_in words) ≡ row_in words p
  unfolding words_state
  row_at p h = at_place (row_in words) no_requestor (room_of_words words) p h

  -- ---- room

  pub head_there : (most : ℕ) → right_length most words ≡ true → 3 ≤ length words
  head_there most e = omega (arith, (right most words e).long)

  -- words that go on past place p have room for it
  pub room_past : (p : ℕ) → word_count (p + 1) ≤ length words → p < room_of_words words
  unfolding room_of_words
  room_past p h = omega arith

  pub within_room : (p : ℕ) → 3 ≤ length words → p ≤ room_of_words words → word_count p ≤ length words
  unfolding room_of_words
  within_room p there h = omega arith

  -- ---- sums

  -- of one more place
  pub sum_next : (f : Requestor → ℕ) → f no_requestor ≡ 0 → (p : ℕ) → word_count (p + 1) ≤ length words
      → total f (take (p + 1) (rows_in words)) ≡ total f (take p (rows_in words)) + f (row_in words p)
  sum_next f none p there =
      rw (add-one p) (total_take_suc f no_requestor none p (rows_in words))
      ∙ ap (λ r. total f (take p (rows_in words)) + f r) (row_at p (room_past p there))

-- ---- a place below N of words that passed checks 1 to 6

-- as those that passed 17 too have
pub offered_checked : (most : ℕ) (words : List ℕ) → OfferChecked most words → Checked most words
offered_checked most words o = record { right = o.right; passes = offered_passes (room_of_words words) (table_in words) o.passes }

pub record Placed (most : ℕ) (words : List ℕ) (p : ℕ) : Type 0 where
  pub there : word_count (p + 1) ≤ length words
  pub denominator_most : (table_in words).denominator ≤ max_denominator
  pub own_rate : 1 ≤ (row_in words p).rate
  pub own_need : (row_in words p).need.0 ≤ max_need
  pub own_within : (row_in words p).within.0 ≤ max_within
  pub rates : rates_above p (rows_in words) + (row_in words p).rate ≤ (table_in words).denominator
  pub bursts : bursts_above p (rows_in words) + (row_in words p).burst ≤ most * max_burst
  -- the rows of places 0 to N−1 are the same up to here
  pub same_rates : rates_above p (requestors_of (table_in words)) ≡ rates_above p (rows_in words)
  pub same_bursts : bursts_above p (requestors_of (table_in words)) ≡ bursts_above p (rows_in words)
  pub same_row : requestor_at p (requestors_of (table_in words)) ≡ row_in words p

pub placed : (most : ℕ) (words : List ℕ) (p : ℕ) → Checked most words → p < (table_in words).count → Placed most words p
placed most words p k h =
    let r = right most words k.right in
    let a = above (room_of_words words) (table_in words) p (rows_length words) k.passes h in
    let row = row_at words p a.place in
    record {
      there = omega (arith, r.long, a.place);
      denominator_most = a.denominator_most;
      own_rate = rw row at a.own_rate;
      own_need = rw row at a.own_need;
      own_within = rw row at a.own_within;
      rates = rw row at a.rates;
      bursts = omega (arith, rw row at a.bursts, mul-le-mul_right max_burst r.room_most);
      same_rates = a.same_rates;
      same_bursts = a.same_bursts;
      same_row = a.same_row ∙ row;
    }

-- the parts of its finish figure are within their limits, and the figure is the table's
module _ (most : ℕ) (words : List ℕ) (p : ℕ) (f : Placed most words p) (d bursts rates n j : ℕ)
    (ed : d ≡ (table_in words).denominator) (eb : bursts ≡ bursts_above p (rows_in words)) (er : rates ≡ rates_above p (rows_in words)) (en : n ≡ (row_in words p).rate) where
  pub parts : j ≤ max_need → Parts most d bursts (d - rates) n j
  parts few = record {
    denominator_most = omega (arith, f.denominator_most);
    bursts_most = omega (arith, f.bursts);
    left_least = omega (arith, f.rates, f.own_rate);
    left_most = omega (arith, f.denominator_most);
    rate_least = omega (arith, f.own_rate);
    rate_most = omega (arith, f.rates, f.denominator_most);
    need_most = few;
  }

  pub figure : finish_of d bursts (d - rates) n j ≡ finish (table_in words).denominator (requestors_of (table_in words)) p j
  unfolding finish
  figure = rw (ed, eb, er, en, f.same_bursts, f.same_rates, f.same_row)
