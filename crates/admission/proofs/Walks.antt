-- The walks over the rows of words. From place 0 on: a sum above a place, a check of the rows of places 0 to N−1, and check 7, which does
-- both; from place N on: that the rows past the table are clear. For any room. Assumes nothing.
use Rattle.std.proofs.Common.{◌≡◌, refl, ap, sym, ◌∙◌, Bool, true, false, List, ℕ, ◌+◌, ◌-◌, ◌≤◌, ◌<◌, arith, leb, length, take, drop}
use Rattle.lists.specs.Sums.{total, every}
use Rattle.lists.proofs.Sums.{total_take_rises}
use Rattle.lists.proofs.Tests.{true_false, every_pass, every_stop, every_end}
use Rattle.terms.specs.declared.refusals.Refusal.{Refusal}
use Rattle.terms.specs.declared.place.Requestor.{Requestor}
use Rattle.terms.specs.Table.{rate, burst, no_requestor, requestor_clear, requestor_at, requestors_of, each_place, tail_verdict}
use Rattle.terms.specs.Refusals.{Verdict, faultless, fault, refusal, refusal_at, gate}
use Rattle.terms.specs.State.{is_faultless}
use Rattle.terms.specs.Figures.{finish_of, finish, finish_verdict, finishes_verdict}
use Rattle.terms.proofs.Checks.{gate_passed, gate_failed, fair}
use Rattle.terms.proofs.Places.{each_pass, each_stop, each_end}
use Rattle.layout.specs.Words.{word_count, room_of_words, row_in}
use Rattle.admission.specs.Checked.{table_in, rows_in, Checked}
use Rattle.admission.proofs.Rows.{rows_length, row_at, sum_next, Placed, placed, figure}

-- ---- a sum above a place

-- of the rows above place q
abbrev pub Summed : (Requestor → ℕ) → List ℕ → (sum q : ℕ) → Type 0
Summed f words sum q = sum ≡ total f (take q (rows_in words))

pub summed_none : (f : Requestor → ℕ) (words : List ℕ) → Summed f words 0 0
unfolding total
summed_none f words = refl

module _ (f : Requestor → ℕ) (none : f no_requestor ≡ 0) (words : List ℕ) (sum q : ℕ) (v : Summed f words sum q) (there : word_count (q + 1) ≤ length words) where
  pub summed_more : Summed f words (sum + f (row_in words q)) (q + 1)
  summed_more = omega (arith, v, sum_next words f none q there)

  -- on the way to place p no sum is above the whole
  pub summed_at_most : (p : ℕ) → q < p → sum + f (row_in words q) ≤ total f (take p (rows_in words))
  summed_at_most p h = omega (arith, summed_more, total_take_rises f (q + 1) p (rows_in words) (omega arith))

-- ---- a check of the rows of places 0 to N−1

-- the walk from place p on finds what the whole walk finds
abbrev pub Walked : (ℕ → Requestor → Verdict) → List ℕ → (p : ℕ) → Type 0
Walked check words p = each_place check 0 (requestors_of (table_in words)) ≡ each_place check p (drop p (requestors_of (table_in words)))

module _ (check : ℕ → Requestor → Verdict) (words : List ℕ) (p : ℕ) (w : Walked check words p) where
  module _ (few : (table_in words).count ≤ room_of_words words) (h : p < (table_in words).count) {found : Verdict} (e : found ≡ check p (row_in words p)) where
    here : check p (requestor_at p (rows_in words)) ≡ found
    here = ap (check p) (row_at words p (omega arith)) ∙ sym e

    long : (table_in words).count ≤ length (rows_in words)
    long = omega (arith, rows_length words)

    pub walk_pass : found ≡ faultless → Walked check words (p + 1)
    walk_pass none = w ∙ each_pass check (rows_in words) (table_in words).count p long h (here ∙ none)

    walk_stop : {r : Refusal} → found ≡ fault r → fault r ≡ each_place check 0 (requestors_of (table_in words))
    walk_stop {r} some = sym (w ∙ each_stop check (rows_in words) (table_in words).count p long h r (here ∙ some))

    -- the row that does not hold: its fault is the first
    pub walk_break : is_faultless found ≡ false → found ≡ each_place check 0 (requestors_of (table_in words))
    walk_break off = by found refl off
      where
        by : (v : Verdict) → found ≡ v → is_faultless v ≡ false → found ≡ each_place check 0 (requestors_of (table_in words))
        by faultless f off = true_false off
        by (fault r) f off = f ∙ walk_stop f

  pub walk_end : (table_in words).count ≤ p → faultless ≡ each_place check 0 (requestors_of (table_in words))
  walk_end past = sym (w ∙ each_end check (rows_in words) (table_in words).count p past)

-- ---- check 7

-- the test of the row at place p
abbrev pub finish_holds : List ℕ → ℕ → Requestor → Bool
finish_holds words p r = leb (finish (table_in words).denominator (requestors_of (table_in words)) p r.need.0) r.within.0

abbrev finish_check : List ℕ → ℕ → Requestor → Verdict
finish_check words = finish_verdict (table_in words).denominator (requestors_of (table_in words))

-- the sums above place p are carried along, and check 7 from there on finds what the whole of it finds
pub record Carried (words : List ℕ) (bursts rates p : ℕ) : Type 0 where
  pub bursts_are : Summed burst words bursts p
  pub rates_are : Summed rate words rates p
  pub walked : Walked (finish_check words) words p

pub carried_none : (words : List ℕ) → Carried words 0 0 0
carried_none words = record { bursts_are = summed_none burst words; rates_are = summed_none rate words; walked = refl }

-- the row at place p, tested with the sums that are carried
module _ (most : ℕ) (words : List ℕ) (bursts rates p d : ℕ) (r : Requestor) (on : Bool) (v : Carried words bursts rates p) (ok : Checked most words)
    (h : p < (table_in words).count) (ed : d ≡ (table_in words).denominator) (er : r ≡ row_in words p)
    (tested : on ≡ leb (finish_of d bursts (d - rates) r.rate r.need.0) r.within.0) where
  few : (table_in words).count ≤ room_of_words words
  few = (fair _ _ ok.passes).count_most

  facts : Placed most words p
  facts = placed most words p ok h

  holds : on ≡ finish_holds words p (row_in words p)
  holds =
      tested
      ∙ ap (λ x. leb x r.within.0) (figure most words p facts d bursts rates r.rate r.need.0 ed v.bursts_are v.rates_are (ap (λ x. x.rate) er))
      ∙ ap (finish_holds words p) er

  pub carried_more : on ≡ true → Carried words (bursts + r.burst) (rates + r.rate) (p + 1)
  unfolding finish_verdict
  carried_more e = rw er (record {
    bursts_are = summed_more burst refl words bursts p v.bursts_are facts.there;
    rates_are = summed_more rate refl words rates p v.rates_are facts.there;
    walked = walk_pass (finish_check words) words p v.walked few h refl (gate_passed _ _ _ (sym holds ∙ e));
  })

  pub carried_stop : on ≡ false → fault (refusal_at 7 p) ≡ finishes_verdict (table_in words)
  unfolding finish_verdict
  carried_stop e = walk_stop (finish_check words) words p v.walked few h refl (gate_failed _ _ _ (sym holds ∙ e))

pub carried_end : (words : List ℕ) (bursts rates p : ℕ) → Carried words bursts rates p → (table_in words).count ≤ p → faultless ≡ finishes_verdict (table_in words)
carried_end words bursts rates p v past = walk_end (finish_check words) words p v.walked past

-- ---- the rows past place N−1

-- those from place p on are clear exactly if all of them are
abbrev pub Cleared : List ℕ → (p : ℕ) → Type 0
Cleared words p = every requestor_clear (drop (table_in words).count (rows_in words)) ≡ every requestor_clear (drop p (rows_in words))

module _ (words : List ℕ) (p : ℕ) (w : Cleared words p) where
  module _ (h : p < room_of_words words) {clear : Bool} (e : clear ≡ requestor_clear (row_in words p)) where
    row_clear : requestor_clear (requestor_at p (rows_in words)) ≡ clear
    row_clear = ap requestor_clear (row_at words p h) ∙ sym e

    inside : p < length (rows_in words)
    inside = omega (arith, rows_length words)

    pub tail_pass : clear ≡ true → Cleared words (p + 1)
    tail_pass on = w ∙ every_pass requestor_clear no_requestor (rows_in words) p inside (row_clear ∙ on)

    pub tail_stop : clear ≡ false → fault (refusal 2) ≡ tail_verdict (table_in words)
    unfolding tail_verdict gate
    tail_stop off = rw (w ∙ every_stop requestor_clear no_requestor (rows_in words) p inside (row_clear ∙ off))

  pub tail_end : room_of_words words ≤ p → faultless ≡ tail_verdict (table_in words)
  unfolding tail_verdict gate
  tail_end past = rw (w ∙ every_end requestor_clear no_requestor (rows_in words) p (omega (arith, rows_length words)))
