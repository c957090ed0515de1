-- Checks 11 and 16 place by place over the table that words are: what the next step at place p is. Assumes nothing.
use Rattle.std.proofs.Common.{◌≡◌, refl, sym, true, false, not, List, ℕ, ◌+◌, ◌≤◌, ◌<◌, eqb, length}
use Rattle.lists.specs.Sums.{every}
use Rattle.terms.specs.Refusals.{faultless, fault, refusal, refusal_at, gate}
use Rattle.terms.specs.Table.{Table, requestors_of}
use Rattle.terms.specs.State.{place_verdict}
use Rattle.terms.specs.Chain.{follows, present, chain_to, name_verdict, circle_verdict, names_verdict, circles_verdict, following_verdict}
use Rattle.terms.proofs.Checks.{gate_passed, then_open, fair}
use Rattle.terms.proofs.Sound.{place_open, places_length}
use Rattle.layout.specs.Words.{room_of_words, state_of}
use Rattle.admission.specs.Checked.{table_in, Checked}
use Rattle.admission.proofs.Rows.{rows_length}
use Rattle.admission.proofs.Walks.{Walked, walk_pass, walk_break, walk_end}

-- as many requestors as places
pub places_there : (most : ℕ) (words : List ℕ) → Checked most words → length (requestors_of (table_in words)) ≡ (table_in words).count
places_there most words k = places_length (room_of_words words) (table_in words) (rows_length words) (fair (room_of_words words) (table_in words) k.passes)

-- a place that 23 and 11 let pass, and names that 11 lets pass
pub place_below : (words : List ℕ) (p : ℕ) → faultless ≡ place_verdict (room_of_words words) (state_of words) p → p < (table_in words).count
place_below words p e = (place_open _ _ _ (sym e)).1

pub names_passed : (t : Table) (names : List ℕ) → faultless ≡ following_verdict t names → names_verdict t names ≡ faultless
unfolding following_verdict
names_passed t names e = (then_open _ _ (sym e)).0

module _ (words names : List ℕ) where
  abbrev n : ℕ
  n = (table_in words).count

  -- what is left to check of the names, and of the circles, comes to the same as all of it
  abbrev pub NamesWalked : (p : ℕ) → Type 0
  NamesWalked p = Walked (name_verdict n names) words p

  abbrev pub CirclesWalked : (p : ℕ) → Type 0
  CirclesWalked p = Walked (circle_verdict n names) words p

  module _ (most p : ℕ) (k : Checked most words) where
    few : n ≤ room_of_words words
    few = (fair (room_of_words words) (table_in words) k.passes).count_most

    module _ (v : NamesWalked p) where
      pub names_pass : p < n → present n (follows names p) ≡ true → NamesWalked (p + 1)
      unfolding name_verdict
      names_pass h e = walk_pass _ words p v few h refl (gate_passed _ _ _ e)

      pub names_stop : p < n → present n (follows names p) ≡ false → fault (refusal 11) ≡ names_verdict (table_in words) names
      unfolding name_verdict gate
      names_stop h e = walk_break (name_verdict n names) words p v few h (rw e) refl

      pub names_end : n ≤ p → faultless ≡ names_verdict (table_in words) names
      names_end h = walk_end _ words p v h

    module _ (v : CirclesWalked p) where
      pub circles_pass : p < n → every (λ q. not (eqb q p)) (chain_to names n (follows names p)) ≡ true → CirclesWalked (p + 1)
      unfolding circle_verdict
      circles_pass h e = walk_pass _ words p v few h refl (gate_passed _ _ _ e)

      pub circles_stop : p < n → every (λ q. not (eqb q p)) (chain_to names n (follows names p)) ≡ false → fault (refusal_at 16 p) ≡ circles_verdict (table_in words) names
      unfolding circle_verdict gate
      circles_stop h e = walk_break (circle_verdict n names) words p v few h (rw e) refl

      pub circles_end : n ≤ p → faultless ≡ circles_verdict (table_in words) names
      circles_end h = walk_end _ words p v h
