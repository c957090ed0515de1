-- The log bytes equal to p: among the first i, and as the library counts. Assumes nothing.
use Rattle.std.proofs.Common.{◌≡◌, refl, Bool, true, false, cond, List, [], ◌∷◌, ℕ, zero, suc, ◌+◌, ◌≤◌, ◌<◌, not-suc-le-zero, add-one, arith, eq-eqb, ne_eqb, eqb, length, get_or, take, take_all}
use Rattle.std.specs.List.{count_by}
use Rattle.std.proofs.lemmas.List.Recursion.{is_count_by}
use Rattle.std.proofs.lemmas.List.Sums.{count_by-le-length}
use Rattle.lists.specs.Choices.{pick}
use Rattle.lists.specs.Sums.{total}
use Rattle.lead_parts.specs.Counts.{bytes_equal}

-- one byte more
bytes_next : (p i : ℕ) (log : List ℕ) → i < length log → bytes_equal p (take (suc i) log) ≡ bytes_equal p (take i log) + pick (eqb (get_or log i 0) p) 1 0
unfolding total
bytes_next p i [] h = absurd (not-suc-le-zero h)
bytes_next p zero (x ∷ log) h = omega arith
bytes_next p (suc i) (x ∷ log) h = omega (arith, bytes_next p i log (omega arith))

-- of the first i bytes, k are p
pub record Counted (p : ℕ) (log : List ℕ) (k i : ℕ) : Type 0 where
  pub inside : i ≤ length log
  pub few : k ≤ i
  pub count : k ≡ bytes_equal p (take i log)

-- before the first byte
pub counted_none : (p : ℕ) (log : List ℕ) → Counted p log 0 0
unfolding total
counted_none p log = record { inside = omega arith; few = omega arith; count = refl }

module _ {p : ℕ} {log : List ℕ} {k i : ℕ} (sofar : Counted p log k i) (h : i < length log) where
  -- the next byte is p
  pub counted_same : get_or log i 0 ≡ p → Counted p log (k + 1) (i + 1)
  counted_same e = record {
    inside = omega arith;
    few = omega arith;
    count = rw (add-one i) (omega (arith, rw (eq-eqb _ _ e) at (bytes_next p i log h)));
  }

  -- the next byte is another
  pub counted_other : (get_or log i 0 ≡ p → ⊥) → Counted p log k (i + 1)
  counted_other e = record {
    inside = omega arith;
    few = omega arith;
    count = rw (add-one i) (omega (arith, rw (ne_eqb _ _ e) at (bytes_next p i log h)));
  }

-- past the last byte
pub counted_all : {p : ℕ} {log : List ℕ} {k i : ℕ} → Counted p log k i → length log ≤ i → k ≡ bytes_equal p log
counted_all {p} {log} {k} {i} all h = rw (take_all i log h) at all.count

-- ---- as the library counts

one_more : (b : Bool) (k : ℕ) → pick b 1 0 + k ≡ cond b (1 + k) k
one_more true k = omega arith
one_more false k = omega arith

pub counted_bytes : (p : ℕ) (log : List ℕ) → bytes_equal p log ≡ count_by (λ x. eqb x p) log
unfolding total
counted_bytes p log = is_count_by (bytes_equal p) (λ x. eqb x p) refl (λ x xs. one_more (eqb x p) (bytes_equal p xs)) log

-- no more than there are
pub bytes_most : (p : ℕ) (log : List ℕ) → bytes_equal p log ≤ length log
bytes_most p log = rw (counted_bytes p log) (count_by-le-length (λ x. eqb x p) log)
