-- The walk along a chain, from a place back to the first link: what its next step is. Check 16 tests the places that it meets, and the chain
-- figure sums over them. Assumes nothing.
use Rattle.std.proofs.Common.{◌≡◌, refl, ap, sym, ◌∙◌, Bool, true, false, not, List, [], ◌∷◌, ◌++◌, ℕ, zero, suc, ◌+◌, ◌-◌, ◌*◌, ◌≤◌, ◌<◌, arith, eq-eqb, ne_eqb, eqb, Option, None, Some}
use native.Mathlib.Nat.{sub-zero}
use Rattle.lists.specs.Sums.{total, every}
use Rattle.lists.proofs.Tests.{every_last, every_last_fails}
use Rattle.lists.proofs.Sums.{total_append}
use Rattle.terms.specs.Chain.{follows, chain_to}

pub chain_none : (names : List ℕ) (most : ℕ) → chain_to names most None ≡ []
unfolding chain_to
chain_none names zero = refl
chain_none names (suc most) = refl

-- after k of n steps
module _ (names : List ℕ) (n k : ℕ) where
  pub chain_over : (o : Option ℕ) → n ≤ k → chain_to names (n - k) o ≡ []
  unfolding chain_to
  chain_over o h = let over : n - k ≡ 0 = omega arith in rw over

  pub chain_link : (p : ℕ) → k < n → chain_to names (n - k) (Some p) ≡ chain_to names (n - (k + 1)) (follows names p) ++ (p ∷ [])
  unfolding chain_to
  chain_link p h = let more : n - k ≡ suc (n - (k + 1)) = omega arith in rw more

  -- a test of every place met
  module _ (test : ℕ → Bool) where
    pub every_over : (o : Option ℕ) → n ≤ k → every test (chain_to names (n - k) o) ≡ true
    unfolding every
    every_over o h = rw (chain_over o h)

    pub every_none : every test (chain_to names (n - k) None) ≡ true
    unfolding every
    every_none = rw (chain_none names (n - k))

    pub every_link : (p : ℕ) → k < n → test p ≡ true → every test (chain_to names (n - k) (Some p)) ≡ every test (chain_to names (n - (k + 1)) (follows names p))
    every_link p h e = ap (every test) (chain_link p h) ∙ every_last test 0 (chain_to names (n - (k + 1)) (follows names p)) p e

    pub every_link_fails : (p : ℕ) → k < n → test p ≡ false → every test (chain_to names (n - k) (Some p)) ≡ false
    every_link_fails p h e = ap (every test) (chain_link p h) ∙ every_last_fails test 0 (chain_to names (n - (k + 1)) (follows names p)) p e

  -- a sum over them
  module _ (f : ℕ → ℕ) where
    pub total_over : (o : Option ℕ) → n ≤ k → total f (chain_to names (n - k) o) ≡ 0
    unfolding total
    total_over o h = rw (chain_over o h)

    pub total_link : (p : ℕ) → k < n → total f (chain_to names (n - k) (Some p)) ≡ total f (chain_to names (n - (k + 1)) (follows names p)) + f p
    unfolding total
    total_link p h = omega (arith, ap (total f) (chain_link p h), total_append f (chain_to names (n - (k + 1)) (follows names p)) (p ∷ []))

    pub total_none : (p : ℕ) → k < n → follows names p ≡ None → total f (chain_to names (n - k) (Some p)) ≡ f p
    unfolding total
    total_none p h e = omega (arith, total_link p h, ap (λ o. total f (chain_to names (n - (k + 1)) o)) e, ap (total f) (chain_none names (n - (k + 1))))

-- ---- the two walks, k steps from place p on and now at place `at`

abbrev pub is_other : (p q : ℕ) → Bool
is_other p q = not (eqb q p)

-- check 16: what is left to test comes to the same as all of it
module _ (names : List ℕ) (n p : ℕ) where
  abbrev pub Clear : (at k : ℕ) → Type 0
  Clear at k = every (is_other p) (chain_to names n (follows names p)) ≡ every (is_other p) (chain_to names (n - k) (follows names at))

  pub clear_none : Clear p 0
  clear_none = rw (sub-zero n)

  module _ (at k : ℕ) (v : Clear at k) where
    pub clear_ends : follows names at ≡ None → true ≡ every (is_other p) (chain_to names n (follows names p))
    clear_ends e = sym (v ∙ ap (λ o. every (is_other p) (chain_to names (n - k) o)) e ∙ every_none names n k (is_other p))

    pub clear_all : n ≤ k → true ≡ every (is_other p) (chain_to names n (follows names p))
    clear_all h = sym (v ∙ every_over names n k (is_other p) (follows names at) h)

    module _ (q : ℕ) (h : k < n) (e : follows names at ≡ Some q) where
      pub clear_meets : q ≡ p → false ≡ every (is_other p) (chain_to names n (follows names p))
      clear_meets same =
          let met : is_other p q ≡ false = rw (eq-eqb q p same) in
          sym (v ∙ ap (λ o. every (is_other p) (chain_to names (n - k) o)) e ∙ every_link_fails names n k (is_other p) q h met)

      pub clear_more : (q ≡ p → ⊥) → Clear q (k + 1)
      clear_more apart =
          let passed : is_other p q ≡ true = rw (ne_eqb q p apart) in
          v ∙ ap (λ o. every (is_other p) (chain_to names (n - k) o)) e ∙ every_link names n k (is_other p) q h passed

-- the chain figure: f is summed over the k links behind, each at most `most`, and is still to be summed from `at` on
module _ (names : List ℕ) (f : ℕ → ℕ) (n most p : ℕ) where
  pub record Summed (sum at k : ℕ) : Type 0 where
    pub place : at < n
    pub few : k ≤ n
    pub adds_up : sum + total f (chain_to names (n - k) (Some at)) ≡ total f (chain_to names n (Some p))
    pub small : sum ≤ k * most

  pub summed_none : p < n → Summed 0 p 0
  summed_none place = record { place = place; few = omega arith; adds_up = rw (sub-zero n) (omega arith); small = omega arith }

  module _ (sum at k : ℕ) (v : Summed sum at k) where
    pub summed_all : n ≤ k → sum ≡ total f (chain_to names n (Some p))
    summed_all h = omega (arith, v.adds_up, total_over names n k f (Some at) h)

    module _ (h : k < n) where
      pub summed_ends : follows names at ≡ None → sum + f at ≡ total f (chain_to names n (Some p))
      summed_ends e = omega (arith, v.adds_up, total_none names n k f at h e)

      pub summed_more : (q : ℕ) → follows names at ≡ Some q → q < n → f at ≤ most → Summed (sum + f at) q (k + 1)
      summed_more q e place own = record {
        place = place;
        few = omega arith;
        adds_up = omega (arith, v.adds_up, total_link names n k f at h, ap (λ o. total f (chain_to names (n - (k + 1)) o)) e);
        small = omega (arith, v.small);
      }
