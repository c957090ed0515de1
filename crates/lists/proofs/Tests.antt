-- Laws on tests over a list and over numbers: what a test that passes says of each element, and the other way round.
-- Assumes nothing.
use Rattle.std.proofs.Common.{◌≡◌, refl, ap, sym, Bool, true, false, ◌&&◌, List, [], ◌∷◌, ◌++◌, ℕ, zero, suc, ◌+◌, ◌≤◌, ◌<◌, not-suc-le-zero, arith, add-one, leb-true, le-leb, eqb-true, leb, eqb, length, get_or, take, drop, drop_of_length-le, drop-cons}
use borrow.Author.Tests.{eqb-false}
use Rattle.lists.specs.Choices.{in_range}
use Rattle.lists.specs.Sums.{every, up_to}

-- a proof by the two values of a test
pub cases {ℓ} : {X : Type ℓ} (b : Bool) → (b ≡ true → X) → (b ≡ false → X) → X
cases true f g = f refl
cases false f g = g refl

pub true_false : {X : Type 0} → true ≡ false → X
true_false e = let z : ◌≡◌ {A = ℕ} 0 1 = cc in absurd (omega arith)

pub and_true : (a b : Bool) → (a && b) ≡ true → (a ≡ true) × (b ≡ true)
and_true true b e = (refl, e)
and_true false b e = true_false (sym e)

pub true_and : (a b : Bool) → a ≡ true → b ≡ true → (a && b) ≡ true
true_and a b p q = rw (p, q)

pub and_false : (a b : Bool) → b ≡ false → (a && b) ≡ false
and_false true b e = e
and_false false b e = refl

pub in_range_true : (low high x : ℕ) → in_range low high x ≡ true → (low ≤ x) × (x ≤ high)
in_range_true low high x e =
    let a = and_true (leb low x) (leb x high) e in
    (leb-true low x a.0, leb-true x high a.1)

pub in_range_lem : {low high x : ℕ} → low ≤ x → x ≤ high → in_range low high x ≡ true
in_range_lem {low} {high} {x} a b = true_and (leb low x) (leb x high) (le-leb low x a) (le-leb x high b)

module _ {A : Type 0} (test : A → Bool) (z : A) where
  pub every_at : (xs : List A) → every test xs ≡ true → (i : ℕ) → i < length xs → test (get_or xs i z) ≡ true
  unfolding every
  every_at [] e i h = absurd (not-suc-le-zero h)
  every_at (x ∷ xs) e zero h = (and_true (test x) (every test xs) e).0
  every_at (x ∷ xs) e (suc i) h = every_at xs (and_true (test x) (every test xs) e).1 i (omega arith)

  pub at_every : (xs : List A) → ((i : ℕ) → i < length xs → test (get_or xs i z) ≡ true) → every test xs ≡ true
  unfolding every
  at_every [] h = refl
  at_every (x ∷ xs) h = true_and (test x) (every test xs) (h 0 (omega arith)) (at_every xs (λ i l. h (suc i) (omega arith)))

  pub every_more : (xs : List A) (i : ℕ) → every test (take i xs) ≡ true → test (get_or xs i z) ≡ true → every test (take (suc i) xs) ≡ true
  unfolding every
  every_more [] i e t = refl
  every_more (x ∷ xs) zero e t = true_and (test x) true t refl
  every_more (x ∷ xs) (suc i) e t =
      let a = and_true (test x) (every test (take i xs)) e in
      true_and (test x) (every test (take (suc i) xs)) a.0 (every_more xs i a.1 t)

  pub every_fails : (xs : List A) (i : ℕ) → i < length xs → test (get_or xs i z) ≡ false → every test xs ≡ false
  unfolding every
  every_fails [] i h e = absurd (not-suc-le-zero h)
  every_fails (x ∷ xs) zero h e = rw e
  every_fails (x ∷ xs) (suc i) h e = and_false (test x) (every test xs) (every_fails xs i (omega arith) e)

  -- one element more at the end
  pub every_last : (xs : List A) (x : A) → test x ≡ true → every test (xs ++ (x ∷ [])) ≡ every test xs
  unfolding every
  every_last [] x e = rw e
  every_last (y ∷ xs) x e = ap (λ b. test y && b) (every_last xs x e)

  pub every_last_fails : (xs : List A) (x : A) → test x ≡ false → every test (xs ++ (x ∷ [])) ≡ false
  unfolding every
  every_last_fails [] x e = rw e
  every_last_fails (y ∷ xs) x e = and_false (test y) (every test (xs ++ (x ∷ []))) (every_last_fails xs x e)

  -- a walk over a list, from element i on: what its next step is
  pub every_pass : (xs : List A) (i : ℕ) → i < length xs → test (get_or xs i z) ≡ true → every test (drop i xs) ≡ every test (drop (i + 1) xs)
  unfolding every
  every_pass xs i h e = rw (drop-cons xs i z h, e, add-one)

  pub every_stop : (xs : List A) (i : ℕ) → i < length xs → test (get_or xs i z) ≡ false → every test (drop i xs) ≡ false
  unfolding every
  every_stop xs i h e = rw (drop-cons xs i z h, e)

  pub every_end : (xs : List A) (i : ℕ) → length xs ≤ i → every test (drop i xs) ≡ true
  unfolding every
  every_end xs i h = rw (drop_of_length-le xs h)

module _ (test : ℕ → Bool) where
  pub up_to_at : (n : ℕ) → up_to n test ≡ true → (k : ℕ) → 1 ≤ k → k ≤ n → test k ≡ true
  unfolding up_to
  up_to_at zero e k l h = absurd (omega arith)
  up_to_at (suc n) e k l h = cases (eqb k (suc n))
      (λ q. rw (eqb-true k (suc n) q) (and_true (up_to n test) (test (suc n)) e).1)
      (λ q. up_to_at n (and_true (up_to n test) (test (suc n)) e).0 k l (below q))
    where
      below : eqb k (suc n) ≡ false → k ≤ n
      below q = let d = eqb-false k (suc n) q in omega arith

  pub at_up_to : (n : ℕ) → ((k : ℕ) → 1 ≤ k → k ≤ n → test k ≡ true) → up_to n test ≡ true
  unfolding up_to
  at_up_to zero h = refl
  at_up_to (suc n) h = true_and (up_to n test) (test (suc n)) (at_up_to n (λ k l m. h k l (omega arith))) (h (suc n) (omega arith) (omega arith))

  pub up_to_fails : (n k : ℕ) → 1 ≤ k → k ≤ n → test k ≡ false → up_to n test ≡ false
  unfolding up_to
  up_to_fails zero k l h e = absurd (omega arith)
  up_to_fails (suc n) k l h e = cases (eqb k (suc n))
      (λ q. and_false (up_to n test) (test (suc n)) (rw (eqb-true k (suc n) q) at e))
      (λ q. below (up_to_fails n k l) (eqb-false k (suc n) q))
    where
      below : (k ≤ n → test k ≡ false → up_to n test ≡ false) → (k ≡ suc n → ⊥) → (up_to n test && test (suc n)) ≡ false
      below fails q = let d : k ≤ n = omega arith in rw (fails d e)
