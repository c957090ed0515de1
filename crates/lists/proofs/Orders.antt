-- Laws on a list without one of its elements, and on the elements of a list in another order. Assumes nothing.
use Rattle.std.proofs.Common.{◌≡◌, refl, ap, sym, ◌∙◌, Bool, List, [], ◌∷◌, ◌++◌, ℕ, zero, suc, ◌+◌, ◌≤◌, ◌<◌, arith, length, get_or, take}
use Rattle.lists.specs.Choices.{pick}
use Rattle.lists.specs.Sums.{total}
use Rattle.lists.specs.Orders.{without, occurrences, Permuted, Tells}
use Rattle.lists.proofs.Tests.{cases}

-- ---- without one element

-- where element p of the others stands among all
unfoldable pub past : (i p : ℕ) → ℕ
past zero p = suc p
past (suc i) zero = zero
past (suc i) (suc p) = suc (past i p)

module _ {A : Type 0} where
  pub length_without : (i : ℕ) (xs : List A) → i < length xs → suc (length (without i xs)) ≡ length xs
  unfolding without
  length_without i [] h = absurd (omega arith)
  length_without zero (x ∷ xs) h = refl
  length_without (suc i) (x ∷ xs) h = ap suc (length_without i xs (omega arith))

  pub past_inside : (i p : ℕ) (xs : List A) → p < length (without i xs) → past i p < length xs
  unfolding without past
  past_inside i p [] h = absurd (omega arith)
  past_inside zero p (x ∷ xs) h = omega arith
  past_inside (suc i) zero (x ∷ xs) h = omega arith
  past_inside (suc i) (suc p) (x ∷ xs) h = let inner = past_inside i p xs (omega arith) in omega arith

  -- the last of them left out
  pub without_last : (k : ℕ) (xs : List A) → length xs ≡ suc k → without k xs ≡ take k xs
  unfolding without
  without_last k [] e = absurd (omega arith)
  without_last zero (x ∷ []) e = refl
  without_last zero (x ∷ (y ∷ xs)) e = absurd (omega arith)
  without_last (suc k) (x ∷ xs) e = ap (λ l. x ∷ l) (without_last k xs (omega arith))

  -- one more behind them
  pub without_append : (i : ℕ) (xs ys : List A) → i < length xs → without i (xs ++ ys) ≡ without i xs ++ ys
  unfolding without
  without_append i [] ys h = absurd (omega arith)
  without_append zero (x ∷ xs) ys h = refl
  without_append (suc i) (x ∷ xs) ys h = ap (λ l. x ∷ l) (without_append i xs ys (omega arith))

  module _ (f : A → ℕ) where
    -- what the others above one of them sum to
    pub total_take_without : (i p : ℕ) (xs : List A) → total f (take p (without i xs)) ≤ total f (take (past i p) xs)
    unfolding without past total
    total_take_without i zero xs = omega arith
    total_take_without i (suc p) [] = omega arith
    total_take_without zero (suc p) (x ∷ xs) = omega arith
    total_take_without (suc i) (suc p) (x ∷ xs) = omega (arith, total_take_without i p xs)

module _ {A : Type 0} (z : A) where
  pub at_without : (i p : ℕ) (xs : List A) → get_or (without i xs) p z ≡ get_or xs (past i p) z
  unfolding without past
  at_without i p [] = refl
  at_without zero p (x ∷ xs) = refl
  at_without (suc i) zero (x ∷ xs) = refl
  at_without (suc i) (suc p) (x ∷ xs) = at_without i p xs

  -- a sum is that of the element and of the others
  pub total_without : (f : A → ℕ) (i : ℕ) (xs : List A) → i < length xs → total f xs ≡ f (get_or xs i z) + total f (without i xs)
  unfolding without total
  total_without f i [] h = absurd (omega arith)
  total_without f zero (x ∷ xs) h = refl
  total_without f (suc i) (x ∷ xs) h = omega (arith, total_without f i xs (omega arith))

-- ---- in another order

module _ {A : Type 0} (same : A → A → Bool) (tells : Tells same) (z : A) where
  -- what stands in a list stands at some place of it
  pub stands_at_lem : (x : A) (xs : List A) → 1 ≤ occurrences same x xs → (i : ℕ) × (i < length xs) × (get_or xs i z ≡ x)
  unfolding occurrences total
  stands_at_lem x [] h = absurd (omega arith)
  stands_at_lem x (y ∷ xs) h = cases (same x y)
      (λ on. (0, omega arith, sym (tells.no_other x y on)))
      (λ off. let more = rw off at h in let at = stands_at_lem x xs (omega arith) in (suc at.0, omega (arith, at.1), at.2))

  pub counted : (i : ℕ) (xs : List A) → i < length xs → 1 ≤ occurrences same (get_or xs i z) xs
  unfolding occurrences
  counted i xs h =
      let x = get_or xs i z in
      let one : ◌≡◌ {A = ℕ} (pick (same x x) 1 0) 1 = rw (tells.itself x) in
      omega (arith, total_without z (λ y. pick (same x y) 1 0) i xs h)

  module _ (xs ys : List A) (e : Permuted same xs ys) where
    -- what stands in the one stands in the other
    pub also_at : (i : ℕ) → i < length xs → (j : ℕ) × (j < length ys) × (get_or ys j z ≡ get_or xs i z)
    also_at i h = stands_at_lem (get_or xs i z) ys (omega (arith, counted i xs h, e (get_or xs i z)))

    -- the same element left out of both
    pub permuted_without : (i j : ℕ) → i < length xs → j < length ys → get_or xs i z ≡ get_or ys j z → Permuted same (without i xs) (without j ys)
    unfolding occurrences
    permuted_without i j h k at x =
        let f : A → ℕ = λ y. pick (same x y) 1 0 in
        let one : f (get_or xs i z) ≡ f (get_or ys j z) = ap f at in
        omega (arith, total_without z f i xs h, total_without z f j ys k, e x, one)

  -- every sum is the same
  pub permuted_total : (f : A → ℕ) (xs ys : List A) → Permuted same xs ys → total f xs ≡ total f ys
  unfolding total occurrences without
  permuted_total f [] [] e = refl
  permuted_total f [] (y ∷ ys) e = let some = counted 0 (y ∷ ys) (omega arith) in absurd (omega (arith, e y))
  permuted_total f (x ∷ xs) ys e =
      let at = also_at (x ∷ xs) ys e 0 (omega arith) in
      let others = permuted_total f xs (without at.0 ys) (permuted_without (x ∷ xs) ys e 0 at.0 (omega arith) at.1 (sym at.2)) in
      omega (arith, total_without z f at.0 ys at.1, ap f at.2)

  ones : (l : List A) → total (λ x. 1) l ≡ length l
  unfolding total
  ones [] = refl
  ones (x ∷ l) = omega (arith, ones l)

  pub permuted_length : (xs ys : List A) → Permuted same xs ys → length xs ≡ length ys
  permuted_length xs ys e = sym (ones xs) ∙ permuted_total (λ x. 1) xs ys e ∙ ones ys
