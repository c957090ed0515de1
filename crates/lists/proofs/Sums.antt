-- Laws on sums and joins over a list and over its first k elements. Assumes nothing.
use Rattle.std.proofs.Common.{◌≡◌, refl, ap, ◌∙◌, List, [], ◌∷◌, ◌++◌, map, append-nil, append_assoc, ℕ, zero, suc, ◌+◌, ◌*◌, ◌≤◌, ◌<◌, add-one, arith, length, get_or, take, drop, set, length-append, take-take, take-suc}
use Rattle.lists.specs.Sums.{total, joined}

module _ {A : Type 0} (f : A → ℕ) where
  pub total_append : (xs ys : List A) → total f (xs ++ ys) ≡ total f xs + total f ys
  unfolding total
  total_append [] ys = omega arith
  total_append (x ∷ xs) ys = omega (arith, total_append xs ys)

  pub total_take_drop : (k : ℕ) (xs : List A) → total f (take k xs) + total f (drop k xs) ≡ total f xs
  unfolding total
  total_take_drop zero xs = omega arith
  total_take_drop (suc k) [] = omega arith
  total_take_drop (suc k) (x ∷ xs) = omega (arith, total_take_drop k xs)

  pub total_take_rises : (j k : ℕ) (xs : List A) → j ≤ k → total f (take j xs) ≤ total f (take k xs)
  total_take_rises j k xs h = omega (arith, ap (total f) (take-take j k xs h), total_take_drop j (take k xs))

  -- the first k of a list's images
  pub total_take_map : {B : Type 0} (g : B → A) (k : ℕ) (xs : List B) → total f (take k (map g xs)) ≡ total (λ x. f (g x)) (take k xs)
  unfolding total
  total_take_map g zero xs = refl
  total_take_map g (suc k) [] = refl
  total_take_map g (suc k) (x ∷ xs) = omega (arith, total_take_map g k xs)

module _ {A : Type 0} (f : A → ℕ) (z : A) where
  pub total_most : (most : ℕ) (xs : List A) → ((i : ℕ) → i < length xs → f (get_or xs i z) ≤ most) → total f xs ≤ length xs * most
  unfolding total
  total_most most [] h = omega arith
  total_most most (x ∷ xs) h = omega (arith, h 0 (omega arith), total_most most xs (λ i l. h (suc i) (omega arith)))

  -- an element is replaced by one with the same f: the sums, and what f sees at each place, stand
  pub total_take_set : (k i : ℕ) (x : A) (xs : List A) → f x ≡ f (get_or xs i z) → total f (take k (set xs i x)) ≡ total f (take k xs)
  unfolding total
  total_take_set zero i x xs e = refl
  total_take_set (suc k) i x [] e = refl
  total_take_set (suc k) zero x (y ∷ xs) e = omega arith
  total_take_set (suc k) (suc i) x (y ∷ xs) e = omega (arith, total_take_set k i x xs e)

  pub at_set : (i j : ℕ) (x : A) (xs : List A) → f x ≡ f (get_or xs j z) → f (get_or (set xs j x) i z) ≡ f (get_or xs i z)
  at_set i j x [] e = refl
  at_set zero zero x (y ∷ xs) e = e
  at_set zero (suc j) x (y ∷ xs) e = refl
  at_set (suc i) zero x (y ∷ xs) e = refl
  at_set (suc i) (suc j) x (y ∷ xs) e = at_set i j x xs e

  -- past its end a list counts for nothing
  module _ (none : f z ≡ 0) where
    pub at_most_total : (i : ℕ) (xs : List A) → f (get_or xs i z) ≤ total f xs
    unfolding total
    at_most_total i [] = omega arith
    at_most_total zero (x ∷ xs) = omega arith
    at_most_total (suc i) (x ∷ xs) = omega (arith, at_most_total i xs)

    pub total_take_suc : (k : ℕ) (xs : List A) → total f (take (suc k) xs) ≡ total f (take k xs) + f (get_or xs k z)
    unfolding total
    total_take_suc zero [] = omega arith
    total_take_suc (suc k) [] = omega arith
    total_take_suc zero (x ∷ xs) = omega arith
    total_take_suc (suc k) (x ∷ xs) = omega (arith, total_take_suc k xs)

module _ {A B : Type 0} (f : A → List B) where
  pub joined_append : (xs ys : List A) → joined f (xs ++ ys) ≡ joined f xs ++ joined f ys
  unfolding joined
  joined_append [] ys = refl
  joined_append (x ∷ xs) ys = rw (joined_append xs ys, append_assoc)

  -- one element more at the end
  pub joined_more : (xs : List A) (x : A) → joined f (xs ++ (x ∷ [])) ≡ joined f xs ++ f x
  unfolding joined
  joined_more xs x = joined_append xs (x ∷ []) ∙ ap (λ l. joined f xs ++ l) (append-nil (f x))

  -- the first i + 1 elements: the first i, and then the next
  pub joined_next : (z : A) (xs : List A) (i : ℕ) → i < length xs → joined f (take (i + 1) xs) ≡ joined f (take i xs) ++ f (get_or xs i z)
  joined_next z xs i h = rw (add-one i, take-suc xs i z h) (joined_more (take i xs) (get_or xs i z))

  pub length_joined : (xs : List A) → length (joined f xs) ≡ total (λ x. length (f x)) xs
  unfolding joined total
  length_joined [] = refl
  length_joined (x ∷ xs) = omega (arith, length-append (f x) (joined f xs), length_joined xs)

  -- as many for each element
  pub length_joined_same : (k : ℕ) → ((x : A) → length (f x) ≡ k) → (xs : List A) → length (joined f xs) ≡ k * length xs
  unfolding joined
  length_joined_same k each [] = omega arith
  length_joined_same k each (x ∷ xs) = simp length-append (omega (arith, each x, length_joined_same k each xs))
