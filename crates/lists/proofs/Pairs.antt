-- Laws on two lists side by side. Assumes nothing.
use Rattle.std.proofs.Common.{◌≡◌, refl, ap, List, [], ◌∷◌, map, ℕ, zero, suc, ◌<◌, arith, length, get_or, set}
use Rattle.lists.specs.Pairs.{paired}

module _ {A B C : Type 0} (f : A → B → C) where
  pub length_paired : (xs : List A) (ys : List B) → length xs ≡ length ys → length (paired f xs ys) ≡ length xs
  unfolding paired
  length_paired [] ys e = refl
  length_paired (x ∷ xs) [] e = absurd (omega arith)
  length_paired (x ∷ xs) (y ∷ ys) e = ap suc (length_paired xs ys (omega arith))

  pub paired_at : (x₀ : A) (y₀ : B) (z : C) (xs : List A) (ys : List B) (i : ℕ) → i < length xs → i < length ys
      → get_or (paired f xs ys) i z ≡ f (get_or xs i x₀) (get_or ys i y₀)
  unfolding paired
  paired_at x₀ y₀ z [] ys i h k = absurd (omega arith)
  paired_at x₀ y₀ z (x ∷ xs) [] i h k = absurd (omega arith)
  paired_at x₀ y₀ z (x ∷ xs) (y ∷ ys) zero h k = refl
  paired_at x₀ y₀ z (x ∷ xs) (y ∷ ys) (suc i) h k = paired_at x₀ y₀ z xs ys i (omega arith) (omega arith)

  -- an element of each list is replaced
  pub paired_set : (xs : List A) (ys : List B) (i : ℕ) (x : A) (y : B) → set (paired f xs ys) i (f x y) ≡ paired f (set xs i x) (set ys i y)
  unfolding paired
  paired_set [] ys i x y = refl
  paired_set (a ∷ xs) [] zero x y = refl
  paired_set (a ∷ xs) [] (suc i) x y = refl
  paired_set (a ∷ xs) (b ∷ ys) zero x y = refl
  paired_set (a ∷ xs) (b ∷ ys) (suc i) x y = ap (λ l. f a b ∷ l) (paired_set xs ys i x y)

  -- two images of one list
  pub paired_map : {D : Type 0} (g : D → A) (h : D → B) (zs : List D) → paired f (map g zs) (map h zs) ≡ map (λ z. f (g z) (h z)) zs
  unfolding paired
  paired_map g h [] = refl
  paired_map g h (z ∷ zs) = ap (λ l. f (g z) (h z) ∷ l) (paired_map g h zs)
