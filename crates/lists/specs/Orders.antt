-- The elements of a list in another order: the same ones, each as often (clause 8.2).
use Rattle.std.specs.Prelude.{◌≡◌, Bool, true, List, [], ◌∷◌, ℕ, zero, suc}
use Rattle.lists.specs.Choices.{pick}
use Rattle.lists.specs.Sums.{total}

-- a list without its element i; the others keep their order
unfoldable pub without : {A : Type 0} → (i : ℕ) → List A → List A
without i [] = []
without zero (x ∷ xs) = xs
without (suc i) (x ∷ xs) = x ∷ without i xs

-- how often x stands in a list; `same` tells whether two elements are the same
unfoldable pub occurrences : {A : Type 0} → (same : A → A → Bool) → A → List A → ℕ
occurrences same x ys = total (λ y. pick (same x y) 1 0) ys

-- every element stands in the one as often as in the other (clause 8.2)
abbrev pub Permuted : {A : Type 0} → (same : A → A → Bool) → List A → List A → Type 0
Permuted {A} same xs ys = (x : A) → occurrences same x xs ≡ occurrences same x ys

-- a test that passes of each element and itself, and of no two others
pub record Tells {A : Type 0} (same : A → A → Bool) : Type 0 where
  pub itself : (x : A) → same x x ≡ true
  pub no_other : (x y : A) → same x y ≡ true → x ≡ y
