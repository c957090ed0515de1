-- Two lists side by side, element by element, as long as both last.
use Rattle.std.specs.Prelude.{List, [], ◌∷◌}

unfoldable pub paired : {A B C : Type 0} → (A → B → C) → List A → List B → List C
paired f [] ys = []
paired f (x ∷ xs) [] = []
paired f (x ∷ xs) (y ∷ ys) = f x y ∷ paired f xs ys
