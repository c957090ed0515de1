-- What stands at places, one after the other.
use Rattle.std.specs.Prelude.{List, [], ◌∷◌, ℕ, zero, suc}

-- what f gives at each of n places from place p on
unfoldable pub places_from : {X : Type 0} → (ℕ → X) → (p n : ℕ) → List X
places_from f p zero = []
places_from f p (suc n) = f p ∷ places_from f (suc p) n
