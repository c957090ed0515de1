-- A grant as one place sees it: whether it names the place, and how many grants it counts for.
use Rattle.std.specs.Prelude.{Bool, false, ℕ, ltb, eqb, Option, Some, None}
use Rattle.lists.specs.Choices.{pick}

-- the grant is to place p
abbrev pub names : Option ℕ → ℕ → Bool
names None p = false
names (Some i) p = eqb i p

-- 1 if the grant is to place p, 0 if not
unfoldable pub to_place : ℕ → Option ℕ → ℕ
to_place p g = pick (names g p) 1 0

-- 1 if the grant is to one of the first k places, 0 if not
unfoldable pub to_first : ℕ → Option ℕ → ℕ
to_first k None = 0
to_first k (Some i) = pick (ltb i k) 1 0
