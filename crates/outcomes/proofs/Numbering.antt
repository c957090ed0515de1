-- The place of a refusal, and how many places there is room for. Assumes nothing.
use Rattle.std.proofs.Common.{ℕ, ◌≤◌, arith, Option, Some, None}
use Rattle.outcomes.specs.Places.{Below}

-- below a room is below the largest N
pub below_more : (room most : ℕ) (x : Option ℕ) → room ≤ most → Below room x → Below most x
below_more room most None h b = tt
below_more room most (Some p) h b = omega arith
