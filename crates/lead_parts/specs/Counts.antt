-- How many bytes of a log are a place's, h in clause 6.3: each stands for a slot that was granted to it.
use Rattle.std.specs.Prelude.{List, ℕ, eqb}
use Rattle.lists.specs.Choices.{pick}
use Rattle.lists.specs.Sums.{total}

-- the log bytes equal to p
abbrev pub bytes_equal : ℕ → List ℕ → ℕ
bytes_equal p log = total (λ x. pick (eqb x p) 1 0) log
