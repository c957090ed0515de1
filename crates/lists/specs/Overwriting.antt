-- A list that others are written over, from its start.
use Rattle.std.specs.Prelude.{List, ◌++◌, length, drop}

-- `old` with these elements, no more than it has, in front; what stands behind them is left as it was
unfoldable pub written_over : {A : Type 0} → (front old : List A) → List A
written_over front old = front ++ drop (length front) old
