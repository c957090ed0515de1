-- What was read ends inside the room.
use Rattle.std.proofs.Common.{arith, rules, List, ℕ, ◌≤◌, length, take, length-take}
use Rattle.slotlist.proofs.read_input.Goals as goal

front_fits : (n : ℕ) (xs : List ℕ) (room : ℕ) → n ≤ room → length (take n xs) ≤ room
front_fits n xs room h = omega (arith, length-take n xs)

pub returns : goal.returns
returns g c = search (rules, front_fits, arith)
