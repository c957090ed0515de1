-- `slotlist::print_slots` meets its contract. The loop's invariant: what is gathered ends inside the page. Each turn takes a byte of the
-- input or empties the page. Assumes nothing.
use Rattle.std.proofs.Common.{◌≡◌, ◌+◌, ◌*◌, ◌≤◌, min, length}
use Rattle.slotlist.proofs.print_slots.Given as goal

abbrev pub invariant-loop-wrote : goal.invariant-loop-wrote
invariant-loop-wrote g l = (length l.page ≡ length l.initial.page) × (l.used ≤ length l.page)

abbrev pub decreases-loop-wrote : goal.decreases-loop-wrote
decreases-loop-wrote g l = 2 * length l.rest + min l.used 1
