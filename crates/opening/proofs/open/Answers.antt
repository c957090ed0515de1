use Rattle.std.proofs.Common.{arith, refl}
use Rattle.terms.specs.Limits.{max_places}
use Rattle.opening.proofs.Opened.{opening_none, opening_more}
use Rattle.opening.proofs.open.Goals as goal

pub loop-p-init : goal.loop-p-init
loop-p-init c = rw c.put_slot_number.ensures (opening_none _ _ max_places c.requires)

pub loop-p-preserved : goal.loop-p-preserved
loop-p-preserved c = rw c.put_account.ensures (opening_more _ _ _ _ _ c.loop-p.invariant (omega arith) c.burst.ensures refl)
