-- `justrave::states::justrave_slot` meets its contract. What is told of a slot is its stamp, and the place granted + 1 or 0. Assumes nothing.
use Rattle.std.proofs.Common.{rules}
use Rattle.terms.specs.Limits.{max_places}
use Rattle.justrave.proofs.Changed.{slot_told}
use Rattle.justrave.proofs.states.justrave_slot.Goals as goal

pub returns-in-Ok : goal.returns-in-Ok
returns-in-Ok c =
    let a = c.args in
    slot_told max_places a.state.now a.answer.now _ (search rules) (search rules) c.in-Ok.s c.in-Ok.ensures _ (search rules) _ c.put_two.ensures
