use Rattle.std.proofs.Common.{◌-◌, arith, length, take, drop}
use Rattle.arbiter.specs.ByValue.{held}
use Rattle.in_a_row.proofs.Progress.{more_takes}
use Rattle.slotlist.proofs.print_slots.Goals as goal

pub loop-wrote-smaller-in-More : goal.loop-wrote-smaller-in-More
loop-wrote-smaller-in-More g c =
    let page = take (length c.loop-wrote.page - c.loop-wrote.used) (drop c.loop-wrote.used c.loop-wrote.page) in
    omega (arith, more_takes (held c.loop-wrote.state) c.loop-wrote.rest.now page _ _ c.step-done.ensures.value _ _ c.in-More.is)
