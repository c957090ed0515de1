use Rattle.std.proofs.Common.{◌≡◌, sym, ◌∙◌, arith}
use Rattle.ordering.specs.Order.{last_holding}
use Rattle.ordering.proofs.search.last_holding.Goals as goal

pub returns : goal.returns
unfolding last_holding
returns c =
    let none_left : c.loop-i.i ≡ 0 = omega (arith, c.loop-i-test.false) in
    sym (c.loop-i.invariant ∙ rw none_left)
