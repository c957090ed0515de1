use Rattle.std.proofs.Common.{sym, ◌∙◌, arith}
use Rattle.soundness.proofs.Walk.{held_none, there, place_stops, credit_stops, sums_small, held_more, held_end}
use Rattle.soundness.proofs.soundness.places_hold.Goals as goal

pub loop-p-init : goal.loop-p-init
loop-p-init c = held_none _ _ _ c.slice-words.ensures.right (rw c.slice-words.ensures.same c.requires.0) c.requires.1

pub requestor-r-requires : goal.requestor-r-requires
requestor-r-requires c = there _ _ _ _ _ _ c.loop-p.invariant c.loop-p-test.true

pub account-a-requires : goal.account-a-requires
account-a-requires c = there _ _ _ _ _ _ c.loop-p.invariant c.loop-p-test.true

pub returns-then-not-place_holds : goal.returns-then-not-place_holds
returns-then-not-place_holds c =
    let broken = rw (c.requestor-r.ensures, c.account-a.ensures) at (sym c.place_holds.ensures ∙ c.if-not-place_holds.true) in
    rw (← c.slice-words.ensures.same) (place_stops _ _ _ _ _ _ c.loop-p.invariant c.loop-p-test.true broken)

pub overflow_add-rates : goal.overflow_add-rates
overflow_add-rates c =
    let holds = rw (c.requestor-r.ensures, c.account-a.ensures) at (sym c.place_holds.ensures ∙ c.if-not-place_holds.false) in
    let small = sums_small _ _ _ _ _ _ c.loop-p.invariant c.loop-p-test.true holds in
    rw c.requestor-r.ensures (omega (arith, small.0))

pub overflow_add-room : goal.overflow_add-room
overflow_add-room c =
    let holds = rw (c.requestor-r.ensures, c.account-a.ensures) at (sym c.place_holds.ensures ∙ c.if-not-place_holds.false) in
    let small = sums_small _ _ _ _ _ _ c.loop-p.invariant c.loop-p-test.true holds in
    rw c.requestor-r.ensures (omega (arith, small.1))

pub returns-then-room-a : goal.returns-then-room-a
returns-then-room-a c =
    rw (← c.slice-words.ensures.same)
    (credit_stops _ _ _ _ _ _ c.loop-p.invariant c.loop-p-test.true (rw (c.requestor-r.ensures, c.account-a.ensures) at c.if-room-a.true))

pub loop-p-preserved : goal.loop-p-preserved
loop-p-preserved c =
    let holds = rw (c.requestor-r.ensures, c.account-a.ensures) at (sym c.place_holds.ensures ∙ c.if-not-place_holds.false) in
    rw (c.requestor-r.ensures, c.account-a.ensures)
    (held_more _ _ _ _ _ _ c.loop-p.invariant c.loop-p-test.true holds (rw (c.requestor-r.ensures, c.account-a.ensures) at c.if-room-a.false))

pub returns : goal.returns
returns c = rw (← c.slice-words.ensures.same) (held_end _ _ _ _ _ _ c.loop-p.invariant c.loop-p-test.false)
