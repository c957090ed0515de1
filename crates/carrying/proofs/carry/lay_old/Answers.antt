use Rattle.std.proofs.Common.{◌<◌, ap, ◌∙◌, arith}
use Rattle.terms.specs.Limits.{max_places, old_places}
use Rattle.carrying.specs.OldWords.{old_room_of}
use Rattle.carrying.proofs.Fits.{fit, old_shaped, old_row_at, old_account_at}
use Rattle.carrying.proofs.Laid.{carrying_more, begins, ends}
use Rattle.carrying.proofs.carry.lay_old.Goals as goal

pub loop-p-init : goal.loop-p-init
loop-p-init c =
    begins old_places max_places _ _ _ _ _ _ _ (fit _ _ _ _ c.requires) (omega arith)
    c.old_denominator.ensures c.old_count.ensures (ap (λ s. s.0) c.old_slot_number.ensures) c.lay_head.ensures c.put_slot_number.ensures

pub loop-p-preserved : goal.loop-p-preserved
loop-p-preserved c =
    let old = c.args.old.now in
    let limit = old_room_of old in
    let l = c.loop-p in
    let below : l.p < limit = omega (arith, c.loop-p-test.true, c.old_room_of-room.ensures) in
    carrying_more _ _ limit (old_shaped limit old) (fit old_places max_places _ _ c.requires).enough l.words _ _ l.p _ _ l.invariant below
    (c.old_row.ensures ∙ old_row_at limit old l.p below) (c.old_account.ensures ∙ old_account_at limit old l.p below) c.put_row.ensures c.put_account.ensures

pub returns : goal.returns
returns c =
    ends old_places max_places _ _ _ _ (fit _ _ _ _ c.requires) (omega (arith, c.old_room_of-room.ensures)) c.loop-p.invariant (omega (arith, c.loop-p-test.false, c.old_room_of-room.ensures))
