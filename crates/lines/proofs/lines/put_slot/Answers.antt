-- `lines::lines::put_slot` meets its contract. Stamp, place, credits and a line feed, one behind the other. Assumes nothing.
use Rattle.std.proofs.Common.{◌++◌, arith, length-append}
use Rattle.lists.specs.Sums.{joined}
use Rattle.lists.proofs.Putting.{put_first, put_next, put_byte, put_whole}
use Rattle.layout.specs.Words.{state_of}
use Rattle.lines.specs.Text.{decimal, spaced}
use Rattle.lines.specs.Lines.{place_item, credit_items}
use Rattle.lines.proofs.Writing.{slot_room, slot_text}
use Rattle.lines.proofs.lines.put_slot.Goals as goal

pub returns-clause-text : goal.returns-clause-text
returns-clause-text c =
    let after = state_of c.args.after.now in
    let stamp = decimal c.args.slot.stamp.0 in
    let place = spaced (place_item c.args.slot.granted) in
    let credits = joined spaced (credit_items after) in
    let fits = slot_room c.args.slot.stamp.0 c.args.slot.granted after c.requires in
    let first = put_first (omega (arith, fits)) (c.put_number-at.ensures.wrote, c.put_number-at.ensures.text) in
    let two = put_next first place (omega (arith, fits)) (c.put_place-at.ensures.wrote, c.put_place-at.ensures.text) in
    let three = put_next two credits (omega (arith, fits, length-append stamp place)) (c.put_credits-at.ensures.wrote, c.put_credits-at.ensures.text) in
    let whole = put_byte three 10 (omega (arith, fits, three.count, length-append stamp place, length-append (stamp ++ place) credits)) in
    (put_whole whole (slot_text c.args.slot.stamp.0 c.args.slot.granted after)).1
