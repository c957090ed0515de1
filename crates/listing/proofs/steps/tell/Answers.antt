-- `listing::steps::tell` meets its contract. An arbiter's words have room for the longest line. Assumes nothing.
use Rattle.std.proofs.Common.{◌≡◌, arith, rules, length}
use Rattle.terms.specs.Limits.{max_places}
use Rattle.layout.specs.Words.{word_count}
use Rattle.arbiter.specs.ByValue.{held}
use Rattle.listing.proofs.Telling.{counted, slot_few}
use Rattle.listing.proofs.steps.tell.Goals as goal

pub of-requires : goal.of-requires
of-requires c =
    let full : length c.args.done.after.words ≡ word_count max_places = search rules in
    counted _ full c.requires.1

pub put_slot-requires : goal.put_slot-requires
put_slot-requires c =
    let few = slot_few c.in-Ok.slot.stamp.0 c.in-Ok.slot.granted (held c.args.done.after) c.requires.1 in
    rw c.of.ensures (omega (arith, few))
