-- `moves::slots::slot_words` meets its contract: 22, once the slot numbers are used up. Assumes nothing.
use Rattle.std.proofs.Common.{sym, ◌∙◌, ap, arith}
use Rattle.moves.proofs.Going.{slot_22}
use Rattle.moves.proofs.slots.slot_words.Goals as goal

pub returns-then-stamp-ge-MAX_SLOT : goal.returns-then-stamp-ge-MAX_SLOT
returns-then-stamp-ge-MAX_SLOT c =
    rw c.into-then-stamp-ge-MAX_SLOT.ensures
    (slot_22 c.args.words.now (rw c.of.ensures at (sym c.is_sound.ensures ∙ c.if-not-is_sound.false)) (omega (arith, ap (λ x. x.0) c.slot_number-stamp.ensures, c.if-stamp-ge-MAX_SLOT.true)))
