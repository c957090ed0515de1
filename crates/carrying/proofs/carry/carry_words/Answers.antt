-- `carrying::carry::carry_words` meets its contract: test 23 on the words that the old state was laid into is that of the old state.
-- Assumes nothing.
use Rattle.std.proofs.Common.{◌≡◌, sym, ◌∙◌, arith, length}
use Rattle.terms.specs.Limits.{max_places, old_places}
use Rattle.carrying.proofs.Fits.{fit}
use Rattle.carrying.proofs.Tested.{tested, carried, not_carried}
use Rattle.carrying.proofs.carry.carry_words.Goals as goal

pub returns-then-not-is_sound_within : goal.returns-then-not-is_sound_within
returns-then-not-is_sound_within c =
    let fits = fit old_places max_places _ _ c.requires in
    let long : length c.lay_old.new.words ≡ length c.args.words.now = omega arith in
    let b = tested old_places max_places _ _ _ fits long c.lay_old.ensures _ _ c.old_room_of.ensures (rw c.of.ensures at c.is_sound_within.ensures) in
    not_carried old_places max_places _ _ _ fits long c.lay_old.ensures _ (sym b ∙ c.if-not-is_sound_within.true) (rw c.into.ensures at c.turn_down.ensures.told)

pub returns : goal.returns
returns c =
    let fits = fit old_places max_places _ _ c.requires in
    let long : length c.lay_old.new.words ≡ length c.args.words.now = omega arith in
    let b = tested old_places max_places _ _ _ fits long c.lay_old.ensures _ _ c.old_room_of.ensures (rw c.of.ensures at c.is_sound_within.ensures) in
    carried old_places max_places _ _ _ fits long c.lay_old.ensures (sym b ∙ c.if-not-is_sound_within.false)
