-- `listing::steps::step` meets its contract. A state that breaks a rule, and the end. Assumes nothing.
use Rattle.std.proofs.Common.{◌≡◌, sym, ◌∙◌, arith, rules, length, take}
use Rattle.std.proofs.lemmas.Grind.{common_steps}
use Rattle.terms.specs.Limits.{max_places}
use Rattle.terms.specs.State.{sound}
use Rattle.layout.specs.Words.{word_count}
use Rattle.arbiter.specs.ByValue.{held}
use Rattle.arbiter.proofs.ByValue.{query_held}
use Rattle.moves.proofs.Readiness.{the_slot}
use Rattle.listing.proofs.Telling.{text_taken, with_room, step_unsound, step_end}
use Rattle.lines.specs.Lines.{end_line}
use Rattle.listing.specs.Listing.{last}
use Rattle.listing.specs.Room.{written_out, written}
use Rattle.listing.proofs.steps.step.Goals as goal

pub returns-then-not-is_sound-clause-value : goal.returns-then-not-is_sound-clause-value
returns-then-not-is_sound-clause-value c =
    let full : length c.args.s.words ≡ word_count max_places = search rules in
    let found : c.is_sound.result ≡ sound max_places (held c.args.s) = (rw c.of.ensures at c.is_sound.ensures) ∙ query_held c.args.s.words full sound in
    let refused = rw c.into.ensures at c.refuse.ensures.value in
    refused ∙ with_room (held c.args.s) c.args.out.now c.if-out-lt-LINE_ROOM.false (step_unsound _ _ _ (sym found ∙ c.if-not-is_sound.true))

pub returns-then-rest-eq0-clause-value : goal.returns-then-rest-eq0-clause-value
returns-then-rest-eq0-clause-value c =
    let full : length c.args.s.words ≡ word_count max_places = search rules in
    let found : c.is_sound.result ≡ sound max_places (held c.args.s) = (rw c.of.ensures at c.is_sound.ensures) ∙ query_held c.args.s.words full sound in
    let here = last (end_line (held c.args.s).slot.0) (held c.args.s) in
    let ended : written_out (last (take c.put_end.result c.put_end.new.out) (held c.args.s)) c.put_end.new.out ≡ written here c.args.out.now = grind (arith, common_steps, the_slot, text_taken) in
    ended ∙ with_room (held c.args.s) c.args.out.now c.if-out-lt-LINE_ROOM.false (step_end _ _ _ (sym found ∙ c.if-not-is_sound.false) c.if-rest-eq0.true)
