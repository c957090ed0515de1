-- `moves::runs::run_words` meets its contract: what is left of a run that is not refused. Assumes nothing.
use Rattle.std.proofs.Common.{sym, ◌∙◌, ap, arith}
use Rattle.moves.proofs.Readiness.{slot_most}
use Rattle.moves.proofs.Going.{run_all}
use Rattle.moves.proofs.runs.run_words.Goals as goal

pub returns : goal.returns
returns c =
    let w = c.args.words.now in
    let passes = rw c.of.ensures at (sym c.is_sound.ensures ∙ c.if-not-is_sound.false) in
    run_all w c.args.log.now passes c.if-log-gt-MAX_INPUT.false
    (omega (arith, slot_most w c.requires passes, c.if-slot_number-log.false, ap (λ x. x.0) c.slot_number.ensures))
    _ _ c.log_slots.ensures.state c.log_slots.ensures.log
