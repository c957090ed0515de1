-- Check by check.
use Rattle.std.proofs.Common.{◌≡◌, ap, sym, ◌∙◌, arith, Err}
use Rattle.std.proofs.lemmas.Grind.{common_steps}
use Rattle.terms.specs.Limits.{max_places}
use Rattle.terms.specs.declared.refusals.Cause.TheVariants as cause
use Rattle.table_bytes.proofs.Readings.{handed_read, number_handed}
use Rattle.reads.proofs.Beginnings.{size_refused, size_passes, table_begins}
use Rattle.reads.proofs.beginning.begin.Goals as goal

pub returns-in_err-size : goal.returns-in_err-size
returns-in_err-size c =
    let why = size_refused max_places _ (sym c.in_ok-check_input.ensures) _ (number_handed _ ∙ ap handed_read (sym c.in_err-size.ensures)) in
    let told : c.from_residual-in_err-size.result ≡ Err (cause.Input c.in_err-size.field-0.0) = grind (arith, common_steps) in
    rw told why

pub returns-then-rest-size : goal.returns-then-rest-size
returns-then-rest-size c =
    rw c.into.ensures (size_passes max_places _ (sym c.in_ok-check_input.ensures) _ _ (number_handed _ ∙ ap handed_read (sym c.in_ok-size.ensures)) c.if-rest-size.true)

pub returns-in_err-state : goal.returns-in_err-state
returns-in_err-state c =
    let why = table_begins max_places _ (sym c.in_ok-check_input.ensures) _ _ (number_handed _ ∙ ap handed_read (sym c.in_ok-size.ensures)) c.if-rest-size.false in
    let told : c.from_residual-in_err-state.result ≡ Err c.in_err-state.field-0.0 = grind (arith, common_steps) in
    rw told (c.in_err-state.ensures _ ∙ why)

pub returns : goal.returns
returns c =
    c.in_ok-state.ensures _ ∙ table_begins max_places _ (sym c.in_ok-check_input.ensures) _ _ (number_handed _ ∙ ap handed_read (sym c.in_ok-size.ensures)) c.if-rest-size.false
