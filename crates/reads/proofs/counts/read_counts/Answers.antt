-- Count after count.
use Rattle.std.proofs.Common.{◌≡◌, ap, sym, ◌∙◌, arith, refl, Err}
use lib.ListN.{length-replicate}
use Rattle.std.proofs.lemmas.Grind.{common_steps}
use Rattle.terms.specs.declared.refusals.Cause.TheVariants as cause
use Rattle.table_bytes.proofs.Readings.{handed_read, number_handed}
use Rattle.reads.proofs.Counting.{counting_none, counting_next, counting_stop, counting_end}
use Rattle.reads.proofs.counts.read_counts.Goals as goal

pub loop-p-init : goal.loop-p-init
loop-p-init c = counting_none _ _ _ (simp length-replicate refl)

pub returns-in_err-count : goal.returns-in_err-count
returns-in_err-count c =
    let why = counting_stop c.loop-p.invariant _ c.loop-p-test.true (number_handed _ ∙ ap handed_read (sym c.in_err-count.ensures)) in
    let told : c.from_residual.result ≡ Err (cause.Input c.in_err-count.field-0.0) = grind (arith, common_steps) in
    rw told why

pub loop-p-preserved : goal.loop-p-preserved
loop-p-preserved c = counting_next c.loop-p.invariant _ _ c.loop-p-test.true c.requires (number_handed _ ∙ ap handed_read (sym c.in_ok-count.ensures))

pub returns : goal.returns
returns c = counting_end c.loop-p.invariant (omega arith)
