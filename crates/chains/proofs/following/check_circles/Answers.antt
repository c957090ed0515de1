use Rattle.std.proofs.Common.{sym, ◌∙◌, arith}
use Rattle.terms.specs.Limits.{max_places}
use Rattle.admission.proofs.Rows.{count_word}
use Rattle.chains.proofs.Tables.{circles_pass, circles_stop}
use Rattle.chains.proofs.following.check_circles.Goals as goal

pub returns-then-not-stays_clear : goal.returns-then-not-stays_clear
returns-then-not-stays_clear c =
    let counted = (rw c.slice.ensures.same at c.count-n.ensures) ∙ count_word c.args.words.now in
    let met = rw counted at (sym c.stays_clear.ensures ∙ c.if-not-stays_clear.true) in
    rw c.into.ensures (circles_stop _ _ max_places _ (rw c.slice.ensures.same at c.slice.ensures.checked) c.loop-p.invariant (omega (arith, c.loop-p-test.true, counted)) met)

pub loop-p-preserved : goal.loop-p-preserved
loop-p-preserved c =
    let counted = (rw c.slice.ensures.same at c.count-n.ensures) ∙ count_word c.args.words.now in
    let clear = rw counted at (sym c.stays_clear.ensures ∙ c.if-not-stays_clear.false) in
    circles_pass _ _ max_places _ (rw c.slice.ensures.same at c.slice.ensures.checked) c.loop-p.invariant (omega (arith, c.loop-p-test.true, counted)) clear
