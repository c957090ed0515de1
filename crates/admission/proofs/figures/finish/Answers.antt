-- `admission::figures::finish` meets its contract. Checks 1 to 6 keep the parts within their limits, and they are those of the table's row.
-- Assumes nothing.
use Rattle.std.proofs.Common.{arith}
use Rattle.terms.specs.Limits.{max_places}
use Rattle.terms.specs.Figures.{finish}
use Rattle.admission.proofs.Rows.{placed, denominator_word}
use Rattle.admission.proofs.figures.finish.Goals as goal

pub denominator-d-requires : goal.denominator-d-requires
denominator-d-requires c = let f = placed max_places _ c.args.p c.slice-words.ensures.checked (rw c.slice-words.ensures.same c.requires.0) in grind arith

pub rate-requires : goal.rate-requires
rate-requires c = let f = placed max_places _ c.args.p c.slice-words.ensures.checked (rw c.slice-words.ensures.same c.requires.0) in grind arith

pub rates_above-requires : goal.rates_above-requires
rates_above-requires c = let f = placed max_places _ c.args.p c.slice-words.ensures.checked (rw c.slice-words.ensures.same c.requires.0) in grind arith

pub overflow_sub-d : goal.overflow_sub-d
overflow_sub-d c = let f = placed max_places _ c.args.p c.slice-words.ensures.checked (rw c.slice-words.ensures.same c.requires.0) in grind (arith, denominator_word)

pub bursts_above-requires : goal.bursts_above-requires
bursts_above-requires c = let f = placed max_places _ c.args.p c.slice-words.ensures.checked (rw c.slice-words.ensures.same c.requires.0) in grind arith

pub returns-clause-figure : goal.returns-clause-figure
unfolding finish
returns-clause-figure c =
    let f = placed max_places _ c.args.p c.slice-words.ensures.checked (rw c.slice-words.ensures.same c.requires.0) in
    grind (arith, denominator_word)
