-- `admission::figures::wait` meets its contract. Checks 1 to 6 leave R at least 1, and the sums are those of the rows of the table.
-- Assumes nothing.
use Rattle.std.proofs.Common.{arith}
use Rattle.terms.specs.Limits.{max_places}
use Rattle.admission.proofs.Rows.{placed, denominator_word}
use Rattle.admission.proofs.figures.wait.Goals as goal

pub denominator-requires : goal.denominator-requires
denominator-requires c = let f = placed max_places _ c.args.p c.slice-words.ensures.checked (rw c.slice-words.ensures.same c.requires) in grind arith

pub rates_above-requires : goal.rates_above-requires
rates_above-requires c = let f = placed max_places _ c.args.p c.slice-words.ensures.checked (rw c.slice-words.ensures.same c.requires) in grind arith

pub overflow_sub-left : goal.overflow_sub-left
overflow_sub-left c = let f = placed max_places _ c.args.p c.slice-words.ensures.checked (rw c.slice-words.ensures.same c.requires) in grind (arith, denominator_word)

pub bursts_above-requires : goal.bursts_above-requires
bursts_above-requires c = let f = placed max_places _ c.args.p c.slice-words.ensures.checked (rw c.slice-words.ensures.same c.requires) in grind arith

pub rounded_up-requires : goal.rounded_up-requires
rounded_up-requires c =
    let f = placed max_places _ c.args.p c.slice-words.ensures.checked (rw c.slice-words.ensures.same c.requires) in
    grind (arith, denominator_word)

pub returns-clause-figure : goal.returns-clause-figure
returns-clause-figure c =
    let f = placed max_places _ c.args.p c.slice-words.ensures.checked (rw c.slice-words.ensures.same c.requires) in
    grind (arith, denominator_word)

pub returns-clause-small : goal.returns-clause-small
returns-clause-small c =
    let f = placed max_places _ c.args.p c.slice-words.ensures.checked (rw c.slice-words.ensures.same c.requires) in
    grind (arith, denominator_word)
