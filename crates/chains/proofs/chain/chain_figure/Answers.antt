use Rattle.std.proofs.Common.{sym, ◌∙◌, ℕ, ◌<◌, ◌≤◌, arith, List}
use Rattle.terms.specs.Limits.{max_places}
use Rattle.terms.specs.Chain.{chain_figure}
use Rattle.terms.proofs.Checks.{fair}
use Rattle.terms.proofs.Chain.{followed_below}
use Rattle.layout.specs.Words.{room_of_words}
use Rattle.layout.proofs.RoundTrip.{right}
use Rattle.admission.specs.Checked.{table_in, Checked}
use Rattle.admission.proofs.Rows.{count_word, head_there}
use Rattle.chains.proofs.Tables.{places_there}
use Rattle.chains.proofs.Walks.{summed_none, summed_all, summed_ends, summed_more}
use Rattle.chains.proofs.chain.chain_figure.Goals as goal

-- no table has more places than there is ever room for
count_most : (words : List ℕ) → Checked max_places words → (table_in words).count ≤ max_places
count_most words k = omega (arith, (fair (room_of_words words) (table_in words) k.passes).count_most, (right max_places words k.right).room_most)

pub count-link-end-requires : goal.count-link-end-requires
count-link-end-requires c = head_there _ max_places c.slice.ensures.checked.right

pub loop-link-init : goal.loop-link-init
loop-link-init c = summed_none _ _ _ _ _ c.requires.0

pub finish-sum-requires : goal.finish-sum-requires
finish-sum-requires c = (c.loop-link.invariant.place, omega arith)

pub overflow_add-sum : goal.overflow_add-sum
overflow_add-sum c =
    let v = c.loop-link.invariant in
    omega (arith, v.small, v.few, c.finish-sum.ensures.small, count_most _ (rw c.slice.ensures.same at c.slice.ensures.checked))

pub returns-in-None : goal.returns-in-None
unfolding chain_figure
returns-in-None c =
    let l = c.loop-link in
    let below : l._link < (table_in c.args.words.now).count = omega (arith, c.loop-link-test.true, rw c.slice.ensures.same at c.count-link-end.ensures, count_word c.args.words.now) in
    rw c.finish-sum.ensures.figure (summed_ends _ _ _ _ _ l.sum l.at l._link l.invariant below (sym c.follows.ensures ∙ c.in-None.is))

pub loop-link-preserved : goal.loop-link-preserved
loop-link-preserved c =
    let l = c.loop-link in
    let a = c.args in
    let below : l._link < (table_in a.words.now).count = omega (arith, c.loop-link-test.true, rw c.slice.ensures.same at c.count-link-end.ensures, count_word a.words.now) in
    let next = sym c.follows.ensures ∙ c.in-Some.is in
    let there = followed_below (table_in a.words.now) a.names.now (places_there max_places a.words.now (rw c.slice.ensures.same at c.slice.ensures.checked)) c.requires.1 l.at l.invariant.place in
    rw c.finish-sum.ensures.figure (summed_more _ _ _ _ _ l.sum l.at l._link l.invariant below _ next (rw next at there) (omega (arith, c.finish-sum.ensures.figure, c.finish-sum.ensures.small)))

pub returns : goal.returns
unfolding chain_figure
returns c =
    let l = c.loop-link in
    summed_all _ _ _ _ _ l.sum l.at l._link l.invariant (omega (arith, c.loop-link-test.false, rw c.slice.ensures.same at c.count-link-end.ensures, count_word c.args.words.now))
