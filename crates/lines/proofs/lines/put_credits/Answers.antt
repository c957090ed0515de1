use Rattle.std.proofs.Common.{arith}
use Rattle.layout.specs.Words.{state_of}
use Rattle.lines.proofs.Writing.{words_there, account_there, credits_none, credit_room, credit_next, credits_put}
use Rattle.lines.proofs.lines.put_credits.Goals as goal

pub count-p-end-requires : goal.count-p-end-requires
count-p-end-requires c = words_there _ c.slice-words.ensures.counted

pub loop-p-init : goal.loop-p-init
loop-p-init c = credits_none (state_of c.slice-words.result.now).accounts _

pub account-requires : goal.account-requires
account-requires c = account_there _ c.slice-words.ensures.counted _ (omega (arith, c.count-p-end.ensures))

pub put_item-at-requires : goal.put_item-at-requires
put_item-at-requires c = credit_room _ c.slice-words.ensures.counted _ (rw c.slice-words.ensures.same c.requires) _ (omega (arith, c.count-p-end.ensures)) c.account.ensures c.loop-p.invariant

pub overflow_add-at : goal.overflow_add-at
overflow_add-at c =
    let more = credit_next _ c.slice-words.ensures.counted _ (rw c.slice-words.ensures.same c.requires) _ (omega (arith, c.count-p-end.ensures)) c.account.ensures c.loop-p.invariant (c.put_item-at.ensures.wrote, c.put_item-at.ensures.text) in
    omega (arith, more.fits, c.well_formed)

pub loop-p-preserved : goal.loop-p-preserved
loop-p-preserved c = credit_next _ c.slice-words.ensures.counted _ (rw c.slice-words.ensures.same c.requires) _ (omega (arith, c.count-p-end.ensures)) c.account.ensures c.loop-p.invariant (c.put_item-at.ensures.wrote, c.put_item-at.ensures.text)

pub returns-clause-wrote : goal.returns-clause-wrote
returns-clause-wrote c = rw (← c.slice-words.ensures.same) (credits_put _ c.slice-words.ensures.counted (omega (arith, c.count-p-end.ensures, c.loop-p-test.false)) c.loop-p.invariant).0

pub returns-clause-text : goal.returns-clause-text
returns-clause-text c = rw (← c.slice-words.ensures.same) (credits_put _ c.slice-words.ensures.counted (omega (arith, c.count-p-end.ensures, c.loop-p-test.false)) c.loop-p.invariant).1
