-- `walk::slot::one_slot` meets its contract, with the laws of proofs/Walked: a place that is not eligible is passed over, and the search
-- ends at one that is served, or behind the last. Assumes nothing.
use Rattle.std.proofs.Common.{◌≡◌, true, false, sym, ap, ◌∙◌, arith, rules}
use Rattle.terms.specs.State.{backlog}
use Rattle.rule.specs.Rule.{eligible, served}
use Rattle.rule.proofs.Accounts.{eligible_idle}
use Rattle.layout.specs.Words.{row_in, account_in, put_account}
use Rattle.walk.proofs.Walked.{searching_more, served_passing, idle_passing}
use Rattle.walk.proofs.slot.one_slot.Goals as goal
use Rattle.walk.proofs.slot.one_slot.Goals.{then-n-p, else-n-p+else-a-eq0+then-is_eligible, then-a-eq0, else-a-eq0+else-is_eligible}

pub loop-p-preserved : goal.loop-p-preserved
loop-p-preserved c =
    let a = c.args in let l = c.loop-p in
    elim c.if-a-eq0.branch [
      | then-a-eq0 w ↦
          rw (w.words-is, w.put_account.ensures, w.pass.ensures, c.requestor-r.ensures, c.account-a.ensures)
          (searching_more a.words.now a.n a.d c.requires l.words l.p l.invariant c.if-n-p.false
          (eligible_idle (row_in l.words l.p) (account_in l.words l.p) a.d (omega (arith, w.if-a-eq0.true, ap backlog c.account-a.ensures))))
      | else-a-eq0+else-is_eligible w ↦
          let e : eligible a.d (row_in l.words l.p) (account_in l.words l.p) ≡ false = rw (← c.requestor-r.ensures, ← c.account-a.ensures) (sym w.is_eligible.ensures ∙ w.if-is_eligible.false) in
          rw (w.words-is, w.put_account-else-is_eligible.ensures, w.pass-else-is_eligible.ensures, c.requestor-r.ensures, c.account-a.ensures)
          (searching_more a.words.now a.n a.d c.requires l.words l.p l.invariant c.if-n-p.false e)
    ]

pub loop-q-init : goal.loop-q-init
loop-q-init c =
    let a = c.args in let l = c.loop-p in
    elim c.if-n-p.branch [
      | then-n-p w ↦ rw (w.words-is, w.granted-is) (idle_passing a.words.now a.n a.d c.requires l.words l.p l.invariant w.if-n-p.true)
      | else-n-p+else-a-eq0+then-is_eligible w ↦
          let e : eligible a.d (row_in l.words l.p) (account_in l.words l.p) ≡ true = rw (← w.requestor-r.ensures, ← w.account-a.ensures) (sym w.is_eligible.ensures ∙ w.if-is_eligible.true) in
          let paid : w.put_account-then-is_eligible.new.words ≡ put_account l.words l.p (served a.d (row_in l.words l.p) (account_in l.words l.p)) =
          w.put_account-then-is_eligible.ensures ∙ ap (put_account l.words l.p) (search rules) in
          rw (w.words-is, w.granted-is, paid) (served_passing a.words.now a.n a.d c.requires l.words l.p l.invariant w.if-n-p.false e)
    ]
