-- One account in a slot: when its place is eligible, and what passing it over makes of it. Assumes nothing.
use Rattle.std.proofs.Common.{◌≡◌, sym, true, false, ℕ, ◌+◌, ◌≤◌, ◌<◌, arith, ltb-true, leb-true, leb-false, lt-ltb, le-ltb, ltb, leb}
use Rattle.lists.proofs.Tests.{cases, true_false}
use Rattle.terms.specs.declared.place.Requestor.{Requestor}
use Rattle.terms.specs.declared.place.Account.{Account}
use Rattle.terms.specs.State.{backlog}
use Rattle.rule.specs.Rule.{eligible, passed}

module _ (r : Requestor) (a : Account) where
  module _ (d : ℕ) where
    pub eligible_idle : backlog a ≤ 0 → eligible d r a ≡ false
    unfolding eligible
    eligible_idle h = rw (le-ltb 0 (backlog a) h)

    pub eligible_waiting : 0 < backlog a → eligible d r a ≡ leb d (a.credit + r.rate)
    unfolding eligible
    eligible_waiting h = rw (lt-ltb 0 (backlog a) h)

    -- what the test says, passed and failed
    pub eligible_true : eligible d r a ≡ true → (0 < backlog a) × (d ≤ a.credit + r.rate)
    unfolding eligible
    eligible_true e = cases (ltb 0 (backlog a))
        (λ h. (ltb-true 0 (backlog a) h, leb-true d (a.credit + r.rate) (rw h at e)))
        (λ h. true_false (sym (rw h at e)))

    pub eligible_false : eligible d r a ≡ false → 0 < backlog a → a.credit + r.rate < d
    eligible_false e h = leb-false d (a.credit + r.rate) (rw (eligible_waiting h) at e)

  pub passed_waiting : 0 < backlog a → passed r a ≡ record { credit = a.credit + r.rate; backlog = a.backlog }
  unfolding passed
  passed_waiting h = rw (lt-ltb 0 (backlog a) h)

  pub passed_most : (passed r a).credit ≤ a.credit + r.rate
  unfolding passed
  passed_most = cases (ltb 0 (backlog a)) (λ e. rw e (omega arith)) (λ e. rw e (omega arith))

  -- not waiting, it is capped; waiting, it is short of D, which is at most b
  pub passed_within : (d : ℕ) → (0 < backlog a → d ≤ r.burst) → (0 < backlog a → a.credit + r.rate < d) → (passed r a).credit ≤ r.burst
  unfolding passed
  passed_within d roomy short = cases (ltb 0 (backlog a))
      (λ e. rw e (omega (arith, roomy (ltb-true 0 (backlog a) e), short (ltb-true 0 (backlog a) e))))
      (λ e. rw e (omega arith))
