-- What one slot does to the credits of the first k places: together they rise by at most the rates, less D for a grant; and they
-- stay within the bursts. Assumes nothing.
use Rattle.std.proofs.Common.{◌≡◌, List, [], ◌∷◌, ℕ, zero, suc, ◌+◌, ◌*◌, ◌≤◌, ◌<◌, arith, length, take, None}
use native.Mathlib.Decide.{ℕ_discrete}
use Rattle.lists.specs.Sums.{total}
use Rattle.terms.specs.declared.place.Requestor.{Requestor}
use Rattle.terms.specs.declared.place.Account.{Account}
use Rattle.terms.specs.Table.{rate, burst, requestor_at}
use Rattle.terms.specs.State.{credit, backlog, account_at}
use Rattle.rule.specs.Rule.{first_eligible, served, after}
use Rattle.rule.proofs.Accounts.{passed_most, passed_within}
use Rattle.rule.proofs.Head.{slotted, by_head, slotted_no_place, slotted_no_account, first_no_place, first_no_account}
use Rattle.rule.specs.Grants.{to_first}
use Rattle.rule.proofs.Grants.{to_first_zero, to_first_one}

-- a place that waits has a burst for one transfer
abbrev pub Roomy : ℕ → List Requestor → List Account → Type 0
Roomy d rs accounts = (p : ℕ) → p < length rs → 0 < backlog (account_at p accounts) → d ≤ (requestor_at p rs).burst

after_idle_rise : (d k : ℕ) (rs : List Requestor) (accounts : List Account)
    → total credit (take k (after d None rs accounts)) ≤ total credit (take k accounts) + total rate (take k rs)
unfolding total after
after_idle_rise d zero rs accounts = omega arith
after_idle_rise d (suc k) [] accounts = omega arith
after_idle_rise d (suc k) (r ∷ rs) [] = omega arith
after_idle_rise d (suc k) (r ∷ rs) (a ∷ accounts) = omega (arith, passed_most r a, after_idle_rise d k rs accounts)

pub slotted_rise : (d k : ℕ) (rs : List Requestor) (accounts : List Account)
    → total credit (take k (slotted d rs accounts)) + d * to_first k (first_eligible d rs accounts) ≤ total credit (take k accounts) + total rate (take k rs)
unfolding total served to_first
slotted_rise d zero rs accounts = rw (to_first_zero (first_eligible d rs accounts)) (omega arith)
slotted_rise d (suc k) [] accounts = rw (first_no_place d accounts, slotted_no_place d accounts) (omega arith)
slotted_rise d (suc k) (r ∷ rs) [] = rw (first_no_account d (r ∷ rs), slotted_no_account d (r ∷ rs)) (omega arith)
slotted_rise d (suc k) (r ∷ rs) (a ∷ accounts) = by_head d r rs a accounts
    (λ y. rw (y.slotted_is, y.to_first_is k) (omega (arith, y.enough, after_idle_rise d k rs accounts)))
    (λ n. rw (n.slotted_is, n.to_first_is k) (omega (arith, passed_most r a, slotted_rise d k rs accounts)))

-- where none of them is granted, each is left with at most its burst
pub slotted_within : (d k : ℕ) (rs : List Requestor) (accounts : List Account) → k ≤ length rs → Roomy d rs accounts → to_first k (first_eligible d rs accounts) ≡ 0
    → total credit (take k (slotted d rs accounts)) ≤ total burst (take k rs)
unfolding total
slotted_within d zero rs accounts h roomy z = omega arith
slotted_within d (suc k) [] accounts h roomy z = absurd (omega arith)
slotted_within d (suc k) (r ∷ rs) [] h roomy z = rw (slotted_no_account d (r ∷ rs)) (omega arith)
slotted_within d (suc k) (r ∷ rs) (a ∷ accounts) h roomy z = by_head d r rs a accounts
    (λ y. let one = y.to_first_is k in absurd (omega arith))
    (λ n. rw n.slotted_is (omega (
      arith,
      passed_within r a d (roomy 0 (omega arith)) n.short,
      slotted_within d k rs accounts (omega arith) (λ p l. roomy (suc p) (omega arith)) (rw (n.to_first_is k) at z),
    )))

pub slotted_kept : (d k : ℕ) (rs : List Requestor) (accounts : List Account) → k ≤ length rs → Roomy d rs accounts → total rate (take k rs) ≤ d
    → total credit (take k accounts) ≤ total burst (take k rs) → total credit (take k (slotted d rs accounts)) ≤ total burst (take k rs)
slotted_kept d k rs accounts h roomy rated held = elim (ℕ_discrete (to_first k (first_eligible d rs accounts)) 0) [
  | yes z ↦ slotted_within d k rs accounts h roomy z
  | no z ↦ omega (arith, rw (to_first_one k (first_eligible d rs accounts) z) at (slotted_rise d k rs accounts))
]
