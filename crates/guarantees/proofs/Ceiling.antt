-- The ceiling, from any sound state. Assumes nothing.
use Rattle.std.proofs.Common.{◌≡◌, ◌∙◌, List, ℕ, ◌+◌, ◌*◌, ◌≤◌, arith, take}
use Rattle.lists.specs.Sums.{total}
use Rattle.lists.specs.Runs.{answers}
use Rattle.lists.proofs.Runs.{each, along}
use Rattle.terms.specs.Table.{Table, rate, burst, requestors_of}
use Rattle.terms.specs.State.{State, credit}
use Rattle.terms.proofs.Sound.{Sound}
use Rattle.rule.specs.Calls.{Call, grant_of, advanced, ruled}
use Rattle.rule.proofs.Head.{slotted}
use Rattle.guarantees.specs.Counts.{slots_in, grants_to_first}
use Rattle.guarantees.specs.ServiceBounds.{Ceiling}
use Rattle.guarantees.proofs.Grants.{slot_in, grant_to_first, slot_in_lem, grant_to_first_lem}
use Rattle.rule.proofs.Credits.{slotted_rise}
use Rattle.guarantees.proofs.Step.{by_kind, table_stands, posted_credits}
use Rattle.rule.proofs.Kept.{sound_credits}

module _ (T : Table) (k C : ℕ) where
  -- T stands, and t slots with g grants to the first k places keep their credits within C + t × rates
  abbrev Paid : ℕ → ℕ → State → Type 0
  Paid t g s = (s.table ≡ T) × (total credit (take k s.accounts) + T.denominator * g ≤ C + t * total rate (take k (requestors_of T)))

  paid_next : (t g : ℕ) (s : State) (c : Call) → Unit {0} → Paid t g s
      → Paid (slot_in (ruled s c).answer + t) (grant_to_first k (ruled s c).answer + g) (ruled s c).state
  unfolding advanced grant_of slotted
  paid_next t g s c w (on, h) = (
    table_stands s c ∙ on,
    by_kind
        (λ c u a. total credit (take k u.accounts) + T.denominator * (grant_to_first k a + g) ≤ C + (slot_in a + t) * total rate (take k (requestors_of T))) s c
        (λ r e. omega arith)
        (λ p count e. omega (arith, posted_credits s k p count))
        (λ e. rw (slot_in_lem s.slot.0 (grant_of s), grant_to_first_lem k s.slot.0 (grant_of s), on)
        (omega (arith, slotted_rise T.denominator k (requestors_of T) s.accounts))),
  )

-- T is the table that stands where the stretch begins
pub ceiling_from : (limit : ℕ) (T : Table) (s : State) → s.table ≡ T → Sound limit s → (inside : List Call) (k : ℕ) → k ≤ T.count
    → Ceiling T.denominator (requestors_of T) k (slots_in (answers ruled s inside)) (grants_to_first k (answers ruled s inside))
ceiling_from limit T s on v inside k h =
    let C : ℕ = total credit (take k s.accounts) in
    let enters : C ≤ total burst (take k (requestors_of T)) = rw on at (sound_credits limit s v k) h in
    omega (arith, (along ruled (λ s a. Unit {0}) slot_in (grant_to_first k) (Paid T k C) (paid_next T k C) 0 0 s inside (each ruled s inside) (on, omega arith)).1)
