-- Proves ServiceBounds: from an accepted start calls are the rule's, and the ceiling and the floor hold of every stretch. The floor is
-- also proved from any sound state, where it follows from the sharper one. Assumes nothing.
use Rattle.std.proofs.Common.{◌≡◌, ap, ◌∙◌, List, inl, inr, ℕ, ◌+◌, ◌*◌, ◌≤◌, ◌<◌, mul-le-mul_left, mul-le-mul_right, arith}
use Rattle.lists.specs.Runs.{end, answers}
use Rattle.terms.specs.Table.{Table, requestors_of}
use Rattle.terms.specs.State.{State, credit, account_at}
use Rattle.terms.proofs.Sound.{Sound}
use Rattle.rule.specs.Calls.{Call, ruled, called}
use Rattle.guarantees.specs.Counts.{slots_in, grants_to, Waits, Accepted, state_after, answers_from}
use Rattle.guarantees.specs.ServiceBounds.{Floor, ruled_after, ServiceBoundsHold}
use Rattle.guarantees.specs.SharperFloor.{Sharp}
use Rattle.guarantees.proofs.Sound.{end_ruled, answers_ruled}
use Rattle.guarantees.proofs.Start.{entered_sound, entered_table, entered_ruled, answered_ruled}
use Rattle.guarantees.proofs.Ceiling.{ceiling_from}
use Rattle.guarantees.proofs.SharperFloor.{own_rate_left, sharper_from}

-- both bounds of the sharper floor come to the floor where c is at least D
floor_of_sharper : (d n R B c L g : ℕ) → n ≤ R → d ≤ c → Sharp d n R B c L g → n * R * L ≤ R * d * g + n * B
floor_of_sharper d n R B c L g rated enters (inl a) = omega (arith, mul-le-mul_left n a, mul-le-mul_right (d * g) rated)
floor_of_sharper d n R B c L g rated enters (inr a) = omega (arith, mul-le-mul_left R enters)

-- T is the table that stands where the stretch begins
pub floor_from : (limit : ℕ) (T : Table) (s : State) → s.table ≡ T → Sound limit s → (inside : List Call) (p : ℕ) → p < T.count → Waits p s inside
    → T.denominator ≤ credit (account_at p s.accounts)
    → Floor T.denominator (requestors_of T) p (slots_in (answers ruled s inside)) (grants_to p (answers ruled s inside))
floor_from limit T s on v inside p place waits enters =
    omega (
      arith,
      floor_of_sharper _ _ _ _ (credit (account_at p s.accounts)) _ _ (own_rate_left limit T s on v p place).0 enters
          (sharper_from limit T s on v p place inside waits),
    )

-- from an accepted start
module _ (limit : ℕ) (t : Table) (first : ℕ) (a : Accepted limit t first) (before inside : List Call) where
  inside_ruled : answers_from limit (state_after limit t first before) inside ≡ answers ruled (ruled_after t first before) inside
  inside_ruled = ap (λ s. answers (called limit) s inside) (entered_ruled limit t first a before) ∙ answers_ruled limit _ inside (entered_sound limit t first a before)

  left_ruled : end (called limit) (state_after limit t first before) inside ≡ end ruled (ruled_after t first before) inside
  left_ruled = ap (λ s. end (called limit) s inside) (entered_ruled limit t first a before) ∙ end_ruled limit _ inside (entered_sound limit t first a before)

pub service_bounds : ServiceBoundsHold
service_bounds limit t first a before inside =
    let s = ruled_after t first before in
    let on = entered_table limit t first a before in
    let v = entered_sound limit t first a before in
    record {
      entered_by_rule = entered_ruled limit t first a before;
      before_by_rule = answered_ruled limit t first a before;
      inside_by_rule = inside_ruled limit t first a before inside;
      left_by_rule = left_ruled limit t first a before inside;
      ceiling = λ k least most. rw (inside_ruled limit t first a before inside) (ceiling_from limit t s on v inside k (omega arith));
      floor = λ p place waits enters. rw (inside_ruled limit t first a before inside) (floor_from limit t s on v inside p (omega arith) waits (omega arith));
    }
