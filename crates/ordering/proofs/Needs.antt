-- A need that holds, holds with fewer above it: that is why the search never has to take a choice back. Assumes nothing.
use Rattle.std.proofs.Common.{◌≡◌, refl, ap, ◌∙◌, true, List, ℕ, suc, ◌+◌, ◌-◌, ◌*◌, ◌≤◌, ◌<◌, mul-le-mul, mul-le-mul_left, mul-le-mul_right, arith, leb-true, le-leb, eqb-true, eq-eqb, length, take}
use native.Mathlib.Decide.{dec_le}
use Rattle.lists.specs.Sums.{total}
use Rattle.lists.specs.Orders.{without, Permuted, Tells}
use Rattle.lists.proofs.Tests.{and_true, true_and}
use Rattle.lists.proofs.Sums.{total_take_drop, total_take_suc}
use Rattle.lists.proofs.Orders.{past, past_inside, at_without, total_without, total_take_without, also_at, permuted_total}
use Rattle.terms.specs.declared.place.Requestor.{Requestor}
use Rattle.terms.specs.Table.{rate, burst, no_requestor, requestor_at}
use Rattle.terms.specs.Figures.{finish_of}
use Rattle.terms.proofs.Figures.{finish_covers, finish_least}
use Rattle.ordering.specs.Order.{need_holds}
use Rattle.ordering.specs.Claims.{same_requestor}

-- ---- the same requestor

pub requestors_told : Tells same_requestor
requestors_told = record { itself = itself; no_other = no_other }
  where
    itself : (r : Requestor) → same_requestor r r ≡ true
    itself r =
        true_and _ _ (eq-eqb r.rate r.rate refl)
        (true_and _ _ (eq-eqb r.burst r.burst refl) (true_and _ _ (eq-eqb r.need.0 r.need.0 refl) (eq-eqb r.within.0 r.within.0 refl)))

    no_other : (r q : Requestor) → same_requestor r q ≡ true → r ≡ q
    no_other r q e =
        let n = and_true _ _ e in
        let b = and_true _ _ n.1 in
        let j = and_true _ _ b.1 in
        ap (λ x. record { rate = x; burst = r.burst; need = r.need; within = r.within }) (eqb-true _ _ n.0)
        ∙ ap (λ x. record { rate = q.rate; burst = x; need = r.need; within = r.within }) (eqb-true _ _ b.0)
        ∙ ap (λ x. record { rate = q.rate; burst = q.burst; need = record { 0 = x }; within = r.within }) (eqb-true _ _ j.0)
        ∙ ap (λ x. record { rate = q.rate; burst = q.burst; need = q.need; within = record { 0 = x } }) (eqb-true _ _ j.1)

-- ---- fewer above

-- S times as much on both sides
cancel : (S x y : ℕ) → 1 ≤ S → S * x ≤ S * y → x ≤ y
cancel S x y some h = elim (dec_le x y) [
  | yes k ↦ k
  | no k ↦ let more : y + 1 ≤ x = omega arith in absurd (omega (arith, mul-le-mul_left S more))
]

-- B of C is left above, and R not below S
lower : (d B C R S n j L : ℕ) → B ≤ C → S ≤ R → 1 ≤ S → 1 ≤ n → finish_of d C S n j ≤ L → finish_of d B R n j ≤ L
lower d B C R S n j L fewer more some own h =
    let held : C * n + j * d * S ≤ S * n * L = omega (arith, finish_covers d C S n j some own, mul-le-mul_left (S * n) h) in
    let bursts : S * (B * n) ≤ R * (C * n) = omega (arith, mul-le-mul more (mul-le-mul_right n fewer)) in
    finish_least d B R n j (omega arith) own L
    (cancel S (B * n + j * d * R) (R * n * L) some (omega (arith, bursts, mul-le-mul_left R held)))

module _ (d : ℕ) (above others : List Requestor) (r : Requestor) where
  pub same_above : total burst others ≡ total burst above → total rate others ≡ total rate above → need_holds d others r ≡ need_holds d above r
  unfolding need_holds
  same_above bursts rates = rw (bursts, rates)

  pub fewer_above : total burst others ≤ total burst above → total rate others ≤ total rate above → 1 ≤ r.rate → total rate above + r.rate ≤ d
      → need_holds d above r ≡ true → need_holds d others r ≡ true
  unfolding need_holds
  fewer_above bursts rates own left h =
      le-leb _ _
      (lower d (total burst others) (total burst above) (d - total rate others) (d - total rate above) r.rate r.need.0 r.within.0 bursts (omega arith) (omega arith) own
      (leb-true _ _ h))

-- ---- requestors from place 0 on

-- each need holds with those above it
abbrev pub Holds : ℕ → List Requestor → Type 0
Holds d rs = (p : ℕ) → p < length rs → need_holds d (take p rs) (requestor_at p rs) ≡ true

-- every rate is at least 1, and they sum to at most D
pub record Rated (d : ℕ) (rs : List Requestor) : Type 0 where
  pub each : (p : ℕ) → p < length rs → 1 ≤ (requestor_at p rs).rate
  pub sum : total rate rs ≤ d

pub rated_permuted : (d : ℕ) (xs ys : List Requestor) → Permuted same_requestor xs ys → Rated d ys → Rated d xs
rated_permuted d xs ys e r = record {
  each = λ p h. let at = also_at same_requestor requestors_told no_requestor xs ys e p h in rw at.2 at (r.each at.0 at.1);
  sum = omega (arith, permuted_total same_requestor requestors_told no_requestor rate xs ys e, r.sum);
}

module _ (d : ℕ) (rs : List Requestor) (rated : Rated d rs) (i : ℕ) where
  pub rated_without : i < length rs → Rated d (without i rs)
  rated_without h = record {
    each = λ p k. rw (at_without no_requestor i p rs) (rated.each (past i p) (past_inside i p rs k));
    sum = omega (arith, total_without no_requestor rate i rs h, rated.sum);
  }

  -- one is left out, and the needs of the others hold
  pub holds_without : Holds d rs → Holds d (without i rs)
  holds_without holds p h =
      let at = past i p in
      let inside = past_inside i p rs h in
      let left : total rate (take at rs) + (requestor_at at rs).rate ≤ d =
      omega (arith, total_take_suc rate no_requestor refl at rs, total_take_drop rate (suc at) rs, rated.sum) in
      rw (at_without no_requestor i p rs)
      (fewer_above d (take at rs) (take p (without i rs)) (requestor_at at rs) (total_take_without burst i p rs) (total_take_without rate i p rs) (rated.each at inside) left (holds at inside))
