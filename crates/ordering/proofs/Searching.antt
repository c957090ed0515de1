-- The search: what it finds is an order whose needs hold, and where it finds none there is none. Assumes nothing.
use Rattle.std.proofs.Common.{Option, Some, None, option_and_then, ◌≡◌, refl, ap, ap₂, sym, ◌∙◌, Bool, true, false, List, [], ◌∷◌, ◌++◌, ℕ, zero, suc, ◌-◌, ◌≤◌, ◌<◌, arith, length, take, drop, length-append, length-take, take_at, take-take, drop-cons, get_or-take}
use native.Mathlib.Decide.{dec_lt}
use lib.ListN.{get_or-append}
use lib.Seq.{take-append-le, get_or-append_seam, append_snoc}
use Rattle.lists.specs.Choices.{pick}
use Rattle.lists.specs.Sums.{total}
use Rattle.lists.specs.Orders.{without, occurrences, Permuted}
use Rattle.lists.proofs.Tests.{true_false}
use Rattle.lists.proofs.Sums.{total_append}
use Rattle.lists.proofs.Orders.{length_without, without_last, total_without, also_at, permuted_without, permuted_total, permuted_length}
use Rattle.terms.specs.declared.place.Requestor.{Requestor}
use Rattle.terms.specs.Table.{rate, burst, no_requestor, requestor_at}
use Rattle.ordering.specs.Order.{need_holds, last_holding, filled_up}
use Rattle.ordering.specs.Claims.{same_requestor}
use Rattle.ordering.proofs.Needs.{requestors_told, same_above, Holds, Rated, rated_permuted, rated_without, holds_without}

-- ---- the last-listed that can stand below all the others

module _ (d : ℕ) (remaining : List Requestor) where
  abbrev can_stand : (i : ℕ) → Bool
  can_stand i = need_holds d (without i remaining) (requestor_at i remaining)

  pub holding_at : (m i : ℕ) → last_holding d remaining m ≡ Some i → (i < m) × (can_stand i ≡ true)
  unfolding last_holding
  holding_at zero i e = absurd cc
  holding_at (suc m) i e = by (can_stand m) refl (holding_at m i) e
    where
      by : (b : Bool) → can_stand m ≡ b → (last_holding d remaining m ≡ Some i → (i < m) × (can_stand i ≡ true))
          → pick b (Some m) (last_holding d remaining m) ≡ Some i → (i < suc m) × (can_stand i ≡ true)
      by true on below f = let same : m ≡ i = cc in (omega arith, rw same at on)
      by false off below f = let at = below f in (omega (arith, at.0), at.1)

  pub holding_none : (m : ℕ) → last_holding d remaining m ≡ None → (i : ℕ) → i < m → can_stand i ≡ false
  unfolding last_holding
  holding_none zero e i h = absurd (omega arith)
  holding_none (suc m) e i h = by (can_stand m) refl (λ f below. holding_none m f i below) e
    where
      by : (b : Bool) → can_stand m ≡ b → (last_holding d remaining m ≡ None → i < m → can_stand i ≡ false)
          → pick b (Some m) (last_holding d remaining m) ≡ None → can_stand i ≡ false
      by true on below f = absurd cc
      by false off below f = elim (dec_lt i m) [
        | yes inside ↦ below f inside
        | no last ↦ let same : m ≡ i = omega arith in rw same at off
      ]

-- ---- one place

module _ (d : ℕ) (remaining filled : List Requestor) where
  pub nobody_fills : (k : ℕ) → 0 < k → last_holding d remaining k ≡ None → filled_up d k remaining filled ≡ None
  unfolding filled_up
  nobody_fills zero left e = absurd (omega arith)
  nobody_fills (suc k) left e = ap (λ o. option_and_then (λ i. filled_up d k (without i remaining) (requestor_at i remaining ∷ filled)) o) e

  pub fills : (k i : ℕ) → 0 < k → last_holding d remaining k ≡ Some i → filled_up d k remaining filled ≡ filled_up d (k - 1) (without i remaining) (requestor_at i remaining ∷ filled)
  unfolding filled_up
  fills zero i left e = absurd (omega arith)
  fills (suc k) i left e =
      let one : suc k - 1 ≡ k = omega arith in
      rw one (ap (λ o. option_and_then (λ i. filled_up d k (without i remaining) (requestor_at i remaining ∷ filled)) o) e)

-- ---- what is found

pub record Filled (d : ℕ) (remaining filled out : List Requestor) : Type 0 where
  pub front : List Requestor
  pub ahead : out ≡ front ++ filled
  pub permuted : Permuted same_requestor front remaining
  pub holds : Holds d front

-- one more at the end, below those in front
module _ (d : ℕ) (front : List Requestor) (r : Requestor) where
  holds_more : Holds d front → need_holds d front r ≡ true → Holds d (front ++ (r ∷ []))
  holds_more holds last p h = elim (dec_lt p (length front)) [
    | yes inside ↦ rw (take-append-le p front (r ∷ []) (omega arith), get_or-append front (r ∷ []) no_requestor p inside) (holds p inside)
    | no behind ↦
        let end : length front ≡ p = omega (arith, length-append front (r ∷ [])) in
        rw (← end, take_at front (r ∷ []) (length front) refl, get_or-append_seam front r [] no_requestor) last
  ]

  permuted_more : (remaining : List Requestor) (i : ℕ) → i < length remaining → requestor_at i remaining ≡ r → Permuted same_requestor front (without i remaining)
      → Permuted same_requestor (front ++ (r ∷ [])) remaining
  unfolding occurrences total
  permuted_more remaining i h at e x =
      let f : Requestor → ℕ = λ q. pick (same_requestor x q) 1 0 in
      omega (arith, total_append f front (r ∷ []), total_without no_requestor f i remaining h, ap f at, e x)

filled_by : (d k : ℕ) (remaining filled out : List Requestor) (i : ℕ) → length remaining ≡ suc k → last_holding d remaining (suc k) ≡ Some i
    → Filled d (without i remaining) (requestor_at i remaining ∷ filled) out → Filled d remaining filled out
filled_by d k remaining filled out i long e f =
    let r = requestor_at i remaining in
    let at = holding_at d remaining (suc k) i e in
    let sums : (g : Requestor → ℕ) → total g f.front ≡ total g (without i remaining) =
    λ g. permuted_total same_requestor requestors_told no_requestor g f.front (without i remaining) f.permuted in
    record {
      front = f.front ++ (r ∷ []);
      ahead = f.ahead ∙ sym (append_snoc f.front r filled);
      permuted = permuted_more d f.front r remaining i (omega (arith, at.0)) refl f.permuted;
      holds = holds_more d f.front r f.holds (same_above d (without i remaining) f.front r (sums burst) (sums rate) ∙ at.1);
    }

pub filled_up_lem : (d k : ℕ) (remaining filled out : List Requestor) → length remaining ≡ k → filled_up d k remaining filled ≡ Some out → Filled d remaining filled out
unfolding filled_up
filled_up_lem d zero [] filled out long e = record { front = []; ahead = cc; permuted = λ x. refl; holds = λ p h. absurd (omega arith) }
filled_up_lem d zero (r ∷ remaining) filled out long e = absurd (omega arith)
filled_up_lem d (suc k) remaining filled out long e = by (last_holding d remaining (suc k)) refl (λ i h f. filled_up_lem d k (without i remaining) (requestor_at i remaining ∷ filled) out h f) e
  where
    by : (o : Option ℕ) → last_holding d remaining (suc k) ≡ o
        → ((i : ℕ) → length (without i remaining) ≡ k → filled_up d k (without i remaining) (requestor_at i remaining ∷ filled) ≡ Some out → Filled d (without i remaining) (requestor_at i remaining ∷ filled) out)
        → option_and_then (λ i. filled_up d k (without i remaining) (requestor_at i remaining ∷ filled)) o ≡ Some out → Filled d remaining filled out
    by None h again f = absurd cc
    by (Some i) h again f =
        let inside : i < length remaining = omega (arith, (holding_at d remaining (suc k) i h).0) in
        filled_by d k remaining filled out i long h (again i (omega (arith, length_without i remaining inside)) f)

-- ---- where none is found

-- nobody can stand at the lowest place: whoever stands there in another order could
nobody_last : (d k : ℕ) (remaining front : List Requestor) → length remaining ≡ suc k → last_holding d remaining (suc k) ≡ None
    → Permuted same_requestor front remaining → Holds d front → ⊥
nobody_last d k remaining front long e permuted holds =
    let as_long : length front ≡ suc k = permuted_length same_requestor requestors_told no_requestor front remaining permuted ∙ long in
    let (i, inside, same) = also_at same_requestor requestors_told no_requestor front remaining permuted k (omega arith) in
    let others : Permuted same_requestor (take k front) (without i remaining) =
    rw (without_last k front as_long) at (permuted_without same_requestor requestors_told no_requestor front remaining permuted k i (omega arith) inside (sym same)) in
    let sums : (g : Requestor → ℕ) → total g (take k front) ≡ total g (without i remaining) =
    λ g. permuted_total same_requestor requestors_told no_requestor g (take k front) (without i remaining) others in
    let off = holding_none d remaining (suc k) e i (omega arith) in
    let on : need_holds d (without i remaining) (requestor_at i remaining) ≡ true =
    rw same (sym (same_above d (without i remaining) (take k front) (requestor_at k front) (sums burst) (sums rate)) ∙ holds k (omega arith)) in
    true_false (sym on ∙ off)

pub no_order : (d k : ℕ) (remaining filled front : List Requestor) → length remaining ≡ k → Rated d remaining → filled_up d k remaining filled ≡ None
    → Permuted same_requestor front remaining → Holds d front → ⊥
unfolding filled_up
no_order d zero remaining filled front long rated e permuted holds = cc
no_order d (suc k) remaining filled front long rated e permuted holds =
    by (last_holding d remaining (suc k)) refl (λ i h r f others kept. no_order d k (without i remaining) (requestor_at i remaining ∷ filled) others h r f kept) e
  where
    by : (o : Option ℕ) → last_holding d remaining (suc k) ≡ o
        → ((i : ℕ) → length (without i remaining) ≡ k → Rated d (without i remaining) → filled_up d k (without i remaining) (requestor_at i remaining ∷ filled) ≡ None
        → (others : List Requestor) → Permuted same_requestor others (without i remaining) → Holds d others → ⊥)
        → option_and_then (λ i. filled_up d k (without i remaining) (requestor_at i remaining ∷ filled)) o ≡ None → ⊥
    by None h again f = nobody_last d k remaining front long h permuted holds
    by (Some i) h again f =
        let inside : i < length remaining = omega (arith, (holding_at d remaining (suc k) i h).0) in
        let (j, there, same) = also_at same_requestor requestors_told no_requestor remaining front (λ x. sym (permuted x)) i inside in
        again i (omega (arith, length_without i remaining inside)) (rated_without d remaining rated i inside) f (without j front)
        (permuted_without same_requestor requestors_told no_requestor front remaining permuted j i there inside same)
        (holds_without d front (rated_permuted d front remaining permuted rated) j holds)

-- ---- an order that is right already

pub right_already : (d k : ℕ) (rs : List Requestor) → k ≤ length rs → Holds d rs → filled_up d k (take k rs) (drop k rs) ≡ Some rs
unfolding filled_up last_holding
right_already d zero rs h holds = refl
right_already d (suc k) rs h holds =
    let cut : without k (take (suc k) rs) ≡ take k rs =
    without_last k (take (suc k) rs) (omega (arith, length-take (suc k) rs)) ∙ take-take k (suc k) rs (omega arith) in
    let own : requestor_at k (take (suc k) rs) ≡ requestor_at k rs = get_or-take (suc k) rs k no_requestor (omega arith) in
    let chosen : last_holding d (take (suc k) rs) (suc k) ≡ Some k = rw (cut, own, holds k (omega arith)) in
    let below : requestor_at k (take (suc k) rs) ∷ drop (suc k) rs ≡ drop k rs = rw (own, drop-cons rs k no_requestor (omega arith)) in
    ap (λ o. option_and_then (λ i. filled_up d k (without i (take (suc k) rs)) (requestor_at i (take (suc k) rs) ∷ drop (suc k) rs)) o) chosen
    ∙ ap₂ (filled_up d k) cut below ∙ right_already d k rs (omega arith) holds
