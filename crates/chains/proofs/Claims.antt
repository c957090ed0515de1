-- Proves Claims. Assumes nothing.
use Rattle.std.proofs.Common.{◌≡◌, refl, ap, sym, ◌∙◌, List, [], ◌∷◌, ◌++◌, ◌⊎◌, inl, inr, ℕ, zero, suc, ◌+◌, ◌<◌, zero-add, arith, length, get_or, length-take, Option, None, Some}
use native.Mathlib.Nat.{sub-zero}
use Rattle.lists.specs.Sums.{every}
use Rattle.lists.proofs.Tests.{cases}
use Rattle.terms.specs.declared.refusals.Refusal.{Refusal}
use Rattle.terms.specs.declared.place.Requestor.{Requestor}
use Rattle.terms.specs.Figures.{finish}
use Rattle.terms.specs.Refusals.{Verdict, faultless, fault, refusal_at, gate, then}
use Rattle.terms.specs.Table.{Table, requestors_of, requestor_at}
use Rattle.terms.specs.State.{State, Shaped, place_verdict}
use Rattle.terms.specs.Chain.{nobody, named, follows, chain_to, chain_of, chain_figure, name_verdict, circle_verdict, names_verdict, circles_verdict, following_verdict, refused, chain_verdict, chain}
use Rattle.terms.proofs.Checks.{faultless_fault, gate_open, gate_not, gate_passed, gate_failed, then_open, then_fault, each_place_at, each_place_same, each_place_fault, fair}
use Rattle.terms.proofs.Sound.{sound_table, places_length, place_open}
use Rattle.terms.proofs.Chain.{BelowIf, followed_below, chain_no_place, chain_astray, chain_figured, chain_open, chain_refused}
use Rattle.chains.specs.Claims.{LeadsBack, LowestCircle, SixteenNamesLowest, CircleIsRefused, ChainIsWhole, NamesPastUnread, ChainOfOne}
use Rattle.chains.proofs.Walks.{is_other, total_none}
use Rattle.chains.proofs.Circles.{chain_whole, ends, apart_never, met_back}

-- ---- check 16 at a place of a table whose names pass 11

module _ (t : Table) (names : List ℕ) (rows : length (requestors_of t) ≡ t.count) (ok : names_verdict t names ≡ faultless) where
  never_back : (p : ℕ) → p < t.count → circle_verdict t.count names p (requestor_at p (requestors_of t)) ≡ faultless → LeadsBack names p → ⊥
  unfolding circle_verdict
  never_back p h e = apart_never names t.count (followed_below t names rows ok) p h (gate_open _ _ _ e).0

  no_circle : circles_verdict t names ≡ faultless → (p : ℕ) → p < t.count → LeadsBack names p → ⊥
  no_circle e p h = never_back p h (rw (zero-add p) at (each_place_at (circle_verdict t.count names) 0 (requestors_of t) e p (omega arith)))

-- a fault of check 16 is that of a place that leads back to itself
circle_fault : (n : ℕ) (names : List ℕ) (p : ℕ) (x : Requestor) (r : Refusal) → circle_verdict n names p x ≡ fault r → LeadsBack names p × (refusal_at 16 p ≡ r)
unfolding circle_verdict
circle_fault n names p x r e = cases (every (is_other p) (chain_to names n (follows names p)))
    (λ apart. faultless_fault r (sym (gate_passed _ _ _ apart) ∙ e))
    (λ met. let same : fault (refusal_at 16 p) ≡ fault r = sym (gate_failed (refusal_at 16 p) _ faultless met) ∙ e in (met_back names n p met, cc))

-- ---- the refusals ahead of it have other numbers

place_not_16 : (limit : ℕ) (s : State) (p q : ℕ) → place_verdict limit s p ≡ fault (refusal_at 16 q) → ⊥
unfolding place_verdict
place_not_16 limit s p q = gate_not _ _ _ _ (omega arith) (gate_not _ _ _ _ (omega arith) (faultless_fault _))

names_not_16 : (t : Table) (names : List ℕ) (q : ℕ) → names_verdict t names ≡ fault (refusal_at 16 q) → ⊥
unfolding name_verdict
names_not_16 t names q e =
    gate_not _ _ _ _ (omega arith) (faultless_fault _) (each_place_fault (name_verdict t.count names) 0 (requestors_of t) (refusal_at 16 q) e).found

-- ---- the claims

module _ (limit : ℕ) (s : State) (shape : Shaped limit s) (p : ℕ) (names : List ℕ) where
  -- past 23 the table has N requestors
  rows_there : place_verdict limit s p ≡ faultless → length (requestors_of s.table) ≡ s.table.count
  rows_there e = places_length limit s.table shape.rows (fair limit s.table (sound_table limit s (place_open limit s p e).0))

  lowest_circle : (q : ℕ) → place_verdict limit s p ≡ faultless → names_verdict s.table names ≡ faultless → circles_verdict s.table names ≡ fault (refusal_at 16 q)
      → LowestCircle s names q
  lowest_circle q there ok e =
      let f = each_place_fault (circle_verdict s.table.count names) 0 (requestors_of s.table) (refusal_at 16 q) e in
      let (back, same) = circle_fault s.table.count names f.at (requestor_at f.at (requestors_of s.table)) (refusal_at 16 q) (rw (zero-add f.at) at f.found) in
      let places : Some f.at ≡ Some q = ap (λ r. r.place) same in
      let at : f.at ≡ q = cc in
      record {
        place = omega (arith, f.inside, rows_there there);
        back = rw at at back;
        lowest = λ i h. never_back s.table names (rows_there there) ok i (omega (arith, f.inside, rows_there there)) (rw (zero-add i) at (f.before i (omega arith)));
      }

pub sixteen_names_lowest : SixteenNamesLowest
unfolding chain_verdict following_verdict
sixteen_names_lowest limit s shape p names q e = first (then_fault _ _ _ (chain_refused limit s p names (refusal_at 16 q) e))
  where
    second : place_verdict limit s p ≡ faultless
        → (names_verdict s.table names ≡ fault (refusal_at 16 q)) ⊎ ((names_verdict s.table names ≡ faultless) × (circles_verdict s.table names ≡ fault (refusal_at 16 q)))
        → LowestCircle s names q
    second there (inl f) = absurd (names_not_16 s.table names q f)
    second there (inr (ok, f)) = lowest_circle limit s shape p names q there ok f

    first : (place_verdict limit s p ≡ fault (refusal_at 16 q)) ⊎ ((place_verdict limit s p ≡ faultless) × (following_verdict s.table names ≡ fault (refusal_at 16 q)))
        → LowestCircle s names q
    first (inl f) = absurd (place_not_16 limit s p q f)
    first (inr (there, f)) = second there (then_fault _ _ _ f)

pub circle_is_refused : CircleIsRefused
unfolding following_verdict then
circle_is_refused limit s shape p names there ok q h back = go (circles_verdict s.table names) refl
  where
    go : (v : Verdict) → circles_verdict s.table names ≡ v → (lowest : ℕ) × (chain limit s p names ≡ refused (refusal_at 16 lowest))
    go faultless e = absurd (no_circle s.table names (rows_there limit s shape p names there) ok e q h back)
    go (fault r) e =
        let f = each_place_fault (circle_verdict s.table.count names) 0 (requestors_of s.table) r e in
        let same = (circle_fault s.table.count names f.at (requestor_at f.at (requestors_of s.table)) r (rw (zero-add f.at) at f.found)).1 in
        (f.at, chain_astray limit s p names (refusal_at 16 f.at) there (rw (ok, e, same)))

pub chain_is_whole : ChainIsWhole
unfolding following_verdict
chain_is_whole limit s shape p names figure e =
    let f = chain_open limit s p names figure e in
    let (ok, clear) = then_open _ _ f.following in
    let rows = rows_there limit s shape p names f.place in
    let never = no_circle s.table names rows ok clear in
    let over = ends names s.table.count (followed_below s.table names rows ok) never p (place_open limit s p f.place).1 in
    record { no_circle = never; ends = over; whole = λ most h. chain_whole names s.table.count most (Some p) h over }

-- names that agree below n, and pass 11
module _ (t : Table) (names others : List ℕ) (agree : (q : ℕ) → q < t.count → get_or names q nobody ≡ get_or others q nobody) where
  same_follows : (q : ℕ) → q < t.count → follows names q ≡ follows others q
  unfolding follows
  same_follows q h = ap named (agree q h)

  few : (i : ℕ) → i < length (requestors_of t) → 0 + i < t.count
  few i h = omega (arith, length-take t.count t.requestors)

  same_names : names_verdict t names ≡ names_verdict t others
  unfolding name_verdict
  same_names = each_place_same (name_verdict t.count names) (name_verdict t.count others) 0 (requestors_of t) (λ i h r. rw (same_follows (0 + i) (few i h)))

  module _ (rows : length (requestors_of t) ≡ t.count) (ok : names_verdict t names ≡ faultless) where
    same_chain : (most : ℕ) (o : Option ℕ) → BelowIf t.count o → chain_to names most o ≡ chain_to others most o
    unfolding chain_to
    same_chain zero o b = refl
    same_chain (suc most) None b = refl
    same_chain (suc most) (Some q) b = rw (← same_follows q b) (ap (λ links. links ++ (q ∷ [])) (same_chain most (follows names q) (followed_below t names rows ok q b)))

    same_circles : circles_verdict t names ≡ circles_verdict t others
    unfolding circle_verdict
    same_circles = each_place_same (circle_verdict t.count names) (circle_verdict t.count others) 0 (requestors_of t) (λ i h r.
        let q : ℕ = 0 + i in
        let there = few i h in
        ap (λ links. gate (refusal_at 16 q) (every (is_other q) links) faultless)
        (same_chain t.count (follows names q) (followed_below t names rows ok q there) ∙ ap (chain_to others t.count) (same_follows q there)))

pub names_past_unread : NamesPastUnread
unfolding following_verdict then
names_past_unread limit s shape p names others agree = place (place_verdict limit s p) refl
  where
    circles : (v : Verdict) → circles_verdict s.table names ≡ v → place_verdict limit s p ≡ faultless → names_verdict s.table names ≡ faultless
        → chain limit s p names ≡ chain limit s p others
    circles (fault r) e there ok =
        let also = sym (same_circles s.table names others agree (rows_there limit s shape p names there) ok) ∙ e in
        chain_astray limit s p names r there (rw (ok, e)) ∙ sym (chain_astray limit s p others r there (rw (sym (same_names s.table names others agree) ∙ ok, also)))
    circles faultless e there ok =
        let rows = rows_there limit s shape p names there in
        let also = sym (same_circles s.table names others agree rows ok) ∙ e in
        let links = same_chain s.table names others agree rows ok s.table.count (Some p) (place_open limit s p there).1 in
        chain_figured limit s p names _ there (rw (ok, e)) refl
        ∙ sym (chain_figured limit s p others (chain_figure s.table (chain_of s.table names p)) there (rw (sym (same_names s.table names others agree) ∙ ok, also)) (ap (chain_figure s.table) links))

    present : (v : Verdict) → names_verdict s.table names ≡ v → place_verdict limit s p ≡ faultless → chain limit s p names ≡ chain limit s p others
    present (fault r) e there =
        chain_astray limit s p names r there (rw e) ∙ sym (chain_astray limit s p others r there (rw (sym (same_names s.table names others agree) ∙ e)))
    present faultless e there = circles (circles_verdict s.table names) refl there e

    place : (v : Verdict) → place_verdict limit s p ≡ v → chain limit s p names ≡ chain limit s p others
    place (fault r) e = chain_no_place limit s p names r e ∙ sym (chain_no_place limit s p others r e)
    place faultless e = present (names_verdict s.table names) refl e

pub chain_of_one : ChainOfOne
unfolding chain_figure
chain_of_one limit s p names figure e alone =
    let f = chain_open limit s p names figure e in
    let some-place : 0 < s.table.count = omega (arith, (place_open limit s p f.place).1) in
    f.is ∙ rw (sub-zero s.table.count) at (total_none names s.table.count 0 (λ q. finish s.table.denominator (requestors_of s.table) q 1) p some-place alone)
