-- Following without a bound, and what N steps tell of it. Assumes nothing.
use Rattle.std.proofs.Common.{◌≡◌, refl, ap, sym, ◌∙◌, true, false, List, [], ◌∷◌, ◌++◌, ℕ, zero, suc, ◌+◌, ◌-◌, ◌≤◌, ◌<◌, not-suc-le-zero, arith, eqb-true, eq-eqb, eqb, Option, None, Some}
use native.Mathlib.Decide.{dec_le}
use Rattle.lists.specs.Sums.{every}
use Rattle.lists.proofs.Tests.{cases, true_false, every_last, every_last_fails}
use Rattle.terms.specs.Chain.{follows, chain_to}
use Rattle.terms.proofs.Chain.{BelowIf}
use Rattle.chains.specs.Claims.{next, steps, LeadsBack}
use Rattle.chains.proofs.Repeats.{Repeat, repeats}
use Rattle.chains.proofs.Walks.{chain_none, is_other}

module _ (names : List ℕ) where
  -- ---- steps

  pub steps_none : (k : ℕ) → steps names k None ≡ None
  unfolding steps
  steps_none zero = refl
  steps_none (suc k) = steps_none k

  steps_add : (a b : ℕ) (o : Option ℕ) → steps names (a + b) o ≡ steps names b (steps names a o)
  unfolding steps
  steps_add zero b o = let z : 0 + b ≡ b = omega arith in rw z
  steps_add (suc a) b o = let z : suc a + b ≡ suc (a + b) = omega arith in rw z (steps_add a b (next names o))

  -- the place, where there is one
  abbrev at : Option ℕ → ℕ
  at None = 0
  at (Some p) = p

  -- steps that lead somewhere led somewhere before
  before : (k m q : ℕ) (o : Option ℕ) → k ≤ m → steps names m o ≡ Some q → steps names k o ≡ Some (at (steps names k o))
  before k m q o h e = go (steps names k o) refl
    where
      go : (w : Option ℕ) → steps names k o ≡ w → steps names k o ≡ Some (at (steps names k o))
      go None r =
          let z : k + (m - k) ≡ m = omega arith in
          absurd (cc (steps_add k (m - k) o, ap (λ x. steps names x o) z, ap (steps names (m - k)) r, steps_none (m - k)))
      go (Some x) r = rw r

  -- ---- the chain and the steps

  -- p is met within so many steps exactly if it stands in the chain
  pub met : (p most : ℕ) (o : Option ℕ) → every (is_other p) (chain_to names most o) ≡ false → (k : ℕ) × (k < most) × (steps names k o ≡ Some p)
  unfolding chain_to steps every
  met p zero o e = true_false e
  met p (suc most) None e = true_false e
  met p (suc most) (Some q) e = cases (eqb q p)
      (λ same. (0, omega arith, ap Some (eqb-true q p same)))
      (λ apart.
      let passed : is_other p q ≡ true = rw apart in
      let (k, h, s) = met p most (follows names q) (sym (every_last (is_other p) 0 (chain_to names most (follows names q)) q passed) ∙ e) in
      (suc k, omega arith, s))

  pub not_met : (p most k : ℕ) (o : Option ℕ) → every (is_other p) (chain_to names most o) ≡ true → k < most → steps names k o ≡ Some p → ⊥
  unfolding chain_to steps every
  not_met p zero k o e h s = not-suc-le-zero h
  not_met p (suc most) k None e h s = cc (steps_none k)
  not_met p (suc most) zero (Some q) e h s =
      let same : q ≡ p = cc in
      let fails : is_other p q ≡ false = rw (eq-eqb q p same) in
      true_false (sym e ∙ every_last_fails (is_other p) 0 (chain_to names most (follows names q)) q fails)
  not_met p (suc most) (suc k) (Some q) e h s = cases (is_other p q)
      (λ passed. not_met p most k (follows names q) (sym (every_last (is_other p) 0 (chain_to names most (follows names q)) q passed) ∙ e) (omega arith) s)
      (λ fails. true_false (sym e ∙ every_last_fails (is_other p) 0 (chain_to names most (follows names q)) q fails))

  -- a chain that ends is told whole
  pub chain_whole : (m most : ℕ) (o : Option ℕ) → m ≤ most → steps names m o ≡ None → chain_to names most o ≡ chain_to names m o
  unfolding chain_to steps
  chain_whole zero most None h e = chain_none names most ∙ sym (chain_none names 0)
  chain_whole zero most (Some p) h e = absurd cc
  chain_whole (suc m) most None h e = chain_none names most ∙ sym (chain_none names (suc m))
  chain_whole (suc m) zero (Some p) h e = absurd (not-suc-le-zero h)
  chain_whole (suc m) (suc most) (Some p) h e = ap (λ links. links ++ (p ∷ [])) (chain_whole m most (follows names p) (omega arith) e)

  -- ---- among n places

  module _ (n : ℕ) (closed : (p : ℕ) → p < n → BelowIf n (follows names p)) where
    inside : (k : ℕ) (o : Option ℕ) → BelowIf n o → BelowIf n (steps names k o)
    unfolding steps
    inside zero o b = b
    inside (suc k) None b = inside k None tt
    inside (suc k) (Some p) b = inside k (follows names p) (closed p b)

    -- n steps that lead somewhere have led to one place twice
    module _ (m p q : ℕ) (h : p < n) (long : n ≤ m) (e : steps names m (Some p) ≡ Some q) where
      abbrev visited : ℕ → ℕ
      visited k = at (steps names k (Some p))

      visits : (k : ℕ) → k ≤ n → steps names k (Some p) ≡ Some (visited k)
      visits k l = before k m q (Some p) (omega arith) e

      turn : Repeat n visited
      turn = repeats n visited (λ k l. rw (visits k l) at (inside k (Some p) h))

      i_visit : steps names turn.i (Some p) ≡ Some (visited turn.i)
      i_visit = visits turn.i (omega (arith, turn.later, turn.within))

      j_visit : steps names turn.j (Some p) ≡ Some (visited turn.i)
      j_visit = visits turn.j turn.within ∙ ap Some (sym turn.same)

      -- from there it leads back to there
      turn_back : LeadsBack names (visited turn.i)
      turn_back =
          let k : ℕ = turn.j - turn.i - 1 in
          let z : turn.i + suc k ≡ turn.j = omega (arith, turn.later) in
          (k, sym (ap (steps names (suc k)) i_visit) ∙ sym (steps_add turn.i (suc k) (Some p)) ∙ ap (λ x. steps names x (Some p)) z ∙ j_visit)

      turn_place : visited turn.i < n
      turn_place = rw i_visit at (inside turn.i (Some p) h)

      -- the turn left out, the steps lead to the same place
      shorter : steps names (turn.i + (m - turn.j)) (Some p) ≡ Some q
      shorter =
          let z : turn.j + (m - turn.j) ≡ m = omega (arith, turn.within) in
          steps_add turn.i (m - turn.j) (Some p)
          ∙ ap (steps names (m - turn.j)) (i_visit ∙ sym j_visit)
          ∙ sym (steps_add turn.j (m - turn.j) (Some p))
          ∙ ap (λ x. steps names x (Some p)) z
          ∙ e

    -- where no place leads back to itself, nobody is left to follow after n steps
    pub ends : ((q : ℕ) → q < n → LeadsBack names q → ⊥) → (p : ℕ) → p < n → steps names n (Some p) ≡ None
    ends never p h = go (steps names n (Some p)) refl
      where
        go : (o : Option ℕ) → steps names n (Some p) ≡ o → steps names n (Some p) ≡ None
        go None e = e
        go (Some q) e = absurd (never _ (turn_place n p q h (omega arith) e) (turn_back n p q h (omega arith) e))

    -- what leads back to itself does so within n steps; `most` bounds the steps
    back_within : (most k p : ℕ) → k < most → p < n → steps names (suc k) (Some p) ≡ Some p → (j : ℕ) × (j < n) × (steps names (suc j) (Some p) ≡ Some p)
    back_within zero k p l h e = absurd (not-suc-le-zero l)
    back_within (suc most) k p l h e = elim (dec_le (suc k) n) [
      | yes soon ↦ (k, soon, e)
      | no late ↦ go (omega arith) (λ j g f. back_within most j p g h f)
    ]
      where
        go : n ≤ k → ((j : ℕ) → j < most → steps names (suc j) (Some p) ≡ Some p → (i : ℕ) × (i < n) × (steps names (suc i) (Some p) ≡ Some p))
            → (i : ℕ) × (i < n) × (steps names (suc i) (Some p) ≡ Some p)
        go late again =
            let long : n ≤ suc k = omega arith in
            let t = turn (suc k) p p h long e in
            let j : ℕ = t.i + (suc k - t.j) - 1 in
            let z : t.i + (suc k - t.j) ≡ suc j = omega (arith, t.within) in
            again j (omega (arith, t.later, t.within)) (sym (ap (λ x. steps names x (Some p)) z) ∙ shorter (suc k) p p h long e)

    -- so the test of n steps is right
    pub apart_never : (p : ℕ) → p < n → every (is_other p) (chain_to names n (follows names p)) ≡ true → LeadsBack names p → ⊥
    unfolding steps
    apart_never p h e (k, b) =
        let (j, l, f) = back_within (suc k) k p (omega arith) h b in
        not_met p n j (follows names p) e l f

  pub met_back : (n p : ℕ) → every (is_other p) (chain_to names n (follows names p)) ≡ false → LeadsBack names p
  unfolding steps
  met_back n p e = let (k, h, s) = met p n (follows names p) e in (k, s)
