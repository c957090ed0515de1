-- More numbers than there are below n cannot all be different. Assumes nothing.
use Rattle.std.proofs.Common.{◌≡◌, ap, sym, ◌∙◌, ◌⊎◌, inl, inr, ℕ, zero, suc, ◌-◌, ◌≤◌, ◌<◌, not-suc-le-zero, arith, ltb-true, ltb-false, ltb}
use native.Mathlib.Decide.{ℕ_discrete}
use Rattle.lists.specs.Choices.{pick}
use Rattle.lists.proofs.Tests.{cases}

-- f takes one value at i and at a later j, neither above n
pub record Repeat (n : ℕ) (f : ℕ → ℕ) : Type 0 where
  pub i : ℕ
  pub j : ℕ
  pub later : i < j
  pub within : j ≤ n
  pub same : f i ≡ f j

-- whether f takes the value v below m
taken : (v : ℕ) (f : ℕ → ℕ) (m : ℕ) → ((i : ℕ) × (i < m) × (f i ≡ v)) ⊎ ((i : ℕ) → i < m → f i ≡ v → ⊥)
taken v f zero = inr (λ i h e. not-suc-le-zero h)
taken v f (suc m) = go (taken v f m) (ℕ_discrete (f m) v)
  where
    go : ((i : ℕ) × (i < m) × (f i ≡ v)) ⊎ ((i : ℕ) → i < m → f i ≡ v → ⊥) → Dec (f m ≡ v)
        → ((i : ℕ) × (i < suc m) × (f i ≡ v)) ⊎ ((i : ℕ) → i < suc m → f i ≡ v → ⊥)
    go (inl (i, h, e)) d = inl (i, omega arith, e)
    go (inr never) (yes e) = inl (m, omega arith, e)
    go (inr never) (no apart) = inr (λ i h e. elim (ℕ_discrete i m) [ yes last ↦ apart (ap f (sym last) ∙ e) | no other ↦ never i (omega arith) e ])

-- the numbers without v, closed up
abbrev closed_up : (v x : ℕ) → ℕ
closed_up v x = pick (ltb x v) x (x - 1)

closed_up_less : (v x m : ℕ) → (x ≡ v → ⊥) → v ≤ m → x ≤ m → closed_up v x < m
closed_up_less v x m apart hv hx = cases (ltb x v)
    (λ below. let h = ltb-true x v below in rw below (omega arith))
    (λ above. let h = ltb-false x v above in rw above (omega arith))

closed_up_same : (v x y : ℕ) → (x ≡ v → ⊥) → (y ≡ v → ⊥) → closed_up v x ≡ closed_up v y → x ≡ y
closed_up_same v x y ax ay e = cases (ltb x v)
    (λ bx. cases (ltb y v)
    (λ by. let same : x ≡ y = rw (bx, by) at e in same)
    (λ by. let hx = ltb-true x v bx in let hy = ltb-false y v by in let same : x ≡ y - 1 = rw (bx, by) at e in omega arith))
    (λ bx. cases (ltb y v)
    (λ by. let hx = ltb-false x v bx in let hy = ltb-true y v by in let same : x - 1 ≡ y = rw (bx, by) at e in omega arith)
    (λ by. let hx = ltb-false x v bx in let hy = ltb-false y v by in let same : x - 1 ≡ y - 1 = rw (bx, by) at e in omega arith))

pub repeats : (n : ℕ) (f : ℕ → ℕ) → ((k : ℕ) → k ≤ n → f k < n) → Repeat n f
repeats zero f below = absurd (not-suc-le-zero (below 0 (omega arith)))
repeats (suc n) f below = go (taken (f (suc n)) f (suc n)) (λ other. repeats n (λ k. closed_up (f (suc n)) (f k)) (λ k h.
    closed_up_less (f (suc n)) (f k) n (other k (omega arith)) (omega (arith, below (suc n) (omega arith))) (omega (arith, below k (omega arith)))))
  where
    go : ((i : ℕ) × (i < suc n) × (f i ≡ f (suc n))) ⊎ ((i : ℕ) → i < suc n → f i ≡ f (suc n) → ⊥)
        → (((i : ℕ) → i < suc n → f i ≡ f (suc n) → ⊥) → Repeat n (λ k. closed_up (f (suc n)) (f k))) → Repeat (suc n) f
    go (inl (i, h, e)) rest = record { i = i; j = suc n; later = h; within = omega arith; same = e }
    go (inr other) rest =
        let r = rest other in
        record {
          i = r.i;
          j = r.j;
          later = r.later;
          within = omega (arith, r.within);
          same = closed_up_same (f (suc n)) (f r.i) (f r.j) (other r.i (omega (arith, r.later, r.within))) (other r.j (omega (arith, r.within))) r.same;
        }
