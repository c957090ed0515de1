-- What one grant counts for a place and for the first k places. Assumes nothing.
use Rattle.std.proofs.Common.{◌≡◌, refl, ℕ, suc, ltb, Option, Some, None}
use lib.Dec.{leb-suc-zero, leb-suc-suc, eqb-suc-zero, eqb-suc-suc}
use Rattle.lists.proofs.Tests.{cases}
use Rattle.rule.specs.Rule.{later}
use Rattle.rule.specs.Grants.{to_place, to_first}

pub to_first_zero : (g : Option ℕ) → to_first 0 g ≡ 0
unfolding to_first
to_first_zero None = refl
to_first_zero (Some i) = rw (leb-suc-zero i)

pub to_first_later : (k : ℕ) (g : Option ℕ) → to_first (suc k) (later g) ≡ to_first k g
unfolding to_first later
to_first_later k None = refl
to_first_later k (Some i) = rw (leb-suc-suc (suc i) k)

pub to_first_one : (k : ℕ) (g : Option ℕ) → (to_first k g ≡ 0 → ⊥) → to_first k g ≡ 1
unfolding to_first
to_first_one k None h = absurd (h refl)
to_first_one k (Some i) h = cases (ltb i k) (λ e. rw e) (λ e. absurd (h (rw e)))

pub to_place_later_zero : (g : Option ℕ) → to_place 0 (later g) ≡ 0
unfolding to_place later
to_place_later_zero None = refl
to_place_later_zero (Some i) = rw (eqb-suc-zero i)

pub to_place_later : (p : ℕ) (g : Option ℕ) → to_place (suc p) (later g) ≡ to_place p g
unfolding to_place later
to_place_later p None = refl
to_place_later p (Some i) = rw (eqb-suc-suc i p)
