-- What a slot's answer tells of its grant. Assumes nothing.
use Rattle.std.proofs.Common.{◌≡◌, refl, ℕ, Option, Some, None}
use Rattle.terms.specs.Answers.{Answer, accepted, granted, idle, refused, slot_answer}
use Rattle.rule.specs.Grants.{to_place, to_first}
use Rattle.guarantees.specs.Counts.{in_slot}

-- an accepted slot's answer is read by its grant
pub in_slot_answer {ℓ} : {X : Type ℓ} (x : X) (f : Option ℕ → X) (stamp : ℕ) (g : Option ℕ) → in_slot x f (slot_answer stamp g) ≡ f g
in_slot_answer x f stamp None = refl
in_slot_answer x f stamp (Some p) = refl

-- so are the counts
abbrev pub slot_in : Answer → ℕ
slot_in = in_slot 0 (λ g. 1)

abbrev pub grant_to : ℕ → Answer → ℕ
grant_to p = in_slot 0 (to_place p)

abbrev pub grant_to_first : ℕ → Answer → ℕ
grant_to_first k = in_slot 0 (to_first k)

pub slot_in_lem : (stamp : ℕ) (g : Option ℕ) → slot_in (slot_answer stamp g) ≡ 1
slot_in_lem = in_slot_answer {X = ℕ} 0 (λ g. 1)

pub grant_to_lem : (p stamp : ℕ) (g : Option ℕ) → grant_to p (slot_answer stamp g) ≡ to_place p g
grant_to_lem p = in_slot_answer {X = ℕ} 0 (to_place p)

pub grant_to_first_lem : (k stamp : ℕ) (g : Option ℕ) → grant_to_first k (slot_answer stamp g) ≡ to_first k g
grant_to_first_lem k = in_slot_answer {X = ℕ} 0 (to_first k)

-- what is asked of each accepted slot, said of one
pub slot_meets : (P : Type 0) (stamp : ℕ) (g : Option ℕ) → in_slot (Unit {0}) (λ g. P) (slot_answer stamp g) → P
slot_meets P stamp None h = h
slot_meets P stamp (Some p) h = h

-- and what holds anyway holds in each
pub in_any_slot : (P : Type 0) (a : Answer) → P → in_slot (Unit {0}) (λ g. P) a
in_any_slot P accepted h = tt
in_any_slot P (granted stamp p) h = h
in_any_slot P (idle stamp) h = h
in_any_slot P (refused r) h = tt
