-- Proves SharperFloor, by one invariant along the stretch. Assumes nothing.
use Rattle.std.proofs.Common.{◌≡◌, refl, ◌∙◌, List, inl, inr, ℕ, ◌+◌, ◌*◌, ◌≤◌, ◌<◌, zero-add, add-zero, mul-le-mul_left, mul-le-mul_right, arith, length, take}
use Rattle.lists.specs.Sums.{total}
use Rattle.lists.specs.Runs.{answers}
use Rattle.lists.proofs.Runs.{along}
use Rattle.terms.specs.Table.{Table, requestors_of, requestor_at}
use Rattle.terms.specs.declared.place.Account.{Account}
use Rattle.terms.specs.State.{State, credit, backlog, account_at}
use Rattle.terms.specs.Figures.{bursts_above, rates_above, rate_left}
use Rattle.terms.proofs.Sound.{Sound, rates_most, sound_fair, sound_open}
use Rattle.rule.specs.Rule.{first_eligible}
use Rattle.rule.specs.Calls.{Call, grant_of, advanced, ruled}
use Rattle.rule.proofs.Head.{slotted}
use Rattle.rule.specs.Grants.{to_place}
use Rattle.guarantees.specs.Counts.{slots_in, grants_to, Waits, WaitsAt}
use Rattle.guarantees.specs.SharperFloor.{Sharp, Sharper, SharperFloor}
use Rattle.guarantees.proofs.Grants.{slot_in, grant_to, slot_in_lem, grant_to_lem, slot_meets}
use Rattle.rule.proofs.Credits.{Roomy, slotted_rise, slotted_within}
use Rattle.guarantees.proofs.Turns.{Turn, above, own, short, turn}
use Rattle.guarantees.proofs.Step.{by_kind, table_stands, posted_credits, posted_credit}
use Rattle.rule.proofs.Kept.{places_count, sound_roomy, sound_credits}
use Rattle.guarantees.proofs.Sound.{sound_next, answers_ruled}
use Rattle.guarantees.proofs.CreditSums.{rate_left_lem}

-- The invariant, over numbers: D, the place's n, R, B and its credit on entry.
module _ (d n R B c₀ : ℕ) where
  -- After t slots and g grants the credits above sum to C. The place was never short of credit; or it last was after t₁ slots and
  -- g₁ grants, and t₂ and g₂ came since.
  data Course (t g C : ℕ) : Type 0 where
    never : R * t + C ≤ B + d * g → Course t g C
    since : (t₁ g₁ t₂ g₂ : ℕ) → t ≡ t₁ + t₂ → g ≡ g₁ + g₂ → c₀ + n * t₁ < d * g₁ + d → R * t₂ + C ≤ B + d * g₂ → Course t g C

  -- and its own credit is c
  record Held (t g C c : ℕ) : Type 0 where
    exact : c + d * g ≡ c₀ + n * t
    course : Course t g C

  course_above : (t g C C' : ℕ) → C' + R ≤ C → Course t g C → Course (1 + t) g C'
  course_above t g C C' falls (never a) = never (omega arith)
  course_above t g C C' falls (since t₁ g₁ t₂ g₂ x y a b) = since t₁ g₁ (1 + t₂) g₂ (omega arith) y a (omega arith)

  course_own : (t g C C' : ℕ) → C' + R ≤ C + d → Course t g C → Course (1 + t) (1 + g) C'
  course_own t g C C' rises (never a) = never (omega arith)
  course_own t g C C' rises (since t₁ g₁ t₂ g₂ x y a b) = since t₁ g₁ (1 + t₂) (1 + g₂) (omega arith) (omega arith) a (omega arith)

  held_above : (t g C C' c c' : ℕ) → C' + R ≤ C → c' ≡ c + n → Held t g C c → Held (1 + t) g C' c'
  held_above t g C C' c c' falls e v = record { exact = omega (arith, v.exact); course = course_above t g C C' falls v.course }

  held_own : (t g C C' c c' : ℕ) → C' + R ≤ C + d → c' + d ≡ c + n → Held t g C c → Held (1 + t) (1 + g) C' c'
  held_own t g C C' c c' rises e v = record { exact = omega (arith, v.exact); course = course_own t g C C' rises v.course }

  held_short : (t g C C' c c' : ℕ) → C' ≤ B → c + n < d → c' ≡ c + n → Held t g C c → Held (1 + t) g C' c'
  held_short t g C C' c c' within lacks e v = record {
    exact = omega (arith, v.exact);
    course = since (1 + t) g 0 0 (omega arith) (omega arith) (omega (arith, v.exact)) (omega arith);
  }

  held_sharp : (t g C c : ℕ) → n ≤ R → Held t g C c → Sharp d n R B c₀ t g
  held_sharp t g C c rated v = go v.course
    where
      go : Course t g C → Sharp d n R B c₀ t g
      go (never a) = inl (omega arith)
      go (since t₁ g₁ t₂ g₂ x y a b) = inr (rw (x, y) (omega (arith, mul-le-mul_left R a, mul-le-mul_left n b, mul-le-mul_right (d * g₂) rated)))

-- the invariant of the accounts, with table T's figures for place p
abbrev At : Table → (p c₀ t g : ℕ) → List Account → Type 0
At T p c₀ t g accounts = Held T.denominator (requestor_at p (requestors_of T)).rate (rate_left T.denominator p (requestors_of T)) (bursts_above p (requestors_of T)) c₀
    t g (total credit (take p accounts)) (credit (account_at p accounts))

-- T stands, the state is sound, and the invariant holds of t slots and g grants
abbrev Kept : ℕ → Table → (p c₀ t g : ℕ) → State → Type 0
Kept limit T p c₀ t g s = (s.table ≡ T) × Sound limit s × At T p c₀ t g s.accounts

module _ (T : Table) (p c₀ t g : ℕ) (place : p < T.count) where
  at_slot : (accounts : List Account) → length (requestors_of T) ≡ T.count → rates_above p (requestors_of T) ≤ T.denominator
      → Roomy T.denominator (requestors_of T) accounts → 0 < backlog (account_at p accounts) → At T p c₀ t g accounts
      → At T p c₀ (1 + t) (to_place p (first_eligible T.denominator (requestors_of T) accounts) + g) (slotted T.denominator (requestors_of T) accounts)
  at_slot accounts count rated roomy waits v = go (turn T.denominator p (requestors_of T) accounts (omega arith) waits)
    where
      go : Turn T.denominator p (requestors_of T) accounts
          → At T p c₀ (1 + t) (to_place p (first_eligible T.denominator (requestors_of T) accounts) + g) (slotted T.denominator (requestors_of T) accounts)
      go (above a x c) = rw (x, zero-add g)
          (held_above _ _ _ _ c₀ t g _ _ _ _ (omega (arith, rw a at (slotted_rise T.denominator p (requestors_of T) accounts))) c v)
      go (own a x c) = rw x
          (held_own _ _ _ _ c₀ t g _ _ _ _ (omega (arith, rw a at (slotted_rise T.denominator p (requestors_of T) accounts))) c v)
      go (short a x l c) = rw (x, zero-add g)
          (held_short _ _ _ _ c₀ t g _ _ _ _ (slotted_within T.denominator p (requestors_of T) accounts (omega arith) roomy a) l c v)

kept_next : (limit : ℕ) (T : Table) (p c₀ : ℕ) → p < T.count → (t g : ℕ) (s : State) (c : Call) → WaitsAt p s (ruled s c).answer
    → Kept limit T p c₀ t g s → Kept limit T p c₀ (slot_in (ruled s c).answer + t) (grant_to p (ruled s c).answer + g) (ruled s c).state
unfolding advanced grant_of slotted
kept_next limit T p c₀ place t g s c waits (on, v, held) = (
  table_stands s c ∙ on,
  sound_next limit s c v,
  by_kind (λ c u a. WaitsAt p s a → At T p c₀ (slot_in a + t) (grant_to p a + g) u.accounts) s c
      (λ r e w. rw (zero-add t, zero-add g) held)
      (λ q count e w. rw (zero-add t, zero-add g, posted_credits s p q count, posted_credit s p q count) held)
      (λ e w. rw (slot_in_lem s.slot.0 (grant_of s), grant_to_lem p s.slot.0 (grant_of s), on)
      (at_slot T p c₀ t g place s.accounts (rw on at (places_count limit s v)) (rw on at (rates_most limit s.table (sound_fair limit s v) p))
      (rw on at (sound_roomy limit s v)) (slot_meets _ s.slot.0 (grant_of s) w) held))
      waits,
)

-- T is the table that stands where the stretch begins
module _ (limit : ℕ) (T : Table) (s : State) (on : s.table ≡ T) (v : Sound limit s) (p : ℕ) (place : p < T.count) where
  pub own_rate_left : ((requestor_at p (requestors_of T)).rate ≤ rate_left T.denominator p (requestors_of T)) × (1 ≤ rate_left T.denominator p (requestors_of T))
  own_rate_left = rate_left_lem limit T (rw on at v.rows) (rw on at v.passes) p place

  pub sharper_from : (inside : List Call) → Waits p s inside
      → Sharper T.denominator (requestors_of T) p (credit (account_at p s.accounts)) (slots_in (answers ruled s inside)) (grants_to p (answers ruled s inside))
  sharper_from inside waits =
      let c₀ : ℕ = credit (account_at p s.accounts) in
      let enters : total credit (take p s.accounts) ≤ bursts_above p (requestors_of T) = rw on at (sound_credits limit s v p) (omega arith) in
      rw (add-zero (slots_in (answers ruled s inside)), add-zero (grants_to p (answers ruled s inside))) at
      (held_sharp _ _ _ _ c₀ _ _ _ _ own_rate_left.0
      (along ruled (WaitsAt p) slot_in (grant_to p) (Kept limit T p c₀) (kept_next limit T p c₀ place) 0 0 s inside waits
      (on, v, record { exact = omega arith; course = never (omega arith) })).2)

pub sharper_floor : SharperFloor
sharper_floor limit s shape e inside p place waits =
    let v = sound_open limit s shape e in
    rw (answers_ruled limit s inside v) (sharper_from limit s.table s refl v p (omega arith) inside waits)
