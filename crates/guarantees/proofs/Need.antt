-- Proves Need: j transfers that wait together at a place are granted to it within its finish figure for j, whatever its credit, and so
-- within the L of an accepted table's own need. Assumes nothing.
use Rattle.std.proofs.Common.{◌≡◌, refl, ap, List, [], ◌∷◌, ◌⊎◌, inl, inr, ℕ, zero, suc, ◌+◌, ◌-◌, ◌*◌, ◌≤◌, ◌<◌, mul-le-mul, mul-le-mul_left, arith, length}
use native.Mathlib.Decide.{dec_le}
use Rattle.lists.specs.Sums.{total}
use Rattle.lists.specs.Runs.{answers}
use Rattle.terms.specs.Table.{Table, requestors_of, requestor_at}
use Rattle.terms.specs.State.{State, credit, backlog, account_at}
use Rattle.terms.specs.Answers.{Answer, accepted, granted, idle, refused}
use Rattle.terms.specs.Figures.{bursts_above, rate_left, finish_of, finish}
use Rattle.terms.proofs.Checks.{fair}
use Rattle.terms.proofs.Figures.{finish_covers}
use Rattle.terms.proofs.Sound.{Sound, places_length, row_at, sound_fair, start_admitted, sound_open}
use Rattle.rule.specs.Calls.{Call, ruled}
use Rattle.guarantees.specs.Counts.{in_slot, slots_in, grants_to, first_slots, Waits, answers_from}
use Rattle.guarantees.specs.SharperFloor.{Sharp}
use Rattle.guarantees.specs.Need.{Pending, GrantedWithin, NeedFromSound, NeedFromStart, OwnNeed}
use Rattle.guarantees.proofs.Grants.{grant_to, in_any_slot}
use Rattle.guarantees.proofs.Sound.{sound_next, answers_ruled}
use Rattle.guarantees.proofs.Start.{start_passes, called_sound, called_table}
use Rattle.guarantees.proofs.SharperFloor.{own_rate_left, sharper_from}
use Rattle.guarantees.proofs.Conservation.{conserved_next}

-- the calls up to the m-th accepted slot
first_calls : State → List Call → ℕ → List Call
first_calls s [] m = []
first_calls s (c ∷ calls) zero = []
first_calls s (c ∷ calls) (suc m) = c ∷ first_calls (ruled s c).state calls (in_slot (suc m) (λ g. m) (ruled s c).answer)

first_calls_answer : (s : State) (calls : List Call) (m : ℕ) → answers ruled s (first_calls s calls m) ≡ first_slots (answers ruled s calls) m
unfolding first_calls answers first_slots
first_calls_answer s [] m = refl
first_calls_answer s (c ∷ calls) zero = refl
first_calls_answer s (c ∷ calls) (suc m) = ap (λ answered. (ruled s c).answer ∷ answered) (first_calls_answer (ruled s c).state calls _)

first_slots_count : (answered : List Answer) (m : ℕ) → m ≤ slots_in answered → slots_in (first_slots answered m) ≡ m
unfolding first_slots total
first_slots_count [] m h = omega arith
first_slots_count (a ∷ answered) zero h = refl
first_slots_count (accepted ∷ answered) (suc m) h = omega (arith, first_slots_count answered (suc m) (omega arith))
first_slots_count (granted stamp p ∷ answered) (suc m) h = omega (arith, first_slots_count answered m (omega arith))
first_slots_count (idle stamp ∷ answered) (suc m) h = omega (arith, first_slots_count answered m (omega arith))
first_slots_count (refused r ∷ answered) (suc m) h = omega (arith, first_slots_count answered (suc m) (omega arith))

-- j transfers wait: either all are granted, or the place waits throughout
waits_or_granted : (limit p j : ℕ) (s : State) (calls : List Call) → Sound limit s → j ≤ backlog (account_at p s.accounts)
    → (j ≤ grants_to p (answers ruled s calls)) ⊎ Waits p s calls
unfolding answers total
waits_or_granted limit p j s [] v h = inr tt
waits_or_granted limit p zero s (c ∷ calls) v h = inl (omega arith)
waits_or_granted limit p (suc j) s (c ∷ calls) v h =
    both (waits_or_granted limit p (suc j - grant_to p (ruled s c).answer) (ruled s c).state calls (sound_next limit s c v)
    (omega (arith, conserved_next limit p s c v)))
  where
    both : (suc j - grant_to p (ruled s c).answer ≤ grants_to p (answers ruled (ruled s c).state calls)) ⊎ Waits p (ruled s c).state calls
        → (suc j ≤ grant_to p (ruled s c).answer + grants_to p (answers ruled (ruled s c).state calls)) ⊎ Waits p s (c ∷ calls)
    both (inl x) = inl (omega arith)
    both (inr w) = inr (in_any_slot (0 < backlog (account_at p s.accounts)) (ruled s c).answer (omega arith), w)

-- in as many slots as the finish figure says, either bound of the sharper floor comes to j grants
sharp_enough : (d n R B c L g j : ℕ) → 1 ≤ d → 1 ≤ n → n ≤ R → Sharp d n R B c L g → finish_of d B R n j ≤ L → j ≤ g
sharp_enough d n R B c L g j hd hn rated sharp figure = elim (dec_le j g) [
  | yes all ↦ all
  | no fewer ↦ let lacks : g + 1 ≤ j = omega arith in absurd (refute lacks sharp)
]
  where
    -- the exact sum, times R × n
    enough : B * n + j * d * R ≤ R * n * L
    enough = omega (arith, finish_covers d B R n j (omega arith) hn, mul-le-mul_left (R * n) figure)

    refute : g + 1 ≤ j → Sharp d n R B c L g → ⊥
    refute lacks (inl busy) = omega (
      arith,
      enough,
      mul-le-mul_left n busy,
      mul-le-mul_left (d * g) rated,
      mul-le-mul_left R (mul-le-mul_left d lacks),
      mul-le-mul rated hd,
    )
    refute lacks (inr short) = omega (
      arith,
      enough,
      mul-le-mul_left R (mul-le-mul_left d lacks),
    )

-- T is the table that stands where the stretch begins; any number of slots from the finish figure on will do
pub need_from : (limit : ℕ) (T : Table) (s : State) → s.table ≡ T → Sound limit s → (inside : List Call) (p j slots : ℕ)
    → Pending s p j → finish T.denominator (requestors_of T) p j ≤ slots → GrantedWithin slots (answers_from limit s inside) p j
unfolding finish
need_from limit T s on v inside p j slots pending figure reached =
    rw (answers_ruled limit s inside v, ← first_calls_answer s inside slots) (omega (arith, go (waits_or_granted limit p j s calls v (omega arith))))
  where
    calls : List Call
    calls = first_calls s inside slots

    place : p < T.count
    place = omega (arith, ap (λ t. t.count) on)

    counted : slots_in (answers ruled s calls) ≡ slots
    counted = rw (first_calls_answer s inside slots)
        (first_slots_count (answers ruled s inside) slots (omega (arith, rw (answers_ruled limit s inside v) at reached)))

    go : (j ≤ grants_to p (answers ruled s calls)) ⊎ Waits p s calls → j ≤ grants_to p (answers ruled s calls)
    go (inl all) = all
    go (inr waits) = sharp_enough T.denominator (requestor_at p (requestors_of T)).rate (rate_left T.denominator p (requestors_of T)) (bursts_above p (requestors_of T))
        (credit (account_at p s.accounts)) _ _ j
        (rw on at (sound_fair limit s v).denominator_least)
        (row_at limit T (rw on at v.rows) (rw on at (sound_fair limit s v)) p place).rate_least
        (own_rate_left limit T s on v p place).0
        (sharper_from limit T s on v p place calls waits)
        (rw counted figure)

pub need_from_sound : NeedFromSound
need_from_sound limit s shape e inside p j pending =
    need_from limit s.table s refl (sound_open limit s shape e) inside p j _ pending (omega arith)

pub need_from_start : NeedFromStart
need_from_start limit t first a before inside p j pending =
    need_from limit t _ (called_table limit t first a before) (called_sound limit t first a before) inside p j _ pending (omega arith)

-- check 7 held the table's own L to the figure
pub own_need : OwnNeed
own_need limit t first a before inside p pending =
    let table = start_admitted limit t first (start_passes limit t first a) in
    let on = called_table limit t first a before in
    let place : p < length (requestors_of t) = omega (arith, ap (λ t. t.count) on, places_length limit t a.rows (fair limit t table.passes)) in
    need_from limit t _ on (called_sound limit t first a before) inside p _ _ pending (omega (arith, table.need p place))
