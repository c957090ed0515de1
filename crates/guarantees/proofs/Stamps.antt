-- The accepted slots of a list of calls are stamped with the state's slot number and the numbers after it, so no two alike.
-- Assumes nothing.
use Rattle.std.proofs.Common.{◌≡◌, refl, ap, List, [], ◌∷◌, ℕ, zero, suc, ◌+◌, ◌<◌, not-suc-le-zero, zero-add, add-zero, one-add, arith, length, get_or, Option, Some, None}
use Rattle.lists.specs.Sums.{total}
use Rattle.lists.specs.Runs
use Rattle.terms.specs.State.{State}
use Rattle.terms.specs.Answers.{Answer, slot_answer}
use Rattle.terms.specs.Start.{opening}
use Rattle.rule.specs.Calls.{Call, grant_of, advanced, with_post, ruled}
use Rattle.guarantees.specs.Counts.{slots_in}
use Rattle.guarantees.specs.Stamps.{Stamps, DistinctStamps, stamps_in, counted_from}
use Rattle.guarantees.proofs.Step.{by_kind}
use Rattle.guarantees.proofs.Start.{answered_ruled}

-- the stamps in the answers are the numbers from n on
abbrev pub StampedFrom : ℕ → List Answer → Type 0
StampedFrom n answered = stamps_in answered ≡ counted_from n (slots_in answered)

-- ---- along a list of calls

-- an accepted slot in front takes the number before
slot_in_front : (n : ℕ) (g : Option ℕ) (answered : List Answer) → StampedFrom (n + 1) answered → StampedFrom n (slot_answer n g ∷ answered)
unfolding stamps_in counted_from total
slot_in_front n None answered h = rw one-add (ap (λ l. n ∷ l) h)
slot_in_front n (Some p) answered h = rw one-add (ap (λ l. n ∷ l) h)

-- any other call in front takes none
call_in_front : (s : State) (c : Call) (answered : List Answer)
    → StampedFrom (ruled s c).state.slot.0 answered → StampedFrom s.slot.0 ((ruled s c).answer ∷ answered)
unfolding stamps_in total with_post advanced
call_in_front s c = by_kind
    (λ c u a. (answered : List Answer) → StampedFrom u.slot.0 answered → StampedFrom s.slot.0 (a ∷ answered)) s c
    (λ r v answered h. rw zero-add h)
    (λ p count v answered h. rw zero-add h)
    (λ v. slot_in_front s.slot.0 (grant_of s))

pub stamps_ruled : (s : State) (calls : List Call) → StampedFrom s.slot.0 (Runs.answers ruled s calls)
unfolding Runs.answers stamps_in counted_from total
stamps_ruled s [] = refl
stamps_ruled s (c ∷ cs) = call_in_front s c (Runs.answers ruled (ruled s c).state cs) (stamps_ruled (ruled s c).state cs)

-- from an accepted start
pub stamps : Stamps
unfolding opening
stamps limit t first ok calls = rw (answered_ruled limit t first ok calls) (stamps_ruled (opening t first) calls)

-- ---- numbers counted from a first one

length_counted_from : (first n : ℕ) → length (counted_from first n) ≡ n
unfolding counted_from
length_counted_from first zero = refl
length_counted_from first (suc n) = ap suc (length_counted_from (first + 1) n)

counted_from_at : (first n i : ℕ) → i < n → get_or (counted_from first n) i 0 ≡ first + i
unfolding counted_from
counted_from_at first zero i h = absurd (not-suc-le-zero h)
counted_from_at first (suc n) zero h = rw add-zero
counted_from_at first (suc n) (suc i) h = rw (counted_from_at (first + 1) n i (omega arith)) (omega arith)

counted_from_distinct : (first n i j : ℕ) → i < j → j < n → get_or (counted_from first n) i 0 ≡ get_or (counted_from first n) j 0 → ⊥
counted_from_distinct first n i j l h e = omega (arith, counted_from_at first n i (omega arith), counted_from_at first n j h)

-- of a list that is such numbers
distinct : (first n : ℕ) (numbers : List ℕ) → numbers ≡ counted_from first n
    → (i j : ℕ) → i < j → j < length numbers → get_or numbers i 0 ≡ get_or numbers j 0 → ⊥
distinct first n numbers counted i j l h e =
    counted_from_distinct first n i j l (rw (counted, length_counted_from) at h) (rw counted at e)

pub distinct_stamps : DistinctStamps
distinct_stamps limit t first ok calls = distinct first _ _ (stamps limit t first ok calls)
