-- Clauses 12.1 to 12.17 and 12.21 to 12.23: the number of each refusal, the place that it names, and what caused it; and how a series of
-- checks picks the first fault (clause 1.5).
use Rattle.std.specs.Prelude.{◌≡◌, Bool, ℕ, Option, Some, None, Result, Ok, Err}
use Rattle.lists.specs.Choices.{pick, in_range}
use Rattle.terms.specs.declared.refusals.InputRefusal.{InputRefusal}
use Rattle.terms.specs.declared.refusals.InputRefusal.TheVariants as input
use Rattle.terms.specs.declared.refusals.StateRefusal.{StateRefusal}
use Rattle.terms.specs.declared.refusals.StateRefusal.TheVariants as state
use Rattle.terms.specs.declared.refusals.Cause.{Cause}
use Rattle.terms.specs.declared.refusals.Cause.TheVariants as cause
use Rattle.terms.specs.declared.refusals.Origin.{Origin}
use Rattle.terms.specs.declared.refusals.Origin.TheVariants as origin
use Rattle.terms.specs.declared.refusals.Refusal.{Refusal}

-- the number of each refusal that the input causes (clauses 12.1 to 12.17)
abbrev pub input_number : InputRefusal → ℕ
input_number input.Denominator = 1
input_number input.Count = 2
input_number (input.Rate p) = 3
input_number (input.Burst p) = 4
input_number (input.Need p) = 5
input_number input.RateSum = 6
input_number (input.Finish p) = 7
input_number input.BytesEnd = 8
input_number input.NumberForm = 9
input_number input.BytesLeft = 10
input_number input.NoSuchPlace = 11
input_number input.FirstSlot = 12
input_number input.TooLong = 13
input_number input.BufferShort = 14
input_number input.NoOrder = 15
input_number (input.Circle p) = 16
input_number (input.NeedAboveBurst p) = 17

-- the place: 3, 4, 5, 7, 16 and 17 name one
abbrev pub input_place : InputRefusal → Option ℕ
input_place input.Denominator = None
input_place input.Count = None
input_place (input.Rate p) = Some p
input_place (input.Burst p) = Some p
input_place (input.Need p) = Some p
input_place input.RateSum = None
input_place (input.Finish p) = Some p
input_place input.BytesEnd = None
input_place input.NumberForm = None
input_place input.BytesLeft = None
input_place input.NoSuchPlace = None
input_place input.FirstSlot = None
input_place input.TooLong = None
input_place input.BufferShort = None
input_place input.NoOrder = None
input_place (input.Circle p) = Some p
input_place (input.NeedAboveBurst p) = Some p

-- the number of each refusal that the state causes (clauses 12.21 to 12.23)
abbrev pub state_number : StateRefusal → ℕ
state_number state.BacklogLimit = 21
state_number state.SlotLimit = 22
state_number state.Unsound = 23

-- number, place and cause of each case of the code's enum
abbrev pub refusal_of : Cause → Refusal
refusal_of (cause.Input i) = record { number = input_number i; place = input_place i; origin = origin.Input }
refusal_of (cause.State s) = record { number = state_number s; place = None; origin = origin.State }

-- the state is the cause of 21 to 29, among them numbers that are not given yet, and the input of every other
abbrev pub origin_of : ℕ → Origin
origin_of n = pick (in_range 21 29 n) origin.State origin.Input

-- so a cause is the state's exactly when its number is 21 to 29 (clause 1.5)
abbrev pub CauseByNumber : Type 0
CauseByNumber = (c : Cause) → (refusal_of c).origin ≡ origin_of (refusal_of c).number

-- the refusal with number n, and the one that names place p
abbrev pub refusal : ℕ → Refusal
refusal n = record { number = n; place = None; origin = origin_of n }

abbrev pub refusal_at : ℕ → ℕ → Refusal
refusal_at n p = record { number = n; place = Some p; origin = origin_of n }

-- what checks find: no fault, or the first one
pub data Verdict : Type 0 where
  faultless : Verdict
  fault : Refusal → Verdict

-- what the code's checks answer, in these values
abbrev pub verdict_of : {X : Type 0} → Result X Cause → Verdict
verdict_of (Ok x) = faultless
verdict_of (Err c) = fault (refusal_of c)

-- refused unless the test passes; if it passes, what the rest finds (clause 1.5)
unfoldable pub gate : Refusal → Bool → Verdict → Verdict
gate r test rest = pick test rest (fault r)

-- one series of checks, and after it another (clause 1.5)
unfoldable pub then : Verdict → Verdict → Verdict
then faultless rest = rest
then (fault r) rest = fault r

-- what a call comes to by the verdict on it
abbrev pub resolve : {X : Type 0} → Verdict → X → (Refusal → X) → X
resolve faultless carried_out turned_down = carried_out
resolve (fault r) carried_out turned_down = turned_down r
