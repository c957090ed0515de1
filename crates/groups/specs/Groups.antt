-- Clause 3.1: a number of at most 32 bits as one to five bytes, each with seven bits of it and a top bit, worth 128. A byte is a number
-- below 256. Which bytes are no number is told as in clause 3.2.
use Rattle.std.specs.Prelude.{List, [], ◌∷◌, ℕ, zero, suc, ◌+◌, ◌-◌, ◌*◌, ◌/◌, ◌%◌, ltb, leb, eqb, length, drop, Result, Ok, Err}
use Rattle.std.specs.Borrow.{Bor}
use Rattle.lists.specs.Choices.{pick}
use Rattle.lists.specs.Overwriting.{written_over}
use Rattle.terms.specs.declared.refusals.InputRefusal.{InputRefusal}
use Rattle.terms.specs.declared.refusals.InputRefusal.TheVariants as input

-- what stands at the start of some bytes: a number and how many bytes it takes, bytes that end too soon, or no number
pub data Reading : Type 0 where
  Number : (value taken : ℕ) → Reading
  Ended : Reading
  Malformed : Reading

abbrev pub max_number : ℕ
max_number = 4294967295

-- how many groups may follow the first: five bytes in all
abbrev pub max_later : ℕ
max_later = 4

-- the last of several groups is not 0
unfoldable pub last_group : ℕ → Reading
last_group x = pick (eqb x 0) Malformed (Number x 1)

-- a byte with its top bit set, and above it the number that the groups after it make
unfoldable pub combined : ℕ → Reading → Reading
combined x (Number high taken) = pick (leb (x - 128 + 128 * high) max_number) (Number (x - 128 + 128 * high) (suc taken)) Malformed
combined x Ended = Ended
combined x Malformed = Malformed

-- what stands after a byte with its top bit set, where at most `left` groups may follow it
unfoldable pub later_groups : (left : ℕ) → List ℕ → Reading
later_groups zero bytes = Malformed
later_groups (suc left) [] = Ended
later_groups (suc left) (x ∷ bytes) = pick (ltb x 128) (last_group x) (combined x (later_groups left bytes))

-- what stands at the start of the bytes (clause 3.1): a number, with how many bytes it takes; or bytes that end too soon; or no number
unfoldable pub number_of : List ℕ → Reading
number_of [] = Ended
number_of (x ∷ bytes) = pick (ltb x 128) (Number x 1) (combined x (later_groups max_later bytes))

-- a reading as the code answers it: the number and the rest of the bytes, or 8 or 9 (clauses 3.2, 12.8 and 12.9)
abbrev pub number_answer : List ℕ → Reading → Result (ℕ × List ℕ) InputRefusal
number_answer bytes (Number x taken) = Ok (x, drop taken bytes)
number_answer bytes Ended = Err input.BytesEnd
number_answer bytes Malformed = Err input.NumberForm

-- the code's answer in these values: the rest as it stands in the bytes
abbrev pub handed_on : {X E : Type 0} → Result (X × Bor (List ℕ)) E → Result (X × List ℕ) E
handed_on (Ok r) = Ok (r.0, r.1.now)
handed_on (Err e) = Err e

-- x in a group and at most `left` more
unfoldable pub groups_of : (left : ℕ) → ℕ → List ℕ
groups_of zero x = x ∷ []
groups_of (suc left) x = pick (ltb x 128) (x ∷ []) ((x % 128 + 128) ∷ groups_of left (x / 128))

-- the bytes of a number up to the largest (clause 3.1)
unfoldable pub number_bytes : ℕ → List ℕ
number_bytes x = groups_of max_later x

-- what a writing comes to: how many bytes were written, and the lent buffer afterwards
pub record Filled : Type 0 where
  pub wrote : ℕ
  pub buffer : List ℕ

-- clause 3.5: a number's bytes from the buffer's start on; where they do not fit, none
unfoldable pub number_written : ℕ → List ℕ → Filled
number_written x old =
    pick (leb (length (number_bytes x)) (length old))
    (record { wrote = length (number_bytes x); buffer = written_over (number_bytes x) old })
    (record { wrote = 0; buffer = old })
