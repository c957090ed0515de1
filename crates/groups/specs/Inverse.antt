-- Of clause 3.1: reading and writing a number are inverse, and every number has exactly one accepted form.
use Rattle.std.specs.Prelude.{◌≡◌, List, ◌++◌, ℕ, ◌≤◌, ◌<◌, length, get_or}
use Rattle.lists.specs.Overwriting.{written_over}
use Rattle.groups.specs.Groups.{Number, max_number, number_of, number_bytes}

-- each is a byte
abbrev pub Bytes : List ℕ → Type 0
Bytes bytes = (i : ℕ) → get_or bytes i 0 < 256

-- a number up to the largest is written in at most five bytes (clause 3.1)
abbrev pub FiveBytes : Type 0
FiveBytes = (x : ℕ) → x ≤ max_number → Bytes (number_bytes x) × (length (number_bytes x) ≤ 5)

-- what was written reads back, whatever bytes come after it (clause 3.1)
abbrev pub NumberReadsBack : Type 0
NumberReadsBack = (x : ℕ) (rest : List ℕ) → x ≤ max_number → number_of (number_bytes x ++ rest) ≡ Number x (length (number_bytes x))

-- bytes in which x is read begin with the bytes of x (clause 3.1): written over them, they are the same bytes
pub record Form (bytes : List ℕ) (x taken : ℕ) : Type 0 where
  pub fits : x ≤ max_number
  pub taken_all : taken ≡ length (number_bytes x)
  pub same : written_over (number_bytes x) bytes ≡ bytes

abbrev pub OneForm : Type 0
OneForm = (bytes : List ℕ) (x taken : ℕ) → Bytes bytes → number_of bytes ≡ Number x taken → Form bytes x taken
