-- Clause 5.7: the accepted slots of a list are stamped first, first + 1, first + 2, .. No two share a stamp; refused calls use none up.
use Rattle.std.specs.Prelude.{◌≡◌, List, [], ◌∷◌, ℕ, zero, suc, ◌+◌, ◌<◌, length, get_or}
use Rattle.terms.specs.Table.{Table}
use Rattle.terms.specs.Answers.{Answer, accepted, granted, idle, refused}
use Rattle.rule.specs.Calls.{Call}
use Rattle.guarantees.specs.Counts.{slots_in, Accepted, start_state, answers_from}

-- the stamps in the answers, in order (clause 5.7)
unfoldable pub stamps_in : List Answer → List ℕ
stamps_in [] = []
stamps_in (accepted ∷ answered) = stamps_in answered
stamps_in (granted stamp p ∷ answered) = stamp ∷ stamps_in answered
stamps_in (idle stamp ∷ answered) = stamp ∷ stamps_in answered
stamps_in (refused r ∷ answered) = stamps_in answered

-- n numbers from first on
unfoldable pub counted_from : ℕ → ℕ → List ℕ
counted_from first zero = []
counted_from first (suc n) = first ∷ counted_from (first + 1) n

-- clause 5.7
abbrev pub Stamps : Type 0
Stamps = (limit : ℕ) (t : Table) (first : ℕ) → Accepted limit t first → (calls : List Call)
    → stamps_in (answers_from limit (start_state limit t first) calls)
    ≡ counted_from first (slots_in (answers_from limit (start_state limit t first) calls))

-- so no two accepted slots share a stamp (clause 5.7)
abbrev pub DistinctStamps : Type 0
DistinctStamps = (limit : ℕ) (t : Table) (first : ℕ) → Accepted limit t first → (calls : List Call) (i j : ℕ)
    → i < j → j < length (stamps_in (answers_from limit (start_state limit t first) calls))
    → get_or (stamps_in (answers_from limit (start_state limit t first) calls)) i 0
    ≡ get_or (stamps_in (answers_from limit (start_state limit t first) calls)) j 0 → ⊥
