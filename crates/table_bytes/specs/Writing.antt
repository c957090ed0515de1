-- Clause 3.5: a table's bytes as they are written to the start of a lent buffer; what lies behind them stays. A refused writing writes no
-- byte.
use Rattle.std.specs.Prelude.{List, ◌∷◌, ℕ, leb, length, Result, Ok, Err}
use Rattle.lists.specs.Sums.{joined}
use Rattle.lists.specs.Overwriting.{written_over}
use Rattle.groups.specs.Groups.{number_bytes}
use Rattle.terms.specs.declared.refusals.Cause.{Cause}
use Rattle.terms.specs.declared.refusals.Refusal.{Refusal}
use Rattle.terms.specs.Table.{Table, row_numbers, requestors_of}
use Rattle.terms.specs.Refusals.{Verdict, faultless, refusal, refusal_of, gate, then, resolve}
use Rattle.terms.specs.Figures.{admission_verdict}

-- D, N, and the four numbers of each place (clause 3.3)
unfoldable pub table_numbers : Table → List ℕ
table_numbers t = t.denominator ∷ t.count ∷ joined row_numbers (requestors_of t)

-- a table's bytes
unfoldable pub table_bytes : Table → List ℕ
table_bytes t = joined number_bytes (table_numbers t)

-- clause 12.14, by the buffer's room
abbrev pub room_verdict : Table → (room : ℕ) → Verdict
room_verdict t room = gate (refusal 14) (leb (length (table_bytes t)) room) faultless

-- the checks of a table given as numbers, then 14 (clauses 12.14 and 13.4)
unfoldable pub write_verdict : ℕ → Table → (room : ℕ) → Verdict
write_verdict limit t room = then (admission_verdict limit t) (room_verdict t room)

-- what the call answers: how many bytes it wrote, or why it wrote none
pub data WriteAnswer : Type 0 where
  wrote : (bytes : ℕ) → WriteAnswer
  refused : Refusal → WriteAnswer

-- what the call comes to: its answer, and the lent buffer afterwards
pub record TableWritten : Type 0 where
  pub answer : WriteAnswer
  pub buffer : List ℕ

-- by the verdict on it
abbrev pub written_by : Verdict → Table → (old : List ℕ) → TableWritten
written_by v t old =
    resolve v
    (record { answer = wrote (length (table_bytes t)); buffer = written_over (table_bytes t) old })
    (λ r. record { answer = refused r; buffer = old })

-- a table's bytes into a buffer (clause 3.5); `limit` is how many places there is room for
unfoldable pub write_table : ℕ → Table → (old : List ℕ) → TableWritten
write_table limit t old = written_by (write_verdict limit t (length old)) t old

-- the code's answer in these values
abbrev pub write_answer_of : Result ℕ Cause → WriteAnswer
write_answer_of (Ok bytes) = wrote bytes
write_answer_of (Err c) = refused (refusal_of c)
