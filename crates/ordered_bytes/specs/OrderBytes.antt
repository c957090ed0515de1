-- From the bytes of a table to those of the table in order (clause 8.3), and the checks (clause 13.6): up to 6 a reading's, in its order;
-- 15 stands where 7 would, and 14 is the last. A refusal writes no byte.
use Rattle.std.specs.Prelude.{List, ℕ, length}
use Rattle.terms.specs.Refusals.{Verdict, then, resolve}
use Rattle.terms.specs.Table.{Table, rate_sum_verdict}
use Rattle.terms.specs.Answers.{unless}
use Rattle.terms.specs.TableResult.{TableResult, refuse}
use Rattle.table_bytes.specs.Reading.{Read, read, stop, left_verdict, numbers_read}
use Rattle.table_bytes.specs.Writing.{refused, TableWritten, room_verdict, written_by}
use Rattle.ordering.specs.Order.{order_of, found}

-- 10, then 6 (clause 13.6)
unfoldable pub listed_verdict : Table → (rest : List ℕ) → Verdict
listed_verdict t rest = then (left_verdict rest) (rate_sum_verdict t)

-- clause 13.6: the table that was read, in order
unfoldable pub order_read : ℕ → Read Table → TableResult
order_read limit (read t rest) = resolve (listed_verdict t rest) (found limit t (order_of t)) (refuse limit)
order_read limit (stop why) = refuse limit why

-- its bytes, which 14 alone is tested of: admission passes (ordered_tables, Bytes, AsTheWriter)
abbrev pub written_in_order : TableResult → (old : List ℕ) → TableWritten
written_in_order o old = unless o.answer (λ why. record { answer = refused why; buffer = old }) (written_by (room_verdict o.table (length old)) o.table old)

-- clause 8.3; `limit` is how many places there is room for
unfoldable pub order_bytes : ℕ → (bytes old : List ℕ) → TableWritten
order_bytes limit bytes old = written_in_order (order_read limit (numbers_read limit bytes)) old
