-- Clause 8.1: a table whose requestors are listed by someone who does not know their priorities. The last place, N−1, is given away first,
-- then the one above it, and so on up to place 0. It goes to the last requestor in the list that can do with every other one of the list
-- above it; that one leaves the list, which is otherwise as it was. The checks are those of clause 13.5, on the table as it is listed.
use Rattle.std.specs.Prelude.{Bool, List, [], ◌∷◌, ℕ, zero, suc, ◌-◌, leb, Option, Some, None, option_and_then}
use Rattle.lists.specs.Choices.{pick}
use Rattle.lists.specs.Sums.{total}
use Rattle.lists.specs.Orders.{without}
use Rattle.terms.specs.declared.place.Requestor.{Requestor}
use Rattle.terms.specs.Table.{Table, rate, burst, requestor_at, requestors_of, table_of, offered_verdict}
use Rattle.terms.specs.Figures.{finish_of}
use Rattle.terms.specs.Refusals.{refusal, resolve}
use Rattle.terms.specs.TableResult.{TableResult, accept, refuse}
use Rattle.terms.specs.declared.answers.Outcome.{Outcome}
use Rattle.terms.specs.Answers.{answer_of}
use Rattle.arbiter.specs.ByValue.{given}
use Rattle.arbiter.specs.declared.table.Table as code

-- clause 8.1: r can do with these requestors above it: its finish figure for its j transfers is then within its L slots
unfoldable pub need_holds : ℕ → (above : List Requestor) → Requestor → Bool
need_holds d above r = leb (finish_of d (total burst above) (d - total rate above) r.rate r.need.0) r.within.0

-- clause 8.1: the index of the last among the first i of the list that can do with all the list but itself above it
unfoldable pub last_holding : ℕ → (remaining : List Requestor) → (i : ℕ) → Option ℕ
last_holding d remaining zero = None
last_holding d remaining (suc i) = pick (need_holds d (without i remaining) (requestor_at i remaining)) (Some i) (last_holding d remaining i)

-- k places are left, and as many requestors remain in the list; `filled` are the places behind them, from place k on
unfoldable pub filled_up : ℕ → (k : ℕ) → (remaining filled : List Requestor) → Option (List Requestor)
filled_up d zero remaining filled = Some filled
filled_up d (suc k) remaining filled = option_and_then (λ i. filled_up d k (without i remaining) (requestor_at i remaining ∷ filled)) (last_holding d remaining (suc k))

-- the requestors of a table from place 0 on, once all places are given away
abbrev pub order_of : Table → Option (List Requestor)
order_of t = filled_up t.denominator t.count (requestors_of t) []

-- the table with them, or 15 (clause 12.15)
abbrev pub found : ℕ → Table → Option (List Requestor) → TableResult
found limit t None = refuse limit (refusal 15)
found limit t (Some rows) = accept (table_of limit t.denominator t.count rows)

-- a table put in order (clauses 8.1 and 13.5); `limit` is how many places there is room for
unfoldable pub order : ℕ → Table → TableResult
order limit t = resolve (offered_verdict limit t) (found limit t (order_of t)) (refuse limit)

-- the code's result in these values
abbrev pub order_result_of : Outcome code.Table Unit → TableResult
order_result_of o = record { table = given o.after; answer = answer_of o.answer }
