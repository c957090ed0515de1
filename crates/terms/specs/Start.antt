-- Clause 4.1: a start makes a state of a table and the number of its first slot: every place has its burst for credit, and nothing waits.
-- With its checks, and the state that a refused start hands back.
use Rattle.std.specs.Prelude.{map, ℕ, leb, replicate}
use Rattle.lists.specs.Runs.{Result}
use Rattle.terms.specs.declared.refusals.Refusal.{Refusal}
use Rattle.terms.specs.declared.place.Requestor.{Requestor}
use Rattle.terms.specs.Table.{Table, no_table}
use Rattle.terms.specs.declared.place.Account.{Account}
use Rattle.terms.specs.State.{State, no_account}
use Rattle.terms.specs.Limits.{max_slot}
use Rattle.terms.specs.Refusals.{Verdict, faultless, refusal, gate, then, resolve}
use Rattle.terms.specs.Answers.{Answer, accepted, refused}
use Rattle.terms.specs.Figures.{admission_verdict}

-- credit b, backlog 0
abbrev pub fresh : Requestor → Account
fresh r = record { credit = r.burst; backlog = record { 0 = 0 } }

-- the state of an accepted start (clause 4.1)
unfoldable pub opening : Table → ℕ → State
opening t first = record { table = t; slot = record { 0 = first }; accounts = map fresh t.requestors }

-- the state whose every field is 0 (clause 1.6)
unfoldable pub no_state : ℕ → State
no_state limit = record { table = no_table limit; slot = record { 0 = 0 }; accounts = replicate limit no_account }

-- a refused start leaves it
abbrev pub turned_down : ℕ → Refusal → Result State Answer
turned_down limit r = record { state = no_state limit; answer = refused r }

-- the checks of a table given as numbers, then 12 (clauses 12.12 and 13.3)
unfoldable pub start_verdict : ℕ → Table → ℕ → Verdict
start_verdict limit t first = then (admission_verdict limit t) (gate (refusal 12) (leb first max_slot) faultless)

-- clause 4.1; `limit` is how many places there is room for: by value the largest N
unfoldable pub start : ℕ → Table → ℕ → Result State Answer
start limit t first =
    resolve (start_verdict limit t first)
    (record { state = opening t first; answer = accepted })
    (turned_down limit)
