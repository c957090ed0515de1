-- A refusal of any call has a number of section 12, the cause that goes with it, and a place exactly where it is 3, 4, 5, 7, 16 or 17: one
-- that there is room for. So an outcome (clause 15.4) tells the refusal; 0 is no refusal, and 255 is none of theirs. What looks at a table
-- that is handed in, what serves a state, an ordering and a chain figure have numbers of their own.
use Rattle.std.specs.Prelude.{◌≡◌, Bool, true, false, eqb, List, ℕ, ◌<◌, Option, Some, None}
use Rattle.lists.specs.Choices.{pick, in_range}
use Rattle.terms.specs.declared.refusals.Refusal.{Refusal}
use Rattle.terms.specs.State.{State}
use Rattle.terms.specs.Table.{Table}
use Rattle.terms.specs.Refusals.{origin_of, refusal}
use Rattle.terms.specs.Answers.{refused}
use Rattle.terms.specs.Start.{start}
use Rattle.carrying.specs.Carry.{OldState, carry}
use Rattle.terms.specs.Queries as queries
use Rattle.terms.specs.Chain as chains
use Rattle.lead_parts.specs.Lead as leads
use Rattle.table_bytes.specs.Reading.{read_table}
use Rattle.table_bytes.specs.Writing as writing
use Rattle.rule.specs.Calls.{Call, called}
use Rattle.rule.specs.Log.{run}
use Rattle.starts.specs.Starts.{begun}
use Rattle.ordered_bytes.specs.OrderBytes.{order_bytes}
use Rattle.queries.specs.Look as look
use Rattle.outcomes.specs.Outcomes.{refusal_code, wrong_length}

abbrev pub Below : ℕ → Option ℕ → Type 0
Below limit None = Unit {0}
Below limit (Some p) = p < limit

-- the numbers of a start's refusals and of a table's writer: 1 to 10, 12, 14 and 17; none that a state causes
abbrev pub of_a_table : ℕ → Bool
of_a_table n = pick (in_range 1 10 n) true (pick (eqb n 12) true (pick (eqb n 14) true (eqb n 17)))

-- of a call on a state, be it a post, a slot, a run, a lead, a figure or a look: 5, 11, 13, and 21 to 23; never 17, nor any other of a table
abbrev pub of_a_state : ℕ → Bool
of_a_state n = pick (eqb n 5) true (pick (eqb n 11) true (pick (eqb n 13) true (in_range 21 23 n)))

-- of an ordering's (clause 13.6): 1 to 6, 8 to 10, 14, 15 and 17; never 7, and none that a state causes
abbrev pub of_an_order : ℕ → Bool
of_an_order n = pick (in_range 1 6 n) true (pick (in_range 8 10 n) true (pick (in_range 14 15 n) true (eqb n 17)))

-- of a chain figure's (clause 13.12): 11, 16 and 23
abbrev pub of_a_chain : ℕ → Bool
of_a_chain n = pick (eqb n 11) true (pick (eqb n 16) true (eqb n 23))

-- of any call's
abbrev pub of_any_call : ℕ → Bool
of_any_call n = pick (of_a_table n) true (pick (of_a_state n) true (pick (of_an_order n) true (of_a_chain n)))

-- those that name a place
abbrev pub placed : ℕ → Bool
placed n = pick (in_range 3 5 n) true (pick (eqb n 7) true (in_range 16 17 n))

abbrev pub names_place : Option ℕ → Bool
names_place None = false
names_place (Some p) = true

-- a refusal with one of these numbers
pub record AmongRefusals (numbers : ℕ → Bool) (limit : ℕ) (r : Refusal) : Type 0 where
  pub number : numbers r.number ≡ true
  pub names : names_place r.place ≡ placed r.number
  pub origin : r.origin ≡ origin_of r.number
  pub place : Below limit r.place

-- clause 15.4: two refusals with one outcome are one refusal, and it is neither 0 nor 255
abbrev pub CodeTells : Type 0
CodeTells = (limit : ℕ) (r q : Refusal) → AmongRefusals of_any_call limit r → AmongRefusals of_any_call limit q → refusal_code r ≡ refusal_code q → r ≡ q

abbrev pub CodeApart : Type 0
CodeApart = (limit : ℕ) (r : Refusal) → AmongRefusals of_any_call limit r → (refusal_code r ≡ 0 → ⊥) × (refusal_code r ≡ wrong_length → ⊥)

-- clause 15.4 of each call, from here on
abbrev pub StartNamesBelow : Type 0
StartNamesBelow =
    (limit : ℕ) (bytes : List ℕ) (first : ℕ) (r : Refusal) → (begun limit (read_table limit bytes) first).answer ≡ refused r → AmongRefusals of_a_table limit r

-- a start of a table, whatever it was given by
abbrev pub TableStartNamesBelow : Type 0
TableStartNamesBelow = (limit : ℕ) (t : Table) (first : ℕ) (r : Refusal) → (start limit t first).answer ≡ refused r → AmongRefusals of_a_table limit r

-- a carrying over: 23 alone (clause 13.14)
abbrev pub CarryNamesBelow : Type 0
CarryNamesBelow = (old new : ℕ) (o : OldState) (r : Refusal) → (carry old new o).answer ≡ refused r → (r ≡ refusal 23) × AmongRefusals of_a_state new r

-- a post or a slot
abbrev pub CallsNameBelow : Type 0
CallsNameBelow = (limit : ℕ) (s : State) (c : Call) (r : Refusal) → (called limit s c).answer ≡ refused r → AmongRefusals of_a_state limit r

abbrev pub RunsNameBelow : Type 0
RunsNameBelow = (limit : ℕ) (s : State) (log : List ℕ) (r : Refusal) → (run limit s log).answer ≡ refused r → AmongRefusals of_a_state limit r

abbrev pub LeadsNameBelow : Type 0
LeadsNameBelow =
    (limit : ℕ) (s : State) (p : ℕ) (log : List ℕ) (r : Refusal) → leads.lead_query limit s p log ≡ leads.refused r → AmongRefusals of_a_state limit r

abbrev pub FiguresNameBelow : Type 0
FiguresNameBelow = (limit : ℕ) (s : State) (p j : ℕ) (r : Refusal) → queries.figures limit s p j ≡ queries.refused r → AmongRefusals of_a_state limit r

abbrev pub ChainsNameBelow : Type 0
ChainsNameBelow =
    (limit : ℕ) (s : State) (p : ℕ) (names : List ℕ) (r : Refusal) → chains.chain limit s p names ≡ chains.refused r → AmongRefusals of_a_chain limit r

abbrev pub WriteNamesBelow : Type 0
WriteNamesBelow =
    (limit : ℕ) (t : Table) (buffer : List ℕ) (r : Refusal) → (writing.write_table limit t buffer).answer ≡ writing.refused r → AmongRefusals of_a_table limit r

-- the numbers of clause 13.6
abbrev pub OrdersNameBelow : Type 0
OrdersNameBelow = (limit : ℕ) (bytes buffer : List ℕ) (r : Refusal) → (order_bytes limit bytes buffer).answer ≡ writing.refused r → AmongRefusals of_an_order limit r

abbrev pub LooksNameBelow : Type 0
LooksNameBelow = (limit : ℕ) (s : State) (p : ℕ) (r : Refusal) → look.account_query limit s p ≡ look.refused r → AmongRefusals of_a_state limit r

abbrev pub StandingsNameBelow : Type 0
StandingsNameBelow = (limit : ℕ) (s : State) (r : Refusal) → look.standing limit s ≡ look.refused r → AmongRefusals of_a_state limit r
