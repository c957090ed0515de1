-- What clauses 8.2 and 13.5 claim of an order, for any number of places. A table's array has `limit` rows, as it has by value.
use Rattle.std.specs.Prelude.{◌≡◌, Bool, ◌&&◌, ℕ, eqb, length, drop}
use Rattle.lists.specs.Orders.{Permuted, Tells}
use Rattle.terms.specs.declared.refusals.Refusal.{Refusal}
use Rattle.terms.specs.declared.place.Requestor.{Requestor}
use Rattle.terms.specs.Table.{Table, requestors_of, offered_verdict}
use Rattle.terms.specs.Refusals.{faultless, fault, refusal}
use Rattle.terms.specs.Figures.{admission_verdict}
use Rattle.terms.specs.Answers.{refused}
use Rattle.terms.specs.TableResult.{accept, refuse}
use Rattle.ordering.specs.Order.{order}

-- two requestors with the same rate, burst and need
abbrev pub same_requestor : Requestor → Requestor → Bool
same_requestor r q =
    eqb r.rate q.rate && (eqb r.burst q.burst && (eqb r.need.0 q.need.0 && eqb r.within.0 q.within.0))

-- the test passes of a requestor and itself, and of no two others: the same requestors of clause 8.2
abbrev pub SameRequestorTells : Type 0
SameRequestorTells = Tells same_requestor

-- Clause 8.2: u has the requestors of t, each as many times as t has it, at places of its own choice: t's own order is one of them. D, N
-- and what stands past place N−1 are t's.
pub record Reordered (t u : Table) : Type 0 where
  pub denominator : u.denominator ≡ t.denominator
  pub count : u.count ≡ t.count
  pub requestors : Permuted same_requestor (requestors_of u) (requestors_of t)
  pub past : drop u.count u.requestors ≡ drop t.count t.requestors

-- clause 8.2: admission refuses every one of them
abbrev pub NoOrderPasses : ℕ → Table → Type 0
NoOrderPasses limit t = (u : Table) → Reordered t u → admission_verdict limit u ≡ faultless → ⊥

-- ---- what is answered

-- clause 8.2
abbrev pub AnswerReorders : Type 0
AnswerReorders = (limit : ℕ) (t u : Table) → length t.requestors ≡ limit → order limit t ≡ accept u → Reordered t u

-- clause 8.2: the table that is answered passes admission; its array has `limit` rows too
abbrev pub AnswerPasses : Type 0
AnswerPasses = (limit : ℕ) (t u : Table) → length t.requestors ≡ limit → order limit t ≡ accept u
    → (admission_verdict limit u ≡ faultless) × (length u.requestors ≡ limit)

-- clause 8.2: a table that passes admission is answered as it is; so is an answer, if it is asked for again
abbrev pub RightOrderStays : Type 0
RightOrderStays = (limit : ℕ) (t : Table) → length t.requestors ≡ limit → admission_verdict limit t ≡ faultless → order limit t ≡ accept t

abbrev pub AnswerStays : Type 0
AnswerStays = (limit : ℕ) (t u : Table) → length t.requestors ≡ limit → order limit t ≡ accept u → order limit u ≡ accept u

-- clause 8.2: a table of which some order passes gets an answer
abbrev pub SomeOrderIsFound : Type 0
SomeOrderIsFound = (limit : ℕ) (t v : Table) → length t.requestors ≡ limit → Reordered t v → admission_verdict limit v ≡ faultless
    → (u : Table) × (order limit t ≡ accept u)

-- ---- what is refused

-- clause 13.5: what 1 to 6 and 17 find of the table as it is listed comes first, with the place that they name
abbrev pub FaultIsAnswered : Type 0
FaultIsAnswered = (limit : ℕ) (t : Table) (why : Refusal) → offered_verdict limit t ≡ fault why → order limit t ≡ refuse limit why

-- clause 1.6
abbrev pub RefusedIsAll0 : Type 0
RefusedIsAll0 = (limit : ℕ) (t : Table) (why : Refusal) → (order limit t).answer ≡ refused why → order limit t ≡ refuse limit why

-- Clause 8.2 and beyond: whatever its number, a refusal means that no order passes. For 1 and for N itself that is so because D and N stay;
-- where a row past place N−1 is not 0 it is so because that row stays, though the requestors alone might pass.
abbrev pub RefusedMeansNone : Type 0
RefusedMeansNone = (limit : ℕ) (t : Table) (why : Refusal) → length t.requestors ≡ limit → (order limit t).answer ≡ refused why → NoOrderPasses limit t

-- and 15 is the number wherever that is all that is wrong (clause 8.2)
abbrev pub FifteenExactly : Type 0
FifteenExactly = (limit : ℕ) (t : Table) → length t.requestors ≡ limit → offered_verdict limit t ≡ faultless
    → ((order limit t).answer ≡ refused (refusal 15) → NoOrderPasses limit t) × (NoOrderPasses limit t → (order limit t).answer ≡ refused (refusal 15))
