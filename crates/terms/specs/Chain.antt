-- Clauses 9.1 to 9.3: places that follow one another. With the call come names, a number for each place: whom it follows. The chain
-- figure of a place sums finish figures along the chain that ends there.
use Rattle.std.specs.Prelude.{Bool, true, not, List, [], ◌∷◌, ◌++◌, ℕ, zero, suc, ltb, eqb, get_or, Result, Ok, Err, Option, None, Some}
use Rattle.lists.specs.Choices.{pick}
use Rattle.lists.specs.Sums.{total, every}
use Rattle.terms.specs.declared.refusals.Refusal.{Refusal}
use Rattle.terms.specs.declared.place.Requestor.{Requestor}
use Rattle.terms.specs.declared.refusals.Cause.{Cause}
use Rattle.terms.specs.declared.units.Slots.{Slots}
use Rattle.terms.specs.Refusals.{Verdict, faultless, refusal_of, refusal, refusal_at, gate, then, resolve}
use Rattle.terms.specs.Table.{Table, requestors_of, each_place}
use Rattle.terms.specs.State.{State, place_verdict}
use Rattle.terms.specs.Figures.{finish}

-- the name that says: it follows nobody. In a log this number says that nobody was granted
abbrev pub nobody : ℕ
nobody = 255

-- whom a name stands for (clause 9.1)
unfoldable pub named : ℕ → Option ℕ
named x = pick (eqb x nobody) None (Some x)

-- whom place p follows; a place that no name is given for follows nobody (clause 9.1)
unfoldable pub follows : List ℕ → ℕ → Option ℕ
follows names p = named (get_or names p nobody)

-- the chain that ends at a place, from its first link on: the chain that ends at the place followed, and then the place itself. It is cut
-- off after `most` links, counted from its end; that N are enough is a theorem (chains, Claims).
unfoldable pub chain_to : List ℕ → (most : ℕ) → Option ℕ → List ℕ
chain_to names zero o = []
chain_to names (suc most) None = []
chain_to names (suc most) (Some p) = chain_to names most (follows names p) ++ (p ∷ [])

-- the chain that ends at place p of a table (clause 9.2)
abbrev pub chain_of : Table → List ℕ → ℕ → List ℕ
chain_of t names p = chain_to names t.count (Some p)

-- the finish figures for one transfer, summed over the links (clause 9.2)
unfoldable pub chain_figure : Table → (links : List ℕ) → ℕ
chain_figure t links = total (λ p. finish t.denominator (requestors_of t) p 1) links

-- clause 12.11 of whom a place follows: if it follows one, that is one of the table's n
abbrev pub present : (n : ℕ) → Option ℕ → Bool
present n None = true
present n (Some q) = ltb q n

unfoldable pub name_verdict : (n : ℕ) → List ℕ → (place : ℕ) → Requestor → Verdict
name_verdict n names p r = gate (refusal 11) (present n (follows names p)) faultless

-- clause 12.16 of place p: it is no link of the chain that ends at the place it follows
unfoldable pub circle_verdict : (n : ℕ) → List ℕ → (place : ℕ) → Requestor → Verdict
circle_verdict n names p r = gate (refusal_at 16 p) (every (λ q. not (eqb q p)) (chain_to names n (follows names p))) faultless

-- both place by place over the whole table (clause 9.3): 11, and then 16 with the lowest such place
abbrev pub names_verdict : Table → List ℕ → Verdict
names_verdict t names = each_place (name_verdict t.count names) 0 (requestors_of t)

abbrev pub circles_verdict : Table → List ℕ → Verdict
circles_verdict t names = each_place (circle_verdict t.count names) 0 (requestors_of t)

unfoldable pub following_verdict : Table → List ℕ → Verdict
following_verdict t names = then (names_verdict t names) (circles_verdict t names)

-- the figure, in slots, or why there is none
pub data ChainAnswer : Type 0 where
  figured : ℕ → ChainAnswer
  refused : Refusal → ChainAnswer

-- 23, 11, 16 (clause 13.12)
unfoldable pub chain_verdict : ℕ → State → (place : ℕ) → (names : List ℕ) → Verdict
chain_verdict limit s p names = then (place_verdict limit s p) (following_verdict s.table names)

-- `limit` is how many places there is room for
unfoldable pub chain : ℕ → State → (place : ℕ) → (names : List ℕ) → ChainAnswer
chain limit s p names = resolve (chain_verdict limit s p names) (figured (chain_figure s.table (chain_of s.table names p))) refused

-- the code's answer in these values
abbrev pub chain_answer_of : Result Slots Cause → ChainAnswer
chain_answer_of (Ok f) = figured f.0
chain_answer_of (Err c) = refused (refusal_of c)
