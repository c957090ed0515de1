-- What the chain call's bounded walks mean (clauses 9.1 to 9.3). Following is told here without a bound: place p leads back to itself if
-- some number of steps from p comes to p. So 16 names the lowest place of the table that leads back to itself, and is told exactly where
-- there is one and 23 and 11 find nothing; a figure is that of the whole chain, whatever stands past place N−1.
use Rattle.std.specs.Prelude.{◌≡◌, List, ℕ, zero, suc, ◌≤◌, ◌<◌, get_or, Option, None, Some}
use Rattle.terms.specs.State.{State, Shaped, place_verdict}
use Rattle.terms.specs.Refusals.{faultless, refusal_at}
use Rattle.terms.specs.Figures.{finish}
use Rattle.terms.specs.Table.{requestors_of}
use Rattle.terms.specs.Chain.{nobody, follows, chain_to, chain_of, names_verdict, chain, figured, refused}

-- one step of following
abbrev pub next : List ℕ → Option ℕ → Option ℕ
next names None = None
next names (Some p) = follows names p

-- where so many steps lead, if they lead anywhere
unfoldable pub steps : List ℕ → ℕ → Option ℕ → Option ℕ
steps names zero o = o
steps names (suc k) o = steps names k (next names o)

-- following from place p comes back to p
abbrev pub LeadsBack : List ℕ → ℕ → Type 0
LeadsBack names p = (k : ℕ) × (steps names (suc k) (Some p) ≡ Some p)

-- place q of the table leads back to itself, and no lower one does (clause 9.3)
pub record LowestCircle (s : State) (names : List ℕ) (q : ℕ) : Type 0 where
  pub place : q < s.table.count
  pub back : LeadsBack names q
  pub lowest : (p : ℕ) → p < q → LeadsBack names p → ⊥

abbrev pub SixteenNamesLowest : Type 0
SixteenNamesLowest = (limit : ℕ) (s : State) → Shaped limit s → (p : ℕ) (names : List ℕ) (q : ℕ)
    → chain limit s p names ≡ refused (refusal_at 16 q) → LowestCircle s names q

-- the other way round (clause 9.3): 23 and 11 find nothing, and some place of the table leads back to itself
abbrev pub CircleIsRefused : Type 0
CircleIsRefused = (limit : ℕ) (s : State) → Shaped limit s → (p : ℕ) (names : List ℕ)
    → place_verdict limit s p ≡ faultless → names_verdict s.table names ≡ faultless
    → (q : ℕ) → q < s.table.count → LeadsBack names q
    → (lowest : ℕ) × (chain limit s p names ≡ refused (refusal_at 16 lowest))

-- what holds where a figure is told (clause 9.2)
pub record Whole (s : State) (names : List ℕ) (p : ℕ) : Type 0 where
  pub no_circle : (q : ℕ) → q < s.table.count → LeadsBack names q → ⊥
  -- at the end of N steps nobody is left to follow, so that the chain is the same for any larger number of links
  pub ends : steps names s.table.count (Some p) ≡ None
  pub whole : (most : ℕ) → s.table.count ≤ most → chain_to names most (Some p) ≡ chain_of s.table names p

abbrev pub ChainIsWhole : Type 0
ChainIsWhole = (limit : ℕ) (s : State) → Shaped limit s → (p : ℕ) (names : List ℕ) (figure : ℕ) → chain limit s p names ≡ figured figure → Whole s names p

-- names that agree up to place N−1 tell the same (clause 9.1); the one list may be longer, and a list that ends earlier is as good as one
-- that goes on with nobody
abbrev pub NamesPastUnread : Type 0
NamesPastUnread = (limit : ℕ) (s : State) → Shaped limit s → (p : ℕ) (names others : List ℕ)
    → ((q : ℕ) → q < s.table.count → get_or names q nobody ≡ get_or others q nobody)
    → chain limit s p names ≡ chain limit s p others

-- the chain of a place that follows nobody is that place alone, and its figure the finish figure for one transfer (clause 9.2)
abbrev pub ChainOfOne : Type 0
ChainOfOne = (limit : ℕ) (s : State) (p : ℕ) (names : List ℕ) (figure : ℕ) → chain limit s p names ≡ figured figure → follows names p ≡ None
    → figure ≡ finish s.table.denominator (requestors_of s.table) p 1
