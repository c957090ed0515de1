-- Clause 5.9: what is posted to a place makes no difference to the places above it. Two lists of calls from one start that agree, between
-- slot and slot, in what they post to the first places show these places the same after every slot.
use Rattle.std.specs.Prelude.{◌≡◌, Bool, true, false, List, [], ◌∷◌, ℕ, suc, ◌≤◌, ltb, eqb, take}
use Rattle.lists.specs.Choices.{pick}
use Rattle.lists.specs.Runs
use Rattle.terms.specs.declared.refusals.Refusal.{Refusal}
use Rattle.terms.specs.Table.{Table}
use Rattle.terms.specs.declared.place.Account.{Account}
use Rattle.terms.specs.State.{State, account_at}
use Rattle.terms.specs.Answers.{Answer, accepted, granted, idle, refused}
use Rattle.rule.specs.Calls.{Call, post, slot, called}
use Rattle.guarantees.specs.Counts.{Accepted, start_state}

-- Clause 5.1, a post by itself: it leaves every account but that of its own place, above it or below. What it does to later grants is
-- said further down, of whole lists of calls.
abbrev pub PostApart : Type 0
PostApart = (limit : ℕ) (s : State) (p count i : ℕ) → (i ≡ p → ⊥)
    → account_at i (called limit s (post p count)).state.accounts ≡ account_at i s.accounts

abbrev pub keep : Bool → Call → List Call → List Call
keep true c cs = c ∷ cs
keep false c cs = cs

-- a slot concerns every place, a post its own
unfoldable pub concerns : ℕ → Call → Bool
concerns i (post p count) = eqb p i
concerns i slot = true

-- the slots, and the posts to place i, refused ones included: what lists agree in (clause 5.9)
unfoldable pub concerning : ℕ → List Call → List Call
concerning i [] = []
concerning i (c ∷ cs) = keep (concerns i c) c (concerning i cs)

-- a slot's answer as the first m places see it: a grant to one of them, or none to them, or a refusal
pub data View : Type 0 where
  own : (stamp place : ℕ) → View
  other : (stamp : ℕ) → View
  turned_down : Refusal → View
  -- of a post, and never shown
  no_slot : View

unfoldable pub view : ℕ → Answer → View
view m accepted = no_slot
view m (granted stamp p) = pick (ltb p m) (own stamp p) (other stamp)
view m (idle stamp) = other stamp
view m (refused r) = turned_down r

-- what the first m places are shown after a slot, accepted or refused
pub record Shown : Type 0 where
  pub accounts : List Account
  pub answer : View

unfoldable pub shows : ℕ → Call → Runs.Result State Answer → List Shown → List Shown
shows m slot r rest = record { accounts = take m r.state.accounts; answer = view m r.answer } ∷ rest
shows m (post p count) r rest = rest

-- after each slot of a list of calls (clause 5.9)
unfoldable pub shown : (State → Call → Runs.Result State Answer) → ℕ → State → List Call → List Shown
shown step m s [] = []
shown step m s (c ∷ cs) = shows m c (step s c) (shown step m (step s c).state cs)

-- Clause 5.9. Places 0 to k are the first suc k. Each of them is posted the same before each slot; between two slots the posts to different
-- places may come in any order, and those to other places are free.
abbrev pub Isolation : Type 0
Isolation = (limit : ℕ) (t : Table) (first : ℕ) → Accepted limit t first → (k : ℕ) (calls others : List Call)
    → ((i : ℕ) → i ≤ k → concerning i calls ≡ concerning i others)
    → shown (called limit) (suc k) (start_state limit t first) calls ≡ shown (called limit) (suc k) (start_state limit t first) others
