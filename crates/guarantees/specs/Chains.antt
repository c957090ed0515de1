-- Clause 9.4, what a chain figure promises, and how large it is at most. Of a list of calls it is asked that the links of a chain post in
-- turn: each one transfer, ahead of the first accepted slot after its forerunner's grant, and with no backlog then. The last link's grant
-- is then among as many accepted slots as the figure says, if the list has so many. The first link posts ahead of the list's first accepted
-- slot, so that the slots of the list are those after the first post. All else is free: other posts, their places and counts, and refused
-- calls, also between a grant and the post that answers it. That a link is granted is concluded and not asked; no credit is asked for.
use Rattle.std.specs.Prelude.{◌≡◌, Bool, true, false, List, [], ◌∷◌, ◌++◌, ℕ, ◌+◌, ◌-◌, ◌*◌, ◌≤◌, ◌<◌, Option, None, Some}
use Rattle.lists.specs.Choices.{pick}
use Rattle.lists.specs.Runs
use Rattle.terms.specs.Table.{Table}
use Rattle.terms.specs.State.{State, backlog, account_at, sound, Shaped}
use Rattle.terms.specs.Answers.{Answer}
use Rattle.terms.specs.Figures.{most_finish}
use Rattle.terms.specs.Chain.{chain_of, chain, figured}
use Rattle.rule.specs.Grants as grants
use Rattle.rule.specs.Calls.{Call, post, called}
use Rattle.guarantees.specs.Counts.{in_slot, slots_in, Accepted, state_after, answers_from}

-- ---- a link's post

-- The post of one transfer to place p that stands ahead of the next accepted slot: ahead of it are posts and refused calls alone. The place
-- has no backlog there, so that its next grant is for this transfer.
pub record PostedNext (limit : ℕ) (s : State) (calls : List Call) (p : ℕ) : Type 0 where
  pub ahead : List Call
  pub behind : List Call
  pub stands : calls ≡ ahead ++ post p 1 ∷ behind
  pub no_slot : slots_in (answers_from limit s ahead) ≡ 0
  pub no_backlog : backlog (account_at p (Runs.end (called limit) s ahead).accounts) ≡ 0

-- the state that it leaves
abbrev pub posted_state : {limit : ℕ} {s : State} {calls : List Call} {p : ℕ} → PostedNext limit s calls p → State
posted_state {limit} {s} {calls} {p} x = (called limit (Runs.end (called limit) s x.ahead) (post p 1)).state

-- ---- a link's grant: the first to its place after its post

-- an accepted slot that was granted to place p
unfoldable pub is_grant_to : ℕ → Answer → Bool
is_grant_to p = in_slot false (λ g. grants.names g p)

-- where calls have come to: how many slots were accepted, the state, and the calls still to come
pub record Reached : Type 0 where
  pub slots : ℕ
  pub state : State
  pub onward : List Call

-- the same, with a call ahead of it that gave this answer
unfoldable pub reached_past : Answer → Option Reached → Option Reached
reached_past a None = None
reached_past a (Some g) = Some (record { slots = slots_in (a ∷ []) + g.slots; state = g.state; onward = g.onward })

-- up to the first grant to place p, and with it
unfoldable pub first_grant : ℕ → (place : ℕ) → State → List Call → Option Reached
first_grant limit p s [] = None
first_grant limit p s (c ∷ calls) =
    pick (is_grant_to p (called limit s c).answer)
    (Some (record { slots = 1; state = (called limit s c).state; onward = calls }))
    (reached_past (called limit s c).answer (first_grant limit p (called limit s c).state calls))

-- ---- the links in turn

-- what is asked of what follows a grant, if there is one
abbrev pub upon_grant : Option Reached → (Reached → Type 0) → Type 0
upon_grant None next = Unit {0}
upon_grant (Some g) next = next g

-- Clause 9.4, asked of the calls from s on: if a further slot is accepted, the first link's post stands ahead of it; and where that link
-- is granted, the same is asked of the other links from there on.
abbrev pub PostInTurn : ℕ → (links : List ℕ) → State → List Call → Type 0
PostInTurn limit [] s calls = Unit {0}
PostInTurn limit (p ∷ links) s calls = 0 < slots_in (answers_from limit s calls)
    → (x : PostedNext limit s calls p)
    × upon_grant (first_grant limit p (posted_state x) x.behind) (λ g. PostInTurn limit links g.state g.onward)

-- Clause 9.4, concluded: each link is posted and then granted, one after the other, and the last link's grant is among the next `slots`
-- accepted slots. No other post could be meant than the one that was asked for: it leaves a backlog, so that none behind it has no backlog.
abbrev pub GrantedInTurn : ℕ → (links : List ℕ) → State → List Call → (slots : ℕ) → Type 0
GrantedInTurn limit [] s calls slots = Unit {0}
GrantedInTurn limit (p ∷ links) s calls slots =
    (x : PostedNext limit s calls p)
    × (g : Reached)
    × (first_grant limit p (posted_state x) x.behind ≡ Some g)
    × (g.slots ≤ slots)
    × GrantedInTurn limit links g.state g.onward (slots - g.slots)

-- clause 9.4 from any sound state, after any calls; the figure may have been asked for at any time from there on
abbrev pub ChainFromSound : Type 0
ChainFromSound = (limit : ℕ) (s : State) → Shaped limit s → sound limit s ≡ true
    → (asked : List Call) (p : ℕ) (names : List ℕ) (figure : ℕ) → chain limit (Runs.end (called limit) s asked) p names ≡ figured figure
    → (before inside : List Call) → PostInTurn limit (chain_of s.table names p) (Runs.end (called limit) s before) inside
    → figure ≤ slots_in (answers_from limit (Runs.end (called limit) s before) inside)
    → GrantedInTurn limit (chain_of s.table names p) (Runs.end (called limit) s before) inside figure

-- clause 9.4 from an accepted start, after any calls; the figure may have been asked for at any time
abbrev pub ChainFromStart : Type 0
ChainFromStart = (limit : ℕ) (t : Table) (first : ℕ) → Accepted limit t first
    → (asked : List Call) (p : ℕ) (names : List ℕ) (figure : ℕ) → chain limit (state_after limit t first asked) p names ≡ figured figure
    → (before inside : List Call) → PostInTurn limit (chain_of t names p) (state_after limit t first before) inside
    → figure ≤ slots_in (answers_from limit (state_after limit t first before) inside)
    → GrantedInTurn limit (chain_of t names p) (state_after limit t first before) inside figure

-- of clause 9.2: a chain has at most N links, so that its figure is at most N of the largest finish figures. For every room up to the
-- largest N that fits 64 bits
abbrev pub ChainFigureAtMost : Type 0
ChainFigureAtMost = (limit : ℕ) (s : State) → Shaped limit s → (p : ℕ) (names : List ℕ) (figure : ℕ) → chain limit s p names ≡ figured figure
    → figure ≤ s.table.count * most_finish limit
