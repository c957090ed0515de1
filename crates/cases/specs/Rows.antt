-- What a row asks, what it is told, and the one evaluator. It states no clause: it runs the definitions that the contracts cite, parts of
-- them, and the finish figure and admission as they were before request 1 (clause 7.5).
use Rattle.std.specs.Prelude.{Bool, true, ◌&&◌, List, [], ◌∷◌, ◌++◌, map, ℕ, zero, suc, ◌-◌, ◌*◌, ltb, length, take, drop, get_or, replicate}
use Rattle.groups.specs.Groups.{Reading, number_of, number_bytes, Filled, number_written}
use Rattle.terms.specs.declared.place.Requestor.{Requestor}
use Rattle.terms.specs.Table.{Table, requestor_at, requestors_of, table_of}
use Rattle.terms.specs.declared.place.Account.{Account}
use Rattle.terms.specs.State.{State, credit, backlog, no_account, account_at, place_verdict}
use Rattle.terms.specs.Limits.{max_places, old_places}
use Rattle.terms.specs.Refusals.{Verdict}
use Rattle.terms.specs.Answers.{Answer}
use Rattle.terms.specs.Figures.{bursts_above, rate_left, wait, finish, admission_verdict}
use Rattle.terms.specs.Input.{input_verdict}
use Rattle.terms.specs.Start.{start}
use Rattle.carrying.specs.Carry.{OldState, as_state, carry}
use Rattle.terms.specs.Queries.{FiguresAnswer}
use Rattle.terms.specs.Queries as queries
use Rattle.terms.specs.Chain.{ChainAnswer}
use Rattle.terms.specs.Chain as chains
use Rattle.lead_parts.specs.Lead.{LeadAnswer, lead_verdict, lead_query}
use Rattle.table_bytes.specs.Reading.{Read, number_read, read_table}
use Rattle.table_bytes.specs.Writing.{WriteAnswer, write_table}
use Rattle.rule.specs.Calls.{Call, post, slot, called}
use Rattle.rule.specs.Log.{run_verdict, run}
use Rattle.guarantees.specs.Counts.{slots_in, grants_to, state_after, answers_from}
use Rattle.guarantees.specs.FinishFigure.{former_finish, former_verdict}
use Rattle.ordering.specs.Order.{order}
use Rattle.ordered_bytes.specs.OrderBytes.{order_bytes}
use Rattle.replay.specs.Replay.{replay}
use Rattle.listing.specs.Listing.{listing}

-- n, b, j and L of one place
abbrev pub row : ℕ → ℕ → ℕ → ℕ → Requestor
row n b j L = record { rate = n; burst = b; need = record { 0 = j }; within = record { 0 = L } }

-- c and q of one place
abbrev pub account : ℕ → ℕ → Account
account c q = record { credit = c; backlog = record { 0 = q } }

-- the first of an array's elements; the rest are 0
unfoldable pub padded : {A : Type 0} → A → List A → List A
padded zero_element xs = xs ++ replicate (max_places - length xs) zero_element

-- a table of D, N and rows from place 0 on
abbrev pub table : ℕ → ℕ → List Requestor → Table
table d n rows = table_of max_places d n rows

-- so many rows of the rates, bursts, j and L of places 0, 1, 2, …; where a list ends, the rest of its field is 0
unfoldable pub rows_of : ℕ → (rates bursts needs withins : List ℕ) → List Requestor
rows_of zero ns bs js ls = []
rows_of (suc k) ns bs js ls = row (get_or ns 0 0) (get_or bs 0 0) (get_or js 0 0) (get_or ls 0 0) ∷ rows_of k (drop 1 ns) (drop 1 bs) (drop 1 js) (drop 1 ls)

-- a table of D, N and a list for each field of a row
abbrev pub fields : ℕ → ℕ → (rates bursts needs withins : List ℕ) → Table
fields d n ns bs js ls = table d n (rows_of max_places ns bs js ls)

-- the table whose every field is 0
abbrev pub all_zero : Table
all_zero = record { denominator = 0; count = 0; requestors = replicate max_places (row 0 0 0 0) }

-- a state of a table, a slot number and accounts from place 0 on
unfoldable pub state_of : Table → ℕ → List Account → State
state_of t at accounts = record { table = t; slot = record { 0 = at }; accounts = padded no_account accounts }

-- the state whose every field is 0
abbrev pub all_zero_state : State
all_zero_state = record { table = all_zero; slot = record { 0 = 0 }; accounts = replicate max_places (account 0 0) }

pub data Query : Type 0 where
  -- what a number is read as from the start of some bytes, and what bytes a number is written as
  reading_number : (bytes : List ℕ) → Query
  writing_number : ℕ → Query
  -- a number's bytes into a lent buffer
  putting_number : ℕ → (old : List ℕ) → Query
  -- what stands at the start of some bytes, a number with how many of them it takes; and how many bytes a number takes, and its
  -- bytes into the first `room` bytes of a buffer, which alone are lent
  taking_number : (bytes : List ℕ) → Query
  lending_number : ℕ → (room : ℕ) → (buffer : List ℕ) → Query
  -- a table from its bytes, and under another limit, and a table's bytes into a lent buffer
  reading : (bytes : List ℕ) → Query
  reading_under : (limit : ℕ) → (bytes : List ℕ) → Query
  writing : Table → (old : List ℕ) → Query
  -- what admission finds, and what it finds under another limit
  admission : Table → Query
  admission_under : (limit : ℕ) → Table → Query
  -- an old state carried over; and so many slots of it under the old limit, and of what it is carried over to under the new one
  carrying : OldState → Query
  beside_old : OldState → (slots : ℕ) → Query
  -- what a start answers, and the whole state that it hands back
  starting : Table → (first : ℕ) → Query
  -- what a start answers, and the calls from it, and how the state stands then
  calling : Table → (first : ℕ) → List Call → Query
  -- what one call on a state answers, and how the state stands then
  querying : State → Call → Query
  -- a lent list of calls as numbers, folded from a start into a lent list of answers
  replaying : Table → (first : ℕ) → (calls old : List ℕ) → Query
  -- what the checks of a place of a state find, and those of so many bytes of a log or of input
  place_checks : State → (place : ℕ) → Query
  input_checks : (bytes : ℕ) → Query
  -- as many slots on a state as a lent log has bytes; and what the checks of a run over so many bytes find
  running : State → (log : List ℕ) → Query
  run_checks : State → (count : ℕ) → Query
  -- the lead of a place over a log; and what its checks find
  leading : State → (place : ℕ) → (log : List ℕ) → Query
  lead_checks : State → (place count : ℕ) → Query
  -- the figures call
  querying_figures : State → (place j : ℕ) → Query
  -- the chain figure of a place, with these names
  chaining : State → (place : ℕ) → (names : List ℕ) → Query
  -- B, R, the wait and the finish figure of a place for j transfers
  figures : Table → (place j : ℕ) → Query
  -- its finish figure, and what it was before request 1; and what admission found with that
  both_finishes : Table → (place j : ℕ) → Query
  former_admission : Table → Query
  -- a table put in order; and a table's bytes, the table put in order and written into a lent buffer
  ordering : Table → Query
  ordering_bytes : (bytes old : List ℕ) → Query
  -- the floor for a place over `inside`, entered after `before` from slot 0
  floor : Table → (before inside : List Call) → (place : ℕ) → Query
  -- what slotlist prints for its input bytes
  listing_of : (input : List ℕ) → Query

-- how a state stands: its slot number, and the credits and backlogs of the first N places
pub record Standing : Type 0 where
  pub slot : ℕ
  pub credits : List ℕ
  pub backlogs : List ℕ

abbrev pub standing : ℕ → List ℕ → List ℕ → Standing
standing at credits backlogs = record { slot = at; credits = credits; backlogs = backlogs }

pub data Reply : Type 0 where
  number : Read ℕ → Reply
  bytes : List ℕ → Reply
  put_as : Filled → Reply
  taken_as : Reading → Reply
  -- how many bytes the number takes, how many were written, and the whole buffer afterwards
  lent_as : (takes wrote : ℕ) → (buffer : List ℕ) → Reply
  read_as : Answer → Table → Reply
  -- how many bytes were written or why none, and the lent buffer afterwards
  written_as : WriteAnswer → (buffer : List ℕ) → Reply
  found : Verdict → Reply
  started_as : Answer → State → Reply
  told : (started : Answer) (answers : List Answer) → Standing → Reply
  answered : Answer → Standing → Reply
  replayed : (started : Answer) (answers : List ℕ) → Standing → Reply
  ran : Answer → (log : List ℕ) → Standing → Reply
  ran_both : (old_log : List ℕ) → Standing → (log : List ℕ) → Standing → Reply
  led : LeadAnswer → Reply
  told_figures : FiguresAnswer → Reply
  told_chain : ChainAnswer → Reply
  figured : (B R wait finish : ℕ) → Reply
  finished : (finish former : ℕ) → Reply
  ordered_as : Answer → Table → Reply
  -- the credit on entry, whether the place waits in every slot, and both sides of clause 10.3
  floored : (credit : ℕ) (waits : Bool) (granted owed : ℕ) → Reply

-- the state after calls from a start
abbrev pub after : Table → (first : ℕ) → List Call → State
after t first calls = state_after max_places t first calls

-- the state as a table with n places shows it
unfoldable pub stands_at : ℕ → State → Standing
stands_at n s = standing s.slot.0 (map credit (take n s.accounts)) (map backlog (take n s.accounts))

-- place p waits in each slot
unfoldable pub waits_throughout : ℕ → State → List Call → Bool
waits_throughout p s [] = true
waits_throughout p s (post i count ∷ cs) = waits_throughout p (called max_places s (post i count)).state cs
waits_throughout p s (slot ∷ cs) = ltb 0 (backlog (account_at p s.accounts)) && waits_throughout p (called max_places s slot).state cs

-- the floor's two sides from its parts
abbrev pub floor_sides : ℕ → Bool → ℕ → ℕ → ℕ → ℕ → ℕ → ℕ → Reply
floor_sides c waits d n R B m g = floored c waits (R * d * g) (n * (R * m - B))

unfoldable pub reply : Query → Reply
reply (reading_number given) = number (number_read given)
reply (writing_number x) = bytes (number_bytes x)
reply (putting_number x old) = put_as (number_written x old)
reply (taking_number given) = taken_as (number_of given)
reply (lending_number x room buffer) =
    let w = number_written x (take room buffer) in
    lent_as (length (number_bytes x)) w.wrote (w.buffer ++ drop room buffer)
reply (reading given) = let r = read_table max_places given in read_as r.answer r.table
reply (reading_under limit given) = let r = read_table limit given in read_as r.answer r.table
reply (writing t old) = let w = write_table max_places t old in written_as w.answer w.buffer
reply (admission t) = found (admission_verdict max_places t)
reply (admission_under limit t) = found (admission_verdict limit t)
reply (carrying o) = let r = carry old_places max_places o in started_as r.answer r.state
reply (beside_old o slots) =
    let before = run old_places (as_state o) (replicate slots 0) in
    let over = run max_places (carry old_places max_places o).state (replicate slots 0) in
    ran_both before.log (stands_at o.count before.state) over.log (stands_at o.count over.state)
reply (starting t first) = let begun = start max_places t first in started_as begun.answer begun.state
reply (calling t first calls) =
    let begun = start max_places t first in
    told begun.answer (answers_from max_places begun.state calls) (stands_at t.count (state_after max_places t first calls))
reply (querying s c) = answered (called max_places s c).answer (stands_at s.table.count (called max_places s c).state)
reply (replaying t first calls old) =
    let r = replay max_places t first calls old in
    replayed r.answer r.words (stands_at t.count r.state)
reply (place_checks s p) = found (place_verdict max_places s p)
reply (input_checks count) = found (input_verdict count)
reply (running s log) = let r = run max_places s log in ran r.answer r.log (stands_at s.table.count r.state)
reply (run_checks s count) = found (run_verdict max_places s count)
reply (leading s p log) = led (lead_query max_places s p log)
reply (lead_checks s p count) = found (lead_verdict max_places s p count)
reply (querying_figures s p j) = told_figures (queries.figures max_places s p j)
reply (chaining s p names) = told_chain (chains.chain max_places s p names)
reply (figures t p j) =
    let B = bursts_above p (requestors_of t) in
    let R = rate_left t.denominator p (requestors_of t) in
    figured B R (wait t.denominator (requestors_of t) p) (finish t.denominator (requestors_of t) p j)
reply (both_finishes t p j) = finished (finish t.denominator (requestors_of t) p j) (former_finish t.denominator (requestors_of t) p j)
reply (former_admission t) = found (former_verdict max_places t)
reply (ordering t) = let o = order max_places t in ordered_as o.answer o.table
reply (ordering_bytes given old) = let w = order_bytes max_places given old in written_as w.answer w.buffer
reply (floor t before inside p) =
    let s = state_after max_places t 0 before in
    let replies = answers_from max_places s inside in
    floor_sides (credit (account_at p s.accounts)) (waits_throughout p s inside) t.denominator (requestor_at p (requestors_of t)).rate
    (rate_left t.denominator p (requestors_of t)) (bursts_above p (requestors_of t)) (slots_in replies) (grants_to p replies)
reply (listing_of input) = bytes (listing max_places input)

-- a query, and the reply that is written for it: in BenchRows what section 16 says, elsewhere what was worked out by hand
pub record Row : Type 0 where
  pub query : Query
  pub written : Reply
