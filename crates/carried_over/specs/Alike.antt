-- Clause 11.5: an old state that was carried over (clause 11.4) goes on alike, for any old limit that is not above the new one: every list
-- of calls gets the same answers on the old state under the old limit and on the carried-over one under the new limit, and after it the two
-- are still each other's, the old one and the same with zeros put behind.
use Rattle.std.specs.Prelude.{◌≡◌, true, List, ◌++◌, ℕ, ◌-◌, ◌≤◌, ◌<◌, length}
use Rattle.lists.specs.Runs.{end, answers}
use Rattle.terms.specs.Table.{Table}
use Rattle.terms.specs.State.{State, sound, Shaped}
use Rattle.terms.specs.Refusals.{refusal}
use Rattle.terms.specs.Answers.{accepted}
use Rattle.terms.specs.Start.{turned_down}
use Rattle.terms.specs.Longer.{longer}
use Rattle.carrying.specs.Carry.{OldState, as_state, kept, carry}
use Rattle.terms.specs.Queries as queries
use Rattle.terms.specs.Chain as chains
use Rattle.lead_parts.specs.Lead.{lead_query}
use Rattle.table_bytes.specs.Writing.{write_table}
use Rattle.rule.specs.Calls.{Call, called}
use Rattle.rule.specs.Log.{Outcome, run}
use Rattle.queries.specs.Look as look
use Rattle.guarantees.specs.Counts.{Accepted, state_after, answers_from}

-- what a run comes to with zeros put behind its state
abbrev pub ran_longer : (extra : ℕ) → Outcome → Outcome
ran_longer extra r = record { state = longer extra r.state; answer = r.answer; log = r.log }

-- clause 11.5: s under the old limit, and t under the new one: t is s with zeros put behind, and each further call comes to the same
pub record Alike (old new : ℕ) (s t : State) : Type 0 where
  pub behind : t ≡ longer (new - old) s
  -- and so any run, which is so many slots (guarantees, RunSlots)
  pub run : (log : List ℕ) → run new t log ≡ ran_longer (new - old) (run old s log)
  pub lead : (p : ℕ) (log : List ℕ) → lead_query new t p log ≡ lead_query old s p log
  pub figures : (p j : ℕ) → queries.figures new t p j ≡ queries.figures old s p j
  pub chain : (p : ℕ) (names : List ℕ) → chains.chain new t p names ≡ chains.chain old s p names
  -- the writer of today on both sides, with 17 (clause 11.5)
  pub write : (buffer : List ℕ) → write_table new t.table buffer ≡ write_table old s.table buffer
  pub account : (p : ℕ) → look.account_query new t p ≡ look.account_query old s p
  pub standing : look.standing new t ≡ look.standing old s

-- clause 11.5 after any list of calls, none included
abbrev pub RunsOnAlike : Type 0
RunsOnAlike =
    (old new : ℕ) (o : OldState) → length o.places ≡ old → old ≤ new → (carry old new o).answer ≡ accepted → (calls : List Call)
    → let over = (carry old new o).state in
    (answers (called new) over calls ≡ answers (called old) (as_state o) calls)
    × Alike old new (end (called old) (as_state o) calls) (end (called new) over calls)

-- clause 11.5, carried over in the middle of a run: the answers are those of the run that was not broken off
abbrev pub CarriedMidRun : Type 0
CarriedMidRun =
    (old new : ℕ) → old ≤ new → (s : State) → Shaped old s → (before after : List Call)
    → let r = carry old new (kept (end (called old) s before)) in
    r.answer ≡ accepted → answers (called old) s (before ++ after) ≡ answers (called old) s before ++ answers (called new) r.state after

-- clause 11.4: N above the old limit is 23, though the new one has room for so many
abbrev pub CountAboveIs23 : Type 0
CountAboveIs23 = (old new : ℕ) (o : OldState) → old < o.count → carry old new o ≡ turned_down new (refusal 23)

-- clause 11.4: a sound old state is accepted, and what it is carried over to is a sound state of the new limit: what guarantees says of
-- those holds of it
abbrev pub SoundIsCarried : Type 0
SoundIsCarried =
    (old new : ℕ) (o : OldState) → length o.places ≡ old → old ≤ new → sound old (as_state o) ≡ true
    → let r = carry old new o in
    (r.answer ≡ accepted) × Shaped new r.state × (sound new r.state ≡ true)

-- Clause 11.5 from any sound state of an old unit: after any calls it is carried over, and the answers are those of the run that was not
-- broken off. One such state is that of a start with a need above its burst, which old units did not refuse (request 6).
abbrev pub CarriedFromSound : Type 0
CarriedFromSound =
    (old new : ℕ) → old ≤ new → (s : State) → Shaped old s → sound old s ≡ true → (before after : List Call)
    → let r = carry old new (kept (end (called old) s before)) in
    (r.answer ≡ accepted) × (answers (called old) s (before ++ after) ≡ answers (called old) s before ++ answers (called new) r.state after)

-- Clause 11.5 of an old unit's line from an accepted start: after any calls it is carried over, and what is answered in a stretch that
-- begins before that and ends after it is what a stretch without it hears. So ServiceBounds says of it what it says of that one.
abbrev pub CarriedFromStart : Type 0
CarriedFromStart =
    (old new : ℕ) → old ≤ new → (t : Table) (first : ℕ) → Accepted old t first → (before inside more : List Call)
    → let s = state_after old t first before in
    let r = carry old new (kept (state_after old t first (before ++ inside))) in
    (r.answer ≡ accepted) × (answers_from old s (inside ++ more) ≡ answers_from old s inside ++ answers_from new r.state more)
