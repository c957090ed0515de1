-- Clause 6.2: an accepted run over a log is as many calls of slot as the log has bytes, each of them accepted, so that what is promised of
-- lists of calls is promised of runs; and a run of a + b slots is a run of a and then a run of b.
use Rattle.std.specs.Prelude.{◌≡◌, List, ◌++◌, map, ℕ, length, replicate}
use Rattle.lists.specs.Runs
use Rattle.terms.specs.Table.{Table}
use Rattle.terms.specs.State.{State, Shaped}
use Rattle.terms.specs.Answers.{Answer, accepted}
use Rattle.rule.specs.Calls.{Call, slot, called}
use Rattle.rule.specs.Log.{grant_byte, run}
use Rattle.guarantees.specs.Counts.{in_slot, slots_in, Accepted, state_after, answers_from}

-- so many calls of slot
abbrev pub slots : ℕ → List Call
slots k = replicate k slot

-- the byte of a slot's answer (clause 6.1). An answer of another kind would be 255 too; `all_accepted` says that there is none.
abbrev pub answer_byte : Answer → ℕ
answer_byte = in_slot 255 grant_byte

-- clause 6.2: a run over `old` as slots
pub record AsSlots (limit : ℕ) (s : State) (old : List ℕ) : Type 0 where
  pub log : (run limit s old).log ≡ map answer_byte (answers_from limit s (slots (length old)))
  pub state : (run limit s old).state ≡ Runs.end (called limit) s (slots (length old))
  pub all_accepted : slots_in (answers_from limit s (slots (length old))) ≡ length old

-- clause 6.2
abbrev pub RunIsSlots : Type 0
RunIsSlots = (limit : ℕ) (s : State) (old : List ℕ) → Shaped limit s → (run limit s old).answer ≡ accepted → AsSlots limit s old

-- also after any calls from an accepted start (clause 6.2), whose state has its shape: so the service bounds speak of the run, with
-- `inside` its slots
abbrev pub RunFromStart : Type 0
RunFromStart = (limit : ℕ) (t : Table) (first : ℕ) → Accepted limit t first → (before : List Call) (old : List ℕ)
    → (run limit (state_after limit t first before) old).answer ≡ accepted → AsSlots limit (state_after limit t first before) old

-- clause 6.2: a run over `one` and then, on the state that it hands back, a run over `two`
pub record Split (limit : ℕ) (s : State) (one two : List ℕ) : Type 0 where
  pub first_accepted : (run limit s one).answer ≡ accepted
  pub second_accepted : (run limit (run limit s one).state two).answer ≡ accepted
  pub log : (run limit s (one ++ two)).log ≡ (run limit s one).log ++ (run limit (run limit s one).state two).log
  pub state : (run limit s (one ++ two)).state ≡ (run limit (run limit s one).state two).state

-- clause 6.2
abbrev pub RunSplits : Type 0
RunSplits = (limit : ℕ) (s : State) (one two : List ℕ) → Shaped limit s → (run limit s (one ++ two)).answer ≡ accepted → Split limit s one two
