-- A state and a table that are handed in by value (clause 1.4), as the definitions have them.
use Rattle.std.specs.Prelude.{◌≡◌, length}
use Rattle.lists.specs.Runs.{Result}
use Rattle.terms.specs.Limits.{max_places}
use Rattle.terms.specs.declared.answers.Outcome.{Outcome}
use Rattle.terms.specs.Answers.{Answer, answer_of}
use Rattle.terms.specs.Table.{Table}
use Rattle.terms.specs.State.{State}
use Rattle.layout.specs.Words.{word_count, state_of}
use Rattle.arbiter.specs.declared.state.Arbiter.{Arbiter}
use Rattle.arbiter.specs.declared.table.Table as code

-- the state that an arbiter's words are (clause 1.4)
abbrev pub held : Arbiter → State
held s = state_of s.words

-- the table that is handed in
abbrev pub given : code.Table → Table
given t = record { denominator = t.denominator; count = t.count; requestors = t.requestors }

-- what a call by value that has nothing to tell comes to: a start, a carrying over, a post
abbrev pub result_of : Outcome Arbiter Unit → Result State Answer
result_of o = record { state = held o.after; answer = answer_of o.answer }

-- an arbiter has the words of a state with room for the largest N
abbrev pub Full : Arbiter → Type 0
Full s = length s.words ≡ word_count max_places

-- every word of a state is read: two arbiters that are the same state are the same (clause 1.4)
abbrev pub HeldTells : Type 0
HeldTells = (s t : Arbiter) → Full s → Full t → held s ≡ held t → s ≡ t
