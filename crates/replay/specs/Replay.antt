-- Clause 10.8: a list of calls, given as numbers, made from a start, each on what its forerunner handed back. The calls are lent three
-- numbers to a call, and each answer is written as three numbers, so that a caller in any language can read them.
use Rattle.std.specs.Prelude.{List, [], ◌∷◌, ℕ, zero, suc, ◌/◌, length, take}
use Rattle.lists.specs.Sums.{joined}
use Rattle.lists.specs.Overwriting.{written_over}
use Rattle.lists.specs.Runs.{Result, end, answers}
use Rattle.terms.specs.Table.{Table}
use Rattle.terms.specs.State.{State}
use Rattle.terms.specs.declared.answers.Outcome.{Outcome}
use Rattle.terms.specs.Answers.{Answer, accepted, granted, idle, refused, unless, answer_of}
use Rattle.terms.specs.Start.{start}
use Rattle.arbiter.specs.declared.state.Arbiter.{Arbiter}
use Rattle.arbiter.specs.ByValue.{held}
use Rattle.rule.specs.Calls.{Call, post, slot, called}
use Rattle.replay.specs.declared.Call as code
use Rattle.replay.specs.declared.Call.TheVariants as code_call

-- clause 10.8: a call is three numbers: what it is (0: a slot; else a post), the place, the count; a slot passes over the last two
unfoldable pub call_of : (what place count : ℕ) → Call
call_of zero place count = slot
call_of (suc what) place count = post place count

-- the calls, three numbers to each; one or two numbers left at the end are no call
unfoldable pub calls_of : List ℕ → List Call
calls_of [] = []
calls_of (what ∷ []) = []
calls_of (what ∷ place ∷ []) = []
calls_of (what ∷ place ∷ count ∷ calls) = call_of what place count ∷ calls_of calls

-- clause 10.8: as many calls are made as the lent list of answers has room for
unfoldable pub made_calls : (calls old : List ℕ) → List Call
made_calls calls old = take (length old / 3) (calls_of calls)

-- clause 10.8: an answer is three numbers, and the first says which answer it is; no refusal of a call names a place
unfoldable pub answer_words : Answer → List ℕ
answer_words accepted = 0 ∷ 0 ∷ 0 ∷ []
answer_words (granted stamp p) = 1 ∷ stamp ∷ p ∷ []
answer_words (idle stamp) = 2 ∷ stamp ∷ 0 ∷ []
answer_words (refused r) = 3 ∷ r.number ∷ 0 ∷ []

-- the numbers of the answers, in order
abbrev pub words_of : List Answer → List ℕ
words_of answered = joined answer_words answered

-- what a replay comes to: the state, what the start answered, and the lent answers afterwards
pub record Replayed : Type 0 where
  pub state : State
  pub answer : Answer
  pub words : List ℕ

-- what an accepted start and the calls from it come to, by the state and the numbers after the calls
abbrev pub after_calls : State → (words : List ℕ) → Replayed
after_calls s words = record { state = s; answer = accepted; words = words }

-- the calls from a state, each on what its forerunner handed back
unfoldable pub calls_from : ℕ → State → (calls old : List ℕ) → Replayed
calls_from limit s calls old =
    after_calls
    (end (called limit) s (made_calls calls old))
    (written_over (words_of (answers (called limit) s (made_calls calls old))) old)

-- what follows a start: an accepted one the calls; a refused one nothing, and the lent answers are left as they were (clause 10.8)
unfoldable pub continued : ℕ → Result State Answer → (calls old : List ℕ) → Replayed
continued limit begun calls old =
    unless begun.answer
    (λ why. record { state = begun.state; answer = refused why; words = old })
    (calls_from limit begun.state calls old)

-- clause 10.8: a start and the calls from it; `limit` is the largest N
unfoldable pub replay : ℕ → Table → (first : ℕ) → (calls old : List ℕ) → Replayed
replay limit t first calls old = continued limit (start limit t first) calls old

-- the code's outcome and the lent answers in these values
abbrev pub replayed_of : Outcome Arbiter Unit → (words : List ℕ) → Replayed
replayed_of o words = record { state = held o.after; answer = answer_of o.answer; words = words }

-- what the code's call asks for
abbrev pub asked : code.Call → Call
asked code_call.Slot = slot
asked (code_call.Post place count) = post place count.0
