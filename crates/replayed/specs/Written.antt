-- The service bounds (clauses 10.2 to 10.4) on the numbers of clause 10.8: what `replay`'s code wrote on one side, the floor and the
-- ceiling on the other.
use Rattle.std.specs.Prelude.{◌≡◌, List, [], ◌∷◌, ℕ, ◌+◌, ◌*◌, ◌≤◌, ◌<◌, ltb, eqb, length, take, drop}
use Rattle.lists.specs.Choices.{pick, in_range}
use Rattle.terms.specs.Table.{Table, requestors_of}
use Rattle.lists.specs.Runs.{answers}
use Rattle.terms.specs.State.{State, credit, account_at}
use Rattle.terms.specs.Answers.{Answer, accepted, answer_of}
use Rattle.terms.specs.declared.answers.Outcome.{Outcome}
use Rattle.arbiter.specs.declared.state.Arbiter.{Arbiter}
use Rattle.arbiter.specs.ByValue.{held}
use Rattle.rule.specs.Calls.{Call, ruled}
use Rattle.guarantees.specs.Counts.{slots_in, grants_to, grants_to_first, Waits}
use Rattle.guarantees.specs.ServiceBounds.{Ceiling, Floor, ruled_after}
use Rattle.replay.specs.Replay.{words_of, made_calls, replay, replayed_of}

-- f of each answer's three numbers, added up; one or two numbers left at the end are no answer
unfoldable pub threes : (ℕ → ℕ → ℕ → ℕ) → List ℕ → ℕ
threes f [] = 0
threes f (what ∷ []) = 0
threes f (what ∷ stamp ∷ []) = 0
threes f (what ∷ stamp ∷ place ∷ numbers) = f what stamp place + threes f numbers

-- the accepted slots
abbrev pub slots_written : List ℕ → ℕ
slots_written = threes (λ what stamp place. pick (in_range 1 2 what) 1 0)

-- the transfers granted to place p
abbrev pub grants_written : ℕ → List ℕ → ℕ
grants_written p = threes (λ what stamp place. pick (eqb what 1) (pick (eqb place p) 1 0) 0)

-- the transfers granted to the first k places
abbrev pub grants_written_to_first : ℕ → List ℕ → ℕ
grants_written_to_first k = threes (λ what stamp place. pick (eqb what 1) (pick (ltb place k) 1 0) 0)

-- the numbers of m answers that stand behind i others
abbrev pub answers_written : (i m : ℕ) → List ℕ → List ℕ
answers_written i m words = take (3 * m) (drop (3 * i) words)

-- clause 10.8: so counted, the numbers of answers say what the answers say
abbrev pub WrittenCounts : Type 0
WrittenCounts =
    (answered : List Answer)
    → (slots_written (words_of answered) ≡ slots_in answered)
    × ((p : ℕ) → grants_written p (words_of answered) ≡ grants_to p answered)
    × ((k : ℕ) → grants_written_to_first k (words_of answered) ≡ grants_to_first k answered)

-- what a stretch's numbers keep to: `before` leads to the stretch, and `inside` holds its calls
pub record Kept (t : Table) (first : ℕ) (before inside : List Call) (numbers : List ℕ) : Type 0 where
  -- they are the rule's answers (clause 10.2); then clauses 10.4 and 10.3
  pub by_rule : numbers ≡ words_of (answers ruled (ruled_after t first before) inside)
  pub ceiling : (k : ℕ) → 1 ≤ k → k ≤ t.count → Ceiling t.denominator (requestors_of t) k (slots_written numbers) (grants_written_to_first k numbers)
  pub floor : (p : ℕ) → p < t.count → Waits p (ruled_after t first before) inside
      → t.denominator ≤ credit (account_at p (ruled_after t first before).accounts)
      → Floor t.denominator (requestors_of t) p (slots_written numbers) (grants_written p numbers)

-- what the calls that were made keep to: the state at their end is the rule's, and so is every stretch of them
pub record Keeps (t : Table) (first : ℕ) (made : List Call) (state : State) (words : List ℕ) : Type 0 where
  pub ends : state ≡ ruled_after t first made
  pub stretch : (i m : ℕ) → i + m ≤ length made → Kept t first (take i made) (take m (drop i made)) (answers_written i m words)

-- Clause 10.8. The contract of `replay` is the equation here: r is what the code handed back, and `words` what it left in the lent answers.
-- If it answers that it started, the state that it handed back is the rule's, and every stretch of the calls that it made keeps to the
-- service bounds in the numbers that it wrote.
abbrev pub ReplayKeepsServiceBounds : Type 0
ReplayKeepsServiceBounds =
    (limit : ℕ) (t : Table) (first : ℕ) (calls old : List ℕ) (r : Outcome Arbiter Unit) (words : List ℕ) → length t.requestors ≡ limit
    → replayed_of r words ≡ replay limit t first calls old
    → answer_of r.answer ≡ accepted
    → Keeps t first (made_calls calls old) (held r.after) words
