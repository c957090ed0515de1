-- Clause 7.4: the reported wait and the finish figure of a place for j transfers, as a call. Its 5 names the place that was asked for.
use Rattle.std.specs.Prelude.{ℕ, Result, Ok, Err}
use Rattle.terms.specs.declared.refusals.Refusal.{Refusal}
use Rattle.terms.specs.declared.refusals.Cause.{Cause}
use Rattle.terms.specs.declared.answers.PlaceFigures.{PlaceFigures}
use Rattle.terms.specs.State.{State, place_verdict}
use Rattle.terms.specs.Refusals.{Verdict, refusal_of, then, resolve}
use Rattle.terms.specs.Table.{requestors_of, need_bounds, held_to}
use Rattle.terms.specs.Figures.{wait, finish}

-- both in slots
pub data FiguresAnswer : Type 0 where
  figured : (wait finish : ℕ) → FiguresAnswer
  refused : Refusal → FiguresAnswer

-- 23, 11, 5 (clause 13.11)
unfoldable pub figures_verdict : ℕ → State → (place j : ℕ) → Verdict
figures_verdict limit s p j = then (place_verdict limit s p) (held_to (need_bounds p) j)

-- clause 7.4; `limit` is how many places there is room for
unfoldable pub figures : ℕ → State → (place j : ℕ) → FiguresAnswer
figures limit s p j =
    resolve (figures_verdict limit s p j)
    (figured
    (wait s.table.denominator (requestors_of s.table) p)
    (finish s.table.denominator (requestors_of s.table) p j))
    refused

-- the code's answer in these values
abbrev pub figures_answer_of : Result PlaceFigures Cause → FiguresAnswer
figures_answer_of (Ok f) = figured f.wait.0 f.finish.0
figures_answer_of (Err c) = refused (refusal_of c)
