-- The outcomes of the calls by value (clause 1.4) in the definitions' values: the state that is handed back and the answer; a run's with the
-- lent log; and a table that was read.
use Rattle.std.specs.Prelude.{List, ℕ}
use Rattle.lists.specs.Runs.{Result}
use Rattle.terms.specs.declared.answers.Outcome as code
use Rattle.terms.specs.declared.answers.Slot.{Slot}
use Rattle.terms.specs.Answers.{Answer, answer_of, slot_answer_of}
use Rattle.terms.specs.TableResult.{TableResult}
use Rattle.terms.specs.State.{State}
use Rattle.arbiter.specs.declared.state.Arbiter.{Arbiter}
use Rattle.arbiter.specs.declared.table.Table.{Table}
use Rattle.arbiter.specs.ByValue.{held, given}
use Rattle.rule.specs.Log.{Outcome}

abbrev pub slot_result_of : code.Outcome Arbiter Slot → Result State Answer
slot_result_of o = record { state = held o.after; answer = slot_answer_of o.answer }

abbrev pub outcome_of : code.Outcome Arbiter Unit → (log : List ℕ) → Outcome
outcome_of o log = record { state = held o.after; answer = answer_of o.answer; log = log }

abbrev pub read_result_of : code.Outcome Table Unit → TableResult
read_result_of o = record { table = given o.after; answer = answer_of o.answer }
