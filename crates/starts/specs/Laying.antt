-- A table read from its bytes into words, with the checks of clause 13.2 up to 10. What is checked of the whole table comes after that.
use Rattle.std.specs.Prelude.{Result, Ok, Err}
use Rattle.terms.specs.declared.refusals.Cause.{Cause}
use Rattle.terms.specs.declared.refusals.Refusal.{Refusal}
use Rattle.terms.specs.Refusals.{refusal_of, resolve}
use Rattle.terms.specs.Table.{Table}
use Rattle.table_bytes.specs.Reading.{Read, read, stop, left_verdict}

-- the table that the words then are, or why they are none
pub data Laid : Type 0 where
  complete : Table → Laid
  unread : Refusal → Laid

-- by what was read, and what is left behind it
abbrev pub laid : Read Table → Laid
laid (read t rest) = resolve (left_verdict rest) (complete t) unread
laid (stop why) = unread why

-- the code's answer, on words that are the table t
abbrev pub laid_as : Table → Result Unit Cause → Laid
laid_as t (Ok _) = complete t
laid_as t (Err c) = unread (refusal_of c)
