-- What a call that hands back a table comes to: the table, all 0 if the call is refused (clause 1.6), and its answer.
use Rattle.std.specs.Prelude.{ℕ}
use Rattle.terms.specs.declared.refusals.Refusal.{Refusal}
use Rattle.terms.specs.Table.{Table, no_table}
use Rattle.terms.specs.Answers.{Answer, accepted, refused}

pub record TableResult : Type 0 where
  pub table : Table
  pub answer : Answer

abbrev pub accept : Table → TableResult
accept t = record { table = t; answer = accepted }

-- `limit` is how many places there is room for
abbrev pub refuse : ℕ → Refusal → TableResult
refuse limit r = record { table = no_table limit; answer = refused r }
