-- What a table or a state that is passed by value is known to be: its array has its length. The paths go by the order of the fields of
-- both structs, and stand here alone. Assumes nothing.
use Rattle.std.proofs.Common.{◌≡◌, [], ◌∷◌, length}
use denote.Laws.{Is}
use denote.Struct.Declared.{row}
use denote.Struct.Laws.{val}
use Rattle.terms.specs.Limits.{max_places}
use Rattle.arbiter.specs.declared.table.Table.{Table}
use Rattle.arbiter.specs.declared.state.Arbiter.{Arbiter}
use Rattle.arbiter.specs.ByValue.{Full}
use Rattle.arbiter.specs.contracts.table.Table as table
use Rattle.arbiter.proofs.table.Table.TheLaws as table-laws
use Rattle.arbiter.specs.contracts.state.Arbiter as state
use Rattle.arbiter.proofs.state.Arbiter.TheLaws as state-laws

-- a parameter of the type Table
abbrev pub TablePassed : Table → Type 0
TablePassed t = Is (row table.the_type) t (val table.the_type table-laws.the_laws t ∷ [])

pub table_rows : (t : Table) → TablePassed t → length t.requestors ≡ max_places
table_rows t known = known.1.1.1.1.0.1.0.1

-- a parameter of the type Arbiter
abbrev pub StatePassed : Arbiter → Type 0
StatePassed s = Is (row state.the_type) s (val state.the_type state-laws.the_laws s ∷ [])

pub words_full : (s : Arbiter) → StatePassed s → Full s
words_full s known = known.1.1.0.1.0.1
