-- Room for more places (clauses 11.4 and 15.2): rows and accounts whose every field is 0, put behind a state's own.
use Rattle.std.specs.Prelude.{◌++◌, ℕ, replicate}
use Rattle.terms.specs.Table.{Table, no_requestor}
use Rattle.terms.specs.State.{State, no_account}

abbrev pub longer_table : (extra : ℕ) → Table → Table
longer_table extra t = record { denominator = t.denominator; count = t.count; requestors = t.requestors ++ replicate extra no_requestor }

abbrev pub longer : (extra : ℕ) → State → State
longer extra s = record { table = longer_table extra s.table; slot = s.slot; accounts = s.accounts ++ replicate extra no_account }
