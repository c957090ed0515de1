-- Clause 11.4: a state that was made under an old limit is carried over to a new one. Refused, the state handed back is all 0, as of every
-- call that makes a state (clause 1.6).
use Rattle.std.specs.Prelude.{List, map, ℕ, ◌-◌}
use Rattle.lists.specs.Pairs.{paired}
use Rattle.lists.specs.Runs.{Result}
use Rattle.terms.specs.declared.place.Requestor.{Requestor}
use Rattle.terms.specs.declared.place.Account.{Account}
use Rattle.terms.specs.Refusals.{Verdict, faultless, refusal, gate, resolve}
use Rattle.terms.specs.Answers.{Answer, accepted}
use Rattle.terms.specs.State.{State, credit, backlog, sound}
use Rattle.terms.specs.Start.{turned_down}
use Rattle.terms.specs.Longer.{longer}

-- ---- an old state, as a unit from before request 5 has it. This is fixed, and nothing of a state of today is in it: what later requests
-- give to a state, an old one did not have.

-- a place: n, b, j and L of its requestor, and its c and q
pub record OldPlace : Type 0 where
  pub rate : ℕ
  pub burst : ℕ
  pub need : ℕ
  pub within : ℕ
  pub credit : ℕ
  pub backlog : ℕ

-- D, N, the slot number, and as many places as it has room for
pub record OldState : Type 0 where
  pub denominator : ℕ
  pub count : ℕ
  pub slot : ℕ
  pub places : List OldPlace

-- ---- the same as a state of today, with the room that it had

abbrev pub old_row : OldPlace → Requestor
old_row x = record { rate = x.rate; burst = x.burst; need = record { 0 = x.need }; within = record { 0 = x.within } }

abbrev pub old_account : OldPlace → Account
old_account x = record { credit = x.credit; backlog = record { 0 = x.backlog } }

abbrev pub as_state : OldState → State
as_state o = record {
  table = record { denominator = o.denominator; count = o.count; requestors = map old_row o.places };
  slot = record { 0 = o.slot };
  accounts = map old_account o.places;
}

-- what an old unit had of a state
abbrev pub kept_place : Requestor → Account → OldPlace
kept_place r a = record { rate = r.rate; burst = r.burst; need = r.need.0; within = r.within.0; credit = credit a; backlog = backlog a }

abbrev pub kept : State → OldState
kept s = record {
  denominator = s.table.denominator;
  count = s.table.count;
  slot = s.slot.0;
  places = paired kept_place s.table.requestors s.accounts;
}

-- ---- carried over

-- 23, with the old limit (clauses 11.4 and 13.14)
abbrev pub carry_verdict : (old : ℕ) → OldState → Verdict
carry_verdict old o = gate (refusal 23) (sound old (as_state o)) faultless

-- clause 11.4, from the old limit to the new one: the same table, slot number and accounts, and zeros past the last place
unfoldable pub carry : (old new : ℕ) → OldState → Result State Answer
carry old new o =
    resolve (carry_verdict old o)
    (record { state = longer (new - old) (as_state o); answer = accepted })
    (turned_down new)
