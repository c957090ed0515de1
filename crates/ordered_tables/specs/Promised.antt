-- Clause 8.4: a start from a table that was put in order is accepted at every first slot number up to its limit, and every list of calls
-- from it keeps to the service bounds (clauses 10.1 to 10.4) and to the table's needs (clause 10.5).
use Rattle.std.specs.Prelude.{◌≡◌, List, ℕ, ◌≤◌, length}
use Rattle.terms.specs.Limits.{max_slot}
use Rattle.terms.specs.Table.{Table, requestors_of, requestor_at}
use Rattle.terms.specs.TableResult.{accept}
use Rattle.rule.specs.Calls.{Call}
use Rattle.guarantees.specs.Counts.{Accepted, state_after, answers_from}
use Rattle.guarantees.specs.ServiceBounds.{ServiceBounds}
use Rattle.guarantees.specs.Need.{Pending, GrantedWithin}
use Rattle.ordering.specs.Order.{order}

-- clause 8.4, of the table u
pub record Promised (limit : ℕ) (u : Table) (first : ℕ) : Type 0 where
  pub start_accepted : Accepted limit u first
  pub service_bounds : (before inside : List Call) → ServiceBounds limit u first before inside
  -- of each place: its j transfers within its L slots
  pub need : (before inside : List Call) (p : ℕ) → Pending (state_after limit u first before) p (requestor_at p (requestors_of u)).need.0
      → GrantedWithin (requestor_at p (requestors_of u)).within.0 (answers_from limit (state_after limit u first before) inside) p (requestor_at p (requestors_of u)).need.0

-- clause 8.4
abbrev pub OrderedLineIsPromised : Type 0
OrderedLineIsPromised = (limit : ℕ) (t u : Table) (first : ℕ) → length t.requestors ≡ limit → order limit t ≡ accept u → first ≤ max_slot → Promised limit u first
