-- The arbiter's state (clause 1.4), and test 23, whether it is sound (clause 11.1).
use Rattle.std.specs.Prelude.{◌≡◌, Bool, true, false, ◌&&◌, List, ℕ, ltb, leb, eqb, length, take, drop, get_or}
use Rattle.lists.specs.Sums.{total, every, up_to}
use Rattle.terms.specs.declared.units.Slots.{Slots}
use Rattle.terms.specs.declared.place.Requestor.{Requestor}
use Rattle.terms.specs.declared.place.Account.{Account}
use Rattle.terms.specs.Limits.{max_backlog, max_slot}
use Rattle.terms.specs.Refusals.{Verdict, faultless, refusal, gate, resolve}
use Rattle.terms.specs.Table.{Table, burst, table_verdict}

-- the table, the present slot number and the account of each place (clause 1.4)
pub record State : Type 0 where
  pub table : Table
  pub slot : Slots
  pub accounts : List Account

-- the credit c and the backlog q of an account
abbrev pub credit : Account → ℕ
credit a = a.credit

abbrev pub backlog : Account → ℕ
backlog a = a.backlog.0

-- an account past place N−1: both fields are 0
abbrev pub no_account : Account
no_account = record { credit = 0; backlog = record { 0 = 0 } }

abbrev pub account_clear : Account → Bool
account_clear a = eqb (credit a) 0 && eqb (backlog a) 0

abbrev pub backlog_fits : Account → Bool
backlog_fits a = leb (backlog a) max_backlog

-- the account of place p
abbrev pub account_at : ℕ → List Account → Account
account_at p accounts = get_or accounts p no_account

-- the state's lists have `limit` elements each
pub record Shaped (limit : ℕ) (s : State) : Type 0 where
  pub rows : length s.table.requestors ≡ limit
  pub accounts : length s.accounts ≡ limit

-- the credits of the first k places sum to at most their bursts (clause 5.8)
abbrev pub credits_hold : List Requestor → List Account → ℕ → Bool
credits_hold rs accounts k = leb (total credit (take k accounts)) (total burst (take k rs))

abbrev pub is_faultless : Verdict → Bool
is_faultless v = resolve v true (λ r. false)

-- what the accounts of the N places hold: every backlog within its limit, and every credit sum
unfoldable pub accounts_hold : ℕ → List Requestor → List Account → Bool
accounts_hold n rs accounts = every backlog_fits (take n accounts) && up_to n (credits_hold rs accounts)

-- the state breaks no rule (clauses 11.1 and 12.23); `limit` is how many places there is room for
unfoldable pub sound : ℕ → State → Bool
sound limit s =
    is_faultless (table_verdict limit s.table)
    && (leb s.slot.0 max_slot
    && (accounts_hold s.table.count s.table.requestors s.accounts
    && every account_clear (drop s.table.count s.accounts)))

-- clause 12.11: the place is one of the table's, and then what follows
abbrev pub at_place : State → (place : ℕ) → Verdict → Verdict
at_place s p next = gate (refusal 11) (ltb p s.table.count) next

-- what every query about a place is checked for first: clause 12.23, then clause 12.11
unfoldable pub place_verdict : ℕ → State → (place : ℕ) → Verdict
place_verdict limit s p = gate (refusal 23) (sound limit s) (at_place s p faultless)
