-- A start from a table's bytes: what it comes to where they are refused, and once they are read; and a reading as a start. Assumes nothing.
use Rattle.std.proofs.Common.{◌≡◌, refl, ap, sym, List, [], ℕ}
use Rattle.terms.specs.declared.refusals.Refusal.{Refusal}
use Rattle.terms.specs.Table.{Table, rate_sum_verdict}
use Rattle.terms.specs.Refusals.{Verdict, faultless, fault, gate, then, resolve}
use Rattle.terms.specs.Figures.{finishes_verdict, admission_verdict}
use Rattle.terms.specs.Start.{start_verdict, start, opening, no_state, turned_down}
use Rattle.terms.specs.TableResult.{TableResult, accept, refuse}
use Rattle.table_bytes.specs.Reading.{numbers_read, last_verdict, settled, read_table}
use Rattle.table_bytes.proofs.Opened.{numbers_open, Ends, turned_down_lem, carried_out, read_ends}
use Rattle.starts.specs.Laying.{complete, unread, laid}
use Rattle.starts.specs.Starts.{begun}
use Rattle.starts.proofs.Rows.{Stopped, at_number, left_over, laid_none, laid_all}

-- ---- by the reader's verdict

begun_stop : (room : ℕ) (t : TableResult) (why : Refusal) (first : ℕ) → refuse room why ≡ t → turned_down room why ≡ begun room t first
unfolding begun
begun_stop room t why first e = ap (λ x. begun room x first) e

-- the reader's last checks of a table are the first of its start
begun_admitted : (room : ℕ) (t : Table) (first : ℕ) (v : Verdict) → admission_verdict room t ≡ v → begun room (resolve v (accept t) (refuse room)) first ≡ start room t first
unfolding begun start start_verdict then
begun_admitted room t first faultless e = refl
begun_admitted room t first (fault r) e = rw e

-- ---- by what the words hold

module _ (room : ℕ) (bytes : List ℕ) (first : ℕ) where
  pub begun_none : (why : Refusal) → unread why ≡ laid (numbers_read room bytes) → turned_down room why ≡ begun room (read_table room bytes) first
  unfolding read_table settled last_verdict
  begun_none why e = begun_stop room (read_table room bytes) why first (by (laid_none (numbers_read room bytes) why e))
    where
      by : Stopped (numbers_read room bytes) why → refuse room why ≡ read_table room bytes
      by (at_number whole) = rw whole
      by (left_over t rest whole fails) = rw (whole, fails (then (rate_sum_verdict t) (finishes_verdict t)))

  -- the checks of a start, of which 1 to 5 and 17 pass
  pub begun_all : (t : Table) → complete t ≡ laid (numbers_read room bytes) → start room t first ≡ begun room (read_table room bytes) first
  unfolding read_table settled last_verdict admission_verdict gate then
  begun_all t e =
      let whole = laid_all (numbers_read room bytes) t e in
      let checked = (numbers_open room bytes t [] whole).checked in
      rw (whole, ← checked) (sym (begun_admitted room t first (admission_verdict room t) refl))

-- ---- a reading is a start at slot 0

-- its table and its answer are the reading's: the start's own checks find no fault in a table that was read
pub read_of_start : (room : ℕ) (bytes : List ℕ)
    → ◌≡◌ {A = TableResult} (record { table = (begun room (read_table room bytes) 0).state.table; answer = (begun room (read_table room bytes) 0).answer }) (read_table room bytes)
unfolding begun start start_verdict opening no_state gate then
read_of_start room bytes = by (read_ends room bytes) where
  by : Ends room bytes
      → ◌≡◌ {A = TableResult} (record { table = (begun room (read_table room bytes) 0).state.table; answer = (begun room (read_table room bytes) 0).answer }) (read_table room bytes)
  by (turned_down_lem why e) = rw e
  by (carried_out t e ok) = rw (e, ok)
