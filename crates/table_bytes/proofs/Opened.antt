-- What a reading takes from its bytes; that an accepted one has taken them all and its table passes admission, and the other way round;
-- and how any reading ends. Assumes nothing.
use Rattle.std.proofs.Common.{◌≡◌, refl, ap, sym, subst, ◌∙◌, List, [], ◌∷◌, ℕ, suc, ◌≤◌, arith, eqb-true, length}
use Rattle.lists.specs.Sums.{joined}
use Rattle.terms.specs.declared.refusals.Refusal.{Refusal}
use Rattle.terms.specs.declared.place.Requestor.{Requestor}
use Rattle.terms.specs.Table.{Table, row_numbers, table_of, denominator_bounds, count_bounds, offered_row_verdict, rate_sum_verdict, offered_verdict}
use Rattle.terms.specs.Refusals.{Verdict, faultless, fault, gate, then, resolve}
use Rattle.terms.specs.Figures.{finishes_verdict, admission_verdict}
use Rattle.terms.proofs.Checks.{gate_open, then_open, held_open, passed}
use Rattle.terms.specs.TableResult.{TableResult, accept, refuse}
use Rattle.table_bytes.specs.Reading.{Read, read, stop, numbers_read, left_verdict, last_verdict, settled, read_table, places_by, numbers_by}
use Rattle.terms.proofs.Tables.{table_length, rate_sum_left, refuse_accept}
use Rattle.table_bytes.proofs.Accepted.{Spent, spent_more, field_open, field_spent, next_open, read_same, rows_open}

-- what was taken from the bytes of a table whose numbers were read: each is within its limits, so that 6 is left of the table's checks
pub record Taken (limit : ℕ) (bytes : List ℕ) (t : Table) (rest : List ℕ) : Type 0 where
  pub d : ℕ
  pub n : ℕ
  pub rows : List Requestor
  pub count : length rows ≡ n
  pub few : n ≤ limit
  pub table : table_of limit d n rows ≡ t
  pub checked : offered_verdict limit t ≡ rate_sum_verdict t
  pub spent : Spent (d ∷ n ∷ joined row_numbers rows) bytes rest

pub numbers_open : (limit : ℕ) (bytes : List ℕ) (t : Table) (rest : List ℕ) → numbers_read limit bytes ≡ read t rest → Taken limit bytes t rest
unfolding numbers_by places_by
numbers_open limit bytes t rest whole =
    let d = next_open _ _ t rest whole in
    let n = next_open _ _ t rest d.second in
    let p = next_open _ _ t rest n.second in
    let same = read_same _ t _ rest p.second in
    let one = field_open denominator_bounds bytes d.value d.left d.first in
    let two = field_open (count_bounds limit) d.left n.value n.left n.first in
    let rows = rows_open n.value d.value 0 n.left p.value p.left p.first in
    let numbers = spent_more (d.value ∷ []) (n.value ∷ joined row_numbers p.value) (field_spent one) (spent_more (n.value ∷ []) (joined row_numbers p.value) (field_spent two) rows.spent) in
    record {
      d = d.value;
      n = n.value;
      rows = p.value;
      count = rows.count;
      few = (held_open (count_bounds limit) n.value two.held).1;
      table = same.0;
      checked = rw same.0 at (rate_sum_left limit d.value n.value p.value rows.count offered_row_verdict one.held two.held rows.passes);
      spent = subst (λ l. Spent (d.value ∷ n.value ∷ joined row_numbers p.value) bytes l) same.1 numbers;
    }

-- the table has a row for each place that there is room for
pub rows_taken : {limit : ℕ} {bytes : List ℕ} {t : Table} {rest : List ℕ} → Taken limit bytes t rest → length t.requestors ≡ limit
rows_taken {limit} taken =
    sym (ap (λ x. length x.requestors) taken.table) ∙ table_length limit taken.d taken.n taken.rows (omega (arith, taken.count, taken.few))

-- ---- an accepted reading

-- it took all its bytes, and its table passes admission
pub record Opened (limit : ℕ) (bytes : List ℕ) (t : Table) : Type 0 where
  pub numbers : numbers_read limit bytes ≡ read t []
  pub taken : Taken limit bytes t []
  pub admitted : admission_verdict limit t ≡ faultless

-- 10 passes: nothing is left; and so does what is tested after it
pub nothing_left : (rest : List ℕ) (more : Verdict) → then (left_verdict rest) more ≡ faultless → (rest ≡ []) × (more ≡ faultless)
nothing_left [] more e = (refl, (then_open _ _ e).1)
nothing_left (x ∷ rest) more e = let none = eqb-true (suc (length rest)) 0 (gate_open _ _ _ (then_open _ _ e).0).0 in absurd (omega (arith, none))

settled_open : (limit : ℕ) (r : Read Table) (t : Table) → settled limit r ≡ accept t → (rest : List ℕ) × (r ≡ read t rest) × (last_verdict t rest ≡ faultless)
unfolding settled
settled_open limit (read u rest) t e = told (last_verdict u rest) refl e where
  told : (v : Verdict) → last_verdict u rest ≡ v → resolve v (accept u) (refuse limit) ≡ accept t → (l : List ℕ) × (read u rest ≡ read t l) × (last_verdict t l ≡ faultless)
  told faultless f g = let same : u ≡ t = ap (λ (x : TableResult). x.table) g in (rest, ap (λ x. read x rest) same, rw same at f)
  told (fault why) f g = refuse_accept limit why t g
settled_open limit (stop why) t e = refuse_accept limit why t e

pub table_open : (limit : ℕ) (bytes : List ℕ) (t : Table) → read_table limit bytes ≡ accept t → Opened limit bytes t
unfolding read_table last_verdict admission_verdict
table_open limit bytes t e =
    let (rest, whole, last) = settled_open limit (numbers_read limit bytes) t e in
    let (none, checked) = nothing_left rest (then (rate_sum_verdict t) (finishes_verdict t)) last in
    let numbers = whole ∙ ap (read t) none in
    let taken = numbers_open limit bytes t [] numbers in
    record { numbers = numbers; taken = taken; admitted = rw taken.checked checked }

-- ---- and the other way round

-- the numbers are read to the end, and the table passes admission
pub read_on : (limit : ℕ) (bytes : List ℕ) (t : Table) → numbers_read limit bytes ≡ read t [] → admission_verdict limit t ≡ faultless → read_table limit bytes ≡ accept t
unfolding read_table settled last_verdict admission_verdict gate then
read_on limit bytes t whole ok = let both = then_open _ _ ok in rw (whole, (passed offered_row_verdict limit t both.0).sum, both.1)

-- ---- how a reading ends

pub data Ends (limit : ℕ) (bytes : List ℕ) : Type 0 where
  turned_down_lem : (why : Refusal) → read_table limit bytes ≡ refuse limit why → Ends limit bytes
  carried_out : (t : Table) → read_table limit bytes ≡ accept t → admission_verdict limit t ≡ faultless → Ends limit bytes

pub read_ends : (limit : ℕ) (bytes : List ℕ) → Ends limit bytes
unfolding read_table settled
read_ends limit bytes = by (numbers_read limit bytes) refl where
  by : (r : Read Table) → numbers_read limit bytes ≡ r → Ends limit bytes
  by (read t rest) e = told (last_verdict t rest) refl where
    told : (v : Verdict) → last_verdict t rest ≡ v → Ends limit bytes
    told faultless f = let reads : read_table limit bytes ≡ accept t = rw (e, f) in carried_out t reads (table_open limit bytes t reads).admitted
    told (fault why) f = turned_down_lem why (rw (e, f))
  by (stop why) e = turned_down_lem why (rw e)
