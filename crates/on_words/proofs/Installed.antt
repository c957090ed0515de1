-- Proves Installed: 17 is all that is found of what was taken, and without it the start is accepted. Assumes nothing.
use Rattle.std.proofs.Common.{◌≡◌, refl, ap, subst, ◌∙◌, List, [], ℕ, arith, length}
use Rattle.terms.specs.declared.place.Requestor.{Requestor}
use Rattle.terms.specs.Table.{Table, table_of, denominator_bounds, count_bounds, fields_verdict, need_fits_verdict, each_place, needs_fit_verdict, rate_sum_verdict, verdict_by}
use Rattle.terms.specs.Refusals.{Verdict, faultless, fault, then, resolve}
use Rattle.terms.specs.Figures.{admission_verdict}
use Rattle.terms.specs.TableResult.{accept, refuse}
use Rattle.terms.proofs.Checks.{held_open, then_open}
use Rattle.terms.proofs.Tables.{table_length, table_rows, rate_sum_left}
use Rattle.layout.specs.Words.{room_of_words}
use Rattle.layout.specs.Numbers.{numbers_row, numbers_table}
use Rattle.layout.proofs.Items.{length_places}
use Rattle.table_bytes.specs.Reading.{read, next, checked_read, field_read, rows_read, numbers_read, settled, read_table, places_by, numbers_by}
use Rattle.table_bytes.proofs.Accepted.{field_open, next_open, read_same, fields_rows_open, fields_rows_checked}
use Rattle.table_bytes.proofs.Opened.{nothing_left, read_on}
use Rattle.starts.specs.Starts.{begun}
use Rattle.guarantees.specs.FinishFigure.{former_finishes_verdict, former_verdict}
use Rattle.guarantees.proofs.FinishFigure.{only_seventeen_is_new, no_fitting_basin_turned_away}
use Rattle.on_words.specs.Installed.{former_numbers, former_last, FormerlyRead, StillRead, InstalledBytesBegin, InstalledNumbersBegin}
use Rattle.on_words.proofs.Begins.{bytes_begin_service_bounds, numbers_begin_service_bounds, accepted_bytes_tell_0, accepted_numbers_tell_0}

-- ---- the numbers

-- what was read of the bytes: a table that passes all but 6, and of which today's reader finds 17 or nothing
record Former (limit : ℕ) (bytes : List ℕ) (t : Table) (rest : List ℕ) : Type 0 where
  rows : length t.requestors ≡ limit
  checked : verdict_by fields_verdict limit t ≡ rate_sum_verdict t
  today : numbers_read limit bytes ≡ checked_read (needs_fit_verdict t) t rest

-- its table from its rows
module _ (limit d n : ℕ) (rows : List Requestor) (count : length rows ≡ n) where
  needs_of_rows : needs_fit_verdict (table_of limit d n rows) ≡ each_place (need_fits_verdict d) 0 rows
  unfolding table_of
  needs_of_rows = ap (each_place (need_fits_verdict d) 0) (table_rows limit d n rows count)

table_read : (v : Verdict) (limit d n : ℕ) (rows : List Requestor) (rest : List ℕ)
    → next (checked_read v rows rest) (λ r l. read (table_of limit d n r) l) ≡ checked_read v (table_of limit d n rows) rest
unfolding next
table_read faultless limit d n rows rest = refl
table_read (fault r) limit d n rows rest = refl

today_read : (limit : ℕ) (bytes : List ℕ) (d n : ℕ) (rows : List Requestor) (after-d after-n left : List ℕ) → field_read denominator_bounds bytes ≡ read d after-d
    → field_read (count_bounds limit) after-d ≡ read n after-n → length rows ≡ n → rows_read n d 0 after-n ≡ checked_read (each_place (need_fits_verdict d) 0 rows) rows left
    → numbers_read limit bytes ≡ checked_read (needs_fit_verdict (table_of limit d n rows)) (table_of limit d n rows) left
unfolding numbers_by places_by next
today_read limit bytes d n rows after-d after-n left first second count found =
    rw (first, second, found, needs_of_rows limit d n rows count) (table_read (each_place (need_fits_verdict d) 0 rows) limit d n rows left)

former_open : (limit : ℕ) (bytes : List ℕ) (t : Table) (rest : List ℕ) → former_numbers limit bytes ≡ read t rest → Former limit bytes t rest
unfolding numbers_by places_by
former_open limit bytes t rest whole =
    let d = next_open _ _ t rest whole in
    let n = next_open _ _ t rest d.second in
    let p = next_open _ _ t rest n.second in
    let same = read_same _ t _ rest p.second in
    let one = field_open denominator_bounds bytes d.value d.left d.first in
    let two = field_open (count_bounds limit) d.left n.value n.left n.first in
    let rows = fields_rows_open n.value d.value 0 n.left p.value p.left p.first in
    let found = fields_rows_checked n.value d.value 0 n.left p.value p.left p.first in
    let made : Former limit bytes (table_of limit d.value n.value p.value) p.left = record {
      rows = table_length limit d.value n.value p.value (omega (arith, rows.count, (held_open (count_bounds limit) n.value two.held).1));
      checked = rate_sum_left limit d.value n.value p.value rows.count fields_verdict one.held two.held rows.passes;
      today = today_read limit bytes d.value n.value p.value d.left n.left p.left d.first n.first rows.count found;
    } in
    subst (λ l. Former limit bytes t l) same.1 (subst (λ x. Former limit bytes x p.left) same.0 made)

-- ---- what is found today

module _ (limit : ℕ) (bytes : List ℕ) (t : Table) (former : FormerlyRead limit bytes t) where
  of_numbers : Former limit bytes t former.rest
  of_numbers = former_open limit bytes t former.rest former.numbers

  ended : (former.rest ≡ []) × (then (rate_sum_verdict t) (former_finishes_verdict t) ≡ faultless)
  unfolding former_last
  ended = nothing_left former.rest (then (rate_sum_verdict t) (former_finishes_verdict t)) former.last

  last : (rate_sum_verdict t ≡ faultless) × (former_finishes_verdict t ≡ faultless)
  last = then_open (rate_sum_verdict t) (former_finishes_verdict t) ended.1

  formerly : former_verdict limit t ≡ faultless
  unfolding former_verdict then
  formerly = rw (of_numbers.checked, last.0) last.1

  -- what admission finds is 17 or nothing, and so does the reader
  admission : admission_verdict limit t ≡ needs_fit_verdict t
  admission = only_seventeen_is_new limit t of_numbers.rows formerly

  today_whole : numbers_read limit bytes ≡ checked_read (needs_fit_verdict t) t []
  today_whole = of_numbers.today ∙ ap (checked_read (needs_fit_verdict t) t) ended.0

pub still_read : StillRead
unfolding read_table settled
still_read limit bytes t former = by (needs_fit_verdict t) refl
  where
    by : (v : Verdict) → needs_fit_verdict t ≡ v → read_table limit bytes ≡ resolve v (accept t) (refuse limit)
    by faultless e = read_on limit bytes t (today_whole limit bytes t former ∙ ap (λ v. checked_read v t []) e) (admission limit bytes t former ∙ e)
    by (fault r) e = rw (today_whole limit bytes t former ∙ ap (λ v. checked_read v t []) e)

pub installed_bytes_begin : InstalledBytesBegin
unfolding begun
installed_bytes_begin most bytes t first words right former fits small =
    let room = room_of_words words in
    let is_read = still_read room bytes t former ∙ ap (λ v. resolve v (accept t) (refuse room)) fits in
    let starts = no_fitting_basin_turned_away room t first (of_numbers room bytes t former).rows (formerly room bytes t former) fits small in
    let told = accepted_bytes_tell_0 most bytes first words right (rw is_read starts.answer) in
    (told, rw is_read at (bytes_begin_service_bounds most bytes first words told))

pub installed_numbers_begin : InstalledNumbersBegin
unfolding numbers_table
installed_numbers_begin most numbers first words right these former fits small =
    let rows = length_places (numbers_row numbers) 0 (room_of_words words) in
    let starts = no_fitting_basin_turned_away (room_of_words words) (numbers_table (room_of_words words) numbers) first rows former fits small in
    let told = accepted_numbers_tell_0 most numbers first words right these starts.answer in
    (told, numbers_begin_service_bounds most numbers first words told)
