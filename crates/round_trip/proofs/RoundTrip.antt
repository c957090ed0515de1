-- Bytes written from an accepted table read back as it; accepted bytes written again are the same bytes. Assumes nothing.
use Rattle.std.proofs.Common.{◌≡◌, refl, ap, sym, ◌∙◌, List, [], ◌∷◌, ◌++◌, append-nil, append_assoc, ℕ, suc, ◌≤◌, arith, le-leb, length, take, drop, take_at, length-take-le}
use lib.Seq.{drop-append_seam}
use Rattle.lists.specs.Sums.{joined}
use Rattle.lists.specs.Overwriting.{written_over}
use Rattle.lists.proofs.Sums.{joined_append}
use Rattle.groups.specs.Groups.{max_number, number_bytes}
use Rattle.groups.specs.Inverse.{Bytes}
use Rattle.groups.proofs.Inverse.{bytes_append, five_bytes}
use Rattle.groups.proofs.Inverse as groups
use Rattle.terms.specs.declared.place.Requestor.{Requestor}
use Rattle.terms.specs.Table.{Table, row_numbers, requestors_of, table_of, Bounds, denominator_bounds, count_bounds, rate_bounds, burst_bounds, need_bounds, within_bounds, held_to, fields_verdict, offered_row_verdict, each_place, offered_verdict}
use Rattle.terms.specs.Refusals.{Verdict, faultless, fault, gate, then, resolve}
use Rattle.terms.specs.Figures.{admission_verdict}
use Rattle.terms.specs.TableResult.{accept}
use Rattle.terms.proofs.Checks.{then_open, held_open, Passed, passed}
use Rattle.terms.proofs.Tables.{table_rows, table_whole_lem}
use Rattle.table_bytes.specs.Reading.{read, next, field_read, items_read, row_fields_read, row_read, rows_read, numbers_read, read_table, places_by, numbers_by}
use Rattle.table_bytes.specs.Writing.{table_numbers, table_bytes, write_verdict, wrote, refused, TableWritten, write_table}
use Rattle.table_bytes.proofs.Opened.{Taken, table_open, read_on}
use Rattle.round_trip.specs.RoundTrip.{BytesReadBack, WrittenReadsBack, ReadWritesBack}

-- ---- written, then read

-- a number ahead of others
field_reads : (b : Bounds) (x : ℕ) (more rest : List ℕ) → b.high ≤ max_number → held_to b x ≡ faultless
    → field_read b (joined number_bytes (x ∷ more) ++ rest) ≡ read x (joined number_bytes more ++ rest)
unfolding field_read next joined
field_reads b x more rest small held =
    let tail = joined number_bytes more ++ rest in
    let back = groups.number_reads_back x tail (omega (arith, (held_open b x held).1)) in
    rw (append_assoc (number_bytes x) (joined number_bytes more) rest, back, held) (ap (λ l. read x l) (drop-append_seam (number_bytes x) tail))

none_left : (rest : List ℕ) → joined number_bytes [] ++ rest ≡ rest
unfolding joined
none_left rest = refl

row_fields_read_lem : (d p : ℕ) (r : Requestor) (rest : List ℕ) → d ≤ max_number → fields_verdict d p r ≡ faultless
    → row_fields_read d p (joined number_bytes (row_numbers r) ++ rest) ≡ read r rest
unfolding row_fields_read next fields_verdict
row_fields_read_lem d p r rest small ok =
    let n = then_open _ _ ok in
    let b = then_open _ _ n.1 in
    let j = then_open _ _ b.1 in
    rw (
      field_reads (rate_bounds d p) r.rate (r.burst ∷ r.need.0 ∷ r.within.0 ∷ []) rest small n.0,
      field_reads (burst_bounds d p) r.burst (r.need.0 ∷ r.within.0 ∷ []) rest (omega arith) b.0,
      field_reads (need_bounds p) r.need.0 (r.within.0 ∷ []) rest (omega arith) j.0,
      field_reads (within_bounds p) r.within.0 [] rest (omega arith) j.1,
      none_left rest,
    )

row_reads : (d p : ℕ) (r : Requestor) (rest : List ℕ) → d ≤ max_number → offered_row_verdict d p r ≡ faultless
    → row_read d p (joined number_bytes (row_numbers r) ++ rest) ≡ read r rest
unfolding row_read next offered_row_verdict
row_reads d p r rest small ok = let (row, fits) = then_open _ _ ok in rw (row_fields_read_lem d p r rest small row, fits)

rows_reads : (d p : ℕ) (rows : List Requestor) (rest : List ℕ) → d ≤ max_number → each_place (offered_row_verdict d) p rows ≡ faultless
    → rows_read (length rows) d p (joined number_bytes (joined row_numbers rows) ++ rest) ≡ read rows rest
unfolding items_read next joined each_place
rows_reads d p [] rest small ok = refl
rows_reads d p (r ∷ rows) rest small ok =
    let checked = then_open _ _ ok in
    rw (
      joined_append number_bytes (row_numbers r) (joined row_numbers rows),
      append_assoc (joined number_bytes (row_numbers r)) (joined number_bytes (joined row_numbers rows)) rest,
      row_reads d p r (joined number_bytes (joined row_numbers rows) ++ rest) small checked.0,
      rows_reads d (suc p) rows rest small checked.1,
    )

table_numbers_read : (limit : ℕ) (t : Table) → limit ≤ max_number → length t.requestors ≡ limit → Passed offered_row_verdict limit t → numbers_read limit (table_bytes t ++ []) ≡ read t []
unfolding numbers_by places_by next table_bytes table_numbers
table_numbers_read limit t small long ok =
    let few : t.count ≤ length t.requestors = omega (arith, (held_open (count_bounds limit) t.count ok.count).1) in
    let rows = rows_reads t.denominator 0 (requestors_of t) [] (omega (arith, (held_open denominator_bounds t.denominator ok.denominator).1)) ok.rows in
    let all = rw (length-take-le t.count t.requestors few) at rows in
    let whole = rw long at (table_whole_lem t few ok.clear) in
    rw (
      field_reads denominator_bounds t.denominator (t.count ∷ joined row_numbers (requestors_of t)) [] (omega arith) ok.denominator,
      field_reads (count_bounds limit) t.count (joined row_numbers (requestors_of t)) [] small ok.count,
      all,
    )
    (ap (λ x. read x []) whole)

-- all of admission but 7
offered : (limit : ℕ) (t : Table) → admission_verdict limit t ≡ faultless → offered_verdict limit t ≡ faultless
unfolding admission_verdict
offered limit t ok = (then_open _ _ ok).0

table_reads : (limit : ℕ) (t : Table) → limit ≤ max_number → length t.requestors ≡ limit → admission_verdict limit t ≡ faultless
    → read_table limit (table_bytes t) ≡ accept t
table_reads limit t small long ok =
    let p = passed offered_row_verdict limit t (offered limit t ok) in
    read_on limit (table_bytes t) t (ap (numbers_read limit) (sym (append-nil (table_bytes t))) ∙ table_numbers_read limit t small long p) ok

-- ---- in bytes

field_bytes : (b : Bounds) (x : ℕ) (more : List ℕ) → b.high ≤ max_number → held_to b x ≡ faultless → Bytes (joined number_bytes more) → Bytes (joined number_bytes (x ∷ more))
unfolding joined
field_bytes b x more small held all = bytes_append (number_bytes x) (joined number_bytes more) (five_bytes x (omega (arith, (held_open b x held).1))).0 all

rows_bytes : (d p : ℕ) (rows : List Requestor) → d ≤ max_number → each_place (offered_row_verdict d) p rows ≡ faultless → Bytes (joined number_bytes (joined row_numbers rows))
unfolding joined each_place offered_row_verdict fields_verdict
rows_bytes d p [] small ok = λ i. omega arith
rows_bytes d p (r ∷ rows) small ok =
    let checked = then_open _ _ ok in
    let n = then_open _ _ (then_open _ _ checked.0).0 in
    let b = then_open _ _ n.1 in
    let j = then_open _ _ b.1 in
    let more = joined row_numbers rows in
    field_bytes (rate_bounds d p) r.rate (r.burst ∷ r.need.0 ∷ r.within.0 ∷ more) small n.0
    (field_bytes (burst_bounds d p) r.burst (r.need.0 ∷ r.within.0 ∷ more) (omega arith) b.0
    (field_bytes (need_bounds p) r.need.0 (r.within.0 ∷ more) (omega arith) j.0
    (field_bytes (within_bounds p) r.within.0 more (omega arith) j.1 (rows_bytes d (suc p) rows small checked.1))))

table_bytes_are : (limit : ℕ) (t : Table) → limit ≤ max_number → Passed offered_row_verdict limit t → Bytes (table_bytes t)
unfolding table_bytes table_numbers
table_bytes_are limit t small ok =
    let rows = joined row_numbers (requestors_of t) in
    let fits : t.denominator ≤ max_number = omega (arith, (held_open denominator_bounds t.denominator ok.denominator).1) in
    field_bytes denominator_bounds t.denominator (t.count ∷ rows) (omega arith) ok.denominator
    (field_bytes (count_bounds limit) t.count rows small ok.count (rows_bytes t.denominator 0 (requestors_of t) fits ok.rows))

pub bytes_read_back : BytesReadBack
bytes_read_back limit t small long ok = (table_bytes_are limit t small (passed offered_row_verdict limit t (offered limit t ok)), table_reads limit t small long ok)

-- ---- an accepted writing

pub record Wrote (limit : ℕ) (t : Table) (old : List ℕ) (k : ℕ) : Type 0 where
  pub admitted : admission_verdict limit t ≡ faultless
  pub count : length (table_bytes t) ≡ k
  pub bytes : take k (write_table limit t old).buffer ≡ table_bytes t

pub wrote_open : (limit : ℕ) (t : Table) (old : List ℕ) (k : ℕ) → (write_table limit t old).answer ≡ wrote k → Wrote limit t old k
unfolding write_table write_verdict written_over
wrote_open limit t old k e = told (write_verdict limit t (length old)) refl e where
  told : (v : Verdict) → write_verdict limit t (length old) ≡ v
      → (resolve {X = TableWritten} v (record { answer = wrote (length (table_bytes t)); buffer = written_over (table_bytes t) old }) (λ r. record { answer = refused r; buffer = old })).answer ≡ wrote k
      → Wrote limit t old k
  told faultless f g =
      let count : length (table_bytes t) ≡ k = cc in
      record { admitted = (then_open _ _ f).0; count = count; bytes = rw f (take_at (table_bytes t) (drop (length (table_bytes t)) old) k count) }
  told (fault r) f g = absurd cc

pub written_reads_back : WrittenReadsBack
written_reads_back limit t old k small long e = let w = wrote_open limit t old k e in rw w.bytes (table_reads limit t small long w.admitted)

-- ---- read, then written

-- the table's bytes are those that it was read from
pub table_bytes_lem : {limit : ℕ} {bytes : List ℕ} {t : Table} → Bytes bytes → Taken limit bytes t [] → table_bytes t ≡ bytes
unfolding table_bytes table_numbers table_of
table_bytes_lem {limit} {bytes} {t} all r =
    let rows : requestors_of (table_of limit r.d r.n r.rows) ≡ r.rows = table_rows limit r.d r.n r.rows r.count in
    let made : table_bytes (table_of limit r.d r.n r.rows) ≡ joined number_bytes (r.d ∷ r.n ∷ joined row_numbers r.rows) =
    ap (λ l. joined number_bytes (r.d ∷ r.n ∷ joined row_numbers l)) rows in
    ap table_bytes (sym r.table) ∙ made ∙ sym (append-nil _) ∙ sym (r.spent.split all).0

pub read_writes_back : ReadWritesBack
unfolding write_table write_verdict then gate
read_writes_back limit bytes t old all room e =
    let r = table_open limit bytes t e in
    let same = table_bytes_lem all r.taken in
    rw (r.admitted, same, le-leb (length bytes) (length old) room)
