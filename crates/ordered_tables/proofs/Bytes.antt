-- From bytes to bytes. Assumes nothing.
use Rattle.std.proofs.Common.{◌≡◌, refl, ap, sym, ◌∙◌, List, [], ◌∷◌, ◌++◌, ℕ, suc, ◌+◌, arith, le-leb, ne_eqb, leb, length, take, length-append}
use Rattle.lists.specs.Sums.{total, joined}
use Rattle.lists.proofs.Tests.{cases}
use Rattle.lists.proofs.Sums.{joined_append}
use Rattle.lists.proofs.Orders.{permuted_total}
use Rattle.groups.specs.Groups.{number_bytes}
use Rattle.terms.specs.declared.refusals.Refusal.{Refusal}
use Rattle.terms.specs.declared.place.Requestor.{Requestor}
use Rattle.terms.specs.Table.{Table, no_requestor, row_numbers, requestors_of, table_of}
use Rattle.terms.specs.Refusals.{refusal, gate}
use Rattle.terms.specs.Answers.{refused}
use Rattle.terms.specs.TableResult.{TableResult, accept, refuse}
use Rattle.terms.proofs.Tables.{refuse_accept}
use Rattle.table_bytes.specs.Reading.{Read, read, stop, numbers_read}
use Rattle.table_bytes.specs.Writing as writing
use Rattle.table_bytes.specs.Writing.{table_numbers, table_bytes}
use Rattle.table_bytes.proofs.Opened.{numbers_open, rows_taken, table_open}
use Rattle.ordering.specs.Order.{order}
use Rattle.ordering.specs.Claims.{same_requestor, Reordered}
use Rattle.ordering.proofs.Needs.{requestors_told}
use Rattle.ordering.proofs.Claims as listed
use Rattle.ordering.proofs.Claims.{answer_reorders, answer_passes, right_order_stays, refused_is_all_0, fifteen_exactly}
use Rattle.ordered_bytes.specs.OrderBytes.{listed_verdict, order_read, order_bytes}
use Rattle.ordered_bytes.proofs.Ordered as orders
use Rattle.ordered_bytes.proofs.Ordered.{answered, read_ordered, ordered_none, Ends, turned_down_lem, carried_out, ends}
use Rattle.round_trip.proofs.RoundTrip as round_trip
use Rattle.round_trip.proofs.RoundTrip.{bytes_read_back, table_bytes_lem}
use Rattle.outcomes.proofs.Places.{TableRefusals, refuses_table, refuses_numbers}
use Rattle.ordered_tables.specs.Bytes.{Listed, Orderless, UnreadIsRefused, ReadIsOrdered, FifteenOfBytes, OrderedIsListed, AsTheWriter, AsManyBytes, WrittenReadsInOrder, RightBytesStay, WrittenBytesStay}

-- ---- as many bytes in any order

-- the bytes of a row
abbrev row_length : Requestor → ℕ
row_length r = length (joined number_bytes (row_numbers r))

rows_length : (rs : List Requestor) → length (joined number_bytes (joined row_numbers rs)) ≡ total row_length rs
unfolding joined total
rows_length [] = refl
rows_length (r ∷ rs) =
    ap length (joined_append number_bytes (row_numbers r) (joined row_numbers rs))
    ∙ omega (arith, length-append (joined number_bytes (row_numbers r)) (joined number_bytes (joined row_numbers rs)), rows_length rs)

bytes_length : (t : Table) → length (table_bytes t) ≡ length (number_bytes t.denominator) + (length (number_bytes t.count) + total row_length (requestors_of t))
unfolding table_bytes table_numbers joined
bytes_length t =
    let rows = joined number_bytes (joined row_numbers (requestors_of t)) in
    omega (
      arith,
      length-append (number_bytes t.denominator) (number_bytes t.count ++ rows),
      length-append (number_bytes t.count) rows,
      rows_length (requestors_of t),
    )

as_many : (t u : Table) → Reordered t u → length (table_bytes u) ≡ length (table_bytes t)
as_many t u e =
    let rows = permuted_total same_requestor requestors_told no_requestor row_length (requestors_of u) (requestors_of t) e.requestors in
    omega (
      arith,
      bytes_length u,
      bytes_length t,
      rows,
      ap (λ x. length (number_bytes x)) e.denominator,
      ap (λ x. length (number_bytes x)) e.count,
    )

-- ---- the claims

pub unread_is_refused : UnreadIsRefused
unfolding order_bytes
unread_is_refused limit bytes old why e = rw (sym (ordered_none limit bytes why (sym e)))

pub ordered_is_listed : OrderedIsListed
ordered_is_listed limit bytes u e = let a = answered limit bytes u e in (a.listed, record { numbers = a.whole; shape = a.shape; ordered = a.ordered })

pub read_is_ordered : ReadIsOrdered
read_is_ordered limit bytes t whole = (sym (read_ordered limit bytes t whole), rows_taken (numbers_open limit bytes t [] whole))

pub as_the_writer : AsTheWriter
unfolding order_bytes
as_the_writer limit bytes u old e = rw e (sym (orders.as_the_writer limit bytes u old e))

pub as_many_bytes : AsManyBytes
unfolding order_bytes
as_many_bytes limit bytes t u old all l =
    let made : order_read limit (numbers_read limit bytes) ≡ accept u = sym (read_ordered limit bytes t l.numbers) ∙ l.ordered in
    let same : length (table_bytes u) ≡ length bytes =
    as_many t u (answer_reorders limit t u l.shape l.ordered) ∙ ap length (table_bytes_lem all (numbers_open limit bytes t [] l.numbers)) in
    rw (made, same)

-- ---- 15

-- no check ahead of it has its number
abbrev NotFifteen : Refusal → Type 0
NotFifteen why = why.number ≡ 15 → ⊥

not_fifteen : (limit : ℕ) → TableRefusals limit NotFifteen
not_fifteen limit = record {
  one = λ e. omega arith;
  two = λ e. omega arith;
  three = λ p h e. omega arith;
  four = λ p h e. omega arith;
  five = λ p h e. omega arith;
  six = λ e. omega arith;
  eight = λ e. omega arith;
  nine = λ e. omega arith;
  seventeen = λ p h e. omega arith;
}

never_fifteen : {X : Type 0} (why : Refusal) → NotFifteen why → why ≡ refusal 15 → X
never_fifteen why other same = absurd (other (ap (λ (r : Refusal). r.number) same))

same_why : (limit : ℕ) (why other : Refusal) → refuse limit why ≡ refuse limit other → why ≡ other
same_why limit why other e = let answers : refused why ≡ refused other = ap (λ (x : TableResult). x.answer) e in cc

-- a table of which 15 is found
module _ (limit : ℕ) (bytes : List ℕ) where
  of_the_table : (t : Table) → numbers_read limit bytes ≡ read t [] → order limit t ≡ refuse limit (refusal 15) → Orderless limit bytes
  of_the_table t whole f = by (listed.ends limit t)
    where
      by : listed.Ends limit t → Orderless limit bytes
      by (listed.turned_down_lem why bad e) = never_fifteen why (refuses_table limit NotFifteen (not_fifteen limit) t why bad) (same_why limit why (refusal 15) (sym e ∙ f))
      by (listed.not_found ok unfound e) = record {
        table = t;
        numbers = whole;
        checked = ok;
        none_passes = (fifteen_exactly limit t (read_is_ordered limit bytes t whole).1 ok).0 (ap (λ (x : TableResult). x.answer) e);
      }
      by (listed.ordered rows ok found e) = refuse_accept limit (refusal 15) (table_of limit t.denominator t.count rows) (sym f ∙ e)

  of_the_bytes : order_read limit (numbers_read limit bytes) ≡ refuse limit (refusal 15) → Orderless limit bytes
  unfolding order_read listed_verdict gate
  of_the_bytes f = by (numbers_read limit bytes) refl
    where
      by : (r : Read Table) → numbers_read limit bytes ≡ r → Orderless limit bytes
      by (stop why) e = never_fifteen why (refuses_numbers limit NotFifteen (not_fifteen limit) bytes why e) (same_why limit why (refusal 15) (rw e at f))
      by (read t []) e = of_the_table t e (read_ordered limit bytes t e ∙ f)
      by (read t (x ∷ rest)) e =
          let some_left = ne_eqb (suc (length rest)) 0 (λ z. omega arith) in
          never_fifteen (refusal 10) (λ z. omega arith) (same_why limit (refusal 10) (refusal 15) (ordered_none limit bytes (refusal 10) (rw (e, some_left)) ∙ f))

-- the answer is 15 where the search's is: 14 has another number
module _ (limit : ℕ) (bytes old : List ℕ) where
  ahead_of_14 : (order_bytes limit bytes old).answer ≡ writing.refused (refusal 15) → order_read limit (numbers_read limit bytes) ≡ refuse limit (refusal 15)
  unfolding order_bytes gate
  ahead_of_14 f = by (ends limit bytes)
    where
      by : Ends limit bytes → order_read limit (numbers_read limit bytes) ≡ refuse limit (refusal 15)
      by (turned_down_lem why e) = let answers : writing.refused why ≡ writing.refused (refusal 15) = rw e at f in let same : why ≡ refusal 15 = cc in e ∙ ap (refuse limit) same
      by (carried_out u e) = cases (leb (length (table_bytes u)) (length old))
          (λ on. let z : writing.wrote (length (table_bytes u)) ≡ writing.refused (refusal 15) = rw (e, on) at f in let never : ◌≡◌ {A = ℕ} 0 1 = cc in absurd (omega arith))
          (λ off. let z : writing.refused (refusal 14) ≡ writing.refused (refusal 15) = rw (e, off) at f in let same : refusal 14 ≡ refusal 15 = cc in never_fifteen (refusal 14) (λ z. omega arith) same)

  is_fifteen : Orderless limit bytes → (order_bytes limit bytes old).answer ≡ writing.refused (refusal 15)
  unfolding order_bytes
  is_fifteen o =
      let (as-listed, shape) = read_is_ordered limit bytes o.table o.numbers in
      let told = (fifteen_exactly limit o.table shape o.checked).1 o.none_passes in
      rw (as-listed ∙ refused_is_all_0 limit o.table (refusal 15) told)

pub fifteen_of_bytes : FifteenOfBytes
fifteen_of_bytes limit bytes old = ((λ e. of_the_bytes limit bytes (ahead_of_14 limit bytes old e)), is_fifteen limit bytes old)

-- ---- what was written

-- so many bytes were written: they are those of the table in order
pub record Wrote (limit : ℕ) (bytes old : List ℕ) (k : ℕ) : Type 0 where
  pub t : Table
  pub u : Table
  pub listed : Listed limit bytes t u
  pub written : take k (order_bytes limit bytes old).buffer ≡ table_bytes u
  pub count : length (table_bytes u) ≡ k

pub wrote_open : (limit : ℕ) (bytes old : List ℕ) (k : ℕ) → (order_bytes limit bytes old).answer ≡ writing.wrote k → Wrote limit bytes old k
unfolding order_bytes
wrote_open limit bytes old k told = by (ends limit bytes)
  where
    by : Ends limit bytes → Wrote limit bytes old k
    by (turned_down_lem why e) = let z : writing.refused why ≡ writing.wrote k = rw e at told in let never : ◌≡◌ {A = ℕ} 0 1 = cc in absurd (omega arith)
    by (carried_out u e) =
        let (t, l) = ordered_is_listed limit bytes u e in
        let w = round_trip.wrote_open limit u old k (ap (λ w. w.answer) (sym (as_the_writer limit bytes u old e)) ∙ told) in
        record { t = t; u = u; listed = l; written = ap (λ w. take k w.buffer) (as_the_writer limit bytes u old e) ∙ w.bytes; count = w.count }

pub written_reads_in_order : WrittenReadsInOrder
written_reads_in_order limit bytes old k small told =
    let w = wrote_open limit bytes old k told in
    let (passes, rows) = answer_passes limit w.t w.u w.listed.shape w.listed.ordered in
    (w.t, w.u, w.listed, rw w.written (bytes_read_back limit w.u small rows passes).1)

pub right_bytes_stay : RightBytesStay
unfolding gate
right_bytes_stay limit bytes t old all room e =
    let o = table_open limit bytes t e in
    let rows = rows_taken o.taken in
    let listed : Listed limit bytes t t = record { numbers = o.numbers; shape = rows; ordered = right_order_stays limit t rows o.admitted } in
    as_many_bytes limit bytes t t old all listed ∙ rw (le-leb (length bytes) (length old) room, table_bytes_lem all o.taken)

pub written_bytes_stay : WrittenBytesStay
written_bytes_stay limit bytes old k other small told room =
    let w = wrote_open limit bytes old k told in
    let (passes, rows) = answer_passes limit w.t w.u w.listed.shape w.listed.ordered in
    let (all, reads) = bytes_read_back limit w.u small rows passes in
    rw w.written (right_bytes_stay limit (table_bytes w.u) w.u other all (omega (arith, w.count)) reads ∙ rw w.count)
