-- The exported call that puts a table in order. Assumes nothing.
use Rattle.std.proofs.Common.{◌≡◌, refl, ap, sym, ◌∙◌, true, List, [], ℕ, ◌+◌, ◌-◌, ◌≤◌, arith, le-leb, eq-eqb, eqb, length, take, get_or, length-take-le}
use Rattle.lists.proofs.Tests.{cases, true_false}
use Rattle.terms.specs.Limits.{max_slot}
use Rattle.terms.specs.Table.{Table, requestors_of, table_of, offered_row_verdict}
use Rattle.terms.specs.Refusals.{faultless, gate, then}
use Rattle.terms.specs.Figures.{admission_verdict}
use Rattle.terms.proofs.Checks.{passed, then_open}
use Rattle.terms.proofs.Tables.{table_length, table_rows, table_whole_lem}
use Rattle.terms.specs.Answers.{accepted}
use Rattle.terms.specs.Start.{start_verdict, start}
use Rattle.terms.specs.TableResult.{accept}
use Rattle.table_bytes.specs.Reading.{read_table}
use Rattle.table_bytes.specs.Writing as writing
use Rattle.table_bytes.specs.Writing.{table_numbers, table_bytes}
use Rattle.table_bytes.proofs.Accepted.{read_same}
use Rattle.round_trip.proofs.RoundTrip.{bytes_read_back}
use Rattle.layout.specs.Words.{room_of_words}
use Rattle.layout.proofs.RoundTrip.{right}
use Rattle.starts.specs.Starts.{begun}
use Rattle.ordered_bytes.specs.OrderBytes.{order_bytes}
use Rattle.ordered_bytes.proofs.Ordered as orders
use Rattle.ordering.proofs.Claims.{answer_reorders, answer_passes, right_order_stays, some_order_is_found}
use Rattle.ordered_tables.specs.Bytes.{Listed}
use Rattle.ordered_tables.proofs.Bytes.{read_is_ordered, as_many_bytes, wrote_open}
use Rattle.ordered_tables.proofs.Promised.{ordered_line_is_promised}
use Rattle.outcomes.specs.Outcomes.{wrong_length}
use Rattle.outcomes.proofs.Places.{order_any, code_apart, orders_name_below}
use Rattle.justrave.specs.Exported.{Wrote, write_output, started, ordered}
use Rattle.on_words.specs.Ordered.{OrderRefused, Order255, OrderAccepted, OrderedBytesBegin}
use Rattle.on_words.proofs.Claims.{Ends, turned, all_stands, never_255, written_ends}
use Rattle.on_words.proofs.Begins.{bytes_begin_service_bounds, accepted_bytes_tell_0}
use Rattle.terms.specs.Longer.{longer_table}
use Rattle.terms.proofs.Longer.{same_admission}
use Rattle.on_words.proofs.LongerStart.{table_longer}

module _ (most : ℕ) (bytes buffer old : List ℕ) where
  abbrev told : Wrote
  told = write_output old (order_bytes most bytes buffer)

  order_ends : Ends most told.outcome ((told.buffer ≡ buffer) × (told.answer ≡ old))
  unfolding order_bytes
  order_ends = by (orders.ends most bytes)
    where
      by : orders.Ends most bytes → Ends most told.outcome ((told.buffer ≡ buffer) × (told.answer ≡ old))
      by (orders.turned_down_lem why e) = turned why (order_any (orders_name_below most bytes buffer why (rw e))) (rw e) (rw e, rw e)
      by (orders.carried_out u e) = rw (e, ← orders.as_the_writer most bytes u buffer e) (written_ends most u buffer old)

pub order_refused : OrderRefused
unfolding ordered
order_refused most bytes buffer old = cases (eqb (length old) 1)
    (λ q. rw q (all_stands (order_ends most bytes buffer old)))
    (λ q. rw q (λ refused. (refl, refl)))

pub order_255 : Order255
unfolding ordered
order_255 most bytes buffer old = cases (eqb (length old) 1)
    (λ q. rw q ((λ off. true_false off), λ e. absurd (never_255 (order_ends most bytes buffer old) e)))
    (λ q. rw q ((λ off. refl), λ e. refl))

-- ---- outcome 0

pub order_accepted : OrderAccepted
unfolding ordered gate
order_accepted most bytes buffer old t v all numbers other passes room one =
    let shape = (read_is_ordered most bytes t numbers).1 in
    let (u, found) = some_order_is_found most t v shape other passes in
    let listed : Listed most bytes t u = record { numbers = numbers; shape = shape; ordered = found } in
    rw (eq-eqb (length old) 1 one, as_many_bytes most bytes t u buffer all listed, le-leb (length bytes) (length buffer) room)

-- so many bytes were written, and the answer says how many
pub record Written (most : ℕ) (bytes buffer old : List ℕ) : Type 0 where
  pub count : ℕ
  pub answer : (order_bytes most bytes buffer).answer ≡ writing.wrote count
  pub told_count : get_or (ordered most bytes buffer old).answer 0 0 ≡ count
  pub same_buffer : (ordered most bytes buffer old).buffer ≡ (order_bytes most bytes buffer).buffer

written : (most : ℕ) (bytes buffer old : List ℕ) → (ordered most bytes buffer old).outcome ≡ 0 → Written most bytes buffer old
unfolding ordered
written most bytes buffer old e = cases (eqb (length old) 1)
    (λ q. by q (order_bytes most bytes buffer).answer refl)
    (λ q. let wrong : wrong_length ≡ 0 = rw q at e in absurd (omega arith))
  where
    by : eqb (length old) 1 ≡ true → (a : writing.WriteAnswer) → (order_bytes most bytes buffer).answer ≡ a → Written most bytes buffer old
    by q (writing.wrote k) f = record { count = k; answer = f; told_count = rw (q, f); same_buffer = rw q }
    by q (writing.refused why) f = absurd ((code_apart most why (order_any (orders_name_below most bytes buffer why f))).0 (rw (q, f) at e))

-- ---- in less room

-- a table that passes admission, with fewer rows that are 0 behind its N places
module _ (room extra : ℕ) (u : Table) (long : length u.requestors ≡ room + extra) (passes : admission_verdict (room + extra) u ≡ faultless) (few : u.count ≤ room) where
  abbrev line : Table
  line = table_of room u.denominator u.count (requestors_of u)

  row_count : length (requestors_of u) ≡ u.count
  row_count = length-take-le u.count u.requestors (omega arith)

  line_long : length line.requestors ≡ room
  line_long = table_length room u.denominator u.count (requestors_of u) (omega (arith, row_count))

  line_rows : requestors_of line ≡ requestors_of u
  unfolding table_of
  line_rows = table_rows room u.denominator u.count (requestors_of u) row_count

  line_whole : longer_table extra line ≡ u
  unfolding admission_verdict
  line_whole =
      let clear = (passed offered_row_verdict (room + extra) u (then_open _ _ passes).0).clear in
      sym (table_longer room extra u.denominator u.count (requestors_of u) (omega (arith, row_count)))
      ∙ rw long at (table_whole_lem u (omega arith) clear)

  line_fits : line.count ≤ room
  unfolding table_of
  line_fits = few

  line_passes : admission_verdict room line ≡ faultless
  line_passes = sym (same_admission room extra line line_long line_fits) ∙ ap (admission_verdict (room + extra)) line_whole ∙ passes

  line_bytes : table_bytes line ≡ table_bytes u
  unfolding table_bytes table_numbers table_of
  line_bytes = rw line_rows

pub ordered_bytes_begin : OrderedBytesBegin
unfolding begun start start_verdict gate then table_of
ordered_bytes_begin most bytes buffer old t first words small right-length early e numbers few =
    let w = written most bytes buffer old e in
    let o = wrote_open most bytes buffer w.count w.answer in
    let listed : o.t ≡ t = (read_same o.t t [] [] (sym o.listed.numbers ∙ numbers)).0 in
    let (passes, rows) = answer_passes most o.t o.u o.listed.shape o.listed.ordered in
    let moved = answer_reorders most o.t o.u o.listed.shape o.listed.ordered in
    let room = room_of_words words in
    let extra = most - room in
    let enough : room + extra ≡ most = omega (arith, (right most words right-length).room_most) in
    let fits : o.u.count ≤ room = omega (arith, moved.count, ap (λ x. x.count) listed) in
    let long : length o.u.requestors ≡ room + extra = rows ∙ sym enough in
    let admitted : admission_verdict (room + extra) o.u ≡ faultless = rw enough passes in
    let own = line_passes room extra o.u long admitted fits in
    let table = line room extra o.u long admitted fits in
    let shape = line_long room extra o.u long admitted fits in
    let made = take (get_or (ordered most bytes buffer old).answer 0 0) (ordered most bytes buffer old).buffer in
    let same : made ≡ table_bytes table = rw (w.told_count, w.same_buffer) o.written ∙ sym (line_bytes room extra o.u long admitted fits) in
    let reads : read_table room made ≡ accept table = rw same (bytes_read_back room table (omega (arith, enough)) shape own).1 in
    let begins : (begun room (read_table room made) first).answer ≡ accepted = rw (reads, own, le-leb first max_slot early) in
    let zero : (started most made first words).outcome ≡ 0 = accepted_bytes_tell_0 most made first words right-length begins in
    record {
      accepted = zero;
      line = table;
      words_are = rw reads at (bytes_begin_service_bounds most made first words zero).words_are;
      denominator = moved.denominator ∙ ap (λ x. x.denominator) listed;
      count = moved.count ∙ ap (λ x. x.count) listed;
      requestors = rw (line_rows room extra o.u long admitted fits, ← listed) moved.requestors;
      promised = ordered_line_is_promised room table table first shape (right_order_stays room table shape own) early;
    }
