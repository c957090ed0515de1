-- An ordering of a table's bytes, by what was read of them into words; and what an accepted one says of them. Assumes nothing.
use Rattle.std.proofs.Common.{◌≡◌, refl, ap, ◌∙◌, List, [], ℕ, length, Option, Some, None}
use Rattle.terms.specs.declared.refusals.Refusal.{Refusal}
use Rattle.terms.specs.declared.place.Requestor.{Requestor}
use Rattle.terms.specs.Table.{Table, table_of, rate_sum_verdict}
use Rattle.terms.specs.Refusals.{Verdict, faultless, fault, refusal, gate, then}
use Rattle.terms.specs.Figures.{admission_verdict}
use Rattle.terms.specs.TableResult.{accept, refuse}
use Rattle.terms.proofs.Tables.{refuse_accept}
use Rattle.table_bytes.specs.Reading.{Read, read, stop, numbers_read}
use Rattle.table_bytes.specs.Writing.{room_verdict, write_verdict, written_by, write_table}
use Rattle.table_bytes.proofs.Opened.{numbers_open, rows_taken, nothing_left}
use Rattle.starts.specs.Laying.{complete, unread, laid}
use Rattle.starts.proofs.Rows.{Stopped, at_number, left_over, laid_none, laid_all}
use Rattle.ordering.specs.Order.{order_of, order}
use Rattle.ordering.proofs.Claims.{answer_passes}
use Rattle.ordered_bytes.specs.OrderBytes.{listed_verdict, order_read}

module _ (limit : ℕ) (bytes : List ℕ) where
  abbrev in_order : Read Table → Type 0
  in_order r = numbers_read limit bytes ≡ r

  -- the table that was read passes 1 to 5 and 17, so that 6 is left of the checks ahead of 15
  pub read_ordered : (t : Table) → in_order (read t []) → order limit t ≡ order_read limit (numbers_read limit bytes)
  unfolding order order_read listed_verdict gate then
  read_ordered t whole = let checked = (numbers_open limit bytes t [] whole).checked in rw (whole, checked)

  pub ordered_all : (t : Table) → complete t ≡ laid (numbers_read limit bytes) → order limit t ≡ order_read limit (numbers_read limit bytes)
  ordered_all t e = read_ordered t (laid_all (numbers_read limit bytes) t e)

  pub ordered_none : (why : Refusal) → unread why ≡ laid (numbers_read limit bytes) → refuse limit why ≡ order_read limit (numbers_read limit bytes)
  unfolding order_read listed_verdict
  ordered_none why e = by (laid_none (numbers_read limit bytes) why e)
    where
      by : Stopped (numbers_read limit bytes) why → refuse limit why ≡ order_read limit (numbers_read limit bytes)
      by (at_number whole) = rw whole
      by (left_over t rest whole fails) = rw (whole, fails (rate_sum_verdict t))

  -- ---- an accepted one

  -- the bytes are those of a table, and u is it in order
  pub record Answered (u : Table) : Type 0 where
    pub listed : Table
    pub whole : numbers_read limit bytes ≡ read listed []
    pub shape : length listed.requestors ≡ limit
    pub ordered : order limit listed ≡ accept u

  pub answered : (u : Table) → order_read limit (numbers_read limit bytes) ≡ accept u → Answered u
  unfolding order_read listed_verdict
  answered u e = by (numbers_read limit bytes) refl
    where
      by : (r : Read Table) → in_order r → Answered u
      by (stop why) whole = refuse_accept limit why u (rw whole at e)
      by (read t rest) whole = told (listed_verdict t rest) refl
        where
          told : (v : Verdict) → listed_verdict t rest ≡ v → Answered u
          told (fault why) f = refuse_accept limit why u (rw (whole, f) at e)
          told faultless f =
              let (nothing, sum) = nothing_left rest (rate_sum_verdict t) f in
              let to_end : numbers_read limit bytes ≡ read t [] = whole ∙ ap (read t) nothing in
              record { listed = t; whole = to_end; shape = rows_taken (numbers_open limit bytes t [] to_end); ordered = read_ordered t to_end ∙ e }

  -- ---- how an ordering ends

  pub data Ends : Type 0 where
    turned_down_lem : (why : Refusal) → order_read limit (numbers_read limit bytes) ≡ refuse limit why → Ends
    carried_out : (u : Table) → order_read limit (numbers_read limit bytes) ≡ accept u → Ends

  pub ends : Ends
  unfolding order_read
  ends = by (numbers_read limit bytes) refl
    where
      by : (r : Read Table) → in_order r → Ends
      by (stop why) whole = turned_down_lem why (rw whole)
      by (read t rest) whole = told (listed_verdict t rest) refl (order_of t) refl
        where
          told : (v : Verdict) → listed_verdict t rest ≡ v → (o : Option (List Requestor)) → order_of t ≡ o → Ends
          told (fault why) f o g = turned_down_lem why (rw (whole, f))
          told faultless f None g = turned_down_lem (refusal 15) (rw (whole, f, g))
          told faultless f (Some rows) g = carried_out (table_of limit t.denominator t.count rows) (rw (whole, f, g))

  -- so the writer's admission passes
  pub answer_admitted : (u : Table) → order_read limit (numbers_read limit bytes) ≡ accept u → admission_verdict limit u ≡ faultless
  answer_admitted u e = let a = answered u e in (answer_passes limit a.listed u a.shape a.ordered).0

  pub as_the_writer : (u : Table) (old : List ℕ) → order_read limit (numbers_read limit bytes) ≡ accept u → write_table limit u old ≡ written_by (room_verdict u (length old)) u old
  unfolding write_table write_verdict then
  as_the_writer u old e = rw (answer_admitted u e)
