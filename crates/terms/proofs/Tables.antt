-- A table that is made of its D, its N and the rows of its places: its rows and checks, and that every table whose other rows are 0 is
-- made so; and that no call both hands back a table and is refused. Assumes nothing.
use Rattle.std.proofs.Common.{◌≡◌, refl, ap, ap₂, sym, ◌∙◌, true, List, [], ◌∷◌, ◌++◌, ℕ, zero, suc, ◌≤◌, arith, eqb-true, length, take, drop, replicate, take-append-drop, length-take-le, take_at, drop_at}
use lib.ListN.{length-replicate}
use Rattle.lists.specs.Sums.{every}
use Rattle.lists.specs.Overwriting.{written_over}
use Rattle.lists.proofs.Tests.{and_true}
use Rattle.lists.proofs.Overwriting.{length_over}
use Rattle.terms.specs.declared.refusals.Refusal.{Refusal}
use Rattle.terms.specs.declared.place.Requestor.{Requestor}
use Rattle.terms.specs.Table.{Table, no_requestor, requestor_clear, requestors_of, table_of, denominator_bounds, count_bounds, held_to, each_place, tail_verdict, rate_sum_verdict, verdict_by}
use Rattle.terms.specs.Refusals.{Verdict, faultless, gate, then}
use Rattle.terms.specs.Answers.{accepted, refused}
use Rattle.terms.specs.TableResult.{TableResult, accept, refuse}

-- rows past the last one are clear
rest_clear : (limit n : ℕ) → every requestor_clear (drop n (replicate limit no_requestor)) ≡ true
unfolding every
rest_clear zero zero = refl
rest_clear zero (suc n) = refl
rest_clear (suc limit) zero = rest_clear limit zero
rest_clear (suc limit) (suc n) = rest_clear limit n

-- a table that passes all but 6, whatever is checked of each row
all_but_six : (row : (d p : ℕ) → Requestor → Verdict) (limit : ℕ) (t : Table) → held_to denominator_bounds t.denominator ≡ faultless → held_to (count_bounds limit) t.count ≡ faultless
    → tail_verdict t ≡ faultless → each_place (row t.denominator) 0 (requestors_of t) ≡ faultless
    → verdict_by row limit t ≡ rate_sum_verdict t
unfolding verdict_by then
all_but_six row limit t one two tail rows = rw (one, two, tail, rows)

-- it has a row for each place that there is room for
pub table_length : (limit d n : ℕ) (rows : List Requestor) → length rows ≤ limit → length (table_of limit d n rows).requestors ≡ limit
unfolding table_of
table_length limit d n rows few =
    length_over rows (replicate limit no_requestor) (omega (arith, length-replicate limit no_requestor)) ∙ length-replicate limit no_requestor

module _ (limit d n : ℕ) (rows : List Requestor) (count : length rows ≡ n) where
  -- the rows of the table are those that were read
  pub table_rows : take n (table_of limit d n rows).requestors ≡ rows
  unfolding table_of written_over
  table_rows = take_at rows (drop (length rows) (replicate limit no_requestor)) n count

  pub table_tail : tail_verdict (table_of limit d n rows) ≡ faultless
  unfolding tail_verdict gate table_of written_over
  table_tail = rw (drop_at rows (drop (length rows) (replicate limit no_requestor)) n count, rest_clear limit (length rows))

  -- D, N and the rows have passed what is checked of them, so that 6 is left
  pub rate_sum_left : (row : (d p : ℕ) → Requestor → Verdict) → held_to denominator_bounds d ≡ faultless → held_to (count_bounds limit) n ≡ faultless → each_place (row d) 0 rows ≡ faultless
      → verdict_by row limit (table_of limit d n rows) ≡ rate_sum_verdict (table_of limit d n rows)
  unfolding table_of
  rate_sum_left row one two rows_pass = all_but_six row limit (table_of limit d n rows) one two table_tail (ap (each_place (row d) 0) table_rows ∙ rows_pass)

-- a clear row is all 0, and so the rows past place N−1 of a table that passes check 2 are those of an array of rows that are 0
clear_none : (r : Requestor) → requestor_clear r ≡ true → r ≡ no_requestor
clear_none r e =
    let n = and_true _ _ e in
    let b = and_true _ _ n.1 in
    let j = and_true _ _ b.1 in
    ap (λ x. record { rate = x; burst = r.burst; need = r.need; within = r.within }) (eqb-true _ _ n.0)
    ∙ ap (λ x. record { rate = 0; burst = x; need = r.need; within = r.within }) (eqb-true _ _ b.0)
    ∙ ap (λ x. record { rate = 0; burst = 0; need = record { 0 = x }; within = r.within }) (eqb-true _ _ j.0)
    ∙ ap (λ x. record { rate = 0; burst = 0; need = record { 0 = 0 }; within = record { 0 = x } }) (eqb-true _ _ j.1)

pub clear_rows : (n : ℕ) (rows : List Requestor) → every requestor_clear (drop n rows) ≡ true → drop n rows ≡ drop n (replicate (length rows) no_requestor)
unfolding every
clear_rows zero [] e = refl
clear_rows (suc n) [] e = refl
clear_rows zero (r ∷ rows) e =
    let both = and_true (requestor_clear r) (every requestor_clear rows) e in
    ap₂ (λ x l. x ∷ l) (clear_none r both.0) (clear_rows zero rows both.1)
clear_rows (suc n) (r ∷ rows) e = clear_rows n rows e

-- a table is made of its D, its N and its first N rows
pub table_whole_lem : (t : Table) → t.count ≤ length t.requestors → every requestor_clear (drop t.count t.requestors) ≡ true
    → table_of (length t.requestors) t.denominator t.count (requestors_of t) ≡ t
unfolding table_of written_over
table_whole_lem t h clear =
    let rows = t.requestors in
    let zeros = replicate (length rows) no_requestor in
    let all : requestors_of t ++ drop (length (requestors_of t)) zeros ≡ rows =
    ap (λ k. requestors_of t ++ drop k zeros) (length-take-le t.count rows h)
    ∙ ap (λ l. requestors_of t ++ l) (sym (clear_rows t.count rows clear)) ∙ take-append-drop t.count rows in
    ap (λ l. record { denominator = t.denominator; count = t.count; requestors = l }) all

-- no result is both
pub refuse_accept : {X : Type 0} (limit : ℕ) (why : Refusal) (t : Table) → refuse limit why ≡ accept t → X
refuse_accept limit why t e =
    let answers : refused why ≡ accepted = ap (λ (x : TableResult). x.answer) e in
    let z : ◌≡◌ {A = ℕ} 0 1 = cc in
    absurd (omega arith)
