-- The theorems about an order. Assumes nothing.
use Rattle.std.proofs.Common.{Option, Some, None, ◌≡◌, refl, ap, sym, ◌∙◌, List, [], append-nil, ℕ, ◌≤◌, arith, length, drop, replicate, length-take-le, drop_at}
use lib.Seq.{take-length, drop-length}
use Rattle.lists.specs.Orders.{Permuted}
use Rattle.lists.specs.Overwriting.{written_over}
use Rattle.lists.proofs.Orders.{permuted_length}
use Rattle.terms.specs.declared.refusals.Refusal.{Refusal}
use Rattle.terms.specs.declared.place.Requestor.{Requestor}
use Rattle.terms.specs.Table.{Table, no_requestor, requestors_of, table_of, offered_row_verdict, offered_verdict}
use Rattle.terms.specs.Refusals.{Verdict, faultless, fault, refusal}
use Rattle.terms.specs.Figures.{admission_verdict}
use Rattle.terms.specs.Answers.{accepted, refused}
use Rattle.terms.specs.TableResult.{TableResult, accept, refuse}
use Rattle.terms.specs.State.{State}
use Rattle.terms.specs.Start.{no_state}
use Rattle.terms.proofs.Checks.{faultless_fault, passed, offered_passes, fair, then_open}
use Rattle.terms.proofs.Tables.{table_length, table_rows, clear_rows, table_whole_lem, refuse_accept}
use Rattle.ordering.specs.Order.{order_of, order}
use Rattle.ordering.specs.InPlace.{in_state, table_only}
use Rattle.ordering.specs.Claims.{same_requestor, Reordered, NoOrderPasses, AnswerReorders, AnswerPasses, RightOrderStays, AnswerStays, SomeOrderIsFound, FaultIsAnswered, RefusedIsAll0, RefusedMeansNone, FifteenExactly, SameRequestorTells}
use Rattle.ordering.proofs.Needs.{requestors_told, Holds}
use Rattle.ordering.proofs.Searching.{Filled, filled_up_lem, no_order, right_already}
use Rattle.ordering.proofs.Reorders.{reordered_back, checks_stand, rated, admitted_holds, holds_admits}

-- ---- how an ordering ends

pub data Ends (limit : ℕ) (t : Table) : Type 0 where
  turned_down_lem : (why : Refusal) → offered_verdict limit t ≡ fault why → order limit t ≡ refuse limit why → Ends limit t
  not_found : offered_verdict limit t ≡ faultless → order_of t ≡ None → order limit t ≡ refuse limit (refusal 15) → Ends limit t
  ordered : (rows : List Requestor) → offered_verdict limit t ≡ faultless → order_of t ≡ Some rows
      → order limit t ≡ accept (table_of limit t.denominator t.count rows) → Ends limit t

pub ends : (limit : ℕ) (t : Table) → Ends limit t
unfolding order
ends limit t = by (offered_verdict limit t) refl (order_of t) refl
  where
    by : (v : Verdict) → offered_verdict limit t ≡ v → (o : Option (List Requestor)) → order_of t ≡ o → Ends limit t
    by (fault why) e o f = turned_down_lem why e (rw e)
    by faultless e None f = not_found e f (rw (e, f))
    by faultless e (Some rows) f = ordered rows e f (rw (e, f))

-- what was put in order in a state, and its answer
pub in_state_lem : (limit : ℕ) (s : State) (t : Table) → table_only (in_state limit s (order limit t)) ≡ order limit t
unfolding no_state
in_state_lem limit s t = by (ends limit t)
  where
    by : Ends limit t → table_only (in_state limit s (order limit t)) ≡ order limit t
    by (turned_down_lem why ok e) = rw e
    by (not_found ok unfound e) = rw e
    by (ordered rows ok listed e) = rw e

-- ---- what is found

module _ (limit : ℕ) (t : Table) (shape : length t.requestors ≡ limit) (ok : offered_verdict limit t ≡ faultless) where
  few : t.count ≤ length t.requestors
  few = omega (arith, (fair limit t (offered_passes limit t ok)).count_most)

  as_many : length (requestors_of t) ≡ t.count
  as_many = length-take-le t.count t.requestors few

  module _ (rows : List Requestor) (e : order_of t ≡ Some rows) where
    abbrev u : Table
    u = table_of limit t.denominator t.count rows

    abbrev filled : Filled t.denominator (requestors_of t) [] rows
    filled = filled_up_lem t.denominator t.count (requestors_of t) [] rows as_many e

    front_all : filled.front ≡ rows
    front_all = sym (filled.ahead ∙ append-nil filled.front)

    permuted : Permuted same_requestor rows (requestors_of t)
    permuted = rw front_all at filled.permuted

    row_count : length rows ≡ t.count
    row_count = permuted_length same_requestor requestors_told no_requestor rows (requestors_of t) permuted ∙ as_many

    own_rows : requestors_of u ≡ rows
    unfolding table_of
    own_rows = table_rows limit t.denominator t.count rows row_count

    found_reorders : Reordered t u
    unfolding table_of written_over
    found_reorders = record {
      denominator = refl;
      count = refl;
      requestors = rw own_rows permuted;
      past = drop_at rows (drop (length rows) (replicate limit no_requestor)) t.count row_count
          ∙ rw (row_count, ← shape) (sym (clear_rows t.count t.requestors (passed offered_row_verdict limit t ok).clear));
    }

    found_holds : Holds t.denominator (requestors_of u)
    found_holds = rw (own_rows, ← front_all) filled.holds

    found_passes : admission_verdict limit u ≡ faultless
    unfolding table_of
    found_passes = holds_admits limit u (checks_stand limit t u found_reorders ok) found_holds

    found_shape : length u.requestors ≡ limit
    found_shape = table_length limit t.denominator t.count rows (omega (arith, row_count, few, shape))

-- ---- where none is found

no_order_passes : (limit : ℕ) (t : Table) → length t.requestors ≡ limit → offered_verdict limit t ≡ faultless → order_of t ≡ None → NoOrderPasses limit t
no_order_passes limit t shape ok e u other passes =
    no_order t.denominator t.count (requestors_of t) [] (requestors_of u) (as_many limit t shape ok) (rated limit t ok) e other.requestors
    (rw other.denominator at (admitted_holds limit u passes))

turned_down_none : (limit : ℕ) (t : Table) (why : Refusal) → offered_verdict limit t ≡ fault why → NoOrderPasses limit t
unfolding admission_verdict
turned_down_none limit t why e u other passes =
    faultless_fault why (sym (checks_stand limit u t (reordered_back t u other) (then_open _ _ passes).0) ∙ e)

-- ---- the claims

-- the answer is what was found
answered : (P : Table → Type 0) (limit : ℕ) (t w : Table) → order limit t ≡ accept w
    → ((rows : List Requestor) → offered_verdict limit t ≡ faultless → order_of t ≡ Some rows → P (table_of limit t.denominator t.count rows)) → P w
answered P limit t w e of-found = by (ends limit t)
  where
    by : Ends limit t → P w
    by (turned_down_lem why ok f) = refuse_accept limit why w (sym f ∙ e)
    by (not_found ok unfound f) = refuse_accept limit (refusal 15) w (sym f ∙ e)
    by (ordered rows ok listed f) =
        let same : table_of limit t.denominator t.count rows ≡ w = ap (λ (x : TableResult). x.table) (sym f ∙ e) in
        rw same at (of-found rows ok listed)

pub answer_reorders : AnswerReorders
answer_reorders limit t u shape e = answered (Reordered t) limit t u e (λ rows ok listed. found_reorders limit t shape ok rows listed)

pub answer_passes : AnswerPasses
answer_passes limit t u shape e =
    answered (λ x. (admission_verdict limit x ≡ faultless) × (length x.requestors ≡ limit)) limit t u e
    (λ rows ok listed. (found_passes limit t shape ok rows listed, found_shape limit t shape ok rows listed))

pub right_order_stays : RightOrderStays
unfolding order admission_verdict
right_order_stays limit t shape passes =
    let ok : offered_verdict limit t ≡ faultless = (then_open _ _ passes).0 in
    let rs = requestors_of t in
    let all = right_already t.denominator (length rs) rs (omega arith) (admitted_holds limit t passes) in
    let listed : order_of t ≡ Some rs = rw (take-length rs, drop-length rs, as_many limit t shape ok) at all in
    let whole : table_of limit t.denominator t.count rs ≡ t = rw shape at (table_whole_lem t (few limit t shape ok) (passed offered_row_verdict limit t ok).clear) in
    rw (ok, listed, whole)

pub answer_stays : AnswerStays
answer_stays limit t u shape e = let (passes, rows) = answer_passes limit t u shape e in right_order_stays limit u rows passes

-- an accepted one is not refused
accept_refused : {X : Type 0} (limit : ℕ) (t u : Table) (why : Refusal) → order limit t ≡ accept u → (order limit t).answer ≡ refused why → X
accept_refused limit t u why e f =
    let answers : accepted ≡ refused why = sym (ap (λ (x : TableResult). x.answer) e) ∙ f in
    absurd cc

pub fault_is_answered : FaultIsAnswered
unfolding order
fault_is_answered limit t why e = rw e

pub refused_is_all_0 : RefusedIsAll0
refused_is_all_0 limit t why f = by (ends limit t)
  where
    told : (other : Refusal) → order limit t ≡ refuse limit other → order limit t ≡ refuse limit why
    told other e =
        let answers : refused other ≡ refused why = sym (ap (λ (x : TableResult). x.answer) e) ∙ f in
        let same : other ≡ why = cc in
        e ∙ ap (refuse limit) same

    by : Ends limit t → order limit t ≡ refuse limit why
    by (turned_down_lem other bad e) = told other e
    by (not_found ok unfound e) = told (refusal 15) e
    by (ordered rows ok listed e) = accept_refused limit t _ why e f

pub refused_means_none : RefusedMeansNone
refused_means_none limit t why shape f = by (ends limit t)
  where
    by : Ends limit t → NoOrderPasses limit t
    by (turned_down_lem other bad e) = turned_down_none limit t other bad
    by (not_found ok unfound e) = no_order_passes limit t shape ok unfound
    by (ordered rows ok listed e) = accept_refused limit t _ why e f

pub some_order_is_found : SomeOrderIsFound
some_order_is_found limit t v shape other passes = by (ends limit t)
  where
    by : Ends limit t → (u : Table) × (order limit t ≡ accept u)
    by (turned_down_lem why bad e) = absurd (turned_down_none limit t why bad v other passes)
    by (not_found ok unfound e) = absurd (no_order_passes limit t shape ok unfound v other passes)
    by (ordered rows ok listed e) = (table_of limit t.denominator t.count rows, e)

pub fifteen_exactly : FifteenExactly
fifteen_exactly limit t shape ok = (refused_means_none limit t (refusal 15) shape, by (ends limit t))
  where
    by : Ends limit t → NoOrderPasses limit t → (order limit t).answer ≡ refused (refusal 15)
    by (turned_down_lem why bad e) nobody = faultless_fault why (sym ok ∙ bad)
    by (not_found good unfound e) nobody = ap (λ (x : TableResult). x.answer) e
    by (ordered rows good listed e) nobody =
        absurd (nobody (table_of limit t.denominator t.count rows) (found_reorders limit t shape good rows listed) (found_passes limit t shape good rows listed))

pub same_requestor_tells : SameRequestorTells
same_requestor_tells = requestors_told
