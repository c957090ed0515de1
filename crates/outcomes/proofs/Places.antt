-- The number and the place of a refusal, along the checks of a table and along the reading of its bytes. Assumes nothing.
use Rattle.std.proofs.Common.{◌≡◌, refl, ap, sym, ◌∙◌, Bool, true, false, List, [], ◌∷◌, ℕ, zero, suc, ◌+◌, ◌-◌, ◌≤◌, ◌<◌, arith, eqb-true, ltb, leb, eqb, length, take, drop, length-take, Option, Some, None}
use Rattle.lists.specs.Sums.{total, every}
use Rattle.lists.specs.Choices.{in_range}
use Rattle.lists.specs.Runs.{Result}
use Rattle.lists.proofs.Tests.{cases, in_range_true}
use Rattle.groups.specs.Groups as number
use Rattle.groups.specs.Groups.{Number, Ended, Malformed, number_of}
use Rattle.terms.specs.declared.refusals.Refusal.{Refusal}
use Rattle.terms.specs.State.{State, backlog, account_at, sound, place_verdict}
use Rattle.terms.specs.declared.place.Requestor.{Requestor}
use Rattle.terms.specs.Table.{Table, rate, requestor_clear, requestors_of, table_of, Bounds, denominator_bounds, count_bounds, rate_bounds, burst_bounds, need_bounds, within_bounds, held_to, fields_verdict, need_fits, need_fits_verdict, offered_row_verdict, each_place, tail_verdict, rate_sum_verdict, verdict_by, offered_verdict}
use Rattle.terms.specs.Limits.{max_backlog, max_slot, max_input}
use Rattle.terms.specs.Refusals.{origin_of, Verdict, faultless, fault, refusal, refusal_at, gate, then, resolve}
use Rattle.terms.specs.Answers.{Answer, accepted, granted, idle, refused, unless, slot_answer}
use Rattle.terms.specs.Figures.{finish, finish_verdict, finishes_verdict, admission_verdict}
use Rattle.terms.specs.Input.{input_verdict}
use Rattle.terms.specs.Start.{opening, start_verdict, start, turned_down}
use Rattle.terms.specs.Longer.{longer}
use Rattle.carrying.specs.Carry.{as_state, carry_verdict, carry}
use Rattle.terms.specs.Queries as queries
use Rattle.terms.specs.Chain as chains
use Rattle.terms.proofs.Checks.{held_open, offered_passes, fair}
use Rattle.terms.proofs.Sound.{place_open, sound_table}
use Rattle.terms.proofs.Chain.{chain_refused}
use Rattle.terms.specs.TableResult.{TableResult, accept, refuse}
use Rattle.table_bytes.specs.Reading.{Read, read, stop, next, read_as, number_read, field_read, row_fields_read, row_read, items_read, rows_read, places_read, numbers_read, left_verdict, last_verdict, settled, read_table, places_by, numbers_by}
use Rattle.table_bytes.specs.Writing as writing
use Rattle.lead_parts.specs.Lead as leads
use Rattle.rule.specs.Calls.{Call, post, slot, grant_of, done, rule_verdict, called}
use Rattle.rule.specs.Log.{Outcome, slots_state, slots_log, slots_verdict, run_verdict, run}
use Rattle.table_bytes.proofs.Accepted.{stop_read, field_open}
use Rattle.table_bytes.proofs.Opened.{numbers_open}
use Rattle.starts.specs.Starts.{begun}
use Rattle.ordering.specs.Order.{found, order_of}
use Rattle.ordered_bytes.specs.OrderBytes.{listed_verdict, order_read, order_bytes}
use Rattle.queries.specs.Look as look
use Rattle.outcomes.specs.Outcomes.{place_code, refusal_code}
use Rattle.outcomes.specs.Places.{of_a_table, of_a_state, of_an_order, of_a_chain, of_any_call, placed, AmongRefusals, CodeTells, CodeApart, StartNamesBelow, TableStartNamesBelow, CarryNamesBelow, CallsNameBelow, RunsNameBelow, LeadsNameBelow, FiguresNameBelow, ChainsNameBelow, WriteNamesBelow, OrdersNameBelow, LooksNameBelow, StandingsNameBelow}

-- ---- refusals by their number

module _ {numbers : ℕ → Bool} where
  plain : (limit n : ℕ) → numbers n ≡ true → false ≡ placed n → AmongRefusals numbers limit (refusal n)
  plain limit n e none = record { number = e; names = none; origin = refl; place = tt }

  at_place : (limit n p : ℕ) → numbers n ≡ true → true ≡ placed n → p < limit → AmongRefusals numbers limit (refusal_at n p)
  at_place limit n p e some h = record { number = e; names = some; origin = refl; place = h }

-- a table's, a state's, an ordering's and a chain figure's are any call's
pub table_any : {limit : ℕ} {r : Refusal} → AmongRefusals of_a_table limit r → AmongRefusals of_any_call limit r
table_any {limit} {r} t = record { number = rw t.number; names = t.names; origin = t.origin; place = t.place }

pub state_any : {limit : ℕ} {r : Refusal} → AmongRefusals of_a_state limit r → AmongRefusals of_any_call limit r
state_any {limit} {r} t = record {
  number = cases (of_a_table r.number) (λ on. rw on) (λ off. rw (off, t.number));
  names = t.names;
  origin = t.origin;
  place = t.place;
}

pub order_any : {limit : ℕ} {r : Refusal} → AmongRefusals of_an_order limit r → AmongRefusals of_any_call limit r
order_any {limit} {r} t = record {
  number = cases (of_a_table r.number) (λ on. rw on) (λ off. cases (of_a_state r.number) (λ on. rw (off, on)) (λ out. rw (off, out, t.number)));
  names = t.names;
  origin = t.origin;
  place = t.place;
}

pub chain_any : {limit : ℕ} {r : Refusal} → AmongRefusals of_a_chain limit r → AmongRefusals of_any_call limit r
chain_any {limit} {r} t = record {
  number = cases (of_a_table r.number) (λ on. rw on) (λ off. cases (of_a_state r.number) (λ on. rw (off, on)) (λ out.
      cases (of_an_order r.number) (λ on. rw (off, out, on)) (λ none. rw (off, out, none) t.number)));
  names = t.names;
  origin = t.origin;
  place = t.place;
}

-- every number is 1 to 23
abbrev InRange : ℕ → Type 0
InRange n = (1 ≤ n) × (n ≤ 23)

within : (low high n : ℕ) → 1 ≤ low → high ≤ 23 → in_range low high n ≡ true → InRange n
within low high n least most e = let h = in_range_true low high n e in (omega (arith, h.0), omega (arith, h.1))

equal : (k n : ℕ) → 1 ≤ k → k ≤ 23 → eqb n k ≡ true → InRange n
equal k n least most e = let z = eqb-true n k e in (omega arith, omega arith)

table_range : (n : ℕ) → of_a_table n ≡ true → InRange n
table_range n e = cases (in_range 1 10 n) (within 1 10 n (omega arith) (omega arith)) (λ a.
    cases (eqb n 12) (equal 12 n (omega arith) (omega arith)) (λ b.
    cases (eqb n 14) (equal 14 n (omega arith) (omega arith)) (λ c. equal 17 n (omega arith) (omega arith) (rw (a, b, c) at e))))

state_range : (n : ℕ) → of_a_state n ≡ true → InRange n
state_range n e = cases (eqb n 5) (equal 5 n (omega arith) (omega arith)) (λ a.
    cases (eqb n 11) (equal 11 n (omega arith) (omega arith)) (λ b.
    cases (eqb n 13) (equal 13 n (omega arith) (omega arith)) (λ c. within 21 23 n (omega arith) (omega arith) (rw (a, b, c) at e))))

order_range : (n : ℕ) → of_an_order n ≡ true → InRange n
order_range n e = cases (in_range 1 6 n) (within 1 6 n (omega arith) (omega arith)) (λ a.
    cases (in_range 8 10 n) (within 8 10 n (omega arith) (omega arith)) (λ b.
    cases (in_range 14 15 n) (within 14 15 n (omega arith) (omega arith)) (λ c. equal 17 n (omega arith) (omega arith) (rw (a, b, c) at e))))

chain_range : (n : ℕ) → of_a_chain n ≡ true → InRange n
chain_range n e = cases (eqb n 11) (equal 11 n (omega arith) (omega arith)) (λ a.
    cases (eqb n 16) (equal 16 n (omega arith) (omega arith)) (λ b. equal 23 n (omega arith) (omega arith) (rw (a, b) at e)))

any_range : (n : ℕ) → of_any_call n ≡ true → InRange n
any_range n e = cases (of_a_table n) (table_range n) (λ a. cases (of_a_state n) (state_range n) (λ b. cases (of_an_order n) (order_range n) (λ c. chain_range n (rw (a, b, c) at e))))

place_same : (x y : Option ℕ) → place_code x ≡ place_code y → x ≡ y
place_same None None e = refl
place_same None (Some p) e = absurd (omega arith)
place_same (Some p) None e = absurd (omega arith)
place_same (Some p) (Some q) e = let same : p ≡ q = omega arith in ap Some same

pub code_tells : CodeTells
unfolding refusal_code
code_tells limit r q t u e =
    let a = any_range r.number t.number in
    let b = any_range q.number u.number in
    let number : r.number ≡ q.number = omega (arith, a, b, e) in
    let place = place_same r.place q.place (omega (arith, a, b, e)) in
    same_refusal r q number place (t.origin ∙ ap origin_of number ∙ sym u.origin)
  where
    same_refusal : (r q : Refusal) → r.number ≡ q.number → r.place ≡ q.place → r.origin ≡ q.origin → r ≡ q
    same_refusal r q f g h = rw (f, g, h)

pub code_apart : CodeApart
unfolding refusal_code
code_apart limit r t = let a = any_range r.number t.number in ((λ e. absurd (omega (arith, a))), (λ e. absurd (omega (arith, a))))

-- ---- along checks

-- what holds of the refusal, where there is one
abbrev Refuses : (Refusal → Type 0) → Verdict → Type 0
Refuses P v = (r : Refusal) → v ≡ fault r → P r

module _ (P : Refusal → Type 0) where
  refuses_none : Refuses P faultless
  refuses_none r e = absurd cc

  refuses_fault : (q : Refusal) → P q → Refuses P (fault q)
  refuses_fault q b r e = let same : q ≡ r = cc in rw same at b

  refuses_gate : (q : Refusal) (test : Bool) (rest : Verdict) → P q → Refuses P rest → Refuses P (gate q test rest)
  unfolding gate
  refuses_gate q true rest b s = s
  refuses_gate q false rest b s = refuses_fault q b

  refuses_then : (v rest : Verdict) → Refuses P v → (v ≡ faultless → Refuses P rest) → Refuses P (then v rest)
  unfolding then
  refuses_then faultless rest s t = t refl
  refuses_then (fault q) rest s t = s

  refuses_held : (b : Bounds) (x : ℕ) → P b.outside → Refuses P (held_to b x)
  unfolding held_to
  refuses_held b x h = refuses_gate b.outside (in_range b.low b.high x) faultless h refuses_none

  refuses_left : (rest : List ℕ) → P (refusal 10) → Refuses P (left_verdict rest)
  refuses_left rest h = refuses_gate (refusal 10) (eqb (length rest) 0) faultless h refuses_none

  refuses_each : (limit : ℕ) (check : ℕ → Requestor → Verdict) → ((p : ℕ) (x : Requestor) → p < limit → Refuses P (check p x))
      → (p : ℕ) (rs : List Requestor) → p + length rs ≤ limit → Refuses P (each_place check p rs)
  unfolding each_place
  refuses_each limit check h p [] few = refuses_none
  refuses_each limit check h p (x ∷ rs) few = refuses_then (check p x) (each_place check (suc p) rs) (h p x (omega arith)) (λ ok. refuses_each limit check h (suc p) rs (omega arith))

-- of a call that a verdict turns down: what it answers is then the verdict's refusal
module _ {Y Z : Type 0} (answer : Y → Z) (carried_out : Y) (turned_down : Refusal → Y) (refuse : Refusal → Z) (P : Refusal → Type 0) where
  refuses_by : (v : Verdict) → Refuses P v → (r : Refusal) → (answer carried_out ≡ refuse r → ⊥) → ((q : Refusal) → answer (turned_down q) ≡ refuse r → q ≡ r)
      → answer (resolve v carried_out turned_down) ≡ refuse r → P r
  refuses_by faultless h r apart same e = absurd (apart e)
  refuses_by (fault q) h r apart same e = rw (same q e) at (h q refl)

-- it holds of 1 to 6, 8, 9 and 17, at a place that there is room for
pub record TableRefusals (limit : ℕ) (P : Refusal → Type 0) : Type 0 where
  pub one : P (refusal 1)
  pub two : P (refusal 2)
  pub three : (p : ℕ) → p < limit → P (refusal_at 3 p)
  pub four : (p : ℕ) → p < limit → P (refusal_at 4 p)
  pub five : (p : ℕ) → p < limit → P (refusal_at 5 p)
  pub six : P (refusal 6)
  pub eight : P (refusal 8)
  pub nine : P (refusal 9)
  pub seventeen : (p : ℕ) → p < limit → P (refusal_at 17 p)

-- so it is with numbers that these are among
table_refusals : (numbers : ℕ → Bool) (limit : ℕ) → numbers 1 ≡ true → numbers 2 ≡ true → numbers 3 ≡ true → numbers 4 ≡ true → numbers 5 ≡ true → numbers 6 ≡ true
    → numbers 8 ≡ true → numbers 9 ≡ true → numbers 17 ≡ true → TableRefusals limit (AmongRefusals numbers limit)
table_refusals numbers limit one two three four five six eight nine seventeen = record {
  one = plain limit 1 one refl;
  two = plain limit 2 two refl;
  three = λ p h. at_place limit 3 p three refl h;
  four = λ p h. at_place limit 4 p four refl h;
  five = λ p h. at_place limit 5 p five refl h;
  six = plain limit 6 six refl;
  eight = plain limit 8 eight refl;
  nine = plain limit 9 nine refl;
  seventeen = λ p h. at_place limit 17 p seventeen refl h;
}

-- as many rows as N says, at most the largest N
few_rows : (limit n : ℕ) (rs : List Requestor) → n ≤ limit → 0 + length (take n rs) ≤ limit
few_rows limit n rs h = omega (arith, length-take n rs)

module _ (limit : ℕ) (P : Refusal → Type 0) (holds : TableRefusals limit P) where
  refuses_row : (d p : ℕ) (x : Requestor) → p < limit → Refuses P (fields_verdict d p x)
  unfolding fields_verdict
  refuses_row d p x h =
      refuses_then P (held_to (rate_bounds d p) x.rate) _ (refuses_held P (rate_bounds d p) x.rate (holds.three p h)) (λ a.
      refuses_then P (held_to (burst_bounds d p) x.burst) _ (refuses_held P (burst_bounds d p) x.burst (holds.four p h)) (λ b.
      refuses_then P (held_to (need_bounds p) x.need.0) _ (refuses_held P (need_bounds p) x.need.0 (holds.five p h)) (λ c.
      refuses_held P (within_bounds p) x.within.0 (holds.five p h))))

  refuses_fit : (d p : ℕ) (x : Requestor) → p < limit → Refuses P (need_fits_verdict d p x)
  unfolding need_fits_verdict
  refuses_fit d p x h = refuses_gate P (refusal_at 17 p) (need_fits d x) faultless (holds.seventeen p h) (refuses_none P)

  refuses_offered_row : (d p : ℕ) (x : Requestor) → p < limit → Refuses P (offered_row_verdict d p x)
  unfolding offered_row_verdict
  refuses_offered_row d p x h = refuses_then P (fields_verdict d p x) _ (refuses_row d p x h) (λ a. refuses_fit d p x h)

  refuses_sum : (t : Table) → Refuses P (rate_sum_verdict t)
  unfolding rate_sum_verdict
  refuses_sum t = refuses_gate P (refusal 6) (leb (total rate (requestors_of t)) t.denominator) faultless holds.six (refuses_none P)

  pub refuses_table : (t : Table) → Refuses P (offered_verdict limit t)
  unfolding verdict_by tail_verdict
  refuses_table t =
      refuses_then P (held_to denominator_bounds t.denominator) _ (refuses_held P denominator_bounds t.denominator holds.one) (λ a.
      refuses_then P (held_to (count_bounds limit) t.count) _ (refuses_held P (count_bounds limit) t.count holds.two) (λ n.
      refuses_then P (tail_verdict t) _ (refuses_gate P (refusal 2) (every requestor_clear (drop t.count t.requestors)) faultless holds.two (refuses_none P)) (λ b.
      refuses_then P (each_place (offered_row_verdict t.denominator) 0 (requestors_of t)) _
      (refuses_each P limit (offered_row_verdict t.denominator) (refuses_offered_row t.denominator) 0 (requestors_of t) (few_rows limit t.count t.requestors (held_open (count_bounds limit) t.count n).1))
      (λ c. refuses_sum t))))

module _ (limit : ℕ) where
  of_a_table_lem : TableRefusals limit (AmongRefusals of_a_table limit)
  of_a_table_lem = table_refusals of_a_table limit refl refl refl refl refl refl refl refl refl

  refuses_finishes : (t : Table) → t.count ≤ limit → Refuses (AmongRefusals of_a_table limit) (finishes_verdict t)
  unfolding finish_verdict
  refuses_finishes t h =
      refuses_each (AmongRefusals of_a_table limit) limit (finish_verdict t.denominator (requestors_of t))
      (λ p x few. refuses_gate (AmongRefusals of_a_table limit) (refusal_at 7 p) (leb (finish t.denominator (requestors_of t) p x.need.0) x.within.0) faultless (at_place limit 7 p refl refl few) (refuses_none (AmongRefusals of_a_table limit)))
      0 (requestors_of t) (few_rows limit t.count t.requestors h)

  refuses_admission : (t : Table) → Refuses (AmongRefusals of_a_table limit) (admission_verdict limit t)
  unfolding admission_verdict
  refuses_admission t = refuses_then (AmongRefusals of_a_table limit) (offered_verdict limit t) (finishes_verdict t) (refuses_table limit (AmongRefusals of_a_table limit) of_a_table_lem t) (λ ok. refuses_finishes t (fair limit t (offered_passes limit t ok)).count_most)

-- ---- along a reading

abbrev ReadRefuses : {X : Type 0} → (Refusal → Type 0) → Read X → Type 0
ReadRefuses P x = (r : Refusal) → x ≡ stop r → P r

module _ (limit : ℕ) (P : Refusal → Type 0) (holds : TableRefusals limit P) where
  refuses_read : {X : Type 0} (x : X) (rest : List ℕ) → ReadRefuses P (read x rest)
  refuses_read x rest r e = stop_read (sym e)

  refuses_stop : {X : Type 0} (q : Refusal) → P q → ReadRefuses {X = X} P (stop q)
  refuses_stop q b r e = let same : q ≡ r = cc in rw same at b

  refuses_next : {X Y : Type 0} (x : Read X) (more : X → List ℕ → Read Y) → ReadRefuses P x → ((y : X) (rest : List ℕ) → x ≡ read y rest → ReadRefuses P (more y rest))
      → ReadRefuses P (next x more)
  unfolding next
  refuses_next (read y rest) more s t = t y rest refl
  refuses_next (stop q) more s t = refuses_stop q (s q refl)

  refuses_number : (bytes : List ℕ) (x : number.Reading) → ReadRefuses P (read_as bytes x)
  refuses_number bytes (Number x taken) = refuses_read x (drop taken bytes)
  refuses_number bytes Ended = refuses_stop (refusal 8) holds.eight
  refuses_number bytes Malformed = refuses_stop (refusal 9) holds.nine

  refuses_resolve : {X : Type 0} (v : Verdict) (x : Read X) → ReadRefuses P x → Refuses P v → ReadRefuses P (resolve v x stop)
  refuses_resolve faultless x s t = s
  refuses_resolve (fault q) x s t = refuses_stop q (t q refl)

  refuses_field : (b : Bounds) (bytes : List ℕ) → P b.outside → ReadRefuses P (field_read b bytes)
  unfolding field_read
  refuses_field b bytes h =
      refuses_next (number_read bytes) _ (refuses_number bytes (number_of bytes)) (λ x rest e. refuses_resolve (held_to b x) (read x rest) (refuses_read x rest) (refuses_held P b x h))

  refuses_fields_read : (d p : ℕ) (bytes : List ℕ) → p < limit → ReadRefuses P (row_fields_read d p bytes)
  unfolding row_fields_read
  refuses_fields_read d p bytes h =
      refuses_next (field_read (rate_bounds d p) bytes) _ (refuses_field (rate_bounds d p) bytes (holds.three p h)) (λ n l e.
      refuses_next (field_read (burst_bounds d p) l) _ (refuses_field (burst_bounds d p) l (holds.four p h)) (λ b m f.
      refuses_next (field_read (need_bounds p) m) _ (refuses_field (need_bounds p) m (holds.five p h)) (λ j k g.
      refuses_next (field_read (within_bounds p) k) _ (refuses_field (within_bounds p) k (holds.five p h)) (λ x o i. refuses_read _ o))))

  refuses_row_read : (d p : ℕ) (bytes : List ℕ) → p < limit → ReadRefuses P (row_read d p bytes)
  unfolding row_read
  refuses_row_read d p bytes h =
      refuses_next (row_fields_read d p bytes) _ (refuses_fields_read d p bytes h) (λ r rest e. refuses_resolve (need_fits_verdict d p r) (read r rest) (refuses_read r rest) (refuses_fit limit P holds d p r h))

  refuses_items : {X : Type 0} (item : ℕ → List ℕ → Read X) → ((p : ℕ) (bytes : List ℕ) → p < limit → ReadRefuses P (item p bytes))
      → (items p : ℕ) (bytes : List ℕ) → p + items ≤ limit → ReadRefuses P (items_read item items p bytes)
  unfolding items_read
  refuses_items item h zero p bytes few = refuses_read [] bytes
  refuses_items item h (suc items) p bytes few =
      refuses_next (item p bytes) _ (h p bytes (omega arith)) (λ x l e.
      refuses_next (items_read item items (suc p) l) _ (refuses_items item h items (suc p) l (omega arith)) (λ xs m f. refuses_read (x ∷ xs) m))

  refuses_places : (d n : ℕ) (bytes : List ℕ) → n ≤ limit → ReadRefuses P (places_read limit d n bytes)
  unfolding places_by
  refuses_places d n bytes h =
      refuses_next (rows_read n d 0 bytes) _ (refuses_items (row_read d) (refuses_row_read d) n 0 bytes (omega arith)) (λ rows l e. refuses_read (table_of limit d n rows) l)

  pub refuses_numbers : (bytes : List ℕ) → ReadRefuses P (numbers_read limit bytes)
  unfolding numbers_by
  refuses_numbers bytes =
      refuses_next (field_read denominator_bounds bytes) _ (refuses_field denominator_bounds bytes holds.one) (λ d l e.
      refuses_next (field_read (count_bounds limit) l) _ (refuses_field (count_bounds limit) l holds.two) (λ n m f.
      refuses_places d n m (held_open (count_bounds limit) n (field_open (count_bounds limit) l n m f).held).1))

module _ (limit : ℕ) where
  -- a table that was read has at most the largest N
  few_numbers : (bytes : List ℕ) (t : Table) (rest : List ℕ) → numbers_read limit bytes ≡ read t rest → t.count ≤ limit
  unfolding table_of
  few_numbers bytes t rest e =
      let taken = numbers_open limit bytes t rest e in
      let count : taken.n ≡ t.count = ap (λ x. x.count) taken.table in
      omega (arith, taken.few)

  -- what a reading answers
  refuses_settled : (x : Read Table) → ReadRefuses (AmongRefusals of_a_table limit) x → ((t : Table) (rest : List ℕ) → x ≡ read t rest → t.count ≤ limit)
      → (r : Refusal) → (settled limit x).answer ≡ refused r → AmongRefusals of_a_table limit r
  unfolding settled last_verdict
  refuses_settled (stop q) s few r e = let same : q ≡ r = cc in rw same at (s q refl)
  refuses_settled (read t rest) s few r e =
      refuses_by {Y = TableResult} (λ x. x.answer) (accept t) (refuse limit) refused (AmongRefusals of_a_table limit) (last_verdict t rest)
      (refuses_then (AmongRefusals of_a_table limit) (left_verdict rest) _ (refuses_left (AmongRefusals of_a_table limit) rest (plain limit 10 refl refl)) (λ a.
      refuses_then (AmongRefusals of_a_table limit) (rate_sum_verdict t) (finishes_verdict t) (refuses_sum limit (AmongRefusals of_a_table limit) (of_a_table_lem limit) t) (λ b. refuses_finishes limit t (few t rest refl))))
      r (λ f. cc) (λ q f. cc) e

  refuses_answer : (bytes : List ℕ) (r : Refusal) → (read_table limit bytes).answer ≡ refused r → AmongRefusals of_a_table limit r
  unfolding read_table
  refuses_answer bytes r e = refuses_settled (numbers_read limit bytes) (refuses_numbers limit (AmongRefusals of_a_table limit) (of_a_table_lem limit) bytes) (few_numbers bytes) r e

-- ---- the calls

pub table_start_names_below : TableStartNamesBelow
unfolding start start_verdict
table_start_names_below limit t first r e =
    refuses_by {Y = Result State Answer} (λ x. x.answer) (record { state = opening t first; answer = accepted }) (turned_down limit) refused
    (AmongRefusals of_a_table limit) (start_verdict limit t first)
    (refuses_then (AmongRefusals of_a_table limit) (admission_verdict limit t) _ (refuses_admission limit t) (λ ok. refuses_gate (AmongRefusals of_a_table limit) (refusal 12) (leb first max_slot) faultless (plain limit 12 refl refl) (refuses_none (AmongRefusals of_a_table limit))))
    r (λ f. cc) (λ q f. cc) e

pub start_names_below : StartNamesBelow
unfolding begun
start_names_below limit bytes first r e = by (read_table limit bytes).answer refl e
  where
    by : (a : Answer) → (read_table limit bytes).answer ≡ a → (unless a (turned_down limit) (start limit (read_table limit bytes).table first)).answer ≡ refused r → AmongRefusals of_a_table limit r
    by accepted h f = table_start_names_below limit (read_table limit bytes).table first r f
    by (granted stamp p) h f = table_start_names_below limit (read_table limit bytes).table first r f
    by (idle stamp) h f = table_start_names_below limit (read_table limit bytes).table first r f
    by (refused q) h f = let same : q ≡ r = cc in refuses_answer limit bytes r (h ∙ ap refused same)

pub carry_names_below : CarryNamesBelow
unfolding carry
carry_names_below old new o r e =
    refuses_by {Y = Result State Answer} (λ x. x.answer) (record { state = longer (new - old) (as_state o); answer = accepted }) (turned_down new) refused Is23 (carry_verdict old o)
    (refuses_gate Is23 (refusal 23) (sound old (as_state o)) faultless (refl, plain new 23 refl refl) (refuses_none Is23))
    r (λ f. cc) (λ q f. cc) e
  where
    Is23 : Refusal → Type 0
    Is23 q = (q ≡ refusal 23) × AmongRefusals of_a_state new q

refuses_rule : (limit : ℕ) (s : State) (c : Call) → Refuses (AmongRefusals of_a_state limit) (rule_verdict s c)
unfolding rule_verdict
refuses_rule limit s (post p count) =
    refuses_gate (AmongRefusals of_a_state limit) (refusal 11) (ltb p s.table.count) _ (plain limit 11 refl refl)
    (refuses_gate (AmongRefusals of_a_state limit) (refusal 21) (leb (backlog (account_at p s.accounts) + count) max_backlog) faultless (plain limit 21 refl refl) (refuses_none (AmongRefusals of_a_state limit)))
refuses_rule limit s slot = refuses_gate (AmongRefusals of_a_state limit) (refusal 22) (ltb s.slot.0 max_slot) faultless (plain limit 22 refl refl) (refuses_none (AmongRefusals of_a_state limit))

done_apart : (s : State) (c : Call) (r : Refusal) → (done s c).answer ≡ refused r → ⊥
unfolding done
done_apart s (post p count) r e = cc
done_apart s slot r e = never (grant_of s) e
  where
    never : (g : Option ℕ) → slot_answer s.slot.0 g ≡ refused r → ⊥
    never None f = cc
    never (Some p) f = cc

pub calls_name_below : CallsNameBelow
unfolding called
calls_name_below limit s c r e =
    refuses_by {Y = Result State Answer} (λ x. x.answer) (done s c) (λ q. record { state = s; answer = refused q }) refused (AmongRefusals of_a_state limit)
    (gate (refusal 23) (sound limit s) (rule_verdict s c))
    (refuses_gate (AmongRefusals of_a_state limit) (refusal 23) (sound limit s) (rule_verdict s c) (plain limit 23 refl refl) (refuses_rule limit s c))
    r (done_apart s c r) (λ q f. cc) e

refuses_input : (limit bytes : ℕ) → Refuses (AmongRefusals of_a_state limit) (input_verdict bytes)
unfolding input_verdict
refuses_input limit bytes = refuses_gate (AmongRefusals of_a_state limit) (refusal 13) (leb bytes max_input) faultless (plain limit 13 refl refl) (refuses_none (AmongRefusals of_a_state limit))

pub runs_name_below : RunsNameBelow
unfolding run run_verdict slots_verdict
runs_name_below limit s log r e =
    refuses_by {Y = Outcome} (λ x. x.answer) (record { state = slots_state (length log) s; answer = accepted; log = slots_log (length log) s })
    (λ q. record { state = s; answer = refused q; log = log }) refused (AmongRefusals of_a_state limit) (run_verdict limit s (length log))
    (refuses_gate (AmongRefusals of_a_state limit) (refusal 23) (sound limit s) _ (plain limit 23 refl refl)
    (refuses_then (AmongRefusals of_a_state limit) (input_verdict (length log)) _ (refuses_input limit (length log)) (λ ok. refuses_gate (AmongRefusals of_a_state limit) (refusal 22) (leb (s.slot.0 + length log) max_slot) faultless (plain limit 22 refl refl) (refuses_none (AmongRefusals of_a_state limit)))))
    r (λ f. cc) (λ q f. cc) e

refuses_place : (P : Refusal → Type 0) → P (refusal 23) → P (refusal 11) → (limit : ℕ) (s : State) (p : ℕ) → Refuses P (place_verdict limit s p)
unfolding place_verdict
refuses_place P unsound absent limit s p = refuses_gate P (refusal 23) (sound limit s) _ unsound (refuses_gate P (refusal 11) (ltb p s.table.count) faultless absent (refuses_none P))

refuses_query : (limit : ℕ) (s : State) (p : ℕ) → Refuses (AmongRefusals of_a_state limit) (place_verdict limit s p)
refuses_query limit = refuses_place (AmongRefusals of_a_state limit) (plain limit 23 refl refl) (plain limit 11 refl refl) limit

-- past 23 and 11 there is room for as many places as the table has
few_places : (limit : ℕ) (s : State) (p : ℕ) → place_verdict limit s p ≡ faultless → s.table.count ≤ limit
few_places limit s p ok = (fair limit s.table (sound_table limit s (place_open limit s p ok).0)).count_most

pub figures_name_below : FiguresNameBelow
unfolding queries.figures queries.figures_verdict
figures_name_below limit s p j r e =
    refuses_by (λ x. x) _ queries.refused queries.refused (AmongRefusals of_a_state limit) (queries.figures_verdict limit s p j)
    (refuses_then (AmongRefusals of_a_state limit) (place_verdict limit s p) _ (refuses_query limit s p) (λ ok. refuses_held (AmongRefusals of_a_state limit) (need_bounds p) j (at_place limit 5 p refl refl (few ok))))
    r (λ f. cc) (λ q f. cc) e
  where
    few : place_verdict limit s p ≡ faultless → p < limit
    few ok = omega (arith, (place_open limit s p ok).1, few_places limit s p ok)

-- a chain figure: 23 and 11, then 11 of each name and 16 of each place
abbrev ChainRefusal : ℕ → Refusal → Type 0
ChainRefusal limit r = AmongRefusals of_a_chain limit r

pub chains_name_below : ChainsNameBelow
unfolding chains.chain_verdict chains.following_verdict chains.name_verdict chains.circle_verdict
chains_name_below limit s p names r e =
    refuses_then (ChainRefusal limit) (place_verdict limit s p) _ (refuses_place (ChainRefusal limit) (plain limit 23 refl refl) (plain limit 11 refl refl) limit s p) (λ ok.
    refuses_then (ChainRefusal limit) (chains.names_verdict s.table names) _
    (refuses_each (ChainRefusal limit) limit (chains.name_verdict s.table.count names) (λ q x h. refuses_gate (ChainRefusal limit) (refusal 11) _ faultless (plain limit 11 refl refl) (refuses_none (ChainRefusal limit))) 0 (requestors_of s.table) (few ok))
    (λ there. refuses_each (ChainRefusal limit) limit (chains.circle_verdict s.table.count names) (λ q x h. refuses_gate (ChainRefusal limit) (refusal_at 16 q) _ faultless (at_place limit 16 q refl refl h) (refuses_none (ChainRefusal limit))) 0 (requestors_of s.table) (few ok)))
    r (chain_refused limit s p names r e)
  where
    few : place_verdict limit s p ≡ faultless → 0 + length (requestors_of s.table) ≤ limit
    few ok = few_rows limit s.table.count s.table.requestors (few_places limit s p ok)

pub leads_name_below : LeadsNameBelow
unfolding leads.lead_query leads.lead_verdict
leads_name_below limit s p log r e =
    refuses_by (λ x. x) _ leads.refused leads.refused (AmongRefusals of_a_state limit) (leads.lead_verdict limit s p (length log))
    (refuses_then (AmongRefusals of_a_state limit) (place_verdict limit s p) _ (refuses_query limit s p) (λ ok. refuses_input limit (length log)))
    r (λ f. cc) (λ q f. cc) e

-- a table's bytes, written or not by a verdict
module _ (P : Refusal → Type 0) where
  refuses_written : (v : Verdict) (t : Table) (buffer : List ℕ) → Refuses P v → (r : Refusal) → (writing.written_by v t buffer).answer ≡ writing.refused r → P r
  refuses_written v t buffer h r e =
      refuses_by {Y = writing.TableWritten} (λ x. x.answer) (writing.written_by faultless t buffer) (λ q. writing.written_by (fault q) t buffer) writing.refused P v h r (λ f. cc) (λ q f. cc) e

  refuses_room : (t : Table) (room : ℕ) → P (refusal 14) → Refuses P (writing.room_verdict t room)
  refuses_room t room h = refuses_gate P (refusal 14) (leb (length (writing.table_bytes t)) room) faultless h (refuses_none P)

pub write_names_below : WriteNamesBelow
unfolding writing.write_table writing.write_verdict
write_names_below limit t buffer r e =
    refuses_written (AmongRefusals of_a_table limit) (writing.write_verdict limit t (length buffer)) t buffer
    (refuses_then (AmongRefusals of_a_table limit) (admission_verdict limit t) _ (refuses_admission limit t) (λ ok. refuses_room (AmongRefusals of_a_table limit) t (length buffer) (plain limit 14 refl refl))) r e

-- an ordering: what is read of its bytes, 10, 6, 15, and then the writer's
module _ (limit : ℕ) where
  abbrev OrderRefusal : Refusal → Type 0
  OrderRefusal r = AmongRefusals of_an_order limit r

  order_refusals : TableRefusals limit OrderRefusal
  order_refusals = table_refusals of_an_order limit refl refl refl refl refl refl refl refl refl

  refuses_found : (t : Table) (o : Option (List Requestor)) (r : Refusal) → (found limit t o).answer ≡ refused r → OrderRefusal r
  refuses_found t None r e = refuses_fault OrderRefusal (refusal 15) (plain limit 15 refl refl) r (let same : refusal 15 ≡ r = cc in ap fault same)
  refuses_found t (Some rows) r e = absurd cc

  refuses_order_read : (x : Read Table) → ReadRefuses OrderRefusal x → (r : Refusal) → (order_read limit x).answer ≡ refused r → OrderRefusal r
  unfolding order_read listed_verdict
  refuses_order_read (stop q) s r e = let same : q ≡ r = cc in rw same at (s q refl)
  refuses_order_read (read t rest) s r e =
      by (listed_verdict t rest)
      (refuses_then OrderRefusal (left_verdict rest) _ (refuses_left OrderRefusal rest (plain limit 10 refl refl)) (λ a. refuses_sum limit OrderRefusal order_refusals t)) e
    where
      by : (v : Verdict) → Refuses OrderRefusal v → (resolve v (found limit t (order_of t)) (refuse limit)).answer ≡ refused r → OrderRefusal r
      by faultless h f = refuses_found t (order_of t) r f
      by (fault q) h f = let same : q ≡ r = cc in rw same at (h q refl)

pub orders_name_below : OrdersNameBelow
unfolding order_bytes
orders_name_below limit bytes buffer r e = by (order_read limit (numbers_read limit bytes)).answer refl e
  where
    in_order : Table
    in_order = (order_read limit (numbers_read limit bytes)).table

    goes_on : writing.TableWritten
    goes_on = writing.written_by (writing.room_verdict in_order (length buffer)) in_order buffer

    carried : goes_on.answer ≡ writing.refused r → AmongRefusals of_an_order limit r
    carried f =
        refuses_written (OrderRefusal limit) (writing.room_verdict in_order (length buffer)) in_order buffer
        (refuses_room (OrderRefusal limit) in_order (length buffer) (plain limit 14 refl refl)) r f

    by : (a : Answer) → (order_read limit (numbers_read limit bytes)).answer ≡ a
        → (unless a (λ q. record { answer = writing.refused q; buffer = buffer }) goes_on).answer ≡ writing.refused r → AmongRefusals of_an_order limit r
    by accepted h f = carried f
    by (granted stamp p) h f = carried f
    by (idle stamp) h f = carried f
    by (refused q) h f =
        let same : q ≡ r = cc in refuses_order_read limit (numbers_read limit bytes) (refuses_numbers limit (OrderRefusal limit) (order_refusals limit) bytes) r (h ∙ ap refused same)

-- a query that its checks turn down
refuses_looked : {X : Type 0} (limit : ℕ) (x : X) (v : Verdict) → Refuses (AmongRefusals of_a_state limit) v → (r : Refusal) → resolve v (look.looked x) look.refused ≡ look.refused r → AmongRefusals of_a_state limit r
refuses_looked limit x v h r e = refuses_by (λ x. x) (look.looked x) look.refused look.refused (AmongRefusals of_a_state limit) v h r (λ f. cc) (λ q f. cc) e

pub looks_name_below : LooksNameBelow
unfolding look.account_query
looks_name_below limit s p r e = refuses_looked limit _ (place_verdict limit s p) (refuses_query limit s p) r e

pub standings_name_below : StandingsNameBelow
unfolding look.standing
standings_name_below limit s r e =
    refuses_looked limit _ (gate (refusal 23) (sound limit s) faultless) (refuses_gate (AmongRefusals of_a_state limit) (refusal 23) (sound limit s) faultless (plain limit 23 refl refl) (refuses_none (AmongRefusals of_a_state limit))) r e
