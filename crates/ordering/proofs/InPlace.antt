-- The search on words: the requestors that remain and their sums, one need, and each turn of the loops. For any room. Assumes nothing.
use Rattle.std.proofs.Common.{Some, None, ◌≡◌, refl, ap, ap₂, sym, ◌∙◌, true, false, List, ◌∷◌, ◌++◌, ℕ, suc, ◌+◌, ◌-◌, ◌*◌, ◌≤◌, ◌<◌, mul-le-mul_right, arith, leb, length, take, drop, length-take, get_or-take}
use Rattle.lists.specs.Choices.{pick}
use Rattle.lists.specs.Sums.{total}
use Rattle.lists.specs.Orders.{without, occurrences}
use Rattle.lists.specs.Runs.{Result}
use Rattle.lists.proofs.Sums.{total_take_rises}
use Rattle.lists.proofs.Orders.{total_without}
use Rattle.terms.specs.declared.place.Requestor.{Requestor}
use Rattle.terms.specs.Table.{rate, burst, no_requestor, requestor_at, requestors_of, table_of, offered_row_verdict, offered_verdict}
use Rattle.terms.specs.Limits.{max_denominator, max_burst, max_within}
use Rattle.terms.specs.Figures.{bursts_above, rates_above, finish_of}
use Rattle.terms.specs.Refusals.{faultless, refusal, gate}
use Rattle.terms.specs.Answers.{Answer, accepted}
use Rattle.terms.specs.State.{State}
use Rattle.terms.specs.Start.{turned_down}
use Rattle.terms.proofs.Checks.{gate_open, Fair, fair, bursts_fit, passed, offered_passes}
use Rattle.terms.proofs.Tables.{table_whole_lem}
use Rattle.layout.specs.Words.{word_count, room_of_words, right_length, row_in, words_state, state_of, put_row, with_table}
use Rattle.layout.proofs.RoundTrip.{right}
use Rattle.layout.proofs.Stores.{same_room, right_stands, put_row_lem, put_row_length}
use Rattle.admission.specs.Checked.{table_in, rows_in, OfferChecked, Parts}
use Rattle.admission.proofs.Rows.{offered_checked, rows_length, row_at, Placed, placed}
use Rattle.ordering.specs.Order.{need_holds, last_holding, filled_up, order_of, found}
use Rattle.ordering.specs.InPlace.{in_state, Remaining, lowered}
use Rattle.ordering.specs.Claims.{same_requestor, Reordered}
use Rattle.ordering.proofs.Searching.{holding_at, nobody_fills, fills}
use Rattle.ordering.proofs.Reorders.{checks_stand}
use Rattle.ordering.proofs.Lowered.{raised, raised_none, raised_more, next_there, sunk_last, lowered_take, lowered_drop, lowered_past, lowered_total}

-- words that were checked as they are offered
pub offer_checked : (most : ℕ) (words : List ℕ) → faultless ≡ gate (refusal 23) (right_length most words) (offered_verdict (room_of_words words) (table_in words)) → OfferChecked most words
offer_checked most words e = let (ok, passes) = gate_open _ _ _ (sym e) in record { right = ok; passes = passes }

-- ---- the first k rows remain

module _ (most : ℕ) (words : List ℕ) (k bursts rates : ℕ) (v : Remaining most words k bursts rates) where
  abbrev d : ℕ
  d = (table_in words).denominator

  abbrev remaining : List Requestor
  remaining = take k (rows_in words)

  in_numbers : Fair (room_of_words words) (table_in words)
  in_numbers = fair (room_of_words words) (table_in words) (offered_passes _ _ v.checked.passes)

  pub within_room : k ≤ room_of_words words
  within_room = omega (arith, v.few, in_numbers.count_most)

  bursts_most : bursts ≤ most * max_burst
  bursts_most = omega (
    arith,
    v.bursts_are,
    total_take_rises burst k (table_in words).count (rows_in words) v.few,
    bursts_fit (room_of_words words) (table_in words) in_numbers,
    mul-le-mul_right max_burst (right most words v.checked.right).room_most,
  )

  rates_most : rates ≤ d
  rates_most = omega (arith, v.rates_are, total_take_rises rate k (table_in words).count (rows_in words) v.few, in_numbers.rate_sum)

  -- their words are there, and the sums are small
  pub sums_fit : (word_count k ≤ length words) × (bursts ≤ most * max_burst) × (rates ≤ max_denominator)
  sums_fit = (omega (arith, within_room, (right most words v.checked.right).long), bursts_most, omega (arith, rates_most, in_numbers.denominator_most))

  -- ---- one of them, and the others above it

  module _ (i : ℕ) (h : i < k) where
    pub one : Placed most words i
    one = placed most words i (offered_checked most words v.checked) (omega (arith, v.few))

    own_row : requestor_at i remaining ≡ row_in words i
    own_row = get_or-take k (rows_in words) i no_requestor h ∙ row_at words i (omega (arith, within_room))

    split : (f : Requestor → ℕ) → total f remaining ≡ f (row_in words i) + total f (without i remaining)
    split f =
        let inside : i < length remaining = omega (arith, length-take k (rows_in words), rows_length words, within_room) in
        rw own_row at (total_without no_requestor f i remaining inside)

    pub burst_inside : (row_in words i).burst ≤ bursts
    burst_inside = omega (arith, v.bursts_are, split burst)

    pub rate_inside : (row_in words i).rate ≤ rates
    rate_inside = omega (arith, v.rates_are, split rate)

    pub bursts_left : bursts - (row_in words i).burst ≡ total burst (without i remaining)
    bursts_left = omega (arith, v.bursts_are, split burst)

    pub rates_left : rates - (row_in words i).rate ≡ total rate (without i remaining)
    rates_left = omega (arith, v.rates_are, split rate)

    pub line_left : rates - (row_in words i).rate ≤ d
    line_left = omega (arith, rates_most)

    -- the parts of its finish figure
    pub parts_fit : Parts most d (bursts - (row_in words i).burst) (d - (rates - (row_in words i).rate)) (row_in words i).rate (row_in words i).need.0 × ((row_in words i).within.0 ≤ max_within)
    parts_fit = (
      record {
        denominator_most = one.denominator_most;
        bursts_most = omega (arith, bursts_most);
        left_least = omega (arith, one.own_rate, rate_inside, rates_most);
        left_most = omega (arith, one.denominator_most);
        rate_least = one.own_rate;
        rate_most = omega (arith, one.rates, one.denominator_most);
        need_most = one.own_need;
      },
      one.own_within,
    )

    pub need_is : leb (finish_of d (bursts - (row_in words i).burst) (d - (rates - (row_in words i).rate)) (row_in words i).rate (row_in words i).need.0) (row_in words i).within.0
        ≡ need_holds d (without i remaining) (row_in words i)
    unfolding need_holds
    need_is = rw (bursts_left, rates_left)

    -- ---- the last-listed that holds

    pub holding_pass : need_holds d (without i remaining) (row_in words i) ≡ false → last_holding d remaining (suc i) ≡ last_holding d remaining i
    unfolding last_holding
    holding_pass off = rw (own_row, off)

    pub holding_stop : need_holds d (without i remaining) (row_in words i) ≡ true → last_holding d remaining (suc i) ≡ Some i
    unfolding last_holding
    holding_stop on = rw (own_row, on)

-- ---- a row goes down

module _ (entry : List ℕ) (i p : ℕ) where
  abbrev rows₀ : List Requestor
  rows₀ = rows_in entry

  abbrev with_rows : List Requestor → State
  with_rows rows = with_table (state_of entry) (record { denominator = (table_in entry).denominator; count = (table_in entry).count; requestors = rows })

  -- those between i and q have gone up
  pub record Lowering (words : List ℕ) (q : ℕ) : Type 0 where
    pub length_stands : length words ≡ length entry
    pub low : i ≤ q
    pub high : q ≤ p
    pub state : words_state (room_of_words entry) words ≡ with_rows (raised no_requestor rows₀ i q)

  pub lowering_none : i ≤ p → p < room_of_words entry → Lowering entry i
  lowering_none h inside = record {
    length_stands = refl;
    low = omega arith;
    high = h;
    state = ap with_rows (sym (raised_none no_requestor rows₀ i (omega (arith, rows_length entry))));
  }

  module _ (long : length entry ≡ word_count (room_of_words entry)) (inside : p < room_of_words entry) (words : List ℕ) (q : ℕ) (v : Lowering words q) where
    as_long : length words ≡ word_count (room_of_words entry)
    as_long = v.length_stands ∙ long

    rows_now : (words_state (room_of_words entry) words).table.requestors ≡ raised no_requestor rows₀ i q
    rows_now = ap (λ s. s.table.requestors) v.state

    module _ (h : q < p) where
      next_row : row_in words (q + 1) ≡ requestor_at (q + 1) rows₀
      next_row =
          let at = ap (λ s. requestor_at (q + 1) s.table.requestors) (ap (λ k. words_state k words) (same_room entry words v.length_stands)) in
          sym (row_at words (q + 1) (omega (arith, same_room entry words v.length_stands))) ∙ at ∙ ap (requestor_at (q + 1)) rows_now
          ∙ next_there no_requestor rows₀ i q v.low (omega (arith, rows_length entry)) (omega (arith, rows_length entry))

      pub lowering_more : (next : List ℕ) → next ≡ put_row words q (row_in words (q + 1)) → Lowering next (q + 1)
      lowering_more next e =
          let moved = raised_more no_requestor rows₀ i q v.low (omega (arith, rows_length entry)) (omega (arith, rows_length entry)) in
          rw e
          (record {
            length_stands = put_row_length words q (row_in words (q + 1)) ∙ v.length_stands;
            low = omega (arith, v.low);
            high = omega arith;
            state = put_row_lem words q (row_in words (q + 1)) (room_of_words entry) as_long (omega arith) ∙ rw (v.state, next_row, moved);
          })

    pub lowering_end : p ≤ q → (last : List ℕ) → last ≡ put_row words p (row_in entry i) → state_of last ≡ lowered i p (state_of entry)
    lowering_end h last e =
        let end : q ≡ p = omega (arith, v.high) in
        let own : row_in entry i ≡ requestor_at i rows₀ = sym (row_at entry i (omega (arith, v.low))) in
        let room : room_of_words last ≡ room_of_words entry = same_room entry last (ap length e ∙ put_row_length words p (row_in entry i) ∙ v.length_stands) in
        let sunk = sunk_last no_requestor rows₀ i p (omega (arith, v.low)) (omega (arith, rows_length entry)) in
        ap (λ k. words_state k last) room ∙ ap (words_state (room_of_words entry)) e ∙ put_row_lem words p (row_in entry i) (room_of_words entry) as_long inside
        ∙ rw (v.state, end, own, sunk)

-- ---- place after place

-- k places are left, and what comes of those that remain is the order of the table
pub record Searching (most : ℕ) (entry words : List ℕ) (k bursts rates : ℕ) : Type 0 where
  pub length_stands : length words ≡ length entry
  pub remain : Remaining most words k bursts rates
  pub same_slot : (state_of words).slot ≡ (state_of entry).slot
  pub same_accounts : (state_of words).accounts ≡ (state_of entry).accounts
  pub same_denominator : (table_in words).denominator ≡ (table_in entry).denominator
  pub same_count : (table_in words).count ≡ (table_in entry).count
  pub goes_on : order_of (table_in entry) ≡ filled_up (table_in words).denominator k (take k (rows_in words)) (take ((table_in words).count - k) (drop k (rows_in words)))

pub searching_none : (most : ℕ) (entry : List ℕ) (k bursts rates : ℕ) → OfferChecked most entry → k ≡ (table_in entry).count → bursts ≡ bursts_above k (rows_in entry) → rates ≡ rates_above k (rows_in entry)
    → Searching most entry entry k bursts rates
searching_none most entry k bursts rates ok e b r =
    let none_below : (table_in entry).count - k ≡ 0 = omega arith in
    record {
      length_stands = refl;
      remain = record { checked = ok; few = omega arith; bursts_are = b; rates_are = r };
      same_slot = refl;
      same_accounts = refl;
      same_denominator = refl;
      same_count = refl;
      goes_on = rw (none_below, e);
    }

module _ (most : ℕ) (entry words : List ℕ) (k bursts rates : ℕ) (v : Searching most entry words k bursts rates) where
  abbrev filled : List Requestor
  filled = take ((table_in words).count - k) (drop k (rows_in words))

  abbrev all_found : Result State Answer
  all_found = in_state (room_of_words entry) (state_of entry) (found (room_of_words entry) (table_in entry) (order_of (table_in entry)))

  -- nobody can stand at place k - 1
  pub searching_stop : 0 < k → None ≡ last_holding (table_in words).denominator (take (k - 1 + 1) (rows_in words)) (k - 1 + 1) → turned_down (room_of_words words) (refusal 15) ≡ all_found
  searching_stop left told =
      let again : k - 1 + 1 ≡ k = omega arith in
      rw (v.goes_on ∙ nobody_fills (table_in words).denominator (take k (rows_in words)) filled k left (rw again at (sym told)), same_room entry words v.length_stands)

  -- the one that is chosen for place k - 1
  module _ (left : 0 < k) (i : ℕ) (told : Some i ≡ last_holding (table_in words).denominator (take (k - 1 + 1) (rows_in words)) (k - 1 + 1)) where
    pub is_last : last_holding (table_in words).denominator (take k (rows_in words)) k ≡ Some i
    is_last = let again : k - 1 + 1 ≡ k = omega arith in rw again at (sym told)

    pub is_inside : i < k
    is_inside = (holding_at _ _ _ _ is_last).0

    pub its_words : Placed most words i
    its_words = one most words k bursts rates v.remain i is_inside

    pub its_sums : ((row_in words i).burst ≤ bursts) × ((row_in words i).rate ≤ rates)
    its_sums = (burst_inside most words k bursts rates v.remain i is_inside, rate_inside most words k bursts rates v.remain i is_inside)

    pub its_place : (i ≤ k - 1) × (k - 1 < room_of_words words)
    its_place = (omega (arith, is_inside), omega (arith, within_room most words k bursts rates v.remain))

  module _ (next : List ℕ) (stands : length next ≡ length words) (i : ℕ) (inside : i < k) (e : state_of next ≡ lowered i (k - 1) (state_of words)) where
    again : suc (k - 1) ≡ k
    again = omega arith

    rows_next : rows_in next ≡ without i (take k (rows_in words)) ++ requestor_at i (rows_in words) ∷ drop k (rows_in words)
    rows_next = rw again at (ap (λ s. s.table.requestors) e)

    denominator_next : (table_in next).denominator ≡ (table_in words).denominator
    denominator_next = ap (λ s. s.table.denominator) e

    count_next : (table_in next).count ≡ (table_in words).count
    count_next = ap (λ s. s.table.count) e

    long : (table_in words).count ≤ length (rows_in words)
    long = omega (arith, (fair (room_of_words words) (table_in words) (offered_passes _ _ v.remain.checked.passes)).count_most, rows_length words)

    reordered : Reordered (table_in words) (table_in next)
    unfolding occurrences
    reordered = record {
      denominator = denominator_next;
      count = count_next;
      requestors = λ x. rw (count_next, rows_next) (lowered_total no_requestor (rows_in words) i k (table_in words).count inside v.remain.few long (λ y. pick (same_requestor x y) 1 0));
      past = rw (count_next, rows_next) (lowered_past no_requestor (rows_in words) i k (table_in words).count inside v.remain.few long);
    }

    still_checked : OfferChecked most next
    still_checked = record {
      right = right_stands most words next stands v.remain.checked.right;
      passes = rw (same_room words next stands) (checks_stand (room_of_words words) (table_in words) (table_in next) reordered v.remain.checked.passes);
    }

    others : take (k - 1) (rows_in next) ≡ without i (take k (rows_in words))
    others = rw rows_next (lowered_take no_requestor (rows_in words) i k (table_in words).count inside v.remain.few long)

    below : take ((table_in next).count - (k - 1)) (drop (k - 1) (rows_in next)) ≡ requestor_at i (take k (rows_in words)) ∷ filled
    below =
        let one_more : (table_in words).count - (k - 1) ≡ suc ((table_in words).count - k) = omega (arith, v.remain.few) in
        rw (count_next, one_more, rows_next, lowered_drop no_requestor (rows_in words) i k (table_in words).count inside v.remain.few long, get_or-take k (rows_in words) i no_requestor inside)

    pub searching_more : last_holding (table_in words).denominator (take k (rows_in words)) k ≡ Some i
        → Searching most entry next (k - 1) (bursts - (row_in words i).burst) (rates - (row_in words i).rate)
    searching_more chosen = record {
      length_stands = stands ∙ v.length_stands;
      remain = record {
        checked = still_checked;
        few = omega (arith, v.remain.few, count_next);
        bursts_are = bursts_left most words k bursts rates v.remain i inside ∙ ap (total burst) (sym others);
        rates_are = rates_left most words k bursts rates v.remain i inside ∙ ap (total rate) (sym others);
      };
      same_slot = ap (λ s. s.slot) e ∙ v.same_slot;
      same_accounts = ap (λ s. s.accounts) e ∙ v.same_accounts;
      same_denominator = denominator_next ∙ v.same_denominator;
      same_count = count_next ∙ v.same_count;
      goes_on = v.goes_on ∙ fills (table_in words).denominator (take k (rows_in words)) filled k i (omega arith) chosen ∙ rw (denominator_next, others, below);
    }

  -- every place is filled
  pub searching_end : k ≤ 0 → record { state = state_of words; answer = accepted } ≡ all_found
  unfolding filled_up
  searching_end none_left =
      let zero_left : k ≡ 0 = omega arith in
      let all : (table_in words).count - 0 ≡ (table_in words).count = omega arith in
      let listed : order_of (table_in entry) ≡ Some (requestors_of (table_in words)) = rw (zero_left, all) at v.goes_on in
      let few : (table_in words).count ≤ length (rows_in words) = omega (arith, (fair (room_of_words words) (table_in words) (offered_passes _ _ v.remain.checked.passes)).count_most, rows_length words) in
      let whole = table_whole_lem (table_in words) few (passed offered_row_verdict (room_of_words words) (table_in words) v.remain.checked.passes).clear in
      let room : length (rows_in words) ≡ room_of_words entry = rows_length words ∙ same_room entry words v.length_stands in
      let rows = requestors_of (table_in words) in
      let same : table_of (room_of_words entry) (table_in entry).denominator (table_in entry).count rows ≡ table_in words =
      ap (λ n. table_of (room_of_words entry) (table_in entry).denominator n rows) (sym v.same_count)
      ∙ ap₂ (λ k d. table_of k d (table_in words).count rows) (sym room) (sym v.same_denominator) ∙ whole in
      let stands : state_of words ≡ with_table (state_of entry) (table_in words) =
      ap₂ (λ at accounts. record { table = table_in words; slot = at; accounts = accounts }) v.same_slot v.same_accounts in
      rw listed (ap (λ s. record { state = s; answer = accepted }) (stands ∙ ap (with_table (state_of entry)) (sym same)))
