-- The walk of test 23: what it has found after p places, what makes it stop, and its end. Assumes nothing.
use Rattle.std.proofs.Common.{◌≡◌, refl, ap, sym, ◌∙◌, true, false, ◌&&◌, List, ℕ, suc, ◌+◌, ◌-◌, ◌*◌, ◌≤◌, ◌<◌, add-one, arith, le-leb, leb, length, take, drop, get_or, length-take, get_or-take}
use borrow.Author.Tests.{lt-leb}
use Rattle.lists.specs.Sums.{total, every, up_to}
use Rattle.lists.proofs.Tests.{cases, true_false, and_true, true_and, and_false, every_more, every_fails, up_to_fails}
use Rattle.lists.proofs.Sums.{total_take_suc}
use Rattle.terms.specs.declared.place.Requestor.{Requestor}
use Rattle.terms.specs.declared.place.Account.{Account}
use Rattle.terms.specs.Limits.{max_places, max_denominator, max_burst}
use Rattle.terms.specs.Refusals.{Verdict, faultless, fault}
use Rattle.terms.specs.Table.{rate, burst, no_requestor, fields_verdict, each_place}
use Rattle.terms.specs.State.{credit, no_account, backlog_fits, credits_hold, is_faultless, accounts_hold}
use Rattle.terms.proofs.Checks.{Row, row_open}
use Rattle.terms.proofs.Places.{each_pass, each_stop, each_end}
use Rattle.terms.proofs.Sound.{is_faultless_true}
use Rattle.layout.specs.Words.{word_count, room_of_words, right_length, row_in, account_in, state_of}
use Rattle.layout.proofs.RoundTrip.{right, words_shaped, row_at, account_at_lem}
use Rattle.soundness.specs.Soundness.{places_hold}

module _ (words : List ℕ) (d n : ℕ) where
  abbrev rs : List Requestor
  rs = (state_of words).table.requestors

  abbrev accounts : List Account
  accounts = (state_of words).accounts

  -- after p places: what is left to check of the rows, what the bursts leave after the credits, and that every test so far passed. Beside
  -- it stands what the walk is asked of words that have room for the n places
  pub record Held (rates room p : ℕ) : Type 0 where
    pub right : right_length max_places words ≡ true
    pub few : n ≤ room_of_words words
    pub small : d ≤ max_denominator
    pub below : p ≤ n
    pub rows : each_place (fields_verdict d) 0 (take n rs) ≡ each_place (fields_verdict d) p (drop p (take n rs))
    pub backlogs : every backlog_fits (take p accounts) ≡ true
    pub sums : up_to p (credits_hold rs accounts) ≡ true
    pub room_is : room + total credit (take p accounts) ≡ total burst (take p rs)
    pub rates_are : rates ≡ total rate (take p rs)
    pub room_fits : room ≤ p * max_burst
    pub rates_fit : rates ≤ p * max_denominator

  pub held_none : right_length max_places words ≡ true → n ≤ room_of_words words → d ≤ max_denominator → Held 0 0 0
  unfolding total every up_to
  held_none right few small = record {
    right = right;
    few = few;
    small = small;
    below = omega arith;
    rows = refl;
    backlogs = refl;
    sums = refl;
    room_is = refl;
    rates_are = refl;
    room_fits = omega arith;
    rates_fit = omega arith;
  }

  -- the row and the account of the next place
  module _ (rates room p : ℕ) (v : Held rates room p) (h : p < n) where
    abbrev r : Requestor
    r = row_in words p

    abbrev a : Account
    a = account_in words p

    pub there : word_count (p + 1) ≤ length words
    there = omega (arith, (right max_places words v.right).long, v.few)

    rows_long : n ≤ length rs
    rows_long = omega (arith, (words_shaped (room_of_words words) words).rows, v.few)

    er : get_or rs p no_requestor ≡ r
    er = row_at (room_of_words words) words p (omega (arith, v.few))

    ea : get_or accounts p no_account ≡ a
    ea = account_at_lem (room_of_words words) words p (omega (arith, v.few))

    row_stops : (w : Verdict) → fields_verdict d p r ≡ w → is_faultless w ≡ false → is_faultless (each_place (fields_verdict d) 0 (take n rs)) ≡ false
    row_stops faultless e f = true_false f
    row_stops (fault x) e f = ap is_faultless (v.rows ∙ each_stop (fields_verdict d) rs n p rows_long h x (ap (fields_verdict d p) er ∙ e))

    backlog_stops : backlog_fits a ≡ false → accounts_hold n rs accounts ≡ false
    unfolding accounts_hold
    backlog_stops f =
        let inside : p < length (take n accounts) = simp length-take (omega (arith, (words_shaped (room_of_words words) words).accounts, v.few)) in
        rw (every_fails backlog_fits no_account (take n accounts) p inside (rw (get_or-take n accounts p no_account h, ea) f))

    -- a place that breaks a rule
    pub place_stops : (is_faultless (fields_verdict d p r) && backlog_fits a) ≡ false → false ≡ places_hold d n rs accounts
    unfolding places_hold
    place_stops e = cases (is_faultless (fields_verdict d p r))
        (λ f. let g : backlog_fits a ≡ false = rw f at e in
        sym (and_false (is_faultless (each_place (fields_verdict d) 0 (take n rs))) _ (rw (backlog_stops g))))
        (λ f. sym (rw (row_stops (fields_verdict d p r) refl f)))

    -- a credit above what the bursts leave
    pub credit_stops : room + r.burst < a.credit → false ≡ places_hold d n rs accounts
    unfolding places_hold accounts_hold
    credit_stops l =
        let credits = total_take_suc credit no_account refl p accounts in
        let bursts = total_take_suc burst no_requestor refl p rs in
        let over : leb (total credit (take (suc p) accounts)) (total burst (take (suc p) rs)) ≡ false =
        lt-leb (total credit (take (suc p) accounts)) (total burst (take (suc p) rs)) (omega (arith, credits, bursts, v.room_is, ap credit ea, ap burst er)) in
        let fails = up_to_fails (credits_hold rs accounts) n (suc p) (omega arith) (omega arith) over in
        let held = and_false (every backlog_fits (take n accounts)) (up_to n (credits_hold rs accounts)) fails in
        sym (and_false (is_faultless (each_place (fields_verdict d) 0 (take n rs))) _ (rw held))

    module _ (e : (is_faultless (fields_verdict d p r) && backlog_fits a) ≡ true) where
      row : Row d r
      row = row_open d p r (is_faultless_true (fields_verdict d p r) (and_true _ _ e).0)

      -- the sums with this place's own
      pub sums_small : (rates + r.rate ≤ max_places * max_denominator) × (room + r.burst ≤ max_places * max_burst)
      sums_small =
          let most : n ≤ max_places = omega (arith, (right max_places words v.right).room_most, v.few) in
          (omega (arith, row.rate_most, v.rates_fit, v.small), omega (arith, row.burst_most, v.room_fits))

      -- one place more
      pub held_more : a.credit ≤ room + r.burst → Held (rates + r.rate) (room + r.burst - a.credit) (p + 1)
      unfolding up_to
      held_more l =
          let b = and_true (is_faultless (fields_verdict d p r)) _ e in
          let cs = total_take_suc credit no_account refl p accounts in
          let bs = total_take_suc burst no_requestor refl p rs in
          let ns = total_take_suc rate no_requestor refl p rs in
          let rest : each_place (fields_verdict d) 0 (take n rs) ≡ each_place (fields_verdict d) (p + 1) (drop (p + 1) (take n rs)) =
          v.rows ∙ each_pass (fields_verdict d) rs n p rows_long h (ap (fields_verdict d p) er ∙ is_faultless_true (fields_verdict d p r) b.0) in
          let left : room + r.burst - a.credit + total credit (take (suc p) accounts) ≡ total burst (take (suc p) rs) = omega (arith, cs, bs, v.room_is, ap credit ea, ap burst er) in
          let sum : rates + r.rate ≡ total rate (take (suc p) rs) = omega (arith, ns, v.rates_are, ap rate er) in
          let holds = le-leb (total credit (take (suc p) accounts)) (total burst (take (suc p) rs)) (omega arith) in
          record {
            right = v.right;
            few = v.few;
            small = v.small;
            below = omega arith;
            rows = rest;
            backlogs = rw (add-one p) (every_more backlog_fits no_account accounts p v.backlogs (ap backlog_fits ea ∙ b.1));
            sums = rw (add-one p) (true_and (up_to p (credits_hold rs accounts)) _ v.sums holds);
            room_is = rw (add-one p) left;
            rates_are = rw (add-one p) sum;
            room_fits = omega (arith, v.room_fits, row.burst_most);
            rates_fit = omega (arith, v.rates_fit, row.rate_most, v.small);
          }

  -- all of them
  pub held_end : (rates room p : ℕ) → Held rates room p → n ≤ p → leb rates d ≡ places_hold d n rs accounts
  unfolding places_hold accounts_hold
  held_end rates room p v h =
      let all : p ≡ n = omega (arith, v.below) in
      let rows : is_faultless (each_place (fields_verdict d) 0 (take n rs)) ≡ true = ap is_faultless (v.rows ∙ each_end (fields_verdict d) rs n p h) in
      rw (rows, ← all, v.backlogs, v.sums, v.rates_are)
