-- What test 23 says of a state whose arrays have `limit` elements each, and the other way round; how large a credit can be; and
-- an accepted start's state passes. Assumes nothing.
use Rattle.std.proofs.Common.{◌≡◌, refl, ap, sym, ◌∙◌, true, List, [], ◌∷◌, map, ℕ, zero, suc, ◌*◌, ◌≤◌, ◌<◌, arith, ltb-true, leb-true, le-leb, eqb-true, eq-eqb, leb, eqb, length, take, drop, length-take, get_or-take, length-take-le}
use native.Mathlib.Decide.{dec_le}
use lib.ListN.{length-map, get_or-map}
use Rattle.lists.specs.Sums.{total, every, up_to}
use Rattle.lists.proofs.Tests.{true_false, and_true, true_and, every_at, at_every, up_to_at, at_up_to}
use Rattle.lists.proofs.Sums.{total_take_drop, total_take_rises, total_take_map, total_most, at_most_total}
use Rattle.terms.specs.declared.place.Requestor.{Requestor}
use Rattle.terms.specs.Table.{Table, rate, burst, no_requestor, requestor_clear, requestors_of, table_verdict, requestor_at}
use Rattle.terms.specs.declared.place.Account.{Account}
use Rattle.terms.specs.State.{State, credit, backlog, no_account, account_clear, backlog_fits, account_at, credits_hold, is_faultless, accounts_hold, sound, place_verdict, Shaped}
use Rattle.terms.specs.Limits.{max_burst, max_backlog, max_slot}
use Rattle.terms.specs.Refusals.{Verdict, faultless, fault}
use Rattle.terms.specs.Start.{fresh, opening, start_verdict}
use Rattle.terms.proofs.Checks.{gate_open, then_open, Row, bursts_fit, Fair, fair, Admitted, admitted}

-- the state breaks no rule, and its arrays have `limit` elements each
pub record Sound (limit : ℕ) (s : State) : Type 0 where
  pub rows : length s.table.requestors ≡ limit
  pub accounts : length s.accounts ≡ limit
  pub passes : table_verdict limit s.table ≡ faultless
  pub slot_most : s.slot.0 ≤ max_slot
  pub backlog_most : (p : ℕ) → p < s.table.count → backlog (account_at p s.accounts) ≤ max_backlog
  pub sums : (k : ℕ) → total credit (take k s.accounts) ≤ total burst (take k s.table.requestors)
  pub clear : every account_clear (drop s.table.count s.accounts) ≡ true

pub is_faultless_true : (v : Verdict) → is_faultless v ≡ true → v ≡ faultless
is_faultless_true faultless e = refl
is_faultless_true (fault r) e = true_false (sym e)

clear_credits : (accounts : List Account) → every account_clear accounts ≡ true → total credit accounts ≡ 0
clear_credits accounts e = omega (arith, total_most credit no_account 0 accounts (λ p h. omega (arith, at p h)))
  where
    at : (p : ℕ) → p < length accounts → credit (account_at p accounts) ≡ 0
    at p h = eqb-true _ _ (and_true _ _ (every_at account_clear no_account accounts e p h)).0

module _ (n : ℕ) (accounts : List Account) where
  backlogs_open : n ≤ length accounts → every backlog_fits (take n accounts) ≡ true → (p : ℕ) → p < n → backlog (account_at p accounts) ≤ max_backlog
  backlogs_open long e p h =
      let inside : p < length (take n accounts) = omega (arith, length-take n accounts) in
      let fits = every_at backlog_fits no_account (take n accounts) e p inside in
      rw (get_or-take n accounts p no_account h) at (leb-true (backlog (account_at p (take n accounts))) max_backlog fits)

  backlogs_shut : ((p : ℕ) → p < n → backlog (account_at p accounts) ≤ max_backlog) → every backlog_fits (take n accounts) ≡ true
  backlogs_shut h = at_every backlog_fits no_account (take n accounts) (λ p l.
      let inside : p < n = omega (arith, length-take n accounts) in
      rw (get_or-take n accounts p no_account inside) (le-leb _ _ (h p inside)))

  -- past place N−1 no credit is added
  credits_first : every account_clear (drop n accounts) ≡ true → total credit accounts ≡ total credit (take n accounts)
  credits_first clear = omega (arith, total_take_drop credit n accounts, clear_credits (drop n accounts) clear)

module _ (n : ℕ) (rs : List Requestor) (accounts : List Account) where
  sums_open : up_to n (credits_hold rs accounts) ≡ true → (k : ℕ) → k ≤ n → total credit (take k accounts) ≤ total burst (take k rs)
  unfolding total
  sums_open e zero h = omega arith
  sums_open e (suc k) h = leb-true _ _ (up_to_at (credits_hold rs accounts) n e (suc k) (omega arith) h)

  sums_shut : ((k : ℕ) → total credit (take k accounts) ≤ total burst (take k rs)) → up_to n (credits_hold rs accounts) ≡ true
  sums_shut h = at_up_to (credits_hold rs accounts) n (λ k l m. le-leb _ _ (h k))

  -- so the sums of the first N places and of fewer bound them all
  pub sums_past : every account_clear (drop n accounts) ≡ true → ((k : ℕ) → k ≤ n → total credit (take k accounts) ≤ total burst (take k rs))
      → (k : ℕ) → total credit (take k accounts) ≤ total burst (take k rs)
  sums_past clear within k = elim (dec_le k n) [
    | yes h ↦ within k h
    | no h ↦ omega (arith, within n (omega arith), credits_first n accounts clear, total_take_drop credit k accounts, total_take_rises burst n k rs (omega arith))
  ]

-- the rates of any first k places
pub rates_most : (limit : ℕ) (t : Table) → Fair limit t → (k : ℕ) → total rate (take k (requestors_of t)) ≤ t.denominator
rates_most limit t f k = omega (arith, total_take_drop rate k (requestors_of t), f.rate_sum)

-- a fair table of `limit` rows has N places, each with a row within its limits
module _ (limit : ℕ) (t : Table) (rows : length t.requestors ≡ limit) (f : Fair limit t) where
  pub places_length : length (requestors_of t) ≡ t.count
  places_length = length-take-le t.count t.requestors (omega (arith, f.count_most))

  pub row_at : (p : ℕ) → p < t.count → Row t.denominator (requestor_at p (requestors_of t))
  row_at p h = f.row p (omega (arith, places_length))

module _ (limit : ℕ) (s : State) where
  pub sound_table : sound limit s ≡ true → table_verdict limit s.table ≡ faultless
  unfolding sound
  sound_table e = is_faultless_true _ (and_true (is_faultless (table_verdict limit s.table)) _ e).0

  pub sound_open : Shaped limit s → sound limit s ≡ true → Sound limit s
  unfolding sound accounts_hold
  sound_open shape e =
      let a = and_true (is_faultless (table_verdict limit s.table)) _ e in
      let b = and_true (leb s.slot.0 max_slot) _ a.1 in
      let c = and_true (accounts_hold s.table.count s.table.requestors s.accounts) _ b.1 in
      let f = and_true (every backlog_fits (take s.table.count s.accounts)) _ c.0 in
      let passes = sound_table e in
      record {
        rows = shape.rows;
        accounts = shape.accounts;
        passes = passes;
        slot_most = leb-true _ _ b.0;
        backlog_most = backlogs_open _ _ (omega (arith, shape.accounts, (fair limit s.table passes).count_most)) f.0;
        sums = sums_past _ _ _ c.1 (sums_open _ _ _ f.1);
        clear = c.1;
      }

  pub sound_shut : Sound limit s → sound limit s ≡ true
  unfolding sound accounts_hold
  sound_shut v =
      true_and _ _ (ap is_faultless v.passes)
      (true_and _ _ (le-leb _ _ v.slot_most)
      (true_and _ _ (true_and _ _ (backlogs_shut _ _ v.backlog_most) (sums_shut _ _ _ v.sums)) v.clear))

  module _ (v : Sound limit s) where
    pub sound_fair : Fair limit s.table
    sound_fair = fair limit s.table v.passes

    -- a blocked place's credit may pass its burst, and never `limit` times the largest one
    pub credit_most : (p : ℕ) → credit (account_at p s.accounts) ≤ limit * max_burst
    credit_most p = omega (
      arith,
      at_most_total credit no_account refl p s.accounts,
      credits_first s.table.count s.accounts v.clear,
      v.sums s.table.count,
      bursts_fit limit s.table sound_fair,
    )

-- the first account of each place: its credit is the burst, and it is clear where the row is
fresh_clear : (n : ℕ) (rs : List Requestor) → every requestor_clear (drop n rs) ≡ true → every account_clear (drop n (map fresh rs)) ≡ true
unfolding every
fresh_clear zero [] e = refl
fresh_clear (suc n) [] e = refl
fresh_clear zero (r ∷ rs) e =
    let a = and_true (requestor_clear r) (every requestor_clear rs) e in
    let b = and_true (eqb r.rate 0) _ a.0 in
    true_and _ _ (true_and _ _ (and_true (eqb r.burst 0) _ b.1).0 (eq-eqb 0 0 refl)) (fresh_clear zero rs a.1)
fresh_clear (suc n) (r ∷ rs) e = fresh_clear n rs e

pub opening_backlog : (t : Table) (first p : ℕ) → backlog (account_at p (opening t first).accounts) ≡ 0
unfolding opening
opening_backlog t first p = ap backlog (get_or-map fresh t.requestors p no_requestor)

-- an accepted start: its table passes admission, and its state is sound
module _ (limit : ℕ) (t : Table) (first : ℕ) (e : start_verdict limit t first ≡ faultless) where
  pub start_admitted : Admitted limit t
  unfolding start_verdict
  start_admitted = admitted limit t (then_open _ _ e).0

  start_slot : first ≤ max_slot
  unfolding start_verdict
  start_slot = leb-true _ _ (gate_open _ _ _ (then_open _ _ e).1).0

  pub start_sound : length t.requestors ≡ limit → Sound limit (opening t first)
  unfolding opening
  start_sound rows = record {
    rows = rows;
    accounts = length-map t.requestors fresh ∙ rows;
    passes = start_admitted.passes;
    slot_most = start_slot;
    backlog_most = λ p h. omega (arith, opening_backlog t first p);
    sums = λ k. omega (arith, total_take_map credit fresh k t.requestors);
    clear = fresh_clear t.count t.requestors (fair limit t start_admitted.passes).clear;
  }

-- a place that may be asked about: the state is sound and the place below N
pub place_open : (limit : ℕ) (s : State) (p : ℕ) → place_verdict limit s p ≡ faultless → (sound limit s ≡ true) × (p < s.table.count)
unfolding place_verdict
place_open limit s p e =
    let a = gate_open _ _ _ e in
    (a.0, ltb-true _ _ (gate_open _ _ _ a.1).0)
