-- Proves NeedFits: nothing but a row's own limits looks at its need, the rule least of all. Assumes nothing.
use Rattle.std.proofs.Common.{◌≡◌, refl, ap, sym, ◌∙◌, true, List, [], ◌∷◌, ℕ, zero, suc, ◌≤◌, ◌<◌, arith, length, take, set, length-set, drop-set-lt, Option, Some, None}
use Rattle.lists.specs.Sums.{total}
use Rattle.lists.specs.Runs.{Result, end, answers}
use Rattle.lists.proofs.Sums.{total_take_set, at_set}
use Rattle.terms.specs.declared.place.Requestor.{Requestor}
use Rattle.terms.specs.declared.place.Account.{Account}
use Rattle.terms.specs.Table.{rate, burst, no_requestor, requestor_at, requestors_of, state_row_verdict, each_place, rate_sum_verdict}
use Rattle.terms.specs.State.{State, sound, place_verdict}
use Rattle.terms.specs.Limits.{max_need}
use Rattle.terms.specs.Refusals.{Verdict, faultless, fault, resolve, then}
use Rattle.terms.specs.Answers.{Answer, accepted, refused}
use Rattle.terms.specs.Figures.{wait, finish}
use Rattle.terms.specs.Queries as queries
use Rattle.terms.specs.Chain as chains
use Rattle.terms.proofs.Checks.{then_open, row_open, row_passes, passed, passes, admitted, admission_left, fair}
use Rattle.terms.proofs.Sound.{Sound, sound_open, sound_shut, places_length, start_admitted}
use Rattle.lead_parts.specs.Lead.{lead_verdict, lead_query}
use Rattle.rule.specs.Rule.{eligible, first_eligible, served, passed as unserved, after}
use Rattle.rule.specs.Calls.{Call, post, slot, grant_of, advanced, with_post, done, rule_verdict, outcome, ruled}
use Rattle.rule.specs.Log.{grant_byte, slots_state, slots_log, run_verdict, Outcome, run}
use Rattle.guarantees.specs.NeedFits.{NeedsFit, AdmittedPasses23, RestOfAdmission, needing, with_need, AnyNeedIsServed}
use Rattle.guarantees.proofs.Start.{start_passes}
use Rattle.guarantees.proofs.Sound.{end_ruled, answers_ruled}

pub needs_fit : NeedsFit
needs_fit limit t first a p h =
    let table = start_admitted limit t first (start_passes limit t first a) in
    table.fits p (omega (arith, places_length limit t a.rows (fair limit t table.passes)))

pub admitted_passes_23 : AdmittedPasses23
admitted_passes_23 limit t e = (admitted limit t e).passes

pub rest_of_admission : RestOfAdmission
rest_of_admission = admission_left

-- ---- rows of which one has another need

-- sums of terms that are the same
total_same : {A : Type 0} (f g : A → ℕ) → ((x : A) → f x ≡ g x) → (xs : List A) → total f xs ≡ total g xs
unfolding total
total_same f g e [] = refl
total_same f g e (x ∷ xs) = rw (e x, total_same f g e xs)

module _ (j : ℕ) where
  abbrev needs_at : (p : ℕ) → List Requestor → List Requestor
  needs_at p rs = set rs p (needing j (requestor_at p rs))

  take_needs : (k p : ℕ) (rs : List Requestor) → take k (needs_at p rs) ≡ needs_at p (take k rs)
  take_needs zero p rs = refl
  take_needs (suc k) p [] = refl
  take_needs (suc k) zero (r ∷ rs) = refl
  take_needs (suc k) (suc p) (r ∷ rs) = ap (λ l. r ∷ l) (take_needs k p rs)

  -- a check that looks at a row's limits, and one that does not look at it at all
  rows_hold : (d q p : ℕ) (rs : List Requestor) → 1 ≤ j → j ≤ max_need → each_place (state_row_verdict d) q rs ≡ faultless → each_place (state_row_verdict d) q (needs_at p rs) ≡ faultless
  unfolding each_place then
  rows_hold d q p [] least most e = refl
  rows_hold d q zero (r ∷ rs) least most e =
      let a = then_open (state_row_verdict d q r) (each_place (state_row_verdict d) (suc q) rs) e in
      let row = row_open d q r a.0 in
      let here = row_passes d q (needing j r) (record {
        rate_least = row.rate_least;
        rate_most = row.rate_most;
        burst_least = row.burst_least;
        burst_most = row.burst_most;
        need_least = least;
        need_most = most;
        within_least = row.within_least;
        within_most = row.within_most;
      }) in
      rw here a.1
  rows_hold d q (suc p) (r ∷ rs) least most e =
      let a = then_open (state_row_verdict d q r) (each_place (state_row_verdict d) (suc q) rs) e in
      rw a.0 (rows_hold d (suc q) p rs least most a.1)

  same_unlooked : (check : ℕ → Requestor → Verdict) → ((q : ℕ) (r : Requestor) → check q (needing j r) ≡ check q r) → (q p : ℕ) (rs : List Requestor)
      → each_place check q (needs_at p rs) ≡ each_place check q rs
  unfolding each_place
  same_unlooked check e q p [] = refl
  same_unlooked check e q zero (r ∷ rs) = rw (e q r)
  same_unlooked check e q (suc p) (r ∷ rs) = rw (same_unlooked check e (suc q) p rs)

  same_wait : (d q p : ℕ) (rs : List Requestor) → wait d (needs_at p rs) q ≡ wait d rs q
  same_wait d q p rs = rw (total_take_set burst no_requestor q p (needing j (requestor_at p rs)) rs refl, total_take_set rate no_requestor q p (needing j (requestor_at p rs)) rs refl)

  same_finish : (d q k p : ℕ) (rs : List Requestor) → finish d (needs_at p rs) q k ≡ finish d rs q k
  unfolding finish
  same_finish d q k p rs = rw (total_take_set burst no_requestor q p (needing j (requestor_at p rs)) rs refl, total_take_set rate no_requestor q p (needing j (requestor_at p rs)) rs refl, at_set rate no_requestor q p (needing j (requestor_at p rs)) rs refl)

  same_grant : (d p : ℕ) (rs : List Requestor) (accounts : List Account) → first_eligible d (needs_at p rs) accounts ≡ first_eligible d rs accounts
  unfolding first_eligible eligible
  same_grant d p [] accounts = refl
  same_grant d zero (r ∷ rs) [] = refl
  same_grant d zero (r ∷ rs) (a ∷ accounts) = refl
  same_grant d (suc p) (r ∷ rs) [] = refl
  same_grant d (suc p) (r ∷ rs) (a ∷ accounts) = rw (same_grant d p rs accounts)

  same_after : (d p : ℕ) (g : Option ℕ) (rs : List Requestor) (accounts : List Account) → after d g (needs_at p rs) accounts ≡ after d g rs accounts
  unfolding after served unserved
  same_after d p g [] accounts = refl
  same_after d zero g (r ∷ rs) [] = refl
  same_after d zero None (r ∷ rs) (a ∷ accounts) = refl
  same_after d zero (Some zero) (r ∷ rs) (a ∷ accounts) = refl
  same_after d zero (Some (suc q)) (r ∷ rs) (a ∷ accounts) = refl
  same_after d (suc p) g (r ∷ rs) [] = refl
  same_after d (suc p) None (r ∷ rs) (a ∷ accounts) = rw (same_after d p None rs accounts)
  same_after d (suc p) (Some zero) (r ∷ rs) (a ∷ accounts) = rw (same_after d p None rs accounts)
  same_after d (suc p) (Some (suc q)) (r ∷ rs) (a ∷ accounts) = rw (same_after d p (Some q) rs accounts)

-- ---- the state

sound_with : (limit p j : ℕ) (s : State) → 1 ≤ j → j ≤ max_need → p < s.table.count → Sound limit s → Sound limit (with_need p j s)
unfolding rate_sum_verdict
sound_with limit p j s least most here v =
    let rs = s.table.requestors in
    let new = needing j (requestor_at p rs) in
    let own = passed state_row_verdict limit s.table v.passes in
    record {
      rows = length-set rs p new ∙ v.rows;
      accounts = v.accounts;
      passes = passes state_row_verdict limit (with_need p j s).table (record {
        denominator = own.denominator;
        count = own.count;
        clear = rw (drop-set-lt s.table.count rs p new here) own.clear;
        rows = rw (take_needs j s.table.count p rs) (rows_hold j s.table.denominator 0 p (requestors_of s.table) least most own.rows);
        sum = rw (total_take_set rate no_requestor s.table.count p new rs refl) own.sum;
      });
      slot_most = v.slot_most;
      backlog_most = v.backlog_most;
      sums = λ k. omega (arith, v.sums k, total_take_set burst no_requestor k p new rs refl);
      clear = v.clear;
    }

-- ---- the rule

module _ (p j : ℕ) where
  abbrev with : State → State
  with s = with_need p j s

  abbrev with_result : Result State Answer → Result State Answer
  with_result r = record { state = with r.state; answer = r.answer }

  abbrev with_outcome : Outcome → Outcome
  with_outcome r = record { state = with r.state; answer = r.answer; log = r.log }

  same_grant_of : (s : State) → grant_of (with s) ≡ grant_of s
  unfolding grant_of
  same_grant_of s = rw (take_needs j s.table.count p s.table.requestors) (same_grant j s.table.denominator p (requestors_of s.table) s.accounts)

  same_advanced : (s : State) (g : Option ℕ) → advanced (with s) g ≡ with (advanced s g)
  unfolding advanced
  same_advanced s g = rw (take_needs j s.table.count p s.table.requestors, same_after j s.table.denominator p g (requestors_of s.table) s.accounts)

  same_done : (s : State) (c : Call) → done (with s) c ≡ with_result (done s c)
  unfolding done with_post
  same_done s (post q count) = refl
  same_done s slot = rw (same_grant_of s, same_advanced s (grant_of s))

  same_verdict : (s : State) (c : Call) → rule_verdict (with s) c ≡ rule_verdict s c
  unfolding rule_verdict
  same_verdict s (post q count) = refl
  same_verdict s slot = refl

  same_step : (s : State) (c : Call) → ruled (with s) c ≡ with_result (ruled s c)
  unfolding ruled
  same_step s c = rw (same_verdict s c, same_done s c) (by (rule_verdict s c))
    where
      by : (v : Verdict) → resolve v (with_result (done s c)) (λ r. record { state = with s; answer = refused r }) ≡ with_result (outcome v s c)
      by faultless = refl
      by (fault r) = refl

  same_calls : (s : State) (calls : List Call) → (answers ruled (with s) calls ≡ answers ruled s calls) × (end ruled (with s) calls ≡ with (end ruled s calls))
  unfolding answers end
  same_calls s [] = (refl, refl)
  same_calls s (c ∷ calls) =
      let (answered, last) = same_calls (ruled s c).state calls in
      (rw (same_step s c) (ap (λ l. (ruled s c).answer ∷ l) answered), rw (same_step s c) last)

  same_slots : (k : ℕ) (s : State) → (slots_state k (with s) ≡ with (slots_state k s)) × (slots_log k (with s) ≡ slots_log k s)
  unfolding slots_state slots_log
  same_slots zero s = (refl, refl)
  same_slots (suc k) s =
      let (last, log) = same_slots k (advanced s (grant_of s)) in
      (rw (same_grant_of s, same_advanced s (grant_of s)) last, rw (same_grant_of s, same_advanced s (grant_of s)) (ap (λ l. grant_byte (grant_of s) ∷ l) log))

  -- ---- queries

  module _ (limit : ℕ) (s : State) (sound-s : sound limit s ≡ true) (sound-with-s : sound limit (with s) ≡ true) where
    same_sound : sound limit (with s) ≡ sound limit s
    same_sound = sound-with-s ∙ sym sound-s

    same_place : (q : ℕ) → place_verdict limit (with s) q ≡ place_verdict limit s q
    unfolding place_verdict
    same_place q = rw same_sound

    -- by its verdict
    ran_by : (log : List ℕ) (v : Verdict)
        → with_outcome (resolve v (record { state = slots_state (length log) s; answer = accepted; log = slots_log (length log) s }) (λ r. record { state = s; answer = refused r; log = log }))
        ≡ resolve v (record { state = with (slots_state (length log) s); answer = accepted; log = slots_log (length log) s }) (λ r. record { state = with s; answer = refused r; log = log })
    ran_by log faultless = refl
    ran_by log (fault r) = refl

    same_run : (log : List ℕ) → run limit (with s) log ≡ with_outcome (run limit s log)
    unfolding run run_verdict
    same_run log = let (last, told) = same_slots (length log) s in rw (same_sound, last, told) (sym (ran_by log (run_verdict limit s (length log))))

    same_lead : (q : ℕ) (log : List ℕ) → lead_query limit (with s) q log ≡ lead_query limit s q log
    unfolding lead_query lead_verdict
    same_lead q log = rw (same_place q, at_set rate no_requestor q p (needing j (requestor_at p s.table.requestors)) s.table.requestors refl)

    same_figures : (q k : ℕ) → queries.figures limit (with s) q k ≡ queries.figures limit s q k
    unfolding queries.figures queries.figures_verdict
    same_figures q k =
        rw (
          same_place q,
          take_needs j s.table.count p s.table.requestors,
          same_wait j s.table.denominator q p (requestors_of s.table),
          same_finish j s.table.denominator q k p (requestors_of s.table),
        )

    same_chain : (q : ℕ) (names : List ℕ) → chains.chain limit (with s) q names ≡ chains.chain limit s q names
    unfolding chains.chain chains.chain_verdict chains.following_verdict chains.chain_figure chains.name_verdict chains.circle_verdict
    same_chain q names =
        let rs = requestors_of s.table in
        rw (
          same_place q,
          take_needs j s.table.count p s.table.requestors,
          same_unlooked j (chains.name_verdict s.table.count names) (λ i r. refl) 0 p rs,
          same_unlooked j (chains.circle_verdict s.table.count names) (λ i r. refl) 0 p rs,
          total_same (λ i. finish s.table.denominator (needs_at j p rs) i 1) (λ i. finish s.table.denominator rs i 1) (λ i. same_finish j s.table.denominator i 1 p rs) (chains.chain_of s.table names q),
        )

pub any_need_is_served : AnyNeedIsServed
any_need_is_served limit s p j shape ok here least most =
    let v = sound_open limit s shape ok in
    let other = sound_with limit p j s least most here v in
    let ok-with = sound_shut limit (with_need p j s) other in
    record {
      passes_23 = ok-with;
      answers = λ calls. answers_ruled limit (with_need p j s) calls other ∙ (same_calls p j s calls).0 ∙ sym (answers_ruled limit s calls v);
      states = λ calls. end_ruled limit (with_need p j s) calls other ∙ (same_calls p j s calls).1 ∙ ap (with_need p j) (sym (end_ruled limit s calls v));
      run = same_run p j limit s ok ok-with;
      lead = same_lead p j limit s ok ok-with;
      figures = same_figures p j limit s ok ok-with;
      chain = same_chain p j limit s ok ok-with;
    }
