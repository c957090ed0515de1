-- Proves Chains, link by link: a link that is posted has one transfer waiting, which is granted within its finish figure for one; from there
-- on the same is said of the other links. Assumes nothing.
use Rattle.std.proofs.Common.{◌≡◌, refl, ap, sym, ◌∙◌, true, false, List, [], ◌∷◌, ℕ, zero, suc, ◌+◌, ◌-◌, ◌*◌, ◌≤◌, ◌<◌, mul-le-mul, mul-le-mul_right, zero-add, arith, lt-ltb, le-leb, eq-eqb, length, length-append, Option, None, Some}
use native.Mathlib.Decide.{dec_le}
use Rattle.lists.specs.Sums.{total}
use Rattle.lists.specs.Runs.{end, answers}
use Rattle.lists.proofs.Tests.{cases, true_false}
use Rattle.lists.proofs.Sums.{total_append}
use Rattle.lists.proofs.Runs.{keeps, answers_append}
use Rattle.terms.specs.Table.{Table, requestors_of, requestor_at}
use Rattle.terms.specs.State.{State, backlog, account_at}
use Rattle.terms.specs.Limits.{max_backlog}
use Rattle.terms.specs.Refusals.{faultless, gate}
use Rattle.terms.specs.Answers.{Answer, accepted, granted, idle, refused}
use Rattle.terms.specs.Figures.{bursts_above, rate_left, finish, most_finish}
use Rattle.terms.proofs.Figures.{finish_covers}
use Rattle.terms.specs.Chain.{follows, chain_to, chain_of, chain_figure, names_verdict, following_verdict}
use Rattle.terms.proofs.Checks.{then_open}
use Rattle.terms.proofs.Sound.{Sound, row_at, sound_fair, sound_open, place_open}
use Rattle.terms.proofs.Chain.{Below, chain_below, chain_open}
use Rattle.rule.specs.Grants.{to_place}
use Rattle.rule.specs.Calls.{Call, post, with_post, done, rule_verdict, ruled, called}
use Rattle.rule.proofs.Kept.{places_count, accounts_cover}
use Rattle.guarantees.specs.Counts.{in_slot, slots_in, grants_to, first_slots, state_after, answers_from}
use Rattle.guarantees.specs.Need.{Pending}
use Rattle.guarantees.specs.Chains.{PostedNext, posted_state, Reached, is_grant_to, reached_past, first_grant, PostInTurn, upon_grant, GrantedInTurn, ChainFromSound, ChainFromStart, ChainFigureAtMost}
use Rattle.guarantees.proofs.Grants.{slot_in, grant_to}
use Rattle.guarantees.proofs.Step.{table_stands, posted_backlog}
use Rattle.guarantees.proofs.Sound.{sound_next, call_ruled}
use Rattle.guarantees.proofs.Start.{called_sound, called_table}
use Rattle.guarantees.proofs.SharperFloor.{own_rate_left}
use Rattle.guarantees.proofs.Need.{need_from}
use Rattle.guarantees.proofs.FinishFigure.{figure_at_most}

-- ---- what an answer tells of a grant to place p

module _ (p : ℕ) where
  grant_is_slot : (a : Answer) → is_grant_to p a ≡ true → slot_in a ≡ 1
  unfolding is_grant_to
  grant_is_slot accepted e = true_false (sym e)
  grant_is_slot (granted stamp q) e = refl
  grant_is_slot (idle stamp) e = refl
  grant_is_slot (refused r) e = true_false (sym e)

  no_grant : (a : Answer) → is_grant_to p a ≡ false → grant_to p a ≡ 0
  unfolding is_grant_to to_place
  no_grant accepted e = refl
  no_grant (granted stamp q) e = rw e
  no_grant (idle stamp) e = refl
  no_grant (refused r) e = refl

-- one call ahead of what comes within so many slots
slots_past : (a : Answer) (m k : ℕ) → k ≤ in_slot (suc m) (λ g. m) a → slot_in a + k ≤ suc m
slots_past accepted m k h = omega arith
slots_past (granted stamp q) m k h = omega arith
slots_past (idle stamp) m k h = omega arith
slots_past (refused r) m k h = omega arith

module _ (limit : ℕ) (T : Table) where
  -- T is the table, and the state is sound
  abbrev Stands : State → Type 0
  Stands s = (s.table ≡ T) × Sound limit s

  stands_next : (s : State) (c : Call) → Stands s → Stands (called limit s c).state
  stands_next s c (on, v) = rw (call_ruled limit s c v) (table_stands s c ∙ on, sound_next limit s c v)

  -- ---- a grant among the first m slots is found there, and leaves the other slots to what follows it

  record Found (p m : ℕ) (s : State) (calls : List Call) : Type 0 where
    at : Reached
    found : first_grant limit p s calls ≡ Some at
    within : at.slots ≤ m
    left : slots_in (answers_from limit s calls) ≡ at.slots + slots_in (answers_from limit at.state at.onward)
    stands : Stands at.state

  found_here : (p m : ℕ) (s : State) (c : Call) (calls : List Call) → Stands s → is_grant_to p (called limit s c).answer ≡ true → Found p (suc m) s (c ∷ calls)
  unfolding first_grant answers total
  found_here p m s c calls k e = record {
    at = record { slots = 1; state = (called limit s c).state; onward = calls };
    found = rw e;
    within = omega arith;
    left = omega (arith, grant_is_slot p (called limit s c).answer e);
    stands = stands_next s c k;
  }

  found_past : (p m : ℕ) (s : State) (c : Call) (calls : List Call) → is_grant_to p (called limit s c).answer ≡ false
      → Found p (in_slot (suc m) (λ g. m) (called limit s c).answer) (called limit s c).state calls → Found p (suc m) s (c ∷ calls)
  unfolding first_grant reached_past answers total
  found_past p m s c calls e f = record {
    at = record { slots = slot_in (called limit s c).answer + 0 + f.at.slots; state = f.at.state; onward = f.at.onward };
    found = rw (e, f.found);
    within = omega (arith, slots_past (called limit s c).answer m f.at.slots f.within);
    left = omega (arith, f.left);
    stands = f.stands;
  }

  find : (p : ℕ) (s : State) (calls : List Call) (m : ℕ) → Stands s → 1 ≤ grants_to p (first_slots (answers_from limit s calls) m) → Found p m s calls
  unfolding answers first_slots total
  find p s [] m k h = absurd (omega arith)
  find p s (c ∷ calls) zero k h = absurd (omega arith)
  find p s (c ∷ calls) (suc m) k h = cases (is_grant_to p (called limit s c).answer)
      (found_here p m s c calls k)
      (λ e. found_past p m s c calls e (find p (called limit s c).state calls _ (stands_next s c k) (omega (arith, no_grant p (called limit s c).answer e))))

  -- ---- a link's post

  module _ (s : State) (k : Stands s) (p : ℕ) (place : p < T.count) (clear : backlog (account_at p s.accounts) ≡ 0) where
    post_passes : rule_verdict s (post p 1) ≡ faultless
    unfolding rule_verdict gate
    post_passes =
        let there : p < s.table.count = omega (arith, ap (λ t. t.count) k.0) in
        let few : backlog (account_at p s.accounts) + 1 ≤ max_backlog = omega arith in
        rw (lt-ltb p s.table.count there, le-leb _ _ few)

    post_done : called limit s (post p 1) ≡ record { state = with_post s p 1; answer = accepted }
    unfolding ruled done
    post_done = rw (call_ruled limit s (post p 1) k.1, post_passes)

    post_waits : Pending (called limit s (post p 1)).state p 1
    unfolding with_post
    post_waits = rw post_done (record {
      place = omega (arith, ap (λ t. t.count) k.0);
      waiting = omega (arith, rw (eq-eqb p p refl) at (posted_backlog s p p 1 (omega (arith, accounts_cover limit s k.1, ap (λ t. t.count) k.0))));
    })

    -- a post is no slot
    post_slots : (behind : List Call)
        → slots_in (answers_from limit s (post p 1 ∷ behind)) ≡ slots_in (answers_from limit (called limit s (post p 1)).state behind)
    unfolding answers total
    post_slots behind = rw post_done (omega arith)

  -- ---- one link after the other

  abbrev figure_of : ℕ → ℕ
  figure_of p = finish T.denominator (requestors_of T) p 1

  -- no transfer is granted in less than one slot
  figure_least : (s : State) → Stands s → (p : ℕ) → p < T.count → 1 ≤ figure_of p
  unfolding finish
  figure_least s (on, v) p place = elim (dec_le 1 (figure_of p)) [
    | yes h ↦ h
    | no nothing ↦
        let left = (own_rate_left limit T s on v p place).1 in
        let own = (row_at limit T (rw on at v.rows) (rw on at (sound_fair limit s v)) p place).rate_least in
        let least : 1 ≤ T.denominator = rw on at (sound_fair limit s v).denominator_least in
        let zero-slots : figure_of p ≡ 0 = omega arith in
        let covers = rw zero-slots at (finish_covers T.denominator (bursts_above p (requestors_of T)) (rate_left T.denominator p (requestors_of T)) (requestor_at p (requestors_of T)).rate 1 left own) in
        absurd (omega (arith, covers, mul-le-mul least left))
  ]

  in_turn : (links : List ℕ) → Below T.count links → (s : State) (calls : List Call) (slots : ℕ) → Stands s → PostInTurn limit links s calls
      → total figure_of links ≤ slots → total figure_of links ≤ slots_in (answers_from limit s calls) → GrantedInTurn limit links s calls slots
  unfolding total
  in_turn [] b s calls slots k turn enough follow = tt
  in_turn (p ∷ links) (place, b) s calls slots k turn enough follow = (
    x,
    f.at,
    f.found,
    omega (arith, f.within),
    in_turn links b f.at.state f.at.onward (slots - f.at.slots) f.stands next (omega (arith, f.within)) (omega (arith, f.within, f.left, counted)),
  )
    where
      posted : (x : PostedNext limit s calls p) × upon_grant (first_grant limit p (posted_state x) x.behind) (λ g. PostInTurn limit links g.state g.onward)
      posted = turn (omega (arith, figure_least s k p place))

      x : PostedNext limit s calls p
      x = posted.0

      k₁ : Stands (end (called limit) s x.ahead)
      k₁ = keeps (called limit) Stands stands_next s x.ahead k

      k₂ : Stands (posted_state x)
      k₂ = stands_next (end (called limit) s x.ahead) (post p 1) k₁

      counted : slots_in (answers_from limit s calls) ≡ slots_in (answers_from limit (posted_state x) x.behind)
      counted =
          ap (λ c. slots_in (answers_from limit s c)) x.stands
          ∙ ap slots_in (answers_append (called limit) s x.ahead (post p 1 ∷ x.behind))
          ∙ total_append slot_in (answers_from limit s x.ahead) (answers_from limit (end (called limit) s x.ahead) (post p 1 ∷ x.behind))
          ∙ ap (λ n. n + slots_in (answers_from limit (end (called limit) s x.ahead) (post p 1 ∷ x.behind))) x.no_slot
          ∙ zero-add _
          ∙ post_slots (end (called limit) s x.ahead) k₁ p place x.no_backlog x.behind

      f : Found p (figure_of p) (posted_state x) x.behind
      f = find p (posted_state x) x.behind (figure_of p) k₂
          (need_from limit T (posted_state x) k₂.0 k₂.1 x.behind p 1 (figure_of p) (post_waits (end (called limit) s x.ahead) k₁ p place x.no_backlog) (omega arith)
          (omega (arith, counted)))

      next : PostInTurn limit links f.at.state f.at.onward
      next = rw f.found at posted.1

-- the figure was told on a state with table T, and the calls begin on any sound state with it
chain_from : (limit : ℕ) (T : Table) (s : State) → Stands limit T s → (p : ℕ) → p < T.count → (names : List ℕ) → names_verdict T names ≡ faultless
    → (inside : List Call) → PostInTurn limit (chain_of T names p) s inside → chain_figure T (chain_of T names p) ≤ slots_in (answers_from limit s inside)
    → GrantedInTurn limit (chain_of T names p) s inside (chain_figure T (chain_of T names p))
unfolding chain_figure
chain_from limit T s (on, v) p place names ok inside turn follow =
    let rows : length (requestors_of T) ≡ T.count = rw on at (places_count limit s v) in
    in_turn limit T (chain_of T names p) (chain_below T names rows ok T.count (Some p) place) s inside _ (on, v) turn (omega arith) follow

pub chain_from_sound : ChainFromSound
unfolding following_verdict
chain_from_sound limit s shape e asked p names figure told before inside turn follow =
    let start : Stands limit s.table s = (refl, sound_open limit s shape e) in
    let there = keeps (called limit) (Stands limit s.table) (stands_next limit s.table) in
    let f = rw (there s asked start).0 at (chain_open limit (end (called limit) s asked) p names figure told) in
    rw f.is (chain_from limit s.table (end (called limit) s before) (there s before start) p (place_open _ _ p f.place).1
    names (then_open _ _ f.following).0 inside turn (omega (arith, f.is)))

pub chain_from_start : ChainFromStart
unfolding following_verdict
chain_from_start limit t first a asked p names figure told before inside turn follow =
    let f = rw (called_table limit t first a asked) at (chain_open limit (state_after limit t first asked) p names figure told) in
    rw f.is (chain_from limit t (state_after limit t first before) (called_table limit t first a before, called_sound limit t first a before) p (place_open _ _ p f.place).1
    names (then_open _ _ f.following).0 inside turn (omega (arith, f.is)))

-- ---- how large it is

links_most : (names : List ℕ) (most : ℕ) (o : Option ℕ) → length (chain_to names most o) ≤ most
unfolding chain_to
links_most names zero o = omega arith
links_most names (suc most) None = omega arith
links_most names (suc most) (Some p) = omega (arith, length-append (chain_to names most (follows names p)) (p ∷ []), links_most names most (follows names p))

sum_most : (f : ℕ → ℕ) (n most : ℕ) → ((p : ℕ) → p < n → f p ≤ most) → (links : List ℕ) → Below n links → total f links ≤ length links * most
unfolding total
sum_most f n most each [] b = omega arith
sum_most f n most each (p ∷ links) (h, b) = omega (arith, each p h, sum_most f n most each links b)

pub chain_figure_at_most : ChainFigureAtMost
unfolding following_verdict chain_figure
chain_figure_at_most limit s shape p names figure told =
    let f = chain_open limit s p names figure told in
    let (ok, place) = place_open limit s p f.place in
    let v = sound_open limit s shape ok in
    let t = s.table in
    let below = chain_below t names (places_count limit s v) (then_open _ _ f.following).0 t.count (Some p) place in
    let each : (q : ℕ) → q < t.count → finish t.denominator (requestors_of t) q 1 ≤ most_finish limit = λ q h. figure_at_most limit t v.rows v.passes q 1 h (omega arith) in
    let links = links_most names t.count (Some p) in
    omega (arith, f.is, sum_most (λ q. finish t.denominator (requestors_of t) q 1) t.count (most_finish limit) each (chain_of t names p) below, mul-le-mul_right (most_finish limit) links)
