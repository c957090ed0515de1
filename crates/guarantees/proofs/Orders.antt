-- Posts to different places may come in any order: what the places are shown after each slot is the same. For the first m places, and
-- calls that concern these. Assumes nothing.
use Rattle.std.proofs.Common.{◌≡◌, refl, sym, ap, ◌∙◌, Bool, true, false, List, [], ◌∷◌, ℕ, zero, suc, ◌<◌, arith, ltb-true, ltb-false, eqb-true, eq-eqb, ne_eqb, ltb, eqb, set, get_or-set_other}
use borrow.Author.Tests.{eqb-false}
use Rattle.lists.proofs.Tests.{cases, true_false}
use Rattle.terms.specs.declared.place.Account.{Account}
use Rattle.terms.specs.State.{State, no_account, account_at}
use Rattle.terms.specs.Refusals.{Verdict, faultless, fault}
use Rattle.rule.specs.Calls.{Call, post, slot, with_count, with_post, done, rule_verdict, outcome, ruled}
use Rattle.guarantees.specs.Isolation.{keep, concerns, concerning, shows, shown}

-- ---- two posts

set_apart : (accounts : List Account) (p q : ℕ) (x y : Account) → (p ≡ q → ⊥) → set (set accounts q x) p y ≡ set (set accounts p y) q x
set_apart [] p q x y apart = refl
set_apart (a ∷ accounts) zero zero x y apart = absurd (apart refl)
set_apart (a ∷ accounts) zero (suc q) x y apart = refl
set_apart (a ∷ accounts) (suc p) zero x y apart = refl
set_apart (a ∷ accounts) (suc p) (suc q) x y apart = ap (λ l. a ∷ l) (set_apart accounts p q x y (λ e. apart (ap suc e)))

module _ (s : State) (p n q b : ℕ) (apart : p ≡ q → ⊥) where
  -- a post to another place changes nothing that a post is judged by
  verdict_apart : (w : Verdict) → rule_verdict (outcome w s (post q b)).state (post p n) ≡ rule_verdict s (post p n)
  unfolding rule_verdict done with_post
  verdict_apart faultless = rw (get_or-set_other s.accounts q p (with_count b (account_at q s.accounts)) no_account apart)
  verdict_apart (fault r) = refl

  both_posts : with_post (with_post s q b) p n ≡ with_post (with_post s p n) q b
  unfolding with_post
  both_posts = rw (
    get_or-set_other s.accounts q p (with_count b (account_at q s.accounts)) no_account apart,
    get_or-set_other s.accounts p q (with_count n (account_at p s.accounts)) no_account (λ e. apart (sym e)),
    set_apart s.accounts p q (with_count b (account_at q s.accounts)) (with_count n (account_at p s.accounts)) apart,
  )

  by_verdicts : (v w : Verdict) → (outcome v (outcome w s (post q b)).state (post p n)).state ≡ (outcome w (outcome v s (post p n)).state (post q b)).state
  unfolding done
  by_verdicts faultless faultless = both_posts
  by_verdicts faultless (fault r) = refl
  by_verdicts (fault r) faultless = refl
  by_verdicts (fault r) (fault x) = refl

-- either may come first
posts_commute : (s : State) (p n q b : ℕ) → (p ≡ q → ⊥) → (ruled (ruled s (post q b)).state (post p n)).state ≡ (ruled (ruled s (post p n)).state (post q b)).state
unfolding ruled
posts_commute s p n q b apart =
    let v = rule_verdict s (post p n) in
    let w = rule_verdict s (post q b) in
    rw (verdict_apart s p n q b apart w, verdict_apart s q b p n (λ e. apart (sym e)) v) (by_verdicts s p n q b apart v w)

-- ---- the calls that concern the first m places

unfoldable pub concerns_first : ℕ → Call → Bool
concerns_first m (post p count) = ltb p m
concerns_first m slot = true

unfoldable pub concerning_first : ℕ → List Call → List Call
concerning_first m [] = []
concerning_first m (c ∷ cs) = keep (concerns_first m c) c (concerning_first m cs)

-- every call is among them
abbrev AllFirst : ℕ → List Call → Type 0
AllFirst m [] = Unit {0}
AllFirst m (c ∷ cs) = (concerns_first m c ≡ true) × AllFirst m cs

all_first : (m : ℕ) (calls : List Call) → AllFirst m (concerning_first m calls)
unfolding concerning_first
all_first m [] = tt
all_first m (c ∷ cs) = cases (concerns_first m c) (λ e. rw e (e, all_first m cs)) (λ e. rw e (all_first m cs))

-- they are all that concerns one of these places
concerned : (m i : ℕ) → i < m → (calls : List Call) → concerning i (concerning_first m calls) ≡ concerning i calls
unfolding concerning concerning_first concerns_first concerns
concerned m i h [] = refl
concerned m i h (slot ∷ cs) = rw (concerned m i h cs)
concerned m i h (post p n ∷ cs) = cases (ltb p m)
    (λ e. rw (e, concerned m i h cs))
    (λ e. rw (e, concerned m i h cs, ne_eqb p i (λ same. absurd (omega (arith, ltb-false p m e)))))

-- ---- a post drawn to the front, past posts to other places

pub record Drawn (m p n : ℕ) (calls : List Call) : Type 0 where
  pub rest : List Call
  pub all_first : AllFirst m rest
  pub same_calls : (i : ℕ) → concerning i calls ≡ concerning i (post p n ∷ rest)
  pub same_shown : (s : State) → shown ruled m s calls ≡ shown ruled m s (post p n ∷ rest)

keep_twice : (x y : Bool) (c d : Call) (cs : List Call) → (x ≡ true → y ≡ false) → keep x c (keep y d cs) ≡ keep y d (keep x c cs)
keep_twice true true c d cs h = true_false (h refl)
keep_twice true false c d cs h = refl
keep_twice false true c d cs h = refl
keep_twice false false c d cs h = refl

keep_same : (x : Bool) (c : Call) (cs ds : List Call) → keep x c cs ≡ keep x c ds → cs ≡ ds
keep_same true c cs ds e = cc
keep_same false c cs ds e = e

draw : (m p n : ℕ) (calls others : List Call) → AllFirst m calls → concerning p calls ≡ post p n ∷ others → Drawn m p n calls
unfolding concerning concerns shown shows
draw m p n [] others all e = let z : ◌≡◌ {A = ℕ} 0 1 = cc in absurd (omega arith)
draw m p n (slot ∷ cs) others all e = let z : ◌≡◌ {A = ℕ} 0 1 = cc in absurd (omega arith)
draw m p n (post q b ∷ cs) others all e = cases (eqb q p) (λ y. here (rw y at e)) (λ z. further z (draw m p n cs others all.1 (rw z at e)))
  where
    here : ◌≡◌ {A = List Call} (post q b ∷ concerning p cs) (post p n ∷ others) → Drawn m p n (post q b ∷ cs)
    here f =
        let same : post q b ≡ post p n = cc in
        record {
          rest = cs;
          all_first = all.1;
          same_calls = λ i. ap (λ c. concerning i (c ∷ cs)) same;
          same_shown = λ s. ap (λ c. shown ruled m s (c ∷ cs)) same;
        }

    further : eqb q p ≡ false → Drawn m p n cs → Drawn m p n (post q b ∷ cs)
    further z d =
        let apart : p ≡ q → ⊥ = λ same. eqb-false q p z (sym same) in
        record {
          rest = post q b ∷ d.rest;
          all_first = (all.0, d.all_first);
          same_calls = λ i.
              ap (keep (eqb q i) (post q b)) (d.same_calls i)
              ∙ keep_twice (eqb q i) (eqb p i) (post q b) (post p n) (concerning i d.rest)
              (λ at-q. ne_eqb p i (λ at_p. apart (at_p ∙ sym (eqb-true q i at-q))));
          same_shown = λ s. d.same_shown (ruled s (post q b)).state ∙ ap (λ u. shown ruled m u d.rest) (posts_commute s p n q b apart);
        }

-- ---- each place is posted the same before each slot

module _ (m : ℕ) (some : 0 < m) where
  agree : (s : State) (calls others : List Call) → AllFirst m calls → AllFirst m others
      → ((i : ℕ) → i < m → concerning i calls ≡ concerning i others) → shown ruled m s calls ≡ shown ruled m s others
  unfolding concerning concerns concerns_first shown shows
  agree s [] [] all all' h = refl
  agree s [] (slot ∷ others) all all' h = let e = h 0 some in let z : ◌≡◌ {A = ℕ} 0 1 = cc in absurd (omega arith)
  agree s [] (post p n ∷ others) all all' h =
      let e = rw (eq-eqb p p refl) at (h p (ltb-true p m all'.0)) in
      let z : ◌≡◌ {A = ℕ} 0 1 = cc in absurd (omega arith)
  agree s (slot ∷ calls) [] all all' h = let e = h 0 some in let z : ◌≡◌ {A = ℕ} 0 1 = cc in absurd (omega arith)
  agree s (slot ∷ calls) (post p n ∷ others) all all' h =
      let e = rw (eq-eqb p p refl) at (h p (ltb-true p m all'.0)) in
      let z : ◌≡◌ {A = ℕ} 0 1 = cc in absurd (omega arith)
  agree s (slot ∷ calls) (slot ∷ others) all all' h =
      ap (shows m slot (ruled s slot)) (agree (ruled s slot).state calls others all.1 all'.1 (λ i l. keep_same true slot (concerning i calls) (concerning i others) (h i l)))
  agree s (post p n ∷ calls) others all all' h =
      let e = rw (eq-eqb p p refl) at (h p (ltb-true p m all.0)) in
      let d = draw m p n others (concerning p calls) all' (sym e) in
      agree (ruled s (post p n)).state calls d.rest all.1 d.all_first
      (λ i l. keep_same (eqb p i) (post p n) (concerning i calls) (concerning i d.rest) (h i l ∙ d.same_calls i))
      ∙ sym (d.same_shown s)

  pub any_order : (s : State) (calls others : List Call) → ((i : ℕ) → i < m → concerning i calls ≡ concerning i others)
      → shown ruled m s (concerning_first m calls) ≡ shown ruled m s (concerning_first m others)
  any_order s calls others h =
      agree s (concerning_first m calls) (concerning_first m others) (all_first m calls) (all_first m others)
      (λ i l. concerned m i l calls ∙ h i l ∙ sym (concerned m i l others))
