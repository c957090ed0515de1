-- What the first m places are shown depends only on the table, the slot number, their own accounts and the calls that concern
-- them: these calls alone, on the state cut to these accounts, show the same; and their order between places does not count (Orders).
-- For every m, past N too. Assumes nothing.
use Rattle.std.proofs.Common.{◌≡◌, refl, sym, ap, ap₂, ◌∙◌, true, false, List, [], ◌∷◌, ℕ, zero, suc, ◌≤◌, ◌<◌, arith, ltb-true, ltb-false, lt-ltb, ltb, take, get_or-set_other, take-take, get_or-take, Option, Some, None}
use lib.Dec.{leb-suc-suc, leb-suc-zero}
use lib.Seq.{take-set-le, take-set-lt}
use Rattle.lists.specs.Choices.{pick}
use Rattle.lists.proofs.Tests.{cases, true_false}
use Rattle.lists.specs.Runs.{Result}
use Rattle.terms.specs.declared.place.Requestor.{Requestor}
use Rattle.terms.specs.declared.place.Account.{Account}
use Rattle.terms.specs.State.{State, no_account, account_at, sound}
use Rattle.terms.specs.Refusals.{Verdict, faultless, fault, refusal, gate}
use Rattle.terms.specs.Answers.{Answer, slot_answer}
use Rattle.terms.specs.Table.{requestors_of}
use Rattle.terms.proofs.Sound.{Sound}
use Rattle.rule.specs.Rule.{eligible, later, first_eligible, served, passed, after}
use Rattle.rule.specs.Calls.{Call, post, slot, grant_of, advanced, with_post, done, rule_verdict, outcome, ruled, called}
use Rattle.guarantees.specs.Counts.{start_state}
use Rattle.guarantees.specs.Isolation.{Isolation, PostApart, concerning, view, Shown, shows, shown}
use Rattle.rule.proofs.Head.{after_later, first_no_account, after_no_account}
use Rattle.guarantees.proofs.Step.{by_kind}
use Rattle.guarantees.proofs.Sound.{sound_next, call_ruled}
use Rattle.guarantees.proofs.Orders.{concerns_first, concerning_first, any_order}
use Rattle.guarantees.proofs.Start.{start_state_sound}

-- ---- one post

post_outcome : (v : Verdict) (s : State) (p count i : ℕ) → (i ≡ p → ⊥) → account_at i (outcome v s (post p count)).state.accounts ≡ account_at i s.accounts
unfolding done with_post
post_outcome faultless s p count i apart = get_or-set_other s.accounts p i _ no_account apart
post_outcome (fault r) s p count i apart = refl

pub post_apart : PostApart
unfolding called
post_apart limit s p count i apart = post_outcome (gate (refusal 23) (sound limit s) (rule_verdict s (post p count))) s p count i apart

-- ---- a grant as the first m places see it

seen : ℕ → Option ℕ → Option ℕ
seen m None = None
seen m (Some p) = pick (ltb p m) (Some p) None

seen_by_none : (g : Option ℕ) → seen zero g ≡ None
unfolding seen
seen_by_none None = refl
seen_by_none (Some p) = rw leb-suc-zero

seen_at_first : (m : ℕ) → seen (suc m) (Some zero) ≡ Some zero
unfolding seen
seen_at_first m = rw (lt-ltb 0 (suc m) (omega arith))

seen_later : (m : ℕ) (g : Option ℕ) → seen (suc m) (later g) ≡ later (seen m g)
unfolding seen later
seen_later m None = refl
seen_later m (Some p) = rw (leb-suc-suc (suc p) m) (cases (ltb p m) (λ e. rw e) (λ e. rw e))

view_seen : (m stamp : ℕ) (g : Option ℕ) → view m (slot_answer stamp (seen m g)) ≡ view m (slot_answer stamp g)
unfolding seen view
view_seen m stamp None = refl
view_seen m stamp (Some p) = cases (ltb p m) (λ e. rw (e, e)) (λ e. rw e)

-- ---- the rule of a slot on the first m accounts: a requestor with no account is never granted, so the table stays whole

module _ (d : ℕ) where
  first_take : (m : ℕ) (rs : List Requestor) (accounts : List Account) → first_eligible d rs (take m accounts) ≡ seen m (first_eligible d rs accounts)
  unfolding first_eligible seen
  first_take zero rs accounts = first_no_account d rs ∙ sym (seen_by_none (first_eligible d rs accounts))
  first_take (suc m) [] accounts = refl
  first_take (suc m) (r ∷ rs) [] = refl
  first_take (suc m) (r ∷ rs) (a ∷ accounts) = cases (eligible d r a)
      (λ e. rw (e, seen_at_first m))
      (λ e. rw (e, seen_later m, first_take m rs accounts))

  take_after : (m : ℕ) (g : Option ℕ) (rs : List Requestor) (accounts : List Account)
      → take m (after d g rs accounts) ≡ after d (seen m g) rs (take m accounts)
  unfolding after later seen
  take_after zero g rs accounts = sym (after_no_account d (seen zero g) rs)
  take_after (suc m) g [] accounts = refl
  take_after (suc m) g (r ∷ rs) [] = refl
  take_after (suc m) None (r ∷ rs) (a ∷ accounts) = ap (λ l. passed r a ∷ l) (take_after m None rs accounts)
  take_after (suc m) (Some zero) (r ∷ rs) (a ∷ accounts) = rw seen_at_first (ap (λ l. served d r a ∷ l) (take_after m None rs accounts))
  take_after (suc m) (Some (suc p)) (r ∷ rs) (a ∷ accounts) = rw (seen_later m (Some p), after_later, take_after m (Some p) rs accounts)

-- ---- a call on the state cut to the first m accounts

unfoldable pub cut : ℕ → State → State
cut m s = record { table = s.table; slot = s.slot; accounts = take m s.accounts }

-- what a call on the cut state came to is what the first m places see of what it came to on the whole
record Seen (m : ℕ) (whole part : Result State Answer) : Type 0 where
  state : part.state ≡ cut m whole.state
  answer : view m part.answer ≡ view m whole.answer

module _ (m : ℕ) (s : State) where
  cut_grant : grant_of (cut m s) ≡ seen m (grant_of s)
  unfolding cut grant_of
  cut_grant = first_take s.table.denominator m (requestors_of s.table) s.accounts

  cut_advanced : (g : Option ℕ) → advanced (cut m s) (seen m g) ≡ cut m (advanced s g)
  unfolding cut advanced
  cut_advanced g = rw take_after

  cut_filled : (p count : ℕ) → p < m → with_post (cut m s) p count ≡ cut m (with_post s p count)
  unfolding cut with_post
  cut_filled p count h = rw (get_or-take, take-set-lt)

  cut_posted_past : (p count : ℕ) → m ≤ p → cut m (with_post s p count) ≡ cut m s
  unfolding cut with_post
  cut_posted_past p count h = rw take-set-le

  -- a call that concerns the first m places is judged by what the cut state keeps, and does there what it does on the whole
  cut_verdict : (c : Call) → concerns_first m c ≡ true → rule_verdict (cut m s) c ≡ rule_verdict s c
  unfolding cut concerns_first rule_verdict
  cut_verdict (post p count) e = rw (get_or-take m s.accounts p no_account (ltb-true p m e))
  cut_verdict slot e = refl

  seen_done : (c : Call) → concerns_first m c ≡ true → Seen m (done s c) (done (cut m s) c)
  unfolding cut concerns_first done
  seen_done (post p count) e = record { state = cut_filled p count (ltb-true p m e); answer = refl }
  seen_done slot e = rw cut_grant (record { state = cut_advanced (grant_of s); answer = view_seen m s.slot.0 (grant_of s) })

  seen_outcome : (c : Call) (v : Verdict) → Seen m (done s c) (done (cut m s) c) → Seen m (outcome v s c) (outcome v (cut m s) c)
  seen_outcome c faultless h = h
  seen_outcome c (fault r) h = record { state = refl; answer = refl }

  seen_ruled : (c : Call) → concerns_first m c ≡ true → Seen m (ruled s c) (ruled (cut m s) c)
  unfolding ruled
  seen_ruled c e = rw (cut_verdict c e) (seen_outcome c (rule_verdict s c) (seen_done c e))

  -- any other call changes nothing that the cut state keeps
  unseen_ruled : (c : Call) → concerns_first m c ≡ false → cut m (ruled s c).state ≡ cut m s
  unfolding concerns_first
  unseen_ruled c = by_kind (λ c u a. concerns_first m c ≡ false → cut m u ≡ cut m s) s c
      (λ r v e. refl)
      (λ p count v e. cut_posted_past p count (ltb-false p m e))
      (λ v e. true_false e)

-- ---- a list of calls

module _ (m : ℕ) where
  shows_seen : (c : Call) (whole part : Result State Answer) (rest : List Shown) → Seen m whole part → shows m c part rest ≡ shows m c whole rest
  unfolding cut shows
  shows_seen (post p count) whole part rest h = refl
  shows_seen slot whole part rest h =
      ap₂ (λ l v. record { accounts = l; answer = v } ∷ rest) (rw (h.state, take-take m m whole.state.accounts (omega arith))) h.answer

  shows_unseen : (c : Call) (r : Result State Answer) (rest : List Shown) → concerns_first m c ≡ false → shows m c r rest ≡ rest
  unfolding concerns_first shows
  shows_unseen (post p count) r rest e = refl
  shows_unseen slot r rest e = true_false e

  shown_cut : (s : State) (calls : List Call) → shown ruled m s calls ≡ shown ruled m (cut m s) (concerning_first m calls)
  unfolding concerning_first shown
  shown_cut s [] = refl
  shown_cut s (c ∷ cs) = rw (shown_cut (ruled s c).state cs) (cases (concerns_first m c)
      (λ e. let h = seen_ruled m s c e in rw (e, shows_seen c (ruled s c) (ruled (cut m s) c), h.state))
      (λ e. rw (e, shows_unseen, unseen_ruled)))

-- the contracts' calls, from a sound state
module _ (limit : ℕ) where
  shown_same : (m : ℕ) (s : State) → Sound limit s → (calls : List Call) → shown (called limit) m s calls ≡ shown ruled m s calls
  unfolding shown
  shown_same m s v [] = refl
  shown_same m s v (c ∷ cs) = rw (call_ruled limit s c v, shown_same m (ruled s c).state (sound_next limit s c v) cs)

  pub shown_apart : (s : State) → Sound limit s → (k : ℕ) (calls others : List Call) → ((i : ℕ) → i ≤ k → concerning i calls ≡ concerning i others)
      → shown (called limit) (suc k) s calls ≡ shown (called limit) (suc k) s others
  shown_apart s v k calls others same =
      shown_same (suc k) s v calls ∙ shown_cut (suc k) s calls
      ∙ any_order (suc k) (omega arith) (cut (suc k) s) calls others (λ i h. same i (omega arith))
      ∙ sym (shown_cut (suc k) s others) ∙ sym (shown_same (suc k) s v others)

pub isolation : Isolation
isolation limit t first ok k = shown_apart limit (start_state limit t first) (start_state_sound limit t first ok) k
