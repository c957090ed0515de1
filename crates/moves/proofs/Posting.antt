-- A post on words: what each way out comes to. Assumes nothing.
use Rattle.std.proofs.Common.{◌≡◌, refl, ap, sym, ◌∙◌, true, List, ℕ, ◌+◌, ◌≤◌, ◌<◌, arith, ltb-true, ltb, length}
use Rattle.lists.specs.Runs.{Result}
use Rattle.lists.proofs.Tests.{cases}
use Rattle.terms.specs.State.{State, backlog, account_at, sound, place_verdict}
use Rattle.terms.specs.Limits.{max_places, max_backlog}
use Rattle.terms.specs.declared.refusals.Cause.{Cause}
use Rattle.terms.specs.declared.refusals.Cause.TheVariants.{Input}
use Rattle.terms.specs.declared.refusals.InputRefusal.{InputRefusal}
use Rattle.terms.specs.declared.refusals.InputRefusal.TheVariants.{NoSuchPlace}
use Rattle.terms.specs.declared.refusals.Origin.{Origin}
use Rattle.terms.specs.declared.refusals.Origin.TheVariants as origin
use Rattle.terms.specs.declared.refusals.Refusal.{Refusal}
use Rattle.terms.specs.Refusals.{Verdict, faultless, fault, refusal_of, refusal, gate}
use Rattle.terms.proofs.Checks.{faultless_fault, gate_open}
use Rattle.terms.specs.Answers.{Answer, accepted, refused}
use Rattle.rule.specs.Calls.{post, with_count, with_post, done, rule_verdict, called}
use Rattle.rule.proofs.Verdicts.{turned_down, called_refused, called_done, post_over, post_within}
use Rattle.layout.specs.Words.{word_count, room_of_words, right_length, account_in, words_state, state_of, put_account, with_account}
use Rattle.layout.proofs.Stores.{put_account_lem, put_length, same_room}
use Rattle.moves.proofs.Readiness.{length_is, held, count_most, place_there, place_account}

-- 23 and 11 of a post are those of a query about its place
place_refused : (limit : ℕ) (s : State) (p count : ℕ) (r : Refusal) → fault r ≡ place_verdict limit s p → turned_down s r ≡ called limit s (post p count)
unfolding place_verdict called rule_verdict gate
place_refused limit s p count r e = cases (sound limit s)
    (λ on. cases (ltb p s.table.count)
    (λ there. faultless_fault r (sym (rw (on, there) at e)))
    (λ absent. let same : fault r ≡ fault (refusal 11) = rw (on, absent) at e in let one : r ≡ refusal 11 = cc in rw (on, absent, one) refl))
    (λ off. let same : fault r ≡ fault (refusal 23) = rw off at e in let one : r ≡ refusal 23 = cc in rw (off, one) refl)

-- 23 is the state's, so that what the input causes of the two is 11. The code hands its refusal on, without this; by it a body that
-- writes 11 by hand is proved, so that the edit that writes 12 is refused for its number.
pub by_input : (limit : ℕ) (s : State) (p : ℕ) (i : InputRefusal) → fault (refusal_of (Input i)) ≡ place_verdict limit s p
    → fault (refusal_of (Input NoSuchPlace)) ≡ place_verdict limit s p
unfolding place_verdict gate
by_input limit s p i e = cases (sound limit s)
    (λ on. cases (ltb p s.table.count)
    (λ there. faultless_fault (refusal_of (Input i)) (sym (rw (on, there) at e)))
    (λ absent. rw (on, absent) refl))
    (λ off. let same : fault (refusal_of (Input i)) ≡ fault (refusal 23) = rw off at e in
    let one : refusal_of (Input i) ≡ refusal 23 = cc in
    let caused : ◌≡◌ {A = Origin} origin.Input origin.State = ap (λ (r : Refusal). r.origin) one in
    let apart : ◌≡◌ {A = ℕ} 0 1 = cc in
    absurd (omega arith))

module _ (words : List ℕ) (p count : ℕ) where
  abbrev s : State
  s = state_of words

  abbrev whole : Result State Answer
  whole = called (room_of_words words) s (post p count)

  abbrev found : Verdict
  found = place_verdict (room_of_words words) s p

  pub post_refused : (c : Cause) → fault (refusal_of c) ≡ found → ◌≡◌ {A = Result State Answer} (record { state = s; answer = refused (refusal_of c) }) whole
  post_refused c e = place_refused (room_of_words words) s p count (refusal_of c) e

  module _ (ok : right_length max_places words ≡ true) (e : faultless ≡ found) where
    passes : sound (room_of_words words) s ≡ true
    unfolding place_verdict
    passes = (gate_open _ _ _ (sym e)).0

    there_is : p < s.table.count
    unfolding place_verdict
    there_is = ltb-true _ _ (gate_open _ _ _ (gate_open _ _ _ (sym e)).1).0

    pub post_there : word_count (p + 1) ≤ length words
    post_there = place_there words ok passes p there_is

    here : account_in words p ≡ account_at p s.accounts
    here = place_account words ok passes p there_is

    -- the backlog is within its limit, so that what is free can be worked out
    pub backlog_most : backlog (account_in words p) ≤ max_backlog
    backlog_most = omega (arith, ap backlog here, (held words ok passes).backlog_most p there_is)

    pub post_21 : max_backlog < backlog (account_in words p) + count → ◌≡◌ {A = Result State Answer} (record { state = s; answer = refused (refusal 21) }) whole
    post_21 l = sym (called_refused (room_of_words words) s (post p count) passes _ (post_over s p count there_is (omega (arith, ap backlog here))))

    pub post_done : backlog (account_in words p) + count ≤ max_backlog
        → ◌≡◌ {A = Result State Answer} (record { state = state_of (put_account words p (record { credit = (account_in words p).credit; backlog = record { 0 = backlog (account_in words p) + count } })); answer = accepted }) whole
    unfolding done with_post with_count
    post_done l =
        let a = with_count count (account_in words p) in
        let fine = called_done (room_of_words words) s (post p count) passes (post_within s p count there_is (omega (arith, ap backlog here))) in
        let inside : p < room_of_words words = omega (arith, there_is, count_most words ok passes) in
        let same = same_room words (put_account words p a) (put_length words p a) in
        let stored : state_of (put_account words p a) ≡ with_account s p a =
        ap (λ k. words_state k (put_account words p a)) same ∙ put_account_lem words p a (room_of_words words) (length_is words ok).long inside in
        ap (λ (x : State). record { state = x; answer = accepted }) (stored ∙ ap (λ x. with_account s p (with_count count x)) here) ∙ sym fine

pub ruleset post_ends = (post_refused, by_input, post_there, backlog_most, post_21, post_done)
