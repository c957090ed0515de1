-- Test 23 is a row of tests. Assumes nothing.
use Rattle.std.proofs.Common.{◌≡◌, refl, sym, ◌∙◌, Bool, true, false, ◌&&◌, List, ℕ, leb, drop, get_or}
use Rattle.lists.specs.Choices.{in_range}
use Rattle.lists.specs.Sums.{total, every}
use Rattle.lists.proofs.Tests.{cases, and_false, in_range_true}
use Rattle.terms.specs.Table.{Table, rate, denominator_bounds, count_bounds, held_to, requestor_clear, requestors_of, fields_verdict, each_place, tail_verdict, rate_sum_verdict, verdict_by, table_verdict}
use Rattle.terms.specs.State.{State, account_clear, is_faultless, accounts_hold, sound}
use Rattle.terms.specs.Limits.{max_denominator, max_slot}
use Rattle.terms.specs.Refusals.{then}
use Rattle.terms.proofs.AsTests.{both, gated, within}
use Rattle.layout.specs.Words.{place_start, room_of_words, right_length, words_state, state_of, is_zero}
use Rattle.layout.proofs.RoundTrip.{right}
use Rattle.layout.proofs.Stores.{clear_from}
use Rattle.soundness.specs.Soundness.{places_hold}

-- checks 1 to 6
table_test : (limit : ℕ) (t : Table)
    → is_faultless (table_verdict limit t)
    ≡ (in_range 1 max_denominator t.denominator
    && (in_range 1 limit t.count
    && (every requestor_clear (drop t.count t.requestors)
    && (is_faultless (each_place (fields_verdict t.denominator) 0 (requestors_of t))
    && leb (total rate (requestors_of t)) t.denominator))))
unfolding verdict_by tail_verdict rate_sum_verdict
table_test limit t =
    let d = held_to denominator_bounds t.denominator in
    let n = held_to (count_bounds limit) t.count in
    let tail = tail_verdict t in
    let rows = each_place (fields_verdict t.denominator) 0 (requestors_of t) in
    let sum = rate_sum_verdict t in
    both d (then n (then tail (then rows sum)))
    ∙ rw (
      both n (then tail (then rows sum)),
      both tail (then rows sum),
      both rows sum,
      within denominator_bounds t.denominator,
      within (count_bounds limit) t.count,
      gated _ (every requestor_clear (drop t.count t.requestors)),
      gated _ (leb (total rate (requestors_of t)) t.denominator),
    )

-- D, N, the slot number, the walk over the places, and what lies past them
regroup : (d n tail rows sum slot accounts clear : Bool)
    → ((d && (n && (tail && (rows && sum)))) && (slot && (accounts && clear))) ≡ (d && (n && (slot && ((rows && (accounts && sum)) && (tail && clear)))))
regroup false n tail rows sum slot accounts clear = refl
regroup true false tail rows sum slot accounts clear = refl
regroup true true tail rows sum false accounts clear = and_false (tail && (rows && sum)) false refl
regroup true true false false sum true accounts clear = refl
regroup true true true false sum true accounts clear = refl
regroup true true false true sum true accounts clear = sym (and_false (accounts && sum) false refl)
regroup true true true true sum true true clear = refl
regroup true true true true sum true false clear = and_false sum false refl

module _ (limit : ℕ) (s : State) where
  abbrev n : ℕ
  n = s.table.count

  pub sound_test : sound limit s
      ≡ (in_range 1 max_denominator s.table.denominator
      && (in_range 1 limit n
      && (leb s.slot.0 max_slot
      && (places_hold s.table.denominator n s.table.requestors s.accounts
      && (every requestor_clear (drop n s.table.requestors) && every account_clear (drop n s.accounts))))))
  unfolding sound places_hold
  sound_test =
      rw (table_test limit s.table) (regroup
      (in_range 1 max_denominator s.table.denominator) (in_range 1 limit n)
      (every requestor_clear (drop n s.table.requestors))
      (is_faultless (each_place (fields_verdict s.table.denominator) 0 (requestors_of s.table)))
      (leb (total rate (requestors_of s.table)) s.table.denominator)
      (leb s.slot.0 max_slot) (accounts_hold n s.table.requestors s.accounts) (every account_clear (drop n s.accounts)))

-- ---- the tests of words, in the order in which they are made

pub words_sound : (most : ℕ) (words : List ℕ) → right_length most words ≡ true
    → sound (room_of_words words) (state_of words)
    ≡ (in_range 1 max_denominator (get_or words 0 0)
    && (in_range 1 (room_of_words words) (get_or words 1 0)
    && (leb (get_or words 2 0) max_slot
    && (places_hold (get_or words 0 0) (get_or words 1 0) (state_of words).table.requestors (state_of words).accounts
    && every is_zero (drop (place_start (get_or words 1 0)) words)))))
unfolding words_state
words_sound most words ok =
    let room = room_of_words words in
    let n = get_or words 1 0 in
    let s = state_of words in
    cases (in_range 1 room n)
    (λ on. let few = (in_range_true 1 room n on).1 in sound_test room s ∙ rw (clear_from room n words (right most words ok).long few))
    (λ off. sound_test room s ∙ rw off)
