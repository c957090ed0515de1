-- What a store of one field makes of the state that the words are; the state of words that are all 0; and words that are 0 from a place on.
-- Assumes nothing.
use Rattle.std.proofs.Common.{◌≡◌, refl, sym, Bool, true, ◌&&◌, List, ℕ, zero, suc, ◌+◌, ◌-◌, ◌≤◌, ◌<◌, add-one, arith, eqb, length, get_or, drop, replicate, drop_of_length-le, length-set, drop-cons, get_or-set_same}
use Rattle.std.proofs.lemmas.Grind.{common_steps}
use lib.Bits.{bit_or}
use Rattle.std.proofs.lemmas.Bool.Decides.{nat_tests}
use Rattle.std.proofs.lemmas.Nat.{le_or_l, le_or_r}
use Rattle.std.proofs.Math.Bool.{and-true, and_assoc}
use Rattle.lists.specs.Sums.{every}
use Rattle.lists.specs.Overwriting.{written_over}
use Rattle.lists.specs.Places.{places_from}
use Rattle.lists.proofs.Tests.{every_end}
use Rattle.terms.specs.declared.place.Requestor.{Requestor}
use Rattle.terms.specs.declared.place.Account.{Account}
use Rattle.terms.specs.Table.{no_requestor, requestor_clear, table_of}
use Rattle.terms.specs.State.{no_account, account_clear}
use Rattle.terms.specs.Start.{no_state}
use Rattle.layout.specs.Words.{place_start, word_count, room_of_words, right_length, row_in, account_in, words_state, put_head, put_account, put_row, put_slot_number, is_zero, with_account, with_slot, with_head, with_row}
use Rattle.layout.proofs.Items.{same_places, set_places, drop_places}
use Rattle.layout.proofs.RoundTrip.{places}

-- ---- an account

module _ (words : List ℕ) (p : ℕ) (a : Account) where
  account_head : (i : ℕ) → i < 3 → get_or (put_account words p a) i 0 ≡ get_or words i 0
  unfolding put_account
  account_head i h = grind (arith, common_steps)

  pub put_rows : (q : ℕ) → row_in (put_account words p a) q ≡ row_in words q
  unfolding put_account
  put_rows q = grind (arith, common_steps)

  pub put_others : (q : ℕ) → (q ≡ p → ⊥) → account_in (put_account words p a) q ≡ account_in words q
  unfolding put_account
  put_others q h = grind (arith, common_steps)

  put_here : word_count (p + 1) ≤ length words → account_in (put_account words p a) p ≡ a
  unfolding put_account
  put_here there = grind (arith, common_steps)

  pub put_length : length (put_account words p a) ≡ length words
  unfolding put_account
  put_length = simp length-set

  pub put_account_lem : (room : ℕ) → length words ≡ word_count room → p < room → words_state room (put_account words p a) ≡ with_account (words_state room words) p a
  unfolding words_state
  put_account_lem room long h = rw (
    account_head 0 (omega arith),
    account_head 1 (omega arith),
    account_head 2 (omega arith),
    same_places (row_in (put_account words p a)) (row_in words) 0 room (λ q l m. put_rows q),
    set_places (account_in words) (account_in (put_account words p a)) a room p put_others (put_here (omega arith)) h,
  )

-- ---- the slot number

module _ (words : List ℕ) (at : ℕ) where
  slot_head : (i : ℕ) → i < 2 → get_or (put_slot_number words at) i 0 ≡ get_or words i 0
  slot_head i h = grind (arith, common_steps)

  pub put_slot : (room : ℕ) → 3 ≤ length words → words_state room (put_slot_number words at) ≡ with_slot (words_state room words) at
  unfolding words_state
  put_slot room there = rw (
    slot_head 0 (omega arith),
    slot_head 1 (omega arith),
    get_or-set_same words 2 at 0 (omega arith),
    same_places (row_in (put_slot_number words at)) (row_in words) 0 room (λ q l m. grind (arith, common_steps)),
    same_places (account_in (put_slot_number words at)) (account_in words) 0 room (λ q l m. grind (arith, common_steps)),
  )

  pub put_slot_length : length (put_slot_number words at) ≡ length words
  put_slot_length = length-set words 2 at

-- ---- a row

module _ (words : List ℕ) (p : ℕ) (r : Requestor) where
  row_head : (i : ℕ) → i < 3 → get_or (put_row words p r) i 0 ≡ get_or words i 0
  unfolding put_row
  row_head i h = grind (arith, common_steps)

  row_others : (q : ℕ) → (q ≡ p → ⊥) → row_in (put_row words p r) q ≡ row_in words q
  unfolding put_row
  row_others q h = grind (arith, common_steps)

  row_accounts : (q : ℕ) → account_in (put_row words p r) q ≡ account_in words q
  unfolding put_row
  row_accounts q = grind (arith, common_steps)

  row_here : word_count (p + 1) ≤ length words → row_in (put_row words p r) p ≡ r
  unfolding put_row
  row_here there = grind (arith, common_steps)

  pub put_row_length : length (put_row words p r) ≡ length words
  unfolding put_row
  put_row_length = simp length-set

  pub put_row_lem : (room : ℕ) → length words ≡ word_count room → p < room → words_state room (put_row words p r) ≡ with_row (words_state room words) p r
  unfolding words_state
  put_row_lem room long h = rw (
    row_head 0 (omega arith),
    row_head 1 (omega arith),
    row_head 2 (omega arith),
    set_places (row_in words) (row_in (put_row words p r)) r room p row_others (row_here (omega arith)) h,
    same_places (account_in (put_row words p r)) (account_in words) 0 room (λ q l m. row_accounts q),
  )

-- ---- D and N

module _ (words : List ℕ) (d n : ℕ) where
  slot_stands : get_or (put_head words d n) 2 0 ≡ get_or words 2 0
  slot_stands = grind (arith, common_steps)

  pub put_head_length : length (put_head words d n) ≡ length words
  put_head_length = simp length-set

  pub put_head_state : (room : ℕ) → 3 ≤ length words → words_state room (put_head words d n) ≡ with_head (words_state room words) d n
  unfolding words_state
  put_head_state room there =
      let d_read : get_or (put_head words d n) 0 0 ≡ d = grind (arith, common_steps) in
      let n_read : get_or (put_head words d n) 1 0 ≡ n = grind (arith, common_steps) in
      rw (
        d_read,
        n_read,
        slot_stands,
        same_places (row_in (put_head words d n)) (row_in words) 0 room (λ q l m. grind (arith, common_steps)),
        same_places (account_in (put_head words d n)) (account_in words) 0 room (λ q l m. grind (arith, common_steps)),
      )

-- the room is told by the length, and so is whether it is right
pub same_room : (words left : List ℕ) → length left ≡ length words → room_of_words left ≡ room_of_words words
unfolding room_of_words
same_room words left e = rw e

pub right_stands : (most : ℕ) (words left : List ℕ) → length left ≡ length words → right_length most words ≡ true → right_length most left ≡ true
unfolding right_length
right_stands most words left e ok = rw (same_room words left e, e) ok

-- ---- words that are 0

-- two words together are 0 where both are
or_zero : (a b : ℕ) → eqb (bit_or a b) 0 ≡ (eqb a 0 && eqb b 0)
or_zero a b = grind (arith, nat_tests, le_or_l, le_or_r)

-- the end of a walk that puts words together, and one word more
pub all_zero_lem : (words : List ℕ) (any i : ℕ) → length words ≤ i → (eqb any 0 && every is_zero (drop i words)) ≡ eqb any 0
all_zero_lem words any i h = rw (every_end is_zero 0 words i h) (and-true (eqb any 0))

pub zero_more : (words : List ℕ) (any i : ℕ) → i < length words
    → (eqb any 0 && every is_zero (drop i words)) ≡ (eqb (bit_or any (get_or words i 0)) 0 && every is_zero (drop (i + 1) words))
unfolding every
zero_more words any i h =
    let here : every is_zero (drop i words) ≡ (is_zero (get_or words i 0) && every is_zero (drop (i + 1) words)) = rw (drop-cons words i 0 h, add-one i) in
    rw (here, or_zero any (get_or words i 0)) (sym (and_assoc (eqb any 0) (eqb (get_or words i 0) 0) (every is_zero (drop (i + 1) words))))

pub zero_at : (n i : ℕ) → ◌≡◌ {A = ℕ} (get_or (replicate n 0) i 0) 0
zero_at n i = grind (arith, common_steps)

-- the same at every place is that many times the same
same_at_all : {X : Type 0} (f : ℕ → X) (x : X) (p n : ℕ) → ((q : ℕ) → f q ≡ x) → places_from f p n ≡ replicate n x
unfolding places_from
same_at_all f x p zero e = refl
same_at_all f x p (suc n) e = rw (e p, same_at_all f x (suc p) n e)

-- words that are all 0 are the state whose every field is 0
pub zero_state : (room n : ℕ) → words_state room (replicate n 0) ≡ no_state room
unfolding words_state no_state table_of written_over
zero_state room n = rw (
  zero_at n 0,
  zero_at n 1,
  zero_at n 2,
  same_at_all (row_in (replicate n 0)) no_requestor 0 room (λ q. grind (arith, common_steps, zero_at)),
  same_at_all (account_in (replicate n 0)) no_account 0 room (λ q. grind (arith, common_steps, zero_at)),
)

regroup : (a b c d e f r q : Bool) → (a && (b && (c && (d && (e && (f && (r && q))))))) ≡ (((a && (b && (c && d))) && r) && ((e && f) && q))
regroup a b c d e f r q = grind (arith, nat_tests)

clear_places : (words : List ℕ) (p m : ℕ) → place_start (p + m) ≡ length words
    → every is_zero (drop (place_start p) words) ≡ (every requestor_clear (places_from (row_in words) p m) && every account_clear (places_from (account_in words) p m))
unfolding every places_from places
clear_places words p zero h =
    let out : length words ≤ place_start p = omega arith in rw (drop_of_length-le words out)
clear_places words p (suc m) h =
    let again : p + suc m ≡ suc p + m = omega arith in
    let more : place_start (suc p + m) ≡ length words = rw again at h in
    let next : place_start p + 6 ≡ place_start (suc p) = omega arith in
    let here = sym (places.write_read words (place_start p) (omega arith)) in
    rw (here, next, clear_places words (suc p) m more) (regroup
    (is_zero (get_or words (place_start p) 0)) (is_zero (get_or words (place_start p + 1) 0)) (is_zero (get_or words (place_start p + 2) 0))
    (is_zero (get_or words (place_start p + 3) 0)) (is_zero (get_or words (place_start p + 4) 0)) (is_zero (get_or words (place_start p + 5) 0))
    (every requestor_clear (places_from (row_in words) (suc p) m)) (every account_clear (places_from (account_in words) (suc p) m)))

pub clear_from : (room n : ℕ) (words : List ℕ) → length words ≡ word_count room → n ≤ room
    → every is_zero (drop (place_start n) words)
    ≡ (every requestor_clear (drop n (places_from (row_in words) 0 room)) && every account_clear (drop n (places_from (account_in words) 0 room)))
clear_from room n words long h =
    let all : n + (room - n) ≡ room = omega arith in
    let none : 0 + n ≡ n = omega arith in
    let rows = rw (all, none) at (drop_places (row_in words) 0 n (room - n)) in
    let accounts = rw (all, none) at (drop_places (account_in words) 0 n (room - n)) in
    rw (rows, accounts) (clear_places words n (room - n) (omega arith))
