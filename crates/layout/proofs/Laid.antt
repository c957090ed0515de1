-- A table laid into words: what the table is after D and N, and after the first p of the rows. Assumes nothing.
use Rattle.std.proofs.Common.{◌≡◌, refl, ap, sym, ◌∙◌, true, List, [], ◌++◌, ℕ, ◌+◌, ◌≤◌, ◌<◌, arith, length, get_or, set, take, drop, replicate}
use lib.ListN.{length-replicate}
use Rattle.lists.proofs.Overwriting.{overwrite_more, overwrite_all}
use Rattle.terms.specs.declared.place.Requestor.{Requestor}
use Rattle.terms.specs.Table.{no_requestor, table_of}
use Rattle.terms.specs.State.{State}
use Rattle.terms.specs.Start.{no_state}
use Rattle.layout.specs.Words.{word_count, room_of_words, right_length, words_state, state_of, put_head, put_row, with_table, with_head}
use Rattle.layout.specs.Numbers.{numbers_row, numbers_table}
use Rattle.layout.proofs.Items.{length_places, at_place}
use Rattle.layout.proofs.RoundTrip.{right, room_of, words_shaped}
use Rattle.layout.proofs.Stores.{same_room, put_head_length, put_head_state, put_row_lem, put_row_length, zero_state}

-- words of a known room are read with it
pub state_with_room : (room : ℕ) (words : List ℕ) → length words ≡ word_count room → state_of words ≡ words_state room words
state_with_room room words long = ap (λ k. words_state k words) (room_of room words long)

-- ---- D and N

module _ (entry zeros : List ℕ) (e : zeros ≡ replicate (length entry) 0) where
  zeros_long : length zeros ≡ length entry
  zeros_long = rw e (length-replicate (length entry) 0)

  pub cleared_state : state_of zeros ≡ no_state (room_of_words entry)
  cleared_state = ap (λ k. words_state k zeros) (same_room entry zeros zeros_long) ∙ ap (words_state (room_of_words entry)) e ∙ zero_state (room_of_words entry) (length entry)

  pub head_laid : (d n : ℕ) (words : List ℕ) → 3 ≤ length entry → words ≡ put_head zeros d n
      → state_of words ≡ with_table (no_state (room_of_words entry)) (table_of (room_of_words entry) d n [])
  unfolding no_state table_of
  head_laid d n words some f =
      let long : length words ≡ length zeros = ap (λ l. length l) f ∙ put_head_length zeros d n in
      let room : room_of_words words ≡ room_of_words zeros = same_room zeros words long in
      ap (λ k. words_state k words) room ∙ ap (words_state (room_of_words zeros)) f ∙ put_head_state zeros d n (room_of_words zeros) (omega (arith, zeros_long))
      ∙ ap (λ s. with_head s d n) cleared_state

-- ---- the rows, one after the other

-- the rows that are given, and the words as they were before D and N were laid
module _ (given : List Requestor) (entry : List ℕ) (room d n : ℕ) where
  abbrev before : List Requestor
  before = (words_state room entry).table.requestors

  -- D and N are laid, the first p rows are those given, and all else is as it was
  abbrev laid_to : (p : ℕ) → State
  laid_to p = with_table (words_state room entry) (record { denominator = d; count = n; requestors = take p given ++ drop p before })

  pub record Laying (words : List ℕ) (p : ℕ) : Type 0 where
    pub long : length words ≡ word_count room
    pub state : words_state room words ≡ laid_to p

  pub laying_none : length entry ≡ word_count room → Laying (put_head entry d n) 0
  laying_none long =
      record {
        long = put_head_length entry d n ∙ long;
        state = put_head_state entry d n room (omega (arith, long));
      }

  module _ (many : length given ≡ room) where
    pub laying_more : (words : List ℕ) (p : ℕ) (r : Requestor) → Laying words p → p < room → r ≡ get_or given p no_requestor → Laying (put_row words p r) (p + 1)
    laying_more words p r v h row =
        let rows : set (take p given ++ drop p before) p r ≡ take (p + 1) given ++ drop (p + 1) before =
        overwrite_more no_requestor given before (take p given ++ drop p before) p r (omega (arith, many)) (omega (arith, (words_shaped room entry).rows)) refl row in
        record {
          long = put_row_length words p r ∙ v.long;
          state = put_row_lem words p r room v.long h ∙ rw (v.state, rows);
        }

    pub laying_end : (words : List ℕ) (p : ℕ) → Laying words p → room ≤ p
        → state_of words ≡ with_table (words_state room entry) (record { denominator = d; count = n; requestors = given })
    laying_end words p v h =
        let all = overwrite_all no_requestor given before p (omega (arith, many)) (omega (arith, (words_shaped room entry).rows)) in
        state_with_room room words v.long ∙ v.state ∙ rw all

-- ---- of a table given as numbers

-- D, N and the first p rows of these numbers are laid
abbrev pub NumbersLaying : (numbers entry : List ℕ) (words : List ℕ) (p : ℕ) → Type 0
NumbersLaying numbers entry words p =
    Laying (numbers_table (room_of_words entry) numbers).requestors entry (room_of_words entry) (get_or numbers 0 0) (get_or numbers 1 0) words p

module _ (numbers entry : List ℕ) where
  pub numbers_none : (most : ℕ) → right_length most entry ≡ true → NumbersLaying numbers entry (put_head entry (get_or numbers 0 0) (get_or numbers 1 0)) 0
  numbers_none most ok = laying_none _ entry _ _ _ (right most entry ok).long

  pub numbers_more : (words : List ℕ) (p : ℕ) → NumbersLaying numbers entry words p → p < room_of_words entry → NumbersLaying numbers entry (put_row words p (numbers_row numbers p)) (p + 1)
  unfolding numbers_table
  numbers_more words p v h =
      let room = room_of_words entry in
      laying_more _ entry room _ _ (length_places (numbers_row numbers) 0 room) words p (numbers_row numbers p) v h (sym (at_place (numbers_row numbers) no_requestor room p h))

  pub numbers_end : (words : List ℕ) (p : ℕ) → NumbersLaying numbers entry words p → room_of_words entry ≤ p
      → state_of words ≡ with_table (state_of entry) (numbers_table (room_of_words entry) numbers)
  unfolding numbers_table
  numbers_end words p v h = laying_end _ entry _ _ _ (length_places (numbers_row numbers) 0 (room_of_words entry)) words p v h
