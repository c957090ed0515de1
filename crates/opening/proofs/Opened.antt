-- The accounts of words are opened: what the state is after the first p of them. And a start of words is one of the table that was laid into
-- them. Assumes nothing.
use Rattle.std.proofs.Common.{◌≡◌, refl, ap, ap₂, sym, ◌∙◌, true, List, ◌++◌, map, ℕ, ◌+◌, ◌≤◌, ◌<◌, arith, length, get_or, set, take, drop}
use lib.ListN.{length-map, get_or-map}
use Rattle.lists.proofs.Overwriting.{overwrite_more, overwrite_all}
use Rattle.terms.specs.declared.place.Requestor.{Requestor}
use Rattle.terms.specs.Table.{Table, no_requestor}
use Rattle.terms.specs.declared.place.Account.{Account}
use Rattle.terms.specs.State.{no_account}
use Rattle.terms.specs.Start.{fresh, opening, start}
use Rattle.layout.specs.Words.{word_count, room_of_words, row_in, words_state, state_of, put_slot_number, put_account, with_accounts, with_slot, right_length}
use Rattle.layout.proofs.RoundTrip.{right, words_shaped, row_at}
use Rattle.layout.proofs.Stores.{put_account_lem, put_length, put_slot, put_slot_length, same_room}
use Rattle.layout.proofs.Laid.{state_with_room}

module _ (entry : List ℕ) (first : ℕ) where
  abbrev room : ℕ
  room = room_of_words entry

  abbrev rows : List Requestor
  rows = (state_of entry).table.requestors

  -- the accounts that these rows open with, and those that the words had
  abbrev opened : List Account
  opened = map fresh rows

  abbrev before : List Account
  before = (state_of entry).accounts

  -- the slot number is the first slot's, and the first p accounts are opened
  pub record Opening (words : List ℕ) (p : ℕ) : Type 0 where
    pub long : length words ≡ word_count room
    pub state : words_state room words ≡ with_accounts (with_slot (state_of entry) first) (take p opened ++ drop p before)

  pub opening_none : (most : ℕ) → right_length most entry ≡ true → Opening (put_slot_number entry first) 0
  opening_none most ok =
      let long = (right most entry ok).long in
      record {
        long = put_slot_length entry first ∙ long;
        state = put_slot entry first room (omega (arith, long));
      }

  pub opening_more : (words : List ℕ) (p : ℕ) (a : Account) → Opening words p → p < room → a.credit ≡ (row_in words p).burst → a.backlog.0 ≡ 0
      → Opening (put_account words p a) (p + 1)
  opening_more words p a v h e z =
      let shape = words_shaped room entry in
      let row : row_in words p ≡ get_or rows p no_requestor = sym (row_at room words p h) ∙ ap (λ s. get_or s.table.requestors p no_requestor) v.state in
      let account : a ≡ get_or opened p no_account = rw (e, z) (ap fresh row) ∙ sym (get_or-map fresh rows p no_requestor) in
      let accounts : set (take p opened ++ drop p before) p a ≡ take (p + 1) opened ++ drop (p + 1) before =
      overwrite_more no_account opened before (take p opened ++ drop p before) p a (omega (arith, length-map rows fresh, shape.rows)) (omega (arith, shape.accounts)) refl account in
      record {
        long = put_length words p a ∙ v.long;
        state = put_account_lem words p a room v.long h ∙ rw (v.state, accounts);
      }

  -- when all are, it is the opening state
  pub opening_end : (words : List ℕ) (p : ℕ) → Opening words p → room ≤ p → state_of words ≡ opening (state_of entry).table first
  unfolding opening
  opening_end words p v h =
      let shape = words_shaped room entry in
      let all = overwrite_all no_account opened before p (omega (arith, length-map rows fresh, shape.rows)) (omega (arith, shape.accounts)) in
      state_with_room room words v.long ∙ v.state ∙ ap (with_accounts (with_slot (state_of entry) first)) all

-- ---- a start of words that a table was laid into

pub start_of : (entry words : List ℕ) (t : Table) (first : ℕ) → length words ≡ length entry → (state_of words).table ≡ t
    → start (room_of_words words) (state_of words).table first ≡ start (room_of_words entry) t first
start_of entry words t first stands e = ap₂ (λ k u. start k u first) (same_room entry words stands) e
