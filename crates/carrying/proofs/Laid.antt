-- An old state laid into words: what the state is after the first p of its places, and that all of them are the state with zeros behind.
-- Assumes nothing.
use Rattle.std.proofs.Common.{◌≡◌, refl, ap, sym, ◌∙◌, List, [], ◌++◌, ℕ, zero, suc, ◌+◌, ◌-◌, ◌≤◌, ◌<◌, arith, length, get_or, set, take, drop, replicate, take_all}
use native.Mathlib.Numerals.{unary_clauses}
use lib.ListN.{length-replicate}
use Rattle.lists.proofs.Overwriting.{overwrite_more}
use Rattle.terms.specs.declared.place.Requestor.{Requestor}
use Rattle.terms.specs.declared.place.Account.{Account}
use Rattle.lists.specs.Overwriting.{written_over}
use Rattle.terms.specs.Table.{no_requestor, table_of}
use Rattle.terms.specs.State.{State, no_account, Shaped}
use Rattle.terms.specs.Start.{no_state}
use Rattle.terms.specs.Longer.{longer}
use Rattle.carrying.specs.Carry.{OldState, as_state}
use Rattle.layout.specs.Words.{word_count, room_of_words, words_state, state_of, put_slot_number, put_row, put_account, with_table}
use Rattle.layout.proofs.RoundTrip.{right}
use Rattle.layout.proofs.Stores.{put_slot, put_slot_length, put_row_lem, put_row_length, put_account_lem, put_length}
use Rattle.layout.proofs.Laid.{state_with_room}
use Rattle.carrying.specs.OldWords.{old_room_of, old_words_state, old_state_of}
use Rattle.carrying.proofs.Fits.{Fit, old_shaped}

drop_replicate : {A : Type 0} (x : A) (k n : ℕ) → drop k (replicate n x) ≡ replicate (n - k) x
drop_replicate x zero n = simp unary_clauses refl
drop_replicate x (suc k) zero = let none : 0 - suc k ≡ 0 = omega arith in rw none
drop_replicate x (suc k) (suc n) = simp unary_clauses (drop_replicate x k n)

module _ (room : ℕ) (o : OldState) where
  -- the first p places are the old state's, and the others are 0
  abbrev laid_to : (p : ℕ) → State
  laid_to p = record {
    table = record { denominator = o.denominator; count = o.count; requestors = take p (as_state o).table.requestors ++ drop p (replicate room no_requestor) };
    slot = record { 0 = o.slot };
    accounts = take p (as_state o).accounts ++ drop p (replicate room no_account);
  }

  pub record Carrying (words : List ℕ) (p : ℕ) : Type 0 where
    pub long : length words ≡ word_count room
    pub state : words_state room words ≡ laid_to p

  -- none yet: D and N, and behind them the slot number
  pub carrying_none : (entry headed words : List ℕ) (d n at : ℕ) → room ≡ room_of_words entry → length headed ≡ word_count room → d ≡ o.denominator → n ≡ o.count → at ≡ o.slot
      → state_of headed ≡ with_table (no_state (room_of_words entry)) (table_of (room_of_words entry) d n []) → words ≡ put_slot_number headed at → Carrying words 0
  unfolding no_state table_of written_over
  carrying_none entry headed words d n at same long first second third e f =
      let head = sym (state_with_room room headed long) ∙ e in
      rw f
      (record {
        long = put_slot_length headed at ∙ long;
        state = put_slot headed at room (omega arith) ∙ rw (head, ← same, first, second, third);
      })

  module _ (limit : ℕ) (shape : Shaped limit (as_state o)) (few : limit ≤ room) where
    pub carrying_more : (words rowed next : List ℕ) (p : ℕ) (r : Requestor) (a : Account) → Carrying words p → p < limit
        → r ≡ get_or (as_state o).table.requestors p no_requestor → a ≡ get_or (as_state o).accounts p no_account → rowed ≡ put_row words p r → next ≡ put_account rowed p a → Carrying next (p + 1)
    carrying_more words rowed next p r a v h row account e f =
        let none = replicate room no_requestor in
        let nobody = replicate room no_account in
        let rows : set (take p (as_state o).table.requestors ++ drop p none) p r ≡ take (p + 1) (as_state o).table.requestors ++ drop (p + 1) none =
        overwrite_more no_requestor (as_state o).table.requestors none (take p (as_state o).table.requestors ++ drop p none) p r (omega (arith, shape.rows)) (omega (arith, length-replicate room no_requestor)) refl row in
        let accounts : set (take p (as_state o).accounts ++ drop p nobody) p a ≡ take (p + 1) (as_state o).accounts ++ drop (p + 1) nobody =
        overwrite_more no_account (as_state o).accounts nobody (take p (as_state o).accounts ++ drop p nobody) p a (omega (arith, shape.accounts)) (omega (arith, length-replicate room no_account)) refl account in
        let long : length rowed ≡ word_count room = rw e (put_row_length words p r ∙ v.long) in
        let with_row : words_state room rowed ≡ _ = ap (words_state room) e ∙ put_row_lem words p r room v.long (omega arith) in
        rw f
        (record {
          long = put_length rowed p a ∙ long;
          state = put_account_lem rowed p a room long (omega arith) ∙ rw (with_row, v.state, rows, accounts);
        })

    pub carrying_end : (words : List ℕ) (p : ℕ) → Carrying words p → p ≡ limit → state_of words ≡ longer (room - limit) (as_state o)
    carrying_end words p v e =
        state_with_room room words v.long ∙ v.state
        ∙ rw (e, take_all limit (as_state o).table.requestors (omega (arith, shape.rows)), take_all limit (as_state o).accounts (omega (arith, shape.accounts)), drop_replicate no_requestor limit room, drop_replicate no_account limit room)

-- what the loop finds, once the head is laid
pub begins : (old-most most : ℕ) (old entry headed words : List ℕ) (d n at : ℕ) → Fit old-most most old entry → length headed ≡ length entry
    → d ≡ get_or old 0 0 → n ≡ get_or old 1 0 → at ≡ get_or old 2 0 → state_of headed ≡ with_table (no_state (room_of_words entry)) (table_of (room_of_words entry) d n []) → words ≡ put_slot_number headed at
    → Carrying (room_of_words entry) (old_state_of old) words 0
unfolding old_words_state
begins old-most most old entry headed words d n at f long first second third e g =
    carrying_none (room_of_words entry) (old_state_of old) entry headed words d n at refl (long ∙ (right most entry f.right).long) first second third e g

-- and what it leaves
pub ends : (old-most most : ℕ) (old entry words : List ℕ) (p : ℕ) → Fit old-most most old entry → p ≤ old_room_of old
    → Carrying (room_of_words entry) (old_state_of old) words p → old_room_of old ≤ p
    → state_of words ≡ longer (room_of_words entry - old_room_of old) (as_state (old_state_of old))
ends old-most most old entry words p f most_p v all =
    carrying_end (room_of_words entry) (old_state_of old) (old_room_of old) (old_shaped (old_room_of old) old) f.enough words p v (omega arith)
