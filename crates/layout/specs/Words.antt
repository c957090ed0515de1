-- Clause 15.1: the state as words, one to each field: D, N and the slot number, and then, place after place, rate, burst, need, within,
-- credit and backlog. Words may have room for more places than the table has; how many is told by their length (clause 15.2).
use Rattle.std.specs.Prelude.{Bool, ◌&&◌, List, [], ◌∷◌, ◌++◌, ℕ, ◌+◌, ◌-◌, ◌*◌, ◌/◌, eqb, length, get_or, set}
use Rattle.lists.specs.Choices.{in_range}
use Rattle.lists.specs.Sums.{joined}
use Rattle.lists.specs.Pairs.{paired}
use Rattle.lists.specs.Places.{places_from}
use Rattle.terms.specs.declared.place.Requestor.{Requestor}
use Rattle.terms.specs.Table.{Table, row_numbers}
use Rattle.terms.specs.declared.place.Account.{Account}
use Rattle.terms.specs.State.{State}

-- the number of this layout (clause 15.6): 1 had all rows, and then all accounts; 2 was this one under the old limit (carrying)
abbrev pub layout_version : ℕ
layout_version = 3

-- ---- how many words

-- where the words of place p begin
abbrev pub place_start : (p : ℕ) → ℕ
place_start p = 3 + 6 * p

-- the words of a state with room for so many places (clause 15.1)
abbrev pub word_count : (room : ℕ) → ℕ
word_count room = place_start room

-- how many places words have room for (clause 15.2)
unfoldable pub room_of_words : List ℕ → ℕ
room_of_words words = (length words - 3) / 6

-- as many words as a state with room for 1 to `most` places has: none of them goes unread (clause 15.3)
unfoldable pub right_length : (most : ℕ) → List ℕ → Bool
right_length most words = eqb (length words) (word_count (room_of_words words)) && in_range 1 most (room_of_words words)

-- ---- from a state to its words (clause 15.1)

abbrev pub head_words : State → List ℕ
head_words s = s.table.denominator ∷ s.table.count ∷ s.slot.0 ∷ []

abbrev pub account_words : Account → List ℕ
account_words a = a.credit ∷ a.backlog.0 ∷ []

-- what stands at a place
pub record Place : Type 0 where
  pub row : Requestor
  pub account : Account

abbrev pub place : Requestor → Account → Place
place r a = record { row = r; account = a }

abbrev pub place_words : Place → List ℕ
place_words x = row_numbers x.row ++ account_words x.account

unfoldable pub state_words : State → List ℕ
state_words s = head_words s ++ joined place_words (paired place s.table.requestors s.accounts)

-- ---- from words to the state that they are (clause 15.1)

-- the row and the account of a place whose words begin at `at`
abbrev pub row_from : List ℕ → (at : ℕ) → Requestor
row_from words at = record {
  rate = get_or words at 0;
  burst = get_or words (at + 1) 0;
  need = record { 0 = get_or words (at + 2) 0 };
  within = record { 0 = get_or words (at + 3) 0 };
}

abbrev pub account_from : List ℕ → (at : ℕ) → Account
account_from words at = record { credit = get_or words (at + 4) 0; backlog = record { 0 = get_or words (at + 5) 0 } }

-- of place p
abbrev pub row_in : List ℕ → (p : ℕ) → Requestor
row_in words p = row_from words (place_start p)

abbrev pub account_in : List ℕ → (p : ℕ) → Account
account_in words p = account_from words (place_start p)

unfoldable pub words_state : (room : ℕ) → List ℕ → State
words_state room words = record {
  table = record { denominator = get_or words 0 0; count = get_or words 1 0; requestors = places_from (row_in words) 0 room };
  slot = record { 0 = get_or words 2 0 };
  accounts = places_from (account_in words) 0 room;
}

abbrev pub state_of : List ℕ → State
state_of words = words_state (room_of_words words) words

-- ---- single fields, stored

abbrev pub put_head : List ℕ → (d n : ℕ) → List ℕ
put_head words d n = set (set words 0 d) 1 n

abbrev pub put_slot_number : List ℕ → ℕ → List ℕ
put_slot_number words at = set words 2 at

abbrev pub put_backlog : List ℕ → (p q : ℕ) → List ℕ
put_backlog words p q = set words (place_start p + 5) q

unfoldable pub put_account : List ℕ → (p : ℕ) → Account → List ℕ
put_account words p a = put_backlog (set words (place_start p + 4) a.credit) p a.backlog.0

unfoldable pub put_row : List ℕ → (p : ℕ) → Requestor → List ℕ
put_row words p r =
    set (set (set (set words (place_start p) r.rate) (place_start p + 1) r.burst) (place_start p + 2) r.need.0) (place_start p + 3) r.within.0

abbrev pub is_zero : ℕ → Bool
is_zero x = eqb x 0

-- ---- a state with one thing changed

abbrev pub with_accounts : State → List Account → State
with_accounts s accounts = record { table = s.table; slot = s.slot; accounts = accounts }

abbrev pub with_account : State → (p : ℕ) → Account → State
with_account s p a = with_accounts s (set s.accounts p a)

abbrev pub with_slot : State → ℕ → State
with_slot s at = record { table = s.table; slot = record { 0 = at }; accounts = s.accounts }

abbrev pub with_table : State → Table → State
with_table s t = record { table = t; slot = s.slot; accounts = s.accounts }

abbrev pub with_head : State → (d n : ℕ) → State
with_head s d n = with_table s (record { denominator = d; count = n; requestors = s.table.requestors })

abbrev pub with_row : State → (p : ℕ) → Requestor → State
with_row s p r = with_table s (record { denominator = s.table.denominator; count = s.table.count; requestors = set s.table.requestors p r })
