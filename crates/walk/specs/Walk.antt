-- A slot in place. What it grants and leaves is the rule's (clauses 5.2 to 5.5) on the state that the words are; here stands what it asks
-- of words.
use Rattle.std.specs.Prelude.{List, ℕ, ◌+◌, ◌≤◌, ◌<◌, ◌^◌, ◌≡◌, length, take, Option}
use Rattle.terms.specs.State.{State}
use Rattle.rule.specs.Rule.{first_eligible, after}
use Rattle.layout.specs.Words.{word_count, room_of_words, row_in, account_in, with_accounts}

-- the first n places are there, and the credit and the rate of each add up within 64 bits
pub record Roomy (words : List ℕ) (n : ℕ) : Type 0 where
  pub long : length words ≡ word_count (room_of_words words)
  pub most : n ≤ room_of_words words
  pub sums : (p : ℕ) → p < n → (account_in words p).credit + (row_in words p).rate < 2 ^ 64

-- whom a slot grants among the first n places, and the state when they all had their turn
abbrev pub grant_among : (d n : ℕ) → State → Option ℕ
grant_among d n s = first_eligible d (take n s.table.requestors) s.accounts

abbrev pub slot_among : (d n : ℕ) → Option ℕ → State → State
slot_among d n g s = with_accounts s (after d g (take n s.table.requestors) s.accounts)
