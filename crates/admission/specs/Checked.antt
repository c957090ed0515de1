-- The table that words are, and how far it has been checked by clause 13.1.
use Rattle.std.specs.Prelude.{◌≡◌, true, List, ℕ, ◌*◌, ◌≤◌}
use Rattle.terms.specs.declared.place.Requestor.{Requestor}
use Rattle.terms.specs.Table.{Table, denominator_bounds, count_bounds, held_to, requestors_of, offered_row_verdict, each_place, table_verdict, offered_verdict}
use Rattle.terms.specs.Limits.{max_denominator, max_burst, max_need}
use Rattle.terms.specs.Refusals.{Verdict, faultless, then}
use Rattle.layout.specs.Words.{room_of_words, right_length, state_of}

abbrev pub table_in : List ℕ → Table
table_in words = (state_of words).table

-- the rows of all places that there is room for
abbrev pub rows_in : List ℕ → List Requestor
rows_in words = (table_in words).requestors

-- check 1, and check 2 of N itself, which is held to the room
abbrev pub limits_verdict : (room : ℕ) → Table → Verdict
limits_verdict room t = then (held_to denominator_bounds t.denominator) (held_to (count_bounds room) t.count)

-- checks 3, 4, 5 and 17, place by place
abbrev pub offered_rows_verdict : Table → Verdict
offered_rows_verdict t = each_place (offered_row_verdict t.denominator) 0 (requestors_of t)

-- words of a right length with room for the table's N places
pub record Counted (most : ℕ) (words : List ℕ) : Type 0 where
  pub right : right_length most words ≡ true
  pub count_most : (table_in words).count ≤ room_of_words words

-- words of a right length whose table passes checks 1 to 6
pub record Checked (most : ℕ) (words : List ℕ) : Type 0 where
  pub right : right_length most words ≡ true
  pub passes : table_verdict (room_of_words words) (table_in words) ≡ faultless

-- and whose table passes 17 too
pub record OfferChecked (most : ℕ) (words : List ℕ) : Type 0 where
  pub right : right_length most words ≡ true
  pub passes : offered_verdict (room_of_words words) (table_in words) ≡ faultless

-- the parts of a finish figure within their limits, so that the figure fits: D, B, R, the place's own rate, and j
pub record Parts (most d bursts left n j : ℕ) : Type 0 where
  pub denominator_most : d ≤ max_denominator
  pub bursts_most : bursts ≤ most * max_burst
  pub left_least : 1 ≤ left
  pub left_most : left ≤ max_denominator
  pub rate_least : 1 ≤ n
  pub rate_most : n ≤ max_denominator
  pub need_most : j ≤ max_need
