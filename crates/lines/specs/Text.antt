-- What a line of slotlist is made of, as clause 14.2 has it. A text is a list of bytes in ASCII: a line feed is 10, a space 32, and the
-- digits begin at 48.
use Rattle.std.specs.Prelude.{List, [], ◌∷◌, ◌++◌, ℕ, zero, suc, ◌+◌, ◌/◌, ◌%◌, ltb}
use Rattle.lists.specs.Choices.{pick}
use Rattle.lists.specs.Sums.{joined}

-- how many digits may stand before the last one: a number of 64 bits has at most 20 digits
abbrev pub max_earlier : ℕ
max_earlier = 19

-- n in a last digit and at most `earlier` digits before it
unfoldable pub digits_of : (earlier : ℕ) → ℕ → List ℕ
digits_of zero n = (48 + n) ∷ []
digits_of (suc earlier) n = pick (ltb n 10) ((48 + n) ∷ []) (digits_of earlier (n / 10) ++ ((48 + n % 10) ∷ []))

-- clause 14.2: a number in decimal, for every number of 64 bits
unfoldable pub decimal : ℕ → List ℕ
decimal n = digits_of max_earlier n

-- an item behind another
unfoldable pub spaced : List ℕ → List ℕ
spaced item = 32 ∷ item

-- clause 14.2: a line is its first item, the others, each behind a space, and the line feed
unfoldable pub line : (first : List ℕ) → (others : List (List ℕ)) → List ℕ
line first others = first ++ (joined spaced others ++ (10 ∷ []))
