-- What slotlist prints: the example of clause 14.4, and edges of clauses 13.15 and 14.1 to 14.3, worked out by hand. Texts are bytes in
-- ASCII; the comment over a row has its lines behind the header.
use Rattle.std.specs.Prelude.{List, [], ◌∷◌, ◌++◌, ℕ}
use Rattle.cases.specs.Rows.{Row, listing_of, bytes}

-- slot place credits
unfoldable pub header_text : List ℕ
header_text = 115 ∷ 108 ∷ 111 ∷ 116 ∷ 32 ∷ 112 ∷ 108 ∷ 97 ∷ 99 ∷ 101 ∷ 32 ∷ 99 ∷ 114 ∷ 101 ∷ 100 ∷ 105 ∷ 116 ∷ 115 ∷ 10 ∷ []

-- an input of these bytes is listed as the header and this text
abbrev listed : (input text : List ℕ) → Row
listed input text = record { query = listing_of input; written = bytes (header_text ++ text) }

unfoldable pub listing_rows : List Row
listing_rows =
    -- clause 14.4
    listed
    (10 ∷ 4 ∷ 2 ∷ 1 ∷ 8 ∷ 1 ∷ 4 ∷ 1 ∷ 4 ∷ 1 ∷ 7 ∷ 3 ∷ 3 ∷ 0 ∷ 0 ∷ 0 ∷ 0 ∷ [])
    (48 ∷ 32 ∷ 48 ∷ 32 ∷ 53 ∷ 32 ∷ 53 ∷ 10 ∷ 49 ∷ 32 ∷ 48 ∷ 32 ∷ 50 ∷ 32 ∷ 54 ∷ 10 ∷ 50 ∷ 32 ∷ 49 ∷ 32 ∷ 51 ∷ 32 ∷ 51 ∷ 10 ∷ 101 ∷ 110 ∷ 100 ∷ 32 ∷ 51 ∷ 10 ∷ [])
    ∷
    -- an idle slot: 0 - 8 4, end 1
    listed
    (10 ∷ 4 ∷ 2 ∷ 1 ∷ 8 ∷ 1 ∷ 4 ∷ 1 ∷ 4 ∷ 1 ∷ 7 ∷ 0 ∷ 0 ∷ [])
    (48 ∷ 32 ∷ 45 ∷ 32 ∷ 56 ∷ 32 ∷ 52 ∷ 10 ∷ 101 ∷ 110 ∷ 100 ∷ 32 ∷ 49 ∷ 10 ∷ [])
    ∷
    -- no slot: end 0
    listed
    (10 ∷ 4 ∷ 2 ∷ 1 ∷ 8 ∷ 1 ∷ 4 ∷ 1 ∷ 4 ∷ 1 ∷ 7 ∷ [])
    (101 ∷ 110 ∷ 100 ∷ 32 ∷ 48 ∷ 10 ∷ [])
    ∷
    -- empty input: refused 8
    listed
    ([])
    (114 ∷ 101 ∷ 102 ∷ 117 ∷ 115 ∷ 101 ∷ 100 ∷ 32 ∷ 56 ∷ 10 ∷ [])
    ∷
    -- the length in long form: refused 9
    listed
    (138 ∷ 0 ∷ 4 ∷ 2 ∷ 1 ∷ 8 ∷ 1 ∷ 4 ∷ 1 ∷ 4 ∷ 1 ∷ 7 ∷ [])
    (114 ∷ 101 ∷ 102 ∷ 117 ∷ 115 ∷ 101 ∷ 100 ∷ 32 ∷ 57 ∷ 10 ∷ [])
    ∷
    -- the length passes the input: refused 8
    listed
    (11 ∷ 4 ∷ 2 ∷ 1 ∷ 8 ∷ 1 ∷ 4 ∷ 1 ∷ 4 ∷ 1 ∷ 7 ∷ [])
    (114 ∷ 101 ∷ 102 ∷ 117 ∷ 115 ∷ 101 ∷ 100 ∷ 32 ∷ 56 ∷ 10 ∷ [])
    ∷
    -- the length is longer than the table but inside the input: refused 10
    listed
    (11 ∷ 4 ∷ 2 ∷ 1 ∷ 8 ∷ 1 ∷ 4 ∷ 1 ∷ 4 ∷ 1 ∷ 7 ∷ 0 ∷ 0 ∷ [])
    (114 ∷ 101 ∷ 102 ∷ 117 ∷ 115 ∷ 101 ∷ 100 ∷ 32 ∷ 49 ∷ 48 ∷ 10 ∷ [])
    ∷
    -- the length is shorter than the table: refused 8
    listed
    (9 ∷ 4 ∷ 2 ∷ 1 ∷ 8 ∷ 1 ∷ 4 ∷ 1 ∷ 4 ∷ 1 ∷ 7 ∷ [])
    (114 ∷ 101 ∷ 102 ∷ 117 ∷ 115 ∷ 101 ∷ 100 ∷ 32 ∷ 56 ∷ 10 ∷ [])
    ∷
    -- a finish figure above L: refused 7
    listed
    (10 ∷ 4 ∷ 2 ∷ 1 ∷ 8 ∷ 1 ∷ 4 ∷ 1 ∷ 4 ∷ 1 ∷ 6 ∷ [])
    (114 ∷ 101 ∷ 102 ∷ 117 ∷ 115 ∷ 101 ∷ 100 ∷ 32 ∷ 55 ∷ 10 ∷ [])
    ∷
    -- counts end inside the second slot: 0 0 5 5, refused 8
    listed
    (10 ∷ 4 ∷ 2 ∷ 1 ∷ 8 ∷ 1 ∷ 4 ∷ 1 ∷ 4 ∷ 1 ∷ 7 ∷ 3 ∷ 3 ∷ 0 ∷ [])
    (48 ∷ 32 ∷ 48 ∷ 32 ∷ 53 ∷ 32 ∷ 53 ∷ 10 ∷ 114 ∷ 101 ∷ 102 ∷ 117 ∷ 115 ∷ 101 ∷ 100 ∷ 32 ∷ 56 ∷ 10 ∷ [])
    ∷
    -- a count that overfills a backlog: refused 21
    listed
    (10 ∷ 4 ∷ 2 ∷ 1 ∷ 8 ∷ 1 ∷ 4 ∷ 1 ∷ 4 ∷ 1 ∷ 7 ∷ 128 ∷ 128 ∷ 4 ∷ 0 ∷ [])
    (114 ∷ 101 ∷ 102 ∷ 117 ∷ 115 ∷ 101 ∷ 100 ∷ 32 ∷ 50 ∷ 49 ∷ 10 ∷ [])
    ∷
    -- a long form in a later count outranks it: refused 9
    listed
    (10 ∷ 4 ∷ 2 ∷ 1 ∷ 8 ∷ 1 ∷ 4 ∷ 1 ∷ 4 ∷ 1 ∷ 7 ∷ 128 ∷ 128 ∷ 4 ∷ 131 ∷ 0 ∷ [])
    (114 ∷ 101 ∷ 102 ∷ 117 ∷ 115 ∷ 101 ∷ 100 ∷ 32 ∷ 57 ∷ 10 ∷ [])
    ∷
    -- so does an end: refused 8
    listed
    (10 ∷ 4 ∷ 2 ∷ 1 ∷ 8 ∷ 1 ∷ 4 ∷ 1 ∷ 4 ∷ 1 ∷ 7 ∷ 128 ∷ 128 ∷ 4 ∷ [])
    (114 ∷ 101 ∷ 102 ∷ 117 ∷ 115 ∷ 101 ∷ 100 ∷ 32 ∷ 56 ∷ 10 ∷ [])
    ∷
    []
