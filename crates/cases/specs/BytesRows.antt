-- Edges of numbers as bytes (clauses 3.1 and 3.2), and of a table's reading and writing (clauses 3.3, 3.5, 13.2 and 13.4), worked out by
-- hand. Bytes are in decimal, and in the comments in hexadecimal.
use Rattle.std.specs.Prelude.{List, [], ◌∷◌, ◌++◌, ℕ, suc, ◌+◌, ◌-◌, ◌*◌, replicate}
use Rattle.lists.specs.Sums.{joined}
use Rattle.groups.specs.Groups.{Number, Ended, Malformed}
use Rattle.terms.specs.declared.refusals.Refusal.{Refusal}
use Rattle.terms.specs.Table.{Table}
use Rattle.terms.specs.Limits.{max_places}
use Rattle.terms.specs.Refusals.{refusal, refusal_at}
use Rattle.terms.specs.Answers.{accepted, refused}
use Rattle.table_bytes.specs.Reading.{read, stop}
use Rattle.table_bytes.specs.Writing.{wrote}
use Rattle.table_bytes.specs.Writing as write
use Rattle.cases.specs.Rows.{row, table, fields, all_zero, Row, Reply, reading_number, writing_number, putting_number, taking_number, lending_number, reading, writing, number, bytes, put_as, taken_as, lent_as, read_as, written_as}
use Rattle.cases.specs.BenchRows.{table_t, table_t_short, bytes_t}

-- one place with every number at its largest, and its bytes: FF FF 03, 01, then FF FF 03, 80 80 80 08, FF 01, 80 80 80 80 04
unfoldable pub table_long : Table
table_long = table 65535 1 (row 65535 16777216 255 1073741824 ∷ [])

unfoldable pub bytes_long : List ℕ
bytes_long = 255 ∷ 255 ∷ 3 ∷ 1 ∷ 255 ∷ 255 ∷ 3 ∷ 128 ∷ 128 ∷ 128 ∷ 8 ∷ 255 ∷ 1 ∷ 128 ∷ 128 ∷ 128 ∷ 128 ∷ 4 ∷ []

-- as many places as there can be, all alike, and the bytes of so many of them: D = 100, then N, then 01 64 01 90 4E for each
unfoldable pub table_full : Table
table_full = table 100 max_places (replicate max_places (row 1 100 1 10000))

unfoldable pub bytes_places : ℕ → List ℕ
bytes_places places = joined (λ place. place) (replicate places (1 ∷ 100 ∷ 1 ∷ 144 ∷ 78 ∷ []))

-- T with this row behind it, past place N−1
unfoldable pub table_past : Table
table_past = table 4 2 (row 1 8 1 4 ∷ row 1 4 1 7 ∷ row 0 0 0 1 ∷ [])

-- T with an L at place 1 that no 32 bits hold
unfoldable pub table_wide : Table
table_wide = table 4 2 (row 1 8 1 4 ∷ row 1 4 1 4294967303 ∷ [])

-- so many bytes that nobody wrote
unfoldable pub old : ℕ → List ℕ
old k = replicate k 90

-- so many bytes AA, as a buffer's are before a call
unfoldable pub marked : ℕ → List ℕ
marked k = replicate k 170

-- T with these numbers for the rates of its places, or for their bursts, their j or their L
unfoldable pub rates_t : List ℕ → Table
rates_t ns = fields 4 2 ns (8 ∷ 4 ∷ []) (1 ∷ 1 ∷ []) (4 ∷ 7 ∷ [])

unfoldable pub bursts_t : List ℕ → Table
bursts_t bs = fields 4 2 (1 ∷ 1 ∷ []) bs (1 ∷ 1 ∷ []) (4 ∷ 7 ∷ [])

unfoldable pub needs_t : List ℕ → Table
needs_t js = fields 4 2 (1 ∷ 1 ∷ []) (8 ∷ 4 ∷ []) js (4 ∷ 7 ∷ [])

unfoldable pub withins_t : List ℕ → Table
withins_t ls = fields 4 2 (1 ∷ 1 ∷ []) (8 ∷ 4 ∷ []) (1 ∷ 1 ∷ []) ls

-- one place with these n, b, j and L at this D
unfoldable pub single : (d n b j L : ℕ) → Table
single d n b j L = table d 1 (row n b j L ∷ [])

-- a refused writing keeps every byte of the lent buffer
unfoldable pub unwritten : Table → Refusal → Row
unwritten t r = record { query = writing t (marked 3); written = written_as (write.refused r) (marked 3) }

-- a refused reading hands back a table whose every field is 0
unfoldable pub unread : Refusal → Reply
unread r = read_as (refused r) all_zero

-- clauses 3.1 and 3.2, and of a number's writing 3.5
unfoldable pub number_rows : List Row
number_rows =
    -- refused 8: no byte; 80; four bytes that each say that another follows
    record { query = reading_number []; written = number (stop (refusal 8)) }
    ∷ record { query = reading_number (128 ∷ []); written = number (stop (refusal 8)) }
    ∷ record { query = reading_number (128 ∷ 128 ∷ 128 ∷ 128 ∷ []); written = number (stop (refusal 8)) }
    -- refused 9: a fifth byte that says that another follows, also where none does; 80 80 80 80 80 and 80 80 80 80 80 01
    ∷ record { query = reading_number (128 ∷ 128 ∷ 128 ∷ 128 ∷ 128 ∷ []); written = number (stop (refusal 9)) }
    ∷ record { query = reading_number (128 ∷ 128 ∷ 128 ∷ 128 ∷ 128 ∷ 1 ∷ []); written = number (stop (refusal 9)) }
    -- 00 is the number 0; 80 00 and 80 80 80 80 00 are refused 9, not being in shortest form
    ∷ record { query = reading_number (0 ∷ []); written = number (read 0 []) }
    ∷ record { query = writing_number 0; written = bytes (0 ∷ []) }
    ∷ record { query = reading_number (128 ∷ 0 ∷ []); written = number (stop (refusal 9)) }
    ∷ record { query = reading_number (128 ∷ 128 ∷ 128 ∷ 128 ∷ 0 ∷ []); written = number (stop (refusal 9)) }
    -- the last number of one, two, three and four bytes and the first of two, three, four and five; what follows is left
    ∷ record { query = reading_number (127 ∷ 9 ∷ []); written = number (read 127 (9 ∷ [])) }
    ∷ record { query = reading_number (128 ∷ 1 ∷ 132 ∷ 0 ∷ []); written = number (read 128 (132 ∷ 0 ∷ [])) }
    ∷ record { query = reading_number (255 ∷ 127 ∷ []); written = number (read 16383 []) }
    ∷ record { query = reading_number (128 ∷ 128 ∷ 1 ∷ []); written = number (read 16384 []) }
    ∷ record { query = reading_number (255 ∷ 255 ∷ 127 ∷ []); written = number (read 2097151 []) }
    ∷ record { query = reading_number (128 ∷ 128 ∷ 128 ∷ 1 ∷ []); written = number (read 2097152 []) }
    ∷ record { query = reading_number (255 ∷ 255 ∷ 255 ∷ 127 ∷ []); written = number (read 268435455 []) }
    ∷ record { query = reading_number (128 ∷ 128 ∷ 128 ∷ 128 ∷ 1 ∷ 255 ∷ []); written = number (read 268435456 (255 ∷ [])) }
    ∷ record { query = writing_number 127; written = bytes (127 ∷ []) }
    ∷ record { query = writing_number 128; written = bytes (128 ∷ 1 ∷ []) }
    ∷ record { query = writing_number 16384; written = bytes (128 ∷ 128 ∷ 1 ∷ []) }
    ∷ record { query = writing_number 2097151; written = bytes (255 ∷ 255 ∷ 127 ∷ []) }
    ∷ record { query = writing_number 268435456; written = bytes (128 ∷ 128 ∷ 128 ∷ 128 ∷ 1 ∷ []) }
    -- a fifth byte of 7F makes the number too large: refused 9
    ∷ record { query = reading_number (255 ∷ 255 ∷ 255 ∷ 255 ∷ 127 ∷ []); written = number (stop (refusal 9)) }
    -- into a buffer: the bytes beyond are left; an exact fit; where they do not fit, 0 and nothing is written
    ∷ record { query = putting_number 300 (old 4); written = put_as (record { wrote = 2; buffer = 172 ∷ 2 ∷ 90 ∷ 90 ∷ [] }) }
    ∷ record { query = putting_number 300 (old 2); written = put_as (record { wrote = 2; buffer = 172 ∷ 2 ∷ [] }) }
    ∷ record { query = putting_number 300 (old 1); written = put_as (record { wrote = 0; buffer = 90 ∷ [] }) }
    ∷ record { query = putting_number 0 []; written = put_as (record { wrote = 0; buffer = [] }) }
    ∷ []

-- what stands at the start of some bytes: a number and how many bytes it takes, bytes that end too soon, or no number
unfoldable pub take_rows : List Row
take_rows =
    -- no byte, and bytes that each say that another follows: 80; 80 80; 80 80 80 80; FF FF FF FF
    record { query = taking_number []; written = taken_as Ended }
    ∷ record { query = taking_number (128 ∷ []); written = taken_as Ended }
    ∷ record { query = taking_number (128 ∷ 128 ∷ []); written = taken_as Ended }
    ∷ record { query = taking_number (128 ∷ 128 ∷ 128 ∷ 128 ∷ []); written = taken_as Ended }
    ∷ record { query = taking_number (255 ∷ 255 ∷ 255 ∷ 255 ∷ []); written = taken_as Ended }
    -- one byte: 00 and 7F
    ∷ record { query = taking_number (0 ∷ []); written = taken_as (Number 0 1) }
    ∷ record { query = taking_number (127 ∷ []); written = taken_as (Number 127 1) }
    -- two bytes: 80 01, FF 7F and AC 02, which is the same with 07 behind it
    ∷ record { query = taking_number (128 ∷ 1 ∷ []); written = taken_as (Number 128 2) }
    ∷ record { query = taking_number (255 ∷ 127 ∷ []); written = taken_as (Number 16383 2) }
    ∷ record { query = taking_number (172 ∷ 2 ∷ []); written = taken_as (Number 300 2) }
    ∷ record { query = taking_number (172 ∷ 2 ∷ 7 ∷ []); written = taken_as (Number 300 2) }
    -- three, four and five bytes: 80 80 01, FF FF FF 7F, 80 80 80 80 01 and FF FF FF FF 0F
    ∷ record { query = taking_number (128 ∷ 128 ∷ 1 ∷ []); written = taken_as (Number 16384 3) }
    ∷ record { query = taking_number (255 ∷ 255 ∷ 255 ∷ 127 ∷ []); written = taken_as (Number 268435455 4) }
    ∷ record { query = taking_number (128 ∷ 128 ∷ 128 ∷ 128 ∷ 1 ∷ []); written = taken_as (Number 268435456 5) }
    ∷ record { query = taking_number (255 ∷ 255 ∷ 255 ∷ 255 ∷ 15 ∷ []); written = taken_as (Number 4294967295 5) }
    -- a last byte that adds nothing: 80 00, 84 00, 80 80 00, 80 80 80 80 00
    ∷ record { query = taking_number (128 ∷ 0 ∷ []); written = taken_as Malformed }
    ∷ record { query = taking_number (132 ∷ 0 ∷ []); written = taken_as Malformed }
    ∷ record { query = taking_number (128 ∷ 128 ∷ 0 ∷ []); written = taken_as Malformed }
    ∷ record { query = taking_number (128 ∷ 128 ∷ 128 ∷ 128 ∷ 0 ∷ []); written = taken_as Malformed }
    -- a fifth byte that makes the number too large, 80 80 80 80 10, FF FF FF FF 10; and one that says that another follows:
    -- FF FF FF FF 8F 00 and 80 80 80 80 80
    ∷ record { query = taking_number (128 ∷ 128 ∷ 128 ∷ 128 ∷ 16 ∷ []); written = taken_as Malformed }
    ∷ record { query = taking_number (255 ∷ 255 ∷ 255 ∷ 255 ∷ 16 ∷ []); written = taken_as Malformed }
    ∷ record { query = taking_number (255 ∷ 255 ∷ 255 ∷ 255 ∷ 143 ∷ 0 ∷ []); written = taken_as Malformed }
    ∷ record { query = taking_number (128 ∷ 128 ∷ 128 ∷ 128 ∷ 128 ∷ []); written = taken_as Malformed }
    ∷ []

-- of six bytes the first so many are lent: a number is written where its bytes fit into those, and the rest is left; where they do not
-- fit, 0 is answered and every byte is left
unfoldable pub lend_rows : List Row
lend_rows =
    -- one byte: 0, 127 (7F)
    record { query = lending_number 0 0 (marked 6); written = lent_as 1 0 (marked 6) }
    ∷ record { query = lending_number 0 1 (marked 6); written = lent_as 1 1 (0 ∷ marked 5) }
    ∷ record { query = lending_number 127 1 (marked 6); written = lent_as 1 1 (127 ∷ marked 5) }
    -- two bytes: 128 (80 01), 300 (AC 02), 16,383 (FF 7F)
    ∷ record { query = lending_number 128 1 (marked 6); written = lent_as 2 0 (marked 6) }
    ∷ record { query = lending_number 128 2 (marked 6); written = lent_as 2 2 (128 ∷ 1 ∷ marked 4) }
    ∷ record { query = lending_number 300 6 (marked 6); written = lent_as 2 2 (172 ∷ 2 ∷ marked 4) }
    ∷ record { query = lending_number 16383 2 (marked 6); written = lent_as 2 2 (255 ∷ 127 ∷ marked 4) }
    -- three and four bytes: 16,384 (80 80 01), 268,435,455 (FF FF FF 7F)
    ∷ record { query = lending_number 16384 2 (marked 6); written = lent_as 3 0 (marked 6) }
    ∷ record { query = lending_number 16384 3 (marked 6); written = lent_as 3 3 (128 ∷ 128 ∷ 1 ∷ marked 3) }
    ∷ record { query = lending_number 268435455 3 (marked 6); written = lent_as 4 0 (marked 6) }
    ∷ record { query = lending_number 268435455 4 (marked 6); written = lent_as 4 4 (255 ∷ 255 ∷ 255 ∷ 127 ∷ marked 2) }
    -- five bytes: 268,435,456 (80 80 80 80 01), 4,294,967,295 (FF FF FF FF 0F)
    ∷ record { query = lending_number 268435456 4 (marked 6); written = lent_as 5 0 (marked 6) }
    ∷ record { query = lending_number 268435456 5 (marked 6); written = lent_as 5 5 (128 ∷ 128 ∷ 128 ∷ 128 ∷ 1 ∷ marked 1) }
    ∷ record { query = lending_number 4294967295 4 (marked 6); written = lent_as 5 0 (marked 6) }
    ∷ record { query = lending_number 4294967295 5 (marked 6); written = lent_as 5 5 (255 ∷ 255 ∷ 255 ∷ 255 ∷ 15 ∷ marked 1) }
    ∷ record { query = lending_number 4294967295 6 (marked 6); written = lent_as 5 5 (255 ∷ 255 ∷ 255 ∷ 255 ∷ 15 ∷ marked 1) }
    ∷ []

-- clauses 3.3 and 13.2
unfoldable pub read_rows : List Row
read_rows =
    record { query = reading bytes_long; written = read_as accepted table_long }
    -- the largest N, which is one byte (clause 16.16); one byte fewer; the last of its places refused 3
    ∷ record { query = reading (100 ∷ max_places ∷ bytes_places max_places); written = read_as accepted table_full }
    ∷ record { query = reading (100 ∷ max_places ∷ bytes_places (max_places - 1) ++ 1 ∷ 100 ∷ 1 ∷ 144 ∷ []); written = unread (refusal 8) }
    ∷ record { query = reading (100 ∷ max_places ∷ bytes_places (max_places - 1) ++ 0 ∷ []); written = unread (refusal_at 3 (max_places - 1)) }
    -- D: 0 alone and 65,536 (80 80 04) are refused 1; 80 00 and FF FF FF FF 10 are refused 9, ahead of their own check
    ∷ record { query = reading (0 ∷ []); written = unread (refusal 1) }
    ∷ record { query = reading (128 ∷ 128 ∷ 4 ∷ []); written = unread (refusal 1) }
    ∷ record { query = reading (128 ∷ 0 ∷ []); written = unread (refusal 9) }
    ∷ record { query = reading (255 ∷ 255 ∷ 255 ∷ 255 ∷ 16 ∷ []); written = unread (refusal 9) }
    -- N: bytes that end before it or inside it are refused 8; 0, one more than the largest and 4,294,967,295 are refused 2
    ∷ record { query = reading (4 ∷ []); written = unread (refusal 8) }
    ∷ record { query = reading (4 ∷ 130 ∷ []); written = unread (refusal 8) }
    ∷ record { query = reading (4 ∷ 0 ∷ []); written = unread (refusal 2) }
    ∷ record { query = reading (4 ∷ suc max_places ∷ []); written = unread (refusal 2) }
    ∷ record { query = reading (4 ∷ 255 ∷ 255 ∷ 255 ∷ 255 ∷ 15 ∷ []); written = unread (refusal 2) }
    -- n, b, j and L below and above their limits, each ahead of what is wrong behind it
    ∷ record { query = reading (4 ∷ 1 ∷ 0 ∷ []); written = unread (refusal_at 3 0) }
    ∷ record { query = reading (4 ∷ 1 ∷ 5 ∷ 132 ∷ 0 ∷ []); written = unread (refusal_at 3 0) }
    ∷ record { query = reading (4 ∷ 1 ∷ 1 ∷ 3 ∷ 128 ∷ []); written = unread (refusal_at 4 0) }
    ∷ record { query = reading (4 ∷ 1 ∷ 1 ∷ 129 ∷ 128 ∷ 128 ∷ 8 ∷ []); written = unread (refusal_at 4 0) }
    ∷ record { query = reading (4 ∷ 1 ∷ 1 ∷ 4 ∷ 0 ∷ []); written = unread (refusal_at 5 0) }
    ∷ record { query = reading (4 ∷ 1 ∷ 1 ∷ 4 ∷ 128 ∷ 2 ∷ []); written = unread (refusal_at 5 0) }
    ∷ record { query = reading (4 ∷ 1 ∷ 1 ∷ 4 ∷ 1 ∷ 0 ∷ 9 ∷ []); written = unread (refusal_at 5 0) }
    ∷ record { query = reading (4 ∷ 1 ∷ 1 ∷ 4 ∷ 1 ∷ 129 ∷ 128 ∷ 128 ∷ 128 ∷ 4 ∷ []); written = unread (refusal_at 5 0) }
    ∷ record { query = reading (4 ∷ 1 ∷ 1 ∷ 4 ∷ 1 ∷ 255 ∷ 255 ∷ 255 ∷ 255 ∷ 15 ∷ []); written = unread (refusal_at 5 0) }
    -- the same at place 1
    ∷ record { query = reading (4 ∷ 2 ∷ 1 ∷ 8 ∷ 1 ∷ 4 ∷ 5 ∷ []); written = unread (refusal_at 3 1) }
    ∷ record { query = reading (4 ∷ 2 ∷ 1 ∷ 8 ∷ 1 ∷ 4 ∷ 1 ∷ 3 ∷ []); written = unread (refusal_at 4 1) }
    ∷ record { query = reading (bytes_t 0 ++ 9 ∷ []); written = unread (refusal_at 5 1) }
    -- bytes that end before a number of a place or before the second place are refused 8; a bad form inside a place is refused 9
    ∷ record { query = reading (4 ∷ 1 ∷ 1 ∷ 4 ∷ 1 ∷ []); written = unread (refusal 8) }
    ∷ record { query = reading (4 ∷ 2 ∷ 1 ∷ 8 ∷ 1 ∷ 4 ∷ []); written = unread (refusal 8) }
    ∷ record { query = reading (4 ∷ 1 ∷ 1 ∷ 132 ∷ 0 ∷ 1 ∷ 4 ∷ []); written = unread (refusal 9) }
    -- one byte more than T's is refused 10; 10 is ahead of 7 and of 6, and 6 ahead of 7; of two places that fail 7 the lower is named
    ∷ record { query = reading (bytes_t 7 ++ 0 ∷ []); written = unread (refusal 10) }
    ∷ record { query = reading (bytes_t 6 ++ 0 ∷ []); written = unread (refusal 10) }
    ∷ record { query = reading (4 ∷ 2 ∷ 3 ∷ 8 ∷ 1 ∷ 1 ∷ 3 ∷ 4 ∷ 1 ∷ 7 ∷ 0 ∷ []); written = unread (refusal 10) }
    ∷ record { query = reading (4 ∷ 2 ∷ 3 ∷ 8 ∷ 1 ∷ 1 ∷ 3 ∷ 4 ∷ 1 ∷ 7 ∷ []); written = unread (refusal 6) }
    ∷ record { query = reading (4 ∷ 2 ∷ 1 ∷ 8 ∷ 1 ∷ 3 ∷ 1 ∷ 4 ∷ 1 ∷ 6 ∷ []); written = unread (refusal_at 7 0) }
    ∷ []

-- clauses 3.5 and 13.4
unfoldable pub write_rows : List Row
write_rows =
    -- the bytes beyond T's ten are left as they were; ten bytes are enough; nine and none are not, and none is written
    record { query = writing table_t (old 12); written = written_as (wrote 10) (bytes_t 7 ++ 90 ∷ 90 ∷ []) }
    ∷ record { query = writing table_t (old 10); written = written_as (wrote 10) (bytes_t 7) }
    ∷ record { query = writing table_t (old 9); written = written_as (write.refused (refusal 14)) (old 9) }
    ∷ record { query = writing table_t []; written = written_as (write.refused (refusal 14)) [] }
    -- numbers of several bytes: eighteen bytes are enough, and seventeen are not
    ∷ record { query = writing table_long (old 20); written = written_as (wrote 18) (bytes_long ++ 90 ∷ 90 ∷ []) }
    ∷ record { query = writing table_long (old 17); written = written_as (write.refused (refusal 14)) (old 17) }
    -- the largest N
    ∷ record { query = writing table_full (old (3 + 5 * max_places)); written = written_as (wrote (2 + 5 * max_places)) (100 ∷ max_places ∷ bytes_places max_places ++ 90 ∷ []) }
    -- a table that admission refuses: no byte is written, be there room or not, and its number is ahead of 14
    ∷ record { query = writing table_t_short (old 12); written = written_as (write.refused (refusal_at 7 1)) (old 12) }
    ∷ record { query = writing table_t_short (old 2); written = written_as (write.refused (refusal_at 7 1)) (old 2) }
    ∷ record { query = writing table_past (old 12); written = written_as (write.refused (refusal 2)) (old 12) }
    ∷ record { query = writing table_wide (old 12); written = written_as (write.refused (refusal_at 5 1)) (old 12) }
    ∷ record { query = writing (table 4 2 []) []; written = written_as (write.refused (refusal_at 3 0)) [] }
    ∷ []

-- Tables that fail 1 to 6 are not written, and the lent buffer is what it was. Here each number stands below its limits, then above them.
unfoldable pub refused_write_rows : List Row
refused_write_rows =
    -- D = 0 and 65,536; N = 0 and one more than the largest
    unwritten (single 0 1 65536 1 1000000) (refusal 1)
    ∷ unwritten (single 65536 1 65536 1 1000000) (refusal 1)
    ∷ unwritten (table max_places 0 []) (refusal 2)
    ∷ unwritten (table max_places (suc max_places) (replicate max_places (row 1 max_places 1 (max_places * max_places)))) (refusal 2)
    -- n = 0 and above D; b below D and above its limit; j, then L, below and above their limits
    ∷ unwritten (single 4 0 64 1 1000000) (refusal_at 3 0)
    ∷ unwritten (single 4 5 64 1 1000000) (refusal_at 3 0)
    ∷ unwritten (single 4 1 3 1 1000000) (refusal_at 4 0)
    ∷ unwritten (single 4 1 16777217 1 1000000) (refusal_at 4 0)
    ∷ unwritten (single 4 1 64 0 1000000) (refusal_at 5 0)
    ∷ unwritten (single 4 1 64 256 1000000) (refusal_at 5 0)
    ∷ unwritten (single 1 1 64 1 0) (refusal_at 5 0)
    ∷ unwritten (single 1 1 64 1 1073741825) (refusal_at 5 0)
    ∷ []

-- T with one number changed
unfoldable pub changed_write_rows : List Row
changed_write_rows =
    -- a number behind the last place: each of the four at place 2, and an L at the last row of the array
    unwritten (rates_t (1 ∷ 1 ∷ 1 ∷ [])) (refusal 2)
    ∷ unwritten (bursts_t (8 ∷ 4 ∷ 1 ∷ [])) (refusal 2)
    ∷ unwritten (needs_t (1 ∷ 1 ∷ 1 ∷ [])) (refusal 2)
    ∷ unwritten (withins_t (4 ∷ 7 ∷ 1 ∷ [])) (refusal 2)
    ∷ unwritten (withins_t (4 ∷ 7 ∷ replicate (max_places - 3) 0 ++ 1 ∷ [])) (refusal 2)
    -- each of the four at place 1, and an L there that 32 bits cannot hold, whose low 32 bits are 1
    ∷ unwritten (rates_t (1 ∷ 0 ∷ [])) (refusal_at 3 1)
    ∷ unwritten (bursts_t (8 ∷ 3 ∷ [])) (refusal_at 4 1)
    ∷ unwritten (needs_t (1 ∷ 0 ∷ [])) (refusal_at 5 1)
    ∷ unwritten (withins_t (4 ∷ 0 ∷ [])) (refusal_at 5 1)
    ∷ unwritten (withins_t (4 ∷ 4294967297 ∷ [])) (refusal_at 5 1)
    ∷ []

-- the rates' sum, and which of two faults is named
unfoldable pub ordered_write_rows : List Row
ordered_write_rows =
    -- rates 3 and 2 at D = 4
    unwritten (fields 4 2 (3 ∷ 2 ∷ []) (4 ∷ 4 ∷ []) (1 ∷ 1 ∷ []) (1000 ∷ 1000 ∷ [])) (refusal 6)
    -- 1 ahead of 2; 2 ahead of 3, for an N above the largest, also one whose low 32 bits are 2, and for a field past place N−1
    ∷ unwritten (table 0 0 []) (refusal 1)
    ∷ unwritten (table 4 (suc max_places) []) (refusal 2)
    ∷ unwritten (table 4 4294967298 []) (refusal 2)
    ∷ unwritten (fields 4 1 (0 ∷ []) (4 ∷ []) (1 ∷ []) (4 ∷ 1 ∷ [])) (refusal 2)
    -- 3 ahead of 4 and 5, in a place whose every field is 0; 4 ahead of 5
    ∷ unwritten (table 4 1 []) (refusal_at 3 0)
    ∷ unwritten (fields 4 2 (1 ∷ 1 ∷ []) (3 ∷ 4 ∷ []) (0 ∷ 1 ∷ []) (4 ∷ 7 ∷ [])) (refusal_at 4 0)
    -- 5 at place 0 ahead of 3 at place 1; 5 at place 1 ahead of 6; 6 ahead of 7 at place 0
    ∷ unwritten (fields 4 2 (1 ∷ 0 ∷ []) (4 ∷ 4 ∷ []) (1 ∷ 1 ∷ []) (0 ∷ 7 ∷ [])) (refusal_at 5 0)
    ∷ unwritten (fields 4 2 (3 ∷ 2 ∷ []) (4 ∷ 4 ∷ []) (1 ∷ 0 ∷ []) (2 ∷ 8 ∷ [])) (refusal_at 5 1)
    ∷ unwritten (fields 4 2 (3 ∷ 2 ∷ []) (4 ∷ 4 ∷ []) (1 ∷ 1 ∷ []) (1 ∷ 8 ∷ [])) (refusal 6)
    -- where no byte is lent: 1 ahead of 14
    ∷ record { query = writing (table 0 1 []) []; written = written_as (write.refused (refusal 1)) [] }
    ∷ []
