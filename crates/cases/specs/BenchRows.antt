-- The worked cases of clauses 16.1 to 16.13 as rows. Bytes are in decimal here. Where a clause leaves a number of a table open, one is put
-- there under which only the check in question can fail; at D = 0 no rate passes 3. What a row shows beyond its clause (credits and
-- backlogs at its end) was worked out by hand.
use Rattle.std.specs.Prelude.{true, List, [], ◌∷◌, ◌++◌, ℕ, pos, negsuc, replicate}
use Rattle.terms.specs.Table.{Table}
use Rattle.terms.specs.Refusals.{faultless, fault, refusal, refusal_at}
use Rattle.terms.specs.Answers.{accepted, granted, idle, refused}
use Rattle.terms.specs.Queries as queries
use Rattle.lead_parts.specs.Lead.{lead}
use Rattle.table_bytes.specs.Reading.{read, stop}
use Rattle.rule.specs.Calls.{Call, post, slot}
use Rattle.cases.specs.Rows.{row, table, all_zero, Row, reading_number, writing_number, reading, admission, calling, running, leading, querying_figures, figures, floor, after, standing, number, bytes, read_as, found, told, ran, led, told_figures, figured, floored}

-- clause 16.1: table T
unfoldable pub table_t : Table
table_t = table 4 2 (row 1 8 1 4 ∷ row 1 4 1 7 ∷ [])

-- clause 16.2: T with one slot less at place 1
unfoldable pub table_t_short : Table
table_t_short = table 4 2 (row 1 8 1 4 ∷ row 1 4 1 6 ∷ [])

-- clause 16.7: two places with these rates
unfoldable pub table_rates : ℕ → ℕ → Table
table_rates n m = table 4 2 (row n 4 1 1000 ∷ row m 4 1 1000 ∷ [])

-- clause 16.8: one place with this burst
unfoldable pub table_burst : ℕ → Table
table_burst b = table 4 1 (row 1 b 1 4 ∷ [])

-- clause 16.13: one place at this denominator
unfoldable pub table_denominator : ℕ → Table
table_denominator d = table d 1 (row 1 65536 1 65536 ∷ [])

-- clause 16.11: a probe with this L below a pump
unfoldable pub table_five : ℕ → Table
table_five within = table 5 2 (row 1 6 1 5 ∷ row 2 5 1 within ∷ [])

-- clause 16.12: the two rows
unfoldable pub table_late : Table
table_late = table 4 2 (row 1 40 1 4 ∷ row 1 4 1 18 ∷ [])

-- clause 16.3: the posts
unfoldable pub three_each : List Call
three_each = post 0 3 ∷ post 1 3 ∷ []

-- clause 16.3: the log of the nine slots
unfoldable pub log_nine : List ℕ
log_nine = 0 ∷ 0 ∷ 1 ∷ 0 ∷ 1 ∷ 255 ∷ 255 ∷ 1 ∷ 255 ∷ []

-- clause 16.12: its slots, and the late post among them
unfoldable pub late_calls : List Call
late_calls = replicate 11 slot ++ post 0 30 ∷ replicate 13 slot

-- clause 16.1: the bytes of T, the last of them this one
unfoldable pub bytes_t : ℕ → List ℕ
bytes_t last = 4 ∷ 2 ∷ 1 ∷ 8 ∷ 1 ∷ 4 ∷ 1 ∷ 4 ∷ 1 ∷ last ∷ []

-- clauses 16.1 to 16.13
unfoldable pub bench_rows : List Row
bench_rows =
    -- clause 16.1
    record { query = reading (bytes_t 7); written = read_as accepted table_t }
    -- clause 16.2
    ∷ record { query = reading (bytes_t 6); written = read_as (refused (refusal_at 7 1)) all_zero }
    -- the same as numbers, with B, R, wait and finish of place 1; and T itself
    ∷ record { query = admission table_t_short; written = found (fault (refusal_at 7 1)) }
    ∷ record { query = figures table_t_short 1 1; written = figured 8 3 3 7 }
    ∷ record { query = admission table_t; written = found faultless }
    -- clause 16.3, slot by slot
    ∷ record {
      query = calling table_t 0 (three_each ++ replicate 9 slot);
      written = told accepted
          (accepted ∷ accepted ∷ granted 0 0 ∷ granted 1 0 ∷ granted 2 1 ∷ granted 3 0 ∷ granted 4 1 ∷ idle 5 ∷ idle 6 ∷ granted 7 1 ∷ idle 8 ∷ [])
          (standing 9 (5 ∷ 1 ∷ []) (0 ∷ 0 ∷ []));
    }
    -- clause 16.3, as a run
    ∷ record {
      query = running (after table_t 0 three_each) (replicate 9 90);
      written = ran accepted log_nine (standing 9 (5 ∷ 1 ∷ []) (0 ∷ 0 ∷ []));
    }
    -- clause 16.5
    ∷ record { query = leading (after table_t 0 []) 0 log_nine; written = led (lead (pos 3)) }
    ∷ record { query = leading (after table_t 0 []) 1 log_nine; written = led (lead (pos 3)) }
    ∷ record { query = leading (after table_t 0 []) 1 (0 ∷ 0 ∷ []); written = led (lead (negsuc 1)) }
    -- clause 16.4
    ∷ record {
      query = calling table_t 0 (three_each ++ replicate 3 slot);
      written = told accepted (accepted ∷ accepted ∷ granted 0 0 ∷ granted 1 0 ∷ granted 2 1 ∷ []) (standing 3 (3 ∷ 3 ∷ []) (1 ∷ 2 ∷ []));
    }
    -- clause 16.6, both ways
    ∷ record { query = reading_number (172 ∷ 2 ∷ []); written = number (read 300 []) }
    ∷ record { query = writing_number 300; written = bytes (172 ∷ 2 ∷ []) }
    ∷ record { query = reading_number (132 ∷ 0 ∷ []); written = number (stop (refusal 9)) }
    ∷ record { query = reading_number (255 ∷ 255 ∷ 255 ∷ 255 ∷ 15 ∷ []); written = number (read 4294967295 []) }
    ∷ record { query = writing_number 4294967295; written = bytes (255 ∷ 255 ∷ 255 ∷ 255 ∷ 15 ∷ []) }
    ∷ record { query = reading_number (255 ∷ 255 ∷ 255 ∷ 255 ∷ 16 ∷ []); written = number (stop (refusal 9)) }
    -- clause 16.7
    ∷ record { query = admission (table_rates 3 2); written = found (fault (refusal 6)) }
    ∷ record { query = admission (table_rates 3 1); written = found faultless }
    -- clause 16.8
    ∷ record { query = admission (table_burst 3); written = found (fault (refusal_at 4 0)) }
    ∷ record { query = admission (table_burst 4); written = found faultless }
    -- clause 16.9
    ∷ record {
      query = calling table_t 0 (post 0 65535 ∷ post 0 0 ∷ post 0 1 ∷ []);
      written = told accepted (accepted ∷ accepted ∷ refused (refusal 21) ∷ []) (standing 0 (8 ∷ 4 ∷ []) (65535 ∷ 0 ∷ []));
    }
    -- clause 16.10
    ∷ record {
      query = calling table_t 4611686018427387903 (slot ∷ slot ∷ []);
      written = told accepted (idle 4611686018427387903 ∷ refused (refusal 22) ∷ []) (standing 4611686018427387904 (8 ∷ 4 ∷ []) (0 ∷ 0 ∷ []));
    }
    -- clause 16.11: the figures; what passes and what is refused 7 stands in RequestRows
    ∷ record { query = figures (table_five 5) 1 1; written = figured 6 4 2 4 }
    -- clause 16.11, asked of a state
    ∷ record { query = querying_figures (after (table_five 5) 0 []) 1 1; written = told_figures (queries.figured 2 4) }
    -- clause 16.12: three slots of place 1
    ∷ record {
      query = calling table_late 0 (post 1 24 ∷ late_calls);
      written = told accepted
          (accepted
          ∷ granted 0 1 ∷ idle 1 ∷ idle 2 ∷ granted 3 1 ∷ idle 4 ∷ idle 5 ∷ idle 6 ∷ granted 7 1 ∷ idle 8 ∷ idle 9 ∷ idle 10 ∷ accepted
          ∷ granted 11 0 ∷ granted 12 0 ∷ granted 13 0 ∷ granted 14 0 ∷ granted 15 0 ∷ granted 16 0 ∷ granted 17 0 ∷ granted 18 0
          ∷ granted 19 0 ∷ granted 20 0 ∷ granted 21 0 ∷ granted 22 0 ∷ granted 23 0 ∷ [])
          (standing 24 (1 ∷ 16 ∷ []) (17 ∷ 21 ∷ []));
    }
    -- clause 16.12: its figures, and its floor (clause 10.3), which applies: place 1 enters with D for its credit and waits throughout
    ∷ record { query = figures table_late 1 1; written = figured 40 3 14 18 }
    ∷ record { query = floor table_late (post 1 24 ∷ []) late_calls 1; written = floored 4 true 36 32 }
    -- clause 16.13
    ∷ record { query = admission (table_denominator 65535); written = found faultless }
    ∷ record { query = admission (table_denominator 0); written = found (fault (refusal 1)) }
    ∷ record { query = admission (table_denominator 65536); written = found (fault (refusal 1)) }
    -- clause 16.13: no bytes
    ∷ record { query = reading []; written = read_as (refused (refusal 8)) all_zero }
    ∷ []
