-- The finish figure of request 1 (clauses 7.3, 7.5 and 16.11) and the orders of request 2 (clauses 8.1 to 8.3, 13.5, 13.6 and 16.14),
-- with edges of each, worked out by hand.
use Rattle.std.specs.Prelude.{List, [], ◌∷◌, ◌++◌, ℕ, suc, ◌-◌, length, replicate}
use Rattle.terms.specs.Limits.{max_places}
use Rattle.terms.specs.Table.{Table}
use Rattle.terms.specs.declared.place.Requestor.{Requestor}
use Rattle.terms.specs.Refusals.{faultless, fault, refusal, refusal_at}
use Rattle.terms.specs.Answers.{accepted, refused}
use Rattle.terms.specs.Queries as queries
use Rattle.table_bytes.specs.Writing as writing
use Rattle.cases.specs.Rows.{row, table, all_zero, Row, reading, admission, former_admission, querying_figures, both_finishes, ordering, ordering_bytes, after, read_as, written_as, found, told_figures, finished, ordered_as, rows_of}
use Rattle.cases.specs.BenchRows.{table_t, table_t_short, table_five}

-- clause 16.11's table with a rate of 3, this burst and a need of two transfers at place 1
unfoldable pub table_thirds : (burst within : ℕ) → Table
table_thirds burst within = table 5 2 (row 1 6 1 5 ∷ row 3 burst 2 within ∷ [])

-- T with a rate of 3 at place 1
unfoldable pub table_faster : Table
table_faster = table 4 2 (row 1 8 1 4 ∷ row 3 4 1 4 ∷ [])

-- two places above place 2, with a burst of 36 together and 3 of 10 for their rates
unfoldable pub table_tens : Table
table_tens = table 10 3 (row 1 10 1 10 ∷ row 2 26 1 7 ∷ row 4 10 1 8 ∷ [])

-- the largest D, burst and j, so that the sum is above 32 bits before it is divided; and this burst at place 1
unfoldable pub table_high : (burst : ℕ) → Table
table_high burst = table 65535 2 (row 1 16777216 1 65535 ∷ row 65534 burst 255 512 ∷ [])

-- clauses 7.3 and 7.5
unfoldable pub finish_rows : List Row
finish_rows =
    -- clause 16.11: with L=4, its figure, it passes, and was turned away before request 1; with L=3 it does not
    record { query = admission (table_five 4); written = found faultless }
    ∷ record { query = former_admission (table_five 4); written = found (fault (refusal_at 7 1)) }
    ∷ record { query = admission (table_five 3); written = found (fault (refusal_at 7 1)) }
    ∷ record { query = reading (5 ∷ 2 ∷ 1 ∷ 6 ∷ 1 ∷ 5 ∷ 2 ∷ 5 ∷ 1 ∷ 4 ∷ []); written = read_as accepted (table_five 4) }
    ∷ record { query = reading (5 ∷ 2 ∷ 1 ∷ 6 ∷ 1 ∷ 5 ∷ 2 ∷ 5 ∷ 1 ∷ 3 ∷ []); written = read_as (refused (refusal_at 7 1)) all_zero }
    -- its figure was 2 + 3 = 5; for three transfers it is 6/4 + 15/2 = 9 and was 2 + 8 = 10; for two it is 6/4 + 10/2, so 7, as it was
    ∷ record { query = both_finishes (table_five 4) 1 1; written = finished 4 5 }
    ∷ record { query = both_finishes (table_five 4) 1 2; written = finished 7 7 }
    ∷ record { query = both_finishes (table_five 4) 1 3; written = finished 9 10 }
    ∷ record { query = querying_figures (after (table_five 4) 0 []) 1 3; written = told_figures (queries.figured 2 9) }
    -- here two transfers differ, and one and three do not: 6/4 + 10/3 is 29/6, so 5, and was 2 + 4 = 6
    ∷ record { query = both_finishes (table_thirds 5 5) 1 1; written = finished 4 4 }
    ∷ record { query = both_finishes (table_thirds 5 5) 1 2; written = finished 5 6 }
    ∷ record { query = both_finishes (table_thirds 5 5) 1 3; written = finished 7 7 }
    ∷ record { query = admission (table_thirds 10 5); written = found faultless }
    ∷ record { query = admission (table_thirds 10 4); written = found (fault (refusal_at 7 1)) }
    -- by request 6 two transfers do not fit a burst of one, whatever their L
    ∷ record { query = admission (table_thirds 5 5); written = found (fault (refusal_at 17 1)) }
    ∷ record { query = admission (table_thirds 5 4); written = found (fault (refusal_at 17 1)) }
    -- thirds of slots: 8/3 + 4/3 = 4, and was 3 + 2 = 5
    ∷ record { query = both_finishes table_faster 1 1; written = finished 4 5 }
    -- two places above: 36/7 + 10/4 is 107/14, so 8, and was 6 + 3 = 9
    ∷ record { query = both_finishes table_tens 2 1; written = finished 8 9 }
    ∷ record { query = admission table_tens; written = found faultless }
    -- 16,777,216/65,534 + 255 × 65,535/65,534 is 511 and a little, so 512, and was 257 + 256 = 513
    ∷ record { query = both_finishes (table_high 65535) 1 255; written = finished 512 513 }
    ∷ record { query = admission (table_high 16711425); written = found faultless }
    ∷ record { query = admission (table_high 65535); written = found (fault (refusal_at 17 1)) }
    -- in T they agree: there is no wait at place 0, and the rates divide D; T was accepted too, and refused 7 with place 1's L = 6
    ∷ record { query = both_finishes table_t 0 1; written = finished 4 4 }
    ∷ record { query = both_finishes table_t 1 1; written = finished 7 7 }
    ∷ record { query = both_finishes table_t 1 255; written = finished 1023 1023 }
    ∷ record { query = former_admission table_t; written = found faultless }
    ∷ record { query = former_admission table_t_short; written = found (fault (refusal_at 7 1)) }
    ∷ []

-- clause 16.14: three alike but for their L, of which the figures at places 0, 1 and 2 are 4, 6 and 8
unfoldable pub table_three : (first second third : ℕ) → Table
table_three first second third = table 4 3 (row 1 4 1 first ∷ row 1 4 1 second ∷ row 1 4 1 third ∷ [])

-- a pump, two probes, a handset and a service log: the example basin in README's order, and as a fitter might list them
unfoldable pub table_basin : Table
table_basin = table 20 5 (row 4 40 2 10 ∷ row 2 20 1 15 ∷ row 2 20 1 15 ∷ row 4 60 3 25 ∷ row 8 160 8 50 ∷ [])

unfoldable pub table_guessed : Table
table_guessed = table 20 5 (row 8 160 8 50 ∷ row 4 60 3 25 ∷ row 2 20 1 15 ∷ row 2 20 1 15 ∷ row 4 40 2 10 ∷ [])

-- as many as there are L, alike but for these: each has its share of the line, and a burst of one transfer
unfoldable pub table_alike : (withins : List ℕ) → Table
table_alike withins = let n = length withins in table n n (rows_of n (replicate n 1) (replicate n n) (replicate n 1) withins)

-- to each its figure at its place: of N places N, and then rounded up N + N × p / (N − p)
unfoldable pub withins_rising : List ℕ
withins_rising = 16 ∷ 18 ∷ 19 ∷ 20 ∷ 22 ∷ 24 ∷ 26 ∷ 29 ∷ 32 ∷ 37 ∷ 43 ∷ 52 ∷ 64 ∷ 86 ∷ 128 ∷ 256 ∷ []

-- the same from the last place to the first
unfoldable pub withins_falling : (last first : ℕ) → List ℕ
withins_falling last first = last ∷ 128 ∷ 86 ∷ 64 ∷ 52 ∷ 43 ∷ 37 ∷ 32 ∷ 29 ∷ 26 ∷ 24 ∷ 22 ∷ 20 ∷ 19 ∷ 18 ∷ first ∷ []

-- with the largest burst and L, all but one; and one that takes the rest of the line
unfoldable pub patient : Requestor
patient = row 1 16777216 1 1073741824

unfoldable pub greedy : (within : ℕ) → Requestor
greedy within = row (65535 - (max_places - 1)) 16777216 255 within

unfoldable pub table_whole : List Requestor → Table
table_whole rows = table 65535 max_places rows

-- clauses 8.1, 8.2 and 13.5
unfoldable pub search_rows : List Row
search_rows =
    -- T is in order already. The other way round it is put in order: at place 1 the pump would wait 4/3 and take 4, which is above its 4
    record { query = ordering table_t; written = ordered_as accepted table_t }
    ∷ record { query = ordering (table 4 2 (row 1 4 1 7 ∷ row 1 8 1 4 ∷ [])); written = ordered_as accepted table_t }
    -- with L = 6 no order passes: 15, where admission finds 7 at place 1
    ∷ record { query = ordering table_t_short; written = ordered_as (refused (refusal 15)) all_zero }
    ∷ record { query = admission table_t_short; written = found (fault (refusal_at 7 1)) }
    ∷ record { query = ordering table_basin; written = ordered_as accepted table_basin }
    ∷ record { query = ordering table_guessed; written = ordered_as accepted table_basin }
    -- every order passes, and the last-listed goes lowest: the list stays as it is, either way round
    ∷ record { query = ordering (table 4 2 (row 1 8 1 100 ∷ row 1 4 1 50 ∷ [])); written = ordered_as accepted (table 4 2 (row 1 8 1 100 ∷ row 1 4 1 50 ∷ [])) }
    ∷ record { query = ordering (table 4 2 (row 1 4 1 50 ∷ row 1 8 1 100 ∷ [])); written = ordered_as accepted (table 4 2 (row 1 4 1 50 ∷ row 1 8 1 100 ∷ [])) }
    -- clause 16.14: two orders pass; the third can stand at place 0 alone, and of the others the second, listed last, goes lowest
    ∷ record {
      query = ordering (table 8 3 (row 1 8 1 100 ∷ row 2 16 1 100 ∷ row 1 8 1 8 ∷ []));
      written = ordered_as accepted (table 8 3 (row 1 8 1 8 ∷ row 1 8 1 100 ∷ row 2 16 1 100 ∷ []));
    }
    -- at place 2 the third has the figure 10, above its 6; the second has 10 and the first 8, which both can do with, and the second is
    -- listed later. At place 1 the third has 7, above its 6, and the first 6
    ∷ record {
      query = ordering (table 4 3 (row 1 8 1 8 ∷ row 1 4 1 10 ∷ row 1 4 1 6 ∷ []));
      written = ordered_as accepted (table 4 3 (row 1 4 1 6 ∷ row 1 8 1 8 ∷ row 1 4 1 10 ∷ []));
    }
    -- four of which the second goes to place 3, the first to place 2 and the fourth to place 1, though other orders pass
    ∷ record {
      query = ordering (table 8 4 (row 2 16 1 11 ∷ row 1 8 1 22 ∷ row 1 16 2 19 ∷ row 2 8 1 7 ∷ []));
      written = ordered_as accepted (table 8 4 (row 1 16 2 19 ∷ row 2 8 1 7 ∷ row 2 16 1 11 ∷ row 1 8 1 22 ∷ []));
    }
    -- by request 6 no order is looked for where a need does not fit, here the third's
    ∷ record {
      query = ordering (table 8 4 (row 2 16 1 11 ∷ row 1 8 1 19 ∷ row 1 9 2 19 ∷ row 2 8 1 7 ∷ []));
      written = ordered_as (refused (refusal_at 17 2)) all_zero;
    }
    -- the fourth can stand at place 0 alone; the others stay as they are listed
    ∷ record {
      query = ordering (table 8 4 (row 1 8 1 100 ∷ row 1 9 1 100 ∷ row 1 10 1 100 ∷ row 1 8 1 8 ∷ []));
      written = ordered_as accepted (table 8 4 (row 1 8 1 8 ∷ row 1 8 1 100 ∷ row 1 9 1 100 ∷ row 1 10 1 100 ∷ []));
    }
    -- the others keep their order in the list: once the second has the last place, the fourth gets the next
    ∷ record {
      query = ordering (table 8 4 (row 1 8 1 100 ∷ row 1 9 1 100 ∷ row 1 8 1 12 ∷ row 1 10 1 12 ∷ []));
      written = ordered_as accepted (table 8 4 (row 1 8 1 100 ∷ row 1 8 1 12 ∷ row 1 10 1 12 ∷ row 1 9 1 100 ∷ []));
    }
    -- clause 16.14: only one order of three passes, however they are listed
    ∷ record { query = ordering (table_three 4 6 8); written = ordered_as accepted (table_three 4 6 8) }
    ∷ record { query = ordering (table_three 4 8 6); written = ordered_as accepted (table_three 4 6 8) }
    ∷ record { query = ordering (table_three 6 4 8); written = ordered_as accepted (table_three 4 6 8) }
    ∷ record { query = ordering (table_three 6 8 4); written = ordered_as accepted (table_three 4 6 8) }
    ∷ record { query = ordering (table_three 8 4 6); written = ordered_as accepted (table_three 4 6 8) }
    ∷ record { query = ordering (table_three 8 6 4); written = ordered_as accepted (table_three 4 6 8) }
    -- and none where the lowest, the middle or the highest place is one slot short of its figure
    ∷ record { query = ordering (table_three 7 6 4); written = ordered_as (refused (refusal 15)) all_zero }
    ∷ record { query = ordering (table_three 8 5 4); written = ordered_as (refused (refusal 15)) all_zero }
    ∷ record { query = ordering (table_three 8 6 3); written = ordered_as (refused (refusal 15)) all_zero }
    -- neither its own burst nor its own rate counts against the last-listed: 4/3 + 4 rounded up is 6, and 4/3 + 2 is 4
    ∷ record { query = ordering (table 4 2 (row 1 4 1 100 ∷ row 1 4 1 6 ∷ [])); written = ordered_as accepted (table 4 2 (row 1 4 1 100 ∷ row 1 4 1 6 ∷ [])) }
    ∷ record { query = ordering (table 4 2 (row 1 4 1 100 ∷ row 2 4 1 4 ∷ [])); written = ordered_as accepted (table 4 2 (row 1 4 1 100 ∷ row 2 4 1 4 ∷ [])) }
    -- equal requestors: both fit, or neither can stand lowest
    ∷ record { query = ordering (table 4 2 (row 1 4 1 6 ∷ row 1 4 1 6 ∷ [])); written = ordered_as accepted (table 4 2 (row 1 4 1 6 ∷ row 1 4 1 6 ∷ [])) }
    ∷ record { query = ordering (table 4 2 (row 1 4 1 5 ∷ row 1 4 1 5 ∷ [])); written = ordered_as (refused (refusal 15)) all_zero }
    -- one requestor: its need holds alone, or no order passes
    ∷ record { query = ordering (table 4 1 (row 1 4 1 4 ∷ [])); written = ordered_as accepted (table 4 1 (row 1 4 1 4 ∷ [])) }
    ∷ record { query = ordering (table 4 1 (row 1 4 1 3 ∷ [])); written = ordered_as (refused (refusal 15)) all_zero }
    -- many, in order already; and with the most urgent listed last, where every place takes the search to the first that remains
    ∷ record { query = ordering (table_alike withins_rising); written = ordered_as accepted (table_alike withins_rising) }
    ∷ record { query = ordering (table_alike (withins_falling 256 16)); written = ordered_as accepted (table_alike withins_rising) }
    ∷ record { query = ordering (table_alike (withins_falling 255 16)); written = ordered_as (refused (refusal 15)) all_zero }
    ∷ record { query = ordering (table_alike (withins_falling 256 15)); written = ordered_as (refused (refusal 15)) all_zero }
    -- the largest bursts, D and N: below 63 of them the last takes 16,400 slots, and below 62 of them 16,143
    ∷ record { query = ordering (table_whole (replicate (max_places - 1) patient ++ greedy 16400 ∷ [])); written = ordered_as accepted (table_whole (replicate (max_places - 1) patient ++ greedy 16400 ∷ [])) }
    ∷ record { query = ordering (table_whole (replicate (max_places - 1) patient ++ greedy 16399 ∷ [])); written = ordered_as accepted (table_whole (replicate (max_places - 2) patient ++ greedy 16399 ∷ patient ∷ [])) }
    -- a listed place is named: 3, 4 and 5 come ahead of 15, and so does 6
    ∷ record { query = ordering (table 4 2 (row 1 4 1 3 ∷ row 0 4 1 7 ∷ [])); written = ordered_as (refused (refusal_at 3 1)) all_zero }
    ∷ record { query = ordering (table 4 2 (row 1 4 1 3 ∷ row 1 3 1 7 ∷ [])); written = ordered_as (refused (refusal_at 4 1)) all_zero }
    ∷ record { query = ordering (table 4 2 (row 1 4 0 3 ∷ row 1 4 1 3 ∷ [])); written = ordered_as (refused (refusal_at 5 0)) all_zero }
    ∷ record { query = ordering (table 4 2 (row 3 4 1 1 ∷ row 2 4 1 1 ∷ [])); written = ordered_as (refused (refusal 6)) all_zero }
    -- the same at the other end of each range: a rate above D, and a burst, a j and an L above their limits
    ∷ record { query = ordering (table 4 2 (row 1 4 1 3 ∷ row 5 4 1 7 ∷ [])); written = ordered_as (refused (refusal_at 3 1)) all_zero }
    ∷ record { query = ordering (table 4 2 (row 1 4 1 3 ∷ row 1 16777217 1 7 ∷ [])); written = ordered_as (refused (refusal_at 4 1)) all_zero }
    ∷ record { query = ordering (table 4 2 (row 1 4 1 3 ∷ row 1 4 256 7 ∷ [])); written = ordered_as (refused (refusal_at 5 1)) all_zero }
    ∷ record { query = ordering (table 4 2 (row 1 4 1 3 ∷ row 1 4 1 1073741825 ∷ [])); written = ordered_as (refused (refusal_at 5 1)) all_zero }
    -- ahead of all others come 1 and 2, the latter also for a row past the last place
    ∷ record { query = ordering (table 0 2 (row 1 4 1 7 ∷ row 1 8 1 4 ∷ [])); written = ordered_as (refused (refusal 1)) all_zero }
    ∷ record { query = ordering (table 4 0 []); written = ordered_as (refused (refusal 2)) all_zero }
    ∷ record { query = ordering (table 4 (suc max_places) (row 1 4 1 7 ∷ [])); written = ordered_as (refused (refusal 2)) all_zero }
    ∷ record { query = ordering (table 4 1 (row 1 4 1 3 ∷ row 1 8 1 4 ∷ [])); written = ordered_as (refused (refusal 2)) all_zero }
    ∷ record { query = ordering (table 4 1 (row 0 4 1 3 ∷ row 0 0 0 1 ∷ [])); written = ordered_as (refused (refusal 2)) all_zero }
    ∷ record { query = ordering (table 0 (suc max_places) []); written = ordered_as (refused (refusal 1)) all_zero }
    -- a place's 4 is ahead of the next one's 3, and a 5 is ahead of 6
    ∷ record { query = ordering (table 4 2 (row 1 3 1 7 ∷ row 0 4 1 7 ∷ [])); written = ordered_as (refused (refusal_at 4 0)) all_zero }
    ∷ record { query = ordering (table 4 2 (row 3 4 1 1 ∷ row 2 4 0 1 ∷ [])); written = ordered_as (refused (refusal_at 5 1)) all_zero }
    ∷ []

-- T's bytes with the probe listed first, and with this L for it
unfoldable pub bytes_guessed : (within : ℕ) → List ℕ
bytes_guessed within = 4 ∷ 2 ∷ 1 ∷ 4 ∷ 1 ∷ within ∷ 1 ∷ 8 ∷ 1 ∷ 4 ∷ []

-- clauses 8.3 and 13.6
unfoldable pub search_bytes_rows : List Row
search_bytes_rows =
    -- T's bytes, in order; the buffer's rest stays, and one byte fewer of room is 14
    record { query = ordering_bytes (bytes_guessed 7) (replicate 12 90); written = written_as (writing.wrote 10) (4 ∷ 2 ∷ 1 ∷ 8 ∷ 1 ∷ 4 ∷ 1 ∷ 4 ∷ 1 ∷ 7 ∷ 90 ∷ 90 ∷ []) }
    ∷ record { query = ordering_bytes (bytes_guessed 7) (replicate 10 90); written = written_as (writing.wrote 10) (4 ∷ 2 ∷ 1 ∷ 8 ∷ 1 ∷ 4 ∷ 1 ∷ 4 ∷ 1 ∷ 7 ∷ []) }
    ∷ record { query = ordering_bytes (bytes_guessed 7) (replicate 9 90); written = written_as (writing.refused (refusal 14)) (replicate 9 90) }
    -- 15 is ahead of 14, 6 of 15, 10 of 6, and a 3 at a listed place of the bytes' end
    ∷ record { query = ordering_bytes (bytes_guessed 6) (replicate 9 90); written = written_as (writing.refused (refusal 15)) (replicate 9 90) }
    ∷ record { query = ordering_bytes (4 ∷ 2 ∷ 3 ∷ 4 ∷ 1 ∷ 1 ∷ 2 ∷ 4 ∷ 1 ∷ 1 ∷ []) []; written = written_as (writing.refused (refusal 6)) [] }
    ∷ record { query = ordering_bytes (4 ∷ 2 ∷ 3 ∷ 4 ∷ 1 ∷ 1 ∷ 2 ∷ 4 ∷ 1 ∷ 1 ∷ 0 ∷ []) []; written = written_as (writing.refused (refusal 10)) [] }
    ∷ record { query = ordering_bytes (4 ∷ 2 ∷ 1 ∷ 4 ∷ 1 ∷ 7 ∷ 5 ∷ []) []; written = written_as (writing.refused (refusal_at 3 1)) [] }
    -- D = 300 with rates 100 and 200: numbers of one byte and of two change places. The second has L = 2, and below the first the figure 3
    ∷ record {
      query = ordering_bytes (172 ∷ 2 ∷ 2 ∷ 100 ∷ 172 ∷ 2 ∷ 1 ∷ 6 ∷ 200 ∷ 1 ∷ 172 ∷ 2 ∷ 1 ∷ 2 ∷ []) (replicate 14 90);
      written = written_as (writing.wrote 14) (172 ∷ 2 ∷ 2 ∷ 200 ∷ 1 ∷ 172 ∷ 2 ∷ 1 ∷ 2 ∷ 100 ∷ 172 ∷ 2 ∷ 1 ∷ 6 ∷ []);
    }
    -- 1, 2, 4 and 5 are found where the number stands, though bytes are missing behind it
    ∷ record { query = ordering_bytes (0 ∷ []) []; written = written_as (writing.refused (refusal 1)) [] }
    ∷ record { query = ordering_bytes (4 ∷ 0 ∷ []) []; written = written_as (writing.refused (refusal 2)) [] }
    ∷ record { query = ordering_bytes (4 ∷ 2 ∷ 1 ∷ 3 ∷ []) []; written = written_as (writing.refused (refusal_at 4 0)) [] }
    ∷ record { query = ordering_bytes (4 ∷ 2 ∷ 1 ∷ 4 ∷ 1 ∷ 7 ∷ 1 ∷ 8 ∷ 0 ∷ []) []; written = written_as (writing.refused (refusal_at 5 1)) [] }
    -- no bytes are 8, and a number in a longer form than it needs is 9
    ∷ record { query = ordering_bytes [] []; written = written_as (writing.refused (refusal 8)) [] }
    ∷ record { query = ordering_bytes (132 ∷ 0 ∷ []) []; written = written_as (writing.refused (refusal 9)) [] }
    ∷ []
