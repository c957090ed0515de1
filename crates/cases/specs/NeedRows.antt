-- Needs that just fit their burst and needs that do not (clauses 2.3 and 12.17), worked out by hand.
use Rattle.std.specs.Prelude.{List, [], ◌∷◌, ◌++◌, ℕ, suc, ◌-◌, ◌*◌, pos, replicate}
use Rattle.terms.specs.declared.place.Requestor.{Requestor}
use Rattle.terms.specs.Table.{Table}
use Rattle.terms.specs.State.{State}
use Rattle.terms.specs.Limits.{max_places}
use Rattle.terms.specs.Refusals.{faultless, fault, refusal, refusal_at}
use Rattle.terms.specs.Answers.{accepted, granted, refused}
use Rattle.terms.specs.Queries as queries
use Rattle.terms.specs.Chain.{nobody}
use Rattle.terms.specs.Chain as chains
use Rattle.lead_parts.specs.Lead.{lead}
use Rattle.table_bytes.specs.Writing as write
use Rattle.rule.specs.Calls.{post, slot}
use Rattle.cases.specs.Rows.{row, account, table, all_zero, all_zero_state, state_of, Row, reading, writing, admission, former_admission, carrying, starting, querying, running, leading, querying_figures, chaining, ordering, ordering_bytes, listing_of, standing, bytes, read_as, written_as, found, started_as, answered, ran, led, told_figures, told_chain, ordered_as}
use Rattle.cases.specs.BenchRows.{log_nine}
use Rattle.cases.specs.BytesRows.{marked, single, unwritten, unread}
use Rattle.cases.specs.ListingRows.{header_text}
use Rattle.cases.specs.CarryRows.{stood, old_with}

-- D=4 and these two places
unfoldable pub table_two : (first second : Requestor) → Table
table_two first second = table 4 2 (first ∷ second ∷ [])

-- a place whose need of one transfer fits; and one with this burst and two transfers, of which 8 is the least burst that holds them
abbrev pub lone : Requestor
lone = row 1 4 1 1000

abbrev pub pair : (burst : ℕ) → Requestor
pair b = row 1 b 2 1000

-- as many places as there can be, and this burst for the last one's two transfers
unfoldable pub table_last_pair : (burst : ℕ) → Table
table_last_pair b = table max_places max_places (replicate (max_places - 1) (row 1 max_places 1 10000) ++ row 1 b 2 10000 ∷ [])

-- README's basin with these bursts: pump, two probes, handset and service log
unfoldable pub table_basin_with : (pump probe handset log : ℕ) → Table
table_basin_with pump probe handset log =
    table 20 5 (row 4 pump 2 10 ∷ row 2 20 1 15 ∷ row 2 probe 1 15 ∷ row 4 handset 3 25 ∷ row 8 log 8 50 ∷ [])

-- clauses 2.3 and 12.17
unfoldable pub need_rows : List Row
need_rows =
    -- j × D equal to b, and one above it: at the first place, at the last, and at the last of as many as there can be
    record { query = admission (table_two (pair 8) lone); written = found faultless }
    ∷ record { query = admission (table_two (pair 7) lone); written = found (fault (refusal_at 17 0)) }
    ∷ record { query = admission (table_two lone (pair 8)); written = found faultless }
    ∷ record { query = admission (table_two lone (pair 7)); written = found (fault (refusal_at 17 1)) }
    ∷ record { query = admission (table_last_pair (2 * max_places)); written = found faultless }
    ∷ record { query = admission (table_last_pair (2 * max_places - 1)); written = found (fault (refusal_at 17 (max_places - 1))) }
    -- the largest j and D: 255 × 65,535 is 16,711,425
    ∷ record { query = admission (single 65535 65535 16711425 255 255); written = found faultless }
    ∷ record { query = admission (single 65535 65535 16711424 255 255); written = found (fault (refusal_at 17 0)) }
    -- with D = 1 a burst is a number of transfers
    ∷ record { query = admission (single 1 1 255 255 255); written = found faultless }
    ∷ record { query = admission (single 1 1 254 255 255); written = found (fault (refusal_at 17 0)) }
    -- clause 16.17
    ∷ record { query = admission (table_two (row 1 8 2 8) (row 1 4 1 7)); written = found faultless }
    ∷ record { query = admission (table_two (row 1 8 3 12) (row 1 4 1 7)); written = found (fault (refusal_at 17 0)) }
    ∷ record { query = querying_figures (state_of (table_two (row 1 8 2 8) (row 1 4 1 7)) 0 []) 0 3; written = told_figures (queries.figured 0 12) }
    -- the needs of README's basin just fit: with one less for its burst the pump, the handset or the log gets 17
    ∷ record { query = admission (table_basin_with 40 20 60 160); written = found faultless }
    ∷ record { query = admission (table_basin_with 39 20 60 160); written = found (fault (refusal_at 17 0)) }
    ∷ record { query = admission (table_basin_with 40 20 59 160); written = found (fault (refusal_at 17 3)) }
    ∷ record { query = admission (table_basin_with 40 20 60 159); written = found (fault (refusal_at 17 4)) }
    -- and the probe, with its need of one transfer, 4: a burst below D
    ∷ record { query = admission (table_basin_with 40 19 60 160); written = found (fault (refusal_at 4 2)) }
    -- ten transfers, and a burst that holds two
    ∷ record { query = admission (table_two (row 1 8 10 1000) lone); written = found (fault (refusal_at 17 0)) }
    -- of two needs that do not fit that of place 0 is named; a unit from before request 1 took this table
    ∷ record { query = admission (table_two (pair 7) (pair 4)); written = found (fault (refusal_at 17 0)) }
    ∷ record { query = former_admission (table_two (pair 7) (pair 4)); written = found faultless }
    ∷ []

-- clauses 13.1 and 13.3 to 13.5: which of two faults is named
unfoldable pub need_order_rows : List Row
need_order_rows =
    -- 17 at place 0 is ahead of 3, 4 and 5 at place 1, of 6, and of 7 at place 1 and at place 0
    record { query = admission (table_two (pair 7) (row 0 4 1 1000)); written = found (fault (refusal_at 17 0)) }
    ∷ record { query = admission (table_two (pair 7) (row 1 3 1 1000)); written = found (fault (refusal_at 17 0)) }
    ∷ record { query = admission (table_two (pair 7) (row 1 4 0 1000)); written = found (fault (refusal_at 17 0)) }
    ∷ record { query = admission (table_two (pair 7) (row 1 4 1 0)); written = found (fault (refusal_at 17 0)) }
    ∷ record { query = admission (table_two (row 3 7 2 1000) (row 2 4 1 1000)); written = found (fault (refusal_at 17 0)) }
    ∷ record { query = admission (table_two (pair 7) (row 1 4 1 1)); written = found (fault (refusal_at 17 0)) }
    ∷ record { query = admission (table_two (row 1 7 2 7) lone); written = found (fault (refusal_at 17 0)) }
    -- at place 1 too it is ahead of 6, and of 7 at place 0
    ∷ record { query = admission (table_two (row 3 4 1 1000) (row 2 7 2 1000)); written = found (fault (refusal_at 17 1)) }
    ∷ record { query = admission (table_two (row 1 4 1 3) (pair 7)); written = found (fault (refusal_at 17 1)) }
    -- it is behind 3, 4 and 5 at its own place, also where j × D is far above every b, and at place 1 behind those of place 0
    ∷ record { query = admission (table_two (row 0 7 2 1000) lone); written = found (fault (refusal_at 3 0)) }
    ∷ record { query = admission (table_two (row 1 3 2 1000) lone); written = found (fault (refusal_at 4 0)) }
    ∷ record { query = admission (table_two (row 1 7 256 1000) lone); written = found (fault (refusal_at 5 0)) }
    ∷ record { query = admission (table_two (row 1 7 18446744073709551615 1000) lone); written = found (fault (refusal_at 5 0)) }
    ∷ record { query = admission (table_two (row 1 7 2 0) lone); written = found (fault (refusal_at 5 0)) }
    ∷ record { query = admission (table_two (row 0 4 1 1000) (pair 7)); written = found (fault (refusal_at 3 0)) }
    ∷ record { query = admission (table_two (row 1 3 1 1000) (pair 7)); written = found (fault (refusal_at 4 0)) }
    ∷ record { query = admission (table_two (row 1 4 1 0) (pair 7)); written = found (fault (refusal_at 5 0)) }
    -- and behind 1 and 2
    ∷ record { query = admission (table 65536 2 (pair 7 ∷ lone ∷ [])); written = found (fault (refusal 1)) }
    ∷ record { query = admission (table 4 (suc max_places) (pair 7 ∷ [])); written = found (fault (refusal 2)) }
    ∷ record { query = admission (table 4 1 (pair 7 ∷ row 0 0 0 1 ∷ [])); written = found (fault (refusal 2)) }
    -- ahead of 12: a start hands back a state whose every field is 0
    ∷ record { query = starting (table_two lone (pair 7)) 4611686018427387905; written = started_as (refused (refusal_at 17 1)) all_zero_state }
    -- the search finds it in the list, ahead of 6 and of 15; the place is that of the list
    ∷ record { query = ordering (table_two (row 3 7 2 1000) (row 2 4 1 1000)); written = ordered_as (refused (refusal_at 17 0)) all_zero }
    ∷ record { query = ordering (table_two lone (row 1 7 2 1)); written = ordered_as (refused (refusal_at 17 1)) all_zero }
    ∷ record { query = ordering (table_two (row 1 7 2 1) (row 1 4 1 1)); written = ordered_as (refused (refusal_at 17 0)) all_zero }
    ∷ record { query = ordering (table_two (row 1 8 2 1) (row 1 4 1 1)); written = ordered_as (refused (refusal 15)) all_zero }
    -- the writer too: with room for the bytes, ahead of 14 with three lent or none, and ahead of 7
    ∷ record { query = writing (table_two lone (pair 7)) (marked 14); written = written_as (write.refused (refusal_at 17 1)) (marked 14) }
    ∷ unwritten (table_two lone (pair 7)) (refusal_at 17 1)
    ∷ record { query = writing (table_two lone (pair 7)) []; written = written_as (write.refused (refusal_at 17 1)) [] }
    ∷ unwritten (table_two (row 1 4 1 3) (pair 7)) (refusal_at 17 1)
    ∷ []

-- clauses 13.2 and 13.6: n, b, j and L of a place, and behind them 17
unfoldable pub need_bytes_rows : List Row
need_bytes_rows =
    record { query = reading (4 ∷ 1 ∷ 1 ∷ 8 ∷ 2 ∷ 8 ∷ []); written = read_as accepted (single 4 1 8 2 8) }
    ∷ record { query = reading (4 ∷ 1 ∷ 1 ∷ 7 ∷ 2 ∷ 8 ∷ []); written = unread (refusal_at 17 0) }
    ∷ record { query = reading (4 ∷ 2 ∷ 1 ∷ 8 ∷ 1 ∷ 4 ∷ 1 ∷ 8 ∷ 2 ∷ 11 ∷ []); written = read_as accepted (table_two (row 1 8 1 4) (row 1 8 2 11)) }
    ∷ record { query = reading (4 ∷ 2 ∷ 1 ∷ 8 ∷ 1 ∷ 4 ∷ 1 ∷ 7 ∷ 2 ∷ 11 ∷ []); written = unread (refusal_at 17 1) }
    -- it is ahead of whatever stands behind its place: of the end of the bytes, of a number that is longer than it need be, and of 3
    ∷ record { query = reading (4 ∷ 2 ∷ 1 ∷ 7 ∷ 2 ∷ 8 ∷ []); written = unread (refusal_at 17 0) }
    ∷ record { query = reading (4 ∷ 2 ∷ 1 ∷ 8 ∷ 2 ∷ 8 ∷ []); written = unread (refusal 8) }
    ∷ record { query = reading (4 ∷ 2 ∷ 1 ∷ 7 ∷ 2 ∷ 8 ∷ 128 ∷ 0 ∷ []); written = unread (refusal_at 17 0) }
    ∷ record { query = reading (4 ∷ 2 ∷ 1 ∷ 8 ∷ 2 ∷ 8 ∷ 128 ∷ 0 ∷ []); written = unread (refusal 9) }
    ∷ record { query = reading (4 ∷ 2 ∷ 1 ∷ 7 ∷ 2 ∷ 8 ∷ 0 ∷ 4 ∷ 1 ∷ 7 ∷ []); written = unread (refusal_at 17 0) }
    -- and after L: bytes that end before L or inside it are 8, a long form of it is 9, and an L of 0 is 5
    ∷ record { query = reading (4 ∷ 2 ∷ 1 ∷ 7 ∷ 2 ∷ []); written = unread (refusal 8) }
    ∷ record { query = reading (4 ∷ 2 ∷ 1 ∷ 7 ∷ 2 ∷ 136 ∷ []); written = unread (refusal 8) }
    ∷ record { query = reading (4 ∷ 2 ∷ 1 ∷ 7 ∷ 2 ∷ 136 ∷ 0 ∷ []); written = unread (refusal 9) }
    ∷ record { query = reading (4 ∷ 2 ∷ 1 ∷ 7 ∷ 2 ∷ 0 ∷ []); written = unread (refusal_at 5 0) }
    -- at the last place it is ahead of 10, of 6 and of 7
    ∷ record { query = reading (4 ∷ 1 ∷ 1 ∷ 7 ∷ 2 ∷ 8 ∷ 90 ∷ []); written = unread (refusal_at 17 0) }
    ∷ record { query = reading (4 ∷ 1 ∷ 1 ∷ 8 ∷ 2 ∷ 8 ∷ 90 ∷ []); written = unread (refusal 10) }
    ∷ record { query = reading (4 ∷ 2 ∷ 3 ∷ 4 ∷ 1 ∷ 1 ∷ 2 ∷ 7 ∷ 2 ∷ 11 ∷ 90 ∷ []); written = unread (refusal_at 17 1) }
    -- slotlist prints it: refused 17
    ∷ record { query = listing_of (6 ∷ 4 ∷ 2 ∷ 1 ∷ 7 ∷ 2 ∷ 8 ∷ []); written = bytes (header_text ++ 114 ∷ 101 ∷ 102 ∷ 117 ∷ 115 ∷ 101 ∷ 100 ∷ 32 ∷ 49 ∷ 55 ∷ 10 ∷ []) }
    -- an order of such bytes writes none
    ∷ record { query = ordering_bytes (4 ∷ 1 ∷ 1 ∷ 7 ∷ 2 ∷ 8 ∷ []) (marked 6); written = written_as (write.refused (refusal_at 17 0)) (marked 6) }
    ∷ record { query = ordering_bytes (4 ∷ 1 ∷ 1 ∷ 8 ∷ 2 ∷ 8 ∷ []) (marked 6); written = written_as (write.wrote 6) (4 ∷ 1 ∷ 1 ∷ 8 ∷ 2 ∷ 8 ∷ []) }
    ∷ []

-- T with a need of three transfers within 15 slots at place 1, whose burst holds one: no start of today made this state
unfoldable pub table_thrice : Table
table_thrice = table_two (row 1 8 1 4) (row 1 4 3 15)

unfoldable pub thrice : (backlog : ℕ) → State
thrice q = state_of table_thrice 0 (account 8 0 ∷ account 4 q ∷ [])

-- clauses 2.5, 7.4 and 11.5: every call serves it; its table alone is refused
unfoldable pub need_served_rows : List Row
need_served_rows =
    record { query = querying (thrice 0) (post 1 3); written = answered accepted (standing 0 (8 ∷ 4 ∷ []) (0 ∷ 3 ∷ [])) }
    ∷ record { query = querying (thrice 3) slot; written = answered (granted 0 1) (standing 1 (8 ∷ 1 ∷ []) (0 ∷ 2 ∷ [])) }
    ∷ record { query = running (thrice 3) (90 ∷ 91 ∷ 92 ∷ 93 ∷ []); written = ran accepted (1 ∷ 255 ∷ 255 ∷ 1 ∷ []) (standing 4 (8 ∷ 0 ∷ []) (0 ∷ 1 ∷ [])) }
    -- figures, for three transfers and for as many as can be asked for: 8/3 + 12 and 8/3 + 1,020, rounded up. 5 stays what it was
    ∷ record { query = querying_figures (thrice 0) 1 3; written = told_figures (queries.figured 3 15) }
    ∷ record { query = querying_figures (thrice 0) 1 255; written = told_figures (queries.figured 3 1023) }
    ∷ record { query = querying_figures (thrice 0) 1 0; written = told_figures (queries.refused (refusal_at 5 1)) }
    ∷ record { query = querying_figures (thrice 0) 1 256; written = told_figures (queries.refused (refusal_at 5 1)) }
    ∷ record { query = leading (thrice 0) 1 log_nine; written = led (lead (pos 3)) }
    ∷ record { query = chaining (thrice 0) 1 (nobody ∷ 0 ∷ []); written = told_chain (chains.figured 11) }
    -- an old unit's state with it is carried over
    ∷ record { query = carrying (old_with (stood 1 4 3 15 4 2)); written = started_as accepted (thrice 2) }
    -- the writer refuses its table, and so does a start; one slot less for its need would be 7, and is 17
    ∷ unwritten table_thrice (refusal_at 17 1)
    ∷ unwritten (table_two (row 1 8 1 4) (row 1 4 3 14)) (refusal_at 17 1)
    ∷ record { query = starting table_thrice 0; written = started_as (refused (refusal_at 17 1)) all_zero_state }
    ∷ []
