-- Edges of runs, leads and figures (clauses 6.1, 6.3, 7.4 and 13.9 to 13.11), and of the checks that they share, worked out by hand.
use Rattle.std.specs.Prelude.{List, [], ◌∷◌, ◌++◌, ℕ, ◌-◌, pos, negsuc, replicate}
use Rattle.terms.specs.State.{State}
use Rattle.terms.specs.Limits.{max_places}
use Rattle.terms.specs.Refusals.{faultless, fault, refusal, refusal_at}
use Rattle.terms.specs.Answers.{accepted, refused}
use Rattle.terms.specs.Queries as queries
use Rattle.lead_parts.specs.Lead.{lead}
use Rattle.lead_parts.specs.Lead as leads
use Rattle.rule.specs.Calls.{post}
use Rattle.cases.specs.Rows.{row, account, table, state_of, Row, place_checks, input_checks, running, run_checks, leading, lead_checks, querying_figures, after, standing, found, ran, led, told_figures}
use Rattle.cases.specs.BenchRows.{table_t, table_t_short, three_each, log_nine}

-- T with this first slot number and nothing posted
unfoldable pub start_t : ℕ → State
start_t first = after table_t first []

-- T at a slot number, with a credit sum past the burst sum
unfoldable pub unsound_t : ℕ → State
unsound_t at = state_of table_t at (account 9 0 ∷ account 3 0 ∷ [])

-- D = 65,535, and one place with the largest rate
unfoldable pub start_full : State
start_full = after (table 65535 1 (row 65535 65535 1 1 ∷ [])) 0 []

-- three places, D = 10: bursts of 10, 25 and 10, rates of 1, 2 and 4
unfoldable pub start_three : State
start_three = after (table 10 3 (row 1 10 1 10 ∷ row 2 25 1 7 ∷ row 4 10 1 8 ∷ [])) 0 []

-- as many places as there can be, and one transfer waiting at the last
unfoldable pub start_last : State
start_last = after (table 100 max_places (replicate max_places (row 1 100 1 10000))) 0 (post (max_places - 1) 1 ∷ [])

-- clauses 12.11 and 12.13: the checks of a place and of a number of bytes, each asked by itself
unfoldable pub check_rows : List Row
check_rows =
    -- 11: T has places 0 and 1; neither 2 nor the largest number of 64 bits is one of them
    record { query = place_checks (start_t 0) 0; written = found faultless }
    ∷ record { query = place_checks (start_t 0) 1; written = found faultless }
    ∷ record { query = place_checks (start_t 0) 2; written = found (fault (refusal 11)) }
    ∷ record { query = place_checks (start_t 0) 18446744073709551615; written = found (fault (refusal 11)) }
    -- 13: no byte and 65,536 bytes pass; one more and the largest number of 64 bits do not
    ∷ record { query = input_checks 0; written = found faultless }
    ∷ record { query = input_checks 65536; written = found faultless }
    ∷ record { query = input_checks 65537; written = found (fault (refusal 13)) }
    ∷ record { query = input_checks 18446744073709551615; written = found (fault (refusal 13)) }
    ∷ []

-- clauses 6.1 and 13.9
unfoldable pub run_rows : List Row
run_rows =
    -- no byte and no slot, also at slot number 2^62; one byte is then refused 22, and is left as it was
    record { query = running (start_t 4611686018427387904) []; written = ran accepted [] (standing 4611686018427387904 (8 ∷ 4 ∷ []) (0 ∷ 0 ∷ [])) }
    ∷ record {
      query = running (start_t 4611686018427387904) (90 ∷ []);
      written = ran (refused (refusal 22)) (90 ∷ []) (standing 4611686018427387904 (8 ∷ 4 ∷ []) (0 ∷ 0 ∷ []));
    }
    -- two slots below the limit: two bytes are slots, and three are refused 22 as a whole
    ∷ record {
      query = running (start_t 4611686018427387902) (90 ∷ 91 ∷ []);
      written = ran accepted (255 ∷ 255 ∷ []) (standing 4611686018427387904 (8 ∷ 4 ∷ []) (0 ∷ 0 ∷ []));
    }
    ∷ record {
      query = running (start_t 4611686018427387902) (90 ∷ 91 ∷ 92 ∷ []);
      written = ran (refused (refusal 22)) (90 ∷ 91 ∷ 92 ∷ []) (standing 4611686018427387902 (8 ∷ 4 ∷ []) (0 ∷ 0 ∷ []));
    }
    -- one slot; then three more of clause 16.3, from the state that the first handed back
    ∷ record { query = running (after table_t 0 three_each) (90 ∷ []); written = ran accepted (0 ∷ []) (standing 1 (5 ∷ 5 ∷ []) (2 ∷ 3 ∷ [])) }
    ∷ record {
      query = running (state_of table_t 1 (account 5 2 ∷ account 5 3 ∷ [])) (90 ∷ 91 ∷ 92 ∷ []);
      written = ran accepted (0 ∷ 1 ∷ 0 ∷ []) (standing 4 (0 ∷ 4 ∷ []) (0 ∷ 2 ∷ []));
    }
    -- the last place of the largest table
    ∷ record {
      query = running start_last (90 ∷ 91 ∷ []);
      written = ran accepted ((max_places - 1) ∷ 255 ∷ []) (standing 2 (replicate (max_places - 1) 100 ++ 2 ∷ []) (replicate max_places 0));
    }
    -- a table that fails only 7 is served
    ∷ record {
      query = running (state_of table_t_short 0 (account 8 0 ∷ account 4 1 ∷ [])) (90 ∷ []);
      written = ran accepted (1 ∷ []) (standing 1 (8 ∷ 1 ∷ []) (0 ∷ 0 ∷ []));
    }
    -- a state that is not sound is refused 23, also for no byte, and ahead of 13 and of 22; 13 is ahead of 22
    ∷ record { query = running (unsound_t 0) []; written = ran (refused (refusal 23)) [] (standing 0 (9 ∷ 3 ∷ []) (0 ∷ 0 ∷ [])) }
    ∷ record { query = running (unsound_t 0) (90 ∷ 91 ∷ []); written = ran (refused (refusal 23)) (90 ∷ 91 ∷ []) (standing 0 (9 ∷ 3 ∷ []) (0 ∷ 0 ∷ [])) }
    ∷ record { query = run_checks (unsound_t 4611686018427387904) 65537; written = found (fault (refusal 23)) }
    ∷ record { query = run_checks (start_t 4611686018427387904) 65537; written = found (fault (refusal 13)) }
    ∷ record { query = run_checks (start_t 0) 65537; written = found (fault (refusal 13)) }
    ∷ record { query = run_checks (start_t 0) 65536; written = found faultless }
    ∷ record { query = run_checks (start_t 4611686018427322368) 65536; written = found faultless }
    ∷ record { query = run_checks (start_t 4611686018427322369) 65536; written = found (fault (refusal 22)) }
    ∷ []

-- clauses 6.3 and 13.10
unfoldable pub lead_rows : List Row
lead_rows =
    -- over no byte the lead is 0; idle bytes and bytes that name no place count for nobody
    record { query = leading (start_t 0) 0 []; written = led (lead (pos 0)) }
    ∷ record { query = leading (start_t 0) 1 (255 ∷ 255 ∷ 255 ∷ []); written = led (lead (negsuc 2)) }
    ∷ record { query = leading (start_t 0) 0 (7 ∷ 1 ∷ 0 ∷ []); written = led (lead (pos 1)) }
    -- the rate of the place that is asked for: 10 − 2 × 3 and 10 − 4 × 3
    ∷ record { query = leading start_three 1 (1 ∷ 255 ∷ 2 ∷ []); written = led (lead (pos 4)) }
    ∷ record { query = leading start_three 2 (1 ∷ 255 ∷ 2 ∷ []); written = led (lead (negsuc 1)) }
    -- the largest D and n: two grants in two slots, and none in one
    ∷ record { query = leading start_full 0 (0 ∷ 0 ∷ []); written = led (lead (pos 0)) }
    ∷ record { query = leading start_full 0 (255 ∷ []); written = led (lead (negsuc 65534)) }
    -- a table that fails only 7 is served, and so is a slot number at its limit
    ∷ record { query = leading (state_of table_t_short 4611686018427387904 []) 1 log_nine; written = led (lead (pos 3)) }
    -- 11: a place that is not below N, be it the byte of an idle slot; 23 is ahead of 11, and 11 of 13
    ∷ record { query = leading (start_t 0) 255 (255 ∷ []); written = led (leads.refused (refusal 11)) }
    ∷ record { query = leading (start_t 0) 2 log_nine; written = led (leads.refused (refusal 11)) }
    ∷ record { query = leading (unsound_t 0) 2 log_nine; written = led (leads.refused (refusal 23)) }
    ∷ record { query = lead_checks (unsound_t 0) 2 65537; written = found (fault (refusal 23)) }
    ∷ record { query = lead_checks (start_t 0) 2 65537; written = found (fault (refusal 11)) }
    ∷ record { query = lead_checks (start_t 0) 1 65537; written = found (fault (refusal 13)) }
    ∷ record { query = lead_checks (start_t 0) 1 65536; written = found faultless }
    ∷ []

-- clauses 7.4 and 13.11
unfoldable pub figure_rows : List Row
figure_rows =
    -- T: place 0 waits for nobody; place 1 for a burst of 8 at the 3 of 4 that are left
    record { query = querying_figures (start_t 0) 0 1; written = told_figures (queries.figured 0 4) }
    ∷ record { query = querying_figures (start_t 0) 1 1; written = told_figures (queries.figured 3 7) }
    ∷ record { query = querying_figures (start_t 0) 1 255; written = told_figures (queries.figured 3 1023) }
    -- two places above: B is 35 and R is 7; two transfers at a rate of 4 in 10 take 5 slots, and not twice 3
    ∷ record { query = querying_figures start_three 2 1; written = told_figures (queries.figured 5 8) }
    ∷ record { query = querying_figures start_three 2 2; written = told_figures (queries.figured 5 10) }
    -- a table that fails only 7 is served, and so is a slot number at its limit
    ∷ record { query = querying_figures (start_t 4611686018427387904) 1 1; written = told_figures (queries.figured 3 7) }
    ∷ record { query = querying_figures (state_of table_t_short 0 []) 1 1; written = told_figures (queries.figured 3 7) }
    -- 5 with the place that was asked for; 11 is ahead of 5, and 23 of 11
    ∷ record { query = querying_figures (start_t 0) 1 0; written = told_figures (queries.refused (refusal_at 5 1)) }
    ∷ record { query = querying_figures (start_t 0) 1 256; written = told_figures (queries.refused (refusal_at 5 1)) }
    ∷ record { query = querying_figures (start_t 0) 0 4294967295; written = told_figures (queries.refused (refusal_at 5 0)) }
    ∷ record { query = querying_figures (start_t 0) 2 0; written = told_figures (queries.refused (refusal 11)) }
    ∷ record { query = querying_figures (unsound_t 0) 2 0; written = told_figures (queries.refused (refusal 23)) }
    ∷ []
