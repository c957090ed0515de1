-- Edges of the limits (clause 2.1), of the order of checks (clauses 13.1, 13.3, 13.7 and 13.8), of states (clause 11.1), of the rule
-- (clauses 5.2 to 5.6) and of replay (clause 10.8), worked out by hand.
use Rattle.std.specs.Prelude.{List, [], ◌∷◌, ◌++◌, suc, ◌-◌, replicate}
use Rattle.terms.specs.declared.place.Requestor.{Requestor}
use Rattle.terms.specs.Table.{Table, no_requestor}
use Rattle.terms.specs.Limits.{max_places}
use Rattle.terms.specs.Refusals.{faultless, fault, refusal, refusal_at}
use Rattle.terms.specs.Answers.{accepted, granted, idle, refused}
use Rattle.terms.specs.State.{no_account}
use Rattle.rule.specs.Calls.{post, slot}
use Rattle.cases.specs.Rows.{row, account, table, all_zero_state, state_of, Row, admission, starting, calling, querying, replaying, standing, found, started_as, told, answered, replayed}
use Rattle.cases.specs.BenchRows.{table_t, table_t_short}

-- T with this row at place 0, or at place 1
unfoldable pub table_first : Requestor → Table
table_first r = table 4 2 (r ∷ row 1 4 1 7 ∷ [])

unfoldable pub table_second : Requestor → Table
table_second r = table 4 2 (row 1 8 1 4 ∷ r ∷ [])

-- N = 2 with a rate of 0 at place 0, and this row at place 2, or at the last row of the array
unfoldable pub table_past_two : Requestor → Table
table_past_two r = table 4 2 (row 0 8 1 4 ∷ row 1 4 1 7 ∷ r ∷ [])

unfoldable pub table_past_last : Requestor → Table
table_past_last r = table 4 2 (row 0 8 1 4 ∷ row 1 4 1 7 ∷ replicate (max_places - 3) no_requestor ++ r ∷ [])

-- every place has the largest burst; each rate is 1 and their sum is exactly D
unfoldable pub table_largest : Table
table_largest = table max_places max_places (replicate max_places (row 1 16777216 1 1073741824))

-- D=4; place 0 n=1 b=16; place 1 n=3 b=4
unfoldable pub table_blocked : Table
table_blocked = table 4 2 (row 1 16 1 4 ∷ row 3 4 1 8 ∷ [])

-- clause 2.1: numbers outside their limits, and the neighbours that are just inside
unfoldable pub limit_rows : List Row
limit_rows =
    record { query = admission (table 4 0 []); written = found (fault (refusal 2)) }
    ∷ record { query = admission (table 4 (suc max_places) (replicate max_places (row 1 4 1 1000))); written = found (fault (refusal 2)) }
    ∷ record { query = admission (table_first (row 0 8 1 4)); written = found (fault (refusal_at 3 0)) }
    ∷ record { query = admission (table_first (row 5 8 1 4)); written = found (fault (refusal_at 3 0)) }
    ∷ record { query = admission (table_second (row 1 16777217 1 8)); written = found (fault (refusal_at 4 1)) }
    ∷ record { query = admission (table_second (row 1 16777216 1 7)); written = found faultless }
    ∷ record { query = admission (table_second (row 1 4 0 7)); written = found (fault (refusal_at 5 1)) }
    ∷ record { query = admission (table_second (row 1 4 256 1027)); written = found (fault (refusal_at 5 1)) }
    ∷ record { query = admission (table_second (row 1 4 255 1023)); written = found (fault (refusal_at 17 1)) }
    ∷ record { query = admission (table_second (row 1 1020 255 1023)); written = found faultless }
    ∷ record { query = admission (table_second (row 1 4 1 0)); written = found (fault (refusal_at 5 1)) }
    ∷ record { query = admission (table_second (row 1 4 1 1073741825)); written = found (fault (refusal_at 5 1)) }
    ∷ record { query = admission (table_second (row 1 4 1 1073741824)); written = found faultless }
    -- rates that sum to exactly D, with the largest bursts at the largest N
    ∷ record { query = admission table_largest; written = found faultless }
    -- clause 4.1: first slot number 2^62 starts, and its first slot is refused 22
    ∷ record {
      query = calling table_t 4611686018427387904 (slot ∷ []);
      written = told accepted (refused (refusal 22) ∷ []) (standing 4611686018427387904 (8 ∷ 4 ∷ []) (0 ∷ 0 ∷ []));
    }
    -- one more is refused 12, with the state of clause 1.6: each call on it is refused 23
    ∷ record {
      query = calling table_t 4611686018427387905 (slot ∷ post 0 1 ∷ []);
      written = told (refused (refusal 12)) (refused (refusal 23) ∷ refused (refusal 23) ∷ []) (standing 0 (0 ∷ 0 ∷ []) (0 ∷ 0 ∷ []));
    }
    -- counts far beyond 65,535; a backlog and a count that pass the limit only together; a place that is not below N
    ∷ record {
      query = calling table_t 0 (post 0 65536 ∷ post 1 4294967295 ∷ post 1 40000 ∷ post 1 40000 ∷ post 2 1 ∷ post (max_places - 1) 0 ∷ []);
      written = told accepted
          (refused (refusal 21) ∷ refused (refusal 21) ∷ accepted ∷ refused (refusal 21) ∷ refused (refusal 11) ∷ refused (refusal 11) ∷ [])
          (standing 0 (8 ∷ 4 ∷ []) (0 ∷ 40000 ∷ []));
    }
    ∷ []

-- numbers that 32 bits cannot hold: an L whose low 32 bits are 1, an N whose low 32 bits are 2
unfoldable pub wide_rows : List Row
wide_rows =
    record { query = admission (table_second (row 1 4 1 4294967297)); written = found (fault (refusal_at 5 1)) }
    ∷ record { query = admission (table 4 4294967298 []); written = found (fault (refusal 2)) }
    -- a start from them hands back a state whose every field is 0
    ∷ record { query = starting (table_second (row 1 4 1 4294967297)) 0; written = started_as (refused (refusal_at 5 1)) all_zero_state }
    ∷ record { query = starting (table 4 4294967298 []) 0; written = started_as (refused (refusal 2)) all_zero_state }
    ∷ []

-- clauses 13.1, 13.3, 13.7 and 13.8: which of two faults is named
unfoldable pub order_rows : List Row
order_rows =
    -- N = 2 with one field past place 1 that is not 0: 2, ahead of the 3 at place 0
    record { query = admission (table_past_two (row 1 0 0 0)); written = found (fault (refusal 2)) }
    ∷ record { query = admission (table_past_two (row 0 1 0 0)); written = found (fault (refusal 2)) }
    ∷ record { query = admission (table_past_two (row 0 0 1 0)); written = found (fault (refusal 2)) }
    ∷ record { query = admission (table_past_two (row 0 0 0 1)); written = found (fault (refusal 2)) }
    ∷ record { query = admission (table_past_last (row 1 0 0 0)); written = found (fault (refusal 2)) }
    ∷ record { query = admission (table_past_last (row 0 1 0 0)); written = found (fault (refusal 2)) }
    ∷ record { query = admission (table_past_last (row 0 0 1 0)); written = found (fault (refusal 2)) }
    ∷ record { query = admission (table_past_last (row 0 0 0 1)); written = found (fault (refusal 2)) }
    ∷ record { query = admission (table_past_two no_requestor); written = found (fault (refusal_at 3 0)) }
    -- place by place: 5 at place 0 ahead of 3 at place 1
    ∷ record { query = admission (table 4 2 (row 1 8 0 4 ∷ row 0 4 1 7 ∷ [])); written = found (fault (refusal_at 5 0)) }
    -- 1 ahead of 2; inside a row 3 ahead of 4 ahead of 5; 5 at the last place ahead of 6
    ∷ record { query = admission (table 0 (suc max_places) []); written = found (fault (refusal 1)) }
    ∷ record { query = admission (table_second (row 0 3 0 0)); written = found (fault (refusal_at 3 1)) }
    ∷ record { query = admission (table_second (row 1 3 0 0)); written = found (fault (refusal_at 4 1)) }
    ∷ record { query = admission (table 4 2 (row 3 8 1 100 ∷ row 3 4 0 100 ∷ [])); written = found (fault (refusal_at 5 1)) }
    -- 6 ahead of 7, 7 ahead of 12, and of two places that fail 7 the lower
    ∷ record { query = admission (table 4 2 (row 3 8 1 1 ∷ row 3 4 1 7 ∷ [])); written = found (fault (refusal 6)) }
    ∷ record { query = calling table_t_short 4611686018427387905 []; written = told (refused (refusal_at 7 1)) [] (standing 0 (0 ∷ 0 ∷ []) (0 ∷ 0 ∷ [])) }
    ∷ record { query = admission (table 4 2 (row 1 8 1 3 ∷ row 1 4 1 6 ∷ [])); written = found (fault (refusal_at 7 0)) }
    -- 11 ahead of 21
    ∷ record { query = calling table_t 0 (post 2 65536 ∷ []); written = told accepted (refused (refusal 11) ∷ []) (standing 0 (8 ∷ 4 ∷ []) (0 ∷ 0 ∷ [])) }
    -- 23 ahead of 22 and of 11
    ∷ record {
      query = querying (state_of table_t 4611686018427387904 (account 9 0 ∷ account 3 0 ∷ [])) slot;
      written = answered (refused (refusal 23)) (standing 4611686018427387904 (9 ∷ 3 ∷ []) (0 ∷ 0 ∷ []));
    }
    ∷ record {
      query = querying (state_of table_t 0 (account 9 0 ∷ account 3 0 ∷ [])) (post 9 1);
      written = answered (refused (refusal 23)) (standing 0 (9 ∷ 3 ∷ []) (0 ∷ 0 ∷ []));
    }
    ∷ []

-- clause 11.1: states that no start made
unfoldable pub state_rows : List Row
state_rows =
    -- a field past place 1 that is not 0: of the table, a credit, a backlog
    record {
      query = querying (state_of (table 4 2 (row 1 8 1 4 ∷ row 1 4 1 7 ∷ row 0 0 0 1 ∷ [])) 0 (account 8 0 ∷ account 4 0 ∷ [])) slot;
      written = answered (refused (refusal 23)) (standing 0 (8 ∷ 4 ∷ []) (0 ∷ 0 ∷ []));
    }
    ∷ record {
      query = querying (state_of table_t 0 (account 8 0 ∷ account 4 0 ∷ account 1 0 ∷ [])) slot;
      written = answered (refused (refusal 23)) (standing 0 (8 ∷ 4 ∷ []) (0 ∷ 0 ∷ []));
    }
    ∷ record {
      query = querying (state_of table_t 0 (account 8 0 ∷ account 4 0 ∷ account 0 1 ∷ [])) slot;
      written = answered (refused (refusal 23)) (standing 0 (8 ∷ 4 ∷ []) (0 ∷ 0 ∷ []));
    }
    ∷ record {
      query = querying (state_of table_t 0 (account 8 0 ∷ account 4 0 ∷ replicate (max_places - 3) no_account ++ account 0 1 ∷ [])) slot;
      written = answered (refused (refusal 23)) (standing 0 (8 ∷ 4 ∷ []) (0 ∷ 0 ∷ []));
    }
    -- a credit sum past the burst sum, of places 0 to 0 and of places 0 to 1; a backlog and a slot number past their limits
    ∷ record {
      query = querying (state_of table_t 0 (account 9 0 ∷ account 3 0 ∷ [])) slot;
      written = answered (refused (refusal 23)) (standing 0 (9 ∷ 3 ∷ []) (0 ∷ 0 ∷ []));
    }
    ∷ record {
      query = querying (state_of table_t 0 (account 8 0 ∷ account 5 0 ∷ [])) slot;
      written = answered (refused (refusal 23)) (standing 0 (8 ∷ 5 ∷ []) (0 ∷ 0 ∷ []));
    }
    ∷ record {
      query = querying (state_of table_t 0 (account 8 0 ∷ account 4 65536 ∷ [])) slot;
      written = answered (refused (refusal 23)) (standing 0 (8 ∷ 4 ∷ []) (0 ∷ 65536 ∷ []));
    }
    ∷ record {
      query = querying (state_of table_t 4611686018427387905 (account 8 0 ∷ account 4 0 ∷ [])) slot;
      written = answered (refused (refusal 23)) (standing 4611686018427387905 (8 ∷ 4 ∷ []) (0 ∷ 0 ∷ []));
    }
    -- a credit above its own burst within the sums, as of a blocked place, and a table that fails only 7: served by the rule
    ∷ record {
      query = querying (state_of table_t 7 (account 0 1 ∷ account 12 1 ∷ [])) slot;
      written = answered (granted 7 1) (standing 8 (1 ∷ 9 ∷ []) (1 ∷ 0 ∷ []));
    }
    ∷ record {
      query = querying (state_of table_t_short 0 (account 8 0 ∷ account 4 1 ∷ [])) slot;
      written = answered (granted 0 1) (standing 1 (8 ∷ 1 ∷ []) (0 ∷ 0 ∷ []));
    }
    ∷ []

-- clauses 5.2 to 5.6, where they are easy to get wrong (clause 10.9)
unfoldable pub rule_rows : List Row
rule_rows =
    -- N=1 and D=1
    record {
      query = calling (table 1 1 (row 1 1 1 1 ∷ [])) 0 (post 0 2 ∷ slot ∷ slot ∷ slot ∷ []);
      written = told accepted (accepted ∷ granted 0 0 ∷ granted 1 0 ∷ idle 2 ∷ []) (standing 3 (1 ∷ []) (0 ∷ []));
    }
    -- place 1 is blocked while place 0 spends its burst: its credit passes its burst of 4
    ∷ record {
      query = calling table_t 0 (post 0 3 ∷ post 1 1 ∷ slot ∷ slot ∷ []);
      written = told accepted (accepted ∷ accepted ∷ granted 0 0 ∷ granted 1 0 ∷ []) (standing 2 (2 ∷ 6 ∷ []) (1 ∷ 1 ∷ []));
    }
    -- place 0 has had its three; place 1, with credit 13, is granted its last transfer and keeps 12, above its burst of 4
    ∷ record {
      query = calling table_blocked 0 (post 0 3 ∷ post 1 1 ∷ replicate 4 slot);
      written = told accepted (accepted ∷ accepted ∷ granted 0 0 ∷ granted 1 0 ∷ granted 2 0 ∷ granted 3 1 ∷ []) (standing 4 (8 ∷ 12 ∷ []) (0 ∷ 0 ∷ []));
    }
    -- it is capped only in the slot after
    ∷ record {
      query = calling table_blocked 0 (post 0 3 ∷ post 1 1 ∷ replicate 5 slot);
      written = told accepted (accepted ∷ accepted ∷ granted 0 0 ∷ granted 1 0 ∷ granted 2 0 ∷ granted 3 1 ∷ idle 4 ∷ [])
          (standing 5 (9 ∷ 4 ∷ []) (0 ∷ 0 ∷ []));
    }
    -- a refused post uses no slot up and leaves no mark
    ∷ record {
      query = calling table_t 5 (slot ∷ post 2 1 ∷ post 0 65536 ∷ slot ∷ []);
      written = told accepted (idle 5 ∷ refused (refusal 11) ∷ refused (refusal 21) ∷ idle 6 ∷ []) (standing 7 (8 ∷ 4 ∷ []) (0 ∷ 0 ∷ []));
    }
    ∷ []

-- clause 10.8: calls and answers as lent numbers
unfoldable pub replay_rows : List Row
replay_rows =
    -- two posts, a post to an absent place and two slots: five calls, room for four answers, and one number left over in each list
    record {
      query = replaying table_t 7
          (1 ∷ 0 ∷ 3 ∷ 9 ∷ 1 ∷ 3 ∷ 1 ∷ 2 ∷ 1 ∷ 0 ∷ 5 ∷ 5 ∷ 0 ∷ 0 ∷ 0 ∷ 1 ∷ [])
          (90 ∷ 91 ∷ 92 ∷ 93 ∷ 94 ∷ 95 ∷ 96 ∷ 97 ∷ 98 ∷ 99 ∷ 100 ∷ 101 ∷ 102 ∷ []);
      written = replayed accepted (0 ∷ 0 ∷ 0 ∷ 0 ∷ 0 ∷ 0 ∷ 3 ∷ 11 ∷ 0 ∷ 1 ∷ 7 ∷ 0 ∷ 102 ∷ []) (standing 8 (5 ∷ 5 ∷ []) (2 ∷ 3 ∷ []));
    }
    -- an idle slot; more room than calls
    ∷ record {
      query = replaying table_t 7 (0 ∷ 0 ∷ 0 ∷ []) (90 ∷ 91 ∷ 92 ∷ 93 ∷ 94 ∷ 95 ∷ []);
      written = replayed accepted (2 ∷ 7 ∷ 0 ∷ 93 ∷ 94 ∷ 95 ∷ []) (standing 8 (8 ∷ 4 ∷ []) (0 ∷ 0 ∷ []));
    }
    -- a refused start makes no call and writes nothing
    ∷ record {
      query = replaying table_t_short 7 (0 ∷ 0 ∷ 0 ∷ []) (90 ∷ 91 ∷ 92 ∷ []);
      written = replayed (refused (refusal_at 7 1)) (90 ∷ 91 ∷ 92 ∷ []) (standing 0 (0 ∷ 0 ∷ []) (0 ∷ 0 ∷ []));
    }
    ∷ []
