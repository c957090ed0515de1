-- Chains (clauses 9.1 to 9.4) in README's basin, a pump, two probes, a handset and a service log, worked out by hand. Their finish figures
-- for one transfer are 5, 13, 15, 12 and 20. And a run of calls in which the links of a chain are posted in turn.
use Rattle.std.specs.Prelude.{◌≡◌, List, [], ◌∷◌, ◌++◌, ℕ, ◌-◌, replicate}
use Rattle.lists.specs.Places.{places_from}
use Rattle.terms.specs.Table.{Table}
use Rattle.terms.specs.State.{State}
use Rattle.terms.specs.Limits.{max_places}
use Rattle.terms.specs.Refusals.{refusal, refusal_at}
use Rattle.terms.specs.Queries as queries
use Rattle.terms.specs.Answers.{accepted, granted, refused}
use Rattle.terms.specs.Chain.{nobody}
use Rattle.terms.specs.Chain as chains
use Rattle.rule.specs.Calls.{Call, post, slot}
use Rattle.guarantees.specs.Counts.{slots_in, Accepted, answers_from}
use Rattle.guarantees.specs.Chains.{PostInTurn, GrantedInTurn}
use Rattle.cases.specs.Rows.{row, account, table, state_of, Row, calling, querying_figures, chaining, after, standing, told, told_figures, told_chain}
use Rattle.cases.specs.BenchRows.{table_t_short}
use Rattle.cases.specs.EdgeRows.{table_largest}
use Rattle.cases.specs.RequestRows.{table_basin}

abbrev pub basin : State
basin = after table_basin 0 []

-- D=10 and four places
abbrev pub four_heads : State
four_heads = after (table 10 4 (row 1 10 1 10 ∷ row 2 20 1 7 ∷ row 3 30 1 8 ∷ row 4 40 1 18 ∷ [])) 0 []

-- the basin with a credit above its burst
abbrev pub basin_unsound : State
basin_unsound = state_of table_basin 0 (account 41 0 ∷ account 20 0 ∷ account 20 0 ∷ account 60 0 ∷ account 160 0 ∷ [])

-- each place follows the one above it
unfoldable pub all_in_one : List ℕ
all_in_one = nobody ∷ places_from (λ p. p) 0 (max_places - 1)

-- clause 9.2
unfoldable pub chain_rows : List Row
chain_rows =
    -- a chain of one is the finish figure itself, with a name for each place or none given
    record { query = chaining basin 3 (replicate max_places nobody); written = told_chain (chains.figured 12) }
    ∷ record { query = querying_figures basin 3 1; written = told_figures (queries.figured 7 12) }
    ∷ record { query = chaining basin 0 []; written = told_chain (chains.figured 5) }
    -- the handset follows the second probe, and the log the handset: 15 + 12 + 20. A figure is that of the chain up to its place
    ∷ record { query = chaining basin 4 (nobody ∷ nobody ∷ nobody ∷ 2 ∷ 3 ∷ []); written = told_chain (chains.figured 47) }
    ∷ record { query = chaining basin 3 (nobody ∷ nobody ∷ nobody ∷ 2 ∷ 3 ∷ []); written = told_chain (chains.figured 27) }
    ∷ record { query = chaining basin 2 (nobody ∷ nobody ∷ nobody ∷ 2 ∷ 3 ∷ []); written = told_chain (chains.figured 15) }
    -- a place may follow one below it: the first probe follows the handset
    ∷ record { query = chaining basin 1 (nobody ∷ 3 ∷ []); written = told_chain (chains.figured 25) }
    -- each figure is rounded up by itself: 12 1/2 and 14 2/7 come to 13 + 15
    ∷ record { query = chaining basin 2 (nobody ∷ nobody ∷ 1 ∷ []); written = told_chain (chains.figured 28) }
    -- two places follow the first probe: 13 + 15, and 13 + 12
    ∷ record { query = chaining basin 2 (nobody ∷ nobody ∷ 1 ∷ 1 ∷ []); written = told_chain (chains.figured 28) }
    ∷ record { query = chaining basin 3 (nobody ∷ nobody ∷ 1 ∷ 1 ∷ []); written = told_chain (chains.figured 25) }
    -- all five: 5 + 13 + 15 + 12 + 20
    ∷ record { query = chaining basin 4 all_in_one; written = told_chain (chains.figured 65) }
    -- as many places as there can be, with the largest bursts
    ∷ record { query = chaining (after table_largest 0 []) (max_places - 1) all_in_one; written = told_chain (chains.figured 4019976374) }
    -- the figure is the table's: backlogs and credits make no difference, nor does a need that 7 would refuse. In T it is 4 + 7
    ∷ record { query = chaining (after table_basin 0 (post 0 9 ∷ post 4 2 ∷ slot ∷ slot ∷ slot ∷ [])) 4 all_in_one; written = told_chain (chains.figured 65) }
    ∷ record { query = chaining (state_of table_t_short 0 []) 1 (nobody ∷ 0 ∷ []); written = told_chain (chains.figured 11) }
    -- clause 16.15
    ∷ record { query = chaining four_heads 0 (nobody ∷ nobody ∷ 1 ∷ 2 ∷ []); written = told_chain (chains.figured 10) }
    ∷ record { query = chaining four_heads 1 (nobody ∷ nobody ∷ 1 ∷ 2 ∷ []); written = told_chain (chains.figured 7) }
    ∷ record { query = chaining four_heads 2 (nobody ∷ nobody ∷ 1 ∷ 2 ∷ []); written = told_chain (chains.figured 15) }
    ∷ record { query = chaining four_heads 3 (nobody ∷ nobody ∷ 1 ∷ 2 ∷ []); written = told_chain (chains.figured 33) }
    ∷ record { query = chaining four_heads 3 (nobody ∷ 1 ∷ 0 ∷ 2 ∷ []); written = told_chain (chains.refused (refusal_at 16 1)) }
    ∷ record { query = chaining four_heads 3 (nobody ∷ 4 ∷ nobody ∷ nobody ∷ []); written = told_chain (chains.refused (refusal 11)) }
    ∷ []

-- clause 9.3: refusal 16
unfoldable pub circle_rows : List Row
circle_rows =
    -- a place that follows itself, asked for or not
    record { query = chaining basin 2 (nobody ∷ nobody ∷ 2 ∷ []); written = told_chain (chains.refused (refusal_at 16 2)) }
    ∷ record { query = chaining basin 0 (nobody ∷ nobody ∷ nobody ∷ nobody ∷ 4 ∷ []); written = told_chain (chains.refused (refusal_at 16 4)) }
    -- names that are all 0 are place 0 following itself
    ∷ record { query = chaining basin 4 (replicate max_places 0); written = told_chain (chains.refused (refusal_at 16 0)) }
    -- two that follow each other, and three in a ring: the lowest of them, whichever is asked for
    ∷ record { query = chaining basin 3 (nobody ∷ 3 ∷ nobody ∷ 1 ∷ []); written = told_chain (chains.refused (refusal_at 16 1)) }
    ∷ record { query = chaining basin 1 (nobody ∷ 3 ∷ nobody ∷ 1 ∷ []); written = told_chain (chains.refused (refusal_at 16 1)) }
    ∷ record { query = chaining basin 4 (nobody ∷ nobody ∷ 4 ∷ 2 ∷ 3 ∷ []); written = told_chain (chains.refused (refusal_at 16 2)) }
    -- two circles: the lowest place of both
    ∷ record { query = chaining basin 0 (nobody ∷ 4 ∷ 3 ∷ 2 ∷ 1 ∷ []); written = told_chain (chains.refused (refusal_at 16 1)) }
    -- a circle beside the asked chain, which ends well
    ∷ record { query = chaining basin 1 (nobody ∷ 0 ∷ 3 ∷ 2 ∷ []); written = told_chain (chains.refused (refusal_at 16 2)) }
    -- places 0 and 1 lead into the circle of 2 and 3, and are not on it; so does place 4
    ∷ record { query = chaining basin 0 (1 ∷ 2 ∷ 3 ∷ 2 ∷ []); written = told_chain (chains.refused (refusal_at 16 2)) }
    ∷ record { query = chaining basin 4 (nobody ∷ nobody ∷ 3 ∷ 2 ∷ 3 ∷ []); written = told_chain (chains.refused (refusal_at 16 2)) }
    -- all five in one ring, and the same without the last step
    ∷ record { query = chaining basin 4 (4 ∷ 0 ∷ 1 ∷ 2 ∷ 3 ∷ []); written = told_chain (chains.refused (refusal_at 16 0)) }
    ∷ record { query = chaining basin 0 (4 ∷ nobody ∷ 1 ∷ 2 ∷ 3 ∷ []); written = told_chain (chains.figured 65) }
    ∷ []

-- clauses 9.1, 9.3 and 13.12: refusal 11, and names that are not read
unfoldable pub absent_rows : List Row
absent_rows =
    -- place 5 is not there: asked for, followed on the asked chain, followed off it; so is place 254, and 255 is nobody
    record { query = chaining basin 5 []; written = told_chain (chains.refused (refusal 11)) }
    ∷ record { query = chaining basin 1 (nobody ∷ 5 ∷ []); written = told_chain (chains.refused (refusal 11)) }
    ∷ record { query = chaining basin 0 (nobody ∷ nobody ∷ nobody ∷ nobody ∷ 5 ∷ []); written = told_chain (chains.refused (refusal 11)) }
    ∷ record { query = chaining basin 0 (nobody ∷ 254 ∷ []); written = told_chain (chains.refused (refusal 11)) }
    ∷ record { query = chaining basin 0 (nobody ∷ 4 ∷ []); written = told_chain (chains.figured 5) }
    -- the sixth name and those behind it are not read: one that is not there, one that follows itself, and eleven that follow place 0
    ∷ record { query = chaining basin 4 (replicate 5 nobody ++ 200 ∷ []); written = told_chain (chains.figured 20) }
    ∷ record { query = chaining basin 4 (replicate 5 nobody ++ 5 ∷ []); written = told_chain (chains.figured 20) }
    ∷ record { query = chaining basin 4 (replicate 4 nobody ++ 0 ∷ replicate 11 0); written = told_chain (chains.figured 25) }
    -- 23 is ahead of 11, and 11 of 16, by the place asked for or by a name at the last place
    ∷ record { query = chaining basin_unsound 5 (0 ∷ 5 ∷ []); written = told_chain (chains.refused (refusal 23)) }
    ∷ record { query = chaining basin_unsound 0 (0 ∷ []); written = told_chain (chains.refused (refusal 23)) }
    ∷ record { query = chaining basin 5 (0 ∷ []); written = told_chain (chains.refused (refusal 11)) }
    ∷ record { query = chaining basin 0 (0 ∷ nobody ∷ nobody ∷ nobody ∷ 9 ∷ []); written = told_chain (chains.refused (refusal 11)) }
    ∷ record { query = chaining basin 0 (0 ∷ []); written = told_chain (chains.refused (refusal_at 16 0)) }
    ∷ []

-- ---- a run: the display follows the probe, and the handset the display

-- a pump, a probe, a display and a handset; their finish figures for one transfer are 4, 6, 12 and 16
unfoldable pub table_display : Table
table_display = table 8 4 (row 2 8 1 4 ∷ row 2 8 1 6 ∷ row 1 8 1 12 ∷ row 1 8 1 16 ∷ [])

abbrev pub display_names : List ℕ
display_names = nobody ∷ nobody ∷ 1 ∷ 2 ∷ []

-- The pump has twenty waiting and gets more. The probe is posted and granted in the second slot, the display in the third, and the
-- handset in the fifth; each has its burst for a credit when it posts, which is D. Between a grant and the next link's post stand a post to
-- the pump and one that is refused 11.
unfoldable pub display_calls : (slots : ℕ) → List Call
display_calls slots =
    post 0 20 ∷ post 1 1 ∷ slot ∷ slot
    ∷ post 9 1 ∷ post 0 2 ∷ post 2 1 ∷ slot
    ∷ post 9 1 ∷ post 0 2 ∷ post 3 1 ∷ replicate slots slot

unfoldable pub display_rows : List Row
display_rows =
    -- up to the handset's grant, with two slots after its post; the handset's figure is 6 + 12 + 16
    record {
      query = calling table_display 0 (display_calls 2);
      written = told accepted
          (accepted ∷ accepted ∷ granted 0 0 ∷ granted 1 1
          ∷ refused (refusal 11) ∷ accepted ∷ accepted ∷ granted 2 2
          ∷ refused (refusal 11) ∷ accepted ∷ accepted ∷ granted 3 0 ∷ granted 4 3 ∷ [])
          (standing 5 (2 ∷ 8 ∷ 3 ∷ 2 ∷ []) (22 ∷ 0 ∷ 0 ∷ 0 ∷ []));
    }
    ∷ record { query = chaining (after table_display 0 []) 3 display_names; written = told_chain (chains.figured 34) }
    ∷ []

-- Clause 9.4: what it asks of the calls is met by these with 34 slots, and so is what it promises.
pub record DisplayRun : Type 0 where
  pub started : Accepted max_places table_display 0
  pub figure : chains.chain max_places (after table_display 0 []) 3 display_names ≡ chains.figured 34
  pub in_turn : PostInTurn max_places (chains.chain_of table_display display_names 3) (after table_display 0 []) (display_calls 31)
  pub slots : slots_in (answers_from max_places (after table_display 0 []) (display_calls 31)) ≡ 34
  pub in_time : GrantedInTurn max_places (chains.chain_of table_display display_names 3) (after table_display 0 []) (display_calls 31) 34
