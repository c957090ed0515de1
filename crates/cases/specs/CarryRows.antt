-- Request 5: more places than the old limit let in (clause 2.1), and old states carried over (clauses 11.4 and 11.5), worked out by hand.
use Rattle.std.specs.Prelude.{List, [], ◌∷◌, ◌++◌, ℕ, suc, ◌-◌, replicate}
use Rattle.lists.specs.Sums.{joined}
use Rattle.lists.specs.Overwriting.{written_over}
use Rattle.terms.specs.Table.{Table, no_table, table_of}
use Rattle.terms.specs.Limits.{old_places}
use Rattle.terms.specs.Refusals.{faultless, fault, refusal}
use Rattle.terms.specs.Answers.{accepted, refused}
use Rattle.carrying.specs.Carry.{OldPlace, OldState, kept}
use Rattle.rule.specs.Calls.{Call, post, slot}
use Rattle.guarantees.specs.Counts.{state_after}
use Rattle.cases.specs.Rows.{row, account, table, state_of, all_zero_state, Row, reading, reading_under, admission, admission_under, carrying, beside_old, Standing, standing, read_as, found, started_as, ran_both}
use Rattle.cases.specs.BenchRows.{table_t}
use Rattle.cases.specs.RequestRows.{table_basin}

-- ---- one place more than the old limit

-- alike, each with its share of the line
unfoldable pub table_one_more : Table
table_one_more = table (suc old_places) (suc old_places) (replicate (suc old_places) (row 1 (suc old_places) 1 10000))

-- its bytes: 10,000 is 90 4E
unfoldable pub bytes_one_more : List ℕ
bytes_one_more = suc old_places ∷ suc old_places ∷ joined (λ place. place) (replicate (suc old_places) (1 ∷ suc old_places ∷ 1 ∷ 144 ∷ 78 ∷ []))

unfoldable pub wide_table_rows : List Row
wide_table_rows =
    -- it was refused 2 and is accepted, as numbers and as bytes
    record { query = admission_under old_places table_one_more; written = found (fault (refusal 2)) }
    ∷ record { query = admission table_one_more; written = found faultless }
    ∷ record { query = reading_under old_places bytes_one_more; written = read_as (refused (refusal 2)) (no_table old_places) }
    ∷ record { query = reading bytes_one_more; written = read_as accepted table_one_more }
    ∷ []

-- ---- old states

-- n, b, j, L, c and q of an old place
abbrev pub stood : (n b j L c q : ℕ) → OldPlace
stood n b j L c q = record { rate = n; burst = b; need = j; within = L; credit = c; backlog = q }

abbrev pub no_place : OldPlace
no_place = stood 0 0 0 0 0 0

-- with room for the old limit: D, N, the slot number, places from place 0 on, and zeros
unfoldable pub old_of : (d n slot : ℕ) → List OldPlace → OldState
old_of d n at places = record { denominator = d; count = n; slot = at; places = written_over places (replicate old_places no_place) }

-- T with this D, N and slot number, and the c and q of both places
unfoldable pub old_t : (d n slot c q c' q' : ℕ) → OldState
old_t d n at c q c' q' = old_of d n at (stood 1 8 1 4 c q ∷ stood 1 4 1 7 c' q' ∷ [])

-- T at slot 0 with this place 1; and with these places behind
unfoldable pub old_with : OldPlace → OldState
old_with x = old_of 4 2 0 (stood 1 8 1 4 8 0 ∷ x ∷ [])

unfoldable pub old_past : List OldPlace → OldState
old_past places = old_of 4 2 0 (stood 1 8 1 4 8 0 ∷ stood 1 4 1 7 4 0 ∷ places)

-- up to the last place of the old limit, and this one there
unfoldable pub at_last : OldPlace → List OldPlace
at_last x = replicate (old_places - 3) no_place ++ x ∷ []

-- all places of the old limit, whatever N says
unfoldable pub old_full : (n : ℕ) → OldState
old_full n = old_of old_places n 9 (replicate old_places (stood 1 old_places 1 10000 old_places 1))

-- the example basin on an old unit, seven slots after its posts
unfoldable pub basin_calls : List Call
basin_calls = post 0 50 ∷ post 1 20 ∷ post 2 30 ∷ post 3 40 ∷ post 4 90 ∷ replicate 7 slot

unfoldable pub basin_before : OldState
basin_before =
    kept (state_after old_places
    (table_of old_places 20 5 (row 4 40 2 10 ∷ row 2 20 1 15 ∷ row 2 20 1 15 ∷ row 4 60 3 25 ∷ row 8 160 8 50 ∷ []))
    0 basin_calls)

-- what it grants in its next 182 slots, and how it stands then
unfoldable pub basin_log : List ℕ
basin_log = 3 ∷ 3 ∷ joined (λ cycle. cycle) (replicate 18 (0 ∷ 1 ∷ 2 ∷ 3 ∷ 4 ∷ 0 ∷ 3 ∷ 4 ∷ 4 ∷ 4 ∷ []))

unfoldable pub basin_last : Standing
basin_last = standing 189 (16 ∷ 18 ∷ 18 ∷ 16 ∷ 232 ∷ []) (11 ∷ 1 ∷ 11 ∷ 0 ∷ 18 ∷ [])

-- clauses 11.4 and 16.16
unfoldable pub carry_rows : List Row
carry_rows =
    -- clause 16.16: T after the first two slots of clause 16.3, where place 1 is blocked and has saved more than its burst
    record { query = carrying (old_t 4 2 2 2 1 6 3); written = started_as accepted (state_of table_t 2 (account 2 1 ∷ account 6 3 ∷ [])) }
    -- at the last slot number, and with the largest backlog
    ∷ record {
      query = carrying (old_t 4 2 4611686018427387904 8 65535 4 0);
      written = started_as accepted (state_of table_t 4611686018427387904 (account 8 65535 ∷ account 4 0 ∷ []));
    }
    -- a need that its figure does not meet: 23 is not 7
    ∷ record {
      query = carrying (old_with (stood 1 4 1 6 4 0));
      written = started_as accepted (state_of (table 4 2 (row 1 8 1 4 ∷ row 1 4 1 6 ∷ [])) 0 (account 8 0 ∷ account 4 0 ∷ []));
    }
    -- every place of the old limit taken
    ∷ record {
      query = carrying (old_full old_places);
      written = started_as accepted
          (state_of (table old_places old_places (replicate old_places (row 1 old_places 1 10000))) 9 (replicate old_places (account old_places 1)));
    }
    -- the basin in the middle of its run
    ∷ record {
      query = carrying basin_before;
      written = started_as accepted (state_of table_basin 7 (account 8 47 ∷ account 14 19 ∷ account 14 29 ∷ account 48 38 ∷ account 216 90 ∷ []));
    }
    ∷ []

-- clause 11.5: the old state under the old limit, and what it is carried over to under the new one
unfoldable pub side_rows : List Row
side_rows =
    -- the other slots of clause 16.3
    record {
      query = beside_old (old_t 4 2 2 2 1 6 3) 7;
      written = ran_both (1 ∷ 0 ∷ 1 ∷ 255 ∷ 255 ∷ 1 ∷ 255 ∷ []) (standing 9 (5 ∷ 1 ∷ []) (0 ∷ 0 ∷ []))
          (1 ∷ 0 ∷ 1 ∷ 255 ∷ 255 ∷ 1 ∷ 255 ∷ []) (standing 9 (5 ∷ 1 ∷ []) (0 ∷ 0 ∷ []));
    }
    -- 182 slots of the basin, whose line is full: two more for the handset, and then ten again and again
    ∷ record { query = beside_old basin_before 182; written = ran_both basin_log basin_last basin_log basin_last }
    ∷ []

-- clauses 1.6 and 11.4: an old state that is not sound is 23, and the state handed back is all 0
abbrev pub unsound : OldState → Row
unsound o = record { query = carrying o; written = started_as (refused (refusal 23)) all_zero_state }

unfoldable pub old_unsound_rows : List Row
old_unsound_rows =
    -- D
    unsound (old_t 0 2 0 8 0 4 0)
    ∷ unsound (old_of 65536 1 0 (stood 1 65536 1 65536 65536 0 ∷ []))
    -- N of 0; N above the places that hold; N one above the old limit, where every place of it holds
    ∷ unsound (old_of 4 0 0 [])
    ∷ unsound (old_t 4 3 0 8 0 4 0)
    ∷ unsound (old_full (suc old_places))
    -- each field of a row, below its limit and above it
    ∷ unsound (old_with (stood 0 4 1 7 4 0))
    ∷ unsound (old_with (stood 5 4 1 7 4 0))
    ∷ unsound (old_with (stood 1 3 1 7 3 0))
    ∷ unsound (old_with (stood 1 16777217 1 7 4 0))
    ∷ unsound (old_with (stood 1 4 0 7 4 0))
    ∷ unsound (old_with (stood 1 4 256 1027 4 0))
    ∷ unsound (old_with (stood 1 4 1 0 4 0))
    ∷ unsound (old_with (stood 1 4 1 1073741825 4 0))
    -- rates that sum to more than D
    ∷ unsound (old_with (stood 4 4 1 7 4 0))
    -- each field past place N−1, at the next place and at the last
    ∷ unsound (old_past (stood 1 0 0 0 0 0 ∷ []))
    ∷ unsound (old_past (stood 0 1 0 0 0 0 ∷ []))
    ∷ unsound (old_past (stood 0 0 1 0 0 0 ∷ []))
    ∷ unsound (old_past (stood 0 0 0 1 0 0 ∷ []))
    ∷ unsound (old_past (stood 0 0 0 0 1 0 ∷ []))
    ∷ unsound (old_past (stood 0 0 0 0 0 1 ∷ []))
    ∷ unsound (old_past (at_last (stood 1 0 0 0 0 0)))
    ∷ unsound (old_past (at_last (stood 0 1 0 0 0 0)))
    ∷ unsound (old_past (at_last (stood 0 0 1 0 0 0)))
    ∷ unsound (old_past (at_last (stood 0 0 0 1 0 0)))
    ∷ unsound (old_past (at_last (stood 0 0 0 0 1 0)))
    ∷ unsound (old_past (at_last (stood 0 0 0 0 0 1)))
    -- the slot number, a backlog, and the credits of place 0 and of both places together
    ∷ unsound (old_t 4 2 4611686018427387905 8 0 4 0)
    ∷ unsound (old_t 4 2 0 8 65536 4 0)
    ∷ unsound (old_t 4 2 0 9 0 3 0)
    ∷ unsound (old_t 4 2 0 8 0 5 0)
    ∷ []
