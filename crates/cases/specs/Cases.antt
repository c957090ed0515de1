-- Every row gets the reply that is written for it: one statement about all rows, those of clauses 14.4 and 16.1 to 16.17 among them.
use Rattle.std.specs.Prelude.{◌≡◌, List, ◌++◌, map}
use Rattle.cases.specs.Rows.{Row, reply}
use Rattle.cases.specs.BenchRows.{bench_rows}
use Rattle.cases.specs.EdgeRows.{limit_rows, wide_rows, order_rows, state_rows, rule_rows, replay_rows}
use Rattle.cases.specs.BytesRows.{number_rows, take_rows, lend_rows, read_rows, write_rows, refused_write_rows, changed_write_rows, ordered_write_rows}
use Rattle.cases.specs.LogRows.{check_rows, run_rows, lead_rows, figure_rows}
use Rattle.cases.specs.ListingRows.{listing_rows}
use Rattle.cases.specs.RequestRows.{finish_rows, search_rows, search_bytes_rows}
use Rattle.cases.specs.ChainRows.{chain_rows, circle_rows, absent_rows, display_rows}
use Rattle.cases.specs.CarryRows.{wide_table_rows, carry_rows, side_rows, old_unsound_rows}
use Rattle.cases.specs.NeedRows.{need_rows, need_order_rows, need_bytes_rows, need_served_rows}

abbrev pub rows : List Row
rows = bench_rows ++ limit_rows ++ wide_rows ++ order_rows ++ state_rows ++ rule_rows ++ replay_rows ++ number_rows ++ take_rows ++ lend_rows ++ read_rows ++ write_rows ++ refused_write_rows ++ changed_write_rows ++ ordered_write_rows ++ check_rows ++ run_rows ++ lead_rows ++ figure_rows ++ listing_rows ++ finish_rows ++ search_rows ++ search_bytes_rows ++ chain_rows ++ circle_rows ++ absent_rows ++ display_rows ++ wide_table_rows ++ carry_rows ++ side_rows ++ old_unsound_rows ++ need_rows ++ need_order_rows ++ need_bytes_rows ++ need_served_rows

abbrev pub AllPass : Type 0
AllPass = map (λ r. reply r.query) rows ≡ map (λ r. r.written) rows
