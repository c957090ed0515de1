-- Every row passes: the definitions compute to what is written. Assumes nothing.
use Rattle.std.proofs.Common.{refl}
use Rattle.lists.specs.Orders.{without}
use Rattle.lists.specs.Sums.{total, joined, every, up_to}
use Rattle.lists.specs.Overwriting.{written_over}
use Rattle.lists.specs.Pairs.{paired}
use Rattle.lists.specs.Runs
use Rattle.lists.specs.Places.{places_from}
use Rattle.groups.specs.Groups.{last_group, combined, later_groups, number_of, groups_of, number_bytes, number_written}
use Rattle.terms.specs.Refusals.{gate, then}
use Rattle.terms.specs.Table.{table_of, held_to, fields_verdict, each_place, tail_verdict, rate_sum_verdict, need_fits, need_fits_verdict, offered_row_verdict, verdict_by}
use Rattle.terms.specs.Figures.{rounded_up, finish, finish_verdict, admission_verdict}
use Rattle.terms.specs.State.{accounts_hold, sound, place_verdict}
use Rattle.terms.specs.Start.{opening, no_state, start_verdict, start}
use Rattle.carrying.specs.Carry.{carry}
use Rattle.terms.specs.Queries.{figures_verdict, figures}
use Rattle.terms.specs.Chain.{named, follows, chain_to, chain_figure, name_verdict, circle_verdict, following_verdict, chain_verdict, chain}
use Rattle.terms.specs.Input.{input_verdict}
use Rattle.lead_parts.specs.Lead.{lead_of, lead_verdict, lead_query}
use Rattle.table_bytes.specs.Reading.{next, field_read, row_fields_read, row_read, items_read, last_verdict, settled, read_table, places_by, numbers_by}
use Rattle.table_bytes.specs.Writing.{table_numbers, table_bytes, write_verdict, write_table}
use Rattle.rule.specs.Rule.{eligible, later, first_eligible, served, passed, after}
use Rattle.rule.specs.Grants.{to_place}
use Rattle.rule.specs.Calls.{grant_of, advanced, with_count, with_post, done, rule_verdict, called}
use Rattle.rule.specs.Log.{slots_state, slots_log, slots_verdict, run_verdict, run}
use Rattle.guarantees.specs.FinishFigure.{former_finish, former_finish_verdict, former_verdict}
use Rattle.ordering.specs.Order.{need_holds, last_holding, filled_up, order}
use Rattle.ordered_bytes.specs.OrderBytes.{listed_verdict, order_read, order_bytes}
use Rattle.replay.specs.Replay.{call_of, calls_of, made_calls, answer_words, calls_from, continued, replay}
use Rattle.lines.specs.Text.{digits_of, decimal, spaced, line}
use Rattle.lines.specs.Lines.{header, end_line, refused_line, slot_line}
use Rattle.reads.specs.Reads.{start_read, state_read, begun}
use Rattle.listing.specs.Listing.{posted, post_and_slot, slot_output, slot_step, step, headed, first_step, texts, listing}
use Rattle.cases.specs.Rows.{padded, rows_of, state_of, stands_at, waits_throughout, reply}
use Rattle.cases.specs.BenchRows.{table_t, table_t_short, table_rates, table_burst, table_denominator, table_five, table_late, three_each, log_nine, late_calls, bytes_t, bench_rows}
use Rattle.cases.specs.EdgeRows.{table_first, table_second, table_past_two, table_past_last, table_largest, table_blocked, limit_rows, wide_rows, order_rows, state_rows, rule_rows, replay_rows}
use Rattle.cases.specs.BytesRows.{table_long, bytes_long, table_full, bytes_places, table_past, table_wide, old, marked, rates_t, bursts_t, needs_t, withins_t, single, unwritten, unread, number_rows, take_rows, lend_rows, read_rows, write_rows, refused_write_rows, changed_write_rows, ordered_write_rows}
use Rattle.cases.specs.LogRows.{start_t, unsound_t, start_full, start_three, start_last, check_rows, run_rows, lead_rows, figure_rows}
use Rattle.cases.specs.ListingRows.{header_text, listing_rows}
use Rattle.cases.specs.RequestRows.{table_thirds, table_faster, table_tens, table_high, finish_rows, table_three, table_basin, table_guessed, table_alike, withins_rising, withins_falling, patient, greedy, table_whole, search_rows, bytes_guessed, search_bytes_rows}
use Rattle.cases.specs.ChainRows.{all_in_one, chain_rows, circle_rows, absent_rows, table_display, display_calls, display_rows}
use Rattle.cases.specs.CarryRows.{table_one_more, bytes_one_more, wide_table_rows, old_of, old_t, old_with, old_past, at_last, old_full, basin_calls, basin_before, basin_log, basin_last, carry_rows, side_rows, old_unsound_rows}
use Rattle.cases.specs.NeedRows.{table_two, table_last_pair, table_basin_with, need_rows, need_order_rows, need_bytes_rows, table_thrice, thrice, need_served_rows}
use Rattle.cases.specs.Cases.{AllPass}

pub all_pass : AllPass
unfolding total joined every up_to Runs.end Runs.answers last_group combined later_groups number_of groups_of number_bytes number_written gate then held_to fields_verdict each_place tail_verdict rate_sum_verdict need_fits need_fits_verdict offered_row_verdict verdict_by rounded_up finish finish_verdict admission_verdict accounts_hold sound place_verdict opening no_state start_verdict start next field_read row_fields_read row_read items_read places_by numbers_by last_verdict settled read_table table_numbers table_bytes write_verdict write_table figures_verdict figures input_verdict lead_of lead_verdict lead_query slots_state slots_log slots_verdict run_verdict run eligible later first_eligible served passed after grant_of advanced with_count with_post done rule_verdict called call_of calls_of made_calls answer_words written_over calls_from continued replay to_place padded rows_of table_of state_of stands_at waits_throughout reply table_t table_t_short table_rates table_burst table_denominator table_five table_late three_each log_nine late_calls bytes_t bench_rows table_first table_second table_past_two table_past_last table_largest table_blocked limit_rows wide_rows order_rows state_rows rule_rows replay_rows table_long bytes_long table_full bytes_places table_past table_wide old marked rates_t bursts_t needs_t withins_t single unwritten unread number_rows take_rows lend_rows read_rows write_rows refused_write_rows changed_write_rows ordered_write_rows start_t unsound_t start_full start_three start_last check_rows run_rows lead_rows figure_rows digits_of decimal spaced line header end_line refused_line slot_line posted post_and_slot slot_output slot_step step start_read state_read begun headed first_step texts listing header_text listing_rows former_finish former_finish_verdict former_verdict table_thirds table_faster table_tens table_high finish_rows without need_holds last_holding filled_up order listed_verdict order_read order_bytes table_three table_basin table_guessed table_alike withins_rising withins_falling patient greedy table_whole search_rows bytes_guessed search_bytes_rows named follows chain_to chain_figure name_verdict circle_verdict following_verdict chain_verdict chain places_from all_in_one chain_rows circle_rows absent_rows table_display display_calls display_rows carry paired table_one_more bytes_one_more wide_table_rows old_of old_t old_with old_past at_last old_full basin_calls basin_before basin_log basin_last carry_rows side_rows old_unsound_rows table_two table_last_pair table_basin_with need_rows need_order_rows need_bytes_rows table_thrice thrice need_served_rows
all_pass = refl
