-- Every row passes: the definitions compute to what is written. One list after the other, since the check counts the steps of each
-- proof and the words grow with the largest N. Assumes nothing.
use Rattle.std.proofs.Common.{refl}
use Rattle.lists.specs.Sums.{total, joined, every, up_to}
use Rattle.lists.specs.Orders.{without}
use Rattle.lists.specs.Pairs.{paired}
use Rattle.lists.specs.Overwriting.{written_over}
use Rattle.lists.specs.Places.{places_from}
use Rattle.groups.specs.Groups.{last_group, combined, later_groups, number_of, groups_of, number_bytes}
use Rattle.terms.specs.Refusals.{gate, then}
use Rattle.terms.specs.Table.{table_of, held_to, fields_verdict, each_place, tail_verdict, rate_sum_verdict, need_fits, need_fits_verdict, offered_row_verdict, verdict_by}
use Rattle.terms.specs.Figures.{rounded_up, finish, finish_verdict, admission_verdict}
use Rattle.terms.specs.State.{accounts_hold, sound, place_verdict}
use Rattle.terms.specs.Start.{opening, no_state, start_verdict, start}
use Rattle.carrying.specs.Carry.{carry}
use Rattle.terms.specs.Queries.{figures_verdict, figures}
use Rattle.terms.specs.Chain.{named, follows, chain_to, chain_figure, name_verdict, circle_verdict, following_verdict, chain_verdict, chain}
use Rattle.terms.specs.Input.{input_verdict}
use Rattle.lead_parts.specs.Lead.{lead_of, lead_verdict, lead_query}
use Rattle.table_bytes.specs.Reading.{next, field_read, row_fields_read, row_read, items_read, last_verdict, settled, read_table, places_by, numbers_by}
use Rattle.table_bytes.specs.Writing.{table_numbers, table_bytes, write_verdict, write_table}
use Rattle.rule.specs.Rule.{eligible, later, first_eligible, served, passed, after}
use Rattle.rule.specs.Calls.{grant_of, advanced, with_count, with_post, done, rule_verdict, called}
use Rattle.rule.specs.Log.{slots_state, slots_log, slots_verdict, run_verdict, run}
use Rattle.layout.specs.Words.{room_of_words, right_length, state_words, words_state}
use Rattle.layout.specs.Numbers.{numbers_table}
use Rattle.starts.specs.Starts.{begun}
use Rattle.carrying.specs.OldWords.{old_room_of, old_right_length, old_words_state}
use Rattle.carrying.specs.Fits.{fits_into}
use Rattle.queries.specs.Look.{account_query, standing}
use Rattle.ordering.specs.Order.{need_holds, last_holding, filled_up}
use Rattle.ordered_bytes.specs.OrderBytes.{listed_verdict, order_read, order_bytes}
use Rattle.outcomes.specs.Outcomes.{refusal_code}
use Rattle.justrave.specs.Exported.{on_state, posted, slotted, ran, leaves, started, started_of, carried_over, figured, chained, account_exported, standing_exported, led, wrote, ordered}
use Rattle.on_words.specs.Rows.{words_in, start_rows, number_rows, carry_rows, post_rows, slot_rows, run_rows, query_rows, chain_rows, write_rows, look_rows, room_rows, order_rows, words_thrice, numbers_thrice, need_rows, length_rows, Pass, AllPass}

start_pass : Pass start_rows
unfolding room_of_words right_length places_from words_state state_words joined paired refusal_code words_in total every gate then held_to fields_verdict each_place tail_verdict rate_sum_verdict need_fits need_fits_verdict offered_row_verdict verdict_by rounded_up finish finish_verdict admission_verdict table_of written_over opening no_state start_verdict start leaves last_group combined later_groups number_of next field_read row_fields_read row_read items_read places_by numbers_by last_verdict settled read_table begun started start_rows
start_pass = refl

number_pass : Pass number_rows
unfolding room_of_words right_length places_from words_state state_words joined paired refusal_code words_in total every gate then held_to fields_verdict each_place tail_verdict rate_sum_verdict need_fits need_fits_verdict offered_row_verdict verdict_by rounded_up finish finish_verdict admission_verdict table_of written_over opening no_state start_verdict start leaves numbers_table started_of number_rows
number_pass = refl

carry_pass : Pass carry_rows
unfolding room_of_words right_length places_from words_state state_words joined paired refusal_code words_in total every gate then held_to fields_verdict each_place tail_verdict rate_sum_verdict need_fits need_fits_verdict offered_row_verdict verdict_by table_of written_over no_state up_to accounts_hold sound old_room_of old_right_length fits_into old_words_state carry leaves carried_over carry_rows
carry_pass = refl

post_pass : Pass post_rows
unfolding room_of_words right_length places_from words_state state_words joined paired refusal_code words_in total every gate then held_to fields_verdict each_place tail_verdict rate_sum_verdict need_fits need_fits_verdict offered_row_verdict verdict_by up_to accounts_hold sound with_count with_post done rule_verdict called on_state posted post_rows
post_pass = refl

slot_pass : Pass slot_rows
unfolding room_of_words right_length places_from words_state state_words joined paired refusal_code words_in total every gate then held_to fields_verdict each_place tail_verdict rate_sum_verdict need_fits need_fits_verdict offered_row_verdict verdict_by up_to accounts_hold sound eligible later first_eligible served passed after grant_of advanced done rule_verdict called on_state slotted slot_rows
slot_pass = refl

run_pass : Pass run_rows
unfolding room_of_words right_length places_from words_state state_words joined paired refusal_code words_in total every gate then held_to fields_verdict each_place tail_verdict rate_sum_verdict need_fits need_fits_verdict offered_row_verdict verdict_by up_to accounts_hold sound eligible later first_eligible served passed after grant_of advanced input_verdict slots_state slots_log slots_verdict run_verdict run on_state ran run_rows
run_pass = refl

query_pass : Pass query_rows
unfolding room_of_words right_length places_from words_state state_words joined paired refusal_code words_in total every gate then held_to fields_verdict each_place tail_verdict rate_sum_verdict need_fits need_fits_verdict offered_row_verdict verdict_by up_to accounts_hold sound rounded_up finish place_verdict figures_verdict figures input_verdict lead_of lead_verdict lead_query on_state figured led query_rows
query_pass = refl

chain_pass : Pass chain_rows
unfolding room_of_words right_length places_from words_state state_words joined paired refusal_code words_in total every gate then held_to fields_verdict each_place tail_verdict rate_sum_verdict need_fits need_fits_verdict offered_row_verdict verdict_by up_to accounts_hold sound rounded_up finish place_verdict named follows chain_to chain_figure name_verdict circle_verdict following_verdict chain_verdict chain on_state chained chain_rows
chain_pass = refl

write_pass : Pass write_rows
unfolding room_of_words right_length places_from words_state state_words joined paired refusal_code words_in total every gate then held_to fields_verdict each_place tail_verdict rate_sum_verdict need_fits need_fits_verdict offered_row_verdict verdict_by up_to accounts_hold sound rounded_up finish finish_verdict admission_verdict groups_of number_bytes written_over table_numbers table_bytes write_verdict write_table on_state wrote write_rows
write_pass = refl

look_pass : Pass look_rows
unfolding room_of_words right_length places_from words_state state_words joined paired refusal_code words_in total every gate then held_to fields_verdict each_place tail_verdict rate_sum_verdict need_fits need_fits_verdict offered_row_verdict verdict_by up_to accounts_hold sound place_verdict account_query standing on_state account_exported standing_exported look_rows
look_pass = refl

room_pass : Pass room_rows
unfolding room_of_words right_length places_from words_state state_words joined paired refusal_code words_in total every gate then held_to fields_verdict each_place tail_verdict rate_sum_verdict need_fits need_fits_verdict offered_row_verdict verdict_by rounded_up finish finish_verdict admission_verdict table_of written_over opening no_state start_verdict start leaves last_group combined later_groups number_of next field_read row_fields_read row_read items_read places_by numbers_by last_verdict settled read_table begun started numbers_table started_of up_to accounts_hold sound eligible later first_eligible served passed after grant_of advanced with_count with_post done rule_verdict called input_verdict slots_state slots_log slots_verdict run_verdict run place_verdict figures_verdict figures account_query standing on_state posted slotted ran figured account_exported standing_exported room_rows
room_pass = refl

order_pass : Pass order_rows
unfolding joined refusal_code total every gate then held_to fields_verdict each_place tail_verdict rate_sum_verdict need_fits need_fits_verdict offered_row_verdict verdict_by rounded_up finish finish_verdict admission_verdict table_of written_over groups_of number_bytes table_numbers table_bytes write_verdict write_table last_group combined later_groups number_of next field_read row_fields_read row_read items_read places_by numbers_by without need_holds last_holding filled_up listed_verdict order_read order_bytes ordered order_rows
order_pass = refl

need_pass : Pass need_rows
unfolding room_of_words right_length places_from words_state state_words joined paired refusal_code words_in total every gate then held_to fields_verdict each_place tail_verdict rate_sum_verdict need_fits need_fits_verdict offered_row_verdict verdict_by rounded_up finish finish_verdict admission_verdict table_of written_over opening no_state start_verdict start leaves last_group combined later_groups number_of next field_read row_fields_read row_read items_read places_by numbers_by last_verdict settled read_table begun started numbers_table started_of up_to accounts_hold sound old_room_of old_right_length fits_into old_words_state carry carried_over with_count with_post done rule_verdict called on_state posted eligible later first_eligible served passed after grant_of advanced slotted input_verdict slots_state slots_log slots_verdict run_verdict run ran place_verdict figures_verdict figures lead_of lead_verdict lead_query figured led named follows chain_to chain_figure name_verdict circle_verdict following_verdict chain_verdict chain chained groups_of number_bytes table_numbers table_bytes write_verdict write_table wrote account_query standing account_exported standing_exported without need_holds last_holding filled_up listed_verdict order_read order_bytes ordered words_thrice numbers_thrice need_rows
need_pass = refl

length_pass : Pass length_rows
unfolding room_of_words right_length places_from words_state state_words joined paired refusal_code words_in total every gate then held_to fields_verdict each_place tail_verdict rate_sum_verdict need_fits need_fits_verdict offered_row_verdict verdict_by up_to accounts_hold sound done rule_verdict called on_state posted length_rows
length_pass = refl

pub all_pass : AllPass
all_pass = (start_pass, number_pass, carry_pass, post_pass, slot_pass, run_pass, query_pass, chain_pass, write_pass, look_pass, room_pass, order_pass, need_pass, length_pass, refl)
