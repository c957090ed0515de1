-- The display's run meets what a chain's promise asks: each post's place in the calls is named, and the definitions compute. Assumes nothing.
use Rattle.std.proofs.Common.{◌≡◌, refl, [], ◌∷◌, arith, replicate}
use Rattle.lists.specs.Sums.{total, every, up_to}
use Rattle.lists.specs.Overwriting.{written_over}
use Rattle.lists.specs.Runs
use Rattle.terms.specs.Limits.{max_places}
use Rattle.terms.specs.Refusals.{gate, then}
use Rattle.terms.specs.Table.{table_of, held_to, fields_verdict, each_place, tail_verdict, rate_sum_verdict, need_fits, need_fits_verdict, offered_row_verdict, verdict_by}
use Rattle.terms.specs.Figures.{rounded_up, finish, finish_verdict, admission_verdict}
use Rattle.terms.specs.State.{accounts_hold, sound, place_verdict}
use Rattle.terms.specs.Start.{opening, no_state, start_verdict, start}
use Rattle.terms.specs.Chain.{named, follows, chain_to, chain_of, chain_figure, figured, name_verdict, circle_verdict, following_verdict, chain_verdict, chain}
use Rattle.rule.specs.Rule.{eligible, later, first_eligible, served, passed, after}
use Rattle.rule.specs.Calls.{post, slot, grant_of, advanced, with_count, with_post, done, rule_verdict, called}
use Rattle.guarantees.specs.Counts.{slots_in, Accepted, state_after, answers_from}
use Rattle.guarantees.specs.Chains.{is_grant_to, reached_past, first_grant, PostInTurn}
use Rattle.guarantees.proofs.Chains.{chain_from_start}
use Rattle.cases.specs.ChainRows.{table_display, display_names, display_calls, DisplayRun}

started : Accepted max_places table_display 0
unfolding total every up_to written_over Runs.end Runs.answers gate then table_of held_to fields_verdict each_place tail_verdict rate_sum_verdict need_fits need_fits_verdict offered_row_verdict verdict_by rounded_up finish finish_verdict admission_verdict accounts_hold sound place_verdict opening no_state start_verdict start named follows chain_to chain_figure name_verdict circle_verdict following_verdict chain_verdict chain eligible later first_eligible served passed after grant_of advanced with_count with_post done rule_verdict called is_grant_to reached_past first_grant table_display display_calls
started = record { rows = refl; answer = refl }

figure : chain max_places (state_after max_places table_display 0 []) 3 display_names ≡ figured 34
unfolding total every up_to written_over Runs.end Runs.answers gate then table_of held_to fields_verdict each_place tail_verdict rate_sum_verdict need_fits need_fits_verdict offered_row_verdict verdict_by rounded_up finish finish_verdict admission_verdict accounts_hold sound place_verdict opening no_state start_verdict start named follows chain_to chain_figure name_verdict circle_verdict following_verdict chain_verdict chain eligible later first_eligible served passed after grant_of advanced with_count with_post done rule_verdict called is_grant_to reached_past first_grant table_display display_calls
figure = refl

slots : slots_in (answers_from max_places (state_after max_places table_display 0 []) (display_calls 31)) ≡ 34
unfolding total every up_to written_over Runs.end Runs.answers gate then table_of held_to fields_verdict each_place tail_verdict rate_sum_verdict need_fits need_fits_verdict offered_row_verdict verdict_by rounded_up finish finish_verdict admission_verdict accounts_hold sound place_verdict opening no_state start_verdict start named follows chain_to chain_figure name_verdict circle_verdict following_verdict chain_verdict chain eligible later first_eligible served passed after grant_of advanced with_count with_post done rule_verdict called is_grant_to reached_past first_grant table_display display_calls
slots = refl

in_turn : PostInTurn max_places (chain_of table_display display_names 3) (state_after max_places table_display 0 []) (display_calls 31)
unfolding total every up_to written_over Runs.end Runs.answers gate then table_of held_to fields_verdict each_place tail_verdict rate_sum_verdict need_fits need_fits_verdict offered_row_verdict verdict_by rounded_up finish finish_verdict admission_verdict accounts_hold sound place_verdict opening no_state start_verdict start named follows chain_to chain_figure name_verdict circle_verdict following_verdict chain_verdict chain eligible later first_eligible served passed after grant_of advanced with_count with_post done rule_verdict called is_grant_to reached_past first_grant table_display display_calls
in_turn = λ h. (
  record { ahead = post 0 20 ∷ []; behind = slot ∷ slot ∷ post 9 1 ∷ post 0 2 ∷ post 2 1 ∷ slot ∷ post 9 1 ∷ post 0 2 ∷ post 3 1 ∷ replicate 31 slot; stands = refl; no_slot = refl; no_backlog = refl },
  λ h. (
    record { ahead = post 9 1 ∷ post 0 2 ∷ []; behind = slot ∷ post 9 1 ∷ post 0 2 ∷ post 3 1 ∷ replicate 31 slot; stands = refl; no_slot = refl; no_backlog = refl },
    λ h. (
      record { ahead = post 9 1 ∷ post 0 2 ∷ []; behind = replicate 31 slot; stands = refl; no_slot = refl; no_backlog = refl },
      tt,
    ),
  ),
)

pub display_run : DisplayRun
display_run = record {
  started = started;
  figure = figure;
  in_turn = in_turn;
  slots = slots;
  in_time = chain_from_start max_places table_display 0 started [] 3 display_names 34 figure [] (display_calls 31) in_turn (omega (arith, slots));
}
