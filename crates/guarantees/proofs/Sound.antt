-- A sound state stays sound under the rule; so no call from it meets 23, and its calls are the rule's. Assumes nothing.
use Rattle.std.proofs.Common.{◌≡◌, ◌∙◌, List, ℕ, ◌<◌, arith, eqb-true, eqb, length, length-set, drop-set-lt}
use Rattle.lists.proofs.Tests.{cases}
use Rattle.lists.specs.Runs.{end, answers}
use Rattle.lists.proofs.Runs.{keeps, same_end, same_answers}
use Rattle.terms.specs.State.{State}
use Rattle.terms.specs.Refusals.{faultless, gate}
use Rattle.terms.proofs.Sound.{Sound, sound_shut}
use Rattle.rule.specs.Calls.{Call, post, with_count, with_post, rule_verdict, ruled, called}
use Rattle.rule.proofs.Kept.{accounts_cover, advanced_sound}
use Rattle.guarantees.proofs.Step.{by_kind, post_place, post_fits, posted_credits, posted_backlog, slot_below}

module _ (limit : ℕ) (s : State) where
  module _ (v : Sound limit s) where
    posted_sound : (p count : ℕ) → rule_verdict s (post p count) ≡ faultless → Sound limit (with_post s p count)
    unfolding with_post with_count
    posted_sound p count e =
        let inside : p < s.table.count = post_place s p count e in
        let held : p < length s.accounts = omega (arith, accounts_cover limit s v) in
        record {
          rows = v.rows;
          accounts = length-set s.accounts p _ ∙ v.accounts;
          passes = v.passes;
          slot_most = v.slot_most;
          backlog_most = λ q h. rw (posted_backlog s q p count held) (cases (eqb p q)
              (λ same. rw same (omega (arith, rw (eqb-true p q same) at (post_fits s p count e))))
              (λ apart. rw apart (omega (arith, v.backlog_most q h))));
          sums = λ k. omega (arith, posted_credits s k p count, v.sums k);
          clear = rw (drop-set-lt s.table.count s.accounts p _ inside) v.clear;
        }

module _ (limit : ℕ) where
  -- every call keeps a state sound
  pub sound_next : (s : State) (c : Call) → Sound limit s → Sound limit (ruled s c).state
  sound_next s c v = by_kind (λ c u a. Sound limit u) s c (λ r e. v) (posted_sound limit s v) (λ e. advanced_sound limit s v (slot_below s e))

  pub sound_end : (s : State) (calls : List Call) → Sound limit s → Sound limit (end ruled s calls)
  sound_end = keeps ruled (Sound limit) sound_next

  -- from a sound state a call is the rule's, and so is a list of calls: all that follows is proved of the rule's run
  pub call_ruled : (s : State) (c : Call) → Sound limit s → called limit s c ≡ ruled s c
  unfolding called ruled gate
  call_ruled s c v = rw (sound_shut limit s v)

  pub end_ruled : (s : State) (calls : List Call) → Sound limit s → end (called limit) s calls ≡ end ruled s calls
  end_ruled = same_end (called limit) ruled (Sound limit) call_ruled sound_next

  pub answers_ruled : (s : State) (calls : List Call) → Sound limit s → answers (called limit) s calls ≡ answers ruled s calls
  answers_ruled = same_answers (called limit) ruled (Sound limit) call_ruled sound_next
