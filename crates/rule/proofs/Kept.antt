-- A slot keeps a sound state sound. Assumes nothing.
use Rattle.std.proofs.Common.{◌≡◌, ap, ◌∙◌, true, ℕ, ◌≤◌, ◌<◌, arith, length, take, drop, take-take}
use Rattle.lists.specs.Sums.{total, every}
use Rattle.terms.specs.State.{State, credit, account_clear}
use Rattle.terms.specs.Limits.{max_slot}
use Rattle.terms.specs.Table.{burst, requestors_of}
use Rattle.terms.proofs.Checks.{Fair}
use Rattle.terms.proofs.Sound.{Sound, sums_past, rates_most, places_length, sound_fair}
use Rattle.rule.specs.Calls.{grant_of, advanced}
use Rattle.rule.proofs.Head.{slotted}
use Rattle.rule.proofs.Slots.{after_length, after_past, slotted_backlog}
use Rattle.rule.proofs.Credits.{Roomy, slotted_kept}

module _ (limit : ℕ) (s : State) (v : Sound limit s) where
  pub fair_table : Fair limit s.table
  fair_table = sound_fair limit s v

  pub places_count : length (requestors_of s.table) ≡ s.table.count
  places_count = places_length limit s.table v.rows fair_table

  pub accounts_cover : s.table.count ≤ length s.accounts
  accounts_cover = omega (arith, fair_table.count_most, v.accounts)

  pub sound_roomy : Roomy s.table.denominator (requestors_of s.table) s.accounts
  sound_roomy p h waits = (fair_table.row p h).burst_least

  pub sound_credits : (k : ℕ) → k ≤ s.table.count → total credit (take k s.accounts) ≤ total burst (take k (requestors_of s.table))
  sound_credits k h = omega (arith, v.sums k, ap (total burst) (take-take k s.table.count s.table.requestors h))

  advanced_clear : every account_clear (drop s.table.count (advanced s (grant_of s)).accounts) ≡ true
  unfolding advanced
  advanced_clear = rw (rw places_count at (after_past s.table.denominator (grant_of s) (requestors_of s.table) s.accounts)) v.clear

  advanced_sums : (k : ℕ) → k ≤ s.table.count → total credit (take k (advanced s (grant_of s)).accounts) ≤ total burst (take k s.table.requestors)
  unfolding advanced grant_of slotted
  advanced_sums k h = omega (
    arith,
    ap (total burst) (take-take k s.table.count s.table.requestors h),
    slotted_kept s.table.denominator k (requestors_of s.table) s.accounts (omega (arith, places_count)) sound_roomy
        (rates_most limit s.table fair_table k) (sound_credits k h),
  )

  pub advanced_sound : s.slot.0 < max_slot → Sound limit (advanced s (grant_of s))
  unfolding advanced grant_of slotted
  advanced_sound below = record {
    rows = v.rows;
    accounts = after_length _ (grant_of s) (requestors_of s.table) s.accounts ∙ v.accounts;
    passes = v.passes;
    slot_most = omega arith;
    backlog_most = λ q h. omega (arith, slotted_backlog s.table.denominator q (requestors_of s.table) s.accounts, v.backlog_most q h);
    sums = sums_past s.table.count s.table.requestors (advanced s (grant_of s)).accounts advanced_clear advanced_sums;
    clear = advanced_clear;
  }
