-- Proves Conservation: what posts brought to a place is what it was granted and what still waits there. Assumes nothing.
use Rattle.std.proofs.Common.{◌≡◌, refl, List, [], ◌∷◌, ℕ, ◌+◌, arith}
use Rattle.lists.specs.Sums.{total}
use Rattle.lists.specs.Runs.{end, answers}
use Rattle.terms.specs.declared.refusals.Refusal.{Refusal}
use Rattle.terms.specs.State.{State, backlog, account_at}
use Rattle.terms.specs.Answers.{refused}
use Rattle.terms.specs.Table.{requestors_of}
use Rattle.terms.specs.Start.{opening}
use Rattle.terms.proofs.Sound.{Sound, opening_backlog}
use Rattle.rule.specs.Calls.{Call, post, slot, grant_of, advanced, ruled}
use Rattle.rule.proofs.Head.{slotted}
use Rattle.guarantees.specs.Counts.{grants_to}
use Rattle.guarantees.specs.Conservation.{arrivals, arrivals_to, Conservation}
use Rattle.guarantees.proofs.Grants.{grant_to, grant_to_lem}
use Rattle.rule.proofs.Slots.{slotted_backlog}
use Rattle.guarantees.proofs.Step.{by_kind, post_place, posted_backlog}
use Rattle.rule.proofs.Kept.{accounts_cover}
use Rattle.guarantees.proofs.Sound.{sound_next}
use Rattle.guarantees.proofs.Start.{opening_sound, entered_ruled, answered_ruled}

arrivals_refused : (p : ℕ) (c : Call) (r : Refusal) → arrivals p c (refused r) ≡ 0
unfolding arrivals
arrivals_refused p (post q count) r = refl
arrivals_refused p slot r = refl

-- one call
pub conserved_next : (limit p : ℕ) (s : State) (c : Call) → Sound limit s
    → arrivals p c (ruled s c).answer + backlog (account_at p s.accounts)
    ≡ grant_to p (ruled s c).answer + backlog (account_at p (ruled s c).state.accounts)
unfolding arrivals advanced grant_of slotted
conserved_next limit p s c v = by_kind (λ c u a. arrivals p c a + backlog (account_at p s.accounts) ≡ grant_to p a + backlog (account_at p u.accounts)) s c
    (λ r e. omega (arith, arrivals_refused p c r))
    (λ q count e. omega (arith, posted_backlog s p q count (omega (arith, post_place s q count e, accounts_cover limit s v))))
    (λ e. omega (arith, grant_to_lem p s.slot.0 (grant_of s), slotted_backlog s.table.denominator p (requestors_of s.table) s.accounts))

-- any calls, from any sound state
pub conserved : (limit p : ℕ) (s : State) (calls : List Call) → Sound limit s
    → arrivals_to p calls (answers ruled s calls) + backlog (account_at p s.accounts)
    ≡ grants_to p (answers ruled s calls) + backlog (account_at p (end ruled s calls).accounts)
unfolding end answers arrivals_to total
conserved limit p s [] v = refl
conserved limit p s (c ∷ calls) v = omega (arith, conserved_next limit p s c v, conserved limit p (ruled s c).state calls (sound_next limit s c v))

pub conservation : Conservation
conservation limit t first a calls p =
    rw (entered_ruled limit t first a calls, answered_ruled limit t first a calls)
    (omega (arith, conserved limit p (opening t first) calls (opening_sound limit t first a), opening_backlog t first p))
