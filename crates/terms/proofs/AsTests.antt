-- Verdicts as tests: a series of checks finds no fault where each of its tests passes. Assumes nothing.
use Rattle.std.proofs.Common.{◌≡◌, refl, Bool, true, false, ◌&&◌, ℕ}
use Rattle.lists.specs.Choices.{in_range}
use Rattle.terms.specs.declared.refusals.Refusal.{Refusal}
use Rattle.terms.specs.Refusals.{Verdict, faultless, fault, gate, then}
use Rattle.terms.specs.Table.{Bounds, held_to}
use Rattle.terms.specs.State.{is_faultless}

pub both : (v w : Verdict) → is_faultless (then v w) ≡ (is_faultless v && is_faultless w)
unfolding then
both faultless w = refl
both (fault r) w = refl

pub gated : (r : Refusal) (test : Bool) → is_faultless (gate r test faultless) ≡ test
unfolding gate
gated r true = refl
gated r false = refl

pub within : (b : Bounds) (x : ℕ) → is_faultless (held_to b x) ≡ in_range b.low b.high x
unfolding held_to
within b x = gated b.outside (in_range b.low b.high x)
