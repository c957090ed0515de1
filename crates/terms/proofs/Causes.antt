-- Each case of the code's enum stands on the side that its number says: 21 to 29 the state, all others the input.
-- Assumes nothing.
use Rattle.std.proofs.Common.{refl}
use Rattle.terms.specs.declared.refusals.InputRefusal.TheVariants as input
use Rattle.terms.specs.declared.refusals.StateRefusal.TheVariants as state
use Rattle.terms.specs.declared.refusals.Cause.TheVariants as cause
use Rattle.terms.specs.Refusals.{CauseByNumber}

pub cause_by_number : CauseByNumber
cause_by_number (cause.Input input.Denominator) = refl
cause_by_number (cause.Input input.Count) = refl
cause_by_number (cause.Input (input.Rate p)) = refl
cause_by_number (cause.Input (input.Burst p)) = refl
cause_by_number (cause.Input (input.Need p)) = refl
cause_by_number (cause.Input input.RateSum) = refl
cause_by_number (cause.Input (input.Finish p)) = refl
cause_by_number (cause.Input input.BytesEnd) = refl
cause_by_number (cause.Input input.NumberForm) = refl
cause_by_number (cause.Input input.BytesLeft) = refl
cause_by_number (cause.Input input.NoSuchPlace) = refl
cause_by_number (cause.Input input.FirstSlot) = refl
cause_by_number (cause.Input input.TooLong) = refl
cause_by_number (cause.Input input.BufferShort) = refl
cause_by_number (cause.Input input.NoOrder) = refl
cause_by_number (cause.Input (input.Circle p)) = refl
cause_by_number (cause.Input (input.NeedAboveBurst p)) = refl
cause_by_number (cause.State state.BacklogLimit) = refl
cause_by_number (cause.State state.SlotLimit) = refl
cause_by_number (cause.State state.Unsound) = refl
