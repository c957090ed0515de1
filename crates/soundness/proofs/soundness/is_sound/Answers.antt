-- `soundness::soundness::is_sound` meets its contract. Its tests are those of the definition, in another order. Assumes nothing.
use Rattle.std.proofs.Common.{arith}
use Rattle.soundness.proofs.Tests.{words_sound}
use Rattle.soundness.proofs.soundness.is_sound.Goals as goal

pub places_hold-requires : goal.places_hold-requires
places_hold-requires c = grind arith

pub returns-then-places_hold : goal.returns-then-places_hold
returns-then-places_hold c = grind (arith, words_sound)
