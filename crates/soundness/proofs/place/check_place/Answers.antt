-- `soundness::place::check_place` meets its contract. Two gates. Assumes nothing.
use Rattle.std.proofs.Common.{arith}
use Rattle.terms.specs.Refusals.{gate}
use Rattle.terms.specs.State.{place_verdict}
use Rattle.admission.proofs.Rows.{count_word}
use Rattle.soundness.proofs.place.check_place.Goals as goal

pub returns : goal.returns
unfolding place_verdict gate
returns c = grind (arith, count_word)
