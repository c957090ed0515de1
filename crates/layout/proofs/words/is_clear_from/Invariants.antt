-- `layout::words::is_clear_from` meets its contract: the words so far, put together, and those that are left. Assumes nothing.
use Rattle.std.proofs.Common.{◌≡◌, ◌&&◌, eqb, drop}
use Rattle.lists.specs.Sums.{every}
use Rattle.layout.specs.Words.{is_zero, place_start}
use Rattle.layout.proofs.words.is_clear_from.Given as goal

abbrev pub invariant-loop-word : goal.invariant-loop-word
invariant-loop-word l = every is_zero (drop (place_start l.p) l.words) ≡ (eqb l.any 0 && every is_zero (drop l.word-index l.word-items))
