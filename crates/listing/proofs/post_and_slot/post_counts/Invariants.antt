-- `listing::post_and_slot::post_counts` meets its contract. The loop's invariant: what is left to post comes to the same as all of it. Assumes nothing.
use Rattle.std.proofs.Common.{◌≡◌, drop}
use Rattle.terms.specs.Limits.{max_places}
use Rattle.arbiter.specs.ByValue.{held}
use Rattle.listing.specs.Listing.{posted}
use Rattle.listing.proofs.post_and_slot.post_counts.Given as goal

abbrev pub invariant-loop-p : goal.invariant-loop-p
invariant-loop-p l = posted max_places (held l.s) l.p (drop l.p l.counts) ≡ posted max_places (held l.fn.s) 0 l.counts
