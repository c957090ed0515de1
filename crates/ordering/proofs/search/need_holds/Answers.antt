-- `ordering::search::need_holds` meets its contract. The sums less its own are those of the others. Assumes nothing.
use Rattle.std.proofs.Common.{◌∙◌}
use Rattle.terms.specs.Limits.{max_places}
use Rattle.admission.proofs.Rows.{denominator_word, head_there}
use Rattle.ordering.proofs.InPlace.{one, burst_inside, rate_inside, line_left, parts_fit, need_is}
use Rattle.ordering.proofs.search.need_holds.Goals as goal

pub denominator-d-requires : goal.denominator-d-requires
denominator-d-requires c = head_there _ max_places c.requires.0.checked.right

pub requestor-r-requires : goal.requestor-r-requires
requestor-r-requires c = (one _ _ _ _ _ c.requires.0 _ c.requires.1).there

pub overflow_sub-parts : goal.overflow_sub-parts
overflow_sub-parts c = rw c.requestor-r.ensures (burst_inside _ _ _ _ _ c.requires.0 _ c.requires.1)

pub overflow_sub-parts-2 : goal.overflow_sub-parts-2
overflow_sub-parts-2 c = rw c.requestor-r.ensures (rate_inside _ _ _ _ _ c.requires.0 _ c.requires.1)

pub overflow_sub-parts-3 : goal.overflow_sub-parts-3
overflow_sub-parts-3 c = rw (c.requestor-r.ensures, c.denominator-d.ensures, denominator_word _) (line_left _ _ _ _ _ c.requires.0 _ c.requires.1)

pub invariant_of-parts : goal.invariant_of-parts
invariant_of-parts c = record { fit = rw (c.requestor-r.ensures, c.denominator-d.ensures, denominator_word _) (parts_fit _ _ _ _ _ c.requires.0 _ c.requires.1).0 }

pub finish_is_within-requires : goal.finish_is_within-requires
finish_is_within-requires c = rw c.requestor-r.ensures (parts_fit _ _ _ _ _ c.requires.0 _ c.requires.1).1

pub returns : goal.returns
returns c = c.finish_is_within.ensures ∙ rw (c.requestor-r.ensures, c.denominator-d.ensures, denominator_word _) (need_is _ _ _ _ _ c.requires.0 _ c.requires.1)
