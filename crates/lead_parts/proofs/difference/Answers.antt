-- `lead_parts::difference` meets its contract. The two products, read back as they are, and their difference, which fits. Assumes nothing.
use Rattle.std.proofs.Common.{to_z-of_z}
use Rattle.lead_parts.proofs.Signed.{product_read, product_most, difference_fits}
use Rattle.lead_parts.proofs.difference.Goals as goal

pub returns : goal.returns
returns c =
    let (d, grants, n, slots) = c.requires in
    rw (product_read d grants, product_read n slots) (to_z-of_z (difference_fits _ _ (product_most d grants) (product_most n slots)))
