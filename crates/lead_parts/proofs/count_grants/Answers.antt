use Rattle.std.proofs.Common.{rules}
use Rattle.lead_parts.proofs.Counts.{counted_none, counted_same, counted_other}
use Rattle.lead_parts.proofs.count_grants.Goals as goal

pub loop-byte-init : goal.loop-byte-init
loop-byte-init c = counted_none _ _

pub loop-byte-preserved : goal.loop-byte-preserved
loop-byte-preserved c = search (rules, counted_same, counted_other)
