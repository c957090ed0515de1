-- A last group that is 0 is no number.
use Rattle.std.proofs.Common.{arith}
use Rattle.groups.proofs.Readings.{later_zero}
use Rattle.groups.proofs.reading.+later_groups.Goals as goal

pub returns-in-0 : goal.returns-in-0
returns-in-0 t c = later_zero _ _ c.if-left-eq0.false c.in-0.len_at_least (omega arith)
