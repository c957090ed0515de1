-- `lines::lines::put_refused` meets its contract. The word and the refusal's number. Assumes nothing.
use Rattle.lines.specs.Lines.{refused_line}
use Rattle.lines.proofs.lines.put_refused.Goals as goal

pub put_line-requires : goal.put_line-requires
unfolding refused_line
put_line-requires c = rw c.refusal.ensures c.requires
