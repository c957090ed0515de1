-- `rule::rule::serve` meets its contract: the account is that of the rule, field by field. Assumes nothing.
use Rattle.std.proofs.Common.{refl}
use Rattle.rule.specs.Rule.{served}
use Rattle.rule.proofs.rule.serve.Goals as goal

pub returns : goal.returns
unfolding served
returns c = refl
