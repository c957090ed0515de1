-- By what the start answers.
use Rattle.std.proofs.Common.{◌≡◌, arith, rules, Err}
use Rattle.std.proofs.lemmas.Grind.{common_steps}
use Rattle.arbiter.proofs.ByValue.{right_full}
use Rattle.reads.proofs.Beginnings.{full_told}
use Rattle.reads.proofs.beginning.start_at_0.Goals as goal

pub start_bytes-requires : goal.start_bytes-requires
start_bytes-requires c = right_full c.none-state.result.words (search rules)

pub returns-in_err-start_bytes : goal.returns-in_err-start_bytes
returns-in_err-start_bytes c =
    let same : c.from_residual.result ≡ Err c.in_err-start_bytes.field-0.0 = grind (arith, common_steps) in
    λ rest. rw same (rw c.in_err-start_bytes.was at (full_told c.none-state.result.words _ (search rules) _ c.start_bytes.ensures rest))

pub returns : goal.returns
returns c = λ rest. rw c.in_ok-start_bytes.was at (full_told c.none-state.result.words _ (search rules) _ c.start_bytes.ensures rest)
