-- The sum is what all numbers take, and it is small.
use Rattle.std.proofs.Common.{◌≡◌, ◌∙◌, ◌<◌, ◌^◌, arith, rules}
use Rattle.std.specs.List.{sum_by}
use Rattle.number_bytes.proofs.Counts.{bytes_of, bytes_sum, bytes_few}
use Rattle.number_bytes.proofs.bytes_len.Goals as goal

pub sum-requires-clause-fits : goal.sum-requires-clause-fits
sum-requires-clause-fits c =
    let few : sum_by bytes_of c.args.numbers.now < 2 ^ 64 = omega (arith, bytes_few c.args.numbers.now, c.requires) in
    search rules

pub returns : goal.returns
returns c =
    let all : c.sum.result ≡ sum_by bytes_of c.args.numbers.now = search rules in
    all ∙ bytes_sum c.args.numbers.now
