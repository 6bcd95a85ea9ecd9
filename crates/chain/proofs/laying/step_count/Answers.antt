use Rattle.std.proofs.Common.{◌≡◌, length, sum_by, arith, rules}
use Rattle.chain.specs.Chains.{pair_steps}
use Rattle.chain.proofs.Memory.{length_number, few_steps}
use Rattle.chain.proofs.laying.step_count.Goals as goal

pub overflow_add-result : goal.overflow_add-result
overflow_add-result c =
    let total : c.sum.result ≡ sum_by (λ p. length (pair_steps p)) c.args.pairs.now = search rules in
    omega (arith, few_steps c.args.pairs.now)

pub returns : goal.returns
returns c = grind (arith, length_number)
