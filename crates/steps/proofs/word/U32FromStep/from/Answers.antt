use Rattle.std.proofs.Common.{◌≡◌, ◌+◌, ◌*◌, ◌%◌, ◌^◌, ap, ◌∙◌, rules}
use Rattle.steps.specs.Words.{encoded, decoded}
use Rattle.steps.proofs.Fields.{decode_encode}
use Rattle.steps.proofs.word.U32FromStep.from.Goals as goal

pub returns-clause-step_back : goal.returns-clause-step_back
returns-clause-step_back c =
    let word = c.from.result * 2 ^ 28 % 2 ^ 32 + c.from-2.result * 2 ^ 26 % 2 ^ 32 + c.from-3.result * 2 ^ 24 % 2 ^ 32 in
    let value : word ≡ encoded c.args.step = search rules in
    λ law. ap decoded value ∙ decode_encode c.args.step law
