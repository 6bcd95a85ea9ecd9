use Rattle.std.proofs.Common.{refl, arith}
use Rattle.steps.specs.Sets.{members}
use Rattle.steps.proofs.Turned.{counts_low, counts_high, turned_round}
use Rattle.steps.proofs.turning.turn.Goals as goal

pub turned_multiplications-requires : goal.turned_multiplications-requires
turned_multiplications-requires c =
    let a = c.in_ok-judgement.ensures in
    let s = members c.args.start in
    let ws = c.args.words.now in
    record { low = counts_low s ws c.in_ok-judgement.judgement a; high = counts_high s ws c.in_ok-judgement.judgement a (omega arith) }

pub returns : goal.returns
returns c =
    turned_round (members c.args.start) c.args.words.now c.in_ok-judgement.judgement c.in_ok-judgement.ensures
    c.args.start refl c.turn_words.new.words c.turned_multiplications.result c.turn_words.ensures c.turned_multiplications.ensures
