use Rattle.chain.proofs.Memory.{number_too_long}
use Rattle.chain.proofs.laying.lay_number.Goals as goal

pub returns-then-count-words : goal.returns-then-count-words
returns-then-count-words c = number_too_long _ _ c.in_ok-division.ensures _ c.step_count-count.result (cc (c.pairs-pairs.ensures, c.step_count-count.ensures)) c.if-count-words.true
