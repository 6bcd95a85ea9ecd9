-- Each turn divides once, and what is left after 63 turns is 1.
use Rattle.std.proofs.Common.{arith}
use Rattle.recoding.proofs.AnyTable.{falls}
use Rattle.recoding.proofs.Turns.{more, full}
use Rattle.recoding.proofs.table.Table.divide.Goals as goal

pub loop-count-preserved : goal.loop-count-preserved
loop-count-preserved c =
    let (left, half) = falls _ c.args.self.now.fits _ _ _ c.in-Some.ensures in
    more _ _ _ _ _ c.loop-count.invariant _ _ c.in-Some.ensures left half (omega arith)

pub returns : goal.returns
returns c = full _ _ _ _ _ c.loop-count.invariant c.args.self.now.fits c.ranges.number.fits (omega arith)
