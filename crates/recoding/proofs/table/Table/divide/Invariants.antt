-- What the division down to 1 keeps.
use Rattle.recoding.proofs.Turns.{Sofar}
use Rattle.recoding.proofs.table.Table.divide.Given as goal

abbrev pub invariant-loop-count : goal.invariant-loop-count
invariant-loop-count l = Sofar l.self.entries l.number l.rest l.count l.slot-items
