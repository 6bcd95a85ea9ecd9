-- The words before the place are a plan.
use Rattle.std.proofs.Common.{List, take}
use Rattle.steps.specs.declared.step.Step.{Step}
use Rattle.steps.specs.Sets.{members}
use Rattle.steps.specs.Plans.{Plan}
use Rattle.steps.proofs.judging.judge.Given as goal

abbrev pub invariant-loop-place : goal.invariant-loop-place
invariant-loop-place l = (ss : List Step) × Plan (members l.initial.full) (take l.place-counter l.words) ss (members l.full)
