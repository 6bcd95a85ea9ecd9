-- The entries are those of the steps before the index.
use Rattle.std.proofs.Common.{◌≡◌, ◌^◌, ◌<◌, List, map, take}
use Rattle.steps.specs.declared.step.Step.{Step}
use Rattle.steps.specs.Words.{decoded}
use Rattle.steps.specs.Columns.{peak}
use Rattle.steps.proofs.Growth.{grown_all}
use Rattle.steps.proofs.Plans.{oks}
use Rattle.steps.proofs.walking.walk.Given as goal

abbrev pub invariant-loop-word : goal.invariant-loop-word
invariant-loop-word l =
    ((ss : List Step) → map decoded l.words ≡ oks ss → l.entries ≡ grown_all (take l.word-index ss) l.initial.entries)
    × (peak l.entries < 2 ^ 64)
