-- Counted so far and still to count make the whole.
use Rattle.std.proofs.Common.{◌≡◌, ◌+◌, ◌≤◌, drop}
use Rattle.steps.specs.Steps.{squarings, multiplications}
use Rattle.steps.specs.Plans.{steps_in}
use Rattle.steps.proofs.counting.count.Given as goal

abbrev pub invariant-loop-word : goal.invariant-loop-word
invariant-loop-word l =
    (l.squarings + squarings (steps_in (drop l.word-index l.words)) ≡ squarings (steps_in l.words))
    × (l.multiplications + multiplications (steps_in (drop l.word-index l.words)) ≡ multiplications (steps_in l.words))
    × (l.squarings ≤ l.word-index)
    × (l.multiplications ≤ l.word-index)
