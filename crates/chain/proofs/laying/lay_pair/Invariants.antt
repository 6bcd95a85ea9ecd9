-- The words before the index are those of the steps there, and those from the last step on are as they were.
use Rattle.std.proofs.Common.{◌≡◌, take, drop, map}
use Rattle.steps.specs.Words.{encoded}
use Rattle.chain.proofs.laying.lay_pair.Given as goal

abbrev pub invariant-loop-place : goal.invariant-loop-place
invariant-loop-place l = (take l.place l.words ≡ map encoded (take l.place l.steps)) × (drop l.place l.words ≡ drop l.place l.initial.words)
