-- The words before the index are transposed.
use Rattle.std.proofs.Common.{◌≡◌, ◌++◌, map, take, drop}
use Rattle.steps.specs.Plans.{word_transposed}
use Rattle.steps.proofs.turning.turn_words.Given as goal

abbrev pub invariant-loop-word : goal.invariant-loop-word
invariant-loop-word l = l.words ≡ map word_transposed (take l.word-index l.initial.words) ++ drop l.word-index l.initial.words
