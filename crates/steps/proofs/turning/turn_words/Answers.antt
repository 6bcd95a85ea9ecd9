use Rattle.std.proofs.Common.{rules}
use Rattle.std.proofs.lemmas.List.{take_all, drop_all}
use Rattle.std.proofs.lemmas.List.Edits.{map_over_more}
use Rattle.steps.specs.Plans.{word_transposed}
use Rattle.steps.proofs.turning.turn_words.Goals as goal

pub loop-word-preserved : goal.loop-word-preserved
loop-word-preserved c = search (rules, map_over_more word_transposed)

pub returns : goal.returns
returns c = search (rules, take_all, drop_all)
