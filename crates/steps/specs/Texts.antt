-- Steps as text. Assumes nothing.
use Rattle.std.specs.Prelude.{ℕ, List, ◌++◌, codes}
use Rattle.steps.specs.declared.register.Register.{Register}
use Rattle.steps.specs.declared.register.Register.TheVariants.{T, P, Q}
use Rattle.steps.specs.declared.step.Step.{Step}
use Rattle.steps.specs.declared.step.Step.TheVariants.{Copy, Move, Swap, Invert, Square, Multiply, Gather}

abbrev pub register_text : Register → List ℕ
register_text T = codes "T"
register_text P = codes "P"
register_text Q = codes "Q"

abbrev pub step_text : Step → List ℕ
step_text (Copy a b) = codes "copy " ++ register_text a ++ codes " to " ++ register_text b
step_text (Move a b) = codes "move " ++ register_text a ++ codes " to " ++ register_text b
step_text (Swap a b) = codes "swap " ++ register_text a ++ codes " and " ++ register_text b
step_text (Invert a) = codes "invert " ++ register_text a
step_text (Square a) = codes "square " ++ register_text a
step_text (Multiply a b) = codes "multiply " ++ register_text a ++ codes " by " ++ register_text b
step_text (Gather a b) = codes "gather " ++ register_text b ++ codes " into " ++ register_text a
