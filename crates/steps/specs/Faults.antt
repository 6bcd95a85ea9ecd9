-- The numbers of the refusals. Assumes nothing.
use Rattle.std.specs.Prelude.{ℕ}
use Rattle.steps.specs.declared.fault.WordFault.{WordFault}
use Rattle.steps.specs.declared.fault.WordFault.TheVariants as word
use Rattle.steps.specs.declared.fault.RegisterFault.{RegisterFault}
use Rattle.steps.specs.declared.fault.RegisterFault.TheVariants as register
use Rattle.steps.specs.declared.fault.StepFault.{StepFault}
use Rattle.steps.specs.declared.fault.StepFault.TheVariants as step
use Rattle.steps.specs.declared.fault.WalkFault.{WalkFault}
use Rattle.steps.specs.declared.fault.WalkFault.TheVariants as walk

abbrev pub word_number : WordFault → ℕ
word_number word.Kind = 11
word_number word.Form = 12
word_number word.Rule = 13

abbrev pub register_number : RegisterFault → ℕ
register_number register.Empty = 21
register_number register.Full = 22

abbrev pub step_number : StepFault → ℕ
step_number (step.Word e) = word_number e
step_number (step.Registers e) = register_number e

abbrev pub walk_number : WalkFault → ℕ
walk_number (walk.Step e) = step_number e.fault
walk_number walk.Inverts = 71
walk_number walk.Overflow = 73
