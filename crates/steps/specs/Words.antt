-- Step words: from the top, four bits for the kind and two for each register; the low 24 bits are clear. Assumes nothing.
use Rattle.std.specs.Prelude.{ℕ, ◌+◌, ◌*◌, ◌/◌, ◌%◌, ◌^◌, Bool, true, false, cond, Some, None, Ok, Err, Option, Result, ◌==◌}
use Rattle.steps.specs.declared.fault.WordFault.{WordFault}
use Rattle.steps.specs.declared.fault.WordFault.TheVariants as fault
use Rattle.steps.specs.declared.register.Register.{Register}
use Rattle.steps.specs.declared.register.Register.TheVariants.{T, P, Q}
use Rattle.steps.specs.declared.step.Kind.{Kind}
use Rattle.steps.specs.declared.step.Kind.TheVariants as kind
use Rattle.steps.specs.declared.step.Step.{Step}
use Rattle.steps.specs.Registers.{number_of}
use Rattle.steps.specs.Steps.{kind_number, kind_of, first_register, second_register, step_of, allowed}

abbrev pub encoded : Step → ℕ
encoded s = kind_number (kind_of s) * 2 ^ 28 + number_of (first_register s) * 2 ^ 26 + number_of (second_register s) * 2 ^ 24

-- the kind with a number, and the register with one
abbrev pub kind_numbered : ℕ → Option Kind
kind_numbered n =
    cond (n == 1) (Some kind.Copy)
    (cond (n == 2) (Some kind.Move)
    (cond (n == 3) (Some kind.Swap)
    (cond (n == 4) (Some kind.Invert)
    (cond (n == 5) (Some kind.Square)
    (cond (n == 6) (Some kind.Multiply)
    (cond (n == 7) (Some kind.Gather) None))))))

abbrev pub register_numbered : ℕ → Option Register
register_numbered n = cond (n == 0) (Some T) (cond (n == 1) (Some P) (cond (n == 2) (Some Q) None))

-- first the kind, then both registers and the rest, then the rule of the kind
abbrev pub by_rule : Kind → Register → Register → Result Step WordFault
by_rule k a b = cond (allowed k a b) (Ok (step_of k a b)) (Err fault.Rule)

abbrev pub by_form : Kind → Option Register → Option Register → Bool → Result Step WordFault
by_form k None b clear = Err fault.Form
by_form k (Some a) None clear = Err fault.Form
by_form k (Some a) (Some b) false = Err fault.Form
by_form k (Some a) (Some b) true = by_rule k a b

abbrev pub by_kind : Option Kind → Option Register → Option Register → Bool → Result Step WordFault
by_kind None a b clear = Err fault.Kind
by_kind (Some k) a b clear = by_form k a b clear

-- the step of a word, or why it has none
abbrev pub decoded : ℕ → Result Step WordFault
decoded w = by_kind (kind_numbered (w / 2 ^ 28)) (register_numbered (w / 2 ^ 26 % 4)) (register_numbered (w / 2 ^ 24 % 4)) (w % 2 ^ 24 == 0)
