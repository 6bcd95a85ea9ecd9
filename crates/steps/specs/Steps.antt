-- Steps: their kinds and registers, the rules on these, transposes, and what is counted. Assumes nothing.
use Rattle.std.specs.Prelude.{ℕ, ◌+◌, Bool, true, false, not, ◌||◌, List, [], ◌∷◌, map, reverse, ◌==◌, nat_lt}
use Rattle.steps.specs.declared.register.Register.{Register}
use Rattle.steps.specs.declared.step.Counts.{Counts}
use Rattle.steps.specs.declared.step.Kind.{Kind}
use Rattle.steps.specs.declared.step.Kind.TheVariants as kind
use Rattle.steps.specs.declared.step.Step.{Step}
use Rattle.steps.specs.declared.step.Step.TheVariants.{Copy, Move, Swap, Invert, Square, Multiply, Gather}
use Rattle.steps.specs.Registers.{number_of}

abbrev pub kind_number : Kind → ℕ
kind_number kind.Copy = 1
kind_number kind.Move = 2
kind_number kind.Swap = 3
kind_number kind.Invert = 4
kind_number kind.Square = 5
kind_number kind.Multiply = 6
kind_number kind.Gather = 7

-- the step of a kind with the registers a and b
abbrev pub step_of : Kind → Register → Register → Step
step_of kind.Copy a b = Copy a b
step_of kind.Move a b = Move a b
step_of kind.Swap a b = Swap a b
step_of kind.Invert a b = Invert a
step_of kind.Square a b = Square a
step_of kind.Multiply a b = Multiply a b
step_of kind.Gather a b = Gather a b

abbrev pub same : Register → Register → Bool
same a b = number_of a == number_of b

-- the rule of a kind on its registers
abbrev pub allowed : Kind → Register → Register → Bool
allowed kind.Copy a b = not (same a b)
allowed kind.Move a b = not (same a b)
allowed kind.Swap a b = nat_lt (number_of a) (number_of b)
allowed kind.Invert a b = same a b
allowed kind.Square a b = same a b
allowed kind.Multiply a b = not (same a b)
allowed kind.Gather a b = not (same a b)

abbrev pub kind_of : Step → Kind
kind_of (Copy a b) = kind.Copy
kind_of (Move a b) = kind.Move
kind_of (Swap a b) = kind.Swap
kind_of (Invert a) = kind.Invert
kind_of (Square a) = kind.Square
kind_of (Multiply a b) = kind.Multiply
kind_of (Gather a b) = kind.Gather

-- register a of a step, and register b, which is a again for invert and square
abbrev pub first_register : Step → Register
first_register (Copy a b) = a
first_register (Move a b) = a
first_register (Swap a b) = a
first_register (Invert a) = a
first_register (Square a) = a
first_register (Multiply a b) = a
first_register (Gather a b) = a

abbrev pub second_register : Step → Register
second_register (Copy a b) = b
second_register (Move a b) = b
second_register (Swap a b) = b
second_register (Invert a) = a
second_register (Square a) = a
second_register (Multiply a b) = b
second_register (Gather a b) = b

-- the step keeps the rule of its kind
abbrev pub lawful : Step → Bool
lawful s = allowed (kind_of s) (first_register s) (second_register s)

-- the transpose of a step
abbrev pub transposed : Step → Step
transposed (Copy a b) = Gather a b
transposed (Move a b) = Move b a
transposed (Swap a b) = Swap a b
transposed (Invert a) = Invert a
transposed (Square a) = Square a
transposed (Multiply a b) = Multiply b a
transposed (Gather a b) = Copy a b

-- a list turned round: reversed, and each step transposed
abbrev pub turned : List Step → List Step
turned ss = map transposed (reverse ss)

-- what a step counts: squarings are the square steps, multiplications the multiply and gather steps
abbrev pub squaring : Kind → ℕ
squaring kind.Copy = 0
squaring kind.Move = 0
squaring kind.Swap = 0
squaring kind.Invert = 0
squaring kind.Square = 1
squaring kind.Multiply = 0
squaring kind.Gather = 0

abbrev pub multiplying : Kind → ℕ
multiplying kind.Copy = 0
multiplying kind.Move = 0
multiplying kind.Swap = 0
multiplying kind.Invert = 0
multiplying kind.Square = 0
multiplying kind.Multiply = 1
multiplying kind.Gather = 1

abbrev pub squarings : List Step → ℕ
squarings [] = 0
squarings (s ∷ ss) = squaring (kind_of s) + squarings ss

abbrev pub multiplications : List Step → ℕ
multiplications [] = 0
multiplications (s ∷ ss) = multiplying (kind_of s) + multiplications ss

abbrev pub counts_of : List Step → Counts
counts_of ss = record { squarings = squarings ss; multiplications = multiplications ss }

abbrev pub is_invert : Step → Bool
is_invert (Copy a b) = false
is_invert (Move a b) = false
is_invert (Swap a b) = false
is_invert (Invert a) = true
is_invert (Square a) = false
is_invert (Multiply a b) = false
is_invert (Gather a b) = false

-- some step of the list inverts
abbrev pub inverts : List Step → Bool
inverts [] = false
inverts (s ∷ ss) = is_invert s || inverts ss
