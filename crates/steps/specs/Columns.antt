-- One column of a table as natural numbers, which it holds as long as no step inverts. Assumes nothing.
use Rattle.std.specs.Prelude.{◌≡◌, ℕ, ◌+◌, ◌^◌, ◌≤◌, max, cond, Option, MatchOption}
use Rattle.steps.specs.declared.register.Register.{Register}
use Rattle.steps.specs.declared.register.Registers.{Registers}
use Rattle.steps.specs.declared.step.Step.{Step}
use Rattle.steps.specs.declared.step.Step.TheVariants.{Copy, Move, Swap, Invert, Square, Multiply, Gather}
use Rattle.steps.specs.Registers.{three, at, put}
use Rattle.steps.specs.Sets.{Full}

-- the column of a starting register before the first step
abbrev pub opened : Full → Register → Registers ℕ
opened s c = put (three 0 0 0) c (cond (at s c) 1 0)

-- what a step does to a column; an invert step, which has no place here, nothing
abbrev pub grown : Step → Registers ℕ → Registers ℕ
grown (Copy a b) v = put v b (at v a)
grown (Move a b) v = put (put v b (at v a)) a 0
grown (Swap a b) v = put (put v b (at v a)) a (at v b)
grown (Invert a) v = v
grown (Square a) v = put v a (at v a + at v a)
grown (Multiply a b) v = put v a (at v a + at v b)
grown (Gather a b) v = put (put v a (at v a + at v b)) b 0

-- the largest entry of a column
abbrev pub peak : Registers ℕ → ℕ
peak v = max (max v.t v.p) v.q

-- what a step makes of a column, or none where an entry is then 2^64 or more
abbrev pub Grows : Step → Registers ℕ → Option (Registers ℕ) → Type 0
Grows s v o = MatchOption o (2 ^ 64 ≤ peak (grown s v)) (λ u. u ≡ grown s v)
