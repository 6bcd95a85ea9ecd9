-- Sets of registers: which are in, the number of a set, and how many. Assumes nothing.
use Rattle.std.specs.Prelude.{ℕ, ◌+◌, ◌/◌, ◌%◌, Bool, cond, ◌==◌}
use Rattle.steps.specs.declared.register.Register.{Register}
use Rattle.steps.specs.declared.register.Register.TheVariants.{T, P, Q}
use Rattle.steps.specs.declared.register.Registers.{Registers}
use Rattle.steps.specs.declared.register_set.RegisterSet.{RegisterSet}
use Rattle.steps.specs.Registers.{three}

-- the full registers: for each, whether it is full
abbrev pub Full : Type 0
Full = Registers Bool

-- what a register adds to the number of a set
abbrev pub bit_of : Register → ℕ
bit_of T = 1
bit_of P = 2
bit_of Q = 4

-- the number of a set
abbrev pub bits_of : Full → ℕ
bits_of s = cond s.t (bit_of T) 0 + cond s.p (bit_of P) 0 + cond s.q (bit_of Q) 0

-- the registers that a number has its bit of
abbrev pub full_of : ℕ → Full
full_of n = three (n / bit_of T % 2 == 1) (n / bit_of P % 2 == 1) (n / bit_of Q % 2 == 1)

abbrev pub members : RegisterSet → Full
members s = full_of s.bits

-- how many registers are in the set
abbrev pub size : Full → ℕ
size s = cond s.t 1 0 + cond s.p 1 0 + cond s.q 1 0
