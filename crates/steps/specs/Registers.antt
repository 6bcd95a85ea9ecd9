-- The registers' numbers, and three values by register. Assumes nothing.
use Rattle.std.specs.Prelude.{ℕ}
use Rattle.steps.specs.declared.register.Register.{Register}
use Rattle.steps.specs.declared.register.Register.TheVariants.{T, P, Q}
use Rattle.steps.specs.declared.register.Registers.{Registers}

-- a register's number in a step word
abbrev pub number_of : Register → ℕ
number_of T = 0
number_of P = 1
number_of Q = 2

abbrev pub three : {A : Type 0} → A → A → A → Registers A
three x y z = record { t = x; p = y; q = z }

abbrev pub at : {A : Type 0} → Registers A → Register → A
at v T = v.t
at v P = v.p
at v Q = v.q

-- the values with another one at a register
abbrev pub put : {A : Type 0} → Registers A → Register → A → Registers A
put v T x = three x v.p v.q
put v P x = three v.t x v.q
put v Q x = three v.t v.p x
