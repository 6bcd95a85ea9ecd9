-- What a step needs of the full registers and what it leaves full; lists of steps that fit from a set to a set. Assumes nothing.
use Rattle.std.specs.Prelude.{◌≡◌, Bool, true, false, cond, List, [], ◌∷◌, Ok, Err, Result}
use Rattle.steps.specs.declared.fault.RegisterFault.{RegisterFault}
use Rattle.steps.specs.declared.fault.RegisterFault.TheVariants as fault
use Rattle.steps.specs.declared.step.Step.{Step}
use Rattle.steps.specs.declared.step.Step.TheVariants.{Copy, Move, Swap, Invert, Square, Multiply, Gather}
use Rattle.steps.specs.Registers.{at, put}
use Rattle.steps.specs.Sets.{Full}

-- a is needed full, then b empty
abbrev pub from_to : Bool → Bool → Full → Result Full RegisterFault
from_to a b s = cond a (cond b (Err fault.Full) (Ok s)) (Err fault.Empty)

-- a and b are needed full
abbrev pub both : Bool → Bool → Full → Result Full RegisterFault
both a b s = cond a (cond b (Ok s) (Err fault.Empty)) (Err fault.Empty)

-- the full registers after a step
abbrev pub after : Step → Full → Result Full RegisterFault
after (Copy a b) s = from_to (at s a) (at s b) (put s b true)
after (Move a b) s = from_to (at s a) (at s b) (put (put s b true) a false)
after (Swap a b) s = both (at s a) (at s b) s
after (Invert a) s = both (at s a) true s
after (Square a) s = both (at s a) true s
after (Multiply a b) s = both (at s a) (at s b) s
after (Gather a b) s = both (at s a) (at s b) (put s b false)

-- the steps, in order, fit from the full registers s to the full registers f
abbrev pub Fits : Full → List Step → Full → Type 0
Fits s [] f = s ≡ f
Fits s (x ∷ xs) f = (m : Full) × (after x s ≡ Ok m) × Fits m xs f
