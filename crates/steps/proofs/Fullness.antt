-- Steps that fit from a set of full registers to another: turned round they fit back, and what that does to the counts. Assumes nothing.
use Rattle.std.proofs.Common.{◌≡◌, ◌+◌, true, false, List, [], ◌∷◌, ◌++◌, Ok, sym, refl, ap, arith}
use Rattle.steps.specs.declared.register.Register.{Register}
use Rattle.steps.specs.declared.step.Step.{Step}
use Rattle.steps.specs.declared.step.Step.TheVariants.{Copy, Move, Swap, Invert, Square, Multiply, Gather}
use Rattle.steps.specs.Registers.{at, put}
use Rattle.steps.specs.Sets.{Full, size}
use Rattle.steps.specs.Steps.{kind_of, lawful, transposed, turned, squaring, multiplying, squarings, multiplications}
use Rattle.steps.specs.Fullness.{after, Fits}
use Rattle.steps.proofs.Lists.{AllLawful, turned_cons, fits_append}

-- what a step that fits finds full or empty, and what it leaves full
pub data Fitting : Step → Full → Full → Type 0 where
  copy_fits : {a b : Register} {s : Full} → at s a ≡ true → at s b ≡ false → Fitting (Copy a b) s (put s b true)
  move_fits : {a b : Register} {s : Full} → at s a ≡ true → at s b ≡ false → Fitting (Move a b) s (put (put s b true) a false)
  swap_fits : {a b : Register} {s : Full} → at s a ≡ true → at s b ≡ true → Fitting (Swap a b) s s
  invert_fits : {a : Register} {s : Full} → at s a ≡ true → Fitting (Invert a) s s
  square_fits : {a : Register} {s : Full} → at s a ≡ true → Fitting (Square a) s s
  multiply_fits : {a b : Register} {s : Full} → at s a ≡ true → at s b ≡ true → Fitting (Multiply a b) s s
  gather_fits : {a b : Register} {s : Full} → at s a ≡ true → at s b ≡ true → Fitting (Gather a b) s (put s b false)

pub fitting : (x : Step) (s m : Full) → after x s ≡ Ok m → Fitting x s m
fitting x s m e = grind (arith, copy_fits, move_fits, swap_fits, invert_fits, square_fits, multiply_fits, gather_fits)

-- a step's transpose fits back
step_back : (x : Step) (s m : Full) → lawful x ≡ true → after x s ≡ Ok m → after (transposed x) m ≡ Ok s
step_back x s m d e = grind arith

pub fits_turned : (ss : List Step) (s f : Full) → AllLawful ss → Fits s ss f → Fits f (turned ss) s
fits_turned [] s f d e = sym e
fits_turned (x ∷ xs) s f (d, ds) (m, e, h) = rw (turned_cons x xs) (fits_append (turned xs) (transposed x ∷ []) f m s (fits_turned xs m f ds h) (s, step_back x s m d e, refl))

-- counts
pub squarings_append : (ss rs : List Step) → squarings (ss ++ rs) ≡ squarings ss + squarings rs
squarings_append [] rs = omega arith
squarings_append (s ∷ ss) rs = omega (arith, squarings_append ss rs)

pub multiplications_append : (ss rs : List Step) → multiplications (ss ++ rs) ≡ multiplications ss + multiplications rs
multiplications_append [] rs = omega arith
multiplications_append (s ∷ ss) rs = omega (arith, multiplications_append ss rs)

squaring_transposed : (s : Step) → squaring (kind_of (transposed s)) ≡ squaring (kind_of s)
squaring_transposed s = grind arith

pub squarings_turned : (ss : List Step) → squarings (turned ss) ≡ squarings ss
squarings_turned [] = refl
squarings_turned (s ∷ ss) =
    omega (arith, ap squarings (turned_cons s ss), squarings_append (turned ss) (transposed s ∷ []), squaring_transposed s, squarings_turned ss)

multiplying_transposed : (x : Step) (s m : Full) → lawful x ≡ true → after x s ≡ Ok m → multiplying (kind_of (transposed x)) + size s ≡ multiplying (kind_of x) + size m
multiplying_transposed x s m d e = grind arith

pub multiplications_turned : (ss : List Step) (s f : Full) → AllLawful ss → Fits s ss f → multiplications (turned ss) + size s ≡ multiplications ss + size f
multiplications_turned [] s f d e = ap (λ x. 0 + size x) e
multiplications_turned (x ∷ xs) s f (d, ds) (m, e, h) =
    omega (arith, ap multiplications (turned_cons x xs), multiplications_append (turned xs) (transposed x ∷ []), multiplying_transposed x s m d e, multiplications_turned xs m f ds h)
