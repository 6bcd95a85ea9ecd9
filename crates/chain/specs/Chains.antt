-- The steps for a pair and for a job number, and what they do to registers and rows. Assumes nothing.
use Rattle.std.specs.Prelude.{◌≡◌, ℕ, ◌+◌, ◌-◌, ◌*◌, ◌^◌, ◌<◌, ◌≤◌, Bool, true, false, cond, ◌||◌, List, [], ◌∷◌, ◌++◌, length}
use Rattle.recoding.specs.declared.pair.Pair.{Pair}
use Rattle.recoding.specs.declared.pair.Pair.TheVariants.{TwoZero, TwoOne, ThreeZero, ThreeOne, ThreeTwo, FiveZero, FiveOne, FiveTwo, FiveThree, FiveFour}
use Rattle.recoding.specs.Pairs.{base_of, digit_of}
use Rattle.recoding.specs.Tables.{table_of_thirty}
use Rattle.recoding.specs.Divisions.{Recoded}
use Rattle.steps.specs.declared.register.Register.TheVariants.{T, P, Q}
use Rattle.steps.specs.declared.step.Step.{Step}
use Rattle.steps.specs.declared.step.Step.TheVariants.{Copy, Move, Swap, Invert, Square, Multiply, Gather}
use Rattle.steps.specs.Registers.{three, at, put}
use Rattle.steps.specs.Sets.{Full}
use Rattle.steps.specs.Steps.{same}
use Rattle.steps.specs.Fullness.{Fits}
use Rattle.steps.specs.Tables.{Table, zeros, plus, times, acts}

-- the steps of each pair; T holds the value, P the power so far, Q is free
abbrev pub pair_steps : Pair → List Step
pair_steps TwoZero = Square P ∷ []
pair_steps TwoOne = Square P ∷ Multiply P T ∷ []
pair_steps ThreeZero = Copy P Q ∷ Square Q ∷ Gather P Q ∷ []
pair_steps ThreeOne = Copy P Q ∷ Square Q ∷ Gather P Q ∷ Multiply P T ∷ []
pair_steps ThreeTwo = Copy P Q ∷ Multiply Q T ∷ Square Q ∷ Gather P Q ∷ []
pair_steps FiveZero = Copy P Q ∷ Square Q ∷ Square Q ∷ Gather P Q ∷ []
pair_steps FiveOne = Copy P Q ∷ Square Q ∷ Square Q ∷ Gather P Q ∷ Multiply P T ∷ []
pair_steps FiveTwo = Copy P Q ∷ Square Q ∷ Multiply Q T ∷ Square Q ∷ Gather P Q ∷ []
pair_steps FiveThree = Copy P Q ∷ Multiply Q T ∷ Multiply P Q ∷ Multiply Q P ∷ Gather P Q ∷ []
pair_steps FiveFour = Copy P Q ∷ Multiply Q T ∷ Square Q ∷ Square Q ∷ Gather P Q ∷ []

-- the steps of pairs, the last found first
abbrev pub pairs_steps : List Pair → List Step
pairs_steps [] = []
pairs_steps (p ∷ ps) = pairs_steps ps ++ pair_steps p

-- a step that takes T's value and leaves it: a copy of T, or a multiply by T
abbrev pub reads_T : Step → Bool
reads_T (Copy a b) = same a T
reads_T (Move a b) = false
reads_T (Swap a b) = false
reads_T (Invert a) = false
reads_T (Square a) = false
reads_T (Multiply a b) = same b T
reads_T (Gather a b) = false

-- the same step, which empties what it takes too: a move for a copy, a gather for a multiply
abbrev pub releasing : Step → Step
releasing (Copy a b) = Move a b
releasing (Move a b) = Move a b
releasing (Swap a b) = Swap a b
releasing (Invert a) = Invert a
releasing (Square a) = Square a
releasing (Multiply a b) = Gather a b
releasing (Gather a b) = Gather a b

abbrev pub any_reads_T : List Step → Bool
any_reads_T [] = false
any_reads_T (s ∷ ss) = reads_T s || any_reads_T ss

-- a step, released if it reads T and nothing behind it does
abbrev pub release : Bool → Step → Step
release later s = cond later s (cond (reads_T s) (releasing s) s)

-- the last step that reads T releases it
abbrev pub released : List Step → List Step
released [] = []
released (s ∷ ss) = release (any_reads_T ss) s ∷ released ss

-- the steps of the number that the pairs stand for
abbrev pub number_steps : List Pair → List Step
number_steps ps = released (Copy T P ∷ pairs_steps ps)

abbrev pub only_T : Full
only_T = three true false false

abbrev pub only_P : Full
only_P = three false true false

abbrev pub T_and_P : Full
T_and_P = three true true false

-- the steps of a pair of base r and digit d: row P becomes r times row P plus d times row T, and Q, which is empty, stays so
pub record PairSteps (p : Pair) (ss : List Step) : Type 0 where
  pub listed : ss ≡ pair_steps p
  pub fits : Fits T_and_P ss T_and_P
  pub rows : (t : Table) → at t Q ≡ zeros → acts ss t ≡ put t P (plus (times (base_of p) (at t P)) (times (digit_of p) (at t T)))

-- the steps of the number n leave n times row T in row P and nothing in row T; for b bits they are at most 4 (b - 1) + 1
pub record NumberSteps (n : ℕ) (ps : List Pair) (ss : List Step) : Type 0 where
  pub recoded : Recoded table_of_thirty n ps
  pub listed : ss ≡ number_steps ps
  pub fits : Fits only_T ss only_P
  pub rows : (t : Table) → at t Q ≡ zeros → acts ss t ≡ put (put t P (times n (at t T))) T zeros
  pub short : (b : ℕ) → n < 2 ^ b → length ss ≤ 4 * (b - 1) + 1
