-- Worked plans: pairs, words, counts and weights of six numbers, and one plan turned round. Assumes nothing.
use Rattle.std.specs.Prelude.{◌≡◌, List, [], ◌∷◌, map, ℕ, pos}
use Rattle.recoding.specs.declared.pair.Pair.{Pair}
use Rattle.recoding.specs.declared.pair.Pair.TheVariants.{TwoZero, TwoOne, ThreeZero, ThreeOne, ThreeTwo, FiveThree}
use Rattle.recoding.specs.Tables.{table_of_thirty}
use Rattle.recoding.specs.Divisions.{DividesDown}
use Rattle.steps.specs.declared.register.Register.TheVariants.{T, P}
use Rattle.steps.specs.declared.step.Step.{Step}
use Rattle.steps.specs.Steps.{squarings, multiplications, turned}
use Rattle.steps.specs.Words.{encoded}
use Rattle.steps.specs.Tables.{table, entry}
use Rattle.chain.specs.Chains.{number_steps, only_T, only_P}

abbrev pub numbers : List ℕ
numbers = 1 ∷ 2 ∷ 7 ∷ 11 ∷ 23 ∷ 13 ∷ []

-- steps have these words and counts
pub record Laid (ss : List Step) (words : List ℕ) (squared multiplied : ℕ) : Type 0 where
  pub words_are : map encoded ss ≡ words
  pub squarings_are : squarings ss ≡ squared
  pub multiplications_are : multiplications ss ≡ multiplied

-- a number has these pairs as found, and its steps these words and counts; they leave its power of T in P
pub record Worked (n : ℕ) (pairs : List Pair) (words : List ℕ) (squared multiplied : ℕ) : Type 0 where
  pub found : DividesDown table_of_thirty n pairs
  pub laid : Laid (number_steps pairs) words squared multiplied
  pub weighs : entry (table only_T (number_steps pairs)) P T ≡ pos n

-- the same of the steps turned, which leave its power of P in T
pub record WorkedTurned (n : ℕ) (pairs : List Pair) (words : List ℕ) (squared multiplied : ℕ) : Type 0 where
  pub laid : Laid (turned (number_steps pairs)) words squared multiplied
  pub weighs : entry (table only_P (turned (number_steps pairs))) T P ≡ pos n

pub record Facts : Type 0 where
  pub one : Worked 1 [] (0x2100_0000 ∷ []) 0 0
  pub two : Worked 2 (TwoZero ∷ []) (0x2100_0000 ∷ 0x5500_0000 ∷ []) 1 0
  pub seven : Worked 7 (ThreeOne ∷ TwoZero ∷ []) (0x1100_0000 ∷ 0x5500_0000 ∷ 0x1600_0000 ∷ 0x5A00_0000 ∷ 0x7600_0000 ∷ 0x7400_0000 ∷ []) 2 2
  pub eleven :
      Worked 11 (ThreeTwo ∷ ThreeZero ∷ [])
      (0x1100_0000 ∷ 0x1600_0000 ∷ 0x5A00_0000 ∷ 0x7600_0000 ∷ 0x1600_0000 ∷ 0x7800_0000 ∷ 0x5A00_0000 ∷ 0x7600_0000 ∷ []) 2 3
  pub twenty_three :
      Worked 23 (FiveThree ∷ TwoZero ∷ TwoZero ∷ [])
      (0x1100_0000 ∷ 0x5500_0000 ∷ 0x5500_0000 ∷ 0x1600_0000 ∷ 0x7800_0000 ∷ 0x6600_0000 ∷ 0x6900_0000 ∷ 0x7600_0000 ∷ []) 2 4
  pub thirteen :
      Worked 13 (TwoOne ∷ TwoZero ∷ ThreeZero ∷ [])
      (0x1100_0000 ∷ 0x1600_0000 ∷ 0x5A00_0000 ∷ 0x7600_0000 ∷ 0x5500_0000 ∷ 0x5500_0000 ∷ 0x7400_0000 ∷ []) 3 2
  pub thirteen_turned :
      WorkedTurned 13 (TwoOne ∷ TwoZero ∷ ThreeZero ∷ [])
      (0x1400_0000 ∷ 0x5500_0000 ∷ 0x5500_0000 ∷ 0x1600_0000 ∷ 0x5A00_0000 ∷ 0x7600_0000 ∷ 0x7100_0000 ∷ []) 3 2
