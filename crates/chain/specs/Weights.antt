-- The weight of a plan between two registers: an entry of its table. Assumes nothing.
use Rattle.std.specs.Prelude.{◌≡◌, ℕ, ◌^◌, ◌<◌, List, map, Ok, Err, Result}
use Rattle.recoding.specs.declared.pair.Pair.{Pair}
use Rattle.steps.specs.declared.fault.WalkFault.{WalkFault}
use Rattle.steps.specs.declared.register.Register.{Register}
use Rattle.steps.specs.declared.register.Register.TheVariants.{T, P}
use Rattle.steps.specs.declared.register.Registers.{Registers}
use Rattle.steps.specs.declared.step.Step.{Step}
use Rattle.steps.specs.Registers.{at}
use Rattle.steps.specs.Sets.{Full}
use Rattle.steps.specs.Steps.{turned}
use Rattle.steps.specs.Words.{encoded}
use Rattle.steps.specs.Plans.{Walked, Walks}
use Rattle.chain.specs.Chains.{only_T, only_P, NumberSteps}

-- the entry of the end register's row in the starting register's column, or why it is not found
abbrev pub Weighs : Full → List ℕ → Register → Register → Result ℕ WalkFault → Type 0
Weighs s ws end start (Ok n) = (v : Registers ℕ) × Walked s start ws v × (n ≡ at v end)
Weighs s ws end start (Err e) = Walks s start ws (Err e)

-- the steps of a number weigh the number from T to P, and turned they weigh it from P to T
pub record WeighsNumber (s : Full) (ws : List ℕ) (end start : Register) (r : Result ℕ WalkFault) : Type 0 where
  pub straight :
      (n : ℕ) (ps : List Pair) (ss : List Step) → NumberSteps n ps ss → n < 2 ^ 64
      → ws ≡ map encoded ss → s ≡ only_T → end ≡ P → start ≡ T → r ≡ Ok n
  pub turned_round :
      (n : ℕ) (ps : List Pair) (ss : List Step) → NumberSteps n ps ss → n < 2 ^ 64
      → ws ≡ map encoded (turned ss) → s ≡ only_P → end ≡ T → start ≡ P → r ≡ Ok n
