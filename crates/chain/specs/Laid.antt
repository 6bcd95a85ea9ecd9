-- Steps laid into a caller's memory of words. Assumes nothing.
use Rattle.std.specs.Prelude.{◌≡◌, ℕ, ◌<◌, ◌≤◌, List, map, length, take, drop, Ok, Err, Result}
use Rattle.recoding.specs.declared.fault.NumberFault.TheVariants.{Zero}
use Rattle.recoding.specs.declared.pair.Pair.{Pair}
use Rattle.steps.specs.declared.step.Step.{Step}
use Rattle.steps.specs.Words.{encoded}
use Rattle.chain.specs.declared.fault.ChainFault.{ChainFault}
use Rattle.chain.specs.declared.fault.ChainFault.TheVariants as fault
use Rattle.chain.specs.Chains.{pair_steps, PairSteps, NumberSteps}

-- the words of the steps stand at the front, and those behind are as they were
pub record Written (ss : List Step) (was is : List ℕ) (count : ℕ) : Type 0 where
  pub counted : count ≡ length ss
  pub within : count ≤ length was
  pub front : take count is ≡ map encoded ss
  pub behind : drop count is ≡ drop count was

-- a pair laid, or refused with nothing written
pub record PairLaid (p : Pair) (was is : List ℕ) (count : ℕ) : Type 0 where
  pub does : PairSteps p (pair_steps p)
  pub written : Written (pair_steps p) was is count

pub record PairRefused (p : Pair) (was is : List ℕ) (e : ChainFault) : Type 0 where
  pub fault_is : e ≡ fault.Capacity
  pub longer : length was < length (pair_steps p)
  pub untouched : is ≡ was

abbrev pub LaysPair : Pair → List ℕ → List ℕ → Result ℕ ChainFault → Type 0
LaysPair p was is (Ok count) = PairLaid p was is count
LaysPair p was is (Err e) = PairRefused p was is e

-- a number laid, or refused with nothing written: 0 first, then a memory that is too short
pub record NumberLaid (n : ℕ) (was is : List ℕ) (count : ℕ) : Type 0 where
  pub pairs : List Pair
  pub steps : List Step
  pub does : NumberSteps n pairs steps
  pub written : Written steps was is count

pub record TooLong (n : ℕ) (was is : List ℕ) : Type 0 where
  pub pairs : List Pair
  pub steps : List Step
  pub does : NumberSteps n pairs steps
  pub longer : length was < length steps
  pub untouched : is ≡ was

abbrev pub LaysNumber : ℕ → List ℕ → List ℕ → Result ℕ ChainFault → Type 0
LaysNumber n was is (Ok count) = NumberLaid n was is count
LaysNumber n was is (Err (fault.Number e)) = (e ≡ Zero) × (n ≡ 0) × (is ≡ was)
LaysNumber n was is (Err fault.Capacity) = TooLong n was is
