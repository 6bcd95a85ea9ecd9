-- Division of a number into pairs by a table. Assumes nothing.
use Rattle.std.specs.Prelude.{◌≡◌, ℕ, ◌+◌, ◌*◌, ◌%◌, ◌^◌, ◌<◌, ◌≤◌, List, [], ◌∷◌, length, take}
use Rattle.recoding.specs.declared.division.Division.{Division}
use Rattle.recoding.specs.declared.pair.Pair.{Pair}
use Rattle.recoding.specs.Pairs.{base_of, digit_of, worth}
use Rattle.recoding.specs.Tables.{entry, Fitting}

-- one division of n: its remainder modulo 30 picks the pair, and m is n less the digit, over the base, exactly
pub record DividesOnce (table : List Pair) (n : ℕ) (p : Pair) (m : ℕ) : Type 0 where
  pub above : 1 < n
  pub picked : p ≡ entry table (n % 30)
  pub exact : n ≡ base_of p * m + digit_of p

-- n divided over and over, down to 1, gives these pairs, the first found first
abbrev pub DividesDown : List Pair → ℕ → List Pair → Type 0
DividesDown table n [] = n ≡ 1
DividesDown table n (p ∷ ps) = (m : ℕ) × DividesOnce table n p m × DividesDown table m ps

-- the pairs of the number n; that they are few says that a 64-bit number has at most 63 pairs
pub record Recoded (table : List Pair) (n : ℕ) (ps : List Pair) : Type 0 where
  pub divided : DividesDown table n ps
  pub worth_is : worth ps ≡ n
  pub few : 2 ^ length ps ≤ n

-- under every fitting table every number above 0 has its pairs, and they are worth it
abbrev pub EveryFittingTableDivides : Type 0
EveryFittingTableDivides =
    (table : List Pair) → Fitting table → (n : ℕ) → 0 < n → (ps : List Pair) × Recoded table n ps

-- the pairs that a division found
abbrev pub found_by : Division → List Pair
found_by d = take d.count d.pairs
