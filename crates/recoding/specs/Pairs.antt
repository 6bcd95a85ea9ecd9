-- The base and the digit of each of the ten pairs, and what a list of pairs is worth. Assumes nothing.
use Rattle.std.specs.Prelude.{◌≡◌, ℕ, ◌+◌, ◌*◌, List, [], ◌∷◌, ◌++◌, codes, ℤ, pos}
use Rattle.std.specs.Fmt.{decimal}
use Rattle.recoding.specs.declared.pair.Pair.{Pair}
use Rattle.recoding.specs.declared.pair.Pair.TheVariants.{TwoZero, TwoOne, ThreeZero, ThreeOne, ThreeTwo, FiveZero, FiveOne, FiveTwo, FiveThree, FiveFour}

abbrev pub base_of : Pair → ℕ
base_of TwoZero = 2
base_of TwoOne = 2
base_of ThreeZero = 3
base_of ThreeOne = 3
base_of ThreeTwo = 3
base_of FiveZero = 5
base_of FiveOne = 5
base_of FiveTwo = 5
base_of FiveThree = 5
base_of FiveFour = 5

abbrev pub digit_of : Pair → ℕ
digit_of TwoZero = 0
digit_of TwoOne = 1
digit_of ThreeZero = 0
digit_of ThreeOne = 1
digit_of ThreeTwo = 2
digit_of FiveZero = 0
digit_of FiveOne = 1
digit_of FiveTwo = 2
digit_of FiveThree = 3
digit_of FiveFour = 4

-- the pair has this base and this digit; a digit is signed where it is given from outside
abbrev pub HasParts : Pair → ℕ → ℤ → Type 0
HasParts p r d = (base_of p ≡ r) × (pos (digit_of p) ≡ d)

-- the number that pairs stand for, the least significant first: a pair multiplies what the pairs behind it stand for, at the end 1
abbrev pub worth : List Pair → ℕ
worth [] = 1
worth (p ∷ ps) = base_of p * worth ps + digit_of p

-- a pair as text, its base before its digit
abbrev pub pair_text : Pair → List ℕ
pair_text p = codes "(" ++ decimal (base_of p) ++ codes "," ++ decimal (digit_of p) ++ codes ")"
