-- The division table, a pair for each remainder modulo 30, and what makes any thirty entries fit for division. Assumes nothing.
use Rattle.std.specs.Prelude.{◌≡◌, ℕ, ◌+◌, ◌%◌, ◌<◌, ◌≤◌, cond, List, [], ◌∷◌, length, nat_lt, slice_index_or}
use Rattle.recoding.specs.declared.pair.Pair.{Pair}
use Rattle.recoding.specs.declared.pair.Pair.TheVariants.{TwoZero, TwoOne, ThreeZero, ThreeOne, ThreeTwo, FiveZero, FiveOne, FiveTwo, FiveThree, FiveFour}
use Rattle.recoding.specs.Pairs.{base_of, digit_of}

-- the thirty entries in use, for the remainders 0 to 29, six to a line
abbrev pub table_of_thirty : List Pair
table_of_thirty =
    TwoZero ∷ FiveOne ∷ TwoZero ∷ ThreeZero ∷ TwoZero ∷ FiveZero
    ∷ TwoZero ∷ ThreeOne ∷ TwoZero ∷ ThreeZero ∷ TwoZero ∷ ThreeTwo
    ∷ TwoZero ∷ TwoOne ∷ TwoZero ∷ ThreeZero ∷ TwoZero ∷ FiveTwo
    ∷ TwoZero ∷ ThreeOne ∷ TwoZero ∷ ThreeZero ∷ TwoZero ∷ FiveThree
    ∷ TwoZero ∷ FiveZero ∷ TwoZero ∷ ThreeZero ∷ TwoZero ∷ FiveFour ∷ []

-- the entry for a remainder; past the thirtieth, where no remainder lies, some pair
abbrev pub entry : List Pair → ℕ → Pair
entry table c = slice_index_or table c TwoZero

-- the least number above 1 that leaves the remainder c modulo 30
abbrev pub least : ℕ → ℕ
least c = cond (nat_lt 1 c) c (c + 30)

-- a pair fits the remainder c: its base divides 30, and c less the digit, and the first division leaves at least 1
pub record Fits (c : ℕ) (p : Pair) : Type 0 where
  pub divides_thirty : 30 % base_of p ≡ 0
  pub divides_rest : c % base_of p ≡ digit_of p % base_of p
  pub reaches : base_of p + digit_of p ≤ least c

-- a table fits for division: thirty entries, each of which fits its remainder
pub record Fitting (table : List Pair) : Type 0 where
  pub thirty : length table ≡ 30
  pub entries : (c : ℕ) → c < 30 → Fits c (entry table c)
