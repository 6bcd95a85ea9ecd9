-- The number that a text writes, and the answer to it. Assumes nothing.
use Rattle.std.specs.Prelude.{ℕ, ◌+◌, ◌-◌, ◌*◌, ◌^◌, Bool, false, cond, ◌&&◌, List, [], ◌∷◌, length, drop, Some, None, Err, Option, Result, ◌==◌, nat_lt}
use Rattle.std.specs.Option.{option_map, option_zip, option_flatten, ok_or}
use Rattle.std.specs.Bool.{then_some}
use Rattle.std.specs.Int.{is_in_range}
use Rattle.numeral.specs.declared.base.Base.{Base}
use Rattle.numeral.specs.declared.base.Base.TheVariants.{Decimal, Hexadecimal}
use Rattle.numeral.specs.declared.fault.NumeralFault.{NumeralFault}
use Rattle.numeral.specs.declared.fault.NumeralFault.TheVariants.{NotANumber, TooLarge}

-- how many digits a base has
abbrev pub radix_of : Base → ℕ
radix_of Decimal = 10
radix_of Hexadecimal = 16

-- what a byte is worth: 0 to 9, and a to f of either case
abbrev pub digit_of : ℕ → Option ℕ
digit_of b =
    cond (is_in_range 48 57 b) (Some (b - 48))
    (cond (is_in_range 97 102 b) (Some (b - 97 + 10))
    (cond (is_in_range 65 70 b) (Some (b - 65 + 10)) None))

-- what a byte is worth as a digit of the base, if it is below the base
abbrev pub digit_in : ℕ → ℕ → Option ℕ
digit_in base b = option_flatten (option_map (λ d. then_some (nat_lt d base) d) (digit_of b))

-- the digits that bytes write in the base, none if some byte is no digit of it
abbrev pub digits_in : ℕ → List ℕ → Option (List ℕ)
digits_in base [] = Some []
digits_in base (b ∷ bs) = option_map (λ p. p.0 ∷ p.1) (option_zip (digit_in base b) (digits_in base bs))

-- what digits are worth, each by its place
abbrev pub value_of : ℕ → List ℕ → ℕ
value_of base [] = 0
value_of base (d ∷ ds) = d * base ^ length ds + value_of base ds

-- the number that bytes write in the base: none if there is no byte, or one is no digit of the base
abbrev pub numeral : ℕ → List ℕ → Option ℕ
numeral base [] = None
numeral base (b ∷ bs) = option_map (value_of base) (digits_in base (b ∷ bs))

-- the text begins with 0x
abbrev pub hexadecimal : List ℕ → Bool
hexadecimal [] = false
hexadecimal (a ∷ []) = false
hexadecimal (a ∷ b ∷ bs) = a == 48 && b == 120

-- the number that a text writes: hexadecimal behind 0x, and else decimal
abbrev pub read : List ℕ → Option ℕ
read text = cond (hexadecimal text) (numeral 16 (drop 2 text)) (numeral 10 text)

-- the number itself if 64 bits hold it
abbrev pub in_64_bits : ℕ → Option ℕ
in_64_bits n = then_some (nat_lt n (2 ^ 64)) n

-- the answer to what was read
abbrev pub answer : Option ℕ → Result ℕ NumeralFault
answer None = Err NotANumber
answer (Some n) = ok_or (in_64_bits n) TooLarge

-- the answer to a text
abbrev pub parsed : List ℕ → Result ℕ NumeralFault
parsed text = answer (read text)
