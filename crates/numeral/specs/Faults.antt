-- The line that is shown for each refusal. Assumes nothing.
use Rattle.std.specs.Prelude.{ℕ, List, codes}
use Rattle.numeral.specs.declared.fault.NumeralFault.{NumeralFault}
use Rattle.numeral.specs.declared.fault.NumeralFault.TheVariants.{NotANumber, TooLarge}

abbrev pub message : NumeralFault → List ℕ
message NotANumber = codes "not a number: decimal digits, or 0x and hexadecimal digits"
message TooLarge = codes "too large: a job number is below 2^64"
