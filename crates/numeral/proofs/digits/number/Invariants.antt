-- The bytes so far write a number, which is the value if 64 bits hold it, and the other bytes follow them.
use Rattle.std.proofs.Common.{◌≡◌, ℕ, drop}
use Rattle.numeral.specs.Numerals.{radix_of, numeral, in_64_bits}
use Rattle.numeral.proofs.Reading.{numeral_after}
use Rattle.numeral.proofs.digits.number.Given as goal

abbrev pub invariant-loop-byte : goal.invariant-loop-byte
invariant-loop-byte l =
    let base = radix_of l.base in
    (n : ℕ) × (l.value ≡ in_64_bits n) × (numeral_after base n (drop l.byte-index l.digits) ≡ numeral base l.digits)
