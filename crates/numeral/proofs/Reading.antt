-- Digits read one after the other. Assumes nothing.
use Rattle.std.proofs.Common.{◌≡◌, ℕ, ◌+◌, ◌*◌, ◌^◌, List, ◌∷◌, length, get_or, drop, Some, None, Option, refl, ap, ◌∙◌, pow-suc, arith, ◌<◌}
use Rattle.std.proofs.lemmas.List.{at_drop_more}
use Rattle.std.specs.Option.{option_map, option_zip}
use Rattle.numeral.specs.Numerals.{digit_in, digits_in, value_of}

module _ (base : ℕ) where
  -- what digits are worth when they follow digits that are worth n
  abbrev pub value_after : ℕ → List ℕ → ℕ
  value_after n ds = n * base ^ length ds + value_of base ds

  -- the first of them counted among those that they follow
  after_one : (n d : ℕ) (rest : Option (List ℕ))
      → option_map (value_after n) (option_map (λ p. p.0 ∷ p.1) (option_zip (Some d) rest)) ≡ option_map (value_after (n * base + d)) rest
  after_one n d None = refl
  after_one n d (Some ds) = ap Some (grind (arith, pow-suc))

  -- the number that bytes write when they follow digits that are worth n
  abbrev pub numeral_after : ℕ → List ℕ → Option ℕ
  numeral_after n bytes = option_map (value_after n) (digits_in base bytes)

  pub numeral_after_one : (n d i : ℕ) (bytes : List ℕ)
      → i < length bytes
      → digit_in base (get_or bytes i 0) ≡ Some d
      → numeral_after n (drop i bytes) ≡ numeral_after (n * base + d) (drop (i + 1) bytes)
  numeral_after_one n d i bytes within digit =
      at_drop_more (numeral_after n) bytes i 0 within ∙ rw digit (after_one n d (digits_in base (drop (i + 1) bytes)))
