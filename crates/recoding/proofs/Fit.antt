-- Thirty entries fit for division if one test passes, which antt computes; those in use do. Assumes nothing.
use Rattle.std.proofs.Common.{◌≡◌, ℕ, zero, suc, ◌+◌, ◌%◌, Bool, true, ◌&&◌, eqb, leb, List, length, refl, arith}
use Rattle.std.proofs.lemmas.Bool.Decides.{nat_tests, Decides-below_and}
use Rattle.recoding.specs.declared.pair.Pair.{Pair}
use Rattle.recoding.specs.Pairs.{base_of, digit_of}
use Rattle.recoding.specs.Tables.{table_of_thirty, entry, least, Fits, Fitting}

module _ (table : List Pair) where
  abbrev fits : ℕ → Bool
  fits c =
      let p = entry table c in
      eqb (30 % base_of p) 0
      && (eqb (c % base_of p) (digit_of p % base_of p) && leb (base_of p + digit_of p) (least c))

  -- the entries before the n-th fit
  abbrev pub fit_below : ℕ → Bool
  fit_below zero = true
  fit_below (suc n) = fits n && fit_below n

  told : (c : ℕ) → fits c ≡ true → Fits c (entry table c)
  told c t =
      record { divides_thirty = grind (arith, nat_tests); divides_rest = grind (arith, nat_tests); reaches = grind (arith, nat_tests) }

  pub fitting_by_test : length table ≡ 30 → fit_below 30 ≡ true → Fitting table
  fitting_by_test thirty passes =
      let each = Decides-below_and fits (λ c. fits c ≡ true) fit_below (λ c. (λ t. t, λ t. t)) refl (λ _. refl) 30 in
      record { thirty = thirty; entries = λ c h. told c (each.0 passes c h) }

pub thirty_fit : Fitting table_of_thirty
thirty_fit = fitting_by_test table_of_thirty refl refl
