-- Under every fitting table every number above 0 has its pairs. Assumes nothing.
use Rattle.std.proofs.Common.{ℕ, zero, suc, ◌+◌, ◌-◌, ◌*◌, ◌/◌, ◌%◌, ◌<◌, ◌≤◌, List, [], ◌∷◌, length, sym, refl, ap, ◌∙◌, subst, ⊎_elim, pow-suc, arith}
use Rattle.std.proofs.lemmas.Bool.{cases_lt}
use Rattle.std.proofs.lemmas.Bool.Decides.{nat_tests}
use Rattle.recoding.specs.declared.pair.Pair.{Pair}
use Rattle.recoding.specs.Pairs.{base_of, digit_of}
use Rattle.recoding.specs.Tables.{entry, Fits, Fitting}
use Rattle.recoding.specs.Divisions.{DividesOnce, Recoded, EveryFittingTableDivides}

-- 1 has no pairs
pub none : (table : List Pair) → Recoded table 1 []
none table = record { divided = refl; worth_is = refl; few = omega arith }

-- the pair of one division before the pairs of what is left, which is at most half
pub before : (table : List Pair) (n : ℕ) (p : Pair) (m : ℕ) (ps : List Pair) → DividesOnce table n p m → m + m ≤ n → Recoded table m ps → Recoded table n (p ∷ ps)
before table n p m ps d half rest =
    record {
      divided = (m, d, rest.divided);
      worth_is = ap (λ x. base_of p * x + digit_of p) rest.worth_is ∙ sym d.exact;
      few = omega (arith, pow-suc 2 (length ps));
    }

module _ (table : List Pair) (fit : Fitting table) where
  -- every number above 1 is divided, exactly
  once : (n : ℕ) → 1 < n → (m : ℕ) × DividesOnce table n (entry table (n % 30)) m
  once n above =
      let p = entry table (n % 30) in
      let fits = fit.entries (n % 30) (omega arith) in
      ((n - digit_of p) / base_of p, record { above = above; picked = refl; exact = grind (arith, nat_tests) })

  -- what one division leaves is at least 1 and at most half
  pub falls : (n : ℕ) (p : Pair) (m : ℕ) → DividesOnce table n p m → (1 ≤ m) × (m + m ≤ n)
  falls n p m d =
      let fits : Fits (n % 30) p = subst (Fits (n % 30)) (sym d.picked) (fit.entries (n % 30) (omega arith)) in
      (grind (arith, nat_tests), grind (arith, nat_tests))

  below : (bound n : ℕ) → n ≤ bound → 0 < n → (ps : List Pair) × Recoded table n ps
  below zero n small positive = absurd (omega arith)
  below (suc bound) n small positive =
      ⊎_elim
      (λ above.
      let (m, d) = once n above in
      let (left, half) = falls n _ m d in
      let (ps, rest) = below bound m (omega arith) left in
      (_ ∷ ps, before table n _ m ps d half rest))
      (λ low. ([], subst (λ x. Recoded table x []) (omega arith) (none table)))
      (cases_lt 1 n)

pub every_fitting : EveryFittingTableDivides
every_fitting table fit n = below table fit n n (omega arith)
