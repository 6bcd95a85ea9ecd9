-- The ten pairs: what the steps of each do to the rows, and where they fit. Assumes nothing.
use Rattle.std.proofs.Common.{◌≡◌, ℤ, pos, ◌+ℤ◌, ◌*ℤ◌, sym, refl, ap, ◌∙◌, subst, arith}
use Rattle.std.proofs.lemmas.Int.{ints}
use Rattle.recoding.specs.declared.pair.Pair.{Pair}
use Rattle.recoding.specs.declared.pair.Pair.TheVariants.{TwoZero, TwoOne, ThreeZero, ThreeOne, ThreeTwo, FiveZero, FiveOne, FiveTwo, FiveThree, FiveFour}
use Rattle.recoding.specs.Pairs.{base_of, digit_of}
use Rattle.steps.specs.declared.register.Register.TheVariants.{T, P, Q}
use Rattle.steps.specs.Registers.{three}
use Rattle.steps.specs.Fullness.{Fits}
use Rattle.steps.specs.Tables.{Table, zeros, plus, times, acts, exchanged}
use Rattle.steps.proofs.Columns.{steps_column, column, column_acts}
use Rattle.chain.specs.Chains.{pair_steps, T_and_P, PairSteps}

-- tables with the same columns are the same
from_columns : {u v : Table} → column u T ≡ column v T → column u P ≡ column v P → column u Q ≡ column v Q → u ≡ v
from_columns e f g = λ i. exchanged (three (e i) (f i) (g i))

-- equal columns by equal entries at P
at_P : {x y z : ℤ} → y ≡ z → three x y (pos 0) ≡ three x z (pos 0)
at_P {x} e = ap (λ y. three x y (pos 0)) e

-- by the fit, and by what the steps do to a column with x at T, y at P and 0 at Q
does : {p : Pair} → Fits T_and_P (pair_steps p) T_and_P
    → ((x y : ℤ) → steps_column (pair_steps p) (three x y (pos 0)) ≡ three x (pos (base_of p) *ℤ y +ℤ pos (digit_of p) *ℤ x) (pos 0))
    → PairSteps p (pair_steps p)
does {p} fit entry =
    record {
      listed = refl;
      fits = fit;
      rows = λ t empty.
          let u : Table = three t.t t.p zeros in
          let row = plus (times (base_of p) t.p) (times (digit_of p) t.t) in
          subst (λ z. acts (pair_steps p) (three t.t t.p z) ≡ three t.t row z) (sym empty)
          (from_columns
          (column_acts (pair_steps p) u T ∙ entry t.t.t t.p.t)
          (column_acts (pair_steps p) u P ∙ entry t.t.p t.p.p)
          (column_acts (pair_steps p) u Q ∙ entry t.t.q t.p.q));
    }

pub pair_does : (p : Pair) → PairSteps p (pair_steps p)
pair_does TwoZero = does (_, refl, refl) (λ x y. at_P (omega (arith, ints)))
pair_does TwoOne = does (_, refl, (_, refl, refl)) (λ x y. at_P (omega (arith, ints)))
pair_does ThreeZero = does (_, refl, (_, refl, (_, refl, refl))) (λ x y. at_P (omega (arith, ints)))
pair_does ThreeOne = does (_, refl, (_, refl, (_, refl, (_, refl, refl)))) (λ x y. at_P (omega (arith, ints)))
pair_does ThreeTwo = does (_, refl, (_, refl, (_, refl, (_, refl, refl)))) (λ x y. at_P (omega (arith, ints)))
pair_does FiveZero = does (_, refl, (_, refl, (_, refl, (_, refl, refl)))) (λ x y. at_P (omega (arith, ints)))
pair_does FiveOne = does (_, refl, (_, refl, (_, refl, (_, refl, (_, refl, refl))))) (λ x y. at_P (omega (arith, ints)))
pair_does FiveTwo = does (_, refl, (_, refl, (_, refl, (_, refl, (_, refl, refl))))) (λ x y. at_P (omega (arith, ints)))
pair_does FiveThree = does (_, refl, (_, refl, (_, refl, (_, refl, (_, refl, refl))))) (λ x y. at_P (omega (arith, ints)))
pair_does FiveFour = does (_, refl, (_, refl, (_, refl, (_, refl, (_, refl, refl))))) (λ x y. at_P (omega (arith, ints)))
