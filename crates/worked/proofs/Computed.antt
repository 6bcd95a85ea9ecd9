-- The worked facts, each by computation. Assumes nothing.
use Rattle.std.proofs.Common.{◌≡◌, ℕ, ◌+◌, ◌*◌, ◌%◌, ◌<◌, pos, List, [], ◌∷◌, map, refl, lit<}
use Rattle.recoding.specs.declared.pair.Pair.{Pair}
use Rattle.recoding.specs.declared.pair.Pair.TheVariants.{TwoZero, TwoOne, ThreeZero, ThreeOne, ThreeTwo, FiveThree}
use Rattle.recoding.specs.Pairs.{base_of, digit_of}
use Rattle.recoding.specs.Tables.{table_of_thirty, entry as pair_for}
use Rattle.recoding.specs.Divisions.{DividesDown}
use Rattle.steps.specs.declared.step.Step.{Step}
use Rattle.steps.specs.declared.register.Register.TheVariants.{T, P}
use Rattle.steps.specs.Steps.{squarings, multiplications, turned}
use Rattle.steps.specs.Words.{encoded}
use Rattle.steps.specs.Tables.{table, entry}
use Rattle.chain.specs.Chains.{number_steps, only_T}
use Rattle.worked.specs.Facts.{Laid, Worked, Facts}

-- one division to m, and on from there
down : (n m : ℕ) (p : Pair) (ps : List Pair) → 1 < n → p ≡ pair_for table_of_thirty (n % 30) → n ≡ base_of p * m + digit_of p → DividesDown table_of_thirty m ps
    → DividesDown table_of_thirty n (p ∷ ps)
down n m p ps above picked exact rest = (m, record { above = above; picked = picked; exact = exact }, rest)

by_two : DividesDown table_of_thirty 2 (TwoZero ∷ [])
by_two = down 2 1 TwoZero [] (lit< tt) refl refl refl

by_three : DividesDown table_of_thirty 3 (ThreeZero ∷ [])
by_three = down 3 1 ThreeZero [] (lit< tt) refl refl refl

laid : (ss : List Step) → Laid ss (map encoded ss) (squarings ss) (multiplications ss)
laid ss = record { words_are = refl; squarings_are = refl; multiplications_are = refl }

worked : (n : ℕ) (ps : List Pair) → DividesDown table_of_thirty n ps → entry (table only_T (number_steps ps)) P T ≡ pos n
    → Worked n ps (map encoded (number_steps ps)) (squarings (number_steps ps)) (multiplications (number_steps ps))
worked n ps found weighs = record { found = found; laid = laid (number_steps ps); weighs = weighs }

abbrev pairs_of_13 : List Pair
pairs_of_13 = TwoOne ∷ TwoZero ∷ ThreeZero ∷ []

pub computed : Facts
computed =
    record {
      one = worked 1 [] refl refl;
      two = worked 2 (TwoZero ∷ []) by_two refl;
      seven = worked 7 (ThreeOne ∷ TwoZero ∷ []) (down 7 2 ThreeOne (TwoZero ∷ []) (lit< tt) refl refl by_two) refl;
      eleven = worked 11 (ThreeTwo ∷ ThreeZero ∷ []) (down 11 3 ThreeTwo (ThreeZero ∷ []) (lit< tt) refl refl by_three) refl;
      twenty_three =
          worked 23 (FiveThree ∷ TwoZero ∷ TwoZero ∷ [])
          (down 23 4 FiveThree (TwoZero ∷ TwoZero ∷ []) (lit< tt) refl refl (down 4 2 TwoZero (TwoZero ∷ []) (lit< tt) refl refl by_two)) refl;
      thirteen = worked 13 pairs_of_13 (down 13 6 TwoOne (TwoZero ∷ ThreeZero ∷ []) (lit< tt) refl refl (down 6 3 TwoZero (ThreeZero ∷ []) (lit< tt) refl refl by_three)) refl;
      thirteen_turned = record { laid = laid (turned (number_steps pairs_of_13)); weighs = refl };
    }
