-- The steps of a number, and these turned, walk to the number. Assumes nothing.
use Rattle.std.proofs.Common.{◌≡◌, ℕ, ◌^◌, ◌<◌, List, [], ◌∷◌, map, pos, ◌*ℤ◌, Ok, Err, Result, refl, ap, ◌∙◌, arith}
use Rattle.std.proofs.lemmas.Int.{ints}
use Rattle.recoding.specs.declared.pair.Pair.{Pair}
use Rattle.recoding.specs.Tables.{table_of_thirty}
use Rattle.recoding.specs.Divisions.{Recoded}
use Rattle.steps.specs.declared.fault.WalkFault.{WalkFault}
use Rattle.steps.specs.declared.register.Register.{Register}
use Rattle.steps.specs.declared.register.Register.TheVariants.{T, P}
use Rattle.steps.specs.declared.register.Registers.{Registers}
use Rattle.steps.specs.declared.step.Step.{Step}
use Rattle.steps.specs.Registers.{three, at}
use Rattle.steps.specs.Sets.{Full}
use Rattle.steps.specs.Steps.{turned}
use Rattle.steps.specs.Words.{encoded, decoded}
use Rattle.steps.specs.Fullness.{Fits}
use Rattle.steps.specs.Tables.{Table, opening, table, entry, exchanged, zeros}
use Rattle.steps.specs.Plans.{Walks}
use Rattle.steps.proofs.Fields.{decode_encode}
use Rattle.steps.proofs.Lists.{AllLawful, lawful_turned, inverts_turned}
use Rattle.steps.proofs.Fullness.{fits_turned}
use Rattle.steps.proofs.Transposition.{table_turned}
use Rattle.steps.proofs.Ints.{mul_one}
use Rattle.steps.proofs.Plans.{oks}
use Rattle.steps.proofs.Unique.{walks_to}
use Rattle.chain.specs.Chains.{number_steps, only_T, only_P}
use Rattle.chain.specs.Weights.{Weighs, WeighsNumber}
use Rattle.chain.proofs.Releasing.{number_lawful, number_no_invert}
use Rattle.chain.proofs.Numbers.{number_does}

-- the words of lawful steps are read as these steps
read_back : (ss : List Step) → AllLawful ss → map decoded (map encoded ss) ≡ oks ss
read_back [] h = refl
read_back (s ∷ ss) (h, hs) = λ i. decode_encode s h i ∷ read_back ss hs i

-- a table with one entry, n in row P and column T
abbrev alone : ℕ → Table
alone n = three zeros (three (pos n) (pos 0) (pos 0)) zeros

module _ (n : ℕ) (ps : List Pair) (small : n < 2 ^ 64) (r : Recoded table_of_thirty n ps) where
  fits : Fits only_T (number_steps ps) only_P
  fits = (number_does n ps r).fits

  law : AllLawful (number_steps ps)
  law = number_lawful ps

  the_table : table only_T (number_steps ps) ≡ alone n
  the_table =
      let none : pos n *ℤ pos 0 ≡ pos 0 = omega (arith, ints) in
      (number_does n ps r).rows (opening only_T) refl ∙ (λ i. three zeros (three (mul_one (pos n) i) (none i) (none i)) zeros)

  turned_table : table only_P (turned (number_steps ps)) ≡ exchanged (alone n)
  turned_table = table_turned (number_steps ps) only_T only_P law fits ∙ ap exchanged the_table

  column : (q : Register) → entry (table only_T (number_steps ps)) q T ≡ pos (at (three 0 n 0) q)
  column q = ap (λ t. entry t q T) the_table ∙ grind arith

  turned_column : (q : Register) → entry (table only_P (turned (number_steps ps))) q P ≡ pos (at (three n 0 0) q)
  turned_column q = ap (λ t. entry t q P) turned_table ∙ grind arith

  pub weighs_straight : (ws : List ℕ) → ws ≡ map encoded (number_steps ps) → (o : Result (Registers ℕ) WalkFault) → Walks only_T T ws o → o ≡ Ok (three 0 n 0)
  weighs_straight ws e =
      walks_to only_T only_P T ws (number_steps ps)
      (record { words = ap (map decoded) e ∙ read_back (number_steps ps) law; fits = fits })
      (number_no_invert ps) (three 0 n 0) column (omega arith)

  pub weighs_turned : (ws : List ℕ) → ws ≡ map encoded (turned (number_steps ps)) → (o : Result (Registers ℕ) WalkFault) → Walks only_P P ws o → o ≡ Ok (three n 0 0)
  weighs_turned ws e =
      walks_to only_P only_T P ws (turned (number_steps ps))
      (record { words = ap (map decoded) e ∙ read_back (turned (number_steps ps)) (lawful_turned (number_steps ps) law); fits = fits_turned (number_steps ps) only_T only_P law fits })
      (inverts_turned (number_steps ps) ∙ number_no_invert ps) (three n 0 0) turned_column (omega arith)

-- the entry that was found, where the walk can end in one way only
entry_of : (s : Full) (ws : List ℕ) (end start : Register) (r : Result ℕ WalkFault) → Weighs s ws end start r
    → (v : Registers ℕ) → ((o : Result (Registers ℕ) WalkFault) → Walks s start ws o → o ≡ Ok v) → r ≡ Ok (at v end)
entry_of s ws end start (Ok n) (w, walked, e) v only = cc (only (Ok w) walked)
entry_of s ws end start (Err f) h v only = cc (only (Err f) h)

pub weighs_number : (s : Full) (ws : List ℕ) (end start : Register) (r : Result ℕ WalkFault) → Weighs s ws end start r → WeighsNumber s ws end start r
weighs_number s ws end start r h =
    record {
      straight = λ n ps ss does small w set last first.
          entry_of only_T ws P T r (rw (set, last, first) at h) (three 0 n 0) (weighs_straight n ps small does.recoded ws (w ∙ ap (map encoded) does.listed));
      turned_round = λ n ps ss does small w set last first.
          entry_of only_P ws T P r (rw (set, last, first) at h) (three n 0 0) (weighs_turned n ps small does.recoded ws (w ∙ ap (λ l. map encoded (turned l)) does.listed));
    }
