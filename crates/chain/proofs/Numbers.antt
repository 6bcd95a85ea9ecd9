-- The steps of a number: what they do to the rows, where they fit, and how many they are. Assumes nothing.
use Rattle.std.proofs.Common.{◌≡◌, ℕ, ◌+◌, ◌-◌, ◌*◌, ◌^◌, ◌<◌, ◌≤◌, cond, leb, List, [], ◌∷◌, length, ℤ, pos, ◌+ℤ◌, ◌*ℤ◌, sym, refl, ap, ◌∙◌, arith, lit≤, length-append, pow_mono}
use Rattle.std.proofs.lemmas.Nat.{pow-add, mul-le}
use Rattle.recoding.specs.declared.pair.Pair.{Pair}
use Rattle.recoding.specs.Pairs.{base_of, digit_of, worth}
use Rattle.recoding.specs.Tables.{table_of_thirty}
use Rattle.recoding.specs.Divisions.{Recoded}
use Rattle.steps.specs.declared.register.Register.TheVariants.{T, P, Q}
use Rattle.steps.specs.declared.step.Step.TheVariants.{Copy}
use Rattle.steps.specs.Registers.{three, at, put}
use Rattle.steps.specs.Fullness.{Fits}
use Rattle.steps.specs.Tables.{Row, Table, zeros, plus, times, acts}
use Rattle.steps.proofs.Ints.{add_mul, mul_ℤ_assoc, one_mul}
use Rattle.steps.proofs.Lists.{acts_append, fits_append}
use Rattle.chain.specs.Chains.{pair_steps, pairs_steps, number_steps, only_T, T_and_P, NumberSteps}
use Rattle.chain.proofs.Rows.{pair_does}
use Rattle.chain.proofs.Releasing.{acts_released, fits_released, length_released, number_plain}

-- r times n times x, plus d times x
joined_entry : (r n d : ℕ) (x : ℤ) → pos r *ℤ (pos n *ℤ x) +ℤ pos d *ℤ x ≡ pos (r * n + d) *ℤ x
joined_entry r n d x = ap (λ k. k +ℤ pos d *ℤ x) (sym (mul_ℤ_assoc (pos r) (pos n) x)) ∙ sym (add_mul (pos (r * n)) (pos d) x)

joined_row : (r n d : ℕ) (x : Row) → plus (times r (times n x)) (times d x) ≡ times (r * n + d) x
joined_row r n d x = λ i. three (joined_entry r n d x.t i) (joined_entry r n d x.p i) (joined_entry r n d x.q i)

-- from row T in row P, the steps of pairs make row T times the worth of the pairs
pairs_rows : (ps : List Pair) (t : Table) → at t Q ≡ zeros → acts (pairs_steps ps) (put t P (at t T)) ≡ put t P (times (worth ps) (at t T))
pairs_rows [] t empty = sym (λ i. put t P (three (one_mul t.t.t i) (one_mul t.t.p i) (one_mul t.t.q i)))
pairs_rows (p ∷ ps) t empty =
    acts_append (pairs_steps ps) (pair_steps p) (put t P (at t T))
    ∙ ap (acts (pair_steps p)) (pairs_rows ps t empty)
    ∙ (pair_does p).rows (put t P (times (worth ps) (at t T))) empty
    ∙ ap (put t P) (joined_row (base_of p) (worth ps) (digit_of p) (at t T))

pairs_fit : (ps : List Pair) → Fits T_and_P (pairs_steps ps) T_and_P
pairs_fit [] = refl
pairs_fit (p ∷ ps) = fits_append (pairs_steps ps) (pair_steps p) T_and_P T_and_P T_and_P (pairs_fit ps) (pair_does p).fits

-- a pair takes k bits off a number, one or two, and has at most 4 steps for each
pub pair_short : (p : Pair) → (k : ℕ) × (length (pair_steps p) ≤ 4 * k) × (2 ^ k ≤ base_of p) × (k ≤ 2)
pair_short p = (cond (leb 5 (base_of p)) 2 1, grind arith, grind arith, grind arith)

pairs_short : (ps : List Pair) → (k : ℕ) × (length (pairs_steps ps) ≤ 4 * k) × (2 ^ k ≤ worth ps)
pairs_short [] = (0, lit≤ tt, lit≤ tt)
pairs_short (p ∷ ps) =
    let (j, few, low, _) = pair_short p in
    let (k, fews, lows) = pairs_short ps in (
      j + k,
      omega (arith, length-append (pairs_steps ps) (pair_steps p)),
      omega (arith, pow-add 2 j k, mul-le (2 ^ j) (2 ^ k) (base_of p) (worth ps) low lows),
    )

-- at most 4 steps for each bit but the first, and the copy at the start
number_short : (ps : List Pair) (b : ℕ) → worth ps < 2 ^ b → length (number_steps ps) ≤ 4 * (b - 1) + 1
number_short ps b below =
    let (k, few, low) = pairs_short ps in
    let under : k < b = grind (arith, pow_mono) in
    omega (arith, length_released (Copy T P ∷ pairs_steps ps))

pub number_does : (n : ℕ) (ps : List Pair) → Recoded table_of_thirty n ps → NumberSteps n ps (number_steps ps)
number_does n ps r =
    record {
      recoded = r;
      listed = refl;
      fits = fits_released (Copy T P ∷ pairs_steps ps) (number_plain ps) refl only_T T_and_P (T_and_P, refl, pairs_fit ps);
      rows = λ t empty.
          acts_released (Copy T P ∷ pairs_steps ps) (number_plain ps) refl t
          ∙ ap (λ u. put u T zeros) (pairs_rows ps t empty ∙ ap (λ m. put t P (times m (at t T))) r.worth_is);
      short = λ b below. number_short ps b (rw r.worth_is below);
    }
