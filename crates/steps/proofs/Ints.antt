-- Laws of whole numbers that the library lacks: induction; multiplication with sums, with itself, with 1, with signs. Assumes nothing.
use Rattle.std.proofs.Common.{◌≡◌, ◌*◌, ℤ, pos, ◌+ℤ◌, ◌*ℤ◌, neg_ℤ, sym, ap, subst, arith}
use Rattle.std.proofs.Math.IntN.{suc_ℤ, pred_ℤ, ℤ_ind, +ℤ_one, -ℤ_one}
use Rattle.std.proofs.lemmas.Int.{ints}
use borrow.Author.Differences.{up, down, same_in, sum_is_lem, product_is}

-- what holds of 0, and with a number of the next and of the one before, holds of every whole number
pub ints_by : (F : ℤ → Type 0) → F (pos 0) → ((k : ℤ) → F k → F (suc_ℤ k)) → ((k : ℤ) → F k → F (pred_ℤ k)) → (k : ℤ) → F k
ints_by F zero next before k =
    ℤ_ind F zero
    (λ n h. subst F (sym (+ℤ_one (pos n))) (next (pos n) h))
    (λ n h. subst F (sym (-ℤ_one (neg_ℤ (pos n)))) (before (neg_ℤ (pos n)) h))
    k

pub add_mul : (a b c : ℤ) → (a +ℤ b) *ℤ c ≡ a *ℤ c +ℤ b *ℤ c
add_mul a b c = omega (arith, ints, ap (λ k. k * up c) (sum_is_lem a b), ap (λ k. k * down c) (sum_is_lem a b))

pub mul_add : (c a b : ℤ) → c *ℤ (a +ℤ b) ≡ c *ℤ a +ℤ c *ℤ b
mul_add c a b = omega (arith, ints, add_mul a b c)

pub mul_ℤ_assoc : (a b c : ℤ) → (a *ℤ b) *ℤ c ≡ a *ℤ (b *ℤ c)
mul_ℤ_assoc a b c =
    let ups = λ (x y : ℤ). (product_is x y).0 in
    let downs = λ (x y : ℤ). (product_is x y).1 in
    same_in ((a *ℤ b) *ℤ c) (a *ℤ (b *ℤ c)) (simp (ups, downs) (omega arith))

pub one_mul : (a : ℤ) → pos 1 *ℤ a ≡ a
one_mul a = omega (arith, ints)

pub mul_one : (a : ℤ) → a *ℤ pos 1 ≡ a
mul_one a = omega (arith, ints)

-- a sign may stand at either factor
pub neg_swap : (a b : ℤ) → a *ℤ neg_ℤ b ≡ neg_ℤ a *ℤ b
neg_swap a b = grind (arith, ints)
