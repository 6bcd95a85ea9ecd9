-- The columns of a table: what a step does to one column, and which entries stay 0. Assumes nothing.
use Rattle.std.proofs.Common.{◌≡◌, Bool, true, false, cond, List, [], ◌∷◌, ◌++◌, ℤ, pos, ◌+ℤ◌, neg_ℤ, sym, refl, ap, ◌∙◌, subst, arith}
use Rattle.steps.specs.declared.register.Register.{Register}
use Rattle.steps.specs.declared.register.Registers.{Registers}
use Rattle.steps.specs.declared.step.Step.{Step}
use Rattle.steps.specs.declared.step.Step.TheVariants.{Copy, Move, Swap, Invert, Square, Multiply, Gather}
use Rattle.steps.specs.Registers.{at, put}
use Rattle.steps.specs.Sets.{Full}
use Rattle.steps.specs.Fullness.{Fits}
use Rattle.steps.specs.Tables.{Table, zeros, opening, act, acts, table, entry}
use Rattle.steps.specs.Plans.{Within}
use Rattle.steps.proofs.ByRegister.{put_both, put_one, mapped, at_mapped}
use Rattle.steps.proofs.Fullness.{Fitting, copy_fits, move_fits, swap_fits, invert_fits, square_fits, multiply_fits, gather_fits, fitting}

abbrev pub Column : Type 0
Column = Registers ℤ

-- what a step does to one column, and steps in order
abbrev pub step_column : Step → Column → Column
step_column (Copy a b) v = put v b (at v a)
step_column (Move a b) v = put (put v b (at v a)) a (pos 0)
step_column (Swap a b) v = put (put v b (at v a)) a (at v b)
step_column (Invert a) v = put v a (neg_ℤ (at v a))
step_column (Square a) v = put v a (at v a +ℤ at v a)
step_column (Multiply a b) v = put v a (at v a +ℤ at v b)
step_column (Gather a b) v = put (put v a (at v a +ℤ at v b)) b (pos 0)

abbrev pub steps_column : List Step → Column → Column
steps_column [] v = v
steps_column (s ∷ ss) v = steps_column ss (step_column s v)

abbrev pub column : Table → Register → Column
column t c = mapped (λ x. at x c) t

pub at_column : (t : Table) (r c : Register) → at (column t c) r ≡ entry t r c
at_column t r c = at_mapped (λ x. at x c) t r

pub column_act : (s : Step) (t : Table) (c : Register) → column (act s t) c ≡ step_column s (column t c)
column_act s t c = grind arith

pub column_acts : (ss : List Step) (t : Table) (c : Register) → column (acts ss t) c ≡ steps_column ss (column t c)
column_acts [] t c = refl
column_acts (s ∷ ss) t c = column_acts ss (act s t) c ∙ ap (steps_column ss) (column_act s t c)

pub steps_column_append : (ss rs : List Step) (v : Column) → steps_column (ss ++ rs) v ≡ steps_column rs (steps_column ss v)
steps_column_append [] rs v = refl
steps_column_append (s ∷ ss) rs v = steps_column_append ss rs (step_column s v)

-- an entry by the steps on its column
pub entry_table : (s : Full) (ss : List Step) (r c : Register) → entry (table s ss) r c ≡ at (steps_column ss (column (opening s) c)) r
entry_table s ss r c = sym (at_column (table s ss) r c) ∙ ap (λ v. at v r) (column_acts ss (opening s) c)

-- the column of a table of no step
pub column_opening : (s : Full) (c : Register) → column (opening s) c ≡ put zeros c (cond (at s c) (pos 1) (pos 0))
column_opening s c = grind arith

-- between an entry and whether its register is full, a relation that steps keep
pub record Kept (R : ℤ → Bool → Type 0) : Type 0 where
  pub none : R (pos 0) false
  pub inverse : (x : ℤ) → R x true → R (neg_ℤ x) true
  pub sum : (x y : ℤ) → R x true → R y true → R (x +ℤ y) true

-- the relation at each register
abbrev pub Each : (ℤ → Bool → Type 0) → Column → Full → Type 0
Each R v s = (r : Register) → R (at v r) (at s r)

module _ (R : ℤ → Bool → Type 0) (kept : Kept R) where
  at_full : (v : Column) (s : Full) (r : Register) → at s r ≡ true → Each R v s → R (at v r) true
  at_full v s r e h = subst (R (at v r)) e (h r)

  put_full : (v : Column) (s : Full) (r : Register) (x : ℤ) → at s r ≡ true → R x true → Each R v s → Each R (put v r x) s
  put_full v s r x e k h = put_one R v s r x (subst (R x) (sym e) k) h

  pub step_keeps : {x : Step} {s m : Full} → Fitting x s m → (v : Column) → Each R v s → Each R (step_column x v) m
  step_keeps (copy_fits {a} {b} {s} e k) v h = put_both R v s b (at v a) true (at_full v s a e h) h
  step_keeps (move_fits {a} {b} {s} e k) v h =
      put_both R (put v b (at v a)) (put s b true) a (pos 0) false kept.none (put_both R v s b (at v a) true (at_full v s a e h) h)
  step_keeps (swap_fits {a} {b} {s} e k) v h =
      put_full (put v b (at v a)) s a (at v b) e (at_full v s b k h) (put_full v s b (at v a) k (at_full v s a e h) h)
  step_keeps (invert_fits {a} {s} e) v h = put_full v s a (neg_ℤ (at v a)) e (kept.inverse (at v a) (at_full v s a e h)) h
  step_keeps (square_fits {a} {s} e) v h = put_full v s a (at v a +ℤ at v a) e (kept.sum (at v a) (at v a) (at_full v s a e h) (at_full v s a e h)) h
  step_keeps (multiply_fits {a} {b} {s} e k) v h = put_full v s a (at v a +ℤ at v b) e (kept.sum (at v a) (at v b) (at_full v s a e h) (at_full v s b k h)) h
  step_keeps (gather_fits {a} {b} {s} e k) v h =
      put_both R (put v a (at v a +ℤ at v b)) s b (pos 0) false kept.none
      (put_full v s a (at v a +ℤ at v b) e (kept.sum (at v a) (at v b) (at_full v s a e h) (at_full v s b k h)) h)

  pub steps_keep : (ss : List Step) (s f : Full) → Fits s ss f → (v : Column) → Each R v s → Each R (steps_column ss v) f
  steps_keep [] s f e v h = subst (Each R v) e h
  steps_keep (x ∷ xs) s f (m, e, k) v h = steps_keep xs m f k (step_column x v) (step_keeps (fitting x s m e) v h)

-- 0 at a register that is empty
abbrev pub ZeroIfEmpty : ℤ → Bool → Type 0
ZeroIfEmpty x b = b ≡ false → x ≡ pos 0

pub zero_if_empty_kept : Kept ZeroIfEmpty
zero_if_empty_kept = record { none = λ _. refl; inverse = λ x h e. cc; sum = λ x y h k e. cc }

-- the same at every register
abbrev pub EmptyOutside : Column → Full → Type 0
EmptyOutside = Each ZeroIfEmpty

opening_empty : (s : Full) (c : Register) → EmptyOutside (column (opening s) c) s
opening_empty s c r e = grind arith

-- the rows of registers that are empty at the end, by column
pub empty_rows : (ss : List Step) (s f : Full) → Fits s ss f → (c : Register) → EmptyOutside (steps_column ss (column (opening s) c)) f
empty_rows ss s f h c = steps_keep ZeroIfEmpty zero_if_empty_kept ss s f h (column (opening s) c) (opening_empty s c)

-- the columns of registers that are empty at the start
step_zeros : (x : Step) → step_column x zeros ≡ zeros
step_zeros x = grind arith

steps_zeros : (ss : List Step) → steps_column ss zeros ≡ zeros
steps_zeros [] = refl
steps_zeros (x ∷ xs) = ap (steps_column xs) (step_zeros x) ∙ steps_zeros xs

zero_column : (s : Full) (c : Register) → at s c ≡ false → column (opening s) c ≡ zeros
zero_column s c e = grind arith

at_zeros : (r : Register) → at zeros r ≡ pos 0
at_zeros r = grind arith

pub within : (ss : List Step) (s f : Full) → Fits s ss f → Within s f (table s ss)
within ss s f h = record {
  rows = λ r c e. entry_table s ss r c ∙ empty_rows ss s f h c r e;
  columns = λ r c e. entry_table s ss r c ∙ ap (λ v. at (steps_column ss v) r) (zero_column s c e) ∙ ap (λ v. at v r) (steps_zeros ss) ∙ at_zeros r;
}
