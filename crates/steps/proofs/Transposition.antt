-- A list of steps turned round has the table with rows and columns exchanged. Assumes nothing.
use Rattle.std.proofs.Common.{◌≡◌, Bool, true, false, cond, List, [], ◌∷◌, ℤ, pos, ◌+ℤ◌, ◌*ℤ◌, neg_ℤ, sym, refl, ap, ◌∙◌, arith}
use Rattle.std.proofs.lemmas.Int.{ints}
use Rattle.steps.specs.declared.register.Register.{Register}
use Rattle.steps.specs.declared.register.Register.TheVariants.{T, P, Q}
use Rattle.steps.specs.declared.step.Step.{Step}
use Rattle.steps.specs.declared.step.Step.TheVariants.{Copy, Move, Swap, Invert, Square, Multiply, Gather}
use Rattle.steps.specs.Registers.{three, at, put}
use Rattle.steps.specs.Sets.{Full}
use Rattle.steps.specs.Steps.{lawful, transposed, turned}
use Rattle.steps.specs.Fullness.{Fits}
use Rattle.steps.specs.Tables.{opening, table, entry, exchanged}
use Rattle.steps.proofs.Ints.{add_mul, mul_add, neg_swap}
use Rattle.steps.proofs.ByRegister.{Apart, apart_back, below_apart, at_other}
use Rattle.steps.proofs.Lists.{AllLawful, turned_cons}
use Rattle.steps.proofs.Fullness.{fits_turned}
use Rattle.steps.proofs.Columns.{Column, step_column, steps_column, steps_column_append, column, entry_table, empty_rows}

-- the sum of the products, register by register
unfoldable pub pairing : Column → Column → ℤ
pairing u v = (u.t *ℤ v.t +ℤ u.p *ℤ v.p) +ℤ u.q *ℤ v.q

pub pairing_comm : (u v : Column) → pairing u v ≡ pairing v u
unfolding pairing
pairing_comm u v = omega (arith, ints)

-- one value of the second column changed, and two
pairing_put : (u v : Column) (r : Register) (x : ℤ) → pairing u (put v r x) +ℤ at u r *ℤ at v r ≡ pairing u v +ℤ at u r *ℤ x
unfolding pairing
pairing_put u v T x = omega (arith, ints)
pairing_put u v P x = omega (arith, ints)
pairing_put u v Q x = omega (arith, ints)

pairing_puts : (u v : Column) (a b : Register) (x y : ℤ) → Apart a b
    → pairing u (put (put v a x) b y) +ℤ (at u a *ℤ at v a +ℤ at u b *ℤ at v b) ≡ pairing u v +ℤ (at u a *ℤ x +ℤ at u b *ℤ y)
pairing_puts u v a b x y d =
    omega (arith, ints, pairing_put u v a x, pairing_put u (put v a x) b y, ap (λ z. at u b *ℤ z) (at_other v b a x (apart_back a b d)))

-- the same of the first column
put_pairing : (u v : Column) (r : Register) (x : ℤ) → pairing (put u r x) v +ℤ at u r *ℤ at v r ≡ pairing u v +ℤ x *ℤ at v r
put_pairing u v r x = omega (arith, ints, pairing_put v u r x, pairing_comm (put u r x) v, pairing_comm u v)

puts_pairing : (u v : Column) (a b : Register) (x y : ℤ) → Apart a b
    → pairing (put (put u a x) b y) v +ℤ (at u a *ℤ at v a +ℤ at u b *ℤ at v b) ≡ pairing u v +ℤ (x *ℤ at v a +ℤ y *ℤ at v b)
puts_pairing u v a b x y d = omega (arith, ints, pairing_puts v u a b x y d, pairing_comm (put (put u a x) b y) v, pairing_comm u v)

-- a step on one side of a pairing is its transpose on the other
pub dual : (s : Step) → lawful s ≡ true → (u v : Column) → pairing u (step_column s v) ≡ pairing (step_column (transposed s) u) v
dual (Copy a b) d u v =
    omega (arith, ints, pairing_put u v b (at v a), puts_pairing u v a b (at u a +ℤ at u b) (pos 0) d, add_mul (at u a) (at u b) (at v a))
dual (Move a b) d u v =
    omega (arith, ints, pairing_puts u v b a (at v a) (pos 0) (apart_back a b d), puts_pairing u v a b (at u b) (pos 0) d)
dual (Swap a b) d u v =
    let k = apart_back a b (below_apart a b d) in
    omega (arith, ints, pairing_puts u v b a (at v a) (at v b) k, puts_pairing u v b a (at u a) (at u b) k)
dual (Invert a) d u v = omega (arith, ints, pairing_put u v a (neg_ℤ (at v a)), put_pairing u v a (neg_ℤ (at u a)), neg_swap (at u a) (at v a))
dual (Square a) d u v =
    omega (arith, ints, pairing_put u v a (at v a +ℤ at v a), put_pairing u v a (at u a +ℤ at u a), mul_add (at u a) (at v a) (at v a), add_mul (at u a) (at u a) (at v a))
dual (Multiply a b) d u v =
    omega (arith, ints, pairing_put u v a (at v a +ℤ at v b), put_pairing u v b (at u b +ℤ at u a), mul_add (at u a) (at v a) (at v b), add_mul (at u b) (at u a) (at v b))
dual (Gather a b) d u v =
    omega (arith, ints, pairing_puts u v a b (at v a +ℤ at v b) (pos 0) d, put_pairing u v b (at u a), mul_add (at u a) (at v a) (at v b))

pub dual_all : (ss : List Step) → AllLawful ss → (u v : Column) → pairing u (steps_column ss v) ≡ pairing (steps_column (turned ss) u) v
dual_all [] d u v = refl
dual_all (s ∷ ss) (d, ds) u v =
    dual_all ss ds u (step_column s v) ∙ dual s d (steps_column (turned ss) u) v
    ∙ ap (λ x. pairing x v) (sym (ap (λ rs. steps_column rs u) (turned_cons s ss) ∙ steps_column_append (turned ss) (transposed s ∷ []) u))

-- paired with a column of the table of no step, a column that is 0 outside the set gives its entry
one_if : (b : Bool) (x : ℤ) → (b ≡ false → x ≡ pos 0) → x *ℤ cond b (pos 1) (pos 0) ≡ x
one_if b x h = grind (arith, ints)

pairing_opening : (s : Full) (c : Register) (u : Column) → (at s c ≡ false → at u c ≡ pos 0) → pairing u (column (opening s) c) ≡ at u c
unfolding pairing
pairing_opening s T u h = omega (arith, ints, one_if s.t u.t h)
pairing_opening s P u h = omega (arith, ints, one_if s.p u.p h)
pairing_opening s Q u h = omega (arith, ints, one_if s.q u.q h)

-- an entry of the turned list's table
entry_turned : (ss : List Step) (s f : Full) → AllLawful ss → Fits s ss f → (r c : Register) → entry (table f (turned ss)) c r ≡ entry (table s ss) r c
entry_turned ss s f d h r c =
    let u = column (opening f) r in
    let v = column (opening s) c in
    let x = steps_column ss v in
    let y = steps_column (turned ss) u in
    entry_table f (turned ss) c r
    ∙ sym (pairing_opening s c y (empty_rows (turned ss) f s (fits_turned ss s f d h) r c))
    ∙ sym (dual_all ss d u v)
    ∙ pairing_comm u x
    ∙ pairing_opening f r x (empty_rows ss s f h c r)
    ∙ sym (entry_table s ss r c)

pub table_turned : (ss : List Step) (s f : Full) → AllLawful ss → Fits s ss f → table f (turned ss) ≡ exchanged (table s ss)
table_turned ss s f d h =
    let e = entry_turned ss s f d h in
    λ i. three (three (e T T i) (e P T i) (e Q T i)) (three (e T P i) (e P P i) (e Q P i)) (three (e T Q i) (e P Q i) (e Q Q i))
