-- Three values by register: what is at a register once a value is put, and registers that differ. Assumes nothing.
use Rattle.std.proofs.Common.{◌≡◌, Bool, true, false, cond, not, ltb, refl, ap, subst, arith}
use Rattle.std.proofs.lemmas.Bool.Decides.{nat_tests}
use Rattle.steps.specs.declared.register.Register.{Register}
use Rattle.steps.specs.declared.register.Register.TheVariants.{T, P, Q}
use Rattle.steps.specs.declared.register.Registers.{Registers}
use Rattle.steps.specs.Registers.{number_of, three, at, put}
use Rattle.steps.specs.Steps.{same}

-- two registers that differ
abbrev pub Apart : Register → Register → Type 0
Apart a b = not (same a b) ≡ true

pub apart_back : (a b : Register) → Apart a b → Apart b a
apart_back a b d = grind (arith, nat_tests)

pub below_apart : (a b : Register) → ltb (number_of a) (number_of b) ≡ true → Apart a b
below_apart a b d = grind (arith, nat_tests)

pub at_put : {A : Type 0} (v : Registers A) (r : Register) (x : A) → at (put v r x) r ≡ x
at_put v r x = grind arith

pub at_other : {A : Type 0} (v : Registers A) (a b : Register) (x : A) → Apart a b → at (put v b x) a ≡ at v a
at_other v a b x d = grind arith

-- of two values put at one register the second stays
pub put_put : {A : Type 0} (v : Registers A) (r : Register) (x y : A) → put (put v r x) r y ≡ put v r y
put_put v r x y = grind arith

-- the value that is there already
pub put_same : {A : Type 0} (v : Registers A) (r : Register) (x : A) → at v r ≡ x → put v r x ≡ v
put_same v r x e = grind arith

-- a relation at each register stays if related values are put at one
pub put_both : {A B : Type 0} (R : A → B → Type 0) (u : Registers A) (v : Registers B) (r : Register) (x : A) (y : B) → R x y → ((s : Register) → R (at u s) (at v s)) → (s : Register) → R (at (put u r x) s) (at (put v r y) s)
put_both R u v T x y h k T = h
put_both R u v T x y h k P = k P
put_both R u v T x y h k Q = k Q
put_both R u v P x y h k T = k T
put_both R u v P x y h k P = h
put_both R u v P x y h k Q = k Q
put_both R u v Q x y h k T = k T
put_both R u v Q x y h k P = k P
put_both R u v Q x y h k Q = h

-- the same, with a value put on one side only
pub put_one : {A B : Type 0} (R : A → B → Type 0) (u : Registers A) (v : Registers B) (r : Register) (x : A) → R x (at v r) → ((s : Register) → R (at u s) (at v s)) → (s : Register) → R (at (put u r x) s) (at v s)
put_one R u v r x h k = subst (λ w. (s : Register) → R (at (put u r x) s) (at w s)) (put_same v r (at v r) refl) (put_both R u v r x (at v r) h k)

pub at_three : {A : Type 0} (x : A) (r : Register) → at (three x x x) r ≡ x
at_three x r = grind arith

-- with one value at a register of a set and the other elsewhere, the other is at every register outside the set
pub other_outside : {A : Type 0} (x y : A) (s : Registers Bool) (c r : Register) → at s r ≡ false → at (put (three y y y) c (cond (at s c) x y)) r ≡ y
other_outside x y s c = put_one (λ z b. b ≡ false → z ≡ y) (three y y y) s c (cond (at s c) x y) (λ e. ap (λ b. cond b x y) e) (λ r _. at_three y r)

-- a function of each value
abbrev pub mapped : {A B : Type 0} → (A → B) → Registers A → Registers B
mapped f v = three (f v.t) (f v.p) (f v.q)

pub at_mapped : {A B : Type 0} (f : A → B) (v : Registers A) (r : Register) → at (mapped f v) r ≡ f (at v r)
at_mapped f v r = grind arith

pub mapped_put : {A B : Type 0} (f : A → B) (v : Registers A) (r : Register) (x : A) → mapped f (put v r x) ≡ put (mapped f v) r (f x)
mapped_put f v r x = grind arith
