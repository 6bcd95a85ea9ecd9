-- The table of a list of steps: whole numbers, by end register (the row) and starting register (the column). Assumes nothing.
use Rattle.std.specs.Prelude.{ℕ, cond, List, [], ◌∷◌, ℤ, pos, ◌+ℤ◌, ◌*ℤ◌, neg_ℤ}
use Rattle.steps.specs.declared.register.Register.{Register}
use Rattle.steps.specs.declared.register.Registers.{Registers}
use Rattle.steps.specs.declared.step.Step.{Step}
use Rattle.steps.specs.declared.step.Step.TheVariants.{Copy, Move, Swap, Invert, Square, Multiply, Gather}
use Rattle.steps.specs.Registers.{three, at, put}
use Rattle.steps.specs.Sets.{Full}

abbrev pub Row : Type 0
Row = Registers ℤ

abbrev pub Table : Type 0
Table = Registers Row

-- rows of zeros, negated, added, and times a number
abbrev pub zeros : Row
zeros = three (pos 0) (pos 0) (pos 0)

abbrev pub negated : Row → Row
negated x = three (neg_ℤ x.t) (neg_ℤ x.p) (neg_ℤ x.q)

abbrev pub plus : Row → Row → Row
plus x y = three (x.t +ℤ y.t) (x.p +ℤ y.p) (x.q +ℤ y.q)

abbrev pub times : ℕ → Row → Row
times n x = three (pos n *ℤ x.t) (pos n *ℤ x.p) (pos n *ℤ x.q)

-- no step yet: ones on the diagonal, for the registers of the start set
abbrev pub opening : Full → Table
opening s =
    three
    (three (cond s.t (pos 1) (pos 0)) (pos 0) (pos 0))
    (three (pos 0) (cond s.p (pos 1) (pos 0)) (pos 0))
    (three (pos 0) (pos 0) (cond s.q (pos 1) (pos 0)))

-- what a step does to the rows
abbrev pub act : Step → Table → Table
act (Copy a b) t = put t b (at t a)
act (Move a b) t = put (put t b (at t a)) a zeros
act (Swap a b) t = put (put t b (at t a)) a (at t b)
act (Invert a) t = put t a (negated (at t a))
act (Square a) t = put t a (plus (at t a) (at t a))
act (Multiply a b) t = put t a (plus (at t a) (at t b))
act (Gather a b) t = put (put t a (plus (at t a) (at t b))) b zeros

-- the steps, in order
abbrev pub acts : List Step → Table → Table
acts [] t = t
acts (s ∷ ss) t = acts ss (act s t)

-- the table of a list of steps from a start set
abbrev pub table : Full → List Step → Table
table s ss = acts ss (opening s)

-- the entry of an end register's row in a starting register's column
abbrev pub entry : Table → Register → Register → ℤ
entry t r c = at (at t r) c

-- rows and columns change places
abbrev pub exchanged : Table → Table
exchanged t = three (three t.t.t t.p.t t.q.t) (three t.t.p t.p.p t.q.p) (three t.t.q t.p.q t.q.q)
