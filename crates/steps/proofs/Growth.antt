-- A column of a table without invert steps as natural numbers: its largest never falls along steps that fit. Assumes nothing.
use Rattle.std.proofs.Common.{◌≡◌, ℕ, zero, suc, ◌≤◌, true, false, List, [], ◌∷◌, take, drop, pos, Ok, refl, ap, ◌∙◌, subst, inl, inr, arith}
use Rattle.std.proofs.lemmas.Bool.{or_parts, cases_lt}
use Rattle.steps.specs.declared.register.Register.{Register}
use Rattle.steps.specs.declared.register.Register.TheVariants.{T, P, Q}
use Rattle.steps.specs.declared.register.Registers.{Registers}
use Rattle.steps.specs.declared.step.Step.{Step}
use Rattle.steps.specs.Registers.{at}
use Rattle.steps.specs.Sets.{Full}
use Rattle.steps.specs.Steps.{lawful, is_invert, inverts}
use Rattle.steps.specs.Fullness.{after, Fits}
use Rattle.steps.specs.Tables.{opening, table, entry}
use Rattle.steps.specs.Columns.{opened, grown, peak}
use Rattle.steps.proofs.ByRegister.{mapped, at_mapped}
use Rattle.steps.proofs.Lists.{AllLawful}
use Rattle.steps.proofs.Columns.{step_column, steps_column, column, entry_table}

-- the steps, in order, on a column of natural numbers
abbrev pub grown_all : List Step → Registers ℕ → Registers ℕ
grown_all [] v = v
grown_all (s ∷ ss) v = grown_all ss (grown s v)

-- on natural numbers the steps on a column of whole numbers are these
grown_step : (s : Step) (v : Registers ℕ) → is_invert s ≡ false → step_column s (mapped pos v) ≡ mapped pos (grown s v)
grown_step s v h = grind arith

grown_steps : (ss : List Step) (v : Registers ℕ) → inverts ss ≡ false → steps_column ss (mapped pos v) ≡ mapped pos (grown_all ss v)
grown_steps [] v h = refl
grown_steps (s ∷ ss) v h = let p = or_parts (is_invert s) (inverts ss) h in ap (steps_column ss) (grown_step s v p.0) ∙ grown_steps ss (grown s v) p.1

column_opened : (s : Full) (c : Register) → column (opening s) c ≡ mapped pos (opened s c)
column_opened s c = grind arith

pub grown_column : (ss : List Step) (s : Full) (c r : Register) → inverts ss ≡ false → entry (table s ss) r c ≡ pos (at (grown_all ss (opened s c)) r)
grown_column ss s c r h =
    entry_table s ss r c ∙ ap (λ v. at v r) (ap (steps_column ss) (column_opened s c) ∙ grown_steps ss (opened s c) h) ∙ at_mapped pos (grown_all ss (opened s c)) r

-- 0 at every register outside the set
abbrev pub EmptyOutside : Registers ℕ → Full → Type 0
EmptyOutside v s = (r : Register) → at s r ≡ false → at v r ≡ 0

pub opened_empty : (s : Full) (c : Register) → EmptyOutside (opened s c) s
opened_empty s c r e = grind arith

grown_step_empty : (x : Step) (s m : Full) → after x s ≡ Ok m → (v : Registers ℕ) → EmptyOutside v s → EmptyOutside (grown x v) m
grown_step_empty x s m e v h T k = grind (arith, h T, h P, h Q)
grown_step_empty x s m e v h P k = grind (arith, h T, h P, h Q)
grown_step_empty x s m e v h Q k = grind (arith, h T, h P, h Q)

pub grown_empty : (ss : List Step) (s f : Full) (v : Registers ℕ) → Fits s ss f → EmptyOutside v s → EmptyOutside (grown_all ss v) f
grown_empty [] s f v e h = subst (EmptyOutside v) e h
grown_empty (x ∷ xs) s f v (m, e, k) h = grown_empty xs m f (grown x v) k (grown_step_empty x s m e v h)

-- the largest entry
pub at_peak : (v : Registers ℕ) (r : Register) → at v r ≤ peak v
at_peak v r = grind arith

pub peak_somewhere : (v : Registers ℕ) → (r : Register) × (at v r ≡ peak v)
peak_somewhere v =
    elim (cases_lt v.t v.p) [
      | inl h ↦ elim (cases_lt v.p v.q) [ inl k ↦ (Q, omega arith) | inr k ↦ (P, omega arith) ]
      | inr h ↦ elim (cases_lt v.t v.q) [ inl k ↦ (Q, omega arith) | inr k ↦ (T, omega arith) ]
    ]

-- a copy and a move write over a 0; a gather has two registers, by its rule
peak_step : (x : Step) (s m : Full) → lawful x ≡ true → after x s ≡ Ok m → (v : Registers ℕ) → EmptyOutside v s → peak v ≤ peak (grown x v)
peak_step x s m d e v h = grind (arith, h T, h P, h Q)

pub peak_rises : (ss : List Step) (s f : Full) (v : Registers ℕ) → AllLawful ss → Fits s ss f → EmptyOutside v s → peak v ≤ peak (grown_all ss v)
peak_rises [] s f v d e z = omega arith
peak_rises (x ∷ xs) s f v (d, ds) (m, e, h) z =
    omega (arith, peak_step x s m d e v z, peak_rises xs m f (grown x v) ds h (grown_step_empty x s m e v z))

peak_take : (k : ℕ) (ss : List Step) (s f : Full) (v : Registers ℕ) → AllLawful ss → Fits s ss f → EmptyOutside v s → peak (grown_all (take k ss) v) ≤ peak (grown_all ss v)
peak_take zero ss s f v d h z = peak_rises ss s f v d h z
peak_take (suc k) [] s f v d e z = omega arith
peak_take (suc k) (x ∷ xs) s f v (d, ds) (m, e, h) z = peak_take k xs m f (grown x v) ds h (grown_step_empty x s m e v z)

pub peak_last : (ss : List Step) (s f : Full) (c : Register) (k : ℕ) → AllLawful ss → Fits s ss f → peak (grown_all (take k ss) (opened s c)) ≤ peak (grown_all ss (opened s c))
peak_last ss s f c k d h = peak_take k ss s f (opened s c) d h (opened_empty s c)

-- the first k steps fit, and behind them the rest
pub take_fits : (k : ℕ) (ss : List Step) (s f : Full) → Fits s ss f → (m : Full) × Fits s (take k ss) m × Fits m (drop k ss) f
take_fits zero ss s f h = (s, refl, h)
take_fits (suc k) [] s f e = (s, refl, e)
take_fits (suc k) (x ∷ xs) s f (n, e, h) = let (m, front, back) = take_fits k xs n f h in (m, (n, e, front), back)
