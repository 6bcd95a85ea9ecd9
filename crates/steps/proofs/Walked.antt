-- A walk over words: one more word, and what it tells of the column and of entries that are too large. Assumes nothing.
use Rattle.std.proofs.Common.{◌≡◌, ℕ, zero, suc, ◌+◌, ◌^◌, ◌<◌, ◌≤◌, false, List, [], ◌∷◌, ◌++◌, map, length, get_or, take, pos, Some, None, Ok, Err, Option, Result, sym, refl, ap, ◌∙◌, arith}
use Rattle.std.proofs.lemmas.List.{get_or-map, take_more}
use Rattle.std.proofs.lemmas.Int.{ints}
use Rattle.std.proofs.lemmas.Bool.{or_parts}
use Rattle.std.specs.Option.{ok_or}
use Rattle.steps.specs.declared.fault.WalkFault.{WalkFault}
use Rattle.steps.specs.declared.fault.WalkFault.TheVariants as walk
use Rattle.steps.specs.declared.register.Register.{Register}
use Rattle.steps.specs.declared.register.Register.TheVariants.{T}
use Rattle.steps.specs.declared.register.Registers.{Registers}
use Rattle.steps.specs.declared.step.Step.{Step}
use Rattle.steps.specs.declared.step.Step.TheVariants.{Square}
use Rattle.steps.specs.Registers.{at}
use Rattle.steps.specs.Sets.{Full}
use Rattle.steps.specs.Steps.{is_invert, inverts}
use Rattle.steps.specs.Words.{decoded}
use Rattle.steps.specs.Tables.{table, entry}
use Rattle.steps.specs.Columns.{opened, grown, peak, Grows}
use Rattle.steps.specs.Plans.{Plan, Walked, Overflows}
use Rattle.steps.proofs.Columns.{within}
use Rattle.steps.proofs.Growth.{grown_all, grown_column, at_peak, peak_somewhere, peak_last}
use Rattle.steps.proofs.Plans.{oks, plan_lawful, plan_length}

-- what a step made of the entries, or that one is too large
pub grows_some : (o : Option (Registers ℕ)) (w : Registers ℕ) → o ≡ Some w → (x : Step) (v : Registers ℕ) → Grows x v o → w ≡ grown x v
grows_some o w e x v h = rw e at h

pub grows_none : (o : Option (Registers ℕ)) → o ≡ None → (x : Step) (v : Registers ℕ) → Grows x v o → 2 ^ 64 ≤ peak (grown x v)
grows_none o e x v h = rw e at h

pub overflow_is : (o : Option (Registers ℕ)) (e : WalkFault) → o ≡ None → ◌≡◌ {A = Result (Registers ℕ) WalkFault} (Err e) (ok_or o walk.Overflow) → e ≡ walk.Overflow
overflow_is o e none h = grind arith

-- the step at a place; past the end, where no word lies, some step
abbrev pub no_step : Step
no_step = Square T

abbrev pub step_at : List Step → ℕ → Step
step_at ss i = get_or ss i no_step

pub decoded_at : (ws : List ℕ) (ss : List Step) (i : ℕ) → map decoded ws ≡ oks ss → i < length ws → decoded (get_or ws i 0) ≡ Ok (step_at ss i)
decoded_at ws ss i e h =
    sym (get_or-map decoded ws i 0 (Ok no_step) h) ∙ ap (λ l. get_or l i (Ok no_step)) e ∙ get_or-map Ok ss i no_step (Ok no_step) (rw (plan_length ws ss e) h)

grown_append : (ss rs : List Step) (v : Registers ℕ) → grown_all (ss ++ rs) v ≡ grown_all rs (grown_all ss v)
grown_append [] rs v = refl
grown_append (s ∷ ss) rs v = grown_append ss rs (grown s v)

inverts_take : (k : ℕ) (ss : List Step) → inverts ss ≡ false → inverts (take k ss) ≡ false
inverts_take zero ss h = refl
inverts_take (suc k) [] h = refl
inverts_take (suc k) (s ∷ ss) h = let p = or_parts (is_invert s) (inverts ss) h in rw p.0 (inverts_take k ss p.1)

module _ (ws : List ℕ) (ss : List Step) (reads : map decoded ws ≡ oks ss) (i : ℕ) (inside : i < length ws) (v start : Registers ℕ) (so_far : v ≡ grown_all (take i ss) start) where
  next : grown (step_at ss i) v ≡ grown_all (take (i + 1) ss) start
  next =
      let short : i < length ss = omega (arith, plan_length ws ss reads) in
      ap (grown (step_at ss i)) so_far ∙ sym (ap (λ l. grown_all l start) (take_more ss i no_step short) ∙ grown_append (take i ss) (step_at ss i ∷ []) start)

  -- the entries after one more word
  pub walk_more : (w : Registers ℕ) → ((x : Step) → decoded (get_or ws i 0) ≡ Ok x → w ≡ grown x v) → w ≡ grown_all (take (i + 1) ss) start
  walk_more w h = h (step_at ss i) (decoded_at ws ss i reads inside) ∙ next

  -- the largest of them, where one is too large
  pub walk_over : ((x : Step) → decoded (get_or ws i 0) ≡ Ok x → 2 ^ 64 ≤ peak (grown x v)) → 2 ^ 64 ≤ peak (grown_all (take (i + 1) ss) start)
  walk_over h = rw next at (h (step_at ss i) (decoded_at ws ss i reads inside))

module _ (s f : Full) (c : Register) (ws : List ℕ) (ss : List Step) (plan : Plan s ws ss f) (plain : inverts ss ≡ false) where
  -- the entry after k steps is at most the largest at the end
  prefix : (k : ℕ) (r : Register) → entry (table s (take k ss)) r c ≡ pos (at (grown_all (take k ss) (opened s c)) r)
  prefix k r = grown_column (take k ss) s c r (inverts_take k ss plain)

  rises : (k : ℕ) → peak (grown_all (take k ss) (opened s c)) ≤ peak (grown_all ss (opened s c))
  rises k = peak_last ss s f c k (plan_lawful ws ss plan.words) plan.fits

  pub walked : (v : Registers ℕ) → v ≡ grown_all ss (opened s c) → peak v < 2 ^ 64 → Walked s c ws v
  walked v e low =
      record {
        steps = ss;
        full = f;
        plan = plan;
        no_invert = plain;
        outside = within ss s f plan.fits;
        found = λ r. grown_column ss s c r plain ∙ ap (λ u. pos (at u r)) (sym e);
        below = λ k r. rw (prefix k r) (let a = at_peak (grown_all (take k ss) (opened s c)) r in let b = rises k in let d = ap peak e in omega (arith, ints));
      }

  -- an entry that is the largest and too large
  somewhere : (u : Registers ℕ) → 2 ^ 64 ≤ peak u → (r : Register) × (2 ^ 64 ≤ at u r)
  somewhere u h = let p = peak_somewhere u in (p.0, omega (arith, p.1))

  pub overflows : (k : ℕ) → 2 ^ 64 ≤ peak (grown_all (take k ss) (opened s c)) → Overflows s c ws
  overflows k h =
      let here = somewhere (grown_all (take k ss) (opened s c)) h in
      let last = somewhere (grown_all ss (opened s c)) (omega (arith, rises k)) in
      record {
        steps = ss;
        full = f;
        plan = plan;
        no_invert = plain;
        after_some = (k, here.0, rw (prefix k here.0) (let a = here.1 in omega (arith, ints)));
        at_last = (last.0, rw (grown_column ss s c last.0 plain) (let a = last.1 in omega (arith, ints)));
      }
