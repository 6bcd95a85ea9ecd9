-- A plan is read, fits and walks in one way only: it is not refused, and its column is the one found. Assumes nothing.
use Rattle.std.proofs.Common.{◌≡◌, ℕ, ◌^◌, ◌<◌, false, List, [], ◌∷◌, map, length, get_or, take, pos, Ok, Err, Result, sym, ap, ◌∙◌, arith}
use Rattle.std.proofs.lemmas.List.{take-map, at_drop_more}
use Rattle.std.proofs.lemmas.Int.{ints}
use Rattle.steps.specs.declared.fault.StepAt.{StepAt}
use Rattle.steps.specs.declared.fault.WalkFault.{WalkFault}
use Rattle.steps.specs.declared.fault.WalkFault.TheVariants as walk
use Rattle.steps.specs.declared.register.Register.{Register}
use Rattle.steps.specs.declared.register.Register.TheVariants.{T, P, Q}
use Rattle.steps.specs.declared.register.Registers.{Registers}
use Rattle.steps.specs.declared.step.Step.{Step}
use Rattle.steps.specs.Registers.{three, at}
use Rattle.steps.specs.Sets.{Full}
use Rattle.steps.specs.Steps.{inverts}
use Rattle.steps.specs.Words.{decoded}
use Rattle.steps.specs.Fullness.{Fits}
use Rattle.steps.specs.Tables.{table, entry}
use Rattle.steps.specs.Columns.{peak}
use Rattle.steps.specs.Plans.{of_registers, step_from, stepped, Plan, Refused, Walks}
use Rattle.steps.proofs.Growth.{at_peak, take_fits}
use Rattle.steps.proofs.Plans.{oks, plan_steps, plan_length}
use Rattle.steps.proofs.Walked.{decoded_at, no_step}

fits_same : (ss : List Step) (s f g : Full) → Fits s ss f → Fits s ss g → f ≡ g
fits_same [] s f g e h = sym e ∙ h
fits_same (x ∷ xs) s f g (m, e, k) (n, h, l) = let same : m ≡ n = cc in fits_same xs n f g (rw same at k) l

-- words that are a plan are not refused
pub never_refused : {A : Type 0} (s f : Full) (ws : List ℕ) (ss : List Step) (e : StepAt) → Plan s ws ss f → Refused s ws e → A
never_refused s f ws ss e plan refused =
    let k = e.place in
    let inside : k < length ss = omega (arith, plan_length ws ss plan.words, refused.place) in
    let (m, front, back) = take_fits k ss s f plan.fits in
    let read : map decoded (take k ws) ≡ oks (take k ss) = sym (take-map decoded k ws) ∙ ap (take k) plan.words ∙ take-map Ok k ss in
    let same : refused.steps ≡ take k ss = sym (plan_steps (take k ws) refused.steps refused.before.words) ∙ plan_steps (take k ws) (take k ss) read in
    let set : refused.full ≡ m = fits_same (take k ss) s refused.full m (rw same at refused.before.fits) front in
    let cut = at_drop_more (λ l. l) ss k no_step inside in
    let (n, goes, rest) = rw cut at back in
    let here : stepped m (get_or ws k 0) ≡ Ok n = ap (step_from m) (decoded_at ws ss k plan.words refused.place) ∙ ap of_registers goes in
    let there : stepped m (get_or ws k 0) ≡ Err e.fault = rw set at refused.fault in
    absurd cc

module _ (s f : Full) (c : Register) (ws : List ℕ) (ss : List Step) (plan : Plan s ws ss f) (plain : inverts ss ≡ false) (v : Registers ℕ)
    (column : (r : Register) → entry (table s ss) r c ≡ pos (at v r)) (low : peak v < 2 ^ 64) where
  same_steps : (g : Full) (rs : List Step) → Plan s ws rs g → rs ≡ ss
  same_steps g rs p = sym (plan_steps ws rs p.words) ∙ plan_steps ws ss plan.words

  -- a plan with no invert step whose column stays below 2^64 walks to that column
  pub walks_to : (o : Result (Registers ℕ) WalkFault) → Walks s c ws o → o ≡ Ok v
  walks_to (Ok w) h =
      let found = rw (same_steps h.full h.steps h.plan) at h.found in
      let each : (r : Register) → at w r ≡ at v r = λ r. cc (found r, column r) in
      ap Ok (λ i. three (each T i) (each P i) (each Q i))
  walks_to (Err (walk.Step e)) h = never_refused s f ws ss e plan h
  walks_to (Err walk.Inverts) h = let e = rw (same_steps h.full h.steps h.plan) at h.some_invert in cc
  walks_to (Err walk.Overflow) h =
      let (r, high) = rw (same_steps h.full h.steps h.plan) at h.at_last in
      absurd (omega (arith, ints, high, column r, at_peak v r))
