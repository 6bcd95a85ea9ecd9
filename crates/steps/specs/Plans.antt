-- Step words as plans: what judging, turning and walking them answers. Assumes nothing.
use Rattle.std.specs.Prelude.{◌≡◌, ℕ, ◌+◌, ◌^◌, ◌<◌, true, false, List, [], ◌∷◌, map, length, take, pos, ◌≤ℤ◌, ◌<ℤ◌, Ok, Err, Result, slice_index}
use Rattle.steps.specs.declared.fault.RegisterFault.{RegisterFault}
use Rattle.steps.specs.declared.fault.StepAt.{StepAt}
use Rattle.steps.specs.declared.fault.StepFault.{StepFault}
use Rattle.steps.specs.declared.fault.StepFault.TheVariants as fault
use Rattle.steps.specs.declared.fault.WalkFault.{WalkFault}
use Rattle.steps.specs.declared.fault.WalkFault.TheVariants as walk
use Rattle.steps.specs.declared.fault.WordFault.{WordFault}
use Rattle.steps.specs.declared.judgement.Judgement.{Judgement}
use Rattle.steps.specs.declared.register.Register.{Register}
use Rattle.steps.specs.declared.register.Registers.{Registers}
use Rattle.steps.specs.declared.step.Step.{Step}
use Rattle.steps.specs.Registers.{at}
use Rattle.steps.specs.Sets.{Full, members, size}
use Rattle.steps.specs.Steps.{squarings, multiplications, counts_of, inverts, transposed, turned}
use Rattle.steps.specs.Words.{encoded, decoded}
use Rattle.steps.specs.Fullness.{after, Fits}
use Rattle.steps.specs.Tables.{Table, table, entry, exchanged}

-- the steps among words; a word that is no step counts for nothing
abbrev pub step_before : Result Step WordFault → List Step → List Step
step_before (Ok s) ss = s ∷ ss
step_before (Err e) ss = ss

abbrev pub steps_in : List ℕ → List Step
steps_in [] = []
steps_in (w ∷ ws) = step_before (decoded w) (steps_in ws)

-- the word of a word's transposed step; a word that is no step stays
abbrev pub transpose_or : ℕ → Result Step WordFault → ℕ
transpose_or w (Ok s) = encoded (transposed s)
transpose_or w (Err e) = w

abbrev pub word_transposed : ℕ → ℕ
word_transposed w = transpose_or w (decoded w)

-- the full registers after a word: it has to be a step, and the step has to fit
abbrev pub of_registers : Result Full RegisterFault → Result Full StepFault
of_registers (Ok s) = Ok s
of_registers (Err e) = Err (fault.Registers e)

abbrev pub step_from : Full → Result Step WordFault → Result Full StepFault
step_from s (Ok x) = of_registers (after x s)
step_from s (Err e) = Err (fault.Word e)

abbrev pub stepped : Full → ℕ → Result Full StepFault
stepped s w = step_from s (decoded w)

-- the words are those of the steps, which fit from s to f
pub record Plan (s : Full) (ws : List ℕ) (ss : List Step) (f : Full) : Type 0 where
  pub words : map decoded ws ≡ map Ok ss
  pub fits : Fits s ss f

-- rows of registers that are empty at the end, and columns of those that are empty at the start, are 0
pub record Within (s f : Full) (t : Table) : Type 0 where
  pub rows : (r c : Register) → at f r ≡ false → entry t r c ≡ pos 0
  pub columns : (r c : Register) → at s c ≡ false → entry t r c ≡ pos 0

-- judged to be a plan
pub record Accepted (s : Full) (ws : List ℕ) (j : Judgement) : Type 0 where
  pub begins : members j.start ≡ s
  pub steps : List Step
  pub plan : Plan s ws steps (members j.full)
  pub counted : j.counts ≡ counts_of steps
  pub outside : Within s (members j.full) (table s steps)

-- refused: the words before the place are a plan, and the word there is no step that fits behind it
pub record Refused (s : Full) (ws : List ℕ) (e : StepAt) : Type 0 where
  pub steps : List Step
  pub full : Full
  pub place : e.place < length ws
  pub before : Plan s (take e.place ws) steps full
  pub fault : stepped full (slice_index ws e.place) ≡ Err e.fault

abbrev pub Judges : Full → List ℕ → Result Judgement StepAt → Type 0
Judges s ws (Ok j) = Accepted s ws j
Judges s ws (Err e) = Refused s ws e

-- turned: the plan fits back, its table has rows and columns exchanged, and turned again it has the words that were given
pub record TurnedRound (s : Full) (was is : List ℕ) (r : Judgement) : Type 0 where
  pub steps : List Step
  pub plan : Plan s was steps (members r.start)
  pub written : is ≡ map encoded (turned steps)
  pub back : Plan (members r.start) is (turned steps) s
  pub ends : members r.full ≡ s
  pub table_exchanged : table (members r.start) (turned steps) ≡ exchanged (table s steps)
  pub counted : r.counts ≡ counts_of (turned steps)
  pub squarings_stay : squarings (turned steps) ≡ squarings steps
  pub multiplications_grow : multiplications (turned steps) + size s ≡ multiplications steps + size (members r.start)
  pub turned_again : map encoded (turned (turned steps)) ≡ was

abbrev pub Turns : Full → List ℕ → List ℕ → Result Judgement StepAt → Type 0
Turns s was is (Ok r) = TurnedRound s was is r
Turns s was is (Err e) = (is ≡ was) × Refused s was e

-- walked: no step inverts, each entry of the column is found, and after no step is one 2^64 or more
pub record Walked (s : Full) (c : Register) (ws : List ℕ) (v : Registers ℕ) : Type 0 where
  pub steps : List Step
  pub full : Full
  pub plan : Plan s ws steps full
  pub no_invert : inverts steps ≡ false
  pub found : (r : Register) → entry (table s steps) r c ≡ pos (at v r)
  pub outside : Within s full (table s steps)
  pub below : (k : ℕ) (r : Register) → entry (table s (take k steps)) r c <ℤ pos (2 ^ 64)

-- refused: after some step an entry is 2^64 or more, and then one is at the end too
pub record Overflows (s : Full) (c : Register) (ws : List ℕ) : Type 0 where
  pub steps : List Step
  pub full : Full
  pub plan : Plan s ws steps full
  pub no_invert : inverts steps ≡ false
  pub after_some : (k : ℕ) × (r : Register) × (pos (2 ^ 64) ≤ℤ entry (table s (take k steps)) r c)
  pub at_last : (r : Register) × (pos (2 ^ 64) ≤ℤ entry (table s steps) r c)

-- refused: a plan with an invert step
pub record Inverting (s : Full) (ws : List ℕ) : Type 0 where
  pub steps : List Step
  pub full : Full
  pub plan : Plan s ws steps full
  pub some_invert : inverts steps ≡ true

abbrev pub Walks : Full → Register → List ℕ → Result (Registers ℕ) WalkFault → Type 0
Walks s c ws (Ok v) = Walked s c ws v
Walks s c ws (Err (walk.Step e)) = Refused s ws e
Walks s c ws (Err walk.Inverts) = Inverting s ws
Walks s c ws (Err walk.Overflow) = Overflows s c ws
