-- Plans grow by a word at a time, count as their steps do, and have lawful steps, whose words they are. Assumes nothing.
use Rattle.std.proofs.Common.{◌≡◌, ℕ, suc, ◌+◌, ◌<◌, ◌≤◌, Bool, ◌||◌, List, [], ◌∷◌, ◌++◌, map, length, get_or, take, Ok, Err, Result, sym, refl, ap, ◌∙◌, arith}
use Rattle.std.specs.List.{list_any}
use Rattle.std.proofs.lemmas.List.{map_more, map_push, take_all}
use Rattle.steps.specs.declared.fault.RegisterFault.{RegisterFault}
use Rattle.steps.specs.declared.fault.StepAt.{StepAt}
use Rattle.steps.specs.declared.fault.WordFault.{WordFault}
use Rattle.steps.specs.declared.step.Step.{Step}
use Rattle.steps.specs.Sets.{Full}
use Rattle.steps.specs.Steps.{squarings, multiplications, is_invert, inverts}
use Rattle.steps.specs.Words.{encoded, decoded}
use Rattle.steps.specs.Fullness.{after}
use Rattle.steps.specs.Plans.{step_before, steps_in, of_registers, step_from, stepped, Plan, Refused}
use Rattle.steps.proofs.Fields.{encode_decode}
use Rattle.steps.proofs.Lists.{AllLawful, fits_append}

-- the steps, each as the answer of a word that is read
abbrev pub oks : List Step → List (Result Step WordFault)
oks ss = map Ok ss

-- what holds of no words, and with words and their steps of one more word and its step, holds of the words and steps of a plan
pub by_words : (F : List ℕ → List Step → Type 0) → F [] [] → ((w : ℕ) (s : Step) (ws : List ℕ) (ss : List Step) → decoded w ≡ Ok s → F ws ss → F (w ∷ ws) (s ∷ ss))
    → (ws : List ℕ) (ss : List Step) → map decoded ws ≡ oks ss → F ws ss
by_words F none more [] [] e = none
by_words F none more [] (s ∷ ss) e = cc
by_words F none more (w ∷ ws) [] e = cc
by_words F none more (w ∷ ws) (s ∷ ss) e = more w s ws ss (cc) (by_words F none more ws ss (cc))

-- the step of a word that goes on from the registers s to f
by_registers : (r : Result Full RegisterFault) (f : Full) → of_registers r ≡ Ok f → r ≡ Ok f
by_registers r f e = grind arith

pub by_word : (d : Result Step WordFault) (s f : Full) → step_from s d ≡ Ok f → (x : Step) × (d ≡ Ok x) × (after x s ≡ Ok f)
by_word (Ok x) s f e = (x, refl, by_registers (after x s) f e)
by_word (Err x) s f e = cc

pub plan_none : (s : Full) (ws : List ℕ) → Plan s (take 0 ws) [] s
plan_none s ws = record { words = refl; fits = refl }

-- a plan of the first words, and the word behind them
pub plan_more : (s m f : Full) (ws : List ℕ) (ss : List Step) (i : ℕ) → i < length ws → Plan s (take i ws) ss m → stepped m (get_or ws i 0) ≡ Ok f
    → (rs : List Step) × Plan s (take (i + 1) ws) rs f
plan_more s m f ws ss i h p e =
    let (x, reads, goes) = by_word (decoded (get_or ws i 0)) m f e in (
      ss ++ (x ∷ []),
      record {
        words = map_more decoded ws i 0 h ∙ (λ k. p.words k ++ (reads k ∷ [])) ∙ sym (map_push Ok ss x);
        fits = fits_append ss (x ∷ []) s m f p.fits (f, goes, refl);
      },
    )

pub refused_at : (s m : Full) (ws : List ℕ) (ss : List Step) (i : ℕ) (e : StepAt) → i < length ws → Plan s (take i ws) ss m
    → (e.place ≡ i) × (stepped m (get_or ws i 0) ≡ Err e.fault) → Refused s ws e
refused_at s m ws ss i e h p (q, f) = record { steps = ss; full = m; place = rw q h; before = rw q p; fault = rw q f }

pub plan_all : (s f : Full) (ws : List ℕ) (ss : List Step) (i : ℕ) → length ws ≤ i → Plan s (take i ws) ss f → Plan s ws ss f
plan_all s f ws ss i h p = rw (take_all i ws h) at p

-- the steps among the words of a plan are its steps
pub plan_steps : (ws : List ℕ) (ss : List Step) → map decoded ws ≡ oks ss → steps_in ws ≡ ss
plan_steps = by_words (λ ws ss. steps_in ws ≡ ss) refl (λ w s ws ss e h i. step_before (e i) (h i))

pub plan_lawful : (ws : List ℕ) (ss : List Step) → map decoded ws ≡ oks ss → AllLawful ss
plan_lawful = by_words (λ ws ss. AllLawful ss) tt (λ w s ws ss e h. ((encode_decode w s e).1, h))

pub plan_encoded : (ws : List ℕ) (ss : List Step) → map decoded ws ≡ oks ss → map encoded ss ≡ ws
plan_encoded = by_words (λ ws ss. map encoded ss ≡ ws) refl (λ w s ws ss e h i. (encode_decode w s e).0 i ∷ h i)

pub plan_length : (ws : List ℕ) (ss : List Step) → map decoded ws ≡ oks ss → length ss ≡ length ws
plan_length = by_words (λ ws ss. length ss ≡ length ws) refl (λ w s ws ss e h. ap suc h)

-- the steps among words, one word at a time
pub squarings_before : (d : Result Step WordFault) (ss : List Step) → squarings (step_before d ss) ≡ squarings (step_before d []) + squarings ss
squarings_before d ss = grind arith

pub multiplications_before : (d : Result Step WordFault) (ss : List Step) → multiplications (step_before d ss) ≡ multiplications (step_before d []) + multiplications ss
multiplications_before d ss = grind arith

pub inverts_before : (d : Result Step WordFault) (ss : List Step) → inverts (step_before d ss) ≡ (inverts (step_before d []) || inverts ss)
inverts_before d ss = grind arith

-- words that are a plan's have an invert step among them if its steps do
inverts_word : (d : Result Step WordFault) (s : Step) (b : Bool) → d ≡ Ok s → (inverts (step_before d []) || b) ≡ (is_invert s || b)
inverts_word d s b e = grind arith

pub plan_inverts : (ws : List ℕ) (ss : List Step) → map decoded ws ≡ oks ss → list_any (λ w. inverts (steps_in (w ∷ []))) ws ≡ inverts ss
plan_inverts =
    by_words (λ ws ss. list_any (λ w. inverts (steps_in (w ∷ []))) ws ≡ inverts ss) refl (λ w s ws ss e h. ap (λ b. inverts (steps_in (w ∷ [])) || b) h ∙ inverts_word (decoded w) s (inverts ss) e)
