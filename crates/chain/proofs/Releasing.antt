-- The last step that reads T releases it: what that does to rows and full registers, for any plain steps, and that the steps stay lawful. Assumes nothing.
use Rattle.std.proofs.Common.{◌≡◌, suc, Bool, true, false, not, ◌&&◌, ◌||◌, List, [], ◌∷◌, length, Ok, refl, ap, ◌∙◌, ⊎_elim, arith}
use Rattle.std.specs.List.{list_all}
use Rattle.std.proofs.lemmas.Bool.{and_parts, or_parts, cases_Bool}
use Rattle.std.proofs.lemmas.Bool.Decides.{nat_tests}
use Rattle.std.proofs.lemmas.List.Folds.{list_all-append}
use Rattle.recoding.specs.declared.pair.Pair.{Pair}
use Rattle.steps.specs.declared.register.Register.TheVariants.{T, P}
use Rattle.steps.specs.declared.step.Step.{Step}
use Rattle.steps.specs.declared.step.Step.TheVariants.{Copy}
use Rattle.steps.specs.Registers.{put}
use Rattle.steps.specs.Sets.{Full}
use Rattle.steps.specs.Steps.{same, first_register, second_register, lawful, is_invert, inverts}
use Rattle.steps.specs.Fullness.{after, Fits}
use Rattle.steps.specs.Tables.{Row, Table, zeros, act, acts}
use Rattle.steps.proofs.Lists.{AllLawful}
use Rattle.chain.specs.Chains.{pair_steps, pairs_steps, reads_T, releasing, any_reads_T, release, released, number_steps}

-- a plain step reads T by a copy or a multiply, or T is neither of its registers
abbrev pub plain : Step → Bool
plain s = reads_T s || (not (same (first_register s) T) && not (same (second_register s) T))

abbrev pub AllPlain : List Step → Type 0
AllPlain ss = list_all plain ss ≡ true

-- a step that reads T does the same once it releases T, and empties it
act_releasing : (s : Step) (t : Table) → reads_T s ≡ true → act (releasing s) t ≡ put (act s t) T zeros
act_releasing s t e = grind (arith, nat_tests)

after_releasing : (s : Step) (m n : Full) → after s m ≡ Ok n → reads_T s ≡ true → after (releasing s) m ≡ Ok (put n T false)
after_releasing s m n e r = grind (arith, nat_tests)

-- a plain step that does not read T does the same whatever is at T
act_without_T : (s : Step) (t : Table) (x : Row) → plain s ≡ true → reads_T s ≡ false → act s (put t T x) ≡ put (act s t) T x
act_without_T s t x p e = grind (arith, nat_tests)

after_without_T : (s : Step) (m n : Full) (x : Bool) → plain s ≡ true → reads_T s ≡ false → after s m ≡ Ok n → after s (put m T x) ≡ Ok (put n T x)
after_without_T s m n x p e k = grind (arith, nat_tests)

acts_without_T : (ss : List Step) (t : Table) (x : Row) → AllPlain ss → any_reads_T ss ≡ false → acts ss (put t T x) ≡ put (acts ss t) T x
acts_without_T [] t x h e = refl
acts_without_T (s ∷ ss) t x h e =
    let (p, ps) = and_parts (plain s) (list_all plain ss) h in
    let (first, behind) = or_parts (reads_T s) (any_reads_T ss) e in
    ap (acts ss) (act_without_T s t x p first) ∙ acts_without_T ss (act s t) x ps behind

fits_without_T : (ss : List Step) (m f : Full) (x : Bool) → AllPlain ss → any_reads_T ss ≡ false → Fits m ss f → Fits (put m T x) ss (put f T x)
fits_without_T [] m f x h e k = ap (λ v. put v T x) k
fits_without_T (s ∷ ss) m f x h e (n, k, ks) =
    let (p, ps) = and_parts (plain s) (list_all plain ss) h in
    let (first, behind) = or_parts (reads_T s) (any_reads_T ss) e in
    (put n T x, after_without_T s m n x p first k, fits_without_T ss n f x ps behind ks)

pub released_none : (ss : List Step) → any_reads_T ss ≡ false → released ss ≡ ss
released_none [] e = refl
released_none (s ∷ ss) e = grind (arith, nat_tests, released_none ss)

pub acts_released : (ss : List Step) → AllPlain ss → any_reads_T ss ≡ true → (t : Table) → acts (released ss) t ≡ put (acts ss t) T zeros
acts_released [] h e t = cc
acts_released (s ∷ ss) h e t =
    let (_, ps) = and_parts (plain s) (list_all plain ss) h in
    grind (arith, nat_tests, acts_released ss ps, released_none ss, act_releasing s t, acts_without_T ss (act s t) zeros ps)

pub fits_released : (ss : List Step) → AllPlain ss → any_reads_T ss ≡ true → (m f : Full) → Fits m ss f → Fits m (released ss) (put f T false)
fits_released [] h e m f k = cc
fits_released (s ∷ ss) h e m f (n, k, ks) =
    let (_, ps) = and_parts (plain s) (list_all plain ss) h in
    ⊎_elim
    (λ behind. rw behind (n, k, fits_released ss ps behind n f ks))
    (λ behind.
    let first : reads_T s ≡ true = grind (arith, nat_tests) in
    rw (released_none ss behind, behind, first) (put n T false, after_releasing s m n k first, fits_without_T ss n f false ps behind ks))
    (cases_Bool (any_reads_T ss))

pub length_released : (ss : List Step) → length (released ss) ≡ length ss
length_released [] = refl
length_released (s ∷ ss) = ap suc (length_released ss)

-- a proper step keeps the rule of its kind and is no invert
abbrev proper : Step → Bool
proper s = lawful s && not (is_invert s)

abbrev AllProper : List Step → Type 0
AllProper ss = list_all proper ss ≡ true

-- the steps stay lawful, and none inverts
lawful_release : (b : Bool) (s : Step) → lawful (release b s) ≡ lawful s
lawful_release b s = grind arith

invert_release : (b : Bool) (s : Step) → is_invert (release b s) ≡ is_invert s
invert_release b s = grind arith

released_lawful : (ss : List Step) → AllProper ss → AllLawful (released ss)
released_lawful [] h = tt
released_lawful (s ∷ ss) h = (grind (arith, nat_tests, lawful_release (any_reads_T ss) s), released_lawful ss (grind (arith, nat_tests)))

released_no_invert : (ss : List Step) → AllProper ss → inverts (released ss) ≡ false
released_no_invert [] h = refl
released_no_invert (s ∷ ss) h = grind (arith, nat_tests, invert_release (any_reads_T ss) s, released_no_invert ss)

-- the steps of a pair are plain and proper, and those of a number before T is released
pair_plain : (p : Pair) → AllPlain (pair_steps p)
pair_plain p = grind arith

pair_proper : (p : Pair) → AllProper (pair_steps p)
pair_proper p = grind arith

pub pair_lawful : (p : Pair) → AllLawful (pair_steps p)
pair_lawful p = grind arith

-- a test that each step of each pair passes
pairs_pass : (f : Step → Bool) → ((p : Pair) → list_all f (pair_steps p) ≡ true) → (ps : List Pair) → list_all f (pairs_steps ps) ≡ true
pairs_pass f h [] = refl
pairs_pass f h (p ∷ ps) = rw (list_all-append f (pairs_steps ps) (pair_steps p), pairs_pass f h ps) (h p)

pub number_plain : (ps : List Pair) → AllPlain (Copy T P ∷ pairs_steps ps)
number_plain = pairs_pass plain pair_plain

number_proper : (ps : List Pair) → AllProper (Copy T P ∷ pairs_steps ps)
number_proper = pairs_pass proper pair_proper

pub number_lawful : (ps : List Pair) → AllLawful (number_steps ps)
number_lawful ps = released_lawful (Copy T P ∷ pairs_steps ps) (number_proper ps)

pub number_no_invert : (ps : List Pair) → inverts (number_steps ps) ≡ false
number_no_invert ps = released_no_invert (Copy T P ∷ pairs_steps ps) (number_proper ps)
