-- Lists of steps one after the other and turned round: their rules, what they do to a table, and where they fit. Assumes nothing.
use Rattle.std.proofs.Common.{◌≡◌, Bool, true, ◌||◌, List, [], ◌∷◌, ◌++◌, map, reverse, refl, ap, ◌∙◌, arith}
use Rattle.std.proofs.lemmas.List.{reverse-append, map-append}
use Rattle.steps.specs.declared.step.Step.{Step}
use Rattle.steps.specs.Sets.{Full}
use Rattle.steps.specs.Steps.{lawful, transposed, turned, is_invert, inverts}
use Rattle.steps.specs.Fullness.{Fits}
use Rattle.steps.specs.Tables.{Table, act, acts}

-- every step keeps the rule of its kind
abbrev pub AllLawful : List Step → Type 0
AllLawful [] = Unit {0}
AllLawful (s ∷ ss) = (lawful s ≡ true) × AllLawful ss

pub lawful_append : (ss rs : List Step) → AllLawful ss → AllLawful rs → AllLawful (ss ++ rs)
lawful_append [] rs h k = k
lawful_append (s ∷ ss) rs (h, hs) k = (h, lawful_append ss rs hs k)

pub acts_append : (ss rs : List Step) (t : Table) → acts (ss ++ rs) t ≡ acts rs (acts ss t)
acts_append [] rs t = refl
acts_append (s ∷ ss) rs t = acts_append ss rs (act s t)

pub fits_append : (ss rs : List Step) (s m f : Full) → Fits s ss m → Fits m rs f → Fits s (ss ++ rs) f
fits_append [] rs s m f e k = rw e k
fits_append (x ∷ ss) rs s m f (n, e, h) k = (n, e, fits_append ss rs n m f h k)

-- lists turned round
pub turned_append : (ss rs : List Step) → turned (ss ++ rs) ≡ turned rs ++ turned ss
turned_append ss rs = ap (map transposed) (reverse-append ss rs) ∙ map-append transposed (reverse rs) (reverse ss)

pub turned_cons : (s : Step) (ss : List Step) → turned (s ∷ ss) ≡ turned ss ++ (transposed s ∷ [])
turned_cons s ss = turned_append (s ∷ []) ss

pub lawful_transposed : (s : Step) → lawful s ≡ true → lawful (transposed s) ≡ true
lawful_transposed s h = grind arith

pub lawful_turned : (ss : List Step) → AllLawful ss → AllLawful (turned ss)
lawful_turned [] h = tt
lawful_turned (s ∷ ss) (h, hs) = rw (turned_cons s ss) (lawful_append (turned ss) (transposed s ∷ []) (lawful_turned ss hs) (lawful_transposed s h, tt))

pub transposed_transposed : (s : Step) → transposed (transposed s) ≡ s
transposed_transposed s = grind arith

pub turned_turned : (ss : List Step) → turned (turned ss) ≡ ss
turned_turned [] = refl
turned_turned (s ∷ ss) =
    ap turned (turned_cons s ss) ∙ turned_append (turned ss) (transposed s ∷ []) ∙ (λ i. transposed_transposed s i ∷ turned_turned ss i)

-- a list turned round inverts if the list does
inverts_push : (ss : List Step) (s : Step) (b : Bool) → is_invert s ≡ b → inverts (ss ++ (s ∷ [])) ≡ (b || inverts ss)
inverts_push [] s b e = grind arith
inverts_push (x ∷ ss) s b e = grind (arith, inverts_push ss s b e)

invert_transposed : (s : Step) → is_invert (transposed s) ≡ is_invert s
invert_transposed s = grind arith

pub inverts_turned : (ss : List Step) → inverts (turned ss) ≡ inverts ss
inverts_turned [] = refl
inverts_turned (s ∷ ss) = rw (turned_cons s ss, inverts_push (turned ss) (transposed s) (is_invert s) (invert_transposed s), inverts_turned ss)
