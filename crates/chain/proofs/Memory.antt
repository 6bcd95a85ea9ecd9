-- Words laid from the last back to the first. Assumes nothing.
use Rattle.std.proofs.Common.{◌≡◌, ℕ, zero, suc, get_or, Bor, Option, reverse, subst, ◌+◌, ◌-◌, ◌*◌, ◌<◌, ◌≤◌, Bool, false, cond, ◌||◌, List, [], ◌∷◌, ◌++◌, map, length, take, drop, set, sum_by, sym, refl, ap, ◌∙◌, append_assoc, append-nil, arith, length-append}
use Rattle.std.proofs.Math.Bool.{or_assoc, or_comm}
use Rattle.std.proofs.lemmas.Bool.Decides.{nat_tests}
use Rattle.std.proofs.Math.ListN.{length-set}
use Rattle.std.proofs.lemmas.List.{map-append, length-map, drop-set, drop_all, drop_at, take_at, reverse-append, reverse-reverse, length-reverse}
use Rattle.std.proofs.lemmas.Simd.{map-map}
use Rattle.std.proofs.lemmas.Slice.Zip.{seconds-zip}
use Rattle.std.proofs.lemmas.List.Sums.{sum_by-cons}
use Rattle.std.proofs.lemmas.Iterator.{YieldsList}
use Rattle.std.proofs.lemmas.Iterator.Consumers.{YieldsList-from_shown}
use Rattle.std.specs.declared.iter.Rev.{Rev}
use Rattle.std.specs.declared.ops.Range.{Range}
use Rattle.std.specs.Iterator.Adapters.{rev_source, rev_steps}
use Rattle.std.specs.List.{flat_map, zip}
use Rattle.std.specs.Option.{MatchOption}
use Rattle.recoding.specs.declared.pair.Pair.{Pair}
use Rattle.recoding.specs.Divisions.{Recoded}
use Rattle.recoding.specs.Tables.{table_of_thirty}
use Rattle.steps.specs.declared.register.Register.TheVariants.{T, P}
use Rattle.steps.specs.declared.step.Step.{Step}
use Rattle.steps.specs.declared.step.Step.TheVariants.{Copy}
use Rattle.steps.specs.Words.{encoded}
use Rattle.chain.specs.Chains.{reads_T, any_reads_T, release, released, pair_steps, pairs_steps, number_steps}
use Rattle.chain.specs.Laid.{Written, NumberLaid, TooLong}
use Rattle.chain.proofs.Releasing.{length_released}
use Rattle.chain.proofs.Numbers.{pair_short, number_does}

-- lists in two parts: whether a step reads T, what releasing T makes of each part, and the steps of pairs
pub any_append : (ss rs : List Step) → any_reads_T (ss ++ rs) ≡ (any_reads_T ss || any_reads_T rs)
any_append [] rs = refl
any_append (s ∷ ss) rs = ap (λ b. reads_T s || b) (any_append ss rs) ∙ sym (or_assoc (reads_T s) (any_reads_T ss) (any_reads_T rs))

pub released_append : (ss rs : List Step) → released (ss ++ rs) ≡ cond (any_reads_T rs) ss (released ss) ++ released rs
released_append [] rs = grind arith
released_append (s ∷ ss) rs = grind (arith, nat_tests, any_append ss rs, released_append ss rs)

pub pairs_append : (ps qs : List Pair) → pairs_steps (ps ++ qs) ≡ pairs_steps qs ++ pairs_steps ps
pairs_append [] qs = sym (append-nil (pairs_steps qs))
pairs_append (p ∷ ps) qs = ap (λ l. l ++ pair_steps p) (pairs_append ps qs) ∙ append_assoc (pairs_steps qs) (pairs_steps ps) (pair_steps p)

-- the steps `laid` are laid at the end of the words, each with the word at its own place; `reads` tells whether one of them reads T
pub record LaidBehind (laid : List Step) (reads : Bool) (words : List ℕ) : Type 0 where
  pub reads_are : reads ≡ any_reads_T laid
  pub words_are : drop (length words - length laid) words ≡ map encoded (released laid)

pub none_laid : (words : List ℕ) → LaidBehind [] false words
none_laid words = record { reads_are = refl; words_are = drop_all (length words - 0) words (omega arith) }

-- one more step laid, before them
one_more : (laid : List Step) (reads : Bool) (words : List ℕ) → LaidBehind laid reads words → (step : Step) (read : Bool) (place word : ℕ) → place + (length laid + 1) ≡ length words
    → read ≡ reads_T step → word ≡ encoded (release reads step) → LaidBehind (step ∷ laid) (reads || read) (set words place word)
one_more laid reads words done step read place word here r w =
    let at : length (set words place word) - length (step ∷ laid) ≡ place = omega (arith, length-set words place word) in
    let after : place + 1 ≡ length words - length laid = omega arith in
    let inside : place < length words = omega arith in
    record {
      reads_are = rw (r, done.reads_are) (or_comm (any_reads_T laid) (reads_T step));
      words_are = rw (at, drop-set words place word, after, w, done.reads_are, done.words_are) refl;
    }

-- n places from the first on, the last first: what a range gives from its back
abbrev pub places_back : ℕ → ℕ → List ℕ
places_back first zero = []
places_back first (suc n) = (first + n) ∷ places_back first n

length-places : (first n : ℕ) → length (places_back first n) ≡ n
length-places first zero = refl
length-places first (suc n) = ap suc (length-places first n)

abbrev pub range_back : Range ℕ → Option ℕ → Range ℕ → Type 0
range_back s r t = (t.start ≡ s.start) × MatchOption r ((s.end - s.start ≡ 0) × (t.end ≡ s.end)) (λ x. (0 < s.end - s.start) × (x ≡ t.end) × (s.end ≡ t.end + 1))

pub places_from_rev : {s : Rev (Range ℕ)} (n : ℕ) → rev_source s ≡ record { start = 0; end = n } → YieldsList (rev_steps range_back) (λ x. x) s (places_back 0 n)
places_from_rev {s} n e =
    let whole : left (rev_source s) ≡ places_back 0 n = ap left e ∙ ap (places_back 0) (omega arith) in
    subst (YieldsList (rev_steps range_back) (λ x. x) s) whole
    (YieldsList-from_shown (rev_steps range_back) (λ x. x) (λ t. left (rev_source t))
    (λ t u h. ap (λ k. length (places_back t.iter.start k)) h.1.0)
    (λ t x u h.
    let more : t.iter.end - t.iter.start ≡ suc (u.iter.end - u.iter.start) = omega arith in
    let first : t.iter.start + (u.iter.end - u.iter.start) ≡ x = omega arith in
    rw (more, first, h.0))
    s)
  where
    left : Range ℕ → List ℕ
    left r = places_back r.start (r.end - r.start)

-- the steps of a number before T is released, the last first
abbrev pub steps_back : List Pair → List Step
steps_back ps = flat_map (λ p. reverse (pair_steps p)) ps ++ (Copy T P ∷ [])

steps_turned : (ps : List Pair) → steps_back ps ≡ reverse (Copy T P ∷ pairs_steps ps)
steps_turned [] = refl
steps_turned (p ∷ ps) =
    append_assoc (reverse (pair_steps p)) (flat_map (λ q. reverse (pair_steps q)) ps) (Copy T P ∷ [])
    ∙ ap (λ l. reverse (pair_steps p) ++ l) (steps_turned ps)
    ∙ sym (reverse-append (Copy T P ∷ pairs_steps ps) (pair_steps p))

-- a place and a step that a loop yields, and all that it yields
abbrev pub seen : ℕ × Bor Step → ℕ × Step
seen y = (y.0, y.1.now)

abbrev pub places_and_steps : ℕ → List Pair → List (ℕ × Step)
places_and_steps n ps = zip (places_back 0 n) (steps_back ps)

-- the steps that were yielded, the last first
abbrev pub yielded_steps : List (ℕ × Bor Step) → List Step
yielded_steps ys = reverse (map (λ y. (seen y).1) ys)

-- the place of a turn, by how many turns there were
place_of_turn : (first n turns : ℕ) (ss : List Step) (d : ℕ × Step) → turns < length (zip (places_back first n) ss)
    → (get_or (zip (places_back first n) ss) turns d).0 + (turns + 1) ≡ first + n
place_of_turn first zero turns ss d h = absurd (omega arith)
place_of_turn first (suc n) turns [] d h = absurd (omega arith)
place_of_turn first (suc n) zero (s ∷ ss) d h = omega arith
place_of_turn first (suc n) (suc turns) (s ∷ ss) d h = omega (arith, place_of_turn first n turns ss d (omega arith))

pub placed : (ys : List (ℕ × Bor Step)) (n : ℕ) (ps : List Pair) (place : ℕ) (step : Step)
    → (length ys < length (places_and_steps n ps)) × ((place, step) ≡ get_or (places_and_steps n ps) (length ys) (place, step)) → place + (length (yielded_steps ys) + 1) ≡ n
placed ys n ps place step (h, e) =
    omega (arith, place_of_turn 0 n (length ys) (steps_back ps) (place, step) h, ap (λ (p : ℕ × Step). p.0) e, length-reverse (map (λ y. (seen y).1) ys), length-map ys (λ y. (seen y).1))

pub one_laid : (ys : List (ℕ × Bor Step)) (reads : Bool) (words : List ℕ) → LaidBehind (yielded_steps ys) reads words → (y : ℕ × Bor Step) (read : Bool) (word : ℕ)
    → y.0 + (length (yielded_steps ys) + 1) ≡ length words → read ≡ reads_T y.1.now → word ≡ encoded (release reads y.1.now)
    → LaidBehind (yielded_steps (ys ++ (y ∷ []))) (reads || read) (set words y.0 word)
one_laid ys reads words done y read word here r w =
    let more : yielded_steps (ys ++ (y ∷ [])) ≡ y.1.now ∷ yielded_steps ys = ap reverse (map-append (λ y. (seen y).1) ys (y ∷ [])) ∙ reverse-append (map (λ y. (seen y).1) ys) (y.1.now ∷ []) in
    rw more (one_more (yielded_steps ys) reads words done y.1.now read y.0 word here r w)

pub all_laid : (ys : List (ℕ × Bor Step)) (n : ℕ) (ps : List Pair) → map seen ys ≡ places_and_steps n ps → n ≡ length (number_steps ps)
    → (reads : Bool) (words : List ℕ) → LaidBehind (yielded_steps ys) reads words → length words ≡ n → words ≡ map encoded (number_steps ps)
all_laid ys n ps e size reads words done same =
    let whole : List Step = Copy T P ∷ pairs_steps ps in
    let long : length words ≡ length whole = omega (arith, length_released whole) in
    let turned : length (steps_back ps) ≡ length (places_back 0 n) = omega (arith, length-places 0 n, ap length (steps_turned ps), length-reverse whole) in
    let yielded : yielded_steps ys ≡ whole = ap reverse (sym (map-map (λ (p : ℕ × Step). p.1) seen ys) ∙ ap (map (λ (p : ℕ × Step). p.1)) e ∙ seconds-zip (places_back 0 n) (steps_back ps) turned ∙ steps_turned ps) ∙ reverse-reverse whole in
    let front : length words - length (yielded_steps ys) ≡ 0 = omega (arith, ap length yielded) in
    ap (λ k. drop k words) (sym front) ∙ done.words_are ∙ ap (λ l. map encoded (released l)) yielded

-- the steps of a number are the copy and those of its pairs, at most eight each
pub length_number : (ps : List Pair) → length (number_steps ps) ≡ 1 + sum_by (λ p. length (pair_steps p)) ps
length_number [] = refl
length_number (p ∷ ps) =
    omega (arith, length_released (Copy T P ∷ pairs_steps ps), length_released (Copy T P ∷ pairs_steps (p ∷ ps)), length-append (pairs_steps ps) (pair_steps p), length_number ps, sum_by-cons (λ p. length (pair_steps p)) p ps)

pub few_steps : (ps : List Pair) → sum_by (λ p. length (pair_steps p)) ps ≤ 8 * length ps
few_steps [] = omega arith
few_steps (p ∷ ps) = let (k, short, low, two) = pair_short p in omega (arith, few_steps ps, sum_by-cons (λ p. length (pair_steps p)) p ps)

-- words at the front, and those behind as they were
pub written : (ss : List Step) (was is : List ℕ) (count : ℕ) → count ≡ length ss → count ≤ length was → is ≡ map encoded ss ++ drop count was → Written ss was is count
written ss was is count size within e =
    let long : length (map encoded ss) ≡ count = omega (arith, length-map ss encoded) in
    record { counted = size; within = within; front = ap (take count) e ∙ take_at (map encoded ss) (drop count was) count long; behind = ap (drop count) e ∙ drop_at (map encoded ss) (drop count was) count long }

-- a number laid, or refused
pub number_laid : (n : ℕ) (ps : List Pair) → Recoded table_of_thirty n ps → (was laid : List ℕ) (count : ℕ) → count ≡ length (number_steps ps) → count ≤ length was
    → laid ≡ map encoded (number_steps ps) → NumberLaid n was (laid ++ drop count was) count
number_laid n ps r was laid count size within e =
    record {
      pairs = ps;
      steps = number_steps ps;
      does = number_does n ps r;
      written = written (number_steps ps) was (laid ++ drop count was) count size within (ap (λ l. l ++ drop count was) e);
    }

pub number_too_long : (n : ℕ) (ps : List Pair) → Recoded table_of_thirty n ps → (was : List ℕ) (count : ℕ) → count ≡ length (number_steps ps) → length was < count → TooLong n was was
number_too_long n ps r was count size longer =
    record { pairs = ps; steps = number_steps ps; does = number_does n ps r; longer = omega arith; untouched = refl }
