-- The words of a plan that was turned, and its counts. Assumes nothing.
use Rattle.std.proofs.Common.{◌≡◌, ℕ, ◌+◌, ◌^◌, ◌<◌, ◌≤◌, List, [], ◌∷◌, map, reverse, length, Ok, sym, refl, ap, ◌∙◌, arith}
use Rattle.std.proofs.lemmas.List.{length-map, length-reverse, map_push, reverse-append}
use Rattle.steps.specs.declared.judgement.Judgement.{Judgement}
use Rattle.steps.specs.declared.step.Counts.{Counts}
use Rattle.steps.specs.declared.step.Kind.{Kind}
use Rattle.steps.specs.declared.step.Step.{Step}
use Rattle.steps.specs.declared.register_set.RegisterSet.{RegisterSet}
use Rattle.steps.specs.Sets.{Full, members, size}
use Rattle.steps.specs.Steps.{kind_of, multiplying, multiplications, transposed, turned}
use Rattle.steps.specs.Words.{encoded, decoded}
use Rattle.steps.specs.Plans.{transpose_or, word_transposed, Accepted, TurnedRound}
use Rattle.steps.proofs.Fields.{encode_decode, decode_encode}
use Rattle.steps.proofs.Lists.{AllLawful, lawful_transposed, turned_turned}
use Rattle.steps.proofs.Fullness.{fits_turned, squarings_turned, multiplications_turned}
use Rattle.steps.proofs.Transposition.{table_turned}
use Rattle.steps.proofs.Plans.{oks, by_words, plan_lawful, plan_encoded, plan_length}

word_turned : (w : ℕ) (s : Step) → decoded w ≡ Ok s → decoded (word_transposed w) ≡ Ok (transposed s)
word_turned w s e = ap (λ d. decoded (transpose_or w d)) e ∙ decode_encode (transposed s) (lawful_transposed s (encode_decode w s e).1)

words_transposed : (ws : List ℕ) (ss : List Step) → map decoded ws ≡ oks ss → map decoded (map word_transposed ws) ≡ oks (map transposed ss)
words_transposed = by_words (λ ws ss. map decoded (map word_transposed ws) ≡ oks (map transposed ss)) refl (λ w s ws ss e h i. word_turned w s e i ∷ h i)

map_reverse : {A B : Type 0} (f : A → B) (xs : List A) → map f (reverse xs) ≡ reverse (map f xs)
map_reverse f [] = refl
map_reverse f (x ∷ xs) = simp (reverse-append (x ∷ []) xs, map_push, map_reverse f xs, reverse-append (f x ∷ []) (map f xs))

words_turned : (ws : List ℕ) (ss : List Step) → map decoded ws ≡ oks ss → map decoded (map word_transposed (reverse ws)) ≡ oks (turned ss)
words_turned ws ss e = words_transposed (reverse ws) (reverse ss) (map_reverse decoded ws ∙ ap reverse e ∙ sym (map_reverse Ok ss))

one_at_most : (k : Kind) → multiplying k ≤ 1
one_at_most k = grind arith

multiplications_length : (ss : List Step) → multiplications ss ≤ length ss
multiplications_length [] = omega arith
multiplications_length (s ∷ ss) = omega (arith, multiplications_length ss, one_at_most (kind_of s))

module _ (s : Full) (ws : List ℕ) (j : Judgement) (a : Accepted s ws j) where
  law : AllLawful a.steps
  law = plan_lawful ws a.steps a.plan.words

  grow : multiplications (turned a.steps) + size s ≡ multiplications a.steps + size (members j.full)
  grow = multiplications_turned a.steps s (members j.full) law a.plan.fits

  -- what the sum of the counts asks
  pub counts_low : size s ≤ j.counts.multiplications + size (members j.full)
  counts_low = let e = ap (λ (k : Counts). k.multiplications) a.counted in omega (arith, grow)

  pub counts_high : length ws < 2 ^ 64 → j.counts.multiplications + size (members j.full) < 2 ^ 64 + size s
  counts_high h =
      let e = ap (λ (k : Counts). k.multiplications) a.counted in
      let l = multiplications_length (turned a.steps) in
      let l' = length-map (reverse a.steps) transposed ∙ length-reverse a.steps ∙ plan_length ws a.steps a.plan.words in
      omega (arith, grow, l, l')

  pub turned_round : (o : RegisterSet) → members o ≡ s → (is : List ℕ) (n : ℕ) → is ≡ map word_transposed (reverse ws) → n + size s ≡ j.counts.multiplications + size (members j.full)
      → TurnedRound s ws is (record { start = j.full; full = o; counts = record { squarings = j.counts.squarings; multiplications = n } })
  turned_round o begins is n e g =
      let es = ap (λ (k : Counts). k.squarings) a.counted ∙ sym (squarings_turned a.steps) in
      let em : n ≡ multiplications (turned a.steps) = let m = ap (λ (k : Counts). k.multiplications) a.counted in omega (arith, grow) in
      record {
        steps = a.steps;
        plan = a.plan;
        written = sym (plan_encoded is (turned a.steps) (ap (map decoded) e ∙ words_turned ws a.steps a.plan.words));
        back = record { words = ap (map decoded) e ∙ words_turned ws a.steps a.plan.words; fits = fits_turned a.steps s (members j.full) law a.plan.fits };
        ends = begins;
        table_exchanged = table_turned a.steps s (members j.full) law a.plan.fits;
        counted = λ i. record { squarings = es i; multiplications = em i };
        squarings_stay = squarings_turned a.steps;
        multiplications_grow = grow;
        turned_again = ap (map encoded) (turned_turned a.steps) ∙ plan_encoded ws a.steps a.plan.words;
      }
