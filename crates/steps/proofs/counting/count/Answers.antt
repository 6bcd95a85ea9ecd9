use Rattle.std.proofs.Common.{◌≡◌, ◌+◌, get_or, drop, ap, arith}
use Rattle.std.proofs.lemmas.List.{at_drop_more, at_drop_all}
use Rattle.steps.specs.declared.step.Counts.{Counts}
use Rattle.steps.specs.Steps.{squarings, multiplications}
use Rattle.steps.specs.Words.{decoded}
use Rattle.steps.specs.Plans.{steps_in}
use Rattle.steps.proofs.Plans.{squarings_before, multiplications_before}
use Rattle.steps.proofs.counting.count.Goals as goal

pub loop-word-preserved : goal.loop-word-preserved
loop-word-preserved c =
    let ws = c.args.words.now in
    let i = c.loop-word.word-index in
    let word = decoded (get_or ws i 0) in
    let rest = steps_in (drop (i + 1) ws) in
    let s = at_drop_more (λ l. squarings (steps_in l)) ws i 0 c.loop-word-test.true in
    let m = at_drop_more (λ l. multiplications (steps_in l)) ws i 0 c.loop-word-test.true in
    let s1 = ap (λ (k : Counts). k.squarings) c.count_word-one.ensures.value in
    let m1 = ap (λ (k : Counts). k.multiplications) c.count_word-one.ensures.value in
    (omega (arith, squarings_before word rest), omega (arith, multiplications_before word rest), omega arith, omega arith)

pub returns : goal.returns
returns c =
    let ws = c.args.words.now in
    let i = c.loop-word.word-index in
    let s = at_drop_all (λ l. squarings (steps_in l)) ws i c.loop-word-test.false in
    let m = at_drop_all (λ l. multiplications (steps_in l)) ws i c.loop-word-test.false in
    let e : c.loop-word.squarings ≡ squarings (steps_in ws) = omega arith in
    let f : c.loop-word.multiplications ≡ multiplications (steps_in ws) = omega arith in
    λ i. record { squarings = e i; multiplications = f i }
