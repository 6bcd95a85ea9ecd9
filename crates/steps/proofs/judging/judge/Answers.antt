use Rattle.std.proofs.Common.{◌≡◌, get_or, Ok, refl, ap, ◌∙◌, rules}
use Rattle.steps.specs.Sets.{members}
use Rattle.steps.specs.Steps.{counts_of}
use Rattle.steps.specs.Plans.{stepped}
use Rattle.steps.proofs.Plans.{plan_more, plan_all, plan_steps}
use Rattle.steps.proofs.Columns.{within}
use Rattle.steps.proofs.judging.judge.Goals as goal

pub loop-place-preserved : goal.loop-place-preserved
loop-place-preserved c =
    let so_far = c.loop-place.invariant in
    let goes : stepped (members c.loop-place.full) (get_or c.args.words.now c.loop-place.place-counter 0) ≡ Ok (members c.in_ok-full.full) = search rules in
    plan_more (members c.args.start) (members c.loop-place.full) (members c.in_ok-full.full) c.args.words.now so_far.0 c.loop-place.place-counter c.loop-place-test.true so_far.1 goes

pub returns : goal.returns
returns c =
    let so_far = c.loop-place.invariant in
    let ws = c.args.words.now in
    let s = members c.args.start in
    let f = members c.loop-place.full in
    let all = plan_all s f ws so_far.0 c.loop-place.place-counter c.loop-place-test.false so_far.1 in
    record {
      begins = refl;
      steps = so_far.0;
      plan = all;
      counted = c.count.ensures ∙ ap counts_of (plan_steps ws so_far.0 all.words);
      outside = within so_far.0 s f all.fits;
    }
