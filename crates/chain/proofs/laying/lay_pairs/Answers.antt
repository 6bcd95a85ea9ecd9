use Rattle.std.proofs.Common.{◌≡◌, ◌+◌, rules, arith, length, reverse, [], ◌∷◌}
use Rattle.std.proofs.lemmas.Iterator.{YieldsList-from_slice, YieldsList-from_zip}
use Rattle.std.proofs.lemmas.Iterator.Adapters.{YieldsList-from_flat_map, YieldsList-from_rev_slice}
use Rattle.std.proofs.lemmas.Iterator.Consumers.{YieldsList-at, YieldsList-from_chain, YieldsList-turn, YieldsList-end}
use Rattle.steps.specs.declared.register.Register.TheVariants.{T, P}
use Rattle.steps.specs.declared.step.Step.TheVariants.{Copy}
use Rattle.chain.specs.Chains.{pair_steps}
use Rattle.chain.proofs.Memory.{none_laid, one_laid, all_laid, placed, places_from_rev, yielded_steps}
use Rattle.chain.proofs.laying.lay_pairs.Goals as goal
use Rattle.chain.proofs.laying.lay_pairs.Goals.{In-Some}

pub loop-place-init : goal.loop-place-init
loop-place-init c =
    let places = YieldsList-at c.zip-place-items.ensures.first (places_from_rev _ c.rev.ensures.source) in (
      search rules,
      search rules,
      YieldsList-at c.into_iter-place-iterator.ensures.into_iter_gives
          (YieldsList-from_zip places
          (YieldsList-from_chain
          (YieldsList-from_flat_map _ _ _ _ (λ p. reverse (pair_steps p)) _ (λ x u q k. (search rules, λ j b. YieldsList-from_rev_slice (pair_steps x.now) (search rules))) (YieldsList-from_slice c.args.pairs.now (search rules)) (cc) (cc) (cc) (cc))
          (YieldsList-from_slice (Copy T P ∷ []) (search rules)) (cc) (cc))),
      none_laid c.args.words.now,
    )

-- the place of a turn, by the steps that were yielded before
here : (c : In-Some) → c.in-Some.place + (length (yielded_steps c.loop-place.yielded) + 1) ≡ length c.args.words.now
here c = placed c.loop-place.yielded _ _ _ _ (YieldsList-turn c.loop-place.invariant.2 _ _ c.loop-place.yielded_by _ _ _ c.in-Some.is c.next.ensures.steps)

pub offset_bounds-words-place : goal.offset_bounds-words-place
offset_bounds-words-place c = let at = here (goal.at.offset_bounds-words-place c).In-Some in omega arith

pub bounds-words-place : goal.bounds-words-place
bounds-words-place c = let at = here (goal.at.bounds-words-place c).In-Some in omega arith

pub loop-place-preserved : goal.loop-place-preserved
loop-place-preserved c =
    let (_, _, yields, laid) = c.loop-place.invariant in
    let at = here (goal.at.loop-place-preserved c).In-Some in
    (search rules, search rules, yields, one_laid c.loop-place.yielded _ _ laid (c.in-Some.place, c.in-Some.step) _ _ (omega arith) c.reads_t-reads.ensures (cc))

pub returns : goal.returns
returns c =
    let (_, _, yields, laid) = c.loop-place.invariant in
    let (all, _) = YieldsList-end yields _ _ c.loop-place.yielded_by _ _ c.in-None.is c.next.ensures.steps in
    all_laid c.loop-place.yielded _ c.args.pairs.now all c.requires _ _ laid c.loop-place.auto.words
