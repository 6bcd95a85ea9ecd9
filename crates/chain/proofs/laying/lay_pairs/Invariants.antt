-- The places and the steps come from the last back, and the steps that were yielded are laid behind.
use Rattle.std.proofs.Common.{length}
use Rattle.std.proofs.lemmas.Iterator.{YieldsList}
use Rattle.chain.proofs.Memory.{LaidBehind, yielded_steps, places_and_steps, seen}
use Rattle.chain.proofs.laying.lay_pairs.Given as goal

abbrev pub invariant-loop-place : goal.invariant-loop-place
invariant-loop-place l =
    let it = goal.iterator-loop-place in
    it.can_next l.place-iterator
    × it.is_finite l.place-iterator
    × YieldsList it.next_gives seen l.initial.place-iterator (places_and_steps (length l.initial.words) l.pairs)
    × LaidBehind (yielded_steps l.yielded) l.reads l.words
