-- The division down to 1 by a fitting table, turn by turn. Assumes nothing.
use Rattle.std.proofs.Common.{◌≡◌, ℕ, ◌+◌, ◌^◌, ◌<◌, ◌≤◌, List, [], ◌∷◌, ◌++◌, length, take, set, sym, ap, ◌∙◌, subst, ⊎_elim, arith, length-append, length-set, pow_mono}
use Rattle.std.proofs.lemmas.List.{append_assoc, append-nil, length-take-le, nil_from_length, take_more_set}
use Rattle.std.proofs.lemmas.Bool.{cases_lt}
use Rattle.recoding.specs.declared.pair.Pair.{Pair}
use Rattle.recoding.specs.Tables.{Fitting}
use Rattle.recoding.specs.Divisions.{DividesOnce, Recoded}
use Rattle.recoding.proofs.AnyTable.{none, before, every_fitting}

-- a number below 2 ^ 64 has at most 63 pairs
at_most : (table : List Pair) (n : ℕ) (ps : List Pair) → Recoded table n ps → n < 2 ^ 64 → length ps < 64
at_most table n ps r small =
    ⊎_elim (λ lt. lt) (λ ge. absurd (omega (arith, r.few, pow_mono ge))) (cases_lt (length ps) 64)

module _ (table : List Pair) (number : ℕ) where
  -- count pairs of the number are found, and rest is left: the pairs of the rest complete those of the number
  pub record Sofar (rest count : ℕ) (pairs : List Pair) : Type 0 where
    pub places : length pairs ≡ 63
    pub left : 1 ≤ rest
    pub completed : (ps : List Pair) → Recoded table rest ps → Recoded table number (take count pairs ++ ps)

module _ (table : List Pair) (number rest count : ℕ) (pairs : List Pair) (s : Sofar table number rest count pairs) where
  pub more : (p : Pair) (next : ℕ) → DividesOnce table rest p next → 1 ≤ next → next + next ≤ rest → count < 63 → Sofar table number next (count + 1) (set pairs count p)
  more p next once left half room =
      let free : count < length pairs = omega (arith, s.places) in
      record {
        places = length-set pairs count p ∙ s.places;
        left = left;
        completed = λ ps r.
            rw (take_more_set pairs count p free, append_assoc (take count pairs) (p ∷ []) ps)
            (s.completed (p ∷ ps) (before table rest p next ps once half r));
      }

  -- where 1 is left the pairs are all
  pub done : rest ≡ 1 → Recoded table number (take count pairs)
  done one =
      subst (Recoded table number) (append-nil (take count pairs)) (s.completed [] (subst (λ x. Recoded table x []) (sym one) (none table)))

  -- and so are 63
  pub full : Fitting table → number < 2 ^ 64 → count ≡ 63 → Recoded table number (take 63 pairs)
  full fit small all =
      let (ps, r) = every_fitting table fit rest s.left in
      let whole = subst (λ (k : ℕ). Recoded table number (take k pairs ++ ps)) all (s.completed ps r) in
      let few = at_most table number (take 63 pairs ++ ps) whole small in
      let front = length-take-le 63 pairs (omega (arith, s.places)) in
      let no_more = nil_from_length ps (omega (arith, length-append (take 63 pairs) ps)) in
      subst (Recoded table number) (ap (λ l. take 63 pairs ++ l) no_more ∙ append-nil (take 63 pairs)) whole
