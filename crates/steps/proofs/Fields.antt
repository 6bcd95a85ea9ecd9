-- Step words and steps, one to one: decoding undoes encoding, and a word that decodes is the encoding of its step. Assumes nothing.
use Rattle.std.proofs.Common.{◌≡◌, ℕ, ◌+◌, ◌*◌, ◌/◌, ◌%◌, ◌^◌, ◌<◌, Bool, true, false, cond, eqb, Some, None, Ok, Err, Option, refl, ◌∙◌, arith}
use Rattle.std.proofs.lemmas.Bool.{eqb-true}
use Rattle.std.proofs.lemmas.Bool.Decides.{nat_tests}
use Rattle.steps.specs.declared.fault.WordFault.TheVariants as fault
use Rattle.steps.specs.declared.register.Register.{Register}
use Rattle.steps.specs.declared.step.Kind.{Kind}
use Rattle.steps.specs.declared.step.Step.{Step}
use Rattle.steps.specs.Registers.{number_of}
use Rattle.steps.specs.Steps.{kind_number, kind_of, first_register, second_register, step_of, allowed, lawful}
use Rattle.steps.specs.Words.{encoded, kind_numbered, register_numbered, by_kind, decoded}

-- a word that is put together from its fields, read
fields : (k a b : ℕ) → a < 3 → b < 3 → decoded (k * 2 ^ 28 + a * 2 ^ 26 + b * 2 ^ 24) ≡ by_kind (kind_numbered k) (register_numbered a) (register_numbered b) true
fields k a b ha hb =
    let w = k * 2 ^ 28 + a * 2 ^ 26 + b * 2 ^ 24 in
    let top : w / 2 ^ 28 ≡ k = omega arith in
    let first : w / 2 ^ 26 % 4 ≡ a = omega arith in
    let second : w / 2 ^ 24 % 4 ≡ b = omega arith in
    let rest : w % 2 ^ 24 ≡ 0 = omega arith in
    λ i. by_kind (kind_numbered (top i)) (register_numbered (first i)) (register_numbered (second i)) (eqb (rest i) 0)

pub register_low : (a : Register) → number_of a < 3
register_low a = grind arith

step_back : (s : Step) → lawful s ≡ true
    → by_kind (kind_numbered (kind_number (kind_of s))) (register_numbered (number_of (first_register s))) (register_numbered (number_of (second_register s))) true ≡ Ok s
step_back s law = grind arith

pub decode_encode : (s : Step) → lawful s ≡ true → decoded (encoded s) ≡ Ok s
decode_encode s law =
    let a = first_register s in
    let b = second_register s in
    fields (kind_number (kind_of s)) (number_of a) (number_of b) (register_low a) (register_low b) ∙ step_back s law

-- the parts that a step was read from
kind_told : (n : ℕ) (k : Kind) → kind_numbered n ≡ Some k → kind_number k ≡ n
kind_told n k e = grind (arith, nat_tests)

register_told : (n : ℕ) (a : Register) → register_numbered n ≡ Some a → number_of a ≡ n
register_told n a e = grind (arith, nat_tests)

by_test : (t : Bool) (x s : Step) → cond t (Ok x) (Err fault.Rule) ≡ Ok s → (t ≡ true) × (x ≡ s)
by_test t x s e = grind arith

parts : (k : Kind) (a b : Register) → allowed k a b ≡ true → (kind_of (step_of k a b) ≡ k) × (first_register (step_of k a b) ≡ a) × (second_register (step_of k a b) ≡ b)
parts k a b h = grind arith

read : (k : Option Kind) (a b : Option Register) (clear : Bool) (s : Step) → by_kind k a b clear ≡ Ok s
    → (k ≡ Some (kind_of s)) × (a ≡ Some (first_register s)) × (b ≡ Some (second_register s)) × (clear ≡ true) × (lawful s ≡ true)
read (Some k) (Some a) (Some b) true s e =
    let f = by_test (allowed k a b) (step_of k a b) s e in
    let p = parts k a b f.0 in
    (cc, cc, cc, refl, cc)
read (Some k) (Some a) (Some b) false s e = cc
read (Some k) (Some a) None clear s e = cc
read (Some k) None b clear s e = cc
read None a b clear s e = cc

pub encode_decode : (w : ℕ) (s : Step) → decoded w ≡ Ok s → (encoded s ≡ w) × (lawful s ≡ true)
encode_decode w s e =
    let (is_kind, is_first, is_second, clear, law) = read (kind_numbered (w / 2 ^ 28)) (register_numbered (w / 2 ^ 26 % 4)) (register_numbered (w / 2 ^ 24 % 4)) (eqb (w % 2 ^ 24) 0) s e in
    let k = kind_told (w / 2 ^ 28) (kind_of s) is_kind in
    let a = register_told (w / 2 ^ 26 % 4) (first_register s) is_first in
    let b = register_told (w / 2 ^ 24 % 4) (second_register s) is_second in
    (omega (arith, eqb-true (w % 2 ^ 24) 0 clear), law)
