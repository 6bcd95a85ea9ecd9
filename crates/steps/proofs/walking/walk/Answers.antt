use Rattle.std.proofs.Common.{◌≡◌, ◌+◌, ◌^◌, ◌≤◌, false, take, sym, ◌∙◌, subst, arith, rules}
use Rattle.std.proofs.lemmas.List.{take_all}
use Rattle.std.proofs.lemmas.Result.{err_from_is_err_and}
use Rattle.steps.specs.Sets.{members}
use Rattle.steps.specs.Steps.{inverts}
use Rattle.steps.specs.Columns.{opened, peak}
use Rattle.steps.proofs.Growth.{grown_all}
use Rattle.steps.proofs.Plans.{plan_inverts, plan_length}
use Rattle.steps.proofs.Walked.{grows_some, grows_none, overflow_is, walk_more, walk_over, walked, overflows}
use Rattle.steps.proofs.walking.walk.Goals as goal

pub returns-then-has_invert : goal.returns-then-has_invert
returns-then-has_invert c =
    let a = c.in_ok-judge.ensures in
    record {
      steps = a.steps;
      full = members c.in_ok-judge.field-0.full;
      plan = a.plan;
      some_invert = sym (plan_inverts c.args.words.now a.steps a.plan.words) ∙ sym c.if-has_invert.ensures;
    }

pub returns-in_err-entries : goal.returns-in_err-entries
returns-in_err-entries c =
    let a = c.in_ok-judge.ensures in
    let ws = c.args.words.now in
    let i = c.loop-word.word-index in
    let plain : inverts a.steps ≡ false = sym (plan_inverts ws a.steps a.plan.words) ∙ sym c.if-has_invert.ensures in
    let over = walk_over ws a.steps a.plan.words i c.loop-word-test.true c.loop-word.entries c.opening_entries-entries.result (c.loop-word.invariant.0 a.steps a.plan.words)
    (λ x d. grows_none c.entries_after_word.result c.in_err-entries.ensures.ok_part x c.loop-word.entries (c.entries_after_word.ensures x d)) in
    let p = err_from_is_err_and c.from_residual-in_err-entries.result c.from_residual-in_err-entries.ensures.1 in
    let none = c.in_err-entries.ensures.ok_part in
    let fault = p.2 ∙ overflow_is c.entries_after_word.result c.in_err-entries.field-0.0 none c.in_err-entries.ensures.value in
    rw (p.1, fault)
    (overflows (members c.args.start) (members c.in_ok-judge.field-0.full) c.args.column ws a.steps a.plan plain (i + 1)
    (subst (λ v. 2 ^ 64 ≤ peak (grown_all (take (i + 1) a.steps) v)) c.opening_entries-entries.ensures over))

pub loop-word-preserved : goal.loop-word-preserved
loop-word-preserved c = (
  λ ss e.
      walk_more c.args.words.now ss e c.loop-word.word-index c.loop-word-test.true c.loop-word.entries c.opening_entries-entries.result (c.loop-word.invariant.0 ss e) c.in_ok-entries.entries
      (λ x d. grows_some c.entries_after_word.result c.in_ok-entries.entries c.in_ok-entries.ensures.ok_part x c.loop-word.entries (c.entries_after_word.ensures x d)),
  search rules,
)

pub returns : goal.returns
returns c =
    let a = c.in_ok-judge.ensures in
    let ws = c.args.words.now in
    let plain : inverts a.steps ≡ false = sym (plan_inverts ws a.steps a.plan.words) ∙ sym c.if-has_invert.ensures in
    let all = take_all c.loop-word.word-index a.steps (omega (arith, plan_length ws a.steps a.plan.words)) in
    let whole : c.loop-word.entries ≡ grown_all a.steps (opened (members c.args.start) c.args.column) =
    c.loop-word.invariant.0 a.steps a.plan.words ∙ (λ i. grown_all (all i) (c.opening_entries-entries.ensures i)) in
    walked (members c.args.start) (members c.in_ok-judge.field-0.full) c.args.column ws a.steps a.plan plain c.loop-word.entries whole c.loop-word.invariant.1
