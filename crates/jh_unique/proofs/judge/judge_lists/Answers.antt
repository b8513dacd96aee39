use Rattle.std.proofs.Common.{◌≡◌, ◌<◌, ℕ, [], true, length, sym, subst, ◌∙◌}
use Rattle.std.specs.List.{All}
use Rattle.jh_linear.specs.Order.{IsDone, has, StandBefore}
use Rattle.jh_unique.specs.Clusters.{IsPart, ReadsNil}
use Rattle.std.specs.Prelude.{◌⊎◌}
use Rattle.jh_unique.specs.LayoutInside.{IsMissingFrom}
use Rattle.jh_unique.specs.Lists.{members_in}
use Rattle.jh_unique.proofs.JudgeLemmas.{in_time, behind, missing, no_nil, flat_low}
use Rattle.jh_unique.proofs.judge.judge_lists.Goals as goal

pub find_missing-requires-clause-low : goal.find_missing-requires-clause-low
find_missing-requires-clause-low c =
    let ops = c.args.ops.now in
    let lists = c.requires.lists.1 in
    let f = c.in_ok-flat.ensures {u = tt} c.args.initial lists in
    subst (All (λ p. p < length ops)) (sym (c.as_slice.ensures.value ∙ f.2)) (flat_low ops c.args.initial c.requires.once c.requires.ends (members_in c.args.lists.now) lists f.0 f.1)

pub returns-in-Some : goal.returns-in-Some
returns-in-Some c =
    let ops = c.args.ops.now in
    let lists = c.requires.lists.1 in
    let f = c.in_ok-flat.ensures {u = tt} c.args.initial lists in
    let p = c.in-Some.number in
    let w = subst (IsMissingFrom ops c.as_slice.result.now) c.in-Some.is c.in_ok-missing.ensures in
    missing ops c.args.initial c.requires.once c.requires.ends (members_in c.args.lists.now) lists f.0 f.1 p w.0 (λ h. w.1 (subst (λ xs. has xs p ≡ true) (sym (c.as_slice.ensures.value ∙ f.2)) h)) w.2

pub returns-in-Some-find_late : goal.returns-in-Some-find_late
returns-in-Some-find_late c =
    let ops = c.args.ops.now in
    let lists = c.requires.lists.1 in
    let f = c.in_ok-flat.ensures {u = tt} c.args.initial lists in
    let w = c.in-Some-find_late.ensures {u = tt} in
    let first = c.in-Some-find_late.first in
    let second = c.in-Some-find_late.second in
    behind ops c.args.initial c.requires.once c.requires.ends (members_in c.args.lists.now) lists f.0 f.1 first second (subst (λ xs. StandBefore xs first second) (c.as_slice-2.ensures.value ∙ f.2) w.0) w.1

pub with_reads-requires-clause-part : goal.with_reads-requires-clause-part
with_reads-requires-clause-part c =
    let ops = c.args.ops.now in
    let lists = c.requires.lists.1 in
    let f = c.in_ok-flat.ensures {u = tt} c.args.initial lists in
    subst (IsPart ops c.args.initial) (sym (c.as_slice-3.ensures.value ∙ f.2)) (in_time ops c.args.initial c.requires.once c.requires.ends (members_in c.args.lists.now) lists f.0 f.1
    (λ a b h over. c.in_default-find_late.ensures a b (subst (λ xs. StandBefore xs a b) (sym (c.as_slice-2.ensures.value ∙ f.2)) h) over))

pub with_reads-requires-clause-none : goal.with_reads-requires-clause-none
with_reads-requires-clause-none c =
    let ops = c.args.ops.now in
    let lists = c.requires.lists.1 in
    let f = c.in_ok-flat.ensures {u = tt} c.args.initial lists in
    λ p h nil. no_nil ops c.args.initial c.requires.once c.requires.ends (members_in c.args.lists.now) lists f.0 f.1 p (subst (λ xs. has xs p ≡ true) (c.as_slice-3.ensures.value ∙ f.2) h) nil

pub with_reads-requires-clause-whole : goal.with_reads-requires-clause-whole
with_reads-requires-clause-whole c =
    let ops = c.args.ops.now in
    subst (λ xs. (p : ℕ) → IsDone ops p → (has xs p ≡ true) ⊎ ReadsNil ops p) (c.as_slice.ensures.value ∙ sym c.as_slice-3.ensures.value)
    (λ p done. subst (IsMissingFrom ops c.as_slice.result.now) c.in_default.is c.in_ok-missing.ensures p ([], done))
