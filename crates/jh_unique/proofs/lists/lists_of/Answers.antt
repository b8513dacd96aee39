use Rattle.std.proofs.Common.{◌≡◌, ◌+◌, ◌<◌, ℕ, length, ◌∷◌, [], sym, ap, subst, ◌∙◌, arith}
use Rattle.std.proofs.lemmas.List.{length-append}
use Rattle.jh_unique.specs.Steps.{IsClusterList}
use Rattle.jh_unique.specs.Lists.{members_in}
use Rattle.jh_unique.proofs.ListsLemmas.{lists_more, lists_all}
use Rattle.jh_unique.proofs.lists.lists_of.Goals as goal

pub loop-number-preserved : goal.loop-number-preserved
loop-number-preserved c =
    let ops = c.args.ops.now in
    let initial = c.args.initial in
    let l = c.loop-number in
    let v = c.in_ok-list.list in
    let is = c.in_ok-push-2.ensures.items in
    record {
      count = ap length is ∙ length-append l.lists.items (v ∷ []) ∙ ap (λ n. n + 1) l.invariant.count;
      each = λ k low. subst (λ xs. IsClusterList ops initial k (members_in xs k)) (sym is) (lists_more ops initial (l.number + 1) l.lists.items v l.invariant.count l.invariant.each c.in_ok-list.ensures k low);
    }

pub returns : goal.returns
returns c =
    let ops = c.args.ops.now in
    let end : c.loop-number.number ≡ length ops = omega arith in
    let long : length c.loop-number.lists.items ≡ length ops + 1 = c.loop-number.invariant.count ∙ ap (λ n. n + 1) end in
    (long, lists_all ops c.args.initial c.requires.once c.loop-number.lists.items long (subst (λ n. (k : ℕ) → k < n + 1 → IsClusterList ops c.args.initial k (members_in c.loop-number.lists.items k)) end c.loop-number.invariant.each))
