use Rattle.std.proofs.Common.{◌≡◌, sym, subst, ap, rules}
use Rattle.jh_edn.specs.View.{view}
use Rattle.jh_ops.specs.Operation.{operations}
use Rattle.jh_independent.specs.SplitInside.{IsSplitSoFar}
use Rattle.jh_independent.proofs.HistoryLemmas.{first_cut, none_cut, one_more_cut}
use Rattle.jh_independent.proofs.histories.histories_by_key.Goals as goal

pub loop-group-init : goal.loop-group-init
loop-group-init c =
    let history = operations c.args.history.now in
    let groups = c.in_ok-groups.groups.items in
    let all : c.into_iter-group-iterator.result.rest.items ≡ groups = search rules in
    subst (λ rest. IsSplitSoFar history c.in_ok-parts.parts.items rest) (sym all)
    (subst (λ parts. IsSplitSoFar history parts groups) (sym c.in_ok-parts.ensures.items) (none_cut history groups c.in_ok-groups.ensures.1))

pub history_of-requires : goal.history_of-requires
history_of-requires c =
    let history = operations c.args.history.now in
    first_cut history c.loop-group.parts.items c.in-Some.group c.next.new.self.rest.items
    (subst (λ rest. IsSplitSoFar history c.loop-group.parts.items rest) c.in-Some.ensures.steps.0 c.loop-group.invariant)

pub loop-group-preserved : goal.loop-group-preserved
loop-group-preserved c =
    let history = operations c.args.history.now in
    let rest = c.next.new.self.rest.items in
    subst (λ parts. IsSplitSoFar history parts rest) (sym c.in_ok-push.ensures.items)
    (one_more_cut history c.loop-group.parts.items c.in-Some.group rest _
    (subst (λ rest. IsSplitSoFar history c.loop-group.parts.items rest) c.in-Some.ensures.steps.0 c.loop-group.invariant)
    (ap (λ own. (view c.in-Some.group.key, own)) c.in_ok-own.ensures))
