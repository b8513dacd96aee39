use Rattle.std.proofs.Common.{◌≡◌, refl, sym, subst, rules, None}
use Rattle.jh_ops.specs.Operation.{operations}
use Rattle.jh_timeline_sections.specs.ShownKeysInside.{AreJoined}
use Rattle.jh_timeline_sections.specs.KeySections.{keys_found, unjudged_key}
use Rattle.jh_edn.specs.View.{view}
use Rattle.jh_timeline_sections.proofs.KeyLemmas.{keys_beside, none_unjudged, one_joined}
use Rattle.jh_timeline_sections.proofs.key_sections.unjudged_shown_keys.Goals as goal

pub loop-own-init : goal.loop-own-init
loop-own-init c =
    let history = operations c.args.history.now in
    let others = c.in_ok-histories.histories.items in
    let keys = keys_found history None in
    let all : c.into_iter-own-iterator.result.rest.items ≡ others = search rules in
    subst (λ rest. AreJoined history keys c.in_ok-shown.shown.items (keys_beside rest) rest) (sym all)
    (subst (λ shown. AreJoined history keys shown (keys_beside others) others) (sym c.in_ok-shown.ensures.items) (none_unjudged history others c.in_ok-histories.ensures.1))

pub loop-own-preserved : goal.loop-own-preserved
loop-own-preserved c =
    let history = operations c.args.history.now in
    let keys = keys_found history None in
    let own = c.in-Some.own in
    let rest = c.next.new.self.rest.items in
    subst (λ shown. AreJoined history keys shown (keys_beside rest) rest) (sym c.in_ok-push.ensures.items)
    (one_joined history keys c.loop-own.shown.items (unjudged_key (view own.key)) (keys_beside rest) own rest _
    (subst (λ rest. AreJoined history keys c.loop-own.shown.items (keys_beside rest) rest) c.in-Some.ensures.steps.0 c.loop-own.invariant) refl refl refl)
