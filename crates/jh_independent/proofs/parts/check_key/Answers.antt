use Rattle.std.proofs.Common.{◌≡◌, ◌∙◌, ap, sym, subst}
use Rattle.jh_edn.specs.View.{view}
use Rattle.jh_ops.specs.Operation.{operations}
use Rattle.jh_checkers.specs.Findings.{IsFinding, RefusesChecking}
use Rattle.jh_independent.specs.Keys.{history_of, places_of}
use Rattle.jh_independent.specs.PartsInside.{keys_error_of}
use Rattle.jh_independent.specs.Refusals.{RefusesKey, keys_question}
use Rattle.jh_independent.proofs.KeyHistoryLemmas.{key_refused}
use Rattle.jh_independent.proofs.parts.check_key.Goals as goal

pub returns-in-Ok-clause-judged : goal.returns-in-Ok-clause-judged
returns-in-Ok-clause-judged c =
    let whole = operations c.args.history.now in
    let key = view c.args.group.now.key in
    let part : operations c.deref.result.now ≡ history_of key whole = ap operations c.deref.ensures.value ∙ c.in_ok-part.ensures in
    subst (λ part. IsFinding c.args.judging part c.in-Ok.found) part c.in-Ok.ensures

pub returns-clause-judged : goal.returns-clause-judged
returns-clause-judged c =
    let whole = operations c.args.history.now in
    let key = view c.args.group.now.key in
    let part : operations c.deref.result.now ≡ history_of key whole = ap operations c.deref.ensures.value ∙ c.in_ok-part.ensures in
    let given : c.error_in.result ≡ keys_error_of (places_of key whole) c.in-Err.error =
    c.error_in.ensures ∙ ap (λ places. keys_error_of places c.in-Err.error) (c.deref-in-Err.ensures.value ∙ c.requires) in
    subst (RefusesKey (keys_question c.args.judging whole) key) (sym given)
    (key_refused (keys_question c.args.judging whole) key c.in-Err.error (subst (λ part. RefusesChecking c.args.judging.checker part c.in-Err.error) part c.in-Err.ensures))
