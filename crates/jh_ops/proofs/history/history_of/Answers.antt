use Rattle.std.proofs.Common.{◌≡◌, ◌∷◌, length, ◌∙◌, ap, sym, rules}
use Rattle.std.specs.Vec.Iter.{into_iter_items}
use Rattle.std.proofs.lemmas.List.{length-map}
use Rattle.std.proofs.lemmas.Result.{err_from_is_err_and}
use Rattle.jh_edn.specs.View.{view, views}
use Rattle.jh_ops.specs.Operation.{operation, operations}
use Rattle.jh_ops.proofs.HistoryLemmas.{Parsed, memory_wanted, refused_parsed}
use Rattle.jh_ops.proofs.history.history_of.Goals as goal

pub returns-in_err-push-in-Ok-clause-parsed : goal.returns-in_err-push-in-Ok-clause-parsed
returns-in_err-push-in-Ok-clause-parsed c =
    let values = views c.args.values.items in
    let ops = operations c.loop-value.ops.items in
    let value = view c.in-Some.value in
    let rest = views (into_iter_items c.next.new.self) in
    let parsed : Parsed values ops (value ∷ rest) = rw (ap views c.in-Some.ensures.items) at c.loop-value.invariant.parsed in
    let p = err_from_is_err_and c.from_residual.result c.from_residual.ensures.1 in
    rw (p.1, p.2) (memory_wanted values ops value rest (operation c.in-Ok.op) parsed c.in-Ok.ensures.parsed)

pub returns-in-Err-clause-parsed : goal.returns-in-Err-clause-parsed
returns-in-Err-clause-parsed c =
    let values = views c.args.values.items in
    let ops = operations c.loop-value.ops.items in
    let value = view c.in-Some.value in
    let rest = views (into_iter_items c.next.new.self) in
    let parsed : Parsed values ops (value ∷ rest) = rw (ap views c.in-Some.ensures.items) at c.loop-value.invariant.parsed in
    let long : c.len.result ≡ length ops = (let own : c.len.result ≡ length c.loop-value.ops.items = search rules in own ∙ sym (length-map c.loop-value.ops.items operation)) in
    rw (c.refusal.ensures, long) (refused_parsed values ops value rest c.in-Err.error parsed c.in-Err.ensures.parsed)
