use Rattle.std.proofs.Common.{◌≡◌, ℤ, Option, Some, refl, rules, subst, of_z, to_z, w64}
use Rattle.jh_ops.specs.Operation.{operations}
use Rattle.jh_checkers.specs.Findings.{IsLinear, mutex_start}
use Rattle.jh_linear.specs.declared.operations.Object.TheVariants as Object
use Rattle.jh_checkers.proofs.register.check_mutex.Goals as goal

pub returns : goal.returns
returns c =
    let history = operations c.args.history.now in
    let judged = c.in_ok-judged.judged in
    let explanation = c.in_ok-judged.explanation in
    let same : Some (to_z w64 (of_z w64 c.mutex_start.result)) ≡ Some (mutex_start c.args.judging.locked) = search rules in
    let found = subst (λ (initial : Option ℤ). IsLinear Object.Mutex initial c.args.judging history judged explanation) same c.in_ok-judged.ensures in
    (judged, explanation, refl, found)
