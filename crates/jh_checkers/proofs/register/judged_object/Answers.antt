use Rattle.std.proofs.Common.{◌<◌, ℕ, List, inr, subst, sym, rules}
use Rattle.std.proofs.lemmas.Result.{err_from_is_err_and}
use Rattle.std.proofs.lemmas.List.{length-map}
use Rattle.jh_ops.specs.Operation.{operation, operations}
use Rattle.jh_linear.specs.Verdict.{HaveNoOrder, IsJudged}
use Rattle.jh_linear.specs.declared.register.RegOp.{RegOp}
use Rattle.jh_linear.specs.declared.verdict.LinVerdict.TheVariants.{Invalid}
use Rattle.jh_checkers.specs.Findings.{AreObjectOps}
use Rattle.jh_ops.specs.Pairing.{history_pairs}
use Rattle.jh_checkers.proofs.RefusalLemmas.{none_bad}
use Rattle.jh_checkers.proofs.StuckLemmas.{stuck_within}
use Rattle.jh_checkers.proofs.register.judged_object.Goals as goal

pub explained-requires-clause-within : goal.explained-requires-clause-within
explained-requires-clause-within c = λ stuck is.
    let history = operations c.args.history.now in
    let ops = c.in-Ok.ops.items in
    let initial = c.args.initial in
    let are : AreObjectOps c.args.object history ops = search rules in
    let judged : IsJudged ops initial c.args.judging.budget (Invalid stuck) =
    subst (IsJudged ops initial c.args.judging.budget) is (rw c.deref-2.ensures.value at c.in_ok-judged.ensures.judged) in
    subst (λ (count : ℕ). stuck.end < count) (length-map c.args.history.now operation) (stuck_within c.args.object history ops initial stuck are judged.2)

pub explained-requires-clause-none : goal.explained-requires-clause-none
explained-requires-clause-none c = λ stuck is.
    let ops = c.in-Ok.ops.items in
    let initial = c.args.initial in
    let judged : IsJudged ops initial c.args.judging.budget (Invalid stuck) =
    subst (IsJudged ops initial c.args.judging.budget) is (rw c.deref-2.ensures.value at c.in_ok-judged.ensures.judged) in
    subst (λ (found : List RegOp). HaveNoOrder found initial) (sym c.deref-3.ensures.value) judged.1

-- memory can run out where each pair stands for an operation
pub returns-in_err-judged : goal.returns-in_err-judged
returns-in_err-judged c =
    let history = operations c.args.history.now in
    let are : AreObjectOps c.args.object history c.in-Ok.ops.items = search rules in
    let p = err_from_is_err_and c.from_residual-in_err-judged.result c.from_residual-in_err-judged.ensures.1 in
    rw (p.1, p.2) (inr (are.0, none_bad c.args.object history (history_pairs history) c.in-Ok.ops.items are.1))

pub returns-in_err-explanation : goal.returns-in_err-explanation
returns-in_err-explanation c =
    let history = operations c.args.history.now in
    let are : AreObjectOps c.args.object history c.in-Ok.ops.items = search rules in
    let p = err_from_is_err_and c.from_residual-in_err-explanation.result c.from_residual-in_err-explanation.ensures.1 in
    rw (p.1, p.2) (inr (are.0, none_bad c.args.object history (history_pairs history) c.in-Ok.ops.items are.1))
