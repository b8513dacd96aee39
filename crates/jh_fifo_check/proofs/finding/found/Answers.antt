use Rattle.std.proofs.Common.{◌∙◌, List, ℕ, ap, subst}
use Rattle.jh_ops.specs.Operation.{operations}
use Rattle.jh_fifo.specs.Judged.{IsFifoVerdict}
use Rattle.jh_fifo.specs.declared.operations.FifoOp.{FifoOp}
use Rattle.jh_fifo_check.specs.FifoFindings.{IsNumberedVerdict}
use Rattle.jh_fifo_check.specs.FifoHistories.{fifo_ops_of}
use Rattle.jh_fifo_check.proofs.NamedLemmas.{named_low}
use Rattle.jh_fifo_check.proofs.finding.found.Goals as goal

pub shown-requires-clause-numbers : goal.shown-requires-clause-numbers
shown-requires-clause-numbers c =
    let history = operations c.args.history.now in
    let judged = c.in_ok-judged.judged in
    let same = c.deref-2.ensures.value ∙ c.in_ok-ops.ensures ∙ ap (fifo_ops_of history) (c.deref.ensures.value ∙ c.in_ok-kept.ensures) in
    let right = subst (λ (ops : List FifoOp). IsFifoVerdict ops judged) same c.in_ok-judged.ensures in
    let numbered = subst (λ (numbers : List ℕ). IsNumberedVerdict numbers judged c.in_ok-verdict.verdict) (c.deref-3.ensures.value ∙ c.in_ok-numbers.ensures) c.in_ok-verdict.ensures in
    named_low history c.args.pairs.now judged c.in_ok-verdict.verdict right numbered

pub returns : goal.returns
returns c =
    let history = operations c.args.history.now in
    let judged = c.in_ok-judged.judged in
    let same = c.deref-2.ensures.value ∙ c.in_ok-ops.ensures ∙ ap (fifo_ops_of history) (c.deref.ensures.value ∙ c.in_ok-kept.ensures) in
    let right = subst (λ (ops : List FifoOp). IsFifoVerdict ops judged) same c.in_ok-judged.ensures in
    let numbered = subst (λ (numbers : List ℕ). IsNumberedVerdict numbers judged c.in_ok-verdict.verdict) (c.deref-3.ensures.value ∙ c.in_ok-numbers.ensures) c.in_ok-verdict.ensures in
    (judged, right, numbered, c.in_ok-operations.ensures)
