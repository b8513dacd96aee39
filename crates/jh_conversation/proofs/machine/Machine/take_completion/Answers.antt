use Rattle.std.proofs.Common.{◌≡◌, ap₂, sym, subst, OnOk, IfOk, false}
use Rattle.jh_ops.specs.Operation.{operation}
use Rattle.jh_conversation.specs.Lines.{take_completion}
use Rattle.jh_test_parts.specs.Test.{thread_of_process}
use Rattle.jh_conversation.specs.Machine.{caller_of, has_no_call}
use Rattle.jh_conversation.proofs.LineLemmas.{ended_open}
use Rattle.jh_conversation.proofs.machine.Machine.take_completion.Goals as goal

pub take_completion_of_thread-requires-clause-open : goal.take_completion_of_thread-requires-clause-open
take_completion_of_thread-requires-clause-open c =
    let t = c.args.test.now in
    let thread = thread_of_process t c.args.process in
    let call = (caller_of c.args.self.now thread).call in
    subst (λ n. IfOk c.in_ok-ended.ended (λ _. has_no_call (caller_of c.args.self.now n).call ≡ false)) (sym c.thread_of.ensures.thread)
    (subst (λ e. IfOk e (λ _. has_no_call call ≡ false)) (sym c.in_ok-ended.ensures) (ended_open t c.args.self.now c.args.process (operation c.args.op) call))

pub returns : goal.returns
returns c =
    let t = c.args.test.now in
    let m = c.args.self.now in
    let op = operation c.args.op in
    subst (λ x. OnOk c.take_completion_of_thread.result (c.take_completion_of_thread.new.self ≡ x))
    (ap₂ (λ n e. take_completion t n op c.args.time m e) c.thread_of.ensures.thread c.in_ok-ended.ensures)
    c.take_completion_of_thread.ensures
