use Rattle.std.proofs.Common.{◌≡◌, refl, sym, ap, ap₂, ◌∙◌, subst, ◌≤◌, ◌+◌, set, true, arith, rules}
use Rattle.std.specs.Prelude.{None}
use Rattle.jh_gen.specs.Generator.{Generator}
use Rattle.jh_gen.specs.Trace.{Trace}
use Rattle.jh_gen.specs.Scope.{Question}
use Rattle.jh_gen.specs.State.{taking, taken_call, rest_of}
use Rattle.jh_gen.specs.NodeView.{node_state}
use Rattle.jh_gen.specs.DriverState.{DriverState, IsDriverOf, Answers, thread_number, question_by, next_process}
use Rattle.jh_gen.specs.DriverInside.{driver_state}
use Rattle.jh_gen.specs.declared.answers.GenAnswer.TheVariants as answer
use Rattle.jh_gen.proofs.DriverLemmas.{answers_done, answers_pending, Gave, answers_call}
use Rattle.jh_gen.proofs.RowLemmas.{none_call}
use Rattle.jh_gen.proofs.driver.Driver.ask.Goals as goal

pub returns-then-is_done-clause-answered : goal.returns-then-is_done-clause-answered
returns-then-is_done-clause-answered c =
    subst (λ e. (g : Generator) (t : Trace) → IsDriverOf e g t → Answers g t e c.args.thread c.args.random_number answer.Done e) c.self.view_is
    (answers_done (driver_state c.self.inside) c.args.thread c.args.random_number (sym c.if-is_done.ensures))

pub returns-in_default-clause-answered : goal.returns-in_default-clause-answered
returns-in_default-clause-answered c =
    let d = driver_state c.self.inside in
    let known : thread_number c.args.thread ≤ d.clients = omega (arith, c.number_of-number.ensures) in
    let read : Question = record { asker = c.number_of-number.result; random_number = c.args.random_number; busy = c.as_slice.result.now } in
    let asked : read ≡ question_by d c.args.thread c.args.random_number =
    ap₂ (λ s b. let q : Question = record { asker = s; random_number = c.args.random_number; busy = b } in q) c.number_of-number.ensures c.as_slice.ensures.value in
    let none : taking d.state read ≡ None = none_call (taking d.state read) (sym c.in_default.is ∙ c.take.ensures.call) in
    let kept : node_state c.take.new.self ≡ d.state = c.take.ensures.rest ∙ ap (rest_of d.state) none in
    subst (λ e. (g : Generator) (t : Trace) → IsDriverOf e g t → Answers g t e c.args.thread c.args.random_number answer.Pending (record d { state = node_state c.take.new.self })) c.self.view_is
    (answers_pending d (record d { state = node_state c.take.new.self }) c.args.thread c.args.random_number known (sym c.if-is_done.ensures)
    (ap (λ q. taken_call (taking d.state q)) (sym asked) ∙ ap taken_call none)
    (ap (λ s. let e : DriverState = record d { state = s } in e) kept))

pub returns-clause-answered : goal.returns-clause-answered
returns-clause-answered c =
    let d = driver_state c.self.inside in
    let known : thread_number c.args.thread ≤ d.clients = omega (arith, c.number_of-number.ensures) in
    let read : Question = record { asker = c.number_of-number.result; random_number = c.args.random_number; busy = c.as_slice.result.now } in
    let asked : read ≡ question_by d c.args.thread c.args.random_number =
    ap₂ (λ s b. let q : Question = record { asker = s; random_number = c.args.random_number; busy = b } in q) c.number_of-number.ensures c.as_slice.ensures.value in
    let e : DriverState = record {
      clients = d.clients;
      state = node_state c.take.new.self;
      given = d.given + 1;
      busy = set d.busy c.number_of-number.result true;
      processes = d.processes;
    } in
    let process : c.process_in-process.result ≡ next_process d c.args.thread = search rules in
    let gave : Gave d e c.args.thread c.args.random_number c.process_in-process.result c.in-Some.call = record {
      known = known;
      unspent = sym c.if-is_done.ensures;
      call = ap (λ q. taken_call (taking d.state q)) (sym asked) ∙ sym c.take.ensures.call ∙ c.in-Some.is;
      rest = c.take.ensures.rest ∙ ap (λ q. rest_of d.state (taking d.state q)) asked;
      given = refl;
      clients = refl;
      busy = ap (λ k. set d.busy k true) c.number_of-number.ensures;
      processes = refl;
      process = process;
    } in
    subst (λ f. (g : Generator) (t : Trace) → IsDriverOf f g t → Answers g t f c.args.thread c.args.random_number (answer.Call c.process_in-process.result c.in-Some.call) e) c.self.view_is
    (answers_call d e c.args.thread c.args.random_number c.process_in-process.result c.in-Some.call gave)
