use Rattle.std.proofs.Common.{◌+◌, ◌<◌, ap, ◌∙◌, sym, subst, arith}
use Rattle.jh_gen.specs.DriverState.{Answers}
use Rattle.jh_gen.specs.declared.answers.Thread.TheVariants as thread
use Rattle.jh_gen.specs.declared.answers.GenAnswer.TheVariants as answer
use Rattle.jh_simnode.specs.declared.turns.Assignment.TheVariants as assignment
use Rattle.jh_simnode.specs.Running.{Asks}
use Rattle.jh_simnode.specs.Runs.{run_generator}
use Rattle.jh_simnode.proofs.AskLemmas.{asks_call, asks_step, asks_pending, asks_done}
use Rattle.jh_simnode.proofs.turns.Run.ask.Goals as goal

pub returns-in-Ok-Call-default-Client : goal.returns-in-Ok-Call-default-Client
returns-in-Ok-Call-default-Client c r journal i =
    let run = c.args.self.now in
    let p = c.args.plan.now in
    let d = i.keeps.driver i.going in
    let below : c.args.thread < p.clients = (let known = c.requires.free.0 in let same = d.clients in omega (arith, known, same)) in
    let given = c.in-Ok-Call-default-Client.ensures.answered (run_generator p) r.trace d.stands in
    let call = c.in-Ok-Call-default-Client.field-0-is ∙ ap (answer.Call c.in-Ok-Call-default-Client.process) c.in-Ok-Call-default-Client.field-0-1-is in
    subst (λ n. Asks p r journal (assignment.Calls n c.in-Ok-Call-default-Client.request) (record run { driver = c.ask.new.self; random_numbers = c.next_word-random_number.new.self; asks = run.asks + 1 })) (sym c.number_of.ensures)
    (asks_call p r journal run c.args.thread c.next_word-random_number.result c.next_word-random_number.new.self i c.next_word-random_number.ensures c.ask.new.self c.in-Ok-Call-default-Client.process c.in-Ok-Call-default-Client.request below
    (subst (λ a. Answers (run_generator p) r.trace run.driver (thread.Client c.args.thread) c.next_word-random_number.result a c.ask.new.self) call given))

pub returns-in-Ok-Call-default-Step : goal.returns-in-Ok-Call-default-Step
returns-in-Ok-Call-default-Step c r journal i =
    let run = c.args.self.now in
    let p = c.args.plan.now in
    let w = c.in-Ok-Call-default-Step in
    let given = w.ensures.answered (run_generator p) r.trace (i.keeps.driver i.going).stands in
    let call = w.field-0-is ∙ ap (answer.Call w.field-0-0) w.field-0-1-is in
    asks_step p r journal run c.args.thread c.next_word-random_number.result c.next_word-random_number.new.self i c.next_word-random_number.ensures c.ask.new.self w.field-0-0 w.field-0-1-0
    (subst (λ a. Answers (run_generator p) r.trace run.driver (thread.Client c.args.thread) c.next_word-random_number.result a c.ask.new.self) call given)

pub returns-in-Ok-Pending : goal.returns-in-Ok-Pending
returns-in-Ok-Pending c r journal i =
    let run = c.args.self.now in
    let p = c.args.plan.now in
    let given = c.in-Ok-Pending.ensures.answered (run_generator p) r.trace (i.keeps.driver i.going).stands in
    asks_pending p r journal run c.args.thread c.next_word-random_number.result c.next_word-random_number.new.self i c.next_word-random_number.ensures c.ask.new.self
    (subst (λ a. Answers (run_generator p) r.trace run.driver (thread.Client c.args.thread) c.next_word-random_number.result a c.ask.new.self) c.in-Ok-Pending.field-0-is given)

pub returns-in-Ok-Done : goal.returns-in-Ok-Done
returns-in-Ok-Done c r journal i =
    let run = c.args.self.now in
    let p = c.args.plan.now in
    let given = c.in-Ok-Done.ensures.answered (run_generator p) r.trace (i.keeps.driver i.going).stands in
    asks_done p r journal run c.args.thread c.next_word-random_number.result c.next_word-random_number.new.self i c.next_word-random_number.ensures c.ask.new.self
    (subst (λ a. Answers (run_generator p) r.trace run.driver (thread.Client c.args.thread) c.next_word-random_number.result a c.ask.new.self) c.in-Ok-Done.field-0-is given)
