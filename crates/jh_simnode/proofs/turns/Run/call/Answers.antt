use Rattle.std.proofs.Common.{◌≡◌, ◌≤◌, ◌<◌, ◌+◌, length, set, slice_index, ap, ◌∙◌, arith, rules}
use Rattle.std.proofs.lemmas.List.Sums.{count_by-le-length}
use Rattle.jh_gen.specs.DriverState.{driver_after_end}
use Rattle.jh_gen.specs.declared.answers.Thread.TheVariants as thread
use Rattle.jh_simnode.specs.Counts.{is_call_by}
use Rattle.jh_simnode.proofs.BetweenTurnsLemmas.{called_on}
use Rattle.jh_simnode.proofs.TurnLemmas.{any_default}
use Rattle.jh_simnode.proofs.turns.Run.call.Goals as goal

pub overflow_add-index_mut : goal.overflow_add-index_mut
overflow_add-index_mut c =
    let m = c.requires in
    let xs = c.args.self.now.calls.items in
    let t = c.args.thread in
    let within : t < length xs = (let long = m.has.counts.long in let below = m.within in omega (arith, long, below)) in
    let made = c.index_mut.ensures.value ∙ any_default xs t c.index_mut.result.now 0 within ∙ m.has.counts.calls t m.within in
    let bound = count_by-le-length (is_call_by c.args.plan.now.clients t) c.args.world.now.journal in
    let few = m.few in
    let small : c.index_mut.result.now ≤ 65536 = omega (arith, made, bound, few) in
    search rules

pub returns-clause-called : goal.returns-clause-called
returns-clause-called c =
    let m = c.requires in
    let run = c.args.self.now in
    let xs = run.calls.items in
    let t = c.args.thread in
    let within : t < length xs = (let long = m.has.counts.long in let below = m.within in omega (arith, long, below)) in
    let made : c.index_mut.result.now ≡ slice_index xs t = c.index_mut.ensures.value ∙ any_default xs t c.index_mut.result.now 0 within in
    called_on c.args.plan.now run c.args.world.now c.call.new.self t c.args.process c.args.request c.node_of.result c.next_word-draw.result c.in_ok-reply.field-0-0 c.in_ok-reply.reply c.complete.new.self c.next_word-draw.new.self _
    m c.node_of.ensures.node c.next_word-draw.ensures c.in_ok-reply.ensures.added (c.in-Ok.ensures.ended ∙ ap (λ e. driver_after_end run.driver (thread.Client t) e) c.reply_ending.ensures)
    (ap (λ x. set xs t (x + 1)) made)
