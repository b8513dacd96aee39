use Rattle.std.proofs.Common.{◌≡◌, ◌+◌, ◌<◌, ◌%◌, false, ap, sym, ◌∙◌, subst, arith}
use Rattle.jh_simnode.specs.Running.{Asks, IsAsking}
use Rattle.jh_simnode.specs.declared.turns.Assignment.TheVariants as assignment
use Rattle.jh_simnode.proofs.AskLemmas.{may_ask}
use Rattle.jh_simnode.proofs.BetweenTurnsLemmas.{waited_stands, ended_stands, falls_waiting, falls_ending}
use Rattle.jh_simnode.proofs.turns.Run.take_turn.Goals as goal

pub ask-requires : goal.ask-requires
ask-requires c =
    let p = c.args.plan.now in
    let s = c.requires.settled in
    let r = s.stands.turns in
    let k = s.stands.keeps in
    let going : r.has_ended ≡ false = sym k.ended ∙ c.requires.going in
    let asking : IsAsking p r c.args.world.now.journal c.args.self.now c.next_thread-thread.result =
    record { keeps = k; going = going; turn = c.next_thread-thread.ensures.turn ∙ ap (λ n. n % p.clients) k.asks; within = c.journal-events.ensures.few } in
    let few = c.requires.patient in
    let crowd = c.requires.crowd in
    let waits : c.args.self.now.waits < 16 = omega (arith, few, crowd) in
    let bound = k.few going in
    let events = c.journal-events.ensures.few in
    let same = k.waits in
    let asked = k.asks in
    record {
      free = may_ask p r c.args.world.now.journal c.args.self.now c.next_thread-thread.result asking c.next_thread-thread.ensures.within;
      asks = omega (arith, waits, bound, events, same, asked);
      waits = waits;
    }

pub call-requires : goal.call-requires
call-requires c =
    let p = c.args.plan.now in
    let s = c.requires.settled in
    let r = s.stands.turns in
    let k = s.stands.keeps in
    let w = c.args.world.now in
    let going : r.has_ended ≡ false = sym k.ended ∙ c.requires.going in
    let turn = c.next_thread-thread.ensures.turn ∙ ap (λ n. n % p.clients) k.asks in
    let asking : IsAsking p r w.journal c.args.self.now c.next_thread-thread.result = record { keeps = k; going = going; turn = turn; within = c.journal-events.ensures.few } in
    let given : Asks p r w.journal (assignment.Calls c.in-Calls.process c.in-Calls.request) c.ask.new.self =
    subst (λ a. Asks p r w.journal a c.ask.new.self) c.in-Calls.is (c.ask.ensures r w.journal asking) in
    record {
      turns = r;
      path = given.0;
      settled = s.settled;
      quiet = s.stands.quiet;
      going = going;
      patient = (let few = c.requires.patient in let same = k.waits in omega (arith, few, same));
      led = s.stands.led;
      move = given.1;
      thread_is = turn;
      within = c.next_thread-thread.ensures.within;
      crowd = c.requires.crowd;
      process_is = given.2;
      has = given.3;
      legal = c.journal-events.ensures.legal;
      few = c.journal-events.ensures.few;
      few_asks = k.few going;
      setup = s.stands.setup;
    }

pub returns-in-Waits : goal.returns-in-Waits
returns-in-Waits c =
    let p = c.args.plan.now in
    let s = c.requires.settled in
    let r = s.stands.turns in
    let k = s.stands.keeps in
    let w = c.args.world.now in
    let going : r.has_ended ≡ false = sym k.ended ∙ c.requires.going in
    let patient : r.waits < p.clients = (let few = c.requires.patient in let same = k.waits in omega (arith, few, same)) in
    let asking : IsAsking p r w.journal c.args.self.now c.next_thread-thread.result =
    record { keeps = k; going = going; turn = c.next_thread-thread.ensures.turn ∙ ap (λ n. n % p.clients) k.asks; within = c.journal-events.ensures.few } in
    let given : Asks p r w.journal assignment.Waits c.ask.new.self = subst (λ a. Asks p r w.journal a c.ask.new.self) c.in-Waits.is (c.ask.ensures r w.journal asking) in
    let after = given.1 in
    record {
      stands = waited_stands p c.args.self.now c.ask.new.self w s going patient given;
      falls = falls_waiting c.args.self.now c.ask.new.self w (after.waits ∙ ap (λ n. n + 1) (sym k.waits)) (after.ended ∙ sym k.ended)
          (let few = c.requires.patient in let crowd = c.requires.crowd in omega (arith, few, crowd));
      stopped = tt;
    }

pub returns-in-Ends : goal.returns-in-Ends
returns-in-Ends c =
    let p = c.args.plan.now in
    let s = c.requires.settled in
    let r = s.stands.turns in
    let k = s.stands.keeps in
    let w = c.args.world.now in
    let going : r.has_ended ≡ false = sym k.ended ∙ c.requires.going in
    let patient : r.waits < p.clients = (let few = c.requires.patient in let same = k.waits in omega (arith, few, same)) in
    let asking : IsAsking p r w.journal c.args.self.now c.next_thread-thread.result =
    record { keeps = k; going = going; turn = c.next_thread-thread.ensures.turn ∙ ap (λ n. n % p.clients) k.asks; within = c.journal-events.ensures.few } in
    let given : Asks p r w.journal assignment.Ends c.ask.new.self = subst (λ a. Asks p r w.journal a c.ask.new.self) c.in-Ends.is (c.ask.ensures r w.journal asking) in
    let after = given.1 in
    record {
      stands = ended_stands p c.args.self.now c.ask.new.self w s going patient given;
      falls = falls_ending c.args.self.now c.ask.new.self w (after.waits ∙ sym k.waits) after.ended c.requires.going;
      stopped = tt;
    }
