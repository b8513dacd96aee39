-- What comes of asking the driver.
use Rattle.std.proofs.Common.{◌≡◌, ℕ, cond, ◌+◌, ◌<◌, ◌≤◌, Bool, true, false, List, length, set, ap, ap₂, sym, ◌∙◌, arith, subst, count_by}
use Rattle.std.specs.Prelude.{Some, None, slice_index, slice_index_or}
use Rattle.std.proofs.lemmas.List.Sums.{count_by-le-length}
use Rattle.rand_pcg.specs.Lcg.{Lcg}
use Rattle.rand_pcg.specs.Pcg.{pcg64}
use Rattle.jh_ops.specs.declared.call.Request.{Request}
use Rattle.jh_ops.specs.declared.call.Call.TheVariants as call
use Rattle.jh_ops.specs.declared.operation.Process.{Process}
use Rattle.jh_gen.specs.Trace.{Path}
use Rattle.jh_gen.specs.Scope.{Question}
use Rattle.jh_gen.specs.Offers.{Offer, offer, is_exhausted}
use Rattle.jh_gen.specs.DriverState.{Answers, DriverState, MayAsk, RefusesAsking, all_threads, question_by}
use Rattle.jh_gen.specs.declared.answers.Thread.TheVariants as thread
use Rattle.jh_gen.specs.declared.answers.Thread.{Thread}
use Rattle.jh_gen.specs.declared.answers.GenAnswer.TheVariants as answer
use Rattle.jh_gen.specs.declared.answers.GenError.{GenError}
use Rattle.jh_gen.specs.declared.answers.GenError.TheVariants.{NoSuchThread, BusyThread, TooManyOps, NothingOpen}
use Rattle.jh_simnode.specs.declared.events.Event.{Event}
use Rattle.jh_simnode.specs.declared.turns.Assignment.TheVariants as assignment
use Rattle.jh_simnode.specs.declared.turns.Run.{Run}
use Rattle.jh_simnode.specs.Counts.{answered_count, is_call, process_after}
use Rattle.jh_simnode.specs.Plans.{PlanValue}
use Rattle.jh_simnode.specs.Runs.{Turns, ask_move, move_offered, turn_question, run_generator, thread_of, turns_after_wait, random_numbers_after, run_stream, numbers_taken}
use Rattle.jh_simnode.specs.Runs.Move.{Ends}
use Rattle.jh_simnode.specs.Running.{Asks, IsAsking, Keeps, process_number}
use Rattle.jh_simnode.proofs.TurnLemmas.{all_false, ends_on, next_numbers, waits_on}

-- a driver that may be asked by a thread doesn't refuse
pub never_refuses : (d : DriverState) (x : Thread) (e : GenError) → MayAsk d x → RefusesAsking d x e → ⊥
never_refuses d x NoSuchThread may refused = (let known = may.0 in omega (arith, refused, known))
never_refuses d x BusyThread may refused = (let same : true ≡ false = sym refused.1 ∙ may.1 in cc same)
never_refuses d x TooManyOps may refused = (let few = may.2 in let many = refused.2 in omega (arith, few, many))
never_refuses d x NothingOpen may refused = refused

-- the driver of a run may be asked by each of its threads
pub may_ask : (p : PlanValue) (r : Turns) (journal : List Event) (run : Run) (t : ℕ) → IsAsking p r journal run t → t < p.clients → MayAsk run.driver (thread.Client t)
may_ask p r journal run t i below =
    let d = i.keeps.driver i.going in
    let known : t + 1 ≤ run.driver.clients = (let same = d.clients in omega (arith, same)) in
    let free : slice_index_or run.driver.busy (t + 1) false ≡ false = ap (λ l. slice_index_or l (t + 1) false) d.idle ∙ all_false (p.clients + 1) (t + 1) in
    let few : count_by is_call journal ≤ length journal = count_by-le-length is_call journal in
    let given : run.driver.given ≡ answered_count journal = d.stands.count ∙ d.given in
    let within = i.within in
    (known, free, omega (arith, few, given, within))

-- the random number and the generator after it, from one step of the source
pub random_number_is : (g g' : Lcg) (w : ℕ) → (w, g') ≡ pcg64 g → w ≡ (pcg64 g).0
random_number_is g g' w h = ap (λ x. x.0) h

pub random_numbers_are : (g g' : Lcg) (w : ℕ) → (w, g') ≡ pcg64 g → g' ≡ (pcg64 g).1
random_numbers_are g g' w h = ap (λ x. x.1) h

module _ (p : PlanValue) (r : Turns) (journal : List Event) (run : Run) (t random_number : ℕ) (random_numbers : Lcg) (i : IsAsking p r journal run t) (next : (random_number, random_numbers) ≡ pcg64 run.random_numbers) where
  asked_is : question_by run.driver (thread.Client t) random_number ≡ turn_question p r journal
  asked_is =
      let d = i.keeps.driver i.going in
      let asker : t + 1 ≡ thread_of p r + 1 = ap (λ n. n + 1) i.turn in
      let same_random_number : random_number ≡ (pcg64 (random_numbers_after run_stream p.seed (numbers_taken r journal))).0 = random_number_is run.random_numbers random_numbers random_number next ∙ ap (λ (g : Lcg). (pcg64 g).0) i.keeps.random_numbers in
      ap₂ (λ s w. let q : Question = record { asker = s; random_number = w; busy = run.driver.busy } in q) asker same_random_number
      ∙ ap (λ b. let q : Question = record { asker = thread_of p r + 1; random_number = (pcg64 (random_numbers_after run_stream p.seed (numbers_taken r journal))).0; busy = b } in q) d.idle

  spent_is : (b : Bool) → is_exhausted (run_generator p) r.trace (all_threads run.driver.clients) ≡ b → is_exhausted (run_generator p) r.trace (all_threads p.clients) ≡ b
  spent_is b h = subst (λ n. is_exhausted (run_generator p) r.trace (all_threads n) ≡ b) (i.keeps.driver i.going).clients h

  offer_is : (o : Offer) → offer (run_generator p) r.trace (all_threads run.driver.clients) (question_by run.driver (thread.Client t) random_number) ≡ o
      → offer (run_generator p) r.trace (all_threads p.clients) (turn_question p r journal) ≡ o
  offer_is o h =
      subst (λ n. offer (run_generator p) r.trace (all_threads n) (turn_question p r journal) ≡ o) (i.keeps.driver i.going).clients
      (subst (λ q. offer (run_generator p) r.trace (all_threads run.driver.clients) q ≡ o) asked_is h)

  goes_by : (o : Offer) → is_exhausted (run_generator p) r.trace (all_threads run.driver.clients) ≡ false
      → offer (run_generator p) r.trace (all_threads run.driver.clients) (question_by run.driver (thread.Client t) random_number) ≡ o → ask_move p r journal ≡ move_offered o
  goes_by o unspent h =
      ap (λ b. cond b Ends (move_offered (offer (run_generator p) r.trace (all_threads p.clients) (turn_question p r journal)))) (spent_is false unspent) ∙ ap move_offered (offer_is o h)

  pub asks_done : (d' : DriverState) → Answers (run_generator p) r.trace run.driver (thread.Client t) random_number answer.Done d'
      → Asks p r journal assignment.Ends (record run { driver = d'; random_numbers = random_numbers; asks = run.asks + 1; has_ended = true })
  asks_done d' h = (ap (λ b. cond b Ends (move_offered (offer (run_generator p) r.trace (all_threads p.clients) (turn_question p r journal)))) (spent_is true h.0), ends_on p r journal run d' random_numbers i.keeps (random_numbers_are run.random_numbers random_numbers random_number next))

  pub asks_step : (d' : DriverState) (x : Process) (entry : ℕ) → Answers (run_generator p) r.trace run.driver (thread.Client t) random_number (answer.Call x (call.Step entry)) d'
      → Asks p r journal assignment.Ends (record run { driver = d'; random_numbers = random_numbers; asks = run.asks + 1; has_ended = true })
  asks_step d' x entry h = (goes_by (Some (h.2, call.Step entry)) h.0 h.3, ends_on p r journal run d' random_numbers i.keeps (random_numbers_are run.random_numbers random_numbers random_number next))

  pub asks_pending : (d' : DriverState) → Answers (run_generator p) r.trace run.driver (thread.Client t) random_number answer.Pending d'
      → Asks p r journal assignment.Waits (record run { driver = d'; random_numbers = random_numbers; asks = run.asks + 1; waits = run.waits + 1 })
  asks_pending d' h = (
    goes_by None h.0 h.1,
    subst (λ (d : DriverState). Keeps p (turns_after_wait r) journal (record run { driver = d; random_numbers = random_numbers; asks = run.asks + 1; waits = run.waits + 1 })) (sym h.2)
        (waits_on p r journal run random_numbers i.keeps (random_numbers_are run.random_numbers random_numbers random_number next)),
  )

  pub asks_call : (d' : DriverState) (x : Process) (request : Request) → t < p.clients
      → Answers (run_generator p) r.trace run.driver (thread.Client t) random_number (answer.Call x (call.Client request)) d'
      → Asks p r journal (assignment.Calls (process_number x) request) (record run { driver = d'; random_numbers = random_numbers; asks = run.asks + 1 })
  asks_call d' x request below h =
      let d = i.keeps.driver i.going in
      let path : Path = h.2 in
      let gives = h.4 in
      let k = i.keeps in (
        path,
        goes_by (Some (path, call.Client request)) h.0 h.3,
        ap process_number h.1 ∙ d.processes t below ∙ ap (λ u. process_after p.clients u journal) i.turn,
        record {
          stands = gives.stands;
          clients = gives.clients ∙ d.clients;
          busy = gives.busy ∙ ap₂ (λ l s. set l s true) d.idle (ap (λ n. n + 1) i.turn);
          long = ap length gives.processes ∙ d.long;
          processes = λ u small. ap (λ l. slice_index l (u + 1)) gives.processes ∙ d.processes u small;
          given = d.given;
          random_numbers = random_numbers_are run.random_numbers random_numbers random_number next ∙ ap (λ (g : Lcg). (pcg64 g).1) k.random_numbers ∙ next_numbers p.seed (numbers_taken r journal);
          counts = record { long = k.counts.long; calls = k.counts.calls; answered = k.counts.answered; applied = k.counts.applied };
          asks = ap (λ n. n + 1) k.asks;
          ended = k.ended;
        },
      )
