-- What the call of a run comes from: its generator offered it.
use Rattle.std.proofs.Common.{◌≡◌, Bool, true, false, List, Option, Some, None}
use Rattle.std.specs.Prelude.{if◌then◌else◌, slice_get}
use Rattle.jh_ops.specs.declared.call.Call.TheVariants.{Client, Step}
use Rattle.jh_ops.specs.declared.call.Request.{Request}
use Rattle.jh_gen.specs.DriverState.{all_threads}
use Rattle.jh_gen.specs.Offers.{Offer, offer, is_exhausted}
use Rattle.jh_gen.specs.Trace.{Path}
use Rattle.jh_simnode.specs.declared.events.Event.{Event}
use Rattle.jh_simnode.specs.declared.schedule.Entry.{Entry}
use Rattle.jh_simnode.specs.Counts.{applied_count, last_event}
use Rattle.jh_simnode.specs.Plans.{PlanValue}
use Rattle.jh_simnode.specs.Runs.{Turns, Move, ask_move, entry_move, is_due, move_of, move_offered, turn_question, run_generator, ticks_after, turn_move}
use Rattle.jh_simnode.specs.Runs.Move.{Ticks, Applies, Calls, Ends, Rests}

else_is : (b : Bool) (x y : Move) (path : Path) (request : Request) → (if b then x else y) ≡ Calls path request → (x ≡ Calls path request → ⊥) → y ≡ Calls path request
else_is true x y path request h never = absurd (never h)
else_is false x y path request h never = h

offered_is : (o : Offer) (path : Path) (request : Request) → move_offered o ≡ Calls path request → o ≡ Some (path, Client request)
offered_is None path request h = absurd cc
offered_is (Some (p, Client r)) path request h = let a : p ≡ path = cc in let b : r ≡ request = cc in λ i. Some (a i, Client (b i))
offered_is (Some (p, Step entry)) path request h = absurd cc

ask_is : (p : PlanValue) (r : Turns) (journal : List Event) (path : Path) (request : Request) → ask_move p r journal ≡ Calls path request
    → offer (run_generator p) r.trace (all_threads p.clients) (turn_question p r journal) ≡ Some (path, Client request)
ask_is p r journal path request h =
    offered_is _ path request (else_is (is_exhausted (run_generator p) r.trace (all_threads p.clients)) Ends _ path request h (λ e. cc))

turn_is : (p : PlanValue) (r : Turns) (journal : List Event) (path : Path) (request : Request) → turn_move p r journal ≡ Calls path request → ask_move p r journal ≡ Calls path request
turn_is p r journal path request h = else_is _ Rests _ path request h (λ e. cc)

entry_is : (p : PlanValue) (r : Turns) (journal : List Event) (o : Option Entry) (path : Path) (request : Request) → entry_move p r journal o ≡ Calls path request → turn_move p r journal ≡ Calls path request
entry_is p r journal None path request h = h
entry_is p r journal (Some entry) path request h = else_is (is_due r journal entry) (Applies entry) _ path request h (λ e. cc)

pub call_is : (p : PlanValue) (r : Turns) (journal : List Event) (path : Path) (request : Request) → move_of p r journal ≡ Calls path request
    → offer (run_generator p) r.trace (all_threads p.clients) (turn_question p r journal) ≡ Some (path, Client request)
call_is p r journal path request h =
    ask_is p r journal path request (turn_is p r journal path request (entry_is p r journal (slice_get p.schedule (applied_count journal)) path request
    (else_is (ticks_after p journal (last_event journal)) Ticks _ path request h (λ e. cc))))
