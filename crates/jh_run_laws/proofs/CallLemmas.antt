-- Each call of a run is of its workload, and by the process whose turn it is.
use Rattle.std.proofs.Common.{◌≡◌, ℕ, suc, zero, ◌+◌, ◌%◌, ◌<◌, Bool, true, false, ◌&&◌, List, [], ◌∷◌, ◌++◌, refl, sym, ap, subst, append_assoc, arith}
use Rattle.std.proofs.lemmas.List.{append-nil}
use Rattle.std.proofs.lemmas.Nat.{mod_below}
use Rattle.jh_ops.specs.declared.call.Call.TheVariants.{Client, Step}
use Rattle.jh_ops.specs.declared.call.Request.{Request}
use Rattle.jh_ops.specs.declared.call.Workload.{Workload}
use Rattle.jh_gen.specs.DriverState.{all_threads}
use Rattle.jh_gen.specs.Fits.{fits}
use Rattle.jh_gen.specs.Suits.{has_only, is_call_for}
use Rattle.jh_gen.specs.Trace.{Path}
use Rattle.jh_simnode.specs.declared.events.Event.{Event}
use Rattle.jh_simnode.specs.Counts.{process_after}
use Rattle.jh_simnode.specs.Plans.{PlanValue, IsFit}
use Rattle.jh_simnode.specs.Runs.{Turns, Move, Comes, Reaches, IsReachable, call_event, move_of, turn_question, run_generator, thread_of}
use Rattle.jh_simnode.specs.Runs.Move.{Ticks, Applies, Waits, Calls, Ends, Rests}
use Rattle.jh_simnode.proofs.GivenCallLemmas.{call_is}
use Rattle.jh_simnode.proofs.TurnLemmas.{process_thread}
use Rattle.jh_run_laws.specs.OwnHistory.{Passes, FitsAfter, CallsFit}
use Rattle.jh_run_laws.proofs.OfferLemmas.{offers_suit}

second : (a b : Bool) → (a && b) ≡ true → b ≡ true
second true b h = h
second false b h = absurd cc

-- the request of a call is one of the workload
request_fits : (p : PlanValue) → IsFit p → (r : Turns) (journal : List Event) (path : Path) (request : Request) → move_of p r journal ≡ Calls path request
    → is_call_for p.database.workload (Client request) ≡ true
request_fits p fit r journal path request h =
    let w = p.database.workload in
    let only : has_only (is_call_for w) (run_generator p) ≡ true = second (fits p.clients p.generator) (has_only (is_call_for w) p.generator) fit.generator in
    subst (Passes (is_call_for w)) (call_is p r journal path request h) (offers_suit w (run_generator p) only r.trace (all_threads p.clients) (turn_question p r journal))

-- ---- all calls of a journal

calls_push : (w : Workload) (c : ℕ) (before es : List Event) (e : Event) → CallsFit w c before es → FitsAfter w c (before ++ es) e → CallsFit w c before (es ++ e ∷ [])
calls_push w c before [] e a h = (subst (λ (l : List Event). FitsAfter w c l e) (append-nil before) h, tt)
calls_push w c before (x ∷ es) e a h = (a.0, calls_push w c (before ++ x ∷ []) es e a.1 (subst (λ (l : List Event). FitsAfter w c l e) (sym (append_assoc before (x ∷ []) es)) h))

comes_fit : (p : PlanValue) → IsFit p → (r r' : Turns) (journal journal' : List Event) (m : Move) → move_of p r journal ≡ m → Comes p r journal r' journal' m
    → CallsFit p.database.workload p.clients [] journal → CallsFit p.database.workload p.clients [] journal'
comes_fit p fit r r' journal journal' Ticks is s a = subst (CallsFit p.database.workload p.clients []) (sym s.1) (calls_push p.database.workload p.clients [] journal Event.Tick a tt)
comes_fit p fit r r' journal journal' (Applies entry) is s a = subst (CallsFit p.database.workload p.clients []) (sym s.1.1) (calls_push p.database.workload p.clients [] journal (Event.Step entry.step s.1.0) a tt)
comes_fit p fit r r' journal journal' Waits is s a = subst (CallsFit p.database.workload p.clients []) (sym s.1) a
comes_fit p fit r r' journal journal' (Calls path request) is s a =
    let c = p.clients in
    let t = thread_of p r in
    let some : 0 < c = omega (arith, fit.clients.0) in
    let below : t < c = mod_below r.asks c some in
    let own : process_after c t journal ≡ process_after c (process_after c t journal % c) journal = ap (λ (x : ℕ). process_after c x journal) (sym (process_thread c t journal below)) in
    subst (CallsFit p.database.workload c []) (sym s.1.1) (calls_push p.database.workload c [] journal (call_event p r journal request s.1.0) a (own, request_fits p fit r journal path request is))
comes_fit p fit r r' journal journal' Ends is s a = subst (CallsFit p.database.workload p.clients []) (sym s.1) a
comes_fit p fit r r' journal journal' Rests is s a = absurd s

reaches_fit : (p : PlanValue) → IsFit p → (n : ℕ) (r : Turns) (journal : List Event) → Reaches p n r journal → CallsFit p.database.workload p.clients [] journal
reaches_fit p fit zero r journal h = subst (CallsFit p.database.workload p.clients []) (sym h.1) tt
reaches_fit p fit (suc n) r journal h =
    comes_fit p fit h.0 r h.1.0 journal (move_of p h.0 h.1.0) refl h.1.1.1 (reaches_fit p fit n h.0 h.1.0 h.1.1.0)

pub run_fits : (p : PlanValue) → IsFit p → (r : Turns) (journal : List Event) → IsReachable p r journal → CallsFit p.database.workload p.clients [] journal
run_fits p fit r journal h = reaches_fit p fit h.0 r journal h.1
