-- The processes of a run's history can be written.
use Rattle.std.proofs.Common.{ℕ, zero, suc, ◌+◌, ◌*◌, ◌^◌, ◌<◌, ◌≤◌, List, [], ◌∷◌, length, length-append, All, ap, sym, ◌∙◌, arith, subst, count_by}
use Rattle.std.proofs.Math.Nat.{mod-lt}
use Rattle.std.proofs.lemmas.Nat.{mul-le}
use Rattle.std.proofs.lemmas.List.Elements.{All-cons, All-head, All-push, All-tail}
use Rattle.std.proofs.lemmas.List.Sums.{count_by-le-length}
use Rattle.jh_ops.specs.Operation.{Operation}
use Rattle.jh_ops.specs.OperationWritten.{IsWritable}
use Rattle.jh_simnode.specs.declared.events.Event.{Event}
use Rattle.jh_simnode.specs.Counts.{is_crash_of, process_after}
use Rattle.jh_simnode.specs.Histories.{operations_from, indexed_invocation, indexed_completion, indexed_entry_invocation, indexed_entry_completion}
use Rattle.jh_simnode.specs.Plans.{PlanValue}
use Rattle.jh_simnode.specs.Runs.{Comes, Move, Reaches, Turns, call_event, move_of, thread_of}
use Rattle.jh_simnode.specs.Runs.Move.{Ticks, Applies, Waits, Calls, Ends, Rests}
use Rattle.jh_simnode.specs.Running.{HasSmallProcess}

-- twenty bits and four more are enough
small_process : (c t : ℕ) (journal : List Event) → t < c → c ≤ 16 → length journal ≤ 65536 → process_after c t journal < 2 ^ 63
small_process c t journal below crowd few =
    let k = count_by (is_crash_of c t) journal in
    let many = count_by-le-length (is_crash_of c t) journal in
    let product : k * c ≤ 65536 * 16 = mul-le k c 65536 16 (omega (arith, many, few)) crowd in
    omega (arith, product)

module _ (p : PlanValue) (some : 1 ≤ p.clients) (crowd : p.clients ≤ 16) where
  after_move : (r r' : Turns) (journal journal' : List Event) (m : Move) → Comes p r journal r' journal' m → length journal' ≤ 65536
      → (length journal ≤ 65536 → All HasSmallProcess journal) → All HasSmallProcess journal'
  after_move r r' journal journal' Ticks t few h =
      let longer = ap length t.1 ∙ length-append journal (Event.Tick ∷ []) in
      subst (All HasSmallProcess) (sym t.1) (All-push HasSmallProcess journal Event.Tick (h (omega (arith, few, longer))) tt)
  after_move r r' journal journal' (Applies entry) t few h =
      let e : Event = Event.Step entry.step t.1.0 in
      let longer = ap length t.1.1 ∙ length-append journal (e ∷ []) in
      subst (All HasSmallProcess) (sym t.1.1) (All-push HasSmallProcess journal e (h (omega (arith, few, longer))) tt)
  after_move r r' journal journal' Waits t few h = subst (All HasSmallProcess) (sym t.1) (h (subst (λ j. length j ≤ 65536) t.1 few))
  after_move r r' journal journal' (Calls path request) t few h =
      let e : Event = call_event p r journal request t.1.0 in
      let longer = ap length t.1.1 ∙ length-append journal (e ∷ []) in
      let before : length journal ≤ 65536 = omega (arith, few, longer) in
      subst (All HasSmallProcess) (sym t.1.1) (All-push HasSmallProcess journal e (h before) (small_process p.clients (thread_of p r) journal (mod-lt r.asks some) crowd before))
  after_move r r' journal journal' Ends t few h = subst (All HasSmallProcess) (sym t.1) (h (subst (λ j. length j ≤ 65536) t.1 few))
  after_move r r' journal journal' Rests t few h = absurd t

  -- each process of a run is small
  pub small_runs : (n : ℕ) (r : Turns) (journal : List Event) → Reaches p n r journal → length journal ≤ 65536 → All HasSmallProcess journal
  small_runs zero r journal h few = subst (All HasSmallProcess) (sym h.1) (λ k d below. absurd (omega (arith, below)))
  small_runs (suc n) r journal h few =
      after_move h.0 r h.1.0 journal (move_of p h.0 h.1.0) h.1.1.1 few (λ less. small_runs n h.0 h.1.0 h.1.1.0 less)

pub writable_from : (es : List Event) (place number entry : ℕ) → All HasSmallProcess es → All (λ op. IsWritable op.process) (operations_from place number entry es)
writable_from [] place number entry h = λ k d below. absurd (omega (arith, below))
writable_from (Event.Call process node request draw reply ∷ es) place number entry h =
    let P : Operation → Type 0 = λ op. IsWritable op.process in
    let small = All-head HasSmallProcess (Event.Call process node request draw reply) es h in
    let rest = writable_from es (place + 2) (number + 1) entry (All-tail HasSmallProcess (Event.Call process node request draw reply) es h) in
    let later : List Operation = operations_from (place + 2) (number + 1) entry es in
    let second : Operation = indexed_completion (place + 1) number process request reply in
    All-cons P (indexed_invocation place process request) (second ∷ later) small (All-cons P second later small rest)
writable_from (Event.Step step answer ∷ es) place number entry h =
    let P : Operation → Type 0 = λ op. IsWritable op.process in
    let rest = writable_from es (place + 2) (number + 1) (entry + 1) (All-tail HasSmallProcess (Event.Step step answer) es h) in
    let later : List Operation = operations_from (place + 2) (number + 1) (entry + 1) es in
    let second : Operation = indexed_entry_completion (place + 1) number entry answer in
    All-cons P (indexed_entry_invocation place entry) (second ∷ later) tt (All-cons P second later tt rest)
writable_from (Event.Tick ∷ es) place number entry h = writable_from es place (number + 1) entry (All-tail HasSmallProcess Event.Tick es h)
