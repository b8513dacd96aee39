-- What a turn changes of what a run keeps.
use Rattle.std.proofs.Common.{◌≡◌, ◌≢◌, ℕ, zero, suc, ◌+◌, ◌*◌, ◌%◌, ◌<◌, ◌≤◌, true, false, List, [], ◌∷◌, ◌++◌, length, set, get_or, replicate, slice_index, refl, ap, sym, ◌∙◌, arith, inl, inr, subst}
use Rattle.std.specs.List.{count_by}
use Rattle.std.proofs.lemmas.Bool.{cases_eq, eq-eqb, ne_eqb}
use Rattle.std.proofs.lemmas.List.{length-set, get_or-set_same, get_or-set_other}
use Rattle.std.proofs.lemmas.List.{length-append}
use Rattle.std.proofs.lemmas.Nat.{mod-mul-add}
use Rattle.std.proofs.lemmas.Option.{get_or_from_slice_get, slice_get-get_or}
use Rattle.rand_pcg.specs.Lcg.{Lcg}
use Rattle.rand_pcg.specs.Pcg.{pcg64}
use Rattle.jh_ops.specs.declared.call.Request.{Request}
use Rattle.jh_gen.specs.Trace.{Path}
use Rattle.jh_gen.specs.DriverState.{DriverState, driver_after_end, processes_after}
use Rattle.jh_gen.specs.declared.answers.Thread.TheVariants as thread
use Rattle.jh_simnode.specs.declared.replicas.Reply.{Reply}
use Rattle.jh_simnode.specs.declared.replicas.Reply.TheVariants.{Ok, Fail, Info}
use Rattle.jh_simnode.specs.declared.events.Event.{Event}
use Rattle.jh_simnode.specs.declared.turns.Run.{Run}
use Rattle.jh_simnode.specs.Counts.{answered_count, applied_count, calls_by, process_after, is_call, is_step, is_call_by, is_crash_of, is_process_of}
use Rattle.jh_simnode.specs.Plans.{PlanValue}
use Rattle.jh_simnode.specs.Runs.{Turns, turns_after_call, call_event, turns_after_end, thread_of, turns_after_wait, random_number_at, random_numbers_after, run_stream, numbers_taken}
use Rattle.jh_simnode.specs.Running.{Counts, Drives, AwaitsReply, Keeps, reply_ending}
use Rattle.jh_simnode.proofs.EventCountLemmas.{count_yes, count_no}

-- one random number more
pub next_numbers : (seed n : ℕ) → (pcg64 (random_numbers_after run_stream seed n)).1 ≡ random_numbers_after run_stream seed (n + 1)
unfolding random_numbers_after
next_numbers seed n = let more : suc n ≡ n + 1 = omega arith in ap (random_numbers_after run_stream seed) more

-- the thread of the process that the journal gives it
pub process_thread : (c t : ℕ) (journal : List Event) → t < c → process_after c t journal % c ≡ t
process_thread c t journal below =
    let k = count_by (is_crash_of c t) journal in
    let turned : t + k * c ≡ k * c + t = omega arith in
    ap (λ x. x % c) turned ∙ mod-mul-add k c t below

-- a write taken back
set_back : {X : Type 0} (l : List X) (i : ℕ) (a b d : X) → get_or l i d ≡ b → set (set l i a) i b ≡ l
set_back [] i a b d h = refl
set_back (x ∷ xs) zero a b d h = ap (λ y. y ∷ xs) (sym h)
set_back (x ∷ xs) (suc i) a b d h = ap (λ ys. x ∷ ys) (set_back xs i a b d h)

pub all_false : (n i : ℕ) → get_or (replicate n false) i false ≡ false
all_false zero i = refl
all_false (suc n) zero = refl
all_false (suc n) (suc i) = all_false n i

same_thread : (c t : ℕ) (journal : List Event) → t < c → is_process_of c t (process_after c t journal) ≡ true
same_thread c t journal below = rw (process_thread c t journal below) (eq-eqb t t refl)

other_thread : (c t : ℕ) (journal : List Event) → t < c → (u : ℕ) → u ≢ t → is_process_of c u (process_after c t journal) ≡ false
other_thread c t journal below u other = rw (process_thread c t journal below) (ne_eqb t u (λ e. other (sym e)))

-- how the processes are numbered after a call
pub numbered_on : (c t : ℕ) (journal : List Event) → t < c → (node : ℕ) (request : Request) (draw : ℕ) (reply : Reply) (d : DriverState) → d.clients ≡ c → t + 1 < length d.processes
    → ((u : ℕ) → u < c → slice_index d.processes (u + 1) ≡ process_after c u journal)
    → (u : ℕ) → u < c → slice_index (processes_after d (thread.Client t) (reply_ending reply)) (u + 1) ≡ process_after c u (journal ++ Event.Call (process_after c t journal) node request draw reply ∷ [])
numbered_on c t journal below node request draw (Ok got) d many long h u small =
    h u small ∙ ap (λ k. u + k * c) (sym (count_no (is_crash_of c u) journal (Event.Call (process_after c t journal) node request draw (Ok got)) refl))
numbered_on c t journal below node request draw Fail d many long h u small =
    h u small ∙ ap (λ k. u + k * c) (sym (count_no (is_crash_of c u) journal (Event.Call (process_after c t journal) node request draw Fail) refl))
numbered_on c t journal below node request draw Info d many long h u small =
    let e : Event = Event.Call (process_after c t journal) node request draw Info in
    let ps = d.processes in
    let New : ℕ → Type 0 = λ x. slice_index (set ps (t + 1) (slice_index ps (t + 1) + d.clients)) (x + 1) ≡ process_after c x (journal ++ e ∷ []) in
    elim (cases_eq t u) as (λ x. New u) [
      | inl same ↦
          (let k = count_by (is_crash_of c t) journal in
          let more : count_by (is_crash_of c t) (journal ++ e ∷ []) ≡ k + 1 = count_yes (is_crash_of c t) journal e (same_thread c t journal below) in
          let grown : (t + k * c) + c ≡ t + (k + 1) * c = omega arith in
          subst New same (get_or-set_same ps (t + 1) (slice_index ps (t + 1) + d.clients) 0 long ∙ ap (λ x. x + d.clients) (h t below) ∙ ap (λ x. (t + k * c) + x) many ∙ grown
          ∙ ap (λ x. t + x * c) (sym more)))
      | inr other ↦
          (let apart : u ≢ t = λ q. other (sym q) in
          get_or-set_other ps (t + 1) (u + 1) (slice_index ps (t + 1) + d.clients) 0 (λ q. apart (omega (arith, q))) ∙ h u small
          ∙ ap (λ k. u + k * c) (sym (count_no (is_crash_of c u) journal e (other_thread c t journal below u apart))))
    ]

-- as many processes as before
still_long : (d : DriverState) (t : ℕ) (reply : Reply) → length (processes_after d (thread.Client t) (reply_ending reply)) ≡ length d.processes
still_long d t (Ok got) = refl
still_long d t Fail = refl
still_long d t Info = length-set d.processes (t + 1) (slice_index d.processes (t + 1) + d.clients)

-- the counts after a call
pub counts_on : (p : PlanValue) (journal : List Event) (t : ℕ) → t < p.clients → (node : ℕ) (request : Request) (draw : ℕ) (reply : Reply) (run run' : Run) → Counts p journal run
    → run'.calls.items ≡ set run.calls.items t (slice_index run.calls.items t + 1) → run'.answered ≡ run.answered + 1 → run'.applied ≡ run.applied
    → Counts p (journal ++ Event.Call (process_after p.clients t journal) node request draw reply ∷ []) run'
counts_on p journal t below node request draw reply run run' h calls answered_is applied_is =
    let c = p.clients in
    let e : Event = Event.Call (process_after c t journal) node request draw reply in
    let xs = run.calls.items in
    let within : t < length xs = rw h.long below in
    let New : ℕ → Type 0 = λ x. slice_index (set xs t (slice_index xs t + 1)) x ≡ calls_by p.clients x (journal ++ e ∷ []) in
    let each : (u : ℕ) → u < p.clients → New u = λ u small. elim (cases_eq t u) as (λ x. New u) [
      | inl same ↦ subst New same (get_or-set_same xs t (slice_index xs t + 1) 0 within ∙ ap (λ x. x + 1) (h.calls t below) ∙ sym (count_yes (is_call_by c t) journal e (same_thread c t journal below)))
      | inr other ↦
          (let apart : u ≢ t = λ q. other (sym q) in
          get_or-set_other xs t u (slice_index xs t + 1) 0 apart ∙ h.calls u small ∙ sym (count_no (is_call_by c u) journal e (other_thread c t journal below u apart)))
    ] in
    record {
      long = ap length calls ∙ length-set xs t (slice_index xs t + 1) ∙ h.long;
      calls = λ u small. ap (λ l. slice_index l u) calls ∙ each u small;
      answered = answered_is ∙ ap (λ x. x + 1) h.answered ∙ sym (count_yes is_call journal e refl);
      applied = applied_is ∙ h.applied ∙ sym (count_no is_step journal e refl);
    }

-- what a run keeps after the answer to a call
pub keeps_on : (p : PlanValue) (r : Turns) (journal : List Event) (path : Path) (request : Request) (reply : Reply) (run run' : Run)
    → AwaitsReply p r journal path run → thread_of p r < p.clients
    → r.asks ≤ 17 * length journal + r.waits → r.waits < 16
    → run'.driver ≡ driver_after_end run.driver (thread.Client (thread_of p r)) (reply_ending reply) → run'.random_numbers ≡ (pcg64 run.random_numbers).1
    → run'.calls.items ≡ set run.calls.items (thread_of p r) (slice_index run.calls.items (thread_of p r) + 1)
    → run'.answered ≡ run.answered + 1 → run'.applied ≡ run.applied → run'.asks ≡ run.asks → run'.waits ≡ 0 → run'.has_ended ≡ run.has_ended
    → Keeps p (turns_after_call r path) (journal ++ call_event p r journal request reply ∷ []) run'
keeps_on p r journal path request reply run run' h below few_asks patient driver random_numbers calls answered_is applied_is asks waits turns_after_end =
    let t = thread_of p r in
    let e = call_event p r journal request reply in
    let d = run.driver in
    let more : answered_count (journal ++ e ∷ []) ≡ answered_count journal + 1 = count_yes is_call journal e refl in
    let node = t % length p.env.names in
    let draw = random_number_at run_stream p.seed (numbers_taken r journal + 1) in
    let drives : Drives p (turns_after_call r path) (journal ++ e ∷ []) (driver_after_end d (thread.Client t) (reply_ending reply)) = record {
      stands = record { left = h.stands.left; count = h.stands.count };
      clients = h.clients;
      idle = ap (λ l. set l (t + 1) false) h.busy ∙ set_back (replicate (p.clients + 1) false) (t + 1) true false false (all_false (p.clients + 1) (t + 1));
      processes = numbered_on p.clients t journal below node request draw reply d h.clients (let long = h.long in omega (arith, long)) h.processes;
      long = still_long d (thread_of p r) reply ∙ h.long;
      given = ap suc h.given ∙ omega (arith, more);
    } in
    record {
      driver = λ _. subst (Drives p (turns_after_call r path) (journal ++ e ∷ [])) (sym driver) drives;
      random_numbers = random_numbers ∙ ap (λ (g : Lcg). (pcg64 g).1) h.random_numbers ∙ next_numbers p.seed (numbers_taken r journal + 1) ∙ ap (random_numbers_after run_stream p.seed) (omega (arith, more));
      counts = counts_on p journal t below node request draw reply run run' h.counts calls answered_is applied_is;
      asks = asks ∙ h.asks;
      waits = waits;
      ended = turns_after_end ∙ h.ended;
      few = λ _. (let long' : length (journal ++ e ∷ []) ≡ length journal + 1 = length-append journal (e ∷ []) in omega (arith, few_asks, patient));
    }

-- what a run keeps after a tick or a step, where only the number of entries may change
pub keeps_beside : (p : PlanValue) (r : Turns) (journal : List Event) (e : Event) (run run' : Run) → Keeps p r journal run → is_call e ≡ false
    → ((u : ℕ) → is_call_by p.clients u e ≡ false) → ((u : ℕ) → is_crash_of p.clients u e ≡ false)
    → run' ≡ record run { applied = run'.applied } → run'.applied ≡ applied_count (journal ++ e ∷ [])
    → Keeps p r (journal ++ e ∷ []) run'
keeps_beside p r journal e run run' h quiet by_none crash_none same applied_is =
    let c = p.clients in
    let kept : answered_count (journal ++ e ∷ []) ≡ answered_count journal = count_no is_call journal e quiet in
    let longer : length (journal ++ e ∷ []) ≡ length journal + 1 = length-append journal (e ∷ []) in
    record {
      driver = λ going.
          (let d = h.driver going in
          subst (Drives p r (journal ++ e ∷ [])) (sym (ap (λ (x : Run). x.driver) same)) (record {
            stands = d.stands;
            clients = d.clients;
            idle = d.idle;
            long = d.long;
            processes = λ u small. d.processes u small ∙ ap (λ k. u + k * c) (sym (count_no (is_crash_of c u) journal e (crash_none u)));
            given = d.given ∙ sym kept;
          }));
      random_numbers = ap (λ (x : Run). x.random_numbers) same ∙ h.random_numbers ∙ ap (λ n. random_numbers_after run_stream p.seed (r.asks + n)) (sym kept);
      counts = record {
        long = ap (λ (x : Run). length x.calls.items) same ∙ h.counts.long;
        calls = λ u small. ap (λ (x : Run). slice_index x.calls.items u) same ∙ h.counts.calls u small ∙ sym (count_no (is_call_by c u) journal e (by_none u));
        answered = ap (λ (x : Run). x.answered) same ∙ h.counts.answered ∙ sym kept;
        applied = applied_is;
      };
      asks = ap (λ (x : Run). x.asks) same ∙ h.asks;
      waits = ap (λ (x : Run). x.waits) same ∙ h.waits;
      ended = ap (λ (x : Run). x.has_ended) same ∙ h.ended;
      few = λ going. (let few = h.few going in omega (arith, few, longer));
    }

-- what a run keeps after an ask that got nothing, and after the end
pub waits_on : (p : PlanValue) (r : Turns) (journal : List Event) (run : Run) (random_numbers : Lcg) → Keeps p r journal run → random_numbers ≡ (pcg64 run.random_numbers).1
    → Keeps p (turns_after_wait r) journal (record run { random_numbers = random_numbers; asks = run.asks + 1; waits = run.waits + 1 })
waits_on p r journal run random_numbers h next = record {
  driver = λ going. (let d = h.driver going in record { stands = d.stands; clients = d.clients; idle = d.idle; long = d.long; processes = d.processes; given = d.given });
  random_numbers = next ∙ ap (λ (g : Lcg). (pcg64 g).1) h.random_numbers ∙ next_numbers p.seed (numbers_taken r journal) ∙ ap (random_numbers_after run_stream p.seed) (omega arith);
  counts = record { long = h.counts.long; calls = h.counts.calls; answered = h.counts.answered; applied = h.counts.applied };
  asks = ap (λ n. n + 1) h.asks;
  waits = ap (λ n. n + 1) h.waits;
  ended = h.ended;
  few = λ going. (let few = h.few going in omega (arith, few));
}

pub ends_on : (p : PlanValue) (r : Turns) (journal : List Event) (run : Run) (driver : DriverState) (random_numbers : Lcg) → Keeps p r journal run → random_numbers ≡ (pcg64 run.random_numbers).1
    → Keeps p (turns_after_end r) journal (record run { driver = driver; random_numbers = random_numbers; asks = run.asks + 1; has_ended = true })
ends_on p r journal run driver random_numbers h next = record {
  driver = λ going. (let same : true ≡ false = going in cc same);
  random_numbers = next ∙ ap (λ (g : Lcg). (pcg64 g).1) h.random_numbers ∙ next_numbers p.seed (numbers_taken r journal) ∙ ap (random_numbers_after run_stream p.seed) (omega arith);
  counts = record { long = h.counts.long; calls = h.counts.calls; answered = h.counts.answered; applied = h.counts.applied };
  asks = ap (λ n. n + 1) h.asks;
  waits = h.waits;
  ended = refl;
  few = λ going. (let same : true ≡ false = going in cc same);
}

-- within its length, what a list has at a place doesn't hang on the default
pub any_default : {X : Type 0} (xs : List X) (i : ℕ) (d e : X) → i < length xs → get_or xs i d ≡ get_or xs i e
any_default xs i d e within = get_or_from_slice_get xs i (get_or xs i e) d (slice_get-get_or xs i e within)
