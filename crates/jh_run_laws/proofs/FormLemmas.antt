-- The history of a run is well formed: a process that crashed does nothing more, for its thread goes on as another.
use Rattle.std.proofs.Common.{◌≡◌, ℕ, ◌+◌, ◌%◌, ◌*◌, ◌≤◌, ◌<◌, ◌==◌, true, false, List, [], ◌∷◌, ◌++◌, refl, sym, ap, subst, arith, eq-eqb, eqb-true, add-mul}
use Rattle.std.specs.Prelude.{if◌then◌else◌, cond}
use Rattle.std.specs.List.{count_by}
use Rattle.std.proofs.lemmas.List.Sums.{sum_by-append}
use Rattle.jh_ops.specs.Pairing.{Alternate, IsWellFormed, kinds_of}
use Rattle.jh_ops.specs.declared.call.Request.{Request}
use Rattle.jh_ops.specs.declared.call.Workload.{Workload}
use Rattle.jh_ops.specs.declared.operation.Kind.{Kind}
use Rattle.jh_simnode.specs.declared.replicas.Reply.{Reply}
use Rattle.jh_simnode.specs.declared.replicas.Reply.TheVariants as replied
use Rattle.jh_simnode.specs.declared.events.Event.{Event}
use Rattle.jh_simnode.specs.Counts.{is_crash_of, process_after}
use Rattle.jh_simnode.specs.Histories.{journal_history, completion_kind, operations_from}
use Rattle.jh_simnode.proofs.EventCountLemmas.{count_yes}
use Rattle.jh_run_laws.specs.OwnHistory.{CallsFit}

-- the kinds of a client's operations, event by event
abbrev kinds_in : ℕ → List Event → List Kind
kinds_in x [] = []
kinds_in x (Event.Call process node request draw reply ∷ es) = if x == process then Kind.Invoke ∷ completion_kind reply ∷ kinds_in x es else kinds_in x es
kinds_in x (Event.Step step answer ∷ es) = kinds_in x es
kinds_in x (Event.Tick ∷ es) = kinds_in x es

kinds_parsed : (x place number entry : ℕ) (es : List Event) → kinds_of x (operations_from place number entry es) ≡ kinds_in x es
kinds_parsed x place number entry [] = refl
kinds_parsed x place number entry (Event.Call process node request draw reply ∷ es) =
    elim (x == process) as (λ b. (x == process) ≡ b → kinds_of x (operations_from place number entry (Event.Call process node request draw reply ∷ es)) ≡ (if b then Kind.Invoke ∷ completion_kind reply ∷ kinds_in x es else kinds_in x es)) [
      | true ↦ λ e. rw e (ap (λ (ks : List Kind). Kind.Invoke ∷ completion_kind reply ∷ ks) (kinds_parsed x (place + 2) (number + 1) entry es))
      | false ↦ λ e. rw e (kinds_parsed x (place + 2) (number + 1) entry es)
    ] refl
kinds_parsed x place number entry (Event.Step step answer ∷ es) = kinds_parsed x (place + 2) (number + 1) (entry + 1) es
kinds_parsed x place number entry (Event.Tick ∷ es) = kinds_parsed x place (number + 1) entry es

-- one event more leaves the process of a thread as it was, or gives it a greater one
not_less : (c t : ℕ) (done : List Event) (e : Event) → process_after c t done ≤ process_after c t (done ++ e ∷ [])
not_less c t done e =
    let more : count_by (is_crash_of c t) (done ++ e ∷ []) ≡ count_by (is_crash_of c t) done + count_by (is_crash_of c t) (e ∷ []) = sum_by-append (λ (x : Event). cond (is_crash_of c t x) 1 0) done (e ∷ []) in
    rw more (grows (count_by (is_crash_of c t) done) (count_by (is_crash_of c t) (e ∷ []))) where
      grows : (m k : ℕ) → t + m * c ≤ t + (m + k) * c
      grows m k = omega (arith, add-mul m k c)

-- a crash gives its thread a greater one
crash_greater : (c process node draw : ℕ) (request : Request) (done : List Event) → 0 < c → process ≡ process_after c (process % c) done
    → process < process_after c (process % c) (done ++ Event.Call process node request draw replied.Info ∷ [])
crash_greater c process node draw request done some own =
    let t = process % c in
    let m = count_by (is_crash_of c t) done in
    let e = Event.Call process node request draw replied.Info in
    let same : (t == t) ≡ true = eq-eqb t t refl in
    let more : count_by (is_crash_of c t) (done ++ e ∷ []) ≡ m + 1 = count_yes (is_crash_of c t) done e same in
    rw more (omega (arith, own, add-mul m 1 c, some))

-- whose number lies below that of its thread's process does nothing more
gone : (w : Workload) (c x : ℕ) (done es : List Event) → CallsFit w c done es → x < process_after c (x % c) done → kinds_in x es ≡ []
gone w c x done [] a below = refl
gone w c x done (Event.Call process node request draw reply ∷ es) a below =
    let e = Event.Call process node request draw reply in
    elim (x == process) as (λ b. (x == process) ≡ b → (if b then Kind.Invoke ∷ completion_kind reply ∷ kinds_in x es else kinds_in x es) ≡ []) [
      | true ↦ λ same.
          let is : x ≡ process = eqb-true x process same in
          let own : x ≡ process_after c (x % c) done = subst (λ (y : ℕ). y ≡ process_after c (y % c) done) (sym is) a.0.0 in
          absurd (omega (arith, below, own))
      | false ↦ λ other. gone w c x (done ++ e ∷ []) es a.1 (let up = not_less c (x % c) done e in omega (arith, below, up))
    ] refl
gone w c x done (Event.Step step answer ∷ es) a below =
    let up = not_less c (x % c) done (Event.Step step answer) in gone w c x (done ++ Event.Step step answer ∷ []) es a.1 (omega (arith, below, up))
gone w c x done (Event.Tick ∷ es) a below =
    let up = not_less c (x % c) done Event.Tick in gone w c x (done ++ Event.Tick ∷ []) es a.1 (omega (arith, below, up))

alternates : (w : Workload) (c x : ℕ) → 0 < c → (done es : List Event) → CallsFit w c done es → Alternate (kinds_in x es)
alternates w c x some done [] a = tt
alternates w c x some done (Event.Call process node request draw reply ∷ es) a =
    let e = Event.Call process node request draw reply in
    let rest = alternates w c x some (done ++ e ∷ []) es a.1 in
    elim (x == process) as (λ b. (x == process) ≡ b → Alternate (if b then Kind.Invoke ∷ completion_kind reply ∷ kinds_in x es else kinds_in x es)) [
      | true ↦ λ same. after reply (eqb-true x process same) a rest
      | false ↦ λ other. rest
    ] refl where
      after : (r : Reply) → x ≡ process → CallsFit w c done (Event.Call process node request draw r ∷ es) → Alternate (kinds_in x es) → Alternate (Kind.Invoke ∷ completion_kind r ∷ kinds_in x es)
      after (replied.Ok got) is a rest = rest
      after replied.Fail is a rest = rest
      after replied.Info is a rest =
          let greater = crash_greater c process node draw request done some a.0.0 in
          gone w c x (done ++ Event.Call process node request draw replied.Info ∷ []) es a.1
          (subst (λ (y : ℕ). y < process_after c (y % c) (done ++ Event.Call process node request draw replied.Info ∷ [])) (sym is) greater)
alternates w c x some done (Event.Step step answer ∷ es) a = alternates w c x some (done ++ Event.Step step answer ∷ []) es a.1
alternates w c x some done (Event.Tick ∷ es) a = alternates w c x some (done ++ Event.Tick ∷ []) es a.1

pub is_formed : (w : Workload) (c : ℕ) → 0 < c → (journal : List Event) → CallsFit w c [] journal → IsWellFormed (journal_history journal)
is_formed w c some journal a = λ x. subst Alternate (sym (kinds_parsed x 0 0 0 journal)) (alternates w c x some [] journal a)
