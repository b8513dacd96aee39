-- The pairs of a run's history: each call's two operations stand side by side.
use Rattle.std.proofs.Common.{◌≡◌, ℕ, ◌+◌, ◌==◌, true, List, [], ◌∷◌, ◌++◌, length, refl, sym, ap, subst, ◌∙◌, arith, append_assoc, length-append, eq-eqb}
use Rattle.std.specs.Prelude.{slice_get, Some}
use Rattle.jh_ops.specs.Operation.{Operation}
use Rattle.jh_ops.specs.Pairing.{pair_of, pairs_from, history_pairs}
use Rattle.jh_ops.specs.declared.call.Request.{Request}
use Rattle.jh_ops.specs.declared.operation.Process.{Process}
use Rattle.jh_ops.specs.declared.pairs.Pair.{Pair}
use Rattle.jh_simnode.specs.declared.replicas.Reply.{Reply}
use Rattle.jh_simnode.specs.declared.replicas.Reply.TheVariants as replied
use Rattle.jh_simnode.specs.declared.events.Event.{Event}
use Rattle.jh_ops.specs.declared.call.Call.TheVariants.{Client}
use Rattle.jh_ops.specs.declared.call.Workload.{Workload}
use Rattle.jh_gen.specs.Suits.{is_call_for}
use Rattle.jh_simnode.specs.Histories.{indexed_entry_completion, indexed_entry_invocation, indexed_completion, journal_history, indexed_invocation, completion_kind, operations_from}
use Rattle.jh_run_laws.specs.OwnHistory.{CallsFit, RepliesFit, ReplyFits}

-- the pair at a place and the next
abbrev pub pair_at : ℕ → Pair
pair_at place = record { invoke = place; outcome = Some (place + 1) }

-- a pair for each call
abbrev pub own_pairs : ℕ → List Event → List Pair
own_pairs place [] = []
own_pairs place (Event.Call process node request draw reply ∷ es) = pair_at place ∷ own_pairs (place + 2) es
own_pairs place (Event.Step step answer ∷ es) = own_pairs (place + 2) es
own_pairs place (Event.Tick ∷ es) = own_pairs place es

no_pair : (r : Reply) (process : Process) (place : ℕ) (after : List Operation) → pair_of (completion_kind r) process place after ≡ []
no_pair (replied.Ok got) process place after = refl
no_pair replied.Fail process place after = refl
no_pair replied.Info process place after = refl

pub pairs_own : (place number entry : ℕ) (es : List Event) → pairs_from place (operations_from place number entry es) ≡ own_pairs place es
pairs_own place number entry [] = refl
pairs_own place number entry (Event.Call process node request draw reply ∷ es) =
    let rest = operations_from (place + 2) (number + 1) entry es in
    let own : (process == process) ≡ true = eq-eqb process process refl in
    let two : place + 1 + 1 ≡ place + 2 = omega arith in
    rw (own, no_pair reply (Process.Client process) (place + 1) rest, two) (ap (λ (ps : List Pair). pair_at place ∷ ps) (pairs_own (place + 2) (number + 1) entry es))
pairs_own place number entry (Event.Step step answer ∷ es) =
    let two : place + 1 + 1 ≡ place + 2 = omega arith in
    rw two (pairs_own (place + 2) (number + 1) (entry + 1) es)
pairs_own place number entry (Event.Tick ∷ es) = pairs_own place (number + 1) entry es

-- ---- what stands at a place

pub at_end : {X : Type 0} (before : List X) (x : X) (after : List X) → slice_get (before ++ x ∷ after) (length before) ≡ Some x
at_end [] x after = refl
at_end (y ∷ ys) x after = at_end ys x after

-- two operations, and what comes before and after them
pub first_there : (before : List Operation) (x y : Operation) (after : List Operation) → slice_get (before ++ x ∷ y ∷ after) (length before) ≡ Some x
first_there before x y after = at_end before x (y ∷ after)

pub moved_on : {X : Type 0} (before : List X) (x : X) (after : List X) → (before ++ x ∷ []) ++ after ≡ before ++ x ∷ after
moved_on before x after = append_assoc before (x ∷ []) after

pub one_longer : {X : Type 0} (before : List X) (x : X) → length (before ++ x ∷ []) ≡ length before + 1
one_longer before x = length-append before (x ∷ [])

pub next_there : (before : List Operation) (x y : Operation) (after : List Operation) → slice_get (before ++ x ∷ y ∷ after) (length before + 1) ≡ Some y
next_there before x y after =
    subst (λ (n : ℕ). slice_get (before ++ x ∷ y ∷ after) n ≡ Some y) (one_longer before x)
    (subst (λ (l : List Operation). slice_get l (length (before ++ x ∷ [])) ≡ Some y) (moved_on before x (y ∷ after)) (at_end (before ++ x ∷ []) y after))

-- ---- what holds of each pair

abbrev pub Each : {X : Type 0} → (X → Type 0) → List X → Type 0
Each P [] = Unit {0}
Each P (x ∷ xs) = P x × Each P xs

-- what holds of a pair because of its two operations, whose request is of the workload and whose reply fits
abbrev pub FromCall : Workload → (List Operation → Pair → Type 0) → Type 0
FromCall w P =
    (history : List Operation) (place number process : ℕ) (request : Request) (reply : Reply)
    → slice_get history place ≡ Some (indexed_invocation place process request) → slice_get history (place + 1) ≡ Some (indexed_completion (place + 1) number process request reply)
    → is_call_for w (Client request) ≡ true → ReplyFits w request reply → P history (pair_at place)

each_from : (w : Workload) (P : List Operation → Pair → Type 0) → FromCall w P → (c : ℕ) (done es : List Event) → CallsFit w c done es → RepliesFit w es
    → (history before : List Operation) (place number entry : ℕ) → place ≡ length before → history ≡ before ++ operations_from place number entry es → Each (P history) (own_pairs place es)
each_from w P from c done [] a b history before place number entry at is = tt
each_from w P from c done (Event.Call process node request draw reply ∷ es) a b history before place number entry at is =
    let x = indexed_invocation place process request in
    let y = indexed_completion (place + 1) number process request reply in
    let rest = operations_from (place + 2) (number + 1) entry es in
    let here : slice_get history place ≡ Some x =
    subst (λ (h : List Operation). slice_get h place ≡ Some x) (sym is)
    (subst (λ (n : ℕ). slice_get (before ++ x ∷ y ∷ rest) n ≡ Some x) (sym at) (first_there before x y rest)) in
    let there : slice_get history (place + 1) ≡ Some y =
    subst (λ (h : List Operation). slice_get h (place + 1) ≡ Some y) (sym is)
    (subst (λ (n : ℕ). slice_get (before ++ x ∷ y ∷ rest) (n + 1) ≡ Some y) (sym at) (next_there before x y rest)) in
    let longer : place + 2 ≡ length (before ++ x ∷ y ∷ []) = omega (arith, at, length-append before (x ∷ y ∷ [])) in
    let parted : history ≡ (before ++ x ∷ y ∷ []) ++ rest = is ∙ sym (append_assoc before (x ∷ y ∷ []) rest) in (
      from history place number process request reply here there a.0.1 b.0,
      each_from w P from c (done ++ Event.Call process node request draw reply ∷ []) es a.1 b.1 history (before ++ x ∷ y ∷ []) (place + 2) (number + 1) entry longer parted,
    )
each_from w P from c done (Event.Step step answer ∷ es) a b history before place number entry at is =
    let x = indexed_entry_invocation place entry in
    let y = indexed_entry_completion (place + 1) number entry answer in
    let rest = operations_from (place + 2) (number + 1) (entry + 1) es in
    let longer : place + 2 ≡ length (before ++ x ∷ y ∷ []) = omega (arith, at, length-append before (x ∷ y ∷ [])) in
    let parted : history ≡ (before ++ x ∷ y ∷ []) ++ rest = is ∙ sym (append_assoc before (x ∷ y ∷ []) rest) in
    each_from w P from c (done ++ Event.Step step answer ∷ []) es a.1 b history (before ++ x ∷ y ∷ []) (place + 2) (number + 1) (entry + 1) longer parted
each_from w P from c done (Event.Tick ∷ es) a b history before place number entry at is =
    each_from w P from c (done ++ Event.Tick ∷ []) es a.1 b history before place (number + 1) entry at is

-- each pair of a run's history is such
pub each_pair : (w : Workload) (P : List Operation → Pair → Type 0) → FromCall w P → (c : ℕ) (journal : List Event) → CallsFit w c [] journal → RepliesFit w journal
    → Each (P (journal_history journal)) (history_pairs (journal_history journal))
each_pair w P from c journal a b =
    rw (pairs_own 0 0 0 journal) (each_from w P from c [] journal a b (journal_history journal) [] 0 0 0 refl refl)
