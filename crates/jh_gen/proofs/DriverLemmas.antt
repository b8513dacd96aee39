-- What a driver does where it stands for a generator after a trace.
use Rattle.std.proofs.Common.{◌≡◌, refl, sym, ap, ap₂, ◌∙◌, ℕ, zero, suc, ◌+◌, ◌-◌, ◌<◌, ◌≤◌, inl, inr, Bool, true, false, not, ◌&&◌, ◌||◌, List, [], ◌∷◌, length, arith, get_or, set, ◌++◌, append_assoc}
use Rattle.std.specs.Prelude.{◌==◌, nat_le, None, Some}
use Rattle.std.proofs.lemmas.Bool.{eq-eqb, ne_eqb, or_left, or_right, and_from, and_parts, leb-true, le-leb, cases_eq}
use Rattle.jh_ops.specs.declared.call.Call.{Call}
use Rattle.jh_gen.specs.Generator.{Generator, nothing, once, rising, forever, seq, limit, mix, phases, reserve, each_thread, clients, nemesis_only, Generators, no_generators, generator, ShareList, no_shares, share}
use Rattle.jh_gen.specs.Trace.{Path, Trace}
use Rattle.jh_gen.specs.Scope.{Scope, Question, is_in_scope}
use Rattle.jh_gen.specs.Offers.{Offer, is_exhausted, offer}
use Rattle.jh_gen.specs.Fits.{fits, all_fit, shares_fit, shares_sum}
use Rattle.jh_gen.specs.State.{GeneratorState, is_done, taking, taken_call, rest_of, state_left}
use Rattle.jh_gen.specs.DriverState.{DriverState, threads_from, all_threads, thread_number, next_process, question_by, IsDriverOf, GivesCall, Answers}
use Rattle.jh_gen.specs.declared.answers.Thread.{Thread}
use Rattle.jh_ops.specs.declared.operation.Process.{Process}
use Rattle.jh_gen.specs.declared.answers.GenAnswer.TheVariants as answer
use Rattle.jh_gen.specs.declared.answers.GenAnswer.TheVariants.{Pending, Done}
use Rattle.jh_gen.proofs.TraceLemmas.{is_distinct}
use Rattle.jh_gen.proofs.ExhaustedLemmas.{done_of}
use Rattle.jh_gen.proofs.TakingLemmas.{with_left, taken_is}

in_threads : (first n x : ℕ) → first ≤ x → x < first + n → is_in_scope (threads_from first n) x ≡ true
in_threads first zero x le lt = absurd (omega arith)
in_threads first (suc n) x le lt =
    elim (cases_eq first x) [
      | inl e ↦ or_left (first == x) _ (eq-eqb first x e)
      | inr ne ↦ or_right (first == x) _ (in_threads (first + 1) n x (omega arith) (omega arith))
    ]

below_threads : (first n x : ℕ) → x < first → is_in_scope (threads_from first n) x ≡ false
below_threads first zero x lt = refl
below_threads first (suc n) x lt = ap₂ (λ a b. a || b) (ne_eqb first x (λ e. omega arith)) (below_threads (first + 1) n x (omega arith))

distinct_threads : (first n : ℕ) → is_distinct (threads_from first n) ≡ true
distinct_threads first zero = refl
distinct_threads first (suc n) =
    and_from (not (is_in_scope (threads_from (first + 1) n) first)) _ (ap not (below_threads (first + 1) n first (omega arith))) (distinct_threads (first + 1) n)

-- what is taken from what is left
pub taken_here : (number : ℕ) (s : GeneratorState) (g : Generator) (t : Trace) (q : Question) → s ≡ state_left g t (all_threads number) → q.asker ≤ number → taking s q ≡ with_left (λ p. state_left g (p ∷ t) (all_threads number)) (offer g t (all_threads number) q)
taken_here number s g t q e le =
    ap (λ r. taking r q) e ∙ taken_is g t (all_threads number) q (distinct_threads 0 (suc number)) (in_threads 0 (suc number) q.asker (omega arith) (omega arith))

-- done, or not
pub spent_here : (number : ℕ) (s : GeneratorState) (g : Generator) (t : Trace) (b : Bool) → s ≡ state_left g t (all_threads number) → is_done s ≡ b → is_exhausted g t (all_threads number) ≡ b
spent_here number s g t b e h = sym (done_of g t (all_threads number)) ∙ ap is_done (sym e) ∙ h

offer_none : {X : Type 0} (left : Path → X) (o : Offer) → taken_call (with_left left o) ≡ None → o ≡ None
offer_none left None h = refl
offer_none left (Some r) h = absurd cc

-- no call
pub pending_here : (number : ℕ) (s : GeneratorState) (g : Generator) (t : Trace) (q : Question) → s ≡ state_left g t (all_threads number) → q.asker ≤ number → taken_call (taking s q) ≡ None → offer g t (all_threads number) q ≡ None
pending_here number s g t q e le h = offer_none _ _ (sym (ap taken_call (taken_here number s g t q e le)) ∙ h)

pub record Given (o : Offer) (c : Call) (r : GeneratorState) (left : Path → GeneratorState) : Type 0 where
  pub path : Path
  pub offered : o ≡ Some (path, c)
  pub rest : r ≡ left path

offer_some : (left : Path → GeneratorState) (o : Offer) (c : Call) (s : GeneratorState) → taken_call (with_left left o) ≡ Some c → Given o c (rest_of s (with_left left o)) left
offer_some left None c s h = absurd cc
offer_some left (Some r) c s h = record { path = r.0; offered = let e : r.1 ≡ c = cc in ap (λ k. Some (r.0, k)) e; rest = refl }

-- a call
pub given_here : (number : ℕ) (s r : GeneratorState) (g : Generator) (t : Trace) (q : Question) (c : Call) → s ≡ state_left g t (all_threads number) → q.asker ≤ number → taken_call (taking s q) ≡ Some c → r ≡ rest_of s (taking s q) → Given (offer g t (all_threads number) q) c r (λ p. state_left g (p ∷ t) (all_threads number))
given_here number s r g t q c e le h rest =
    let same = taken_here number s g t q e le in
    let found = offer_some (λ p. state_left g (p ∷ t) (all_threads number)) (offer g t (all_threads number) q) c s (sym (ap taken_call same) ∙ h) in
    record { path = found.path; offered = found.offered; rest = rest ∙ ap (rest_of s) same ∙ found.rest }

pub in_range : {X : Type 0} (xs : List X) (k : ℕ) (a b : X) → k < length xs → get_or xs k a ≡ get_or xs k b
in_range [] k a b lt = absurd (omega arith)
in_range (x ∷ xs) zero a b lt = refl
in_range (x ∷ xs) (suc k) a b lt = in_range xs k a b (omega arith)

one_more : (n : ℕ) → n + 1 ≡ suc n
one_more n = omega arith

-- The answers.

pub answers_done : (d : DriverState) (x : Thread) (random_number : ℕ) → is_done d.state ≡ true → (g : Generator) (t : Trace) → IsDriverOf d g t → Answers g t d x random_number Done d
answers_done d x random_number done g t s = (spent_here d.clients d.state g t true s.left done, refl)

pub answers_pending : (d e : DriverState) (x : Thread) (random_number : ℕ) → thread_number x ≤ d.clients → is_done d.state ≡ false → taken_call (taking d.state (question_by d x random_number)) ≡ None → e ≡ d → (g : Generator) (t : Trace) → IsDriverOf d g t → Answers g t d x random_number Pending e
answers_pending d e x random_number known unspent none same g t s =
    (spent_here d.clients d.state g t false s.left unspent, pending_here d.clients d.state g t (question_by d x random_number) s.left known none, same)

-- the driver after a call
pub record Gave (d e : DriverState) (x : Thread) (random_number : ℕ) (p : Process) (c : Call) : Type 0 where
  pub known : thread_number x ≤ d.clients
  pub unspent : is_done d.state ≡ false
  pub call : taken_call (taking d.state (question_by d x random_number)) ≡ Some c
  pub rest : e.state ≡ rest_of d.state (taking d.state (question_by d x random_number))
  pub given : e.given ≡ d.given + 1
  pub clients : e.clients ≡ d.clients
  pub busy : e.busy ≡ set d.busy (thread_number x) true
  pub processes : e.processes ≡ d.processes
  pub process : p ≡ next_process d x

pub answers_call : (d e : DriverState) (x : Thread) (random_number : ℕ) (p : Process) (c : Call) → Gave d e x random_number p c → (g : Generator) (t : Trace) → IsDriverOf d g t → Answers g t d x random_number (answer.Call p c) e
answers_call d e x random_number p c h g t s =
    let found = given_here d.clients d.state e.state g t (question_by d x random_number) c s.left h.known h.call h.rest in
    let stands : IsDriverOf e g (found.path ∷ t) = record {
      left = found.rest ∙ ap (λ n. state_left g (found.path ∷ t) (all_threads n)) (sym h.clients);
      count = h.given ∙ ap (λ n. n + 1) s.count ∙ one_more (length t);
    } in
    let gives : GivesCall d e x g t found.path = record { stands = stands; clients = h.clients; busy = h.busy; processes = h.processes } in
    (spent_here d.clients d.state g t false s.left h.unspent, h.process, found.path, found.offered, gives)

-- Before the first call.

pub threads_push : (made : List ℕ) (thread end : ℕ) (all : Scope) → thread < end → made ++ threads_from thread (end - thread) ≡ all → (made ++ thread ∷ []) ++ threads_from (thread + 1) (end - (thread + 1)) ≡ all
threads_push made thread end all lt h =
    let e : end - thread ≡ suc (end - (thread + 1)) = omega arith in
    append_assoc made (thread ∷ []) _ ∙ sym (ap (λ n. made ++ threads_from thread n) e) ∙ h

le_more : (k n m : ℕ) → n ≤ m → nat_le k n ≡ true → nat_le k m ≡ true
le_more k n m le h = let e : k ≤ n = leb-true k n h in le-leb k m (omega arith)

mutual
  pub fits_more : (g : Generator) (n m : ℕ) → n ≤ m → fits n g ≡ true → fits m g ≡ true
  fits_more nothing n m le h = refl
  fits_more (once c) n m le h = refl
  fits_more (rising r z) n m le h = refl
  fits_more (forever c) n m le h = refl
  fits_more (seq gs) n m le h = all_more gs n m le h
  fits_more (limit k g) n m le h = fits_more g n m le h
  fits_more (mix gs) n m le h = all_more gs n m le h
  fits_more (phases gs) n m le h = all_more gs n m le h
  fits_more (reserve ms g) n m le h =
      let parts = and_parts (nat_le (shares_sum ms) n) (shares_fit n ms && fits n g) h in
      let both = and_parts (shares_fit n ms) (fits n g) parts.1 in
      and_from _ _ (le_more (shares_sum ms) n m le parts.0) (and_from _ _ (shares_more ms n m le both.0) (fits_more g n m le both.1))
  fits_more (each_thread g) n m le h = fits_more g n m le h
  fits_more (clients g) n m le h = fits_more g n m le h
  fits_more (nemesis_only g) n m le h = fits_more g n m le h

  all_more : (gs : Generators) (n m : ℕ) → n ≤ m → all_fit n gs ≡ true → all_fit m gs ≡ true
  all_more no_generators n m le h = refl
  all_more (generator g gs) n m le h =
      let parts = and_parts (fits n g) (all_fit n gs) h in and_from _ _ (fits_more g n m le parts.0) (all_more gs n m le parts.1)

  shares_more : (ms : ShareList) (n m : ℕ) → n ≤ m → shares_fit n ms ≡ true → shares_fit m ms ≡ true
  shares_more no_shares n m le h = refl
  shares_more (share k g ms) n m le h =
      let parts = and_parts (fits n g) (shares_fit n ms) h in and_from _ _ (fits_more g n m le parts.0) (shares_more ms n m le parts.1)
