-- No process has two calls open, none goes on after a crash, and each completion is of the call that its process has open.
use Rattle.std.proofs.Common.{◌≡◌, ◌≢◌, ℕ, zero, suc, ◌+◌, ◌*◌, ◌<◌, ◌≤◌, ◌==◌, true, List, [], ◌∷◌}
use Rattle.std.proofs.Common.{length, set, get_or, refl, sym, ap, ◌∙◌, arith, subst, eq-eqb}
use Rattle.std.proofs.Common.{length-set}
use mathlib.Core.Logic.{◌⊎◌, inl, inr}
use Rattle.std.specs.Prelude.{Option, None, Some, if◌then◌else◌}
use Rattle.std.proofs.lemmas.Bool.{and_parts, false≢true, cases_eq, cases_lt, ne_eqb}
use Rattle.std.proofs.lemmas.List.{get_or-replicate, get_or-set_same, get_or-set_other}
use Rattle.std.proofs.lemmas.List.{length-replicate}
use Rattle.std.proofs.Math.Nat.{mul-le-mul_left, mul-suc}
use Rattle.jh_nemesis.specs.State.{first_state}
use Rattle.jh_ops.specs.declared.operation.Kind.{Kind}
use Rattle.jh_edn.specs.Edn.{Edn}
use Rattle.jh_conversation.specs.Laws.{Drivers, IsEndOfOpen, IsFormed, Status, after_end, run, status}
use Rattle.jh_conversation.specs.Laws.Status.{Idle, Busy}
use Rattle.jh_conversation.specs.Lines.{at_first, more_crashes}
use Rattle.jh_test_parts.specs.LineMeanings.{kept_pairs}
use Rattle.jh_conversation.specs.Machine.{Machine, are_free, has_no_call, new_callers, no_caller}
use Rattle.jh_conversation.specs.Machine.{caller_process, caller_of}
use Rattle.jh_conversation.specs.Sound.{IsBetween}
use Rattle.jh_test_parts.specs.Test.{TestValue}
use Rattle.jh_conversation.specs.Turn.{call_made, may_call_in_phase}
use Rattle.jh_test_parts.specs.Test.{node_of_thread}
use Rattle.jh_test_parts.specs.declared.calls.ValuedCall.{ValuedCall}
use Rattle.jh_conversation.specs.declared.callers.Caller.{Caller}
use Rattle.jh_test_parts.specs.declared.records.Recorded.TheVariants.{Invoked, Ended}
use Rattle.jh_test_parts.specs.declared.records.Recorded.{Recorded}
use Rattle.jh_conversation.specs.declared.phase.Phase.{Phase}
use Rattle.jh_conversation.specs.declared.phase.Phase.TheVariants.{Main, Heal, Rest, Final, Over}
use Rattle.jh_conversation.proofs.KeptLemmas.{IsKeptByLine, IsKeptInTurn, by_answers, kept_run}

abbrev caller : List Caller → ℕ → Caller
caller callers thread = get_or callers thread no_caller

-- what the process of a caller does
abbrev shown : Option ValuedCall → Status
shown None = Idle
shown (Some call) = Busy call

-- the number of a process tells its thread, and how often that began anew
lower : (n t u a b : ℕ) → t < n → u < n → a < b → t + n * a ≡ u + n * b → ⊥
lower n t u a b ht hu h e =
    let k : n * suc a ≤ n * b = mul-le-mul_left n (let m : suc a ≤ b = omega arith in m) in
    let j : n * suc a ≡ n * a + n = mul-suc n a in
    omega arith

same_life : (n t u a b : ℕ) → t < n → u < n → t + n * a ≡ u + n * b → a ≡ b
same_life n t u a b ht hu e = go (cases_eq a b)
  where
    further : a ≢ b → (a < b) ⊎ (b ≤ a) → a ≡ b
    further ne (inl h) = absurd (lower n t u a b ht hu h e)
    further ne (inr h) = absurd (lower n u t b a hu ht (omega arith) (sym e))

    go : (a ≡ b) ⊎ (a ≡ b → ⊥) → a ≡ b
    go (inl is) = is
    go (inr ne) = further ne (cases_lt a b)

same_thread : (n t u a b : ℕ) → t < n → u < n → t + n * a ≡ u + n * b → t ≡ u
same_thread n t u a b ht hu e =
    let k = same_life n t u a b ht hu e in
    let j : n * a ≡ n * b = ap (λ l. n * l) k in
    omega arith

pub record AreCallers (s : TestValue) (n : ℕ) (callers : List Caller) (crashed : ℕ) (history : List Recorded) : Type 0 where
  pub wide : length callers ≡ n
  pub low : (t : ℕ) → t < n → (caller callers t).used_numbers ≤ crashed
  pub stands : (t : ℕ) → t < n → status (t + n * (caller callers t).used_numbers) history ≡ shown (caller callers t).call
  pub later : (t life : ℕ) → t < n → (caller callers t).used_numbers < life → status (t + n * life) history ≡ Idle
  pub formed : IsFormed s history

other : (q p : ℕ) (st x : Status) → q ≢ p → (if q == p then st else x) ≡ x
other q p st x ne = ap (λ b. (if b then st else x)) (ne_eqb q p ne)

this : (q p : ℕ) (st x : Status) → q ≡ p → (if q == p then st else x) ≡ st
this q p st x e = ap (λ b. (if b then st else x)) (eq-eqb q p e)

-- the status of every process after a record of process q
abbrev IsNews : ℕ → Status → List Recorded → List Recorded → Type 0
IsNews q st past next = (p : ℕ) → status p next ≡ (if q == p then st else status p past)

-- a thread's caller changes with a record of its process
callers_next : (s : TestValue) (n : ℕ) (callers : List Caller) (crashed most : ℕ) (past next : List Recorded) (t : ℕ) (w : Caller) (st : Status) → AreCallers s n callers crashed past → t < n
    → IsNews (t + n * (caller callers t).used_numbers) st past next → IsFormed s next
    → (caller callers t).used_numbers ≤ w.used_numbers → crashed ≤ most → w.used_numbers ≤ most → ((caller callers t).used_numbers ≡ w.used_numbers → st ≡ shown w.call) → ((caller callers t).used_numbers < w.used_numbers → shown w.call ≡ Idle)
    → AreCallers s n (set callers t w) most next
callers_next s n callers crashed most past next t w st h within news formed up most_up top same anew = record {
  wide = length-set callers t w ∙ h.wide;
  low = λ u hu. low_at u hu (cases_eq u t);
  stands = λ u hu. stands_at u hu (cases_eq u t);
  later = λ u life hu. later_at u life hu (cases_eq u t);
  formed = formed;
}
  where
    old : Caller
    old = caller callers t

    here : (u : ℕ) → u ≡ t → caller (set callers t w) u ≡ w
    here u e = ap (caller (set callers t w)) e ∙ get_or-set_same callers t w no_caller (omega (arith, h.wide))

    there : (u : ℕ) → u ≢ t → caller (set callers t w) u ≡ caller callers u
    there u ne = get_or-set_other callers t u w no_caller ne

    low_at : (u : ℕ) → u < n → (u ≡ t) ⊎ (u ≡ t → ⊥) → (caller (set callers t w) u).used_numbers ≤ most
    low_at u hu (inl e) = subst (λ (x : Caller). x.used_numbers ≤ most) (sym (here u e)) top
    low_at u hu (inr ne) = let k = h.low u hu in subst (λ (x : Caller). x.used_numbers ≤ most) (sym (there u ne)) (omega arith)

    own : (w.used_numbers ≡ (caller callers t).used_numbers) ⊎ (w.used_numbers ≡ (caller callers t).used_numbers → ⊥) → status (t + n * w.used_numbers) next ≡ shown w.call
    own (inl e) = news (t + n * w.used_numbers) ∙ this _ _ st _ (ap (λ l. t + n * l) (sym e)) ∙ same (sym e)
    own (inr ne) =
        let less : (caller callers t).used_numbers < w.used_numbers = omega arith in
        news (t + n * w.used_numbers) ∙ other _ _ st _ (λ e. ne (sym (same_life n t t _ _ within within e))) ∙ h.later t w.used_numbers within less ∙ sym (anew less)

    stands_at : (u : ℕ) → u < n → (u ≡ t) ⊎ (u ≡ t → ⊥) → status (u + n * (caller (set callers t w) u).used_numbers) next ≡ shown (caller (set callers t w) u).call
    stands_at u hu (inl e) =
        subst (λ (x : Caller). status (u + n * x.used_numbers) next ≡ shown x.call) (sym (here u e))
        (subst (λ v. status (v + n * w.used_numbers) next ≡ shown w.call) (sym e) (own (cases_eq _ _)))
    stands_at u hu (inr ne) =
        subst (λ (x : Caller). status (u + n * x.used_numbers) next ≡ shown x.call) (sym (there u ne))
        (news (u + n * (caller callers u).used_numbers) ∙ other _ _ st _ (λ e. ne (sym (same_thread n t u _ _ within hu e))) ∙ h.stands u hu)

    later_at : (u life : ℕ) → u < n → (u ≡ t) ⊎ (u ≡ t → ⊥) → (caller (set callers t w) u).used_numbers < life → status (u + n * life) next ≡ Idle
    later_at u life hu (inl e) less =
        let beyond : w.used_numbers < life = subst (λ (x : Caller). x.used_numbers < life) (here u e) less in
        news (u + n * life) ∙ other _ _ st _ (λ f. let k = same_life n t u _ _ within hu f in let j : (caller callers t).used_numbers ≡ life = k in absurd (omega arith))
        ∙ h.later u life hu (subst (λ v. (caller callers v).used_numbers < life) (sym e) (omega arith))
    later_at u life hu (inr ne) less =
        news (u + n * life) ∙ other _ _ st _ (λ f. ne (sym (same_thread n t u _ _ within hu f)))
        ∙ h.later u life hu (subst (λ (x : Caller). x.used_numbers < life) (there u ne) less)

pub in_callers : (callers : List Caller) (t : ℕ) (call : ValuedCall) → (caller callers t).call ≡ Some call → t < length callers
in_callers [] t call e = absurd (cc e)
in_callers (x ∷ callers) zero call e = omega arith
in_callers (x ∷ callers) (suc t) call e = let k = in_callers callers t call e in omega arith

free_is : (c : Option ValuedCall) → has_no_call c ≡ true → c ≡ None
free_is None e = refl
free_is (Some call) e = absurd (false≢true e)

pub free_at : (callers : List Caller) → are_free callers ≡ true → (t : ℕ) → (caller callers t).call ≡ None
free_at [] e t = refl
free_at (x ∷ callers) e zero = free_is x.call (and_parts _ _ e).0
free_at (x ∷ callers) e (suc t) = free_at callers (and_parts _ _ e).1 t

pub long_new : (n life : ℕ) → length (new_callers n life) ≡ n
long_new n life = length-replicate n _

pub new_at : (n life t : ℕ) → t < n → caller (new_callers n life) t ≡ record { used_numbers = life; call = None }
new_at n life t h = get_or-replicate n t _ no_caller h

-- all begin anew, as processes that never were, or went on
callers_anew : (s : TestValue) (n : ℕ) (callers : List Caller) (crashed : ℕ) (past : List Recorded) → AreCallers s n callers crashed past → are_free callers ≡ true → AreCallers s n (new_callers n crashed) crashed past
callers_anew s n callers crashed past h free = record {
  wide = long_new n crashed;
  low = λ t ht. subst (λ (x : Caller). x.used_numbers ≤ crashed) (sym (new_at n crashed t ht)) (omega arith);
  stands = λ t ht. subst (λ (x : Caller). status (t + n * x.used_numbers) past ≡ shown x.call) (sym (new_at n crashed t ht)) (idle t ht (cases_lt _ _));
  later = λ t life ht less. let beyond : crashed < life = subst (λ (x : Caller). x.used_numbers < life) (new_at n crashed t ht) less in let k = h.low t ht in h.later t life ht (omega arith);
  formed = h.formed;
}
  where
    idle : (t : ℕ) → t < n → ((caller callers t).used_numbers < crashed) ⊎ (crashed ≤ (caller callers t).used_numbers) → status (t + n * crashed) past ≡ Idle
    idle t ht (inl less) = h.later t crashed ht less
    idle t ht (inr ge) =
        let k = h.low t ht in
        let e : crashed ≡ (caller callers t).used_numbers = omega arith in
        ap (λ l. status (t + n * l) past) e ∙ h.stands t ht ∙ ap shown (free_at callers free t)

abbrev pub Holds : TestValue → Machine → Type 0
Holds s m = AreCallers s s.clients m.callers m.crashed m.history × (IsBetween m.phase → are_free m.callers ≡ true)

pub none_between : (s : TestValue) (phase : Phase) (stops given now : ℕ) → may_call_in_phase phase s stops given now ≡ true → IsBetween phase → ⊥
none_between s Main stops given now may b = b
none_between s Heal stops given now may b = false≢true may
none_between s Rest stops given now may b = false≢true may
none_between s Final stops given now may b = b
none_between s Over stops given now may b = b

pub between : (phase next : Phase) → phase ≡ next → IsBetween next → IsBetween phase
between phase next is h = subst IsBetween (sym is) h

pub holds_in_turn : (s : TestValue) → IsKeptInTurn s (Holds s)
holds_in_turn s = record {
  calls = by_answers _ _ (record {
    asks = λ m d w h. h;
    spends = λ m h. h;
    invokes = λ m thread request within idle may h.
        let call = call_made s m thread request in (
          callers_next s s.clients m.callers m.crashed m.crashed m.history (Invoked m.clock (caller_process s m thread) (node_of_thread s thread) call ∷ m.history) thread
              (record { used_numbers = (caller_of m thread).used_numbers; call = Some call }) (Busy call) h.0 within
              (λ p. refl) (h.0.stands thread within ∙ ap shown idle, h.0.formed) (omega arith) (omega arith) (h.0.low thread within) (λ _. refl) (λ less. absurd (omega arith)),
          (λ b. absurd (none_between s m.phase m.stops m.given m.clock (and_parts _ _ may).1 b)),
        );
  });
  begins = λ m due w d h. (record { wide = h.0.wide; low = h.0.low; stands = h.0.stands; later = h.0.later; formed = h.0.formed }, h.1);
  heals = λ m is e h. (h.0, λ _. (and_parts _ _ e).0);
  rests = λ m is w q h. (h.0, λ _. h.1 (between _ _ is tt));
  ends_rest = λ m is h. (h.0, λ b. absurd b);
  finals = λ m d is f h. (callers_anew s s.clients m.callers m.crashed m.history h.0 (h.1 (between _ _ is tt)), λ b. absurd b);
  ends_final = λ m is e h. (h.0, λ b. absurd b);
}

none-some : (c : Option ValuedCall) (x : ValuedCall) → c ≡ None → c ≡ Some x → ⊥
none-some c x e f = cc

pub holds_by_line : (s : TestValue) → IsKeptByLine s (Holds s)
holds_by_line s = record {
  counts_line = λ m h. h;
  clocks = λ m time h. h;
  stops = λ m h. h;
  refuses = λ m why h. h;
  step_ends = λ m w op e h. (record { wide = h.0.wide; low = h.0.low; stands = h.0.stands; later = h.0.later; formed = h.0.formed }, h.1);
  finishes = λ m thread call op is no fits h.
      let within : thread < s.clients = let k = in_callers m.callers thread call is in omega (arith, h.0.wide) in (
        callers_next s s.clients m.callers m.crashed (m.crashed + more_crashes op.kind) m.history
            (Ended m.clock (caller_process s m thread) op.kind call.request op.value (kept_pairs op) ∷ m.history) thread
            (record { used_numbers = (caller_of m thread).used_numbers + more_crashes op.kind; call = None }) (after_end op.kind) h.0 within
            (λ p. refl) (ends _ call op.kind op.value (h.0.stands thread within ∙ ap shown is) (no, refl, fits), h.0.formed) (omega arith) (omega arith) (let k = h.0.low thread within in omega arith)
            (ended op.kind (caller_of m thread).used_numbers) (λ _. refl),
        (λ b. absurd (none-some _ call (free_at m.callers (h.1 b) thread) is)),
      );
}
  where
    ends : (st : Status) (call : ValuedCall) (kind : Kind) (value : Edn) → st ≡ Busy call → IsEndOfOpen s (Busy call) kind call.request value → IsEndOfOpen s st kind call.request value
    ends st call kind value e h = subst (λ (x : Status). IsEndOfOpen s x kind call.request value) (sym e) h

    ended : (kind : Kind) (life : ℕ) → life ≡ life + more_crashes kind → after_end kind ≡ Idle
    ended Kind.Invoke life e = refl
    ended Kind.Ok life e = refl
    ended Kind.Fail life e = refl
    ended Kind.Info life e = absurd (omega arith)

pub holds_at_first : (s : TestValue) (d : Drivers s) → Holds s (at_first s d.first d.final_calls (first_state s.start))
holds_at_first s d = (
  record {
    wide = long_new s.clients 0;
    low = λ t ht. subst (λ (x : Caller). x.used_numbers ≤ 0) (sym (new_at s.clients 0 t ht)) (omega arith);
    stands = λ t ht. subst (λ (x : Caller). Idle ≡ shown x.call) (sym (new_at s.clients 0 t ht)) refl;
    later = λ t life ht less. refl;
    formed = tt;
  },
  λ b. absurd b,
)

pub all_formed : (s : TestValue) (d : Drivers s) (lines : List (List ℕ)) → IsFormed s (run s d lines).history
all_formed s d lines = (kept_run s d (Holds s) (holds_in_turn s) (holds_by_line s) lines (holds_at_first s d)).0.formed
