-- No checker refuses the history of a test.
use Rattle.std.proofs.Common.{◌≡◌, ℕ, zero, suc, ◌*◌, ◌≤◌, true, ◌&&◌, not, List, [], ◌∷◌, reverse, refl, sym, ap, ◌∙◌, subst, arith}
use mathlib.Core.Logic.{◌⊎◌, inl, inr}
use Rattle.std.specs.Prelude.{slice_get, Option, None, Some, IsSome, is_some}
use Rattle.std.proofs.lemmas.Bool.{false≢true}
use Rattle.std.proofs.lemmas.Option.{same_Some}
use Rattle.jh_check.specs.CounterResults.{error_of_pairing}
use Rattle.jh_check.specs.declared.error.CheckError.{CheckError}
use Rattle.jh_check.specs.declared.error.CheckError.TheVariants.{Pair, BadValue, NegativeAdd, RepeatedAppend, OutOfMemory}
use Rattle.jh_checkers.specs.Findings.{RefusesChecking}
use Rattle.jh_checkers.specs.declared.finding.Judging.{Judging}
use Rattle.jh_conversation.specs.Laws.{Drivers, HistoryIsFormed, invocations_in, run}
use Rattle.jh_conversation.specs.Offered.{CallsAreOffers}
use Rattle.jh_conversation.specs.Sound.{IsSoundMachine}
use Rattle.jh_conversation.proofs.KeptLemmas.{kept_run}
use Rattle.jh_conversation.proofs.SoundLemmas.{small_counts, sound_at_first, sound_by_line, sound_in_turn}
use Rattle.jh_gen.specs.DriverState.{max_calls}
use Rattle.jh_independent.specs.Keys.{history_of, is_bad, tuple_of}
use Rattle.jh_independent.specs.Refusals.{RefusesKeys, keys_question}
use Rattle.jh_independent.specs.declared.error.KeysError.{KeysError}
use Rattle.jh_independent.specs.declared.error.KeysError.TheVariants as keys_errors
use Rattle.jh_ops.specs.Operation.{Operation, is_client}
use Rattle.jh_ops.specs.Pairing.{IsWellFormed, RefusesPairing, history_pairs}
use Rattle.jh_txn_histories.specs.Histories.{IsRepeatedAt}
use Rattle.jh_ops.specs.declared.operation.Kind.{Kind}
use Rattle.jh_ops.specs.declared.operation.Process.{Process}
use Rattle.jh_ops.specs.declared.pairs.PairError.{PairError}
use Rattle.jh_ops.specs.declared.pairs.PairError.TheVariants as pairing
use Rattle.jh_ops.proofs.PlaceLemmas.{not_well_formed}
use Rattle.jh_test_parts.specs.Test.{IsFitTest, TestValue}
use Rattle.jh_test_parts.specs.Workloads.{test_checker}
use Rattle.jh_test_parts.specs.declared.parts.KeyShares.{KeyShares}
use Rattle.jh_test_parts.specs.declared.workload.TestWorkload.{TestWorkload}
use Rattle.jh_test_parts.specs.declared.workload.TestWorkload.TheVariants.{Register, Counter, Set, Ids, ListAppend}
use Rattle.jh_test_laws.specs.HistoryInside.{AllFit, Invokes, InvokesBy, InvokesOfKey, Doing, Completes, CompletesBy, CompletesOfKey, FitsBehind, FitsDoing, doing}
use Rattle.jh_test_laws.specs.TestHistory.{HistoriesAreFormed, HistoriesAreJudged, KeyHistoriesAreJudged, history_after}
use Rattle.jh_test_laws.proofs.AppendLemmas.{never_repeated}
use Rattle.jh_test_laws.proofs.AskedLemmas.{all_stand}
use Rattle.jh_test_laws.proofs.CounterLemmas.{never_in_error}
use Rattle.jh_test_laws.proofs.FormLemmas.{well_formed}
use Rattle.jh_test_laws.proofs.KeyLemmas.{key_fits}
use Rattle.jh_test_laws.proofs.RecordLemmas.{Whatever, WhateverEnds, all_behind, all_fit, newest, recorded_is, shaped_behind}
use Rattle.jh_test_laws.proofs.RegisterLemmas.{never_bad}
use Rattle.jh_test_laws.proofs.SetLemmas.{last_shows}
use Rattle.jh_test_laws.proofs.SuitLemmas.{all_suit}
use Rattle.jh_test_laws.proofs.TransactionLemmas.{never_bad as never_bad_transaction}

-- the operations of a test's history
history_is : (t : TestValue) (d : Drivers t) (lines : List (List ℕ)) → history_after t d lines ≡ reverse (newest t.start.names (run t d lines).history)
history_is t d lines = recorded_is t.start.names (run t d lines).history

pub are_formed : HistoryIsFormed → HistoriesAreFormed
are_formed formed t d lines =
    let past = (run t d lines).history in
    subst IsWellFormed (sym (history_is t d lines))
    (well_formed Whatever WhateverEnds (reverse (newest t.start.names past)) (all_fit Whatever WhateverEnds (newest t.start.names past) (shaped_behind t t.start.names past (formed t d lines))))

fits : HistoryIsFormed → CallsAreOffers → (t : TestValue) (d : Drivers t) (lines : List (List ℕ)) → IsFitTest t → AllFit (InvokesBy t.keys t.workload) (CompletesBy t.keys t.workload) [] (history_after t d lines)
fits formed offers t d lines fit =
    let past = (run t d lines).history in
    subst (AllFit (InvokesBy t.keys t.workload) (CompletesBy t.keys t.workload) []) (sym (history_is t d lines))
    (all_fit (InvokesBy t.keys t.workload) (CompletesBy t.keys t.workload) (newest t.start.names past)
    (all_behind t t.start.names past (formed t d lines) (all_stand t d lines).asked (all_suit offers t d lines fit)))

-- ---- one history

unpaired : (history : List Operation) → IsWellFormed history → (error : PairError) → error_of_pairing error ≡ Pair error → RefusesPairing history error → ⊥
unpaired history formed (pairing.AfterCrash place) e h = not_well_formed history (pairing.AfterCrash place) h formed
unpaired history formed (pairing.DoubleInvoke place) e h = not_well_formed history (pairing.DoubleInvoke place) h formed
unpaired history formed (pairing.NoInvoke place) e h = not_well_formed history (pairing.NoInvoke place) h formed
unpaired history formed pairing.OutOfMemory e h = absurd cc

-- no transaction appends what was appended before
abbrev Once : TestWorkload → List Operation → Type 0
Once ListAppend history = (place : ℕ) → IsRepeatedAt history (history_pairs history) place → ⊥
Once workload history = Unit {0}

never_refused : (workload : TestWorkload) (history : List Operation) → AllFit (Invokes workload) (Completes workload) [] history → Once workload history → (e : CheckError) → RefusesChecking (test_checker workload) history e → e ≡ OutOfMemory
never_refused workload history fits once OutOfMemory h = refl
never_refused Register history fits once (Pair error) h = absurd (unpaired history (well_formed (Invokes Register) (Completes Register) history fits) error h.0 h.1)
never_refused Register history fits once (BadValue place) h = absurd (never_bad history fits place h.1)
never_refused Register history fits once (NegativeAdd place) h = absurd h
never_refused Register history fits once (RepeatedAppend place) h = absurd h
never_refused Counter history fits once (Pair error) h = absurd (unpaired history (well_formed (Invokes Counter) (Completes Counter) history fits) error h.0 h.1)
never_refused Counter history fits once (BadValue place) h = absurd (never_in_error history fits (BadValue place) h.1)
never_refused Counter history fits once (NegativeAdd place) h = absurd (never_in_error history fits (NegativeAdd place) h.1)
never_refused Counter history fits once (RepeatedAppend place) h = absurd h
never_refused Set history fits once (Pair error) h = absurd h
never_refused Set history fits once (BadValue place) h = absurd (last_shows history fits place h.0 h.1 h.2)
never_refused Set history fits once (NegativeAdd place) h = absurd h
never_refused Set history fits once (RepeatedAppend place) h = absurd h
never_refused Ids history fits once e h = h
never_refused ListAppend history fits once (Pair error) h = absurd (unpaired history (well_formed (Invokes ListAppend) (Completes ListAppend) history fits) error h.0 h.1)
never_refused ListAppend history fits once (BadValue place) h = absurd (never_bad_transaction history fits place h.1.0)
never_refused ListAppend history fits once (NegativeAdd place) h = absurd h
never_refused ListAppend history fits once (RepeatedAppend place) h = absurd (once place h.1.0)

-- a test makes no more calls than its drivers may
few_calls : (t : TestValue) (d : Drivers t) (lines : List (List ℕ)) → IsFitTest t → invocations_in (run t d lines).history ≤ 2 * max_calls
few_calls t d lines fit =
    let m = run t d lines in
    let sound : IsSoundMachine t m = kept_run t d (IsSoundMachine t) (sound_in_turn t fit) (sound_by_line t fit) lines (sound_at_first t d) in
    let few = (small_counts t m sound).given in
    let given = (all_stand t d lines).given in
    omega (arith, few, given)

appends_once : HistoryIsFormed → (t : TestValue) (d : Drivers t) (lines : List (List ℕ)) → IsFitTest t → t.keys ≡ None → (workload : TestWorkload) → Once workload (history_after t d lines)
appends_once formed t d lines fit none Register = tt
appends_once formed t d lines fit none Counter = tt
appends_once formed t d lines fit none Set = tt
appends_once formed t d lines fit none Ids = tt
appends_once formed t d lines fit none ListAppend =
    let past = (run t d lines).history in
    subst (Once ListAppend) (sym (history_is t d lines))
    (never_repeated t t.start.names past fit.transactions none (formed t d lines) (all_stand t d lines).asked (few_calls t d lines fit))

pub are_judged : HistoryIsFormed → CallsAreOffers → HistoriesAreJudged
are_judged formed offers t d lines fit none e refused =
    let history = history_after t d lines in
    let whole = subst (λ keys. AllFit (InvokesBy keys t.workload) (CompletesBy keys t.workload) [] history) none (fits formed offers t d lines fit) in
    never_refused t.workload history whole (appends_once formed t d lines fit none t.workload) e refused

-- ---- by keys

module _ (workload : TestWorkload) where
  has_tuple : (d : Doing) (kind : Kind) (op : Operation) → FitsDoing (InvokesOfKey workload) (CompletesOfKey workload) d kind op → is_some (tuple_of op.value) ≡ true
  has_tuple Doing.Idle Kind.Invoke op h = ap is_some h.1
  has_tuple Doing.Idle Kind.Ok op h = absurd h
  has_tuple Doing.Idle Kind.Fail op h = absurd h
  has_tuple Doing.Idle Kind.Info op h = absurd h
  has_tuple (Doing.Busy call) Kind.Invoke op h = absurd h
  has_tuple (Doing.Busy call) Kind.Ok op (asked, answer, is, at, same, f, ok) = ap is_some at
  has_tuple (Doing.Busy call) Kind.Fail op (asked, answer, is, at, same, f, ok) = ap is_some at
  has_tuple (Doing.Busy call) Kind.Info op (asked, answer, is, at, same, f, ok) = ap is_some at
  has_tuple Doing.Gone Kind.Invoke op h = absurd h
  has_tuple Doing.Gone Kind.Ok op h = absurd h
  has_tuple Doing.Gone Kind.Fail op h = absurd h
  has_tuple Doing.Gone Kind.Info op h = absurd h

  never_bad_tuple : (past : List Operation) (op : Operation) (process : Process) → FitsBehind (InvokesOfKey workload) (CompletesOfKey workload) past process op → (is_client process && not (is_some (tuple_of op.value))) ≡ true → ⊥
  never_bad_tuple past op Process.Nemesis h e = false≢true e
  never_bad_tuple past op (Process.Client n) h e = false≢true (sym (ap not (has_tuple (doing n past) op.kind op h)) ∙ e)

  tuples : (past ops : List Operation) → AllFit (InvokesOfKey workload) (CompletesOfKey workload) past ops → (place : ℕ) (op : Operation) → slice_get ops place ≡ Some op → is_bad op ≡ true → ⊥
  tuples past [] h place op at bad = absurd (nothing place at)
    where
      nothing : (i : ℕ) → slice_get [] i ≡ Some op → ⊥
      nothing zero e = cc
      nothing (suc i) e = cc
  tuples past (x ∷ ops) h zero op at bad =
      let bad_x : is_bad x ≡ true = subst (λ (o : Operation). is_bad o ≡ true) (sym (same_Some x op at)) bad in
      never_bad_tuple past x x.process h.0 bad_x
  tuples past (x ∷ ops) h (suc place) op at bad = tuples (x ∷ past) ops h.1 place op at bad

  never_refused_key : (history : List Operation) → AllFit (InvokesOfKey workload) (CompletesOfKey workload) [] history → (workload ≡ ListAppend → ⊥) → (judging : Judging) → judging.checker ≡ test_checker workload
      → (error : KeysError) → RefusesKeys (keys_question judging history) error → (error ≡ keys_errors.Thread) ⊎ (error ≡ keys_errors.OutOfMemory)
  never_refused_key history h other judging is (keys_errors.BadValue place) (op, at, bad, before) = absurd (tuples [] history h place op at bad)
  never_refused_key history h other judging is (keys_errors.Key given) (split, (place, key, at, before, (inner, refused, not_memory, given_is))) =
      absurd (not_memory (never_refused workload (history_of key history) (key_fits workload key history h) (once workload other) inner (subst (λ c. RefusesChecking c (history_of key history) inner) is refused)))
    where
      once : (c : TestWorkload) → (c ≡ ListAppend → ⊥) → Once c (history_of key history)
      once Register other = tt
      once Counter other = tt
      once Set other = tt
      once Ids other = tt
      once ListAppend other = absurd (other refl)
  never_refused_key history h other judging is keys_errors.Thread r = inl refl
  never_refused_key history h other judging is keys_errors.OutOfMemory r = inr refl

pub key_are_judged : HistoryIsFormed → CallsAreOffers → KeyHistoriesAreJudged
key_are_judged formed offers t d lines fit some other judging is error refused = go t.keys some (fits formed offers t d lines fit)
  where
    go : (keys : Option KeyShares) → IsSome keys → AllFit (InvokesBy keys t.workload) (CompletesBy keys t.workload) [] (history_after t d lines) → (error ≡ keys_errors.Thread) ⊎ (error ≡ keys_errors.OutOfMemory)
    go None s h = absurd (false≢true s)
    go (Some shares) s h = never_refused_key t.workload (history_after t d lines) h other judging is error refused
