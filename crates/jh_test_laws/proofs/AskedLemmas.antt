-- What calls ask with is what the calls before them leave.
use Rattle.std.proofs.Common.{◌≡◌, ℕ, zero, suc, ◌+◌, ◌<◌, List, [], ◌∷◌, length, set, refl, sym, ap, ◌∙◌, arith, eq-eqb}
use mathlib.Core.Logic.{◌⊎◌, inl, inr}
use Rattle.std.specs.Prelude.{Option, None, Some, pos, if◌then◌else◌, slice_index_or, replicate}
use Rattle.std.proofs.Common.{length-set}
use Rattle.std.proofs.lemmas.Bool.{cases_eq, ne_eqb}
use Rattle.std.proofs.lemmas.List.{get_or-set_same, get_or-set_other, length-replicate}
use Rattle.std.proofs.Math.Nat.{div-le_self}
use Rattle.jh_edn.specs.Edn.{Edn, int}
use Rattle.jh_edn.specs.Parts.{vector_of}
use Rattle.jh_nemesis.specs.State.{first_state}
use Rattle.jh_conversation.specs.Laws.{Drivers, invocations_in, run}
use Rattle.jh_conversation.specs.Lines.{at_first}
use Rattle.jh_conversation.specs.Machine.{Machine, caller_of, caller_process}
use Rattle.jh_conversation.specs.Turn.{call_made, counts_after, group_of, key_of_call, source_after, value_asked, value_with_key}
use Rattle.jh_conversation.proofs.KeptLemmas.{IsKeptByLine, IsKeptInTurn, by_answers, kept_run}
use Rattle.jh_conversation.proofs.OfferLemmas.{thread_is}
use Rattle.jh_test_parts.specs.Test.{TestValue, node_of_thread, thread_of_process}
use Rattle.jh_test_parts.specs.declared.calls.ValuedCall.{ValuedCall}
use Rattle.jh_test_parts.specs.declared.parts.KeyShares.{KeyShares}
use Rattle.jh_test_parts.specs.declared.records.Recorded.{Recorded}
use Rattle.jh_test_parts.specs.declared.records.Recorded.TheVariants.{Invoked, Ended, StepBegun, StepEnded}
use Rattle.jh_test_laws.specs.Asking.{AreAsked, CallsAsk, calls_of_group, source_behind, with_key_in_turn}

-- the calls of each group are counted
abbrev pub AreCountsOf : TestValue → Option KeyShares → List ℕ → List Recorded → Type 0
AreCountsOf t None counts past = Unit {0}
AreCountsOf t (Some shares) counts past = (group : ℕ) → slice_index_or counts group 0 ≡ calls_of_group t shares group past

pub record Stands (t : TestValue) (m : Machine) : Type 0 where
  pub wide : length m.calls_by_group ≡ t.clients
  pub counts : AreCountsOf t t.keys m.calls_by_group m.history
  pub source : m.transactions ≡ source_behind t m.history
  pub given : m.given ≡ invocations_in m.history
  pub asked : AreAsked t m.history

keyed : (t : TestValue) (keys : Option KeyShares) (thread : ℕ) (counts : List ℕ) (past : List Recorded) (value : Edn) → AreCountsOf t keys counts past
    → value_with_key t keys thread counts value ≡ with_key_in_turn t keys thread past value
keyed t None thread counts past value h = refl
keyed t (Some shares) thread counts past value h =
    ap (λ n. vector_of (int (pos (key_of_call t shares (group_of shares thread) n)) ∷ value ∷ [])) (h (group_of shares thread))

-- one more call of a thread is counted in its group
counts_next : (t : TestValue) (keys : Option KeyShares) (counts : List ℕ) (past : List Recorded) (time process thread node : ℕ) (call : ValuedCall)
    → thread_of_process t process ≡ thread → thread < t.clients → length counts ≡ t.clients → AreCountsOf t keys counts past
    → AreCountsOf t keys (counts_after keys thread counts) (Invoked time process node call ∷ past)
counts_next t None counts past time process thread node call is within wide h = tt
counts_next t (Some shares) counts past time process thread node call is within wide h = λ group. go group (cases_eq group own)
  where
    own : ℕ
    own = group_of shares thread

    asks : ℕ
    asks = group_of shares (thread_of_process t process)

    asks_own : asks ≡ own
    asks_own = ap (group_of shares) is

    inside : own < length counts
    inside = let low = div-le_self thread shares.threads in omega (arith, low, within, wide)

    go : (group : ℕ) → (group ≡ own) ⊎ (group ≡ own → ⊥) → slice_index_or (set counts own (slice_index_or counts own 0 + 1)) group 0 ≡ calls_of_group t shares group (Invoked time process node call ∷ past)
    go group (inl e) =
        let more : slice_index_or (set counts own (slice_index_or counts own 0 + 1)) group 0 ≡ slice_index_or counts own 0 + 1 =
        ap (λ j. slice_index_or (set counts own (slice_index_or counts own 0 + 1)) j 0) e ∙ get_or-set_same counts own (slice_index_or counts own 0 + 1) 0 inside in
        let before : slice_index_or counts own 0 ≡ calls_of_group t shares group past = h own ∙ ap (λ j. calls_of_group t shares j past) (sym e) in
        let one : calls_of_group t shares group (Invoked time process node call ∷ past) ≡ suc (calls_of_group t shares group past) =
        ap (λ b. if b then suc (calls_of_group t shares group past) else calls_of_group t shares group past) (eq-eqb asks group (asks_own ∙ sym e)) in
        omega (arith, more, before, one)
    go group (inr ne) =
        get_or-set_other counts own group _ 0 ne ∙ (h group
        ∙ sym (ap (λ b. if b then suc (calls_of_group t shares group past) else calls_of_group t shares group past) (ne_eqb asks group (λ e. ne (sym e ∙ asks_own)))))

-- a record that is no call counts for no group
abbrev IsNoCall : Recorded → Type 0
IsNoCall (Invoked time process node call) = ⊥
IsNoCall _ = Unit {0}

no_call : (t : TestValue) (keys : Option KeyShares) (counts : List ℕ) (past : List Recorded) (r : Recorded) → IsNoCall r → AreCountsOf t keys counts past → AreCountsOf t keys counts (r ∷ past)
no_call t None counts past r is h = tt
no_call t (Some shares) counts past (Invoked time process node call) is h = absurd is
no_call t (Some shares) counts past (Ended time process kind request value rest) is h = h
no_call t (Some shares) counts past (StepBegun time entry step cells) is h = h
no_call t (Some shares) counts past (StepEnded time entry code rest) is h = h

stands_in_turn : (t : TestValue) → IsKeptInTurn t (Stands t)
stands_in_turn t = record {
  calls = by_answers _ _ (record {
    asks = λ m d w h. record { wide = h.wide; counts = h.counts; source = h.source; given = h.given; asked = h.asked };
    spends = λ m h. record { wide = h.wide; counts = h.counts; source = h.source; given = h.given; asked = h.asked };
    invokes = λ m thread request within idle may h.
        let process = caller_process t m thread in
        let call = call_made t m thread request in
        let own : thread_of_process t process ≡ thread = thread_is thread t.clients (caller_of m thread).used_numbers within in
        let value : call.value ≡ with_key_in_turn t t.keys thread m.history (value_asked (source_behind t m.history) request) =
        keyed t t.keys thread m.calls_by_group m.history (value_asked m.transactions request) h.counts
        ∙ ap (λ s. with_key_in_turn t t.keys thread m.history (value_asked s request)) h.source in
        record {
          wide = long_after t.keys thread m.calls_by_group ∙ h.wide;
          counts = counts_next t t.keys m.calls_by_group m.history m.clock process thread (node_of_thread t thread) call own within h.wide h.counts;
          source = ap (λ s. source_after s request) h.source;
          given = (let one = h.given in omega (arith, one));
          asked = (
            ap (node_of_thread t) (sym own),
            value ∙ ap (λ n. with_key_in_turn t t.keys n m.history (value_asked (source_behind t m.history) request)) (sym own),
            h.asked,
          );
        };
  });
  begins = λ m due w d h. record { wide = h.wide; counts = no_call t t.keys m.calls_by_group m.history (StepBegun m.clock due.entry due.step _) tt h.counts; source = h.source; given = h.given; asked = h.asked };
  heals = λ m is e h. record { wide = h.wide; counts = h.counts; source = h.source; given = h.given; asked = h.asked };
  rests = λ m is w q h. record { wide = h.wide; counts = h.counts; source = h.source; given = h.given; asked = h.asked };
  ends_rest = λ m is h. record { wide = h.wide; counts = h.counts; source = h.source; given = h.given; asked = h.asked };
  finals = λ m d is f h. record { wide = h.wide; counts = h.counts; source = h.source; given = h.given; asked = h.asked };
  ends_final = λ m is e h. record { wide = h.wide; counts = h.counts; source = h.source; given = h.given; asked = h.asked };
}
  where
    long_after : (keys : Option KeyShares) (thread : ℕ) (counts : List ℕ) → length (counts_after keys thread counts) ≡ length counts
    long_after None thread counts = refl
    long_after (Some shares) thread counts = length-set counts (group_of shares thread) _

stands_by_line : (t : TestValue) → IsKeptByLine t (Stands t)
stands_by_line t = record {
  counts_line = λ m h. record { wide = h.wide; counts = h.counts; source = h.source; given = h.given; asked = h.asked };
  clocks = λ m time h. record { wide = h.wide; counts = h.counts; source = h.source; given = h.given; asked = h.asked };
  stops = λ m h. record { wide = h.wide; counts = h.counts; source = h.source; given = h.given; asked = h.asked };
  refuses = λ m why h. record { wide = h.wide; counts = h.counts; source = h.source; given = h.given; asked = h.asked };
  step_ends = λ m w op e h. record { wide = h.wide; counts = no_call t t.keys m.calls_by_group m.history (StepEnded m.clock w.entry w.code _) tt h.counts; source = h.source; given = h.given; asked = h.asked };
  finishes = λ m thread call op is no fits h. record { wide = h.wide; counts = no_call t t.keys m.calls_by_group m.history (Ended m.clock (caller_process t m thread) op.kind call.request op.value _) tt h.counts; source = h.source; given = h.given; asked = h.asked };
}

none_counted : (t : TestValue) (keys : Option KeyShares) → AreCountsOf t keys (replicate t.clients 0) []
none_counted t None = tt
none_counted t (Some shares) = λ group. none t.clients group
  where
    none : (n group : ℕ) → ◌≡◌ {A = ℕ} (slice_index_or (replicate n 0) group 0) 0
    none zero group = refl
    none (suc n) zero = refl
    none (suc n) (suc group) = none n group

stands_at_first : (t : TestValue) (d : Drivers t) → Stands t (at_first t d.first d.final_calls (first_state t.start))
stands_at_first t d = record { wide = length-replicate t.clients 0; counts = none_counted t t.keys; source = refl; given = refl; asked = tt }

pub all_stand : (t : TestValue) (d : Drivers t) (lines : List (List ℕ)) → Stands t (run t d lines)
all_stand t d lines = kept_run t d (Stands t) (stands_in_turn t) (stands_by_line t) lines (stands_at_first t d)

pub calls_ask : CallsAsk
calls_ask t d lines = (all_stand t d lines).asked
