-- The operations of a test's records fit, one behind the other.
use Rattle.std.proofs.Common.{◌≡◌, ℕ, suc, ◌+◌, ◌==◌, Bool, true, false, List, [], ◌∷◌, ◌++◌, length, reverse, refl, sym, ap, ◌∙◌, subst, arith, eq-eqb}
use mathlib.Core.Logic.{◌⊎◌, inl, inr}
use Rattle.std.specs.Prelude.{Option, None, Some, option_and_then, pos, if◌then◌else◌}
use Rattle.std.proofs.lemmas.Bool.{and_parts, cases_eq, false≢true, ne_eqb}
use Rattle.std.proofs.lemmas.List.{append-nil, append_assoc, reverse-append}
use Rattle.jh_conversation.specs.Laws.{IsEndOfOpen, IsFormed, Status, after_end, status}
use Rattle.jh_conversation.specs.Turn.{group_of, key_of_call, value_asked}
use Rattle.jh_conversation.specs.Offered.{given_calls}
use Rattle.jh_edn.specs.Edn.{Edn, int, keyword, elements_of}
use Rattle.jh_edn.specs.Parts.{vector_of}
use Rattle.jh_independent.specs.Keys.{tuple_of, two_of}
use Rattle.jh_ops.specs.Operation.{Operation}
use Rattle.jh_ops.specs.Pairing.{is_invoke}
use Rattle.jh_ops.specs.Requests.{request_name}
use Rattle.jh_ops.specs.declared.call.Call.TheVariants.{Client}
use Rattle.jh_ops.specs.declared.call.Request.{Request}
use Rattle.jh_ops.specs.declared.call.Request.TheVariants.{Read, Write, Cas, Add, Generate, Txn}
use Rattle.jh_ops.specs.declared.operation.Kind.{Kind}
use Rattle.jh_test_parts.specs.Records.{operation_of_record, recorded_operations}
use Rattle.jh_test_parts.specs.Test.{TestValue, thread_of_process}
use Rattle.jh_test_parts.specs.Transactions.{TransactionSource}
use Rattle.jh_test_parts.specs.Values.{fits_with_key, fits_call, fits_request, is_good_value, list_or_none}
use Rattle.jh_test_parts.specs.declared.calls.ValuedCall.{ValuedCall}
use Rattle.jh_test_parts.specs.declared.parts.KeyShares.{KeyShares}
use Rattle.jh_test_parts.specs.declared.records.Recorded.{Recorded}
use Rattle.jh_test_parts.specs.declared.records.Recorded.TheVariants.{Invoked, Ended, StepBegun, StepEnded}
use Rattle.jh_test_parts.specs.declared.workload.TestWorkload.{TestWorkload}
use Rattle.jh_txn_histories.specs.Written.{is_equal}
use Rattle.jh_test_laws.specs.Asking.{AreAsked, calls_of_group, source_behind, with_key_in_turn}
use Rattle.jh_test_laws.specs.HistoryInside.{AllFit, AllFitBehind, InvokesBy, Doing, CompletesBy, CompletesOk, FitsDoing, IsAskedValue, doing, doing_after, suits_call}
use Rattle.jh_test_laws.proofs.SourceLemmas.{transaction_spells, transaction_written}
use Rattle.jh_test_laws.proofs.SuitLemmas.{AllSuit}
use Rattle.jh_test_laws.proofs.TupleLemmas.{IsTupleWith, is_tuple}

-- the operations of records, the newest first
abbrev pub newest : List (List ℕ) → List Recorded → List Operation
newest names [] = []
newest names (r ∷ past) = operation_of_record names (length past) r ∷ newest names past

back_step : {X : Type 0} (x : X) (xs ys : List X) → reverse (x ∷ xs) ++ ys ≡ reverse xs ++ x ∷ ys
back_step x xs ys = ap (λ l. l ++ ys) (reverse-append (x ∷ []) xs) ∙ append_assoc (reverse xs) (x ∷ []) ys

recorded_back : (names : List (List ℕ)) (xs ys : List Recorded) → recorded_operations names 0 (reverse xs ++ ys) ≡ reverse (newest names xs) ++ recorded_operations names (length xs) ys
recorded_back names [] ys = refl
recorded_back names (x ∷ xs) ys =
    let one : length xs + 1 ≡ suc (length xs) = omega arith in
    ap (recorded_operations names 0) (back_step x xs ys) ∙ (recorded_back names xs (x ∷ ys)
    ∙ (ap (λ n. reverse (newest names xs) ++ operation_of_record names (length xs) x ∷ recorded_operations names n ys) one
    ∙ sym (back_step (operation_of_record names (length xs) x) (newest names xs) (recorded_operations names (suc (length xs)) ys))))

pub recorded_is : (names : List (List ℕ)) (past : List Recorded) → recorded_operations names 0 (reverse past) ≡ reverse (newest names past)
recorded_is names past = ap (recorded_operations names 0) (sym (append-nil (reverse past))) ∙ (recorded_back names past [] ∙ append-nil (reverse (newest names past)))

-- from the newest on to the oldest on
module _ (A : Operation → Type 0) (E : Operation → Operation → Type 0) where
  all_front : (past ops : List Operation) → AllFitBehind A E past → AllFit A E past ops → AllFit A E [] (reverse past ++ ops)
  all_front [] ops back h = h
  all_front (op ∷ past) ops back h = subst (AllFit A E []) (sym (back_step op past ops)) (all_front past (op ∷ ops) back.1 (back.0, h))

  pub all_fit : (past : List Operation) → AllFitBehind A E past → AllFit A E [] (reverse past)
  all_fit past back = subst (AllFit A E []) (append-nil (reverse past)) (all_front past [] back tt)

-- ---- a client's status among records and among operations

abbrev pub Same : Status → Doing → Type 0
Same Status.Idle Doing.Idle = Unit {0}
Same (Status.Busy call) (Doing.Busy op) = (op.f ≡ keyword (request_name call.request)) × (op.value ≡ call.value)
Same Status.Gone Doing.Gone = Unit {0}
Same status doing = ⊥

pick : (p q : ℕ) (s s' : Status) (d d' : Doing) → (q ≡ p → Same s d) → Same s' d' → Same (if q == p then s else s') (if p == q then d else d')
pick p q s s' d d' here there = go (cases_eq q p)
  where
    go : (q ≡ p) ⊎ (q ≡ p → ⊥) → Same (if q == p then s else s') (if p == q then d else d')
    go (inl e) = rw (eq-eqb q p e, eq-eqb p q (sym e)) (here e)
    go (inr ne) = rw (ne_eqb q p ne, ne_eqb p q (λ e. ne (sym e))) there

-- what ends a call is no invocation
pub no_invocation : (t : TestValue) (s : Status) (kind : Kind) (request : Request) (value : Edn) → IsEndOfOpen t s kind request value → is_invoke kind ≡ false
no_invocation t Status.Idle kind request value h = absurd h
no_invocation t (Status.Busy call) kind request value h = h.0
no_invocation t Status.Gone kind request value h = absurd h

after_is : (kind : Kind) (op : Operation) → is_invoke kind ≡ false → Same (after_end kind) (doing_after kind op)
after_is Kind.Invoke op e = absurd (false≢true (sym e))
after_is Kind.Ok op e = tt
after_is Kind.Fail op e = tt
after_is Kind.Info op e = tt

pub same_status : (t : TestValue) (names : List (List ℕ)) (p : ℕ) (past : List Recorded) → IsFormed t past → Same (status p past) (doing p (newest names past))
same_status t names p [] h = tt
same_status t names p (Invoked time process node call ∷ past) h =
    pick p process (Status.Busy call) (status p past) (Doing.Busy (operation_of_record names (length past) (Invoked time process node call))) (doing p (newest names past))
    (λ _. (refl, refl)) (same_status t names p past h.1)
same_status t names p (Ended time process kind request value rest ∷ past) h =
    let op = operation_of_record names (length past) (Ended time process kind request value rest) in
    pick p process (after_end kind) (status p past) (doing_after kind op) (doing p (newest names past))
    (λ _. after_is kind op (no_invocation t (status process past) kind request value h.0)) (same_status t names p past h.1)
same_status t names p (StepBegun time entry step cells ∷ past) h = same_status t names p past h
same_status t names p (StepEnded time entry code rest ∷ past) h = same_status t names p past h

-- ---- an invocation

fits_idle : (A : Operation → Type 0) (E : Operation → Operation → Type 0) (s : Status) (d : Doing) (op : Operation) → s ≡ Status.Idle → Same s d → A op → FitsDoing A E d Kind.Invoke op
fits_idle A E Status.Idle Doing.Idle op e same a = a
fits_idle A E Status.Idle (Doing.Busy call) op e same a = absurd same
fits_idle A E Status.Idle Doing.Gone op e same a = absurd same
fits_idle A E (Status.Busy call) d op e same a = absurd cc
fits_idle A E Status.Gone d op e same a = absurd cc

asked_value_is : (request : Request) (source : TransactionSource) → IsAskedValue request (value_asked source request)
asked_value_is Read source = refl
asked_value_is (Write v) source = refl
asked_value_is (Cas a b) source = refl
asked_value_is (Add v) source = refl
asked_value_is Generate source = refl
asked_value_is Txn source = (transaction_written source, transaction_spells source)

asks_by : (t : TestValue) (keys : Option KeyShares) (thread : ℕ) (past : List Recorded) (op : Operation) (request : Request) (source : TransactionSource)
    → suits_call t.workload (Client request) ≡ true → op.f ≡ keyword (request_name request)
    → op.value ≡ with_key_in_turn t keys thread past (value_asked source request) → InvokesBy keys t.workload op
asks_by t None thread past op request source suits f value =
    (request, suits, f, subst (IsAskedValue request) (sym value) (asked_value_is request source))
asks_by t (Some shares) thread past op request source suits f value =
    let group = group_of shares thread in
    let key = int (pos (key_of_call t shares group (calls_of_group t shares group past))) in
    ((key, value_asked source request), ap tuple_of value, (request, suits, f, asked_value_is request source))

-- ---- a completion

-- a call with this value, where keys are independent, has a tuple
abbrev HasTuple : Option KeyShares → Edn → Type 0
HasTuple None value = Unit {0}
HasTuple (Some shares) value = (tuple : Edn × Edn) × (value ≡ vector_of (tuple.0 ∷ tuple.1 ∷ []))

asked_tuple : (t : TestValue) (keys : Option KeyShares) (thread : ℕ) (past : List Recorded) (value other : Edn) → other ≡ with_key_in_turn t keys thread past value → HasTuple keys other
asked_tuple t None thread past value other e = tt
asked_tuple t (Some shares) thread past value other e = ((_, _), e)

-- the open call of each process has one
calls_have_tuples : (t : TestValue) (p : ℕ) (past : List Recorded) → AreAsked t past → (call : ValuedCall) → status p past ≡ Status.Busy call → HasTuple t.keys call.value
calls_have_tuples t p [] h call e = absurd cc
calls_have_tuples t p (Invoked time process node asked ∷ past) h call e = go (cases_eq process p) (calls_have_tuples t p past h.2 call)
  where
    same_call : {a b : ValuedCall} → Status.Busy a ≡ Status.Busy b → a ≡ b
    same_call {a} {b} e = cc

    go : (process ≡ p) ⊎ (process ≡ p → ⊥) → (status p past ≡ Status.Busy call → HasTuple t.keys call.value) → HasTuple t.keys call.value
    go (inl is) earlier =
        let busy : Status.Busy asked ≡ Status.Busy call = sym (ap (λ b. if b then Status.Busy asked else status p past) (eq-eqb process p is)) ∙ e in
        subst (λ (c : ValuedCall). HasTuple t.keys c.value) (same_call busy) (asked_tuple t t.keys _ past _ asked.value h.1)
    go (inr ne) earlier = earlier (sym (ap (λ b. if b then Status.Busy asked else status p past) (ne_eqb process p ne)) ∙ e)
calls_have_tuples t p (Ended time process kind request value rest ∷ past) h call e = go (cases_eq process p) (calls_have_tuples t p past h call)
  where
    not_busy : (k : Kind) → after_end k ≡ Status.Busy call → ⊥
    not_busy Kind.Invoke e = cc
    not_busy Kind.Ok e = cc
    not_busy Kind.Fail e = cc
    not_busy Kind.Info e = cc

    go : (process ≡ p) ⊎ (process ≡ p → ⊥) → (status p past ≡ Status.Busy call → HasTuple t.keys call.value) → HasTuple t.keys call.value
    go (inl is) earlier = absurd (not_busy kind (sym (ap (λ b. if b then after_end kind else status p past) (eq-eqb process p is)) ∙ e))
    go (inr ne) earlier = earlier (sym (ap (λ b. if b then after_end kind else status p past) (ne_eqb process p ne)) ∙ e)
calls_have_tuples t p (StepBegun time entry step cells ∷ past) h call e = calls_have_tuples t p past h call e
calls_have_tuples t p (StepEnded time entry code rest ∷ past) h call e = calls_have_tuples t p past h call e

-- what a completion with a key fits
with_key : (workload : TestWorkload) (request : Request) (key asked value : Edn) (elements : Option (List Edn)) → elements_of value ≡ elements
    → fits_with_key workload request (key ∷ asked ∷ []) elements ≡ true
    → (answer : Edn × Edn) × (tuple_of value ≡ Some answer) × (is_equal key answer.0 ≡ true) × (fits_request workload request asked answer.1 ≡ true)
with_key workload request key asked value None is e = absurd (false≢true e)
with_key workload request key asked value (Some []) is e = absurd (false≢true e)
with_key workload request key asked value (Some (x ∷ [])) is e = absurd (false≢true e)
with_key workload request key asked value (Some (x ∷ y ∷ [])) is e =
    let both = and_parts (is_equal key x) (fits_request workload request asked y) e in
    ((x, y), ap (λ o. option_and_then two_of o) is, both.0, both.1)
with_key workload request key asked value (Some (x ∷ y ∷ z ∷ zs)) is e = absurd (false≢true e)

-- the value fits the call, where keys are so
abbrev fits_by : TestValue → Option KeyShares → Kind → ValuedCall → Edn → Bool
fits_by t keys Kind.Ok call value = is_good_value t keys call value
fits_by t keys _ call value = is_equal call.value value

fits_is : (t : TestValue) (kind : Kind) (call : ValuedCall) (value : Edn) → fits_call t call kind value ≡ true → fits_by t t.keys kind call value ≡ true
fits_is t Kind.Invoke call value e = e
fits_is t Kind.Ok call value e = e
fits_is t Kind.Fail call value e = e
fits_is t Kind.Info call value e = e

-- how a call of a test ends
ends_by : (t : TestValue) (keys : Option KeyShares) (kind : Kind) (call : ValuedCall) (op asked : Operation) → op.kind ≡ kind
    → op.f ≡ keyword (request_name call.request) → asked.f ≡ keyword (request_name call.request) → asked.value ≡ call.value → HasTuple keys call.value
    → fits_by t keys kind call op.value ≡ true → CompletesBy keys t.workload asked op
ends_by t None kind call op asked is f g v tuple fits = (f ∙ sym g, subst (CompletesOk t.workload asked.f asked.value op.value) (sym is) (ok kind fits))
  where
    ok : (k : Kind) → fits_by t None k call op.value ≡ true → CompletesOk t.workload asked.f asked.value op.value k
    ok Kind.Invoke e = tt
    ok Kind.Ok e = (call.request, g, subst (λ x. fits_request t.workload call.request x op.value ≡ true) (sym v) e)
    ok Kind.Fail e = tt
    ok Kind.Info e = tt
ends_by t (Some shares) kind call op asked is f g v ((key, value), at) fits = go kind is fits
  where
    by_tuple : (k : Kind) → op.kind ≡ k → (answer : Edn × Edn) → tuple_of op.value ≡ Some answer → is_equal key answer.0 ≡ true → CompletesOk t.workload asked.f value answer.1 k → CompletesBy (Some shares) t.workload asked op
    by_tuple k is answer there same ok = ((key, value), answer, ap tuple_of (v ∙ at), there, same, f ∙ sym g, subst (CompletesOk t.workload asked.f value answer.1) (sym is) ok)

    equal : is_equal call.value op.value ≡ true → IsTupleWith key op.value
    equal e = is_tuple key value op.value (subst (λ x. is_equal x op.value ≡ true) at e)

    go : (k : Kind) → op.kind ≡ k → fits_by t (Some shares) k call op.value ≡ true → CompletesBy (Some shares) t.workload asked op
    go Kind.Invoke is e = let w = equal e in by_tuple Kind.Invoke is w.tuple w.is w.same tt
    go Kind.Ok is e =
        let w = with_key t.workload call.request key value op.value (elements_of op.value) refl
        (subst (λ x. fits_with_key t.workload call.request (list_or_none (elements_of x)) (elements_of op.value) ≡ true) at e) in
        by_tuple Kind.Ok is w.0 w.1 w.2 (call.request, g, w.3)
    go Kind.Fail is e = let w = equal e in by_tuple Kind.Fail is w.tuple w.is w.same tt
    go Kind.Info is e = let w = equal e in by_tuple Kind.Info is w.tuple w.is w.same tt

fits_kind : (A : Operation → Type 0) (E : Operation → Operation → Type 0) (kind : Kind) (asked op : Operation) → is_invoke kind ≡ false → E asked op → FitsDoing A E (Doing.Busy asked) kind op
fits_kind A E Kind.Invoke asked op ended e = absurd (false≢true (sym ended))
fits_kind A E Kind.Ok asked op ended e = e
fits_kind A E Kind.Fail asked op ended e = e
fits_kind A E Kind.Info asked op ended e = e

-- what ends an open call fits behind it
fits_open : (t : TestValue) (A : Operation → Type 0) (E : Operation → Operation → Type 0) (s : Status) (d : Doing) (kind : Kind) (request : Request) (op : Operation) → Same s d → IsEndOfOpen t s kind request op.value
    → ((call : ValuedCall) (asked : Operation) → s ≡ Status.Busy call → Same (Status.Busy call) (Doing.Busy asked) → IsEndOfOpen t (Status.Busy call) kind request op.value → E asked op)
    → FitsDoing A E d kind op
fits_open t A E Status.Idle d kind request op same h ends = absurd h
fits_open t A E Status.Gone d kind request op same h ends = absurd h
fits_open t A E (Status.Busy call) Doing.Idle kind request op same h ends = absurd same
fits_open t A E (Status.Busy call) Doing.Gone kind request op same h ends = absurd same
fits_open t A E (Status.Busy call) (Doing.Busy asked) kind request op same h ends = fits_kind A E kind asked op h.0 (ends call asked refl same h)

fits_busy : (t : TestValue) (s : Status) (d : Doing) (kind : Kind) (request : Request) (op : Operation) → Same s d → IsEndOfOpen t s kind request op.value
    → op.kind ≡ kind → op.f ≡ keyword (request_name request) → ((call : ValuedCall) → s ≡ Status.Busy call → HasTuple t.keys call.value)
    → FitsDoing (InvokesBy t.keys t.workload) (CompletesBy t.keys t.workload) d kind op
fits_busy t s d kind request op same h is f tuples =
    fits_open t (InvokesBy t.keys t.workload) (CompletesBy t.keys t.workload) s d kind request op same h
    (λ call asked busy like end.
    ends_by t t.keys kind call op asked is (f ∙ ap (λ r. keyword (request_name r)) end.1) like.0 like.1 (tuples call busy) (fits_is t kind call op.value end.2))

-- whatever they ask and answer
abbrev pub Whatever : Operation → Type 0
Whatever op = Unit {0}

abbrev pub WhateverEnds : Operation → Operation → Type 0
WhateverEnds call op = Unit {0}

pub shaped_behind : (t : TestValue) (names : List (List ℕ)) (past : List Recorded) → IsFormed t past → AllFitBehind Whatever WhateverEnds (newest names past)
shaped_behind t names [] f = tt
shaped_behind t names (Invoked time process node call ∷ past) f =
    let op = operation_of_record names (length past) (Invoked time process node call) in
    (fits_idle Whatever WhateverEnds (status process past) (doing process (newest names past)) op f.0 (same_status t names process past f.1) tt, shaped_behind t names past f.1)
shaped_behind t names (Ended time process kind request value rest ∷ past) f =
    let op = operation_of_record names (length past) (Ended time process kind request value rest) in (
      fits_open t Whatever WhateverEnds (status process past) (doing process (newest names past)) kind request op (same_status t names process past f.1) f.0 (λ call asked busy like end. tt),
      shaped_behind t names past f.1,
    )
shaped_behind t names (StepBegun time entry step cells ∷ past) f = (tt, shaped_behind t names past f)
shaped_behind t names (StepEnded time entry code rest ∷ past) f = (tt, shaped_behind t names past f)

-- each operation of a test fits behind those before it
pub all_behind : (t : TestValue) (names : List (List ℕ)) (past : List Recorded) → IsFormed t past → AreAsked t past → AllSuit t.workload (given_calls t past)
    → AllFitBehind (InvokesBy t.keys t.workload) (CompletesBy t.keys t.workload) (newest names past)
all_behind t names [] f a s = tt
all_behind t names (Invoked time process node call ∷ past) f a s =
    let op = operation_of_record names (length past) (Invoked time process node call) in (
      fits_idle (InvokesBy t.keys t.workload) (CompletesBy t.keys t.workload) (status process past) (doing process (newest names past)) op f.0 (same_status t names process past f.1)
          (asks_by t t.keys (thread_of_process t process) past op call.request (source_behind t past) s.0 refl a.1),
      all_behind t names past f.1 a.2 s.1,
    )
all_behind t names (Ended time process kind request value rest ∷ past) f a s =
    let op = operation_of_record names (length past) (Ended time process kind request value rest) in (
      fits_busy t (status process past) (doing process (newest names past)) kind request op (same_status t names process past f.1) f.0 refl refl
          (calls_have_tuples t process past a),
      all_behind t names past f.1 a s,
    )
all_behind t names (StepBegun time entry step cells ∷ past) f a s = (tt, all_behind t names past f a s)
all_behind t names (StepEnded time entry code rest ∷ past) f a s = (tt, all_behind t names past f a s)
