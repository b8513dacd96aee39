-- No transaction of a test has a bad value, and none appends what was appended before.
use Rattle.std.proofs.Common.{◌≡◌, ℕ, suc, ◌+◌, ◌-◌, ◌*◌, ◌≤◌, false, List, [], ◌∷◌, ◌++◌, length, reverse, refl, sym, ap, ◌∙◌, subst, arith, append-nil, append_assoc}
use Rattle.std.specs.Prelude.{codes, slice_get, Option, None, Some, option_and_then, if◌then◌else◌}
use Rattle.std.specs.List.{flat_map, list_any}
use Rattle.std.proofs.lemmas.Grind.{flat_map-append}
use Rattle.std.specs.Option.{option_map_or}
use Rattle.std.proofs.lemmas.Bool.{false≢true, or_from, or_parts}
use Rattle.std.proofs.lemmas.List.{reverse-append}
use Rattle.jh_conversation.specs.Laws.{IsFormed, invocations_in, status}
use Rattle.jh_conversation.specs.Turn.{source_after, value_asked}
use Rattle.jh_edn.specs.Edn.{Edn, keyword}
use Rattle.jh_gen.specs.DriverState.{max_calls}
use Rattle.jh_ops.specs.Operation.{Operation}
use Rattle.jh_ops.specs.Pairing.{history_pairs, is_invoke, pair_of, pairs_from}
use Rattle.jh_ops.specs.Requests.{request_name}
use Rattle.jh_ops.specs.declared.call.Request.{Request}
use Rattle.jh_ops.specs.declared.call.Request.TheVariants.{Read, Write, Cas, Add, Generate, Txn}
use Rattle.jh_ops.specs.declared.operation.Kind.{Kind}
use Rattle.jh_ops.specs.declared.operation.Process.{Process}
use Rattle.jh_ops.specs.declared.pairs.Pair.{Pair}
use Rattle.jh_test_parts.specs.Records.{operation_of_record}
use Rattle.jh_test_parts.specs.Test.{IsGoodShape, TestValue, thread_of_process}
use Rattle.jh_test_parts.specs.Transactions.{TransactionSource}
use Rattle.jh_test_parts.specs.declared.parts.KeyShares.{KeyShares}
use Rattle.jh_test_parts.specs.declared.records.Recorded.{Recorded}
use Rattle.jh_test_parts.specs.declared.records.Recorded.TheVariants.{Invoked, Ended, StepBegun, StepEnded}
use Rattle.jh_txn_histories.specs.Histories.{IsRepeatedAt, appends_of_pair, appends_of_pairs, asked_by}
use Rattle.jh_txn_histories.specs.Written.{appends_of, has_repeat, is_same_append}
use Rattle.jh_test_laws.specs.HistoryInside.{ops_asked}
use Rattle.jh_test_laws.specs.Asking.{AreAsked, source_behind, with_key_in_turn}
use Rattle.jh_test_laws.proofs.PairLemmas.{StandsAt, at_place, next_place}
use Rattle.jh_test_laws.proofs.RecordLemmas.{newest, no_invocation}
use Rattle.jh_test_laws.proofs.SourceLemmas.{IsClean, first_clean, keeps_transaction, less_left, no_more, repeat_joined, same_shape, transaction_spells, transaction_written}

-- ---- what the calls of a test append

abbrev request_appends : TransactionSource → Request → List (Edn × Edn)
request_appends source Txn = appends_of (transaction_written source)
request_appends source _ = []

-- what the calls of a history append, in their order
abbrev appends_behind : TestValue → List Recorded → List (Edn × Edn)
appends_behind t [] = []
appends_behind t (Invoked time process node call ∷ past) = appends_behind t past ++ request_appends (source_behind t past) call.request
appends_behind t (_ ∷ past) = appends_behind t past

-- how many calls a test may make
abbrev most : ℕ
most = 2 * max_calls

-- how many micro-operations may come behind so many calls
abbrev room : ℕ → ℕ
room given = (most - given) * 100

abbrev Stands : TransactionSource → List (Edn × Edn) → ℕ → Type 0
Stands source front given = IsClean source front (room given) × (has_repeat [] front ≡ false)

-- one more call
stands_more : (source : TransactionSource) (front : List (Edn × Edn)) (given : ℕ) (request : Request) → IsGoodShape source.shape → suc given ≤ most → Stands source front given
    → Stands (source_after source request) (front ++ request_appends source request) (suc given)
stands_more source front given request good few (clean, once) = go request
  where
    same : IsClean source (front ++ []) (room (suc given))
    same = no_more source front (room (suc given)) (less_left source front (room given) (room (suc given)) (omega (arith, few)) clean)

    nothing : has_repeat [] (front ++ []) ≡ false
    nothing = subst (λ l. has_repeat [] l ≡ false) (sym (append-nil front)) once

    go : (r : Request) → Stands (source_after source r) (front ++ request_appends source r) (suc given)
    go Read = (same, nothing)
    go (Write v) = (same, nothing)
    go (Cas a b) = (same, nothing)
    go (Add v) = (same, nothing)
    go Generate = (same, nothing)
    go Txn =
        let kept = keeps_transaction source front (room (suc given)) 100 good.some_ops good.few_ops (less_left source front (room given) (100 + room (suc given)) (omega (arith, few)) clean) in
        (kept.0, repeat_joined [] front (appends_of (transaction_written source)) once kept.1)

shape_after : (source : TransactionSource) (request : Request) → (source_after source request).shape ≡ source.shape
shape_after source Read = refl
shape_after source (Write v) = refl
shape_after source (Cas a b) = refl
shape_after source (Add v) = refl
shape_after source Generate = refl
shape_after source Txn = same_shape source

shape_behind : (t : TestValue) (past : List Recorded) → (source_behind t past).shape ≡ t.transactions
shape_behind t [] = refl
shape_behind t (Invoked time process node call ∷ past) = shape_after (source_behind t past) call.request ∙ shape_behind t past
shape_behind t (Ended time process kind request value rest ∷ past) = shape_behind t past
shape_behind t (StepBegun time entry step cells ∷ past) = shape_behind t past
shape_behind t (StepEnded time entry code rest ∷ past) = shape_behind t past

stands : (t : TestValue) → IsGoodShape t.transactions → (past : List Recorded) → invocations_in past ≤ most → Stands (source_behind t past) (appends_behind t past) (invocations_in past)
stands t good [] few = (first_clean t.transactions t.seed (room 0) good (omega arith), refl)
stands t good (Invoked time process node call ∷ past) few =
    stands_more (source_behind t past) (appends_behind t past) (invocations_in past) call.request (subst IsGoodShape (sym (shape_behind t past)) good) few
    (stands t good past (omega (arith, few)))
stands t good (Ended time process kind request value rest ∷ past) few = stands t good past few
stands t good (StepBegun time entry step cells ∷ past) few = stands t good past few
stands t good (StepEnded time entry code rest ∷ past) few = stands t good past few

-- ---- what the operations of a history append

abbrev op_appends : Process → Kind → Operation → List (Edn × Edn)
op_appends (Process.Client client) Kind.Invoke op = option_map_or appends_of (asked_by op) []
op_appends process kind op = []

abbrev appends_in : List Operation → List (Edn × Edn)
appends_in ops = flat_map (λ (op : Operation). op_appends op.process op.kind op) ops

module _ (history : List Operation) where
  one_appends : (before ops : List Operation) (place : ℕ) (op : Operation) → StandsAt history before (op ∷ ops) place → (kind : Kind) (process : Process)
      → appends_of_pairs history (pair_of kind process place ops) ≡ op_appends process kind op
  one_appends before ops place op at Kind.Invoke (Process.Client client) =
      append-nil (option_map_or appends_of (option_and_then asked_by (slice_get history place)) [])
      ∙ ap (λ o. option_map_or appends_of (option_and_then asked_by o) []) (at_place history before op ops place at)
  one_appends before ops place op at Kind.Invoke Process.Nemesis = refl
  one_appends before ops place op at Kind.Ok (Process.Client client) = refl
  one_appends before ops place op at Kind.Ok Process.Nemesis = refl
  one_appends before ops place op at Kind.Fail (Process.Client client) = refl
  one_appends before ops place op at Kind.Fail Process.Nemesis = refl
  one_appends before ops place op at Kind.Info (Process.Client client) = refl
  one_appends before ops place op at Kind.Info Process.Nemesis = refl

  pairs_append : (before ops : List Operation) (place : ℕ) → StandsAt history before ops place → appends_of_pairs history (pairs_from place ops) ≡ appends_in ops
  pairs_append before [] place at = refl
  pairs_append before (op ∷ ops) place at =
      flat_map-append (appends_of_pair history) (pair_of op.kind op.process place ops) (pairs_from (place + 1) ops)
      ∙ (ap (λ l. l ++ appends_of_pairs history (pairs_from (place + 1) ops)) (one_appends before ops place op at op.kind op.process)
      ∙ ap (λ l. op_appends op.process op.kind op ++ l) (pairs_append (before ++ op ∷ []) ops (place + 1) (next_place history before op ops place at)))

asked_appends : (source : TransactionSource) (request : Request) (op : Operation) → op.f ≡ keyword (request_name request) → op.value ≡ value_asked source request
    → option_map_or appends_of (asked_by op) [] ≡ request_appends source request
asked_appends source request op f value = go request f value
  where
    named : (name : List ℕ) → op.f ≡ keyword name → option_map_or appends_of (asked_by op) [] ≡ option_map_or appends_of (ops_asked (keyword name) op.value) []
    named name f = ap (λ x. option_map_or appends_of (ops_asked x op.value) []) f

    go : (r : Request) → op.f ≡ keyword (request_name r) → op.value ≡ value_asked source r → option_map_or appends_of (asked_by op) [] ≡ request_appends source r
    go Read f v = named (codes "read") f
    go (Write n) f v = named (codes "write") f
    go (Cas a b) f v = named (codes "cas") f
    go (Add n) f v = named (codes "add") f
    go Generate f v = named (codes "generate") f
    go Txn f v = named (codes "txn") f ∙ ap (λ o. option_map_or appends_of o []) (ap (ops_asked (keyword (codes "txn"))) v ∙ transaction_spells source)

appends_back : (op : Operation) (ops : List Operation) → appends_in (reverse (op ∷ ops)) ≡ appends_in (reverse ops) ++ op_appends op.process op.kind op
appends_back op ops =
    ap appends_in (reverse-append (op ∷ []) ops)
    ∙ (flat_map-append (λ (o : Operation). op_appends o.process o.kind o) (reverse ops) (op ∷ [])
    ∙ ap (λ l. appends_in (reverse ops) ++ l) (append-nil (op_appends op.process op.kind op)))

unkeyed : (t : TestValue) (keys : Option KeyShares) (thread : ℕ) (past : List Recorded) (value : Edn) → keys ≡ None → with_key_in_turn t keys thread past value ≡ value
unkeyed t None thread past value e = refl
unkeyed t (Some shares) thread past value e = absurd cc

no_appends : (kind : Kind) (process : ℕ) (op : Operation) → is_invoke kind ≡ false → op_appends (Process.Client process) kind op ≡ []
no_appends Kind.Invoke process op ended = absurd (false≢true (sym ended))
no_appends Kind.Ok process op ended = refl
no_appends Kind.Fail process op ended = refl
no_appends Kind.Info process op ended = refl

records_append : (t : TestValue) (names : List (List ℕ)) → t.keys ≡ None → (past : List Recorded) → IsFormed t past → AreAsked t past → appends_in (reverse (newest names past)) ≡ appends_behind t past
records_append t names none [] f a = refl
records_append t names none (Invoked time process node call ∷ past) f a =
    let op = operation_of_record names (length past) (Invoked time process node call) in
    let value : call.value ≡ value_asked (source_behind t past) call.request =
    a.1 ∙ unkeyed t t.keys (thread_of_process t process) past (value_asked (source_behind t past) call.request) none in
    appends_back op (newest names past)
    ∙ (ap (λ l. l ++ option_map_or appends_of (asked_by op) []) (records_append t names none past f.1 a.2)
    ∙ ap (λ l. appends_behind t past ++ l) (asked_appends (source_behind t past) call.request op refl value))
records_append t names none (Ended time process kind request value rest ∷ past) f a =
    let op = operation_of_record names (length past) (Ended time process kind request value rest) in
    appends_back op (newest names past)
    ∙ (ap (λ l. appends_in (reverse (newest names past)) ++ l) (no_appends kind process op (no_invocation t (status process past) kind request value f.0))
    ∙ (append-nil (appends_in (reverse (newest names past))) ∙ records_append t names none past f.1 a))
records_append t names none (StepBegun time entry step cells ∷ past) f a =
    appends_back (operation_of_record names (length past) (StepBegun time entry step cells)) (newest names past)
    ∙ (append-nil (appends_in (reverse (newest names past))) ∙ records_append t names none past f a)
records_append t names none (StepEnded time entry code rest ∷ past) f a =
    appends_back (operation_of_record names (length past) (StepEnded time entry code rest)) (newest names past)
    ∙ (append-nil (appends_in (reverse (newest names past))) ∙ records_append t names none past f a)

-- ---- refusals

repeat_parts : (front xs ys : List (Edn × Edn)) → has_repeat front (xs ++ ys) ≡ false → (has_repeat front xs ≡ false) × (has_repeat (front ++ xs) ys ≡ false)
repeat_parts front [] ys h = (refl, subst (λ l. has_repeat l ys ≡ false) (sym (append-nil front)) h)
repeat_parts front (x ∷ xs) ys h =
    let both = or_parts (list_any (is_same_append x) front) (has_repeat (front ++ x ∷ []) (xs ++ ys)) h in
    let rest = repeat_parts (front ++ x ∷ []) xs ys both.1 in
    (or_from (list_any (is_same_append x) front) (has_repeat (front ++ x ∷ []) xs) both.0 rest.0, subst (λ l. has_repeat l ys ≡ false) (append_assoc front (x ∷ []) xs) rest.1)

none_repeated : (history : List Operation) (pairs : List Pair) → has_repeat [] (appends_of_pairs history pairs) ≡ false → (place : ℕ) → IsRepeatedAt history pairs place → ⊥
none_repeated history pairs once place (front, back, pair, is, repeated) =
    let split : appends_of_pairs history pairs ≡ appends_of_pairs history front ++ (appends_of_pair history pair ++ appends_of_pairs history back) =
    ap (appends_of_pairs history) is ∙ flat_map-append (appends_of_pair history) front (pair ∷ back) in
    let behind = (repeat_parts [] (appends_of_pairs history front) (appends_of_pair history pair ++ appends_of_pairs history back) (subst (λ l. has_repeat [] l ≡ false) split once)).1 in
    let own = (repeat_parts (appends_of_pairs history front) (appends_of_pair history pair) (appends_of_pairs history back) behind).0 in
    let clash : None ≡ Some place = sym (ap (λ b. if b then Some pair.invoke else None) own) ∙ repeated in
    cc

-- no transaction of a test appends what was appended before
pub never_repeated : (t : TestValue) (names : List (List ℕ)) (past : List Recorded) → IsGoodShape t.transactions → t.keys ≡ None → IsFormed t past → AreAsked t past → invocations_in past ≤ most
    → (place : ℕ) → IsRepeatedAt (reverse (newest names past)) (history_pairs (reverse (newest names past))) place → ⊥
never_repeated t names past good none f a few =
    let history = reverse (newest names past) in
    let all : appends_of_pairs history (history_pairs history) ≡ appends_behind t past =
    pairs_append history [] history 0 (refl, refl) ∙ records_append t names none past f a in
    none_repeated history (history_pairs history) (subst (λ l. has_repeat [] l ≡ false) (sym all) (stands t good past few).1)
