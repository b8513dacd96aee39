-- The history of each key fits as that of a whole test does.
use Rattle.std.proofs.Common.{◌≡◌, ℕ, ◌+◌, Bool, true, false, List, [], ◌∷◌, filter, map, refl, sym, ap, ◌∙◌, subst, eqb-true}
use Rattle.std.specs.Prelude.{None, Some, option_map, if◌then◌else◌}
use Rattle.std.specs.List.{enumerate_from}
use Rattle.std.specs.Option.{option_map_or}
use Rattle.std.specs.Ordering.{is_eq}
use Rattle.std.proofs.lemmas.Bool.{false≢true}
use Rattle.jh_check.specs.Distinct.{is_same}
use Rattle.jh_edn.specs.Edn.{Edn, nil}
use Rattle.jh_edn.specs.Key.{key_cmp}
use Rattle.jh_edn.specs.Normal.{normal}
use Rattle.jh_edn.specs.Order.{edn_cmp}
use Rattle.jh_edn.proofs.KeyOrderLemmas.{key_exact}
use Rattle.jh_edn.proofs.OrderLemmas.{by_parts, parts}
use Rattle.jh_independent.specs.Keys.{has_key, history_of, operation_without_key, tuple_of, value_of}
use Rattle.jh_ops.specs.Operation.{Operation, is_client}
use Rattle.jh_ops.specs.Pairing.{is_of_client}
use Rattle.jh_ops.specs.declared.operation.Kind.{Kind}
use Rattle.jh_ops.specs.declared.operation.Process.{Process}
use Rattle.jh_txn_histories.specs.Written.{is_equal}
use Rattle.jh_test_parts.specs.declared.workload.TestWorkload.{TestWorkload}
use Rattle.jh_test_laws.specs.HistoryInside.{AllFit, Invokes, InvokesOfKey, InvokesValue, Doing, Completes, CompletesOfKey, CompletesOk, FitsBehind, FitsDoing, doing, doing_after}
use Rattle.jh_test_laws.proofs.TupleLemmas.{equal_is}

-- what was done with a key, without it
abbrev pub of_key : Edn → List Operation → List Operation
of_key key [] = []
of_key key (op ∷ ops) = if has_key key op then operation_without_key op ∷ of_key key ops else of_key key ops

placed_is : (key : Edn) (n : ℕ) (ops : List Operation) → map (λ (placed : ℕ × Operation). operation_without_key placed.1) (filter (λ (placed : ℕ × Operation). has_key key placed.1) (enumerate_from n ops)) ≡ of_key key ops
placed_is key n [] = refl
placed_is key n (op ∷ ops) = go (has_key key op) refl (placed_is key (n + 1) ops)
  where
    go : (own : Bool) → has_key key op ≡ own
        → map (λ (placed : ℕ × Operation). operation_without_key placed.1) (filter (λ (placed : ℕ × Operation). has_key key placed.1) (enumerate_from (n + 1) ops)) ≡ of_key key ops
        → map (λ (placed : ℕ × Operation). operation_without_key placed.1) (filter (λ (placed : ℕ × Operation). has_key key placed.1) (enumerate_from n (op ∷ ops))) ≡ of_key key (op ∷ ops)
    go true e rest = rw e (ap (λ (l : List Operation). operation_without_key op ∷ l) rest)
    go false e rest = rw e rest

pub history_is : (key : Edn) (history : List Operation) → history_of key history ≡ of_key key history
history_is key history = placed_is key 0 history

-- ---- equal keys

same_as : (key a b : Edn) → is_equal a b ≡ true → is_same key (normal a) ≡ is_same key (normal b)
same_as key a b e =
    let tie = sym (by_parts (normal a) (normal b)) ∙ equal_is (edn_cmp (normal a) (normal b)) e in
    let like : parts (normal a) ≡ parts (normal b) = key_exact (parts (normal a)) (parts (normal b)) tie in
    ap is_eq (by_parts key (normal a) ∙ (ap (λ p. key_cmp (parts key) p) like ∙ sym (by_parts key (normal b))))

-- the key of a client's operation
key_is : (key : Edn) (op : Operation) (tuple : Edn × Edn) → is_client op.process ≡ true → tuple_of op.value ≡ Some tuple → has_key key op ≡ is_same key (normal tuple.0)
key_is key op tuple client is =
    ap (λ b. option_map_or (is_same key) (if b then option_map (λ (t : Edn × Edn). normal t.0) (tuple_of op.value) else None) false) client
    ∙ ap (λ o. option_map_or (is_same key) (option_map (λ (t : Edn × Edn). normal t.0) o) false) is

value_is : (op : Operation) (tuple : Edn × Edn) → tuple_of op.value ≡ Some tuple → value_of op.value ≡ tuple.1
value_is op tuple is = ap (λ o. option_map_or (λ (t : Edn × Edn). t.1) o nil) is

client_of : (n : ℕ) (process : Process) → is_of_client n process ≡ true → is_client process ≡ true
client_of n Process.Nemesis e = absurd (false≢true e)
client_of n (Process.Client m) e = refl

same_busy : (a b : Operation) → Doing.Busy a ≡ Doing.Busy b → a ≡ b
same_busy a b e = cc

-- the operation that a client is at is its own
busy_client : (n : ℕ) (past : List Operation) (call : Operation) → doing n past ≡ Doing.Busy call → is_client call.process ≡ true
busy_client n [] call e = absurd cc
busy_client n (op ∷ past) call e = go (is_of_client n op.process) refl (busy_client n past call)
  where
    by_kind : (kind : Kind) → is_of_client n op.process ≡ true → doing_after kind op ≡ Doing.Busy call → is_client call.process ≡ true
    by_kind Kind.Invoke own is = subst (λ (o : Operation). is_client o.process ≡ true) (same_busy op call is) (client_of n op.process own)
    by_kind Kind.Ok own is = absurd cc
    by_kind Kind.Fail own is = absurd cc
    by_kind Kind.Info own is = absurd cc

    go : (own : Bool) → is_of_client n op.process ≡ own → (doing n past ≡ Doing.Busy call → is_client call.process ≡ true) → is_client call.process ≡ true
    go true own earlier = by_kind op.kind own (sym (ap (λ b. if b then doing_after op.kind op else doing n past) own) ∙ e)
    go false own earlier = earlier (sym (ap (λ b. if b then doing_after op.kind op else doing n past) own) ∙ e)

module _ (workload : TestWorkload) (key : Edn) where
  -- what a client does among all operations, and among those of the key
  abbrev Near : Doing → Doing → Type 0
  Near Doing.Idle kept = kept ≡ Doing.Idle
  Near (Doing.Busy call) kept = kept ≡ (if has_key key call then Doing.Busy (operation_without_key call) else Doing.Idle)
  Near Doing.Gone kept = Unit {0}

  asks_without : (op : Operation) → InvokesOfKey workload op → Invokes workload (operation_without_key op)
  asks_without op (tuple, is, asks) = subst (InvokesValue workload op.f) (sym (value_is op tuple is)) asks

  ends_without : (call op : Operation) → CompletesOfKey workload call op → Completes workload (operation_without_key call) (operation_without_key op)
  ends_without call op (asked, answer, is, at, same, f, ok) = (
    f,
    subst (λ v. CompletesOk workload call.f v (value_of op.value) op.kind) (sym (value_is call asked is))
        (subst (λ v. CompletesOk workload call.f asked.1 v op.kind) (sym (value_is op answer at)) ok),
  )

  same_key : (call op : Operation) → is_client call.process ≡ true → is_client op.process ≡ true → CompletesOfKey workload call op → has_key key call ≡ has_key key op
  same_key call op one other (asked, answer, is, at, same, f, ok) =
      key_is key call asked one is ∙ (same_as key asked.0 answer.0 same ∙ sym (key_is key op answer other at))

  near_idle : (d kept : Doing) → Near d kept → d ≡ Doing.Idle → kept ≡ Doing.Idle
  near_idle Doing.Idle kept near e = near
  near_idle (Doing.Busy call) kept near e = absurd cc
  near_idle Doing.Gone kept near e = absurd cc

  near_busy : (d kept : Doing) (call : Operation) (own : Bool) → Near d kept → d ≡ Doing.Busy call → has_key key call ≡ own → kept ≡ (if own then Doing.Busy (operation_without_key call) else Doing.Idle)
  near_busy Doing.Idle kept call own near e is = absurd cc
  near_busy (Doing.Busy c) kept call own near e is =
      near ∙ (ap (λ (o : Operation). if has_key key o then Doing.Busy (operation_without_key o) else Doing.Idle) (same_busy c call e)
      ∙ ap (λ b. if b then Doing.Busy (operation_without_key call) else Doing.Idle) is)
  near_busy Doing.Gone kept call own near e is = absurd cc

  -- an operation of the key fits among those of the key
  fits_without : (n : ℕ) (past : List Operation) (op : Operation) (d kept : Doing) (kind : Kind) → doing n past ≡ d → is_client op.process ≡ true → has_key key op ≡ true → Near d kept
      → FitsDoing (InvokesOfKey workload) (CompletesOfKey workload) d kind op → FitsDoing (Invokes workload) (Completes workload) kept kind (operation_without_key op)
  fits_without n past op Doing.Idle kept Kind.Invoke is client own near fits =
      subst (λ x. FitsDoing (Invokes workload) (Completes workload) x Kind.Invoke (operation_without_key op)) (sym near) (asks_without op fits)
  fits_without n past op Doing.Idle kept Kind.Ok is client own near fits = absurd fits
  fits_without n past op Doing.Idle kept Kind.Fail is client own near fits = absurd fits
  fits_without n past op Doing.Idle kept Kind.Info is client own near fits = absurd fits
  fits_without n past op (Doing.Busy call) kept Kind.Invoke is client own near fits = absurd fits
  fits_without n past op (Doing.Busy call) kept Kind.Ok is client own near fits =
      subst (λ x. FitsDoing (Invokes workload) (Completes workload) x Kind.Ok (operation_without_key op)) (sym (near_busy (Doing.Busy call) kept call true near refl (same_key call op (busy_client n past call is) client fits ∙ own))) (ends_without call op fits)
  fits_without n past op (Doing.Busy call) kept Kind.Fail is client own near fits =
      subst (λ x. FitsDoing (Invokes workload) (Completes workload) x Kind.Fail (operation_without_key op)) (sym (near_busy (Doing.Busy call) kept call true near refl (same_key call op (busy_client n past call is) client fits ∙ own))) (ends_without call op fits)
  fits_without n past op (Doing.Busy call) kept Kind.Info is client own near fits =
      subst (λ x. FitsDoing (Invokes workload) (Completes workload) x Kind.Info (operation_without_key op)) (sym (near_busy (Doing.Busy call) kept call true near refl (same_key call op (busy_client n past call is) client fits ∙ own))) (ends_without call op fits)
  fits_without n past op Doing.Gone kept kind is client own near fits = absurd (never_gone kind fits)
    where
      never_gone : (k : Kind) → FitsDoing (InvokesOfKey workload) (CompletesOfKey workload) Doing.Gone k op → ⊥
      never_gone Kind.Invoke fits = fits
      never_gone Kind.Ok fits = fits
      never_gone Kind.Fail fits = fits
      never_gone Kind.Info fits = fits

  -- behind an operation of its own, of the key or of another one, a client stands near too
  near_own : (n : ℕ) (past : List Operation) (op : Operation) (d kept : Doing) (kind : Kind) (own : Bool) → doing n past ≡ d → is_client op.process ≡ true → has_key key op ≡ own → Near d kept
      → FitsDoing (InvokesOfKey workload) (CompletesOfKey workload) d kind op → Near (doing_after kind op) (if own then doing_after kind (operation_without_key op) else kept)
  near_own n past op d kept Kind.Invoke true is client own near fits = sym (ap (λ b. if b then Doing.Busy (operation_without_key op) else Doing.Idle) own)
  near_own n past op d kept Kind.Ok true is client own near fits = refl
  near_own n past op d kept Kind.Fail true is client own near fits = refl
  near_own n past op d kept Kind.Info true is client own near fits = tt
  near_own n past op Doing.Idle kept Kind.Invoke false is client own near fits = near ∙ sym (ap (λ b. if b then Doing.Busy (operation_without_key op) else Doing.Idle) own)
  near_own n past op (Doing.Busy call) kept Kind.Invoke false is client own near fits = absurd fits
  near_own n past op Doing.Gone kept Kind.Invoke false is client own near fits = absurd fits
  near_own n past op Doing.Idle kept Kind.Ok false is client own near fits = absurd fits
  near_own n past op (Doing.Busy call) kept Kind.Ok false is client own near fits = near_busy (Doing.Busy call) kept call false near refl (same_key call op (busy_client n past call is) client fits ∙ own)
  near_own n past op Doing.Gone kept Kind.Ok false is client own near fits = absurd fits
  near_own n past op Doing.Idle kept Kind.Fail false is client own near fits = absurd fits
  near_own n past op (Doing.Busy call) kept Kind.Fail false is client own near fits = near_busy (Doing.Busy call) kept call false near refl (same_key call op (busy_client n past call is) client fits ∙ own)
  near_own n past op Doing.Gone kept Kind.Fail false is client own near fits = absurd fits
  near_own n past op d kept Kind.Info false is client own near fits = tt

  abbrev AllNear : List Operation → Type 0
  AllNear past = (n : ℕ) → Near (doing n past) (doing n (of_key key past))

  -- the operations of the key behind one more operation
  abbrev behind : Bool → Operation → List Operation → List Operation
  behind own op past = if own then operation_without_key op ∷ of_key key past else of_key key past

  near_next : (past : List Operation) (op : Operation) (own : Bool) → has_key key op ≡ own → AllNear past → FitsBehind (InvokesOfKey workload) (CompletesOfKey workload) past op.process op
      → (n : ℕ) → Near (doing n (op ∷ past)) (doing n (behind own op past))
  near_next past op own is near fits n = go (is_of_client n op.process) refl
    where
      mine : (process : Process) → is_of_client n process ≡ true → FitsBehind (InvokesOfKey workload) (CompletesOfKey workload) past process op → FitsDoing (InvokesOfKey workload) (CompletesOfKey workload) (doing n past) op.kind op
      mine Process.Nemesis e f = absurd (false≢true e)
      mine (Process.Client m) e f = subst (λ k. FitsDoing (InvokesOfKey workload) (CompletesOfKey workload) (doing k past) op.kind op) (sym (eqb-true n m e)) f

      -- the operations of the key behind it, seen by this client
      seen : (b c : Bool) → has_key key op ≡ b → is_of_client n op.process ≡ c → doing n (behind b op past) ≡ (if c then (if b then doing_after op.kind (operation_without_key op) else doing n (of_key key past)) else doing n (of_key key past))
      seen true true e f = ap (λ x. if x then doing_after op.kind (operation_without_key op) else doing n (of_key key past)) f
      seen true false e f = ap (λ x. if x then doing_after op.kind (operation_without_key op) else doing n (of_key key past)) f
      seen false true e f = refl
      seen false false e f = refl

      go : (b : Bool) → is_of_client n op.process ≡ b → Near (doing n (op ∷ past)) (doing n (behind own op past))
      go true e =
          subst (Near (doing n (op ∷ past))) (sym (seen own true is e))
          (subst (λ d. Near d (if own then doing_after op.kind (operation_without_key op) else doing n (of_key key past))) (sym (ap (λ b. if b then doing_after op.kind op else doing n past) e))
          (near_own n past op (doing n past) (doing n (of_key key past)) op.kind own refl (client_of n op.process e) is (near n) (mine op.process e fits)))
      go false e =
          subst (Near (doing n (op ∷ past))) (sym (seen own false is e))
          (subst (λ d. Near d (doing n (of_key key past))) (sym (ap (λ b. if b then doing_after op.kind op else doing n past) e)) (near n))

  behind_without : (past : List Operation) (op : Operation) (process : Process) → op.process ≡ process → has_key key op ≡ true → AllNear past → FitsBehind (InvokesOfKey workload) (CompletesOfKey workload) past process op
      → FitsBehind (Invokes workload) (Completes workload) (of_key key past) process (operation_without_key op)
  behind_without past op Process.Nemesis is own near fits = tt
  behind_without past op (Process.Client n) is own near fits =
      fits_without n past op (doing n past) (doing n (of_key key past)) op.kind refl (ap is_client is) own (near n) fits

  fits_from : (past ops : List Operation) → AllNear past → AllFit (InvokesOfKey workload) (CompletesOfKey workload) past ops → AllFit (Invokes workload) (Completes workload) (of_key key past) (of_key key ops)
  fits_from past [] near h = tt
  fits_from past (op ∷ ops) near h = go (has_key key op) refl (fits_from (op ∷ past) ops (near_next past op (has_key key op) refl near h.0) h.1)
    where
      go : (own : Bool) → has_key key op ≡ own → AllFit (Invokes workload) (Completes workload) (behind (has_key key op) op past) (of_key key ops) → AllFit (Invokes workload) (Completes workload) (of_key key past) (of_key key (op ∷ ops))
      go true e rest =
          let after : AllFit (Invokes workload) (Completes workload) (operation_without_key op ∷ of_key key past) (of_key key ops) =
          subst (λ b. AllFit (Invokes workload) (Completes workload) (behind b op past) (of_key key ops)) e rest in
          subst (λ b. AllFit (Invokes workload) (Completes workload) (of_key key past) (if b then operation_without_key op ∷ of_key key ops else of_key key ops)) (sym e)
          (behind_without past op op.process refl e near h.0, after)
      go false e rest =
          let after : AllFit (Invokes workload) (Completes workload) (of_key key past) (of_key key ops) =
          subst (λ b. AllFit (Invokes workload) (Completes workload) (behind b op past) (of_key key ops)) e rest in
          subst (λ b. AllFit (Invokes workload) (Completes workload) (of_key key past) (if b then operation_without_key op ∷ of_key key ops else of_key key ops)) (sym e) after

  -- the history of a key
  pub key_fits : (history : List Operation) → AllFit (InvokesOfKey workload) (CompletesOfKey workload) [] history → AllFit (Invokes workload) (Completes workload) [] (history_of key history)
  key_fits history h = subst (AllFit (Invokes workload) (Completes workload) []) (sym (history_is key history)) (fits_from [] history (λ n. refl) h)
