-- Each pair of a history whose operations fit has an invocation and, where it has an outcome, a completion that fits it.
use Rattle.std.proofs.Common.{◌≡◌, ℕ, ◌+◌, Bool, true, false, List, [], ◌∷◌, ◌++◌, length, refl, sym, ap, ◌∙◌, subst, arith, eqb-true, eq-eqb, append_assoc, length-append}
use Rattle.std.specs.Prelude.{slice_get, Option, None, Some, if◌then◌else◌}
use Rattle.jh_ops.specs.Operation.{Operation}
use Rattle.jh_ops.specs.Pairing.{first_of, history_pairs, is_of_client, pair_of, pairs_from}
use Rattle.jh_ops.specs.declared.operation.Kind.{Kind}
use Rattle.jh_ops.specs.declared.operation.Process.{Process}
use Rattle.jh_ops.specs.declared.pairs.Pair.{Pair}
use Rattle.std.specs.List.{AllByRecursion}
use Rattle.jh_run_laws.proofs.PairLemmas.{at_end}
use Rattle.jh_test_laws.specs.HistoryInside.{AllFit, Doing, FitsBehind, FitsDoing, doing, doing_after}

-- the outcome of an operation, if it has one
abbrev pub IsEndAt : (Operation → Operation → Type 0) → List Operation → Operation → Option ℕ → Type 0
IsEndAt E history call None = Unit {0}
IsEndAt E history call (Some place) = (op : Operation) × (slice_get history place ≡ Some op) × E call op

abbrev pub IsPairOf : (Operation → Type 0) → (Operation → Operation → Type 0) → List Operation → Pair → Type 0
IsPairOf A E history pair = (call : Operation) × (slice_get history pair.invoke ≡ Some call) × A call × IsEndAt E history call pair.outcome

joined : {X : Type 0} (P : X → Type 0) (xs ys : List X) → AllByRecursion P xs → AllByRecursion P ys → AllByRecursion P (xs ++ ys)
joined P [] ys a b = b
joined P (x ∷ xs) ys a b = (a.0, joined P xs ys a.1 b)

module _ (history : List Operation) where
  -- where the rest of the history stands
  abbrev pub StandsAt : List Operation → List Operation → ℕ → Type 0
  StandsAt before ops place = (history ≡ before ++ ops) × (length before ≡ place)

  pub at_place : (before : List Operation) (op : Operation) (ops : List Operation) (place : ℕ) → StandsAt before (op ∷ ops) place → slice_get history place ≡ Some op
  at_place before op ops place (is, long) =
      ap (λ h. slice_get h place) is ∙ (ap (λ n. slice_get (before ++ op ∷ ops) n) (sym long) ∙ at_end before op ops)

  pub next_place : (before : List Operation) (op : Operation) (ops : List Operation) (place : ℕ) → StandsAt before (op ∷ ops) place → StandsAt (before ++ op ∷ []) ops (place + 1)
  next_place before op ops place (is, long) = (
    is ∙ sym (append_assoc before (op ∷ []) ops),
    (let more = length-append before (op ∷ []) in omega (arith, more, long)),
  )

module _ (A : Operation → Type 0) (E : Operation → Operation → Type 0) (history : List Operation) where
  ends_open : (call op : Operation) (kind : Kind) → FitsDoing A E (Doing.Busy call) kind op → E call op
  ends_open call op Kind.Invoke fits = absurd fits
  ends_open call op Kind.Ok fits = fits
  ends_open call op Kind.Fail fits = fits
  ends_open call op Kind.Info fits = fits

  own_ends : (client : ℕ) (past : List Operation) (call op : Operation) (process : Process) → is_of_client client process ≡ true → doing client past ≡ Doing.Busy call → FitsBehind A E past process op → E call op
  own_ends client past call op Process.Nemesis own busy fits = absurd cc
  own_ends client past call op (Process.Client number) own busy fits =
      ends_open call op op.kind
      (subst (λ d. FitsDoing A E d op.kind op) busy (subst (λ n. FitsDoing A E (doing n past) op.kind op) (sym (eqb-true client number own)) fits))

  -- the next operation of a client that has a call open ends it
  end_follows : (client : ℕ) (call : Operation) (past ops before : List Operation) (place : ℕ) → doing client past ≡ Doing.Busy call → AllFit A E past ops → StandsAt history before ops place
      → IsEndAt E history call (first_of client place ops)
  end_follows client call past [] before place busy h at = tt
  end_follows client call past (op ∷ ops) before place busy h at =
      go (is_of_client client op.process) refl
      (λ e. end_follows client call (op ∷ past) ops (before ++ op ∷ []) (place + 1) (ap (λ b. if b then doing_after op.kind op else doing client past) e ∙ busy) h.1 (next_place history before op ops place at))
    where
      go : (own : Bool) → is_of_client client op.process ≡ own → (is_of_client client op.process ≡ false → IsEndAt E history call (first_of client (place + 1) ops))
          → IsEndAt E history call (if own then Some place else first_of client (place + 1) ops)
      go true e later = (op, at_place history before op ops place at, own_ends client past call op op.process e busy h.0)
      go false e later = later e

  asks_there : (d : Doing) (op : Operation) → FitsDoing A E d Kind.Invoke op → A op
  asks_there Doing.Idle op fits = fits
  asks_there (Doing.Busy call) op fits = absurd fits
  asks_there Doing.Gone op fits = absurd fits

  one_pair : (past ops before : List Operation) (place : ℕ) (op : Operation) (kind : Kind) (process : Process) → op.kind ≡ kind → op.process ≡ process → AllFit A E past (op ∷ ops) → StandsAt history before (op ∷ ops) place
      → AllByRecursion (IsPairOf A E history) (pair_of kind process place ops)
  one_pair past ops before place op Kind.Invoke (Process.Client client) is by h at =
      let fits : FitsBehind A E past (Process.Client client) op = subst (λ p. FitsBehind A E past p op) by h.0 in
      let asks : A op = asks_there (doing client past) op (subst (λ k. FitsDoing A E (doing client past) k op) is fits) in
      let own : is_of_client client op.process ≡ true = ap (is_of_client client) by ∙ eq-eqb client client refl in
      let busy : doing client (op ∷ past) ≡ Doing.Busy op =
      ap (λ b. if b then doing_after op.kind op else doing client past) own ∙ ap (λ k. doing_after k op) is in (
        (op, at_place history before op ops place at, asks, end_follows client op (op ∷ past) ops (before ++ op ∷ []) (place + 1) busy h.1 (next_place history before op ops place at)),
        tt,
      )
  one_pair past ops before place op Kind.Invoke Process.Nemesis is by h at = tt
  one_pair past ops before place op Kind.Ok process is by h at = tt
  one_pair past ops before place op Kind.Fail process is by h at = tt
  one_pair past ops before place op Kind.Info process is by h at = tt

  pairs_fit : (past ops before : List Operation) (place : ℕ) → AllFit A E past ops → StandsAt history before ops place → AllByRecursion (IsPairOf A E history) (pairs_from place ops)
  pairs_fit past [] before place h at = tt
  pairs_fit past (op ∷ ops) before place h at =
      joined (IsPairOf A E history) (pair_of op.kind op.process place ops) (pairs_from (place + 1) ops)
      (one_pair past ops before place op op.kind op.process refl refl h at)
      (pairs_fit (op ∷ past) ops (before ++ op ∷ []) (place + 1) h.1 (next_place history before op ops place at))

  pub all_pairs : AllFit A E [] history → AllByRecursion (IsPairOf A E history) (history_pairs history)
  all_pairs h = pairs_fit [] history [] 0 h (refl, refl)
