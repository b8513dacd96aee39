-- That no read is bad where all that each transaction read is sound.
use Rattle.std.proofs.Common.{◌≡◌, ℕ, true, List, ◌++◌, refl, sym, ap, subst, ◌∙◌, inl, inr}
use Rattle.std.specs.Prelude.{◌⊎◌}
use Rattle.std.proofs.lemmas.List.{append_cancel_right}
use Rattle.jh_txn.specs.declared.anomaly.BadRead.{BadRead}
use Rattle.jh_txn.specs.declared.anomaly.BadRead.TheVariants.{AbortedRead, DuplicateElements, GarbageRead, IntermediateRead, Internal, OutOfOrder}
use Rattle.jh_txn.specs.declared.txn.Outcome.TheVariants.{Done, Failed}
use Rattle.jh_txn.specs.declared.txn.Txn.{Txn}
use Rattle.jh_txn.specs.BadReads.{HasNoBadRead, IsWrong}
use Rattle.jh_txn.specs.Transactions.{AppendOnce, Appends, ComesBefore, HasNoRepeat, IsDoneAt, IsFailedAt, Saw, appends_at, appends_before, includes, outcome_at}
use Rattle.jh_txn.proofs.ListLemmas.{before_cases, before_first, before_itself, before_left, before_second, before_total, before_trans, includes_cases, includes_left, not_both, once_if}
use Rattle.jh_txn.proofs.TransactionLemmas.{appends_from_before, appends_split}
use Rattle.jh_txn_writers.specs.Writers.{AreNeighbours}
use Rattle.jh_txn_reads.specs.Inside.{IsSoundTxn, IsSoundBase}
use Rattle.jh_txn_reads.proofs.NeighbourLemmas.{all_in_turn, all_there, neighbours_before}

module _ (txns : List Txn) (once : AppendOnce txns) (place key : ℕ) (base : List ℕ) (sound : IsSoundBase txns place key base) where
  pub not_own : (element : ℕ) → includes base element ≡ true → Appends txns key element place → ⊥
  not_own element there own = let w = (sound.elements element there).written in w.2 (once.apart key element w.0 place w.1 own)

  -- of one writer
  module _ (writer : ℕ) where
    next : (a b : ℕ) → AreNeighbours (appends_at txns key writer) a b → includes base a ≡ true → includes base b ≡ true
    next a b pair there = (sound.elements a there).next b writer pair

    previous : (a b : ℕ) → AreNeighbours (appends_at txns key writer) a b → includes base b ≡ true → includes base a ≡ true
    previous a b pair there = (sound.elements b there).previous a writer pair

    turn : (a b : ℕ) → AreNeighbours (appends_at txns key writer) a b → includes base a ≡ true → ComesBefore base a b
    turn a b pair there = elim (before_total base a b there (next a b pair there)) as (λ _. ComesBefore base a b) [
      | inl same ↦ absurd (before_itself (appends_at txns key writer) a (once.within key writer) (subst (λ z. ComesBefore (appends_at txns key writer) a z) (sym same) (neighbours_before (appends_at txns key writer) a b pair)))
      | inr more ↦ elim more as (λ _. ComesBefore base a b) [ inl right ↦ right | inr wrong ↦ absurd (sound.in_turn a b writer pair wrong) ]
    ]

    pub whole_of : (a z : ℕ) → Appends txns key a writer → includes base a ≡ true → Appends txns key z writer → includes base z ≡ true
    whole_of = all_there (appends_at txns key writer) base sound.distinct next previous turn

    pub order_of : (a z : ℕ) → ComesBefore (appends_at txns key writer) a z → includes base a ≡ true → ComesBefore base a z
    order_of = all_in_turn (appends_at txns key writer) base sound.distinct next previous turn

  -- A read with this base.
  module _ (index : ℕ) (done : IsDoneAt txns place) where
    own_of : (element : ℕ) → includes (appends_before txns key place index) element ≡ true → Appends txns key element place
    own_of = appends_from_before txns key place index

    own_order : (a b : ℕ) → ComesBefore (appends_before txns key place index) a b → ComesBefore (appends_at txns key place) a b
    own_order a b h = subst (λ ys. ComesBefore ys a b) (sym (appends_split txns key place index)) (before_left (appends_before txns key place index) _ a b h)

    parts : (element : ℕ) → includes (base ++ appends_before txns key place index) element ≡ true → (includes base element ≡ true) ⊎ Appends txns key element place
    parts element h = elim (includes_cases base (appends_before txns key place index) element h) as (λ _. (includes base element ≡ true) ⊎ Appends txns key element place) [ inl e ↦ inl e | inr e ↦ inr (own_of element e) ]

    distinct : HasNoRepeat (base ++ appends_before txns key place index)
    distinct = once_if (base ++ appends_before txns key place index) (λ a h. elim (before_cases base (appends_before txns key place index) a a h) as (λ _. ⊥) [
      | inl inside ↦ before_itself base a sound.distinct inside
      | inr more ↦ elim more as (λ _. ⊥) [
        | inl across ↦ not_own a across.0 (own_of a across.1)
        | inr later ↦ before_itself (appends_at txns key place) a (once.within key place) (own_order a a later)
      ]
    ])

    in_order : (one other writer : ℕ) → ComesBefore (appends_at txns key writer) one other → ComesBefore (base ++ appends_before txns key place index) other one → ⊥
    in_order one other writer h k =
        let appends_one : Appends txns key one writer = before_first (appends_at txns key writer) one other h in
        let appends_other : Appends txns key other writer = before_second (appends_at txns key writer) one other h in
        elim (before_cases base (appends_before txns key place index) other one k) as (λ _. ⊥) [
          | inl inside ↦ before_itself base one sound.distinct (before_trans base one other one sound.distinct (order_of writer one other h (before_second base other one inside)) inside)
          | inr more ↦ elim more as (λ _. ⊥) [
            | inl across ↦ not_own other across.0 (subst (λ w. Appends txns key other w) (once.apart key one writer place appends_one (own_of one across.1)) appends_other)
            | inr later ↦
                let mine : ComesBefore (appends_at txns key place) other one = own_order other one later in
                let same : writer ≡ place = once.apart key one writer place appends_one (before_second (appends_at txns key place) other one mine) in
                let also : ComesBefore (appends_at txns key place) one other = subst (λ w. ComesBefore (appends_at txns key w) one other) same h in
                before_itself (appends_at txns key place) one (once.within key place) (before_trans (appends_at txns key place) one other one (once.within key place) also mine)
          ]
        ]

    pub not_wrong : (kind : BadRead) → (kind ≡ Internal → ⊥) → IsWrong txns place index key (base ++ appends_before txns key place index) kind → ⊥
    not_wrong Internal other wrong = other refl
    not_wrong DuplicateElements other wrong = wrong distinct
    not_wrong GarbageRead other wrong = elim (parts wrong.0 wrong.1) as (λ _. ⊥) [
      | inl there ↦ let w = (sound.elements wrong.0 there).written in wrong.2 w.0 w.1
      | inr own ↦ wrong.2 place own
    ]
    not_wrong AbortedRead other wrong = elim (parts wrong.0 wrong.2) as (λ _. ⊥) [
      | inl there ↦ let w = (sound.elements wrong.0 there).written in w.3 (subst (IsFailedAt txns) (once.apart key wrong.0 wrong.1 w.0 wrong.3 w.1) wrong.4)
      | inr own ↦ let both : Failed ≡ Done = sym wrong.4 ∙ ap (outcome_at txns) (once.apart key wrong.0 wrong.1 place wrong.3 own) ∙ done in cc
    ]
    not_wrong IntermediateRead other wrong = elim (parts wrong.0 wrong.6) as (λ _. ⊥) [
      | inl there ↦ not_both _ (includes_left base (appends_before txns key place index) wrong.1 (whole_of wrong.2 wrong.0 wrong.1 wrong.4 there wrong.5)) wrong.7
      | inr own ↦ wrong.3 (once.apart key wrong.0 wrong.2 place wrong.4 own)
    ]
    not_wrong OutOfOrder other wrong = in_order wrong.0 wrong.1 wrong.2 wrong.3 wrong.4

pub none_bad : (txns : List Txn) → AppendOnce txns → ((place : ℕ) → IsSoundTxn txns place) → HasNoBadRead txns
none_bad txns once sound place index kind bad =
    let f = sound place bad.0 in
    by_kind bad.0 bad.1 bad.2 f.0 f.1 f.2 kind bad.3 where
      by_kind : (key : ℕ) (seen : List ℕ) → Saw txns place index key seen → (base : List ℕ) → IsSoundBase txns place key base
          → ((m : ℕ) (xs : List ℕ) → Saw txns place m key xs → xs ≡ base ++ appends_before txns key place m) → (k : BadRead) → IsWrong txns place index key seen k → ⊥
      by_kind key seen saw base sound reads Internal wrong = elim wrong as (λ _. ⊥) [
        | inl lacks ↦ lacks base (reads index seen saw)
        | inr more ↦ elim more as (λ _. ⊥) [
          | inl un ↦
              let one : un.0 ≡ base = append_cancel_right un.0 base (appends_before txns key place index) (reads index (un.0 ++ appends_before txns key place index) un.4) in
              let other : un.1 ≡ base = append_cancel_right un.1 base (appends_before txns key place un.2) (reads un.2 (un.1 ++ appends_before txns key place un.2) un.5) in
              un.6 (one ∙ sym other)
          | inr early ↦
              let one : early.0 ≡ base = append_cancel_right early.0 base (appends_before txns key place index) (reads index (early.0 ++ appends_before txns key place index) early.2) in
              not_own txns once place key base sound early.1 (subst (λ xs. includes xs early.1 ≡ true) one early.3) early.4
        ]
      ]
      by_kind key seen saw base sound reads DuplicateElements wrong = not_wrong txns once place key base sound index saw.0 DuplicateElements (λ e. cc) (subst (λ xs. IsWrong txns place index key xs DuplicateElements) (reads index seen saw) wrong)
      by_kind key seen saw base sound reads GarbageRead wrong = not_wrong txns once place key base sound index saw.0 GarbageRead (λ e. cc) (subst (λ xs. IsWrong txns place index key xs GarbageRead) (reads index seen saw) wrong)
      by_kind key seen saw base sound reads AbortedRead wrong = not_wrong txns once place key base sound index saw.0 AbortedRead (λ e. cc) (subst (λ xs. IsWrong txns place index key xs AbortedRead) (reads index seen saw) wrong)
      by_kind key seen saw base sound reads IntermediateRead wrong = not_wrong txns once place key base sound index saw.0 IntermediateRead (λ e. cc) (subst (λ xs. IsWrong txns place index key xs IntermediateRead) (reads index seen saw) wrong)
      by_kind key seen saw base sound reads OutOfOrder wrong = not_wrong txns once place key base sound index saw.0 OutOfOrder (λ e. cc) (subst (λ xs. IsWrong txns place index key xs OutOfOrder) (reads index seen saw) wrong)
