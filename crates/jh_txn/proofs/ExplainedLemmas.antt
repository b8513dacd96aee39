-- That a read is explained by those in front, whoever they are, where no read is bad.
use Rattle.std.proofs.Common.{◌≡◌, ℕ, zero, suc, true, false, List, [], ◌∷◌, ◌++◌, refl, sym, ap, subst, ◌∙◌, inl, inr}
use Rattle.std.specs.Prelude.{◌⊎◌, ◌≢◌}
use Rattle.std.specs.List.{flat_map}
use Rattle.std.proofs.lemmas.Bool.{false≢true, cases_eq, cases_Bool, or_right}
use Rattle.jh_txn.specs.declared.anomaly.BadRead.TheVariants.{DuplicateElements, GarbageRead, Internal, OutOfOrder}
use Rattle.jh_txn.specs.declared.txn.Txn.{Txn}
use Rattle.jh_txn.specs.BadReads.{HasNoBadRead}
use Rattle.jh_txn.specs.Transactions.{AppendOnce, Appends, ComesBefore, HasNoRepeat, Saw, appended, appends_at, appends_before, includes, list_after}
use Rattle.jh_txn.proofs.ListLemmas.{before_across, before_first, before_itself, before_left, before_right, before_second, before_total, flat_includes, head_once, in_flat, includes_cases, includes_cons, includes_head, includes_left, not_both, once_left, tail_once, twice_cases}
use Rattle.jh_txn.proofs.TransactionLemmas.{appends_from_before, list_once_of}

-- Lists that end in others.

same_or_not : (xs ys : List ℕ) → (xs ≡ ys) ⊎ (xs ≡ ys → ⊥)
same_or_not [] [] = inl refl
same_or_not [] (y ∷ ys) = inr (λ h. cc)
same_or_not (x ∷ xs) [] = inr (λ h. cc)
same_or_not (x ∷ xs) (y ∷ ys) = elim (cases_eq x y) as (λ _. (x ∷ xs ≡ y ∷ ys) ⊎ (x ∷ xs ≡ y ∷ ys → ⊥)) [
  | inl e ↦ elim (same_or_not xs ys) as (λ _. (x ∷ xs ≡ y ∷ ys) ⊎ (x ∷ xs ≡ y ∷ ys → ⊥)) [ inl k ↦ inl (let both : x ∷ xs ≡ y ∷ ys = cc in both) | inr k ↦ inr (λ h. k (let t : xs ≡ ys = cc in t)) ]
  | inr e ↦ inr (λ h. e (let t : x ≡ y = cc in t))
]

pub ends_cases : (seen own : List ℕ) → ((base : List ℕ) × (seen ≡ base ++ own)) ⊎ ((base : List ℕ) → seen ≢ base ++ own)
ends_cases [] [] = inl ([], refl)
ends_cases [] (o ∷ own) = inr none where
  none : (base : List ℕ) → [] ≢ base ++ o ∷ own
  none [] h = cc
  none (b ∷ base) h = cc
ends_cases (x ∷ seen) own = elim (same_or_not (x ∷ seen) own) as (λ _. ((base : List ℕ) × (x ∷ seen ≡ base ++ own)) ⊎ ((base : List ℕ) → x ∷ seen ≢ base ++ own)) [
  | inl e ↦ inl ([], e)
  | inr other ↦ elim (ends_cases seen own) as (λ _. ((base : List ℕ) × (x ∷ seen ≡ base ++ own)) ⊎ ((base : List ℕ) → x ∷ seen ≢ base ++ own)) [
    | inl r ↦ inl (x ∷ r.0, ap (λ xs. x ∷ xs) r.1)
    | inr none ↦ inr (not_longer other none)
  ]
] where
  not_longer : (x ∷ seen ≡ own → ⊥) → ((base : List ℕ) → seen ≢ base ++ own) → (base : List ℕ) → x ∷ seen ≢ base ++ own
  not_longer other none [] h = other h
  not_longer other none (b ∷ base) h = none base (let t : seen ≡ base ++ own = cc in t)

-- Two lists with the same elements, in the same order.
pub same_order : (xs ys : List ℕ) → HasNoRepeat xs → HasNoRepeat ys → ((x : ℕ) → includes xs x ≡ true → includes ys x ≡ true) → ((x : ℕ) → includes ys x ≡ true → includes xs x ≡ true)
    → ((a b : ℕ) → ComesBefore xs a b → ComesBefore ys a b) → xs ≡ ys
same_order [] [] once apart into back order = refl
same_order [] (y ∷ ys) once apart into back order = absurd (false≢true (back y (includes_head y ys)))
same_order (x ∷ xs) [] once apart into back order = absurd (false≢true (into x (includes_head x xs)))
same_order (x ∷ xs) (y ∷ ys) once apart into back order =
    let first : x ≡ y = elim (includes_cons x xs y (back y (includes_head y ys))) as (λ _. x ≡ y) [
      | inl e ↦ e
      | inr later ↦ elim (order x y (inl (refl, later))) as (λ _. x ≡ y) [ inl now ↦ sym now.0 | inr behind ↦ absurd (head_once y ys apart (before_second ys x y behind)) ]
    ] in
    let rest : xs ≡ ys = same_order xs ys (tail_once x xs once) (tail_once y ys apart)
    (λ z h. elim (includes_cons y ys z (into z (or_right _ _ h))) as (λ _. includes ys z ≡ true) [
      | inl is ↦ absurd (head_once x xs once (subst (λ w. includes xs w ≡ true) (sym (first ∙ is)) h))
      | inr there ↦ there
    ])
    (λ z h. elim (includes_cons x xs z (back z (or_right _ _ h))) as (λ _. includes xs z ≡ true) [
      | inl is ↦ absurd (head_once y ys apart (subst (λ w. includes ys w ≡ true) (sym (sym first ∙ is)) h))
      | inr there ↦ there
    ])
    (λ a b h. elim (order a b (inr h)) as (λ _. ComesBefore ys a b) [
      | inl now ↦ absurd (head_once x xs once (subst (λ w. includes xs w ≡ true) (sym (first ∙ now.0)) (before_first xs a b h)))
      | inr there ↦ there
    ]) in
    ap (λ z. z ∷ xs) first ∙ ap (λ zs. y ∷ zs) rest

module _ (f : ℕ → List ℕ) where
  pub flat_before_one : (ps : List ℕ) (p x y : ℕ) → includes ps p ≡ true → ComesBefore (f p) x y → ComesBefore (flat_map f ps) x y
  flat_before_one [] p x y h k = absurd (false≢true h)
  flat_before_one (q ∷ ps) p x y h k = elim (includes_cons q ps p h) as (λ _. ComesBefore (flat_map f (q ∷ ps)) x y) [
    | inl is ↦ before_left (f q) (flat_map f ps) x y (subst (λ z. ComesBefore (f z) x y) (sym is) k)
    | inr there ↦ before_right (f q) (flat_map f ps) x y (flat_before_one ps p x y there k)
  ]

  pub flat_before_two : (ps : List ℕ) (p q x y : ℕ) → ComesBefore ps p q → includes (f p) x ≡ true → includes (f q) y ≡ true → ComesBefore (flat_map f ps) x y
  flat_before_two [] p q x y h k l = absurd h
  flat_before_two (r ∷ ps) p q x y h k l = elim h as (λ _. ComesBefore (flat_map f (r ∷ ps)) x y) [
    | inl now ↦ before_across (f r) (flat_map f ps) x y (subst (λ z. includes (f z) x ≡ true) (sym now.0) k) (flat_includes f ps q y now.1 l)
    | inr later ↦ before_right (f r) (flat_map f ps) x y (flat_before_two ps p q x y later k l)
  ]

-- whoever appends an element to a key, if somebody does
pub writer_cases : (txns : List Txn) (key element : ℕ) → ((writer : ℕ) × Appends txns key element writer) ⊎ ((writer : ℕ) → Appends txns key element writer → ⊥)
writer_cases [] key element = inr (λ writer h. false≢true h)
writer_cases (txn ∷ txns) key element = elim (cases_Bool (includes (appended key txn.ops) element)) as (λ _. ((writer : ℕ) × Appends (txn ∷ txns) key element writer) ⊎ ((writer : ℕ) → Appends (txn ∷ txns) key element writer → ⊥)) [
  | inl here ↦ inl (0, here)
  | inr not_here ↦ elim (writer_cases txns key element) as (λ _. ((writer : ℕ) × Appends (txn ∷ txns) key element writer) ⊎ ((writer : ℕ) → Appends (txn ∷ txns) key element writer → ⊥)) [
    | inl there ↦ inl (suc there.0, there.1)
    | inr none ↦ inr (nobody not_here none)
  ]
] where
  nobody : includes (appended key txn.ops) element ≡ false → ((writer : ℕ) → Appends txns key element writer → ⊥) → (writer : ℕ) → Appends (txn ∷ txns) key element writer → ⊥
  nobody not_here none zero h = not_both _ h not_here
  nobody not_here none (suc writer) h = none writer h

-- A read that is explained by those in front, whoever they are.
pub record IsFront (txns : List Txn) (front : List ℕ) (place key : ℕ) (seen : List ℕ) : Type 0 where
  pub distinct : HasNoRepeat front
  pub outside : includes front place ≡ true → ⊥
  pub shown : (element writer : ℕ) → includes seen element ≡ true → Appends txns key element writer → writer ≢ place → includes front writer ≡ true
  pub lacked : (element writer : ℕ) → includes seen element ≡ false → Appends txns key element writer → includes front writer ≡ true → ⊥
  pub in_turn : (one other first second : ℕ) → ComesBefore seen one other → Appends txns key one first → Appends txns key other second → first ≢ second → includes front first ≡ true → includes front second ≡ true → ComesBefore front first second

module _ (txns : List Txn) (once : AppendOnce txns) (good : HasNoBadRead txns) (front : List ℕ) (p m key : ℕ) (seen : List ℕ) (saw : Saw txns p m key seen) (fits : IsFront txns front p key seen) where
  module _ (base : List ℕ) (is : seen ≡ base ++ appends_before txns key p m) where
    writer_of : (element : ℕ) → includes base element ≡ true → (writer : ℕ) × Appends txns key element writer × (includes front writer ≡ true)
    writer_of element listed =
        let shown : includes seen element ≡ true = subst (λ xs. includes xs element ≡ true) (sym is) (includes_left base (appends_before txns key p m) element listed) in
        elim (writer_cases txns key element) as (λ _. (writer : ℕ) × Appends txns key element writer × (includes front writer ≡ true)) [
          | inl w ↦
              let differ : w.0 ≢ p = λ same. good p m Internal (key, seen, saw, inr (inr (base, element, subst (λ xs. Saw txns p m key xs) is saw, listed, subst (λ q. Appends txns key element q) same w.1))) in
              (w.0, w.1, fits.shown element w.0 shown w.1 differ)
          | inr nobody ↦ absurd (good p m GarbageRead (key, seen, saw, (element, shown, nobody)))
        ]

    into : (element : ℕ) → includes base element ≡ true → includes (list_after txns key front) element ≡ true
    into element listed = let w = writer_of element listed in flat_includes (appends_at txns key) front w.0 element w.2 w.1

    back_from : (element : ℕ) → includes (list_after txns key front) element ≡ true → includes base element ≡ true
    back_from element listed =
        let w = in_flat (appends_at txns key) front element listed in
        elim (cases_Bool (includes seen element)) as (λ _. includes base element ≡ true) [
          | inr lacks ↦ absurd (fits.lacked element w.0 lacks w.2 w.1)
          | inl shown ↦ elim (includes_cases base (appends_before txns key p m) element (subst (λ xs. includes xs element ≡ true) is shown)) as (λ _. includes base element ≡ true) [
            | inl there ↦ there
            | inr mine ↦ absurd (fits.outside (subst (λ q. includes front q ≡ true) (once.apart key element w.0 p w.2 (appends_from_before txns key p m element mine)) w.1))
          ]
        ]

    in_order : HasNoRepeat base → (a b : ℕ) → ComesBefore base a b → ComesBefore (list_after txns key front) a b
    in_order apart a b h =
        let wa = writer_of a (before_first base a b h) in
        let wb = writer_of b (before_second base a b h) in
        let shown : ComesBefore seen a b = subst (λ xs. ComesBefore xs a b) (sym is) (before_left base (appends_before txns key p m) a b h) in
        elim (cases_eq wa.0 wb.0) as (λ _. ComesBefore (list_after txns key front) a b) [
          | inl same ↦
              let also : Appends txns key b wa.0 = subst (λ w. Appends txns key b w) (sym same) wb.1 in
              elim (before_total (appends_at txns key wa.0) a b wa.1 also) as (λ _. ComesBefore (list_after txns key front) a b) [
                | inl one ↦ absurd (before_itself base a apart (subst (λ z. ComesBefore base a z) (sym one) h))
                | inr two ↦ elim two as (λ _. ComesBefore (list_after txns key front) a b) [
                  | inl right ↦ flat_before_one (appends_at txns key) front wa.0 a b wa.2 right
                  | inr wrong ↦ absurd (good p m OutOfOrder (key, seen, saw, (b, a, wa.0, wrong, shown)))
                ]
              ]
          | inr differ ↦ flat_before_two (appends_at txns key) front wa.0 wb.0 a b (fits.in_turn a b wa.0 wb.0 shown wa.1 wb.1 differ wa.2 wb.2) wa.1 wb.1
        ]

    base_is : HasNoRepeat base → base ≡ list_after txns key front
    base_is apart = same_order base (list_after txns key front) apart (list_once_of txns once key front fits.distinct) into back_from (in_order apart)

  pub explained_by : seen ≡ list_after txns key front ++ appends_before txns key p m
  explained_by =
      elim (ends_cases seen (appends_before txns key p m)) as (λ _. seen ≡ list_after txns key front ++ appends_before txns key p m) [
        | inr none ↦ absurd (good p m Internal (key, seen, saw, inl none))
        | inl r ↦ elim (twice_cases seen) as (λ _. seen ≡ list_after txns key front ++ appends_before txns key p m) [
          | inr twice ↦ absurd (good p m DuplicateElements (key, seen, saw, twice))
          | inl apart ↦ r.1 ∙ ap (λ xs. xs ++ appends_before txns key p m) (base_is r.0 r.1 (once_left r.0 (appends_before txns key p m) (subst HasNoRepeat r.1 apart)))
        ]
      ]
