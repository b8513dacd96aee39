-- That an order which keeps the next dependencies keeps all.
use Rattle.std.proofs.Common.{◌≡◌, ℕ, true, false, List, [], ◌∷◌, ◌++◌, refl, sym, ap, subst, ◌∙◌, inl, inr, append_assoc}
use Rattle.std.specs.Prelude.{◌⊎◌, ◌≢◌}
use Rattle.std.specs.List.{AllByRecursion}
use Rattle.std.proofs.lemmas.Bool.{false≢true, cases_eq, cases_Bool}
use Rattle.jh_txn.specs.declared.anomaly.BadRead.TheVariants.{GarbageRead, Internal}
use Rattle.jh_txn.specs.declared.dependency.Why.{Why}
use Rattle.jh_txn.specs.declared.dependency.Why.TheVariants.{FirstCommitter, ReadWrite, RealTime, WriteRead, WriteWrite}
use Rattle.jh_txn.specs.declared.model.ConsistencyModel.{ConsistencyModel}
use Rattle.jh_txn.specs.declared.txn.Txn.{Txn}
use Rattle.jh_txn.specs.BadReads.{HasNoBadRead}
use Rattle.jh_txn.specs.Dependencies.{IsReason, MustBeThere, ReadsWithout}
use Rattle.jh_txn.specs.Keeping.{IsOfAll, KeepsDependencies}
use Rattle.jh_txn.specs.Models.{keeps_real_time}
use Rattle.jh_txn.specs.Next.{AreLongest, KeepsNext}
use Rattle.jh_txn.specs.Transactions.{AppendOnce, Appends, ComesBefore, Saw, appends_before, includes}
use Rattle.jh_txn.proofs.ExplainedLemmas.{ends_cases, writer_cases}
use Rattle.jh_txn.proofs.ListLemmas.{append_nil_right, before_left, before_trans, includes_cases, includes_cons, includes_head, includes_left, includes_middle, includes_right, middle_shift, not_both, split_at}
use Rattle.jh_txn.proofs.TransactionLemmas.{appends_from_before}

module _ (txns : List Txn) (model : ConsistencyModel) (longest : ℕ → List ℕ) (order : List ℕ) (once : AppendOnce txns) (good : HasNoBadRead txns) (all : IsOfAll txns order) (longests : AreLongest txns longest) (keeps : KeepsNext txns (keeps_real_time model) longest order) where
  -- the same one, or before
  UpTo : ℕ → ℕ → Type 0
  UpTo p q = (p ≡ q) ⊎ ComesBefore order p q

  then : (p q r : ℕ) → UpTo p q → UpTo q r → UpTo p r
  unfolding UpTo
  then p q r h k = elim h as (λ _. (p ≡ r) ⊎ ComesBefore order p r) [
    | inl same ↦ subst (λ z. (z ≡ r) ⊎ ComesBefore order z r) (sym same) k
    | inr before ↦ elim k as (λ _. (p ≡ r) ⊎ ComesBefore order p r) [
      | inl same ↦ inr (subst (λ z. ComesBefore order p z) same before)
      | inr later ↦ inr (before_trans order p q r all.distinct before later)
    ]
  ]

  upto : (p q : ℕ) → ComesBefore order p q → UpTo p q
  unfolding UpTo
  upto p q h = inr h

  same_one : (p q : ℕ) → p ≡ q → UpTo p q
  unfolding UpTo
  same_one p q h = inl h

  strict : (p q : ℕ) → UpTo p q → p ≢ q → ComesBefore order p q
  unfolding UpTo
  strict p q h differ = elim h as (λ _. ComesBefore order p q) [ inl same ↦ absurd (differ same) | inr before ↦ before ]

  before_then : (p q r : ℕ) → ComesBefore order p q → UpTo q r → ComesBefore order p r
  unfolding UpTo
  before_then p q r h k = elim k as (λ _. ComesBefore order p r) [ inl same ↦ subst (λ z. ComesBefore order p z) same h | inr later ↦ before_trans order p q r all.distinct h later ]

  then_before : (p q r : ℕ) → UpTo p q → ComesBefore order q r → ComesBefore order p r
  unfolding UpTo
  then_before p q r h k = elim h as (λ _. ComesBefore order p r) [ inl same ↦ subst (λ z. ComesBefore order z r) (sym same) k | inr before ↦ before_trans order p q r all.distinct before k ]

  -- whoever appended what some read shows
  writer_of : (place m key element : ℕ) (seen : List ℕ) → Saw txns place m key seen → includes seen element ≡ true → (writer : ℕ) × Appends txns key element writer
  writer_of place m key element seen saw shown = elim (writer_cases txns key element) as (λ _. (writer : ℕ) × Appends txns key element writer) [
    | inl w ↦ w
    | inr nobody ↦ absurd (good place m GarbageRead (key, seen, saw, (element, shown, nobody)))
  ]

  module _ (key reader n : ℕ) (whole : Saw txns reader n key (longest key)) where
    -- from one element of the longest read to a later one
    chain : (front back : List ℕ) (one other first second : ℕ) → longest key ≡ front ++ one ∷ back → includes (one ∷ back) other ≡ true → Appends txns key one first → Appends txns key other second → UpTo first second
    chain front [] one other first second is h appends others = elim (includes_cons one [] other h) as (λ _. UpTo first second) [
      | inl same ↦ same_one first second (once.apart key one first second appends (subst (λ e. Appends txns key e second) (sym same) others))
      | inr none ↦ absurd (false≢true none)
    ]
    chain front (next ∷ back) one other first second is h appends others = elim (includes_cons one (next ∷ back) other h) as (λ _. UpTo first second) [
      | inl same ↦ same_one first second (once.apart key one first second appends (subst (λ e. Appends txns key e second) (sym same) others))
      | inr later ↦
          let shown : includes (longest key) next ≡ true = subst (λ xs. includes xs next ≡ true) (sym (is ∙ middle_shift front (next ∷ back) one)) (includes_middle (front ++ one ∷ []) back next) in
          let w = writer_of reader n key next (longest key) whole shown in
          let step : UpTo first w.0 = elim (cases_eq first w.0) as (λ _. UpTo first w.0) [
            | inl same ↦ same_one first w.0 same
            | inr differ ↦ upto first w.0 (keeps.along key one next first w.0 front back is appends w.1 differ)
          ] in
          then first w.0 second step (chain (front ++ one ∷ []) back next other w.0 second (is ∙ middle_shift front (next ∷ back) one) later w.1 others)
    ]

    -- where one stands before the other
    along : (one other first second : ℕ) → ComesBefore (longest key) one other → Appends txns key one first → Appends txns key other second → UpTo first second
    along one other first second h appends others = from [] (longest key) refl h where
      from : (front xs : List ℕ) → longest key ≡ front ++ xs → ComesBefore xs one other → UpTo first second
      from front [] is k = absurd k
      from front (x ∷ xs) is k = elim k as (λ _. UpTo first second) [
        | inl now ↦ chain front xs one other first second (is ∙ ap (λ z. front ++ z ∷ xs) now.0) (includes_right (one ∷ []) xs other now.1) appends others
        | inr later ↦ from (front ++ x ∷ []) xs (is ∙ middle_shift front xs x) later
      ]

    -- to a reader, from the writer of an element that it has
    reads_from : (place m element writer : ℕ) (seen : List ℕ) → Saw txns place m key seen → includes seen element ≡ true → Appends txns key element writer → writer ≢ place → ComesBefore order writer place
    reads_from place m element writer seen saw shown appends differ =
        elim (ends_cases seen (appends_before txns key place m)) as (λ _. ComesBefore order writer place) [
          | inr none ↦ absurd (good place m Internal (key, seen, saw, inl none))
          | inl r ↦ elim (includes_cases r.0 (appends_before txns key place m) element (subst (λ xs. includes xs element ≡ true) r.1 shown)) as (λ _. ComesBefore order writer place) [
            | inr own ↦ absurd (differ (once.apart key element writer place appends (appends_from_before txns key place m element own)))
            | inl inside ↦
                let e = ends r.0 element inside in
                let shown' : includes seen e.1 ≡ true = subst (λ xs. includes xs e.1 ≡ true) (sym r.1) (includes_left r.0 (appends_before txns key place m) e.1 (subst (λ xs. includes xs e.1 ≡ true) (sym e.2) (includes_middle e.0 [] e.1))) in
                let w = writer_of place m key e.1 seen saw shown' in
                let saw' : Saw txns place m key (r.0 ++ appends_before txns key place m) = subst (λ xs. Saw txns place m key xs) r.1 saw in
                let not_own : w.0 ≢ place = λ same. good place m Internal (key, seen, saw, inr (inr (r.0, e.1, saw', subst (λ xs. includes xs e.1 ≡ true) (sym e.2) (includes_middle e.0 [] e.1), subst (λ p. Appends txns key e.1 p) same w.1))) in
                let last : ComesBefore order w.0 place = keeps.to_reader place m key e.1 w.0 e.0 (subst (λ xs. Saw txns place m key xs) (ap (λ xs. xs ++ appends_before txns key place m) e.2 ∙ sym (middle_shift e.0 (appends_before txns key place m) e.1)) saw') w.1 not_own in
                then_before writer w.0 place (reaches r.0 e.0 e.1 e.2 w.0 w.1 r.1 inside) last
          ]
        ] where
          -- the last element of a list that has some
          ends : (xs : List ℕ) (x : ℕ) → includes xs x ≡ true → (front : List ℕ) × (last : ℕ) × (xs ≡ front ++ last ∷ [])
          ends [] x h = absurd (false≢true h)
          ends (y ∷ []) x h = ([], y, refl)
          ends (y ∷ z ∷ ys) x h = let r = ends (z ∷ ys) z (includes_head z ys) in (y ∷ r.0, r.1, ap (λ zs. y ∷ zs) r.2)

          reaches : (base front : List ℕ) (last : ℕ) → base ≡ front ++ last ∷ [] → (w : ℕ) → Appends txns key last w → seen ≡ base ++ appends_before txns key place m → includes base element ≡ true → UpTo writer w
          reaches base front last cut w appends' is inside = elim (includes_cases front (last ∷ []) element (subst (λ xs. includes xs element ≡ true) cut inside)) as (λ _. UpTo writer w) [
            | inr at_end ↦ elim (includes_cons last [] element at_end) as (λ _. UpTo writer w) [
              | inl same ↦ same_one writer w (once.apart key element writer w appends (subst (λ e. Appends txns key e w) same appends'))
              | inr none ↦ absurd (false≢true none)
            ]
            | inl before ↦
                let b = longests.begins place m key seen saw in
                let s = split_at front element before in
                let is_base : longest key ≡ base ++ (appends_before txns key place m ++ b.0) = b.1 ∙ ap (λ xs. xs ++ b.0) is ∙ append_assoc base (appends_before txns key place m) b.0 in
                let cut' : base ≡ s.0 ++ element ∷ (s.1 ++ last ∷ []) = cut ∙ ap (λ xs. xs ++ last ∷ []) s.2 ∙ append_assoc s.0 (element ∷ s.1) (last ∷ []) in
                let all' : longest key ≡ s.0 ++ element ∷ ((s.1 ++ last ∷ []) ++ (appends_before txns key place m ++ b.0)) = is_base ∙ ap (λ xs. xs ++ (appends_before txns key place m ++ b.0)) cut' ∙ append_assoc s.0 (element ∷ (s.1 ++ last ∷ [])) (appends_before txns key place m ++ b.0) in
                chain s.0 ((s.1 ++ last ∷ []) ++ (appends_before txns key place m ++ b.0)) element last writer w all'
                (includes_right (element ∷ []) ((s.1 ++ last ∷ []) ++ (appends_before txns key place m ++ b.0)) last (includes_left (s.1 ++ last ∷ []) (appends_before txns key place m ++ b.0) last (includes_middle s.1 [] last))) appends appends'
          ]

    -- the element of the rest that is not the reader's own, or none
    next_other : (place : ℕ) (own rest : List ℕ) → AllByRecursion (λ e. Appends txns key e place) own → ((e : ℕ) → includes rest e ≡ true → (w : ℕ) × Appends txns key e w)
        → ((more others : List ℕ) × (element writer : ℕ) × (rest ≡ more ++ element ∷ others) × AllByRecursion (λ e. Appends txns key e place) more × Appends txns key element writer × (writer ≢ place)) ⊎ AllByRecursion (λ e. Appends txns key e place) rest
    next_other place own [] owned known = inr tt
    next_other place own (x ∷ rest) owned known =
        let Goal : Type 0 = ((more others : List ℕ) × (element writer : ℕ) × (x ∷ rest ≡ more ++ element ∷ others) × AllByRecursion (λ e. Appends txns key e place) more × Appends txns key element writer × (writer ≢ place)) ⊎ AllByRecursion (λ e. Appends txns key e place) (x ∷ rest) in
        let w = known x (includes_head x rest) in
        elim (cases_eq w.0 place) as (λ _. Goal) [
          | inr differ ↦ inl ([], rest, x, w.0, refl, tt, w.1, differ)
          | inl same ↦
              let mine : Appends txns key x place = subst (λ p. Appends txns key x p) same w.1 in
              elim (next_other place own rest owned (λ e h. known e (includes_right (x ∷ []) rest e h))) as (λ _. Goal) [
                | inl r ↦ inl (x ∷ r.0, r.1, r.2, r.3, ap (λ zs. x ∷ zs) r.4, (mine, r.5), r.6, r.7)
                | inr owns ↦ inr (mine, owns)
              ]
        ]

    own_only : (place element writer : ℕ) (xs : List ℕ) → AllByRecursion (λ e. Appends txns key e place) xs → includes xs element ≡ true → Appends txns key element writer → place ≡ writer
    own_only place element writer [] owns h appends = absurd (false≢true h)
    own_only place element writer (x ∷ xs) owns h appends = elim (includes_cons x xs element h) as (λ _. place ≡ writer) [
      | inl is ↦ once.apart key element place writer (subst (λ e. Appends txns key e place) is owns.0) appends
      | inr there ↦ own_only place element writer xs owns.1 there appends
    ]

    -- from a reader, to the writer of an element that it lacks
    lacks_from : (place m element writer : ℕ) (seen : List ℕ) → Saw txns place m key seen → includes seen element ≡ false → Appends txns key element writer → MustBeThere txns writer → writer ≢ place → ComesBefore order place writer
    lacks_from place m element writer seen saw lacks appends must differ =
        let b = longests.begins place m key seen saw in
        let known = λ (e : ℕ) (h : includes b.0 e ≡ true). writer_of reader n key e (longest key) whole (subst (λ xs. includes xs e ≡ true) (sym b.1) (includes_right seen b.0 e h)) in
        elim (cases_Bool (includes (longest key) element)) as (λ _. ComesBefore order place writer) [
          | inl shown ↦ elim (includes_cases seen b.0 element (subst (λ xs. includes xs element ≡ true) b.1 shown)) as (λ _. ComesBefore order place writer) [
            | inl early ↦ absurd (not_both _ early lacks)
            | inr late ↦ elim (next_other place [] b.0 tt known) as (λ _. ComesBefore order place writer) [
              | inr owns ↦ absurd (differ (sym (own_only place element writer b.0 owns late appends)))
              | inl r ↦
                  let is : longest key ≡ (seen ++ r.0) ++ r.2 ∷ r.1 = b.1 ∙ ap (λ xs. seen ++ xs) r.4 ∙ sym (append_assoc seen r.0 (r.2 ∷ r.1)) in
                  let first : ComesBefore order place r.3 = keeps.from_reader place m key r.2 r.3 seen r.0 r.1 saw is r.5 r.6 r.7 in
                  elim (includes_cases r.0 (r.2 ∷ r.1) element (subst (λ xs. includes xs element ≡ true) r.4 late)) as (λ _. ComesBefore order place writer) [
                    | inl own ↦ absurd (differ (sym (own_only place element writer r.0 r.5 own appends)))
                    | inr there ↦ before_then place r.3 writer first (chain (seen ++ r.0) r.1 r.2 element r.3 writer is there r.6 appends)
                  ]
            ]
          ]
          | inr unseen ↦
              -- the reader of the whole list comes before the writer, or is it
              let tail : UpTo reader writer = elim (cases_eq reader writer) as (λ _. UpTo reader writer) [
                | inl same ↦ same_one reader writer same
                | inr apart ↦ upto reader writer (keeps.unread reader n key element writer whole appends unseen must (λ same. apart (sym same)))
              ] in
              elim (next_other place [] b.0 tt known) as (λ _. ComesBefore order place writer) [
                | inl r ↦
                    let is : longest key ≡ (seen ++ r.0) ++ r.2 ∷ r.1 = b.1 ∙ ap (λ xs. seen ++ xs) r.4 ∙ sym (append_assoc seen r.0 (r.2 ∷ r.1)) in
                    let first : ComesBefore order place r.3 = keeps.from_reader place m key r.2 r.3 seen r.0 r.1 saw is r.5 r.6 r.7 in
                    let shown : includes (longest key) r.2 ≡ true = subst (λ xs. includes xs r.2 ≡ true) (sym is) (includes_middle (seen ++ r.0) r.1 r.2) in
                    let middle : UpTo r.3 reader = elim (cases_eq r.3 reader) as (λ _. UpTo r.3 reader) [
                      | inl same ↦ same_one r.3 reader same
                      | inr apart ↦ upto r.3 reader (reads_from reader n r.2 r.3 (longest key) whole shown r.6 apart)
                    ] in
                    before_then place r.3 writer first (then r.3 reader writer middle tail)
                | inr owns ↦ from_own b.0 b.1 owns tail
              ]
        ] where
          from_own : (rest : List ℕ) → longest key ≡ seen ++ rest → AllByRecursion (λ e. Appends txns key e place) rest → UpTo reader writer → ComesBefore order place writer
          from_own [] is owns tail = keeps.unread place m key element writer (subst (λ xs. Saw txns place m key xs) (sym (is ∙ append_nil_right seen)) saw) appends (not_shown is) must differ where
            not_shown : longest key ≡ seen ++ [] → includes (longest key) element ≡ false
            not_shown is' = subst (λ xs. includes xs element ≡ false) (sym (is' ∙ append_nil_right seen)) lacks
          from_own (x ∷ rest) is owns tail =
              let shown : includes (longest key) x ≡ true = subst (λ xs. includes xs x ≡ true) (sym is) (includes_middle seen rest x) in
              elim (cases_eq place reader) as (λ _. ComesBefore order place writer) [
                | inl same ↦ strict place writer (subst (λ p. UpTo p writer) (sym same) tail) (λ is'. differ (sym is'))
                | inr apart ↦ before_then place reader writer (reads_from reader n x place (longest key) whole shown owns.0 apart) tail
              ]

  pub keeps_all : KeepsDependencies txns model order
  keeps_all why first second needs = by_kind why needs.reason where
    lacking : (key element first second : ℕ) → first ≢ second → MustBeThere txns second → ReadsWithout txns key element first → Appends txns key element second → ComesBefore order first second
    lacking key element first second differ must lacks appends =
        let w = longests.seen first lacks.0 key lacks.1 lacks.2 in
        lacks_from key w.0 w.1 w.2 first lacks.0 element second lacks.1 lacks.2 lacks.3 appends must (λ same. differ (sym same))

    by_kind : (kind : Why) → IsReason txns model kind first second → ComesBefore order first second
    by_kind (WriteRead key element) reason =
        let shows = reason.1 in
        let w = longests.seen second shows.0 key shows.1 shows.2 in
        reads_from key w.0 w.1 w.2 second shows.0 element first shows.1 shows.2 shows.3 reason.0 needs.differ
    by_kind (WriteWrite key element) reason = elim reason.3 as (λ _. ComesBefore order first second) [
      | inl shown ↦
          let w = longests.seen shown.0 shown.1 key shown.2 shown.3 in
          let b = longests.begins shown.0 shown.1 key shown.2 shown.3 in
          strict first second (along key w.0 w.1 w.2 element reason.1 first second (subst (λ xs. ComesBefore xs element reason.1) (sym b.1) (before_left shown.2 b.0 element reason.1 shown.4)) reason.0 reason.2) needs.differ
      | inr without ↦
          let r = without.0 in
          let w = longests.seen r without.1 key without.2 without.4 in
          let early : ComesBefore order first r = reads_from key w.0 w.1 w.2 r without.1 element first without.2 without.4 without.5 reason.0 (λ same. without.3 (sym same)) in
          elim (cases_eq r second) as (λ _. ComesBefore order first second) [
            | inl is ↦ subst (λ q. ComesBefore order first q) is early
            | inr not_it ↦ before_trans order first r second all.distinct early (lacking key reason.1 r second not_it needs.second_there (without.1, without.2, without.4, without.6) reason.2)
          ]
    ]
    by_kind (FirstCommitter key element) reason = lacking key reason.2 first second needs.differ needs.second_there reason.4 reason.3
    by_kind (ReadWrite key element) reason = lacking key element first second needs.differ needs.second_there reason.0 reason.1
    by_kind RealTime reason = keeps.in_time first second reason.0 reason.1 needs.second_there needs.differ
