-- That points which keep the next dependencies keep all.
use Rattle.std.proofs.Common.{◌≡◌, ℕ, true, false, List, [], ◌∷◌, ◌++◌, refl, sym, ap, subst, ◌∙◌, inl, inr, append_assoc}
use Rattle.std.specs.Prelude.{◌⊎◌, ◌≢◌}
use Rattle.std.specs.List.{AllByRecursion}
use Rattle.std.proofs.lemmas.Bool.{false≢true, cases_eq, cases_Bool}
use Rattle.jh_txn.specs.declared.anomaly.BadRead.TheVariants.{Internal}
use Rattle.jh_txn.specs.declared.dependency.Why.{Why}
use Rattle.jh_txn.specs.declared.dependency.Why.TheVariants.{FirstCommitter, ReadWrite, RealTime, WriteRead, WriteWrite}
use Rattle.jh_txn.specs.declared.model.ConsistencyModel.{ConsistencyModel}
use Rattle.jh_txn.specs.declared.txn.Point.{Point}
use Rattle.jh_txn.specs.declared.txn.Point.TheVariants.{Commit, Start}
use Rattle.jh_txn.specs.declared.txn.Txn.{Txn}
use Rattle.jh_txn.specs.BadReads.{HasNoBadRead}
use Rattle.jh_txn.specs.Dependencies.{IsReason, MustBeThere}
use Rattle.jh_txn.specs.Keeping.{KeepsPointsOfDependencies, arrives_at, leaves_at}
use Rattle.jh_txn.specs.Models.{is_of_snapshots}
use Rattle.jh_txn.specs.Next.{AreLongest}
use Rattle.jh_txn.specs.SnapshotOrders.{IsEarlier}
use Rattle.jh_txn.specs.Transactions.{AppendOnce, Appends, ComesBefore, Saw, appends_before, includes}
use Rattle.jh_txn.proofs.ExplainedLemmas.{ends_cases}
use Rattle.jh_txn.proofs.ListLemmas.{append_nil_right, before_across, before_left, includes_cases, includes_cons, includes_head, includes_left, includes_middle, includes_right, middle_shift, not_both, one_is}
use Rattle.jh_txn.proofs.TransactionLemmas.{appends_from_before}
use Rattle.jh_txn_snapshots.proofs.ChainLemmas.{UpTo, along, chain, opens, strict, then, then_commit, then_start, upto_then, writer_of}
use Rattle.jh_txn_snapshots.specs.KeptPoints.{ArePointsOfAll, KeepsNextPoints}
use Rattle.jh_txn_snapshots.specs.NextPoints.{IsFirstLacked, IsUnread}

-- the last element of a list that has some
ends : (xs : List ℕ) (x : ℕ) → includes xs x ≡ true → (front : List ℕ) × (last : ℕ) × (xs ≡ front ++ last ∷ [])
ends [] x h = absurd (false≢true h)
ends (y ∷ []) x h = ([], y, refl)
ends (y ∷ z ∷ ys) x h = let r = ends (z ∷ ys) z (includes_head z ys) in (y ∷ r.0, r.1, ap (λ zs. y ∷ zs) r.2)

module _ (txns : List Txn) (model : ConsistencyModel) (longest : ℕ → List ℕ) (points : List Point) (once : AppendOnce txns) (good : HasNoBadRead txns) (snapshots : is_of_snapshots model ≡ true) (longests : AreLongest txns longest) (all : ArePointsOfAll txns points) (keeps : KeepsNextPoints txns model longest points) where
  module _ (key reader n : ℕ) (whole : Saw txns reader n key (longest key)) where
    -- the writer of an element of the longest list
    writes : (element : ℕ) → includes (longest key) element ≡ true → (writer : ℕ) × Appends txns key element writer
    writes element shown = writer_of txns good reader n key element (longest key) whole shown

    there : (element writer : ℕ) → includes (longest key) element ≡ true → Appends txns key element writer → MustBeThere txns writer
    there element writer shown appends = inr (key, element, reader, appends, (n, longest key, whole, shown))

    -- neighbours of the longest list
    neighbours : (front back : List ℕ) (one other first second : ℕ) → longest key ≡ front ++ one ∷ other ∷ back → Appends txns key one first → Appends txns key other second → first ≢ second → IsEarlier points (Commit first) (Start second)
    neighbours front back one other first second is appends others differ = keeps (WriteWrite key one) first second (differ, (appends, other, others, inl (reader, (n, whole), front, back, is)))

    -- from one element of the longest list to a later one
    to_later : (front back : List ℕ) (one other first second : ℕ) → longest key ≡ front ++ one ∷ back → includes (one ∷ back) other ≡ true → Appends txns key one first → Appends txns key other second → UpTo points first second
    to_later = chain txns points all once good key reader n (longest key) whole neighbours

    in_turn : (one other first second : ℕ) → ComesBefore (longest key) one other → Appends txns key one first → Appends txns key other second → UpTo points first second
    in_turn = along txns points all once good key reader n (longest key) whole neighbours

    -- from an element of the longest list to its last one
    to_last : (front : List ℕ) (one last first second : ℕ) → longest key ≡ front ++ last ∷ [] → includes (longest key) one ≡ true → Appends txns key one first → Appends txns key last second → UpTo points first second
    to_last front one last first second is h appends others = elim (includes_cases front (last ∷ []) one (subst (λ xs. includes xs one ≡ true) is h)) as (λ _. UpTo points first second) [
      | inl inside ↦ in_turn one last first second (subst (λ xs. ComesBefore xs one last) (sym is) (before_across front (last ∷ []) one last inside (includes_head last []))) appends others
      | inr at_end ↦ inl (once.apart key one first second appends (subst (λ e. Appends txns key e second) (one_is last one at_end) others))
    ]

    -- from an element of the longest list to one that no read has
    beyond : (one other first second : ℕ) → includes (longest key) one ≡ true → Appends txns key one first → IsUnread longest key other → Appends txns key other second → MustBeThere txns second → UpTo points first second
    beyond one other first second h appends unread others must =
        let e = ends (longest key) one h in
        let shown : includes (longest key) e.1 ≡ true = subst (λ xs. includes xs e.1 ≡ true) (sym e.2) (includes_middle e.0 [] e.1) in
        let w = writes e.1 shown in
        let step : UpTo points w.0 second = elim (cases_eq w.0 second) as (λ _. UpTo points w.0 second) [
          | inl same ↦ inl same
          | inr differ ↦ elim (cases_eq reader w.0) as (λ _. UpTo points w.0 second) [
            | inl own ↦ inr (keeps (FirstCommitter key e.1) w.0 second (differ, (snapshots, w.1, other, others, inr ((n, subst (λ p. Saw txns p n key (longest key)) own whole), unread, must, inl (e.0, e.2)))))
            | inr not_own ↦ inr (keeps (WriteWrite key e.1) w.0 second (differ, (w.1, other, others, inr ((e.0, e.2), unread, must, (reader, not_own, (n, whole))))))
          ]
        ] in
        then txns points all first w.0 second (there e.1 w.0 shown w.1) (to_last e.0 one e.1 first w.0 e.2 h appends w.1) step

    -- to a reader, from the writer of an element that it has
    reads_from : (place m element writer : ℕ) (seen : List ℕ) → Saw txns place m key seen → includes seen element ≡ true → Appends txns key element writer → writer ≢ place → IsEarlier points (Commit writer) (Start place)
    reads_from place m element writer seen saw shown appends differ =
        elim (ends_cases seen (appends_before txns key place m)) as (λ _. IsEarlier points (Commit writer) (Start place)) [
          | inr none ↦ absurd (good place m Internal (key, seen, saw, inl none))
          | inl r ↦ elim (includes_cases r.0 (appends_before txns key place m) element (subst (λ xs. includes xs element ≡ true) r.1 shown)) as (λ _. IsEarlier points (Commit writer) (Start place)) [
            | inr own ↦ absurd (differ (once.apart key element writer place appends (appends_from_before txns key place m element own)))
            | inl inside ↦
                let e = ends r.0 element inside in
                let in_base : includes r.0 e.1 ≡ true = subst (λ xs. includes xs e.1 ≡ true) (sym e.2) (includes_middle e.0 [] e.1) in
                let shown' : includes seen e.1 ≡ true = subst (λ xs. includes xs e.1 ≡ true) (sym r.1) (includes_left r.0 (appends_before txns key place m) e.1 in_base) in
                let w = writer_of txns good place m key e.1 seen saw shown' in
                let saw' : Saw txns place m key (r.0 ++ appends_before txns key place m) = subst (λ xs. Saw txns place m key xs) r.1 saw in
                let not_own : w.0 ≢ place = λ same. good place m Internal (key, seen, saw, inr (inr (r.0, e.1, saw', in_base, subst (λ p. Appends txns key e.1 p) same w.1))) in
                let last : IsEarlier points (Commit w.0) (Start place) = keeps (WriteRead key e.1) w.0 place (not_own, (w.1, (m, e.0, subst (λ xs. Saw txns place m key xs) (ap (λ xs. xs ++ appends_before txns key place m) e.2 ∙ sym (middle_shift e.0 (appends_before txns key place m) e.1)) saw'))) in
                let must : MustBeThere txns w.0 = inr (key, e.1, place, w.1, (m, seen, saw, shown')) in
                upto_then txns points all writer w.0 (Start place) must (reaches r.0 e.0 e.1 e.2 w.0 w.1 r.1 inside) last
          ]
        ] where
          reaches : (base front : List ℕ) (last : ℕ) → base ≡ front ++ last ∷ [] → (w : ℕ) → Appends txns key last w → seen ≡ base ++ appends_before txns key place m → includes base element ≡ true → UpTo points writer w
          reaches base front last cut w appends' is inside = elim (includes_cases front (last ∷ []) element (subst (λ xs. includes xs element ≡ true) cut inside)) as (λ _. UpTo points writer w) [
            | inr at_end ↦ inl (once.apart key element writer w appends (subst (λ e. Appends txns key e w) (one_is last element at_end) appends'))
            | inl before ↦
                let b = longests.begins place m key seen saw in
                let turn : ComesBefore base element last = subst (λ xs. ComesBefore xs element last) (sym cut) (before_across front (last ∷ []) element last before (includes_head last [])) in
                let seen_turn : ComesBefore seen element last = subst (λ xs. ComesBefore xs element last) (sym is) (before_left base (appends_before txns key place m) element last turn) in
                in_turn element last writer w (subst (λ xs. ComesBefore xs element last) (sym b.1) (before_left seen b.0 element last seen_turn)) appends appends'
          ]

    -- the element of the rest that is not the reader's own, or none
    next_other : (place : ℕ) (rest : List ℕ) → ((e : ℕ) → includes rest e ≡ true → (w : ℕ) × Appends txns key e w)
        → ((more others : List ℕ) × (element writer : ℕ) × (rest ≡ more ++ element ∷ others) × AllByRecursion (λ e. Appends txns key e place) more × Appends txns key element writer × (writer ≢ place)) ⊎ AllByRecursion (λ e. Appends txns key e place) rest
    next_other place [] known = inr tt
    next_other place (x ∷ rest) known =
        let Goal : Type 0 = ((more others : List ℕ) × (element writer : ℕ) × (x ∷ rest ≡ more ++ element ∷ others) × AllByRecursion (λ e. Appends txns key e place) more × Appends txns key element writer × (writer ≢ place)) ⊎ AllByRecursion (λ e. Appends txns key e place) (x ∷ rest) in
        let w = known x (includes_head x rest) in
        elim (cases_eq w.0 place) as (λ _. Goal) [
          | inr differ ↦ inl ([], rest, x, w.0, refl, tt, w.1, differ)
          | inl same ↦
              let mine : Appends txns key x place = subst (λ p. Appends txns key x p) same w.1 in
              elim (next_other place rest (λ e h. known e (includes_right (x ∷ []) rest e h))) as (λ _. Goal) [
                | inl r ↦ inl (x ∷ r.0, r.1, r.2, r.3, ap (λ zs. x ∷ zs) r.4, (mine, r.5), r.6, r.7)
                | inr owns ↦ inr (mine, owns)
              ]
        ]

    own_only : (place element writer : ℕ) (xs : List ℕ) → AllByRecursion (λ e. Appends txns key e place) xs → includes xs element ≡ true → Appends txns key element writer → writer ≡ place
    own_only place element writer [] owns h appends = absurd (false≢true h)
    own_only place element writer (x ∷ xs) owns h appends = elim (includes_cons x xs element h) as (λ _. writer ≡ place) [
      | inl is ↦ once.apart key element writer place appends (subst (λ e. Appends txns key e place) is owns.0)
      | inr later ↦ own_only place element writer xs owns.1 later appends
    ]

    -- how a transaction that lacks an element is before its writer: the first that it lacked is of one up to that writer
    record HasFirst (place writer : ℕ) : Type 0 where
      pub element : ℕ
      pub by : ℕ
      pub lacked : IsFirstLacked txns longest key element place
      pub appends : Appends txns key element by
      pub differ : by ≢ place
      pub must : MustBeThere txns by
      pub up : UpTo points by writer

    -- it saw all; or it has an element of the longest list itself
    Lacks : ℕ → ℕ → ℕ → Type 0
    Lacks place element writer =
        HasFirst place writer
        ⊎ (IsUnread longest key element × (((m : ℕ) × Saw txns place m key (longest key)) ⊎ ((own : ℕ) × (includes (longest key) own ≡ true) × Appends txns key own place)))

    module _ (place m element writer : ℕ) (seen : List ℕ) (saw : Saw txns place m key seen) (lacked : includes seen element ≡ false) (appends : Appends txns key element writer) (must : MustBeThere txns writer) (differ : writer ≢ place) where
      first_of_others : (rest more others : List ℕ) (e w : ℕ) → longest key ≡ seen ++ rest → rest ≡ more ++ e ∷ others → AllByRecursion (λ x. Appends txns key x place) more → Appends txns key e w → w ≢ place → HasFirst place writer
      first_of_others rest more others e w begins cut owns wrote not_own = record {
        element = e;
        by = w;
        lacked = (m, seen, more, others, saw, is, owns);
        appends = wrote;
        differ = not_own;
        must = there e w shown wrote;
        up = elim (cases_Bool (includes (longest key) element)) as (λ _. UpTo points w writer) [
          | inr unread ↦ beyond e element w writer shown wrote unread appends must
          | inl read ↦ elim (includes_cases seen rest element (subst (λ xs. includes xs element ≡ true) begins read)) as (λ _. UpTo points w writer) [
            | inl early ↦ absurd (not_both _ early lacked)
            | inr late ↦ elim (includes_cases more (e ∷ others) element (subst (λ xs. includes xs element ≡ true) cut late)) as (λ _. UpTo points w writer) [
              | inl own ↦ absurd (differ (own_only place element writer more owns own appends))
              | inr later ↦ to_later (seen ++ more) others e element w writer is later wrote appends
            ]
          ]
        ];
      } where
        is : longest key ≡ seen ++ more ++ e ∷ others
        is = begins ∙ ap (λ xs. seen ++ xs) cut ∙ sym (append_assoc seen more (e ∷ others))

        shown : includes (longest key) e ≡ true
        shown = subst (λ xs. includes xs e ≡ true) (sym is) (includes_middle (seen ++ more) others e)

      lacks_cases : Lacks place element writer
      unfolding Lacks
      lacks_cases =
          let Goal : Type 0 = HasFirst place writer ⊎ (IsUnread longest key element × (((m : ℕ) × Saw txns place m key (longest key)) ⊎ ((own : ℕ) × (includes (longest key) own ≡ true) × Appends txns key own place))) in
          let b = longests.begins place m key seen saw in
          let known = λ (e : ℕ) (h : includes b.0 e ≡ true). writes e (subst (λ xs. includes xs e ≡ true) (sym b.1) (includes_right seen b.0 e h)) in
          elim (next_other place b.0 known) as (λ _. Goal) [
            | inl r ↦ inl (first_of_others b.0 r.0 r.1 r.2 r.3 b.1 r.4 r.5 r.6 r.7)
            | inr owns ↦ inr (unread b.0 b.1 owns, by b.0 b.1 owns)
          ] where
            unread : (rest : List ℕ) → longest key ≡ seen ++ rest → AllByRecursion (λ e. Appends txns key e place) rest → IsUnread longest key element
            unread rest is owns = elim (cases_Bool (includes (longest key) element)) as (λ _. IsUnread longest key element) [
              | inr none ↦ none
              | inl read ↦ elim (includes_cases seen rest element (subst (λ xs. includes xs element ≡ true) is read)) as (λ _. IsUnread longest key element) [
                | inl early ↦ absurd (not_both _ early lacked)
                | inr late ↦ absurd (differ (own_only place element writer rest owns late appends))
              ]
            ]

            by : (rest : List ℕ) → longest key ≡ seen ++ rest → AllByRecursion (λ e. Appends txns key e place) rest → ((k : ℕ) × Saw txns place k key (longest key)) ⊎ ((own : ℕ) × (includes (longest key) own ≡ true) × Appends txns key own place)
            by [] is owns = inl (m, subst (λ xs. Saw txns place m key xs) (sym (is ∙ append_nil_right seen)) saw)
            by (x ∷ rest) is owns = inr (x, subst (λ xs. includes xs x ≡ true) (sym is) (includes_middle seen rest x), owns.0)

      not_it : place ≢ writer
      not_it same = differ (sym same)

      -- from the start of a reader to the commit of the writer of what it lacks
      lacks_from : IsEarlier points (Start place) (Commit writer)
      unfolding Lacks
      lacks_from = elim lacks_cases as (λ _. IsEarlier points (Start place) (Commit writer)) [
        | inl f ↦ then_commit txns points all (Start place) f.by writer must (keeps (ReadWrite key f.element) place f.by ((λ same. f.differ (sym same)), (f.appends, inl f.lacked))) f.up
        | inr more ↦ elim more.1 as (λ _. IsEarlier points (Start place) (Commit writer)) [
          | inl saw_all ↦ keeps (ReadWrite key element) place writer (not_it, (appends, inr (saw_all, more.0, must)))
          | inr own ↦ then_commit txns points all (Start place) place writer must (opens txns points all place (inl saw.0)) (beyond own.0 element place writer own.1 own.2 more.0 appends must)
        ]
      ]

      -- where it appends to the key, from its commit to the start of that writer
      wins_over : (mine : ℕ) → Appends txns key mine place → IsEarlier points (Commit place) (Start writer)
      unfolding Lacks
      wins_over mine wrote = elim lacks_cases as (λ _. IsEarlier points (Commit place) (Start writer)) [
        | inl f ↦ then_start txns points all (Commit place) f.by writer f.must (keeps (FirstCommitter key mine) place f.by ((λ same. f.differ (sym same)), (snapshots, wrote, f.element, f.appends, inl f.lacked))) f.up
        | inr more ↦ elim more.1 as (λ _. IsEarlier points (Commit place) (Start writer)) [
          | inr own ↦ strict points place writer (beyond own.0 element place writer own.1 own.2 more.0 appends must) not_it
          | inl saw_all ↦ elim (cases_Bool (includes (longest key) mine)) as (λ _. IsEarlier points (Commit place) (Start writer)) [
            | inl read ↦ strict points place writer (beyond mine element place writer read wrote more.0 appends must) not_it
            | inr unread ↦ keeps (FirstCommitter key mine) place writer (not_it, (snapshots, wrote, element, appends, inr (saw_all, more.0, must, inr unread)))
          ]
        ]
      ]

    -- a read that has the one element and not the other one
    shown_without : (place m one other first second : ℕ) (seen : List ℕ) → Saw txns place m key seen → includes seen one ≡ true → includes seen other ≡ false → Appends txns key one first → Appends txns key other second → MustBeThere txns second → UpTo points first second
    shown_without place m one other first second seen saw has lacks appends others must =
        let b = longests.begins place m key seen saw in
        let has' : includes (longest key) one ≡ true = subst (λ xs. includes xs one ≡ true) (sym b.1) (includes_left seen b.0 one has) in
        elim (cases_Bool (includes (longest key) other)) as (λ _. UpTo points first second) [
          | inr unread ↦ beyond one other first second has' appends unread others must
          | inl read ↦ elim (includes_cases seen b.0 other (subst (λ xs. includes xs other ≡ true) b.1 read)) as (λ _. UpTo points first second) [
            | inl early ↦ absurd (not_both _ early lacks)
            | inr late ↦ in_turn one other first second (subst (λ xs. ComesBefore xs one other) (sym b.1) (before_across seen b.0 one other has late)) appends others
          ]
        ]

  by_kind : (why : Why) (first second : ℕ) → first ≢ second → MustBeThere txns second → IsReason txns model why first second → IsEarlier points (leaves_at why first) (arrives_at why second)
  by_kind (WriteRead key element) first second differ must reason =
      let shows = reason.1 in
      let w = longests.seen second shows.0 key shows.1 shows.2 in
      reads_from key w.0 w.1 w.2 second shows.0 element first shows.1 shows.2 shows.3 reason.0 differ
  by_kind (WriteWrite key element) first second differ must reason = elim reason.3 as (λ _. IsEarlier points (Commit first) (Start second)) [
    | inl shown ↦
        let w = longests.seen shown.0 shown.1 key shown.2 shown.3 in
        let b = longests.begins shown.0 shown.1 key shown.2 shown.3 in
        strict points first second (in_turn key w.0 w.1 w.2 element reason.1 first second (subst (λ xs. ComesBefore xs element reason.1) (sym b.1) (before_left shown.2 b.0 element reason.1 shown.4)) reason.0 reason.2) differ
    | inr without ↦
        let w = longests.seen without.0 without.1 key without.2 without.4 in
        strict points first second (shown_without key w.0 w.1 w.2 without.0 without.1 element reason.1 first second without.2 without.4 without.5 without.6 reason.0 reason.2 must) differ
  ]
  by_kind (FirstCommitter key element) first second differ must reason =
      let lacks = reason.4 in
      let w = longests.seen first lacks.0 key lacks.1 lacks.2 in
      wins_over key w.0 w.1 w.2 first lacks.0 reason.2 second lacks.1 lacks.2 lacks.3 reason.3 must (λ same. differ (sym same)) element reason.1
  by_kind (ReadWrite key element) first second differ must reason =
      let lacks = reason.0 in
      let w = longests.seen first lacks.0 key lacks.1 lacks.2 in
      lacks_from key w.0 w.1 w.2 first lacks.0 element second lacks.1 lacks.2 lacks.3 reason.1 must (λ same. differ (sym same))
  by_kind RealTime first second differ must reason = keeps RealTime first second (differ, (reason.0, reason.1, must))

  pub keeps_all : KeepsPointsOfDependencies txns model points
  keeps_all why first second needs = by_kind why first second needs.differ needs.second_there needs.reason
