-- That dependencies order, and that cycles and bad reads exclude.
use Rattle.std.proofs.Common.{◌≡◌, ℕ, true, false, List, [], ◌∷◌, ◌++◌, refl, sym, subst, ◌∙◌, inl, inr}
use Rattle.std.specs.Prelude.{◌≢◌}
use Rattle.std.proofs.lemmas.Bool.{cases_eq}
use Rattle.std.proofs.lemmas.List.{append_cancel_right}
use Rattle.jh_txn.specs.declared.anomaly.BadRead.{BadRead}
use Rattle.jh_txn.specs.declared.anomaly.BadRead.TheVariants.{AbortedRead, DuplicateElements, GarbageRead, IntermediateRead, Internal, OutOfOrder}
use Rattle.jh_txn.specs.declared.dependency.Step.{Step}
use Rattle.jh_txn.specs.declared.dependency.Why.{Why}
use Rattle.jh_txn.specs.declared.dependency.Why.TheVariants.{FirstCommitter, ReadWrite, RealTime, WriteRead, WriteWrite}
use Rattle.jh_txn.specs.declared.model.ConsistencyModel.{ConsistencyModel}
use Rattle.jh_txn.specs.declared.txn.Txn.{Txn}
use Rattle.jh_txn.specs.BadReads.{IsBadRead, IsWrong, SawBase}
use Rattle.jh_txn.specs.Cycles.{IsCycle, LeadTo}
use Rattle.jh_txn.specs.Dependencies.{IsDependency, IsReadBefore, IsReadWithout, IsReason, MustBeThere, ReadsWith, ReadsWithout}
use Rattle.jh_txn.specs.Models.{keeps_real_time}
use Rattle.jh_txn.specs.SerialOrders.{IsSerialOrder, IsSerialOrderFor}
use Rattle.jh_txn.specs.Transactions.{AppendOnce, Appends, ComesBefore, HasNoRepeat, Saw, appends_at, appends_before, includes, list_after}
use Rattle.jh_txn.proofs.ListLemmas.{not_both, includes_left, includes_cases, includes_cons, includes_head, before_first, before_second, before_left, before_across, before_itself, before_trans, not_in_front, once_left, in_flat, flat_includes, before_flat, middle_shift, one_is}
use Rattle.jh_txn.proofs.TransactionLemmas.{saw, list_once, possible_of}

module _ (txns : List Txn) (order : List ℕ) (once : AppendOnce txns) (serial : IsSerialOrder txns order) where
  -- what stands up to a place stands in the order
  in_order : (front back : List ℕ) (place q : ℕ) → order ≡ front ++ place ∷ back → includes (front ++ place ∷ []) q ≡ true → includes order q ≡ true
  in_order front back place q is h =
      subst (λ xs. includes xs q ≡ true) (sym (is ∙ middle_shift front back place)) (includes_left (front ++ place ∷ []) back q h)

  before_in_order : (front back : List ℕ) (place p q : ℕ) → order ≡ front ++ place ∷ back → ComesBefore (front ++ place ∷ []) p q → ComesBefore order p q
  before_in_order front back place p q is h =
      subst (λ xs. ComesBefore xs p q) (sym (is ∙ middle_shift front back place)) (before_left (front ++ place ∷ []) back p q h)

  once_upto : (front back : List ℕ) (place : ℕ) → order ≡ front ++ place ∷ back → HasNoRepeat (front ++ place ∷ [])
  once_upto front back place is = once_left (front ++ place ∷ []) back (subst HasNoRepeat (is ∙ middle_shift front back place) serial.distinct)

  -- the writer of what a read shows stands before the reader, or is the reader itself
  pub writer_stands : (place m key element writer : ℕ) (seen : List ℕ) → Saw txns place m key seen → includes seen element ≡ true → Appends txns key element writer
      → (front back : List ℕ) × (order ≡ front ++ place ∷ back) × (includes (front ++ place ∷ []) writer ≡ true)
  writer_stands place m key element writer seen s shown appends =
      let r = saw txns order serial place m key seen s in
      let listed : includes (list_after txns key (r.front ++ place ∷ [])) element ≡ true = subst (λ xs. includes xs element ≡ true) (sym r.begins) (includes_left seen r.rest element shown) in
      let w = in_flat (appends_at txns key) (r.front ++ place ∷ []) element listed in
      (r.front, r.back, r.stands, subst (λ p. includes (r.front ++ place ∷ []) p ≡ true) (once.apart key element w.0 writer w.2 appends) w.1)

  pub there : (place : ℕ) → MustBeThere txns place → includes order place ≡ true
  there place h = elim h as (λ _. includes order place ≡ true) [
    | inl done ↦ serial.whole place done
    | inr shown ↦
        let w = writer_stands shown.2 shown.4.0 shown.0 shown.1 place shown.4.1 shown.4.2 shown.4.3 shown.3 in
        in_order w.0 w.1 shown.2 place w.2 w.3
  ]

  write_read : (key element first second : ℕ) → first ≢ second → Appends txns key element first → ReadsWith txns key element second → ComesBefore order first second
  write_read key element first second differ appends shows =
      let w = writer_stands second shows.0 key element first shows.1 shows.2 shows.3 appends in
      subst (λ xs. ComesBefore xs first second) (sym w.2) (elim (includes_cases w.0 (second ∷ []) first w.3) as (λ _. ComesBefore (w.0 ++ second ∷ w.1) first second) [
        | inl front ↦ before_across w.0 (second ∷ w.1) first second front (includes_head second w.1)
        | inr own ↦ elim (includes_cons second [] first own) as (λ _. ComesBefore (w.0 ++ second ∷ w.1) first second) [
          | inl same ↦ absurd (differ (sym same))
          | inr none ↦ absurd (not_both false none refl)
        ]
      ])

  read_write : (key element first second : ℕ) → first ≢ second → includes order second ≡ true → ReadsWithout txns key element first → Appends txns key element second → ComesBefore order first second
  read_write key element first second differ stands lacks appends =
      let r = saw txns order serial first lacks.0 key lacks.1 lacks.2 in
      let Goal : Type 0 = ComesBefore (r.front ++ first ∷ r.back) first second in
      subst (λ xs. ComesBefore xs first second) (sym r.stands) (elim (includes_cases r.front (first ∷ r.back) second (subst (λ xs. includes xs second ≡ true) r.stands stands)) as (λ _. Goal) [
        | inl front ↦ absurd (not_both (includes lacks.1 element) (subst (λ xs. includes xs element ≡ true) (sym r.is) (includes_left (list_after txns key r.front) (appends_before txns key first lacks.0) element (flat_includes (appends_at txns key) r.front second element front appends))) lacks.3)
        | inr behind ↦ elim (includes_cons first r.back second behind) as (λ _. Goal) [
          | inl same ↦ absurd (differ same)
          | inr back ↦ stand_across r.front r.back first second back
        ]
      ]) where
        stand_across : (front back : List ℕ) (p q : ℕ) → includes back q ≡ true → ComesBefore (front ++ p ∷ back) p q
        stand_across [] back p q h = inl (refl, h)
        stand_across (x ∷ front) back p q h = inr (stand_across front back p q h)

  shown_before : (key one other first second : ℕ) → first ≢ second → Appends txns key one first → Appends txns key other second → IsReadBefore txns key one other → ComesBefore order first second
  shown_before key one other first second differ appends others shown =
      let place = shown.0 in
      let r = saw txns order serial place shown.1 key shown.2 shown.3 in
      let upto : List ℕ = r.front ++ place ∷ [] in
      let listed : ComesBefore (list_after txns key upto) one other = subst (λ xs. ComesBefore xs one other) (sym r.begins) (before_left shown.2 r.rest one other shown.4) in
      let d = before_flat (appends_at txns key) upto one other listed in
      let is_first : d.0 ≡ first = once.apart key one d.0 first d.2 appends in
      let is_second : d.1 ≡ second = once.apart key other d.1 second d.3 others in
      elim d.4 as (λ _. ComesBefore order first second) [
        | inl two ↦ before_in_order r.front r.back place first second r.stands (subst (λ p. ComesBefore upto p second) is_first (subst (λ q. ComesBefore upto d.0 q) is_second two))
        | inr one' ↦ absurd (differ (sym is_first ∙ one'.1 ∙ is_second))
      ]

  shown_without : (key one other first second : ℕ) → first ≢ second → includes order second ≡ true → Appends txns key one first → Appends txns key other second → IsReadWithout txns key one other first → ComesBefore order first second
  shown_without key one other first second differ stands appends others without =
      let r = without.0 in
      let early : ComesBefore order first r = write_read key one first r (λ same. without.3 (sym same)) appends (without.1, without.2, without.4, without.5) in
      elim (cases_eq r second) as (λ _. ComesBefore order first second) [
        | inl is ↦ subst (λ q. ComesBefore order first q) is early
        | inr not_it ↦ before_trans order first r second serial.distinct early (read_write key other r second not_it stands (without.1, without.2, without.4, without.6) others)
      ]

  -- what makes one transaction come before another one does so in each order
  pub ordered : (model : ConsistencyModel) (why : Why) (first second : ℕ) → IsSerialOrderFor txns (keeps_real_time model) order → IsDependency txns model why first second → ComesBefore order first second
  ordered model why first second orders needs = by_kind why needs.reason where
    by_kind : (kind : Why) → IsReason txns model kind first second → ComesBefore order first second
    by_kind (WriteRead key element) reason = write_read key element first second needs.differ reason.0 reason.1
    by_kind (WriteWrite key element) reason = elim reason.3 as (λ _. ComesBefore order first second) [
      | inl shown ↦ shown_before key element reason.1 first second needs.differ reason.0 reason.2 shown
      | inr without ↦ shown_without key element reason.1 first second needs.differ (there second needs.second_there) reason.0 reason.2 without
    ]
    by_kind (FirstCommitter key element) reason = read_write key reason.2 first second needs.differ (there second needs.second_there) reason.4 reason.3
    by_kind (ReadWrite key element) reason = read_write key element first second needs.differ (there second needs.second_there) reason.0 reason.1
    by_kind RealTime reason = orders.timely reason.0 first second reason.1 (there second needs.second_there)

  led : (model : ConsistencyModel) → IsSerialOrderFor txns (keeps_real_time model) order → (step : Step) (steps : List Step) (last : ℕ) → LeadTo txns model (step ∷ steps) last → ComesBefore order step.place last
  led model orders step [] last reason = ordered model step.why step.place last orders reason.0
  led model orders step (next ∷ steps) last reason =
      before_trans order step.place next.place last serial.distinct (ordered model step.why step.place next.place orders reason.0) (led model orders next steps last reason.1)

  pub no_cycle : (model : ConsistencyModel) → IsSerialOrderFor txns (keeps_real_time model) order → (steps : List Step) → IsCycle txns model steps → ⊥
  no_cycle model orders [] cycle = cycle
  no_cycle model orders (step ∷ steps) cycle = before_itself order step.place serial.distinct (led model orders step steps step.place cycle)

  -- what a read saw before its own transaction's appends is the list behind those that stand before
  base_is : (place m key : ℕ) (base front back : List ℕ) → order ≡ front ++ place ∷ back → SawBase txns place m key base → base ≡ list_after txns key front
  base_is place m key base front back stands s =
      append_cancel_right base (list_after txns key front) (appends_before txns key place m) (serial.reads front back place stands m key (base ++ appends_before txns key place m) s)

  not_internal : (place m key : ℕ) (seen : List ℕ) → Saw txns place m key seen → IsWrong txns place m key seen Internal → ⊥
  not_internal place m key seen s h =
      let r = saw txns order serial place m key seen s in
      elim h as (λ _. ⊥) [
        | inl no_base ↦ no_base (list_after txns key r.front) r.is
        | inr more ↦ elim more as (λ _. ⊥) [
          | inl two ↦ two.6 (base_is place m key two.0 r.front r.back r.stands two.4 ∙ sym (base_is place two.2 key two.1 r.front r.back r.stands two.5))
          | inr own ↦
              let listed : includes (list_after txns key r.front) own.1 ≡ true = subst (λ xs. includes xs own.1 ≡ true) (base_is place m key own.0 r.front r.back r.stands own.2) own.3 in
              let w = in_flat (appends_at txns key) r.front own.1 listed in
              let here : includes r.front place ≡ true = subst (λ p. includes r.front p ≡ true) (once.apart key own.1 w.0 place w.2 own.4) w.1 in
              not_in_front r.front r.back place (subst HasNoRepeat r.stands serial.distinct) here
        ]
      ]

  not_wrong : (place m key : ℕ) (seen : List ℕ) (anomaly : BadRead) → Saw txns place m key seen → IsWrong txns place m key seen anomaly → ⊥
  not_wrong place m key seen Internal s h = not_internal place m key seen s h
  not_wrong place m key seen DuplicateElements s h =
      let r = saw txns order serial place m key seen s in
      h (once_left seen r.rest (subst HasNoRepeat r.begins (list_once txns order serial once key (r.front ++ place ∷ []) (once_upto r.front r.back place r.stands))))
  not_wrong place m key seen GarbageRead s h =
      let r = saw txns order serial place m key seen s in
      let w = in_flat (appends_at txns key) (r.front ++ place ∷ []) h.0 (subst (λ xs. includes xs h.0 ≡ true) (sym r.begins) (includes_left seen r.rest h.0 h.1)) in
      h.2 w.0 w.2
  not_wrong place m key seen AbortedRead s h =
      let w = writer_stands place m key h.0 h.1 seen s h.2 h.3 in
      possible_of txns order serial.possible h.1 (in_order w.0 w.1 place h.1 w.2 w.3) h.4
  not_wrong place m key seen IntermediateRead s h =
      let r = saw txns order serial place m key seen s in
      let upto : List ℕ = r.front ++ place ∷ [] in
      let w = in_flat (appends_at txns key) upto h.0 (subst (λ xs. includes xs h.0 ≡ true) (sym r.begins) (includes_left seen r.rest h.0 h.6)) in
      let is : w.0 ≡ h.2 = once.apart key h.0 w.0 h.2 w.2 h.4 in
      elim (includes_cases r.front (place ∷ []) h.2 (subst (λ p. includes upto p ≡ true) is w.1)) as (λ _. ⊥) [
        | inl front ↦ not_both (includes seen h.1) (subst (λ xs. includes xs h.1 ≡ true) (sym r.is) (includes_left (list_after txns key r.front) (appends_before txns key place m) h.1 (flat_includes (appends_at txns key) r.front h.2 h.1 front h.5))) h.7
        | inr own ↦ h.3 (sym (one_is place h.2 own))
      ]
  not_wrong place m key seen OutOfOrder s h =
      let r = saw txns order serial place m key seen s in
      let upto : List ℕ = r.front ++ place ∷ [] in
      let d = before_flat (appends_at txns key) upto h.1 h.0 (subst (λ xs. ComesBefore xs h.1 h.0) (sym r.begins) (before_left seen r.rest h.1 h.0 h.4)) in
      let is_first : d.0 ≡ h.2 = once.apart key h.1 d.0 h.2 d.2 (before_second (appends_at txns key h.2) h.0 h.1 h.3) in
      let is_second : d.1 ≡ h.2 = once.apart key h.0 d.1 h.2 d.3 (before_first (appends_at txns key h.2) h.0 h.1 h.3) in
      elim d.4 as (λ _. ⊥) [
        | inl two ↦ before_itself upto h.2 (once_upto r.front r.back place r.stands) (subst (λ p. ComesBefore upto p h.2) is_first (subst (λ q. ComesBefore upto d.0 q) is_second two))
        | inr one ↦ before_itself (appends_at txns key h.2) h.0 (once.within key h.2)
            (before_trans (appends_at txns key h.2) h.0 h.1 h.0 (once.within key h.2) h.3 (subst (λ p. ComesBefore (appends_at txns key p) h.1 h.0) is_first one.2))
      ]

  pub no_bad_read : (place m : ℕ) (anomaly : BadRead) → IsBadRead txns place m anomaly → ⊥
  no_bad_read place m anomaly bad = not_wrong place m bad.0 bad.1 anomaly bad.2 bad.3
