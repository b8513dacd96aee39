-- Two reads that fork: all that they say has a cycle, and no order can keep it.
use Rattle.std.proofs.Common.{◌≡◌, ℕ, zero, suc, ◌+◌, ◌<◌, Bool, Option, List, [], ◌∷◌, length, get_or, refl, sym, ap, subst, ◌∙◌, inl, inr, arith}
use Rattle.std.specs.Prelude.{◌⊎◌, ◌↔◌, Vec}
use Rattle.std.specs.declared.alloc.Global.{Global}
use Rattle.std.proofs.lemmas.Bool.{cases_eq}
use Rattle.jh_txn.specs.declared.anomaly.BadRead.TheVariants.{GarbageRead}
use Rattle.jh_txn.specs.declared.dependency.Step.{Step}
use Rattle.jh_txn.specs.declared.dependency.Why.{Why}
use Rattle.jh_txn.specs.declared.dependency.Why.TheVariants.{ReadWrite, WriteRead, WriteWrite}
use Rattle.jh_txn.specs.declared.model.ConsistencyModel.{ConsistencyModel}
use Rattle.jh_txn.specs.declared.txn.Txn.{Txn}
use Rattle.jh_txn.specs.BadReads.{HasNoBadRead}
use Rattle.jh_txn.specs.Cycles.{IsCycle, LeadTo, first_place}
use Rattle.jh_txn.specs.Dependencies.{MustBeThere}
use Rattle.jh_txn.specs.Keeping.{KeepsRead}
use Rattle.jh_txn.specs.Transactions.{Appends, ComesBefore, Saw}
use Rattle.jh_txn.proofs.ExplainedLemmas.{writer_cases}
use Rattle.jh_txn.proofs.KeepingLemmas.{begin_one_another}
use Rattle.jh_txn.proofs.ListLemmas.{before_trans, place_included, place_of}
use Rattle.jh_txn_graph.specs.Graphs.{AreHubsUpwards, HasStep, IsClosed, IsCycleOfPaths, IsPath, KeepsPaths, LeadByPaths}
use Rattle.jh_txn_seen.specs.declared.done_reads.DoneRead.{DoneRead}
use Rattle.jh_txn_edges.specs.Graph.{IsWholeReadStep}
use Rattle.jh_txn_seen.specs.Marks.{AreThereMarks, IsMarked}
use Rattle.jh_txn_seen.specs.Reads.{AreDoneReads, AreForked, IsAmongReads}
use Rattle.jh_txn_judge.proofs.ChosenLemmas.{chosen, of_all, step_before}
use Rattle.jh_txn_judge.proofs.DependLemmas.{Depends, lacked_depends, neighbours_before, pair_depends, shown_depends}
use Rattle.jh_txn_seen.proofs.KnownLemmas.{is_writer, marked_of, must_below, must_of}
use Rattle.jh_txn_edges.proofs.StepLemmas.{neighbours_at}
use Rattle.jh_txn_writers.specs.Numbers.{AreNumbersOf}
use Rattle.jh_txn_writers.specs.Writers.{AreWriters}
use Rattle.jh_txn_writers.specs.declared.writer.Writer.{Writer}

-- where two that stand in this order stand
stand_places : (xs : List ℕ) (a b : ℕ) → ComesBefore xs a b → (i : ℕ) × (n : ℕ) × (i + suc n < length xs) × (get_or xs i 0 ≡ a) × (get_or xs (i + suc n) 0 ≡ b)
stand_places [] a b h = absurd h
stand_places (x ∷ xs) a b h = elim h as (λ _. (i : ℕ) × (n : ℕ) × (i + suc n < length (x ∷ xs)) × (get_or (x ∷ xs) i 0 ≡ a) × (get_or (x ∷ xs) (i + suc n) 0 ≡ b)) [
  | inl now ↦ let r = place_of xs b now.1 in (0, r.0, omega (arith, r.1), now.0, ap (λ k. get_or (x ∷ xs) k 0) (let e : 0 + suc r.0 ≡ suc r.0 = omega arith in e) ∙ r.2)
  | inr later ↦ let r = stand_places xs a b later in (suc r.0, r.1, omega (arith, r.2), r.3, ap (λ k. get_or (x ∷ xs) k 0) (let e : suc r.0 + suc r.1 ≡ suc (r.0 + suc r.1) = omega arith in e) ∙ r.4)
]

module _ (txns : List Txn) (keys elements : ℕ) (writers : List (Option Writer)) (reads : List DoneRead) (there : List Bool) (numbered : AreNumbersOf txns keys elements) (table : AreWriters txns elements writers) (are : AreDoneReads txns reads) (marked : AreThereMarks txns writers reads there) (graph : List (Vec Step Global)) where
  must : (place : ℕ) → IsMarked there place → MustBeThere txns place
  must = must_of txns keys elements writers numbered table reads are there marked

  mark : (place : ℕ) → MustBeThere txns place → IsMarked there place
  mark = marked_of txns keys elements writers numbered table reads are there marked

  read_sound : (read : DoneRead) → IsAmongReads reads read → (p : ℕ) (w : Why) (t : ℕ) → IsWholeReadStep writers there read p w t → Depends txns p w t
  read_sound read one p w t h = elim h as (λ _. Depends txns p w t) [
    | inl shown ↦ shown_depends txns keys elements writers numbered table reads are read shown.0 p w t one shown.1 shown.2
    | inr more ↦ elim more as (λ _. Depends txns p w t) [
      | inl along ↦
          let saw = are.right read one in
          pair_depends txns keys elements writers numbered table reads are read.key along.0 along.1 p w t (read.place, saw.0, read.seen.now, saw.1, neighbours_before read.seen.now along.0 along.1 along.2) along.3
      | inr lacked ↦ lacked_depends txns keys elements writers numbered table reads are read lacked.0 p w t one lacked.1.0 (must t lacked.1.1) lacked.1.2
    ]
  ]

  pub graph_sound : (one other : DoneRead) → IsAmongReads reads one → IsAmongReads reads other → ((p : ℕ) (w : Why) (t : ℕ) → HasStep graph p w t ↔ (IsWholeReadStep writers there one p w t ⊎ IsWholeReadStep writers there other p w t)) → (p : ℕ) (w : Why) (t : ℕ) → HasStep graph p w t → Depends txns p w t
  graph_sound one other first second steps p w t h = elim ((steps p w t).0 h) as (λ _. Depends txns p w t) [
    | inl said ↦ read_sound one first p w t said
    | inr said ↦ read_sound other second p w t said
  ]

  module _ (sound : (p : ℕ) (w : Why) (t : ℕ) → HasStep graph p w t → Depends txns p w t) where
    path_direct : (hubs : List ℕ) (n : ℕ) (w : Why) (q : ℕ) → ConsistencyModel → IsPath graph (length txns) n hubs w q → HasStep graph n w q
    path_direct [] n w q model path = path
    path_direct (hub ∷ hubs) n w q model path = absurd (omega (arith, must_below txns hub (sound n path.0 hub path.1 model).second_there, path.2))

    lead_sound : (model : ConsistencyModel) (steps : List Step) (last : ℕ) → LeadByPaths graph (length txns) steps last → LeadTo txns model steps last
    lead_sound model [] last lead = tt
    lead_sound model (step ∷ steps) last lead = (
      sound step.place step.why (first_place steps last) (path_direct lead.1.0 step.place step.why (first_place steps last) model lead.1.1) model,
      lead_sound model steps last lead.2,
    )

    pub fork_cycle : (steps : List Step) → IsCycleOfPaths graph (length txns) steps → (model : ConsistencyModel) → IsCycle txns model steps
    fork_cycle [] cycle model = cycle
    fork_cycle (step ∷ steps) cycle model = lead_sound model (step ∷ steps) step.place cycle

    pub fork_closed : ConsistencyModel → length graph ≡ length txns → IsClosed graph
    fork_closed model count step node is = omega (arith, count, must_below txns step.place (sound step.place step.why node (step, is, refl, refl) model).first_there)

    pub fork_upwards : ConsistencyModel → AreHubsUpwards graph (length txns)
    fork_upwards model step node is ge also = absurd (omega (arith, ge, must_below txns step.place (sound step.place step.why node (step, is, refl, refl) model).first_there))

  module _ (good : HasNoBadRead txns) (nodes : List ℕ) (kept : KeepsPaths graph (length txns) nodes) where
    abbrev Order : List ℕ
    Order = chosen there nodes

    step : (p : ℕ) (w : Why) (q : ℕ) → MustBeThere txns p → MustBeThere txns q → HasStep graph p w q → ComesBefore Order p q
    step = step_before txns there must mark graph nodes kept

    module _ (read : DoneRead) (one : IsAmongReads reads read) (said : (p : ℕ) (w : Why) (t : ℕ) → IsWholeReadStep writers there read p w t → HasStep graph p w t) where
      shown_must : (i writer : ℕ) → i < length read.seen.now → Appends txns read.key (get_or read.seen.now i 0) writer → MustBeThere txns writer
      shown_must i writer low appends =
          let saw = are.right read one in
          inr (read.key, get_or read.seen.now i 0, read.place, appends, (saw.0, read.seen.now, saw.1, place_included read.seen.now i low))

      turns : (i n first second : ℕ) → i + n < length read.seen.now → Appends txns read.key (get_or read.seen.now i 0) first → Appends txns read.key (get_or read.seen.now (i + n) 0) second → (first ≡ second) ⊎ ComesBefore Order first second
      turns i zero first second low appends others = inl (numbered.once.apart read.key (get_or read.seen.now i 0) first second appends (subst (λ k. Appends txns read.key (get_or read.seen.now k 0) second) (let e : i + 0 ≡ i = omega arith in e) others))
      turns i (suc n) first second low appends others =
          let seen = read.seen.now in
          let saw = are.right read one in
          let below : i + n < length seen = omega (arith, low) in
          let next : i + suc n ≡ i + n + 1 = omega arith in
          let behind : i + n + 1 < length seen = omega (arith, low) in
          let others_next : Appends txns read.key (get_or seen (i + n + 1) 0) second = subst (λ k. Appends txns read.key (get_or seen k 0) second) next others in
          elim (writer_cases txns read.key (get_or seen (i + n) 0)) as (λ _. (first ≡ second) ⊎ ComesBefore Order first second) [
            | inr nobody ↦ absurd (good read.place saw.0 GarbageRead (read.key, seen, saw.1, (get_or seen (i + n) 0, place_included seen (i + n) below, nobody)))
            | inl w ↦
                let so_far = turns i n first w.0 below appends w.1 in
                let last : (w.0 ≡ second) ⊎ ComesBefore Order w.0 second = elim (cases_eq w.0 second) as (λ _. (w.0 ≡ second) ⊎ ComesBefore Order w.0 second) [
                  | inl same ↦ inl same
                  | inr differ ↦ inr (step w.0 (WriteWrite read.key (get_or seen (i + n) 0)) second (shown_must (i + n) w.0 below w.1) (shown_must (i + n + 1) second behind others_next)
                      (said w.0 (WriteWrite read.key (get_or seen (i + n) 0)) second (inr (inl (
                        get_or seen (i + n) 0,
                        get_or seen (i + n + 1) 0,
                        neighbours_at seen (i + n) behind,
                        (differ, is_writer txns keys elements writers numbered table read.key (get_or seen (i + n) 0) w.0 w.1, is_writer txns keys elements writers numbered table read.key (get_or seen (i + n + 1) 0) second others_next, refl),
                      )))))
                ] in
                elim so_far as (λ _. (first ≡ second) ⊎ ComesBefore Order first second) [
                  | inl same ↦ subst (λ z. (z ≡ second) ⊎ ComesBefore Order z second) (sym same) last
                  | inr before ↦ elim last as (λ _. (first ≡ second) ⊎ ComesBefore Order first second) [
                    | inl same ↦ inr (subst (λ z. ComesBefore Order first z) same before)
                    | inr later ↦ inr (before_trans Order first w.0 second (of_all txns there must mark graph nodes kept).distinct before later)
                  ]
                ]
          ]

      keeps_read : KeepsRead txns Order read.place read.key read.seen.now
      keeps_read =
          let saw = are.right read one in
          record {
            shown = λ element writer listed appends differ.
                step writer (WriteRead read.key element) read.place (inr (read.key, element, read.place, appends, (saw.0, read.seen.now, saw.1, listed))) (inl saw.1.0)
                (said writer (WriteRead read.key element) read.place (inl (element, listed, (differ, is_writer txns keys elements writers numbered table read.key element writer appends, refl, refl))));
            lacked = λ element writer lacks appends must_writer differ.
                step read.place (ReadWrite read.key element) writer (inl saw.1.0) must_writer
                (said read.place (ReadWrite read.key element) writer (inr (inr (element, (lacks, mark writer must_writer, (λ same. differ (sym same), is_writer txns keys elements writers numbered table read.key element writer appends, refl, refl))))));
            in_turn = λ one_of other first second before appends others differ.
                let at = stand_places read.seen.now one_of other before in
                elim (turns at.0 (suc at.1) first second at.2 (subst (λ e. Appends txns read.key e first) (sym at.3) appends) (subst (λ e. Appends txns read.key e second) (sym at.4) others)) as (λ _. ComesBefore Order first second) [
                  | inl same ↦ absurd (differ same)
                  | inr early ↦ early
                ];
          }

    pub no_order : (one other : DoneRead) → AreForked reads one other → ((p : ℕ) (w : Why) (t : ℕ) → IsWholeReadStep writers there one p w t → HasStep graph p w t) → ((p : ℕ) (w : Why) (t : ℕ) → IsWholeReadStep writers there other p w t → HasStep graph p w t) → ⊥
    no_order one other forked said also =
        let saw = are.right one forked.first in
        let saw_too = are.right other forked.second in
        forked.apart (begin_one_another txns Order numbered.once good (of_all txns there must mark graph nodes kept) one.place saw.0 other.place saw_too.0 one.key one.seen.now other.seen.now saw.1 (keeps_read one forked.first said)
        (subst (λ k. Saw txns other.place saw_too.0 k other.seen.now) (sym forked.same_key) saw_too.1)
        (subst (λ k. KeepsRead txns Order other.place k other.seen.now) (sym forked.same_key) (keeps_read other forked.second also)))
