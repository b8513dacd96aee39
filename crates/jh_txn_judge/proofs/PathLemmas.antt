-- That the paths of the graph are dependencies, and how its nodes are numbered.
use Rattle.std.proofs.Common.{◌≡◌, ℕ, ◌+◌, ◌<◌, ◌≤◌, Bool, true, false, Option, Some, List, [], ◌∷◌, length, get_or, refl, sym, ap, subst, ◌∙◌, inl, inr, arith}
use Rattle.std.specs.Prelude.{◌⊎◌, Vec, slice_get}
use Rattle.std.specs.Option.{IsSomeAnd}
use Rattle.std.specs.declared.alloc.Global.{Global}
use Rattle.std.proofs.lemmas.Bool.{cases_Bool}
use Rattle.std.proofs.lemmas.Option.{slice_get_within}
use Rattle.jh_txn.specs.declared.dependency.Step.{Step}
use Rattle.jh_txn.specs.declared.dependency.Why.{Why}
use Rattle.jh_txn.specs.declared.model.ConsistencyModel.{ConsistencyModel}
use Rattle.jh_txn.specs.declared.txn.Txn.{Txn}
use Rattle.jh_txn.specs.BadReads.{HasNoBadRead}
use Rattle.jh_txn.specs.Cycles.{IsCycle, LeadTo, first_place}
use Rattle.jh_txn.specs.Dependencies.{IsDependency, MustBeThere, ReadsWithout}
use Rattle.jh_txn.specs.Models.{keeps_real_time}
use Rattle.jh_txn.specs.RealTime.{CompleteAfterInvocation, PrecedesInTime, invoked_at}
use Rattle.jh_txn.specs.Transactions.{Appends, Saw, includes}
use Rattle.jh_txn.proofs.OrderCheckLemmas.{done_below}
use Rattle.jh_txn.proofs.TransactionLemmas.{not_before_itself}
use Rattle.jh_txn_graph.specs.Graphs.{AreHubsUpwards, HasStep, IsClosed, IsCycleOfPaths, IsPath, LeadByPaths}
use Rattle.jh_txn_seen.specs.declared.done_reads.DoneRead.{DoneRead}
use Rattle.jh_txn_seen.specs.declared.middles.Middle.{Middle}
use Rattle.jh_txn_edges.specs.Graph.{IsGraphOf}
use Rattle.jh_txn_seen.specs.Marks.{AreThereMarks, IsMarked}
use Rattle.jh_txn_seen.specs.Middles.{AppendsUnread}
use Rattle.jh_txn_edges.specs.MiddleSteps.{IsAnyFullStep, IsAnyUnreadStep}
use Rattle.jh_txn_edges.specs.Moments.{IsDoneFrom, IsMomentStep}
use Rattle.jh_txn_seen.specs.Reads.{AreDoneReads, AreLongestOf, HasSeen, longest_of}
use Rattle.jh_txn_judge.proofs.DependLemmas.{Depends, along_depends, read_depends, without_depends}
use Rattle.jh_txn_seen.proofs.KnownLemmas.{appends_below, must_below, must_of}
use Rattle.jh_txn_edges.proofs.MomentLemmas.{point_inside}
use Rattle.jh_txn_seen.proofs.ReadLemmas.{read_key_below}
use Rattle.jh_txn_writers.specs.Numbers.{AreNumbersOf}
use Rattle.jh_txn_writers.specs.Writers.{AreWriters}
use Rattle.jh_txn_writers.specs.declared.writer.Writer.{Writer}

module _ (txns : List Txn) (elements : ℕ) (writers : List (Option Writer)) (reads : List DoneRead) (there : List Bool) (longest : List (Option DoneRead)) (real_time : Bool) (graph : List (Vec Step Global)) (numbered : AreNumbersOf txns (length longest) elements) (table : AreWriters txns elements writers) (are : AreDoneReads txns reads) (marked : AreThereMarks txns writers reads there) (longests : AreLongestOf reads (length reads) longest) (good : HasNoBadRead txns) (ends : CompleteAfterInvocation txns) (g : IsGraphOf txns writers there reads longest real_time graph) where
  -- what no longest read has
  pub not_read : (key element : ℕ) → (IsMarked g.marks element → ⊥) → includes (longest_of longest key) element ≡ false
  not_read key element none = elim (cases_Bool (includes (longest_of longest key) element)) as (λ _. includes (longest_of longest key) element ≡ false) [
    | inl listed ↦ absurd (none ((g.read element).1 (key, listed)))
    | inr lacks ↦ lacks
  ]

  -- it read all of a key, and appends nothing to it that nobody read
  abbrev Idle : ℕ → ℕ → Type 0
  Idle key place = HasSeen txns place key (longest_of longest key) × ((element : ℕ) → AppendsUnread txns g.marks key element place → ⊥)

  abbrev DoneBy : ℕ → ℕ → Type 0
  DoneBy place index = (at : ℕ) × IsDoneFrom txns place at × (at ≤ index)

  -- the transaction is the node, or may stand before it: what a hub means
  abbrev Stands : ℕ → ℕ → Type 0
  Stands node place = ((node < length txns) × (place ≡ node)) ⊎ (((key : ℕ) × (node ≡ length txns + key) × (key < length longest) × Idle key place) ⊎ ((i : ℕ) × (node ≡ length txns + length longest + i) × DoneBy place (get_or g.moments i 0)))

  at_txn : (node place : ℕ) → Stands node place → node < length txns → place ≡ node
  at_txn node place h low = elim h as (λ _. place ≡ node) [
    | inl here ↦ here.1
    | inr hub ↦ elim hub as (λ _. place ≡ node) [ inl k ↦ absurd (omega (arith, low, k.1)) | inr m ↦ absurd (omega (arith, low, m.1)) ]
  ]

  at_key : (node key place : ℕ) → node ≡ length txns + key → key < length longest → Stands node place → Idle key place
  at_key node key place is low h = elim h as (λ _. Idle key place) [
    | inl here ↦ absurd (omega (arith, is, here.0))
    | inr hub ↦ elim hub as (λ _. Idle key place) [
      | inl k ↦ let same : k.0 ≡ key = omega (arith, is, k.1) in subst (λ n. Idle n place) same k.3
      | inr m ↦ absurd (omega (arith, is, m.1, low))
    ]
  ]

  at_moment : (node i place : ℕ) → node ≡ length txns + length longest + i → Stands node place → DoneBy place (get_or g.moments i 0)
  at_moment node i place is h = elim h as (λ _. DoneBy place (get_or g.moments i 0)) [
    | inl here ↦ absurd (omega (arith, is, here.0))
    | inr hub ↦ elim hub as (λ _. DoneBy place (get_or g.moments i 0)) [
      | inl k ↦ absurd (omega (arith, is, k.1, k.2))
      | inr m ↦ let same : m.0 ≡ i = omega (arith, is, m.1) in subst (λ n. DoneBy place (get_or g.moments n 0)) same m.2
    ]
  ]

  module _ (model : ConsistencyModel) (asks : keeps_real_time model ≡ real_time) where
    -- what a step owes of each transaction that stands at its node
    abbrev Sound : ℕ → Why → ℕ → ℕ → Type 0
    Sound node why target place = (target < length txns → IsDependency txns model why place target) × (length txns ≤ target → Stands target place)

    direct : (node : ℕ) (why : Why) (target place : ℕ) → Depends txns node why target → Stands node place → Sound node why target place
    direct node why target place h stands =
        let d = h model in
        let low : node < length txns = must_below txns node d.first_there in
        let high : target < length txns = must_below txns target d.second_there in (
          λ _. subst (λ p. IsDependency txns model why p target) (sym (at_txn node place stands low)) d,
          λ ge. absurd (omega (arith, ge, high)),
        )

    full_sound : (node : ℕ) (why : Why) (target place : ℕ) → IsAnyFullStep longest g.middles reads node why target → Stands node place → Sound node why target place
    full_sound node why target place h stands =
        let read = h.0 in
        let middle = h.2.0 in
        let full = h.2.1 in
        let saw = are.right read h.1 in
        let low : read.place < length txns = done_below txns read.place saw.1.0 in
        let same : place ≡ read.place = at_txn node place stands (subst (λ n. n < length txns) (sym h.2.4) low) ∙ h.2.4 in
        elim (g.middle.right read.key middle h.2.2) as (λ _. Sound node why target place) [
          | inl both ↦
              let element = both.0 in
              let saw_too = are.right both.1 both.4 in
              let lacks : ReadsWithout txns read.key element node = subst (ReadsWithout txns read.key element) (sym h.2.4) (saw.0, read.seen.now, saw.1, subst (λ xs. includes xs element ≡ false) (sym full) (not_read read.key element both.3.1)) in
              let must : MustBeThere txns target = subst (MustBeThere txns) (both.5 ∙ sym h.2.6) (inl saw_too.1.0) in
              let appends : Appends txns read.key element target = subst (λ t. Appends txns read.key element t) (sym h.2.6) both.3.0 in
              direct node why target place (subst (λ w. Depends txns node w target) (sym (h.2.5 ∙ both.2)) (without_depends txns (length longest) elements writers numbered table reads are read.key element node target lacks appends must h.2.3)) stands
          | inr hub ↦
              let is : target ≡ length txns + read.key = h.2.6 ∙ hub.0 in (
                λ low. absurd (omega (arith, low, is)),
                λ _. inr (inl (
                  read.key,
                  is,
                  read_key_below txns reads (length longest) are numbered.keys_below read h.1,
                  subst (Idle read.key) (sym same) ((saw.0, subst (λ xs. Saw txns read.place saw.0 read.key xs) full saw.1), λ element unread. hub.1 h.1.0 element read (slice_get_within reads h.1.0 read h.1.1) h.1.1 refl full unread),
                )),
              )
        ]

    unread_sound : (node : ℕ) (why : Why) (target place : ℕ) → IsAnyUnreadStep writers there g.marks g.middles node why target → Stands node place → Sound node why target place
    unread_sound node why target place h stands =
        let element = h.0 in
        let writer = h.1.0 in
        let middle = h.1.1 in
        let unread = h.1.4 in
        let appends : Appends txns writer.key element target = subst (λ t. Appends txns writer.key element t) (sym h.1.9) (table.right element writer h.1.2).appends in
        let must : MustBeThere txns target = subst (MustBeThere txns) (sym h.1.9) (must_of txns (length longest) elements writers numbered table reads are there marked writer.place h.1.3) in
        let low : target < length txns = must_below txns target must in
        elim (g.middle.right writer.key middle h.1.5) as (λ _. Sound node why target place) [
          | inl both ↦
              let read = both.1 in
              let saw = are.right read both.4 in
              let from : read.place ≡ node = both.5 ∙ sym h.1.7 in
              let here : Saw txns node saw.0 writer.key read.seen.now = subst (λ p. Saw txns p saw.0 writer.key read.seen.now) from (subst (λ k. Saw txns read.place saw.0 k read.seen.now) both.6 saw.1) in
              let lacks : ReadsWithout txns writer.key element node = (saw.0, read.seen.now, here, subst (λ xs. includes xs element ≡ false) (sym (both.7 ∙ ap (longest_of longest) both.6)) (not_read writer.key element unread)) in
              direct node why target place (subst (λ w. Depends txns node w target) (sym h.1.8) (without_depends txns (length longest) elements writers numbered table reads are writer.key element node target lacks appends must h.1.6)) stands
          | inr hub ↦
              let key_low : writer.key < length longest = omega (arith, slice_get_within g.middles writer.key middle h.1.5, g.middle.count) in
              let idle = at_key node writer.key place (h.1.7 ∙ hub.0) key_low stands in
              let lacks : ReadsWithout txns writer.key element place = (idle.0.0, longest_of longest writer.key, idle.0.1, not_read writer.key element unread) in (
                λ _. subst (λ w. IsDependency txns model w place target) (sym h.1.8) (without_depends txns (length longest) elements writers numbered table reads are writer.key element place target lacks appends must
                    (λ same. idle.1 element (subst (λ t. Appends txns writer.key element t) (sym same) appends, unread)) model),
                λ ge. absurd (omega (arith, ge, low)),
              )
        ]

    time_sound : (node : ℕ) (why : Why) (target place : ℕ) → real_time ≡ true → IsMomentStep txns there g.moments (length txns + length longest) node why target → Stands node place → Sound node why target place
    time_sound node why target place asked h stands =
        let times = g.times asked in
        elim h as (λ _. Sound node why target place) [
          | inl completion ↦
              let done = completion.0 in
              let index = completion.1.0 in
              let point = completion.1.1 in
              let from = completion.1.2 in
              let pointed = completion.1.3 in
              let low : done < length txns = done_below txns done from.0 in
              let same : place ≡ done = at_txn node place stands (subst (λ n. n < length txns) (sym completion.1.4) low) ∙ completion.1.4 in
              let inside : point < length g.moments = point_inside g.moments index point (times.whole done index from) pointed in
              let is : target ≡ length txns + length longest + point = completion.1.6 in (
                λ under. absurd (omega (arith, under, is)),
                λ _. inr (inr (point, is, (index, subst (λ p. IsDoneFrom txns p index) (sym same) from, pointed.behind point (omega arith) inside))),
              )
          | inr more ↦ elim more as (λ _. Sound node why target place) [
            | inl next ↦
                let point = next.0 in
                let by = at_moment node point place next.2 stands in
                let is : target ≡ length txns + length longest + (point + 1) = next.4 in
                let up : get_or g.moments point 0 ≤ get_or g.moments (point + 1) 0 = times.rising point (point + 1) (omega arith) next.1 in (
                  λ under. absurd (omega (arith, under, is)),
                  λ _. inr (inr (point + 1, is, (by.0, by.1, omega (arith, by.2, up)))),
                )
            | inr invocation ↦
                let invoked = invocation.0 in
                let point = invocation.1.0 in
                let by = at_moment node point place invocation.1.3 stands in
                let must : MustBeThere txns target = subst (MustBeThere txns) (sym invocation.1.5) (must_of txns (length longest) elements writers numbered table reads are there marked invoked invocation.1.1) in
                let low : target < length txns = must_below txns target must in
                let early : by.0 < invoked_at txns target =
                let below : get_or g.moments point 0 < invoked_at txns invoked = invocation.1.2.before point (omega arith) in
                subst (λ t. by.0 < invoked_at txns t) (sym invocation.1.5) (omega (arith, by.2, below)) in
                let precedes : PrecedesInTime txns place target = (by.1.0, subst (λ o. IsSomeAnd o (λ completed. completed < invoked_at txns target)) (sym by.1.1) early) in (
                  λ _. subst (λ w. IsDependency txns model w place target) (sym invocation.1.4) (record {
                    differ = λ same. not_before_itself txns ends target (subst (λ p. PrecedesInTime txns p target) same precedes);
                    first_there = inl by.1.0;
                    second_there = must;
                    reason = (asks ∙ asked, precedes);
                  }),
                  λ ge. absurd (omega (arith, ge, low)),
                )
          ]
        ]

    step_sound : (node : ℕ) (why : Why) (target place : ℕ) → HasStep graph node why target → Stands node place → Sound node why target place
    step_sound node why target place step stands = elim ((g.steps node why target).0 step) as (λ _. Sound node why target place) [
      | inl along ↦ direct node why target place (along_depends txns (length longest) elements writers numbered table reads are longest longests good node why target along) stands
      | inr more ↦ elim more as (λ _. Sound node why target place) [
        | inl read ↦ direct node why target place (read_depends txns (length longest) elements writers numbered table reads are longest longests good node why target read) stands
        | inr others ↦ elim others as (λ _. Sound node why target place) [
          | inl middle ↦ elim middle as (λ _. Sound node why target place) [ inl full ↦ full_sound node why target place full stands | inr unread ↦ unread_sound node why target place unread stands ]
          | inr time ↦ time_sound node why target place time.0 time.1 stands
        ]
      ]
    ]

    pub path_sound : (hubs : List ℕ) (node : ℕ) (why : Why) (target place : ℕ) → target < length txns → Stands node place → IsPath graph (length txns) node hubs why target → IsDependency txns model why place target
    path_sound [] node why target place low stands path = (step_sound node why target place path stands).0 low
    path_sound (hub ∷ hubs) node why target place low stands path = path_sound hubs hub why target place low ((step_sound node path.0 hub place path.1 stands).1 path.2) path.3

    first_low : (steps : List Step) (last : ℕ) → last < length txns → LeadByPaths graph (length txns) steps last → first_place steps last < length txns
    first_low [] last low lead = low
    first_low (step ∷ steps) last low lead = lead.0

    lead_sound : (steps : List Step) (last : ℕ) → last < length txns → LeadByPaths graph (length txns) steps last → LeadTo txns model steps last
    lead_sound [] last low lead = tt
    lead_sound (step ∷ steps) last low lead = (
      path_sound lead.1.0 step.place step.why (first_place steps last) step.place (first_low steps last low lead.2) (inl (lead.0, refl)) lead.1.1,
      lead_sound steps last low lead.2,
    )

    pub cycle_sound : (steps : List Step) → IsCycleOfPaths graph (length txns) steps → IsCycle txns model steps
    cycle_sound [] cycle = cycle
    cycle_sound (step ∷ steps) cycle = lead_sound (step ∷ steps) step.place cycle.0 cycle

  -- Where the steps are.
  middle_low : (key : ℕ) (middle : Middle) → slice_get g.middles key ≡ Some middle → middle.node < length txns + length longest
  middle_low key middle is = elim (g.middle.right key middle is) as (λ _. middle.node < length txns + length longest) [
    | inl both ↦ omega (arith, appends_below txns key both.0 middle.node both.3.0)
    | inr hub ↦ omega (arith, hub.0, slice_get_within g.middles key middle is, g.middle.count)
  ]

  abbrev Placed : ℕ → ℕ → Type 0
  Placed node target = (node < length graph) × (length txns ≤ node → length txns ≤ target → node < target)

  depends_placed : (node : ℕ) (why : Why) (target : ℕ) → Depends txns node why target → ConsistencyModel → Placed node target
  depends_placed node why target h model =
      let low : node < length txns = must_below txns node (h model).first_there in
      (omega (arith, low, g.count), λ ge _. absurd (omega (arith, low, ge)))

  placed : (node : ℕ) (why : Why) (target : ℕ) → ConsistencyModel → HasStep graph node why target → Placed node target
  placed node why target model step = elim ((g.steps node why target).0 step) as (λ _. Placed node target) [
    | inl along ↦ depends_placed node why target (along_depends txns (length longest) elements writers numbered table reads are longest longests good node why target along) model
    | inr more ↦ elim more as (λ _. Placed node target) [
      | inl read ↦ depends_placed node why target (read_depends txns (length longest) elements writers numbered table reads are longest longests good node why target read) model
      | inr others ↦ elim others as (λ _. Placed node target) [
        | inl middle ↦ elim middle as (λ _. Placed node target) [
          | inl full ↦
              let low : full.0.place < length txns = done_below txns full.0.place (are.right full.0 full.1).1.0 in
              (omega (arith, low, full.2.4, g.count), λ ge _. absurd (omega (arith, low, full.2.4, ge)))
          | inr unread ↦
              let writer = unread.1.0 in
              let low : writer.place < length txns = appends_below txns writer.key unread.0 writer.place (table.right unread.0 writer unread.1.2).appends in
              (omega (arith, middle_low writer.key unread.1.1 unread.1.5, unread.1.7, g.count), λ _ ge. absurd (omega (arith, low, unread.1.9, ge)))
        ]
        | inr time ↦ elim time.1 as (λ _. Placed node target) [
          | inl completion ↦
              let low : completion.0 < length txns = done_below txns completion.0 completion.1.2.0 in
              (omega (arith, low, completion.1.4, g.count), λ ge _. absurd (omega (arith, low, completion.1.4, ge)))
          | inr late ↦ elim late as (λ _. Placed node target) [
            | inl next ↦ (omega (arith, next.1, next.2, g.count), λ _ _. omega (arith, next.2, next.4))
            | inr invocation ↦
                let low : invocation.0 < length txns = must_below txns invocation.0 (must_of txns (length longest) elements writers numbered table reads are there marked invocation.0 invocation.1.1) in
                let within : invocation.1.0 + 1 ≤ length g.moments = invocation.1.2.within in
                (omega (arith, within, invocation.1.3, g.count), λ _ ge. absurd (omega (arith, low, invocation.1.5, ge)))
          ]
        ]
      ]
    ]
  ]

  pub closed : ConsistencyModel → IsClosed graph
  closed model step node is = (placed step.place step.why node model (step, is, refl, refl)).0

  pub upwards : ConsistencyModel → AreHubsUpwards graph (length txns)
  upwards model step node is = (placed step.place step.why node model (step, is, refl, refl)).1
