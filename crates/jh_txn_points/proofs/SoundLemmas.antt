-- That the paths of the graph of points are dependencies, and how its nodes are numbered.
use Rattle.std.proofs.Common.{◌≡◌, ℕ, ◌+◌, ◌<◌, ◌≤◌, Bool, true, false, cond, eq-eqb, Option, Some, List, [], ◌∷◌, length, refl, sym, ap, subst, ◌∙◌, inl, inr, arith}
use Rattle.std.specs.Prelude.{◌⊎◌, ◌≢◌, Vec}
use Rattle.std.specs.declared.alloc.Global.{Global}
use Rattle.std.proofs.lemmas.Bool.{cases_Bool, cases_eq, ne_eqb}
use Rattle.jh_txn.specs.declared.dependency.Step.{Step}
use Rattle.jh_txn.specs.declared.dependency.Why.{Why}
use Rattle.jh_txn.specs.declared.dependency.Why.TheVariants.{FirstCommitter, ReadWrite, RealTime, WriteRead, WriteWrite}
use Rattle.jh_txn.specs.declared.model.ConsistencyModel.{ConsistencyModel}
use Rattle.jh_txn.specs.declared.model.ConsistencyModel.TheVariants.{Serializable}
use Rattle.jh_txn.specs.declared.txn.Txn.{Txn}
use Rattle.jh_txn.specs.BadReads.{HasNoBadRead}
use Rattle.jh_txn.specs.Dependencies.{IsDependency, MustBeThere}
use Rattle.jh_txn.specs.Keeping.{leaves_at, arrives_at}
use Rattle.jh_txn.specs.Models.{is_of_snapshots, keeps_real_time}
use Rattle.jh_txn.specs.RealTime.{CompleteAfterInvocation}
use Rattle.jh_txn.specs.Transactions.{Appends, Saw, includes}
use Rattle.jh_txn.proofs.ListLemmas.{includes_head, includes_right}
use Rattle.jh_txn.proofs.OrderCheckLemmas.{done_below}
use Rattle.jh_txn_edges.proofs.GraphLemmas.{middle_low}
use Rattle.jh_txn_graph.specs.Graphs.{AreHubsUpwards, HasPath, HasStep, IsClosed, IsPath}
use Rattle.jh_txn_judge.proofs.DependLemmas.{along_depends, read_depends, without_depends}
use Rattle.jh_txn_judge.proofs.PathLemmas.{closed, path_sound, upwards}
use Rattle.jh_txn_points.specs.Laws.{IsStepOfNodes}
use Rattle.jh_txn_points.specs.PointGraph.{IsPointGraphOf}
use Rattle.jh_txn_points.specs.PointSteps.{IsAnyHubStep, IsBehindStep, IsCommitStep, IsFirstCommitterStep, IsKeptStep, IsKeyHub, last_why}
use Rattle.jh_txn_points.specs.Points.{IsArriving, IsLeaving, node_of_point}
use Rattle.jh_txn_seen.specs.Marks.{AreThereMarks, IsMarked}
use Rattle.jh_txn_seen.specs.Middles.{IsFullRead}
use Rattle.jh_txn_seen.specs.Reads.{AreDoneReads, AreLongestOf, IsAmongReads, longest_of, seen_by}
use Rattle.jh_txn_seen.specs.declared.done_reads.DoneRead.{DoneRead}
use Rattle.jh_txn_seen.proofs.KnownLemmas.{appends_below, appends_of, key_below, must_below, must_of}
use Rattle.jh_txn_seen.proofs.ReadLemmas.{read_key_below}
use Rattle.jh_txn_writers.specs.Numbers.{AreNumbersOf}
use Rattle.jh_txn_writers.specs.Writers.{AreWriters, writer_at}
use Rattle.jh_txn_writers.specs.declared.writer.Writer.{Writer}

-- A point of a transaction is a node below the hubs.
pub leaves_low : (n : ℕ) (why : Why) (p : ℕ) → p < n → node_of_point n (leaves_at why p) < n + n
leaves_low n (WriteRead k e) p low = omega (arith, low)
leaves_low n (WriteWrite k e) p low = omega (arith, low)
leaves_low n (FirstCommitter k e) p low = omega (arith, low)
leaves_low n (ReadWrite k e) p low = omega (arith, low)
leaves_low n RealTime p low = omega (arith, low)

pub arrives_low : (n : ℕ) (why : Why) (p : ℕ) → p < n → node_of_point n (arrives_at why p) < n + n
arrives_low n (WriteRead k e) p low = omega (arith, low)
arrives_low n (WriteWrite k e) p low = omega (arith, low)
arrives_low n (FirstCommitter k e) p low = omega (arith, low)
arrives_low n (ReadWrite k e) p low = omega (arith, low)
arrives_low n RealTime p low = omega (arith, low)

-- where a step leaves that does not leave at a hub, or does
pub leaving_point : (n : ℕ) (why : Why) (from node : ℕ) → node < n + n → IsLeaving n why from node → (from < n) × (node ≡ node_of_point n (leaves_at why from))
leaving_point n why from node low h = elim h as (λ _. (from < n) × (node ≡ node_of_point n (leaves_at why from))) [ inl point ↦ point | inr hub ↦ absurd (omega (arith, low, hub.0, hub.1)) ]

pub leaving_hub : (n : ℕ) (why : Why) (from node : ℕ) → n + n ≤ node → IsLeaving n why from node → (n ≤ from) × (node ≡ n + from)
leaving_hub n why from node high h = elim h as (λ _. (n ≤ from) × (node ≡ n + from)) [ inl point ↦ absurd (omega (arith, high, leaves_low n why from point.0, point.1)) | inr hub ↦ hub ]

pub arriving_point : (n : ℕ) (why : Why) (to node : ℕ) → node < n + n → IsArriving n why to node → (to < n) × (node ≡ node_of_point n (arrives_at why to))
arriving_point n why to node low h = elim h as (λ _. (to < n) × (node ≡ node_of_point n (arrives_at why to))) [ inl point ↦ point | inr hub ↦ absurd (omega (arith, low, hub.0, hub.1)) ]

pub arriving_hub : (n : ℕ) (why : Why) (to node : ℕ) → n + n ≤ node → IsArriving n why to node → (n ≤ to) × (node ≡ n + to)
arriving_hub n why to node high h = elim h as (λ _. (n ≤ to) × (node ≡ n + to)) [ inl point ↦ absurd (omega (arith, high, arrives_low n why to point.0, point.1)) | inr hub ↦ hub ]

same_key : (a b c d : ℕ) → ReadWrite a b ≡ ReadWrite c d → a ≡ c
same_key a b c d e = cc

same_element : (a b c d : ℕ) → ReadWrite a b ≡ ReadWrite c d → b ≡ d
same_element a b c d e = cc

module _ (txns : List Txn) (elements : ℕ) (writers : List (Option Writer)) (reads : List DoneRead) (there : List Bool) (longest : List (Option DoneRead)) (real_time : Bool) (graph : List (Vec Step Global)) (numbered : AreNumbersOf txns (length longest) elements) (table : AreWriters txns elements writers) (are : AreDoneReads txns reads) (marked : AreThereMarks txns writers reads there) (longests : AreLongestOf reads (length reads) longest) (good : HasNoBadRead txns) (ends : CompleteAfterInvocation txns) (g : IsPointGraphOf txns writers there reads longest real_time graph) where
  -- the writer of what no read has
  pub not_read : (key element : ℕ) → (IsMarked g.marks element → ⊥) → includes (longest_of longest key) element ≡ false
  not_read key element none = elim (cases_Bool (includes (longest_of longest key) element)) as (λ _. includes (longest_of longest key) element ≡ false) [
    | inl listed ↦ absurd (none ((g.read element).1 (key, listed)))
    | inr lacks ↦ lacks
  ]

  writer_key_low : (element : ℕ) (writer : Writer) → writer_at writers element ≡ Some writer → writer.key < length longest
  writer_key_low element writer at = key_below txns (length longest) elements writers numbered table writer.key element writer.place (table.right element writer at).appends

  writer_low : (element : ℕ) (writer : Writer) → writer_at writers element ≡ Some writer → writer.place < length txns
  writer_low element writer at = appends_below txns writer.key element writer.place (table.right element writer at).appends

  -- a step of real time, where it leads to the hub of a moment or from it
  abbrev EdgeKind : ℕ → Why → ℕ → Type 0
  EdgeKind from why to = ((from < length txns + length longest) × (to < length txns + length longest)) ⊎ (why ≡ RealTime)

  edge_kind : (from : ℕ) (why : Why) (to : ℕ) → HasStep g.edges from why to → EdgeKind from why to
  edge_kind from why to step = elim ((g.of_txns.steps from why to).0 step) as (λ _. EdgeKind from why to) [
    | inl along ↦
        let d = along_depends txns (length longest) elements writers numbered table reads are longest longests good from why to along Serializable in
        inl (omega (arith, must_below txns from d.first_there), omega (arith, must_below txns to d.second_there))
    | inr more ↦ elim more as (λ _. EdgeKind from why to) [
      | inl read ↦
          let d = read_depends txns (length longest) elements writers numbered table reads are longest longests good from why to read Serializable in
          inl (omega (arith, must_below txns from d.first_there), omega (arith, must_below txns to d.second_there))
      | inr others ↦ elim others as (λ _. EdgeKind from why to) [
        | inl middle ↦ elim middle as (λ _. EdgeKind from why to) [
          | inl full ↦ inl (
            omega (arith, done_below txns full.0.place (are.right full.0 full.1).1.0, full.2.4),
            omega (arith, middle_low txns g.of_txns.marks longest reads (length reads) g.of_txns.middles g.of_txns.middle full.0.key full.2.0 full.2.2, full.2.6),
          )
          | inr unread ↦ inl (
            omega (arith, middle_low txns g.of_txns.marks longest reads (length reads) g.of_txns.middles g.of_txns.middle unread.1.0.key unread.1.1 unread.1.5, unread.1.7),
            omega (arith, writer_low unread.0 unread.1.0 unread.1.2, unread.1.9),
          )
        ]
        | inr time ↦ elim time.1 as (λ _. EdgeKind from why to) [
          | inl completion ↦ inr completion.1.5
          | inr late ↦ elim late as (λ _. EdgeKind from why to) [ inl next ↦ inr next.3 | inr invocation ↦ inr invocation.1.4 ]
        ]
      ]
    ]
  ]

  to_moment : (from : ℕ) (why : Why) (to : ℕ) → HasStep g.edges from why to → length txns ≤ to → (IsKeyHub (length txns) (length longest) to → ⊥) → why ≡ RealTime
  to_moment from why to step high out = elim (edge_kind from why to step) as (λ _. why ≡ RealTime) [ inl low ↦ absurd (out (high, low.1)) | inr is ↦ is ]

  from_moment : (from : ℕ) (why : Why) (to : ℕ) → HasStep g.edges from why to → length txns ≤ from → (IsKeyHub (length txns) (length longest) from → ⊥) → why ≡ RealTime
  from_moment from why to step high out = elim (edge_kind from why to step) as (λ _. why ≡ RealTime) [ inl low ↦ absurd (out (high, low.0)) | inr is ↦ is ]

  -- what becomes of a step of the graph of transactions
  abbrev Kept : ℕ → Why → ℕ → Type 0
  Kept place why target = (from to : ℕ) × HasStep g.edges from why to × (IsKeyHub (length txns) (length longest) from → ⊥) × (IsKeyHub (length txns) (length longest) to → ⊥) × IsLeaving (length txns) why from place × IsArriving (length txns) why to target

  kept_of : (place : ℕ) (why : Why) (target : ℕ) → IsKeptStep (length txns) (length longest) g.edges place why target → Kept place why target
  kept_of place why target h =
      let step = h.1 in
      (step.place, h.0, (step, h.2, refl, sym h.3.2), h.3.0, h.3.1, subst (λ w. IsLeaving (length txns) w step.place place) (sym h.3.2) h.3.3, subst (λ w. IsArriving (length txns) w h.0 target) (sym h.3.2) h.3.4)

  -- a step from the hub of a key
  abbrev FromHub : ℕ → Why → ℕ → Type 0
  FromHub place why target = (element : ℕ) × (writer : Writer) × (writer_at writers element ≡ Some writer) × IsMarked there writer.place × (IsMarked g.marks element → ⊥) × (place ≡ length txns + length txns + writer.key) × (why ≡ ReadWrite writer.key element) × (target ≡ length txns + writer.place) × (writer.key < length longest) × (writer.place < length txns)

  module _ (model : ConsistencyModel) (snap : is_of_snapshots model ≡ true) where
    -- a dependency, from where it leaves to where it arrives
    abbrev Direct : ℕ → Why → ℕ → Type 0
    Direct place why target = (first second : ℕ) × IsDependency txns model why first second × (place ≡ node_of_point (length txns) (leaves_at why first)) × (target ≡ node_of_point (length txns) (arrives_at why second))

    direct_low : (place : ℕ) (why : Why) (target : ℕ) → Direct place why target → (place < length txns + length txns) × (target < length txns + length txns)
    direct_low place why target h = (
      omega (arith, leaves_low (length txns) why h.0 (must_below txns h.0 h.2.first_there), h.3),
      omega (arith, arrives_low (length txns) why h.1 (must_below txns h.1 h.2.second_there), h.4),
    )

    must_at : (place : ℕ) → IsMarked there place → MustBeThere txns place
    must_at = must_of txns (length longest) elements writers numbered table reads are there marked

    last_depends : (element : ℕ) (writer : Writer) (read : DoneRead) (last first : ℕ) → writer_at writers element ≡ Some writer → MustBeThere txns writer.place → includes (longest_of longest writer.key) element ≡ false
        → (index : ℕ) → Saw txns read.place index writer.key read.seen.now → longest_of longest writer.key ≡ read.seen.now → includes read.seen.now last ≡ true → Appends txns writer.key last first → first ≢ writer.place → IsDependency txns model (last_why read.place first writer.key last) first writer.place
    last_depends element writer read last first at must none index saw is there appends differ =
        let key = writer.key in
        let wrote : Appends txns key element writer.place = (table.right element writer at).appends in
        let lacks : includes read.seen.now element ≡ false = subst (λ xs. includes xs element ≡ false) is none in
        let first_must : MustBeThere txns first = inr (key, last, read.place, appends, (index, read.seen.now, saw, there)) in
        elim (cases_eq read.place first) as (λ _. IsDependency txns model (last_why read.place first key last) first writer.place) [
          | inl same ↦
              let why_is : last_why read.place first key last ≡ FirstCommitter key last = ap (λ b. cond b (FirstCommitter key last) (WriteWrite key last)) (eq-eqb read.place first same) in
              subst (λ w. IsDependency txns model w first writer.place) (sym why_is) (record {
                differ = differ;
                first_there = first_must;
                second_there = must;
                reason = (snap, appends, element, wrote, (index, read.seen.now, subst (λ p. Saw txns p index key read.seen.now) same saw, lacks));
              })
          | inr other ↦
              let why_is : last_why read.place first key last ≡ WriteWrite key last = ap (λ b. cond b (FirstCommitter key last) (WriteWrite key last)) (ne_eqb read.place first other) in
              subst (λ w. IsDependency txns model w first writer.place) (sym why_is) (record {
                differ = differ;
                first_there = first_must;
                second_there = must;
                reason = (appends, element, wrote, inr (read.place, index, read.seen.now, other, saw, there, lacks));
              })
        ]

    last_direct : (reader first key last second : ℕ) (place : ℕ) (why : Why) (target : ℕ) → IsDependency txns model (last_why reader first key last) first second → place ≡ length txns + first → why ≡ last_why reader first key last → target ≡ second → Direct place why target
    last_direct reader first key last second place why target depends from is to = elim (cases_eq reader first) as (λ _. Direct place why target) [
      | inl same ↦
          let why_is : last_why reader first key last ≡ FirstCommitter key last = ap (λ b. cond b (FirstCommitter key last) (WriteWrite key last)) (eq-eqb reader first same) in
          subst (λ w. Direct place w target) (sym (is ∙ why_is)) (first, second, subst (λ w. IsDependency txns model w first second) why_is depends, from, to)
      | inr other ↦
          let why_is : last_why reader first key last ≡ WriteWrite key last = ap (λ b. cond b (FirstCommitter key last) (WriteWrite key last)) (ne_eqb reader first other) in
          subst (λ w. Direct place w target) (sym (is ∙ why_is)) (first, second, subst (λ w. IsDependency txns model w first second) why_is depends, from, to)
    ]

    behind_direct : (element : ℕ) (writer : Writer) (place : ℕ) (why : Why) (target : ℕ) → writer_at writers element ≡ Some writer → IsMarked there writer.place → (IsMarked g.marks element → ⊥) → IsBehindStep (length txns) writers longest writer place why target → Direct place why target
    behind_direct element writer place why target at must unread h =
        let key = writer.key in
        let read = h.0 in
        let last = h.1 in
        let first = h.4.0 in
        let right = longests.right key read h.2 in
        let saw = are.right read right.1 in
        let here : Saw txns read.place saw.0 key read.seen.now = subst (λ k. Saw txns read.place saw.0 k read.seen.now) right.0 saw.1 in
        let there_last : includes read.seen.now last ≡ true = subst (λ xs. includes xs last ≡ true) (sym h.3.1) (includes_right h.3.0 (last ∷ []) last (includes_head last [])) in
        let appends : Appends txns key last first = appends_of txns (length longest) elements writers numbered table key last first h.4.1 in
        last_direct read.place first key last writer.place place why target
        (last_depends element writer read last first at (must_at writer.place must) (not_read key element unread) saw.0 here (ap seen_by h.2) there_last appends h.4.2) h.4.3 h.4.4 h.4.5

    first_committer_direct : (element : ℕ) (writer : Writer) (place : ℕ) (why : Why) (target : ℕ) → writer_at writers element ≡ Some writer → IsMarked there writer.place → (IsMarked g.marks element → ⊥) → IsFirstCommitterStep (length txns) g.middles writer place why target → Direct place why target
    first_committer_direct element writer place why target at must unread h =
        let key = writer.key in
        let middle = h.0 in
        elim (g.middle.right key middle h.3) as (λ _. Direct place why target) [
          | inl both ↦
              let e : ReadWrite h.1 h.2 ≡ ReadWrite key both.0 = sym h.4 ∙ both.2 in
              let why_is : why ≡ FirstCommitter key both.0 = h.8 ∙ ap (λ k. FirstCommitter k h.2) (same_key h.1 h.2 key both.0 e) ∙ ap (λ x. FirstCommitter key x) (same_element h.1 h.2 key both.0 e) in
              let saw = are.right both.1 both.4 in
              let here : Saw txns middle.node saw.0 key both.1.seen.now = subst (λ p. Saw txns p saw.0 key both.1.seen.now) both.5 (subst (λ k. Saw txns both.1.place saw.0 k both.1.seen.now) both.6 saw.1) in
              let lacks : includes both.1.seen.now element ≡ false = subst (λ xs. includes xs element ≡ false) (sym (both.7 ∙ ap (longest_of longest) both.6)) (not_read key element unread) in
              subst (λ w. Direct place w target) (sym why_is) (
                middle.node,
                writer.place,
                record {
                  differ = h.6;
                  first_there = inl here.0;
                  second_there = must_at writer.place must;
                  reason = (snap, both.3.0, element, (table.right element writer at).appends, (saw.0, both.1.seen.now, here, lacks));
                },
                h.7,
                h.9,
              )
          | inr hub ↦ absurd (omega (arith, hub.0, h.5))
        ]

    -- the kinds of steps
    abbrev Kind : ℕ → Why → ℕ → Type 0
    Kind place why target = Kept place why target ⊎ (IsCommitStep (length txns) place why target ⊎ (IsAnyHubStep (length txns) longest reads place why target ⊎ (FromHub place why target ⊎ Direct place why target)))

    kind : (place : ℕ) (why : Why) (target : ℕ) → HasStep graph place why target → Kind place why target
    kind place why target step = elim ((g.steps place why target).0 step) as (λ _. Kind place why target) [
      | inl kept ↦ inl (kept_of place why target kept)
      | inr more ↦ elim more as (λ _. Kind place why target) [
        | inl commit ↦ inr (inl commit)
        | inr others ↦ elim others as (λ _. Kind place why target) [
          | inl hub ↦ inr (inr (inl hub))
          | inr unread ↦
              let element = unread.0 in
              let writer = unread.1.0 in
              elim unread.1.4 as (λ _. Kind place why target) [
                | inl from ↦ inr (inr (inr (inl (element, writer, unread.1.1, unread.1.2, unread.1.3, from.0, from.1, from.2, writer_key_low element writer unread.1.1, writer_low element writer unread.1.1))))
                | inr late ↦ elim late as (λ _. Kind place why target) [
                  | inl behind ↦ inr (inr (inr (inr (behind_direct element writer place why target unread.1.1 unread.1.2 unread.1.3 behind))))
                  | inr first ↦ inr (inr (inr (inr (first_committer_direct element writer place why target unread.1.1 unread.1.2 unread.1.3 first))))
                ]
              ]
        ]
      ]
    ]

    hub_step_low : (place : ℕ) (why : Why) (target : ℕ) → IsAnyHubStep (length txns) longest reads place why target → place < length txns
    hub_step_low place why target h = omega (arith, done_below txns h.0.place (are.right h.0 h.1).1.0, h.2.1)

    -- from the hub of a moment to a point
    abbrev MomentPath : ℕ → Why → ℕ → Type 0
    MomentPath from why target = (to : ℕ) × (to < length txns) × (target ≡ node_of_point (length txns) (arrives_at why to)) × (why ≡ RealTime) × HasPath g.edges (length txns) from why to

    moment_path : (hubs : List ℕ) (place from : ℕ) (why : Why) (target : ℕ) → place ≡ length txns + from → length txns ≤ from → (IsKeyHub (length txns) (length longest) from → ⊥) → target < length txns + length txns → IsPath graph (length txns + length txns) place hubs why target → MomentPath from why target
    moment_path [] place from why target is high out low path = elim (kind place why target path) as (λ _. MomentPath from why target) [
      | inl kept ↦
          let left = leaving_hub (length txns) why kept.0 place (omega (arith, is, high)) kept.5 in
          let same : kept.0 ≡ from = omega (arith, is, left.1) in
          let arrived = arriving_point (length txns) why kept.1 target low kept.6 in
          let step : HasStep g.edges from why kept.1 = subst (λ f. HasStep g.edges f why kept.1) same kept.2 in
          (kept.1, arrived.0, arrived.1, from_moment from why kept.1 step high out, ([], step))
      | inr more ↦ elim more as (λ _. MomentPath from why target) [
        | inl commit ↦ absurd (omega (arith, commit.0, is, high))
        | inr others ↦ elim others as (λ _. MomentPath from why target) [
          | inl hub ↦ absurd (omega (arith, hub_step_low place why target hub, is, high))
          | inr late ↦ elim late as (λ _. MomentPath from why target) [
            | inl key ↦ absurd (out (high, omega (arith, key.5, is, key.8)))
            | inr direct ↦ absurd (omega (arith, (direct_low place why target direct).0, is, high))
          ]
        ]
      ]
    ]
    moment_path (hub ∷ hubs) place from why target is high out low path = elim (kind place path.0 hub path.1) as (λ _. MomentPath from why target) [
      | inl kept ↦
          let left = leaving_hub (length txns) path.0 kept.0 place (omega (arith, is, high)) kept.5 in
          let same : kept.0 ≡ from = omega (arith, is, left.1) in
          let arrived = arriving_hub (length txns) path.0 kept.1 hub path.2 kept.6 in
          let step : HasStep g.edges from path.0 kept.1 = subst (λ f. HasStep g.edges f path.0 kept.1) same kept.2 in
          let rest = moment_path hubs hub kept.1 why target arrived.1 arrived.0 kept.4 low path.3 in
          (rest.0, rest.1, rest.2, rest.3, (kept.1 ∷ rest.4.0, (path.0, step, arrived.0, rest.4.1)))
      | inr more ↦ elim more as (λ _. MomentPath from why target) [
        | inl commit ↦ absurd (omega (arith, commit.0, is, high))
        | inr others ↦ elim others as (λ _. MomentPath from why target) [
          | inl into ↦ absurd (omega (arith, hub_step_low place path.0 hub into, is, high))
          | inr late ↦ elim late as (λ _. MomentPath from why target) [
            | inl key ↦ absurd (out (high, omega (arith, key.5, is, key.8)))
            | inr direct ↦ absurd (omega (arith, (direct_low place path.0 hub direct).0, is, high))
          ]
        ]
      ]
    ]

    key_path : (hubs : List ℕ) (place key : ℕ) (why : Why) (target : ℕ) → place ≡ length txns + length txns + key → key < length longest → target < length txns + length txns → IsPath graph (length txns + length txns) place hubs why target → FromHub place why target
    key_path [] place key why target is below low path = elim (kind place why target path) as (λ _. FromHub place why target) [
      | inl kept ↦
          let left = leaving_hub (length txns) why kept.0 place (omega (arith, is)) kept.5 in
          absurd (kept.3 (left.0, omega (arith, is, left.1, below)))
      | inr more ↦ elim more as (λ _. FromHub place why target) [
        | inl commit ↦ absurd (omega (arith, commit.0, is))
        | inr others ↦ elim others as (λ _. FromHub place why target) [
          | inl hub ↦ absurd (omega (arith, hub_step_low place why target hub, is))
          | inr late ↦ elim late as (λ _. FromHub place why target) [ inl from ↦ from | inr direct ↦ absurd (omega (arith, (direct_low place why target direct).0, is)) ]
        ]
      ]
    ]
    key_path (hub ∷ hubs) place key why target is below low path = elim (kind place path.0 hub path.1) as (λ _. FromHub place why target) [
      | inl kept ↦
          let left = leaving_hub (length txns) path.0 kept.0 place (omega (arith, is)) kept.5 in
          absurd (kept.3 (left.0, omega (arith, is, left.1, below)))
      | inr more ↦ elim more as (λ _. FromHub place why target) [
        | inl commit ↦ absurd (omega (arith, commit.0, is))
        | inr others ↦ elim others as (λ _. FromHub place why target) [
          | inl into ↦ absurd (omega (arith, hub_step_low place path.0 hub into, is))
          | inr late ↦ elim late as (λ _. FromHub place why target) [
            | inl from ↦ absurd (omega (arith, path.2, from.7, from.9))
            | inr direct ↦ absurd (omega (arith, (direct_low place path.0 hub direct).0, is))
          ]
        ]
      ]
    ]

    hub_sound : (read : DoneRead) (hub : ℕ) (place : ℕ) (why : Why) (target : ℕ) → IsAmongReads reads read → IsFullRead longest read → place ≡ read.place → hub ≡ length txns + length txns + read.key → FromHub hub why target → IsStepOfNodes txns model place why target
    hub_sound read hub place why target one full from is out =
        let element = out.0 in
        let writer = out.1 in
        let same : writer.key ≡ read.key = omega (arith, is, out.5) in
        let saw = are.right read one in
        let appends : Appends txns read.key element writer.place = subst (λ k. Appends txns k element writer.place) same (table.right element writer out.2).appends in
        let lacks : includes read.seen.now element ≡ false = subst (λ xs. includes xs element ≡ false) (sym full) (not_read read.key element out.4) in
        elim (cases_eq read.place writer.place) as (λ _. IsStepOfNodes txns model place why target) [
          | inl own ↦ inl (read.place, from, out.7 ∙ ap (λ p. length txns + p) (sym own))
          | inr other ↦
              let depends = without_depends txns (length longest) elements writers numbered table reads are read.key element read.place writer.place (saw.0, read.seen.now, saw.1, lacks) appends (must_at writer.place out.3) other model in
              subst (λ w. IsStepOfNodes txns model place w target) (sym (out.6 ∙ ap (λ k. ReadWrite k element) same)) (inr (read.place, writer.place, depends, from, out.7))
        ]

    module _ (asks : keeps_real_time model ≡ real_time) where
      edges_sound : (hubs : List ℕ) (from : ℕ) (why : Why) (to : ℕ) → from < length txns → to < length txns → IsPath g.edges (length txns) from hubs why to → IsDependency txns model why from to
      edges_sound hubs from why to low below path = path_sound txns elements writers reads there longest real_time g.edges numbered table are marked longests good ends g.of_txns model asks hubs from why to from below (inl (low, refl)) path

      pub sound : (hubs : List ℕ) (place : ℕ) (why : Why) (target : ℕ) → place < length txns + length txns → target < length txns + length txns → IsPath graph (length txns + length txns) place hubs why target → IsStepOfNodes txns model place why target
      sound [] place why target low below path = elim (kind place why target path) as (λ _. IsStepOfNodes txns model place why target) [
        | inl kept ↦
            let left = leaving_point (length txns) why kept.0 place low kept.5 in
            let arrived = arriving_point (length txns) why kept.1 target below kept.6 in
            inr (kept.0, kept.1, edges_sound [] kept.0 why kept.1 left.0 arrived.0 kept.2, left.1, arrived.1)
        | inr more ↦ elim more as (λ _. IsStepOfNodes txns model place why target) [
          | inl commit ↦ inl (place, refl, commit.2)
          | inr others ↦ elim others as (λ _. IsStepOfNodes txns model place why target) [
            | inl hub ↦ absurd (omega (arith, below, hub.2.3))
            | inr late ↦ elim late as (λ _. IsStepOfNodes txns model place why target) [ inl from ↦ absurd (omega (arith, low, from.5)) | inr direct ↦ inr direct ]
          ]
        ]
      ]
      sound (hub ∷ hubs) place why target low below path = elim (kind place path.0 hub path.1) as (λ _. IsStepOfNodes txns model place why target) [
        | inl kept ↦
            let left = leaving_point (length txns) path.0 kept.0 place low kept.5 in
            let arrived = arriving_hub (length txns) path.0 kept.1 hub path.2 kept.6 in
            let rest = moment_path hubs hub kept.1 why target arrived.1 arrived.0 kept.4 below path.3 in
            let time : path.0 ≡ why = to_moment kept.0 path.0 kept.1 kept.2 arrived.0 kept.4 ∙ sym rest.3 in
            inr (kept.0, rest.0, edges_sound (kept.1 ∷ rest.4.0) kept.0 why rest.0 left.0 rest.1 (path.0, kept.2, arrived.0, rest.4.1), left.1 ∙ ap (λ w. node_of_point (length txns) (leaves_at w kept.0)) time, rest.2)
        | inr more ↦ elim more as (λ _. IsStepOfNodes txns model place why target) [
          | inl commit ↦ absurd (omega (arith, path.2, commit.0, commit.2))
          | inr others ↦ elim others as (λ _. IsStepOfNodes txns model place why target) [
            | inl into ↦
                let key_low = read_key_below txns reads (length longest) are numbered.keys_below into.0 into.1 in
                hub_sound into.0 hub place why target into.1 into.2.0 into.2.1 into.2.3 (key_path hubs hub into.0.key why target into.2.3 key_low below path.3)
            | inr late ↦ elim late as (λ _. IsStepOfNodes txns model place why target) [ inl from ↦ absurd (omega (arith, low, from.5)) | inr direct ↦ absurd (omega (arith, path.2, (direct_low place path.0 hub direct).1)) ]
          ]
        ]
      ]

    -- Where the steps are.
    abbrev Placed : ℕ → ℕ → Type 0
    Placed node target = (node < length graph) × (length txns + length txns ≤ node → length txns + length txns ≤ target → node < target)

    placed : (node : ℕ) (why : Why) (target : ℕ) → HasStep graph node why target → Placed node target
    placed node why target step = elim (kind node why target step) as (λ _. Placed node target) [
      | inl kept ↦
          let inside : kept.2.0.place < length g.edges = closed txns elements writers reads there longest real_time g.edges numbered table are marked longests good ends g.of_txns Serializable kept.2.0 kept.1 kept.2.1 in
          let from_low : kept.0 < length g.edges = omega (arith, inside, kept.2.2) in (
            elim kept.5 as (λ _. node < length graph) [
              | inl point ↦ omega (arith, leaves_low (length txns) why kept.0 point.0, point.1, g.count, g.of_txns.count)
              | inr hub ↦ omega (arith, hub.1, from_low, g.count)
            ],
            λ high also.
                let left = leaving_hub (length txns) why kept.0 node high kept.5 in
                let arrived = arriving_hub (length txns) why kept.1 target also kept.6 in
                let up : kept.2.0.place < kept.1 = upwards txns elements writers reads there longest real_time g.edges numbered table are marked longests good ends g.of_txns Serializable kept.2.0 kept.1 kept.2.1 (omega (arith, left.0, kept.2.2)) arrived.0 in
                omega (arith, left.1, arrived.1, up, kept.2.2),
          )
      | inr more ↦ elim more as (λ _. Placed node target) [
        | inl commit ↦ (omega (arith, commit.0, g.count), λ high _. absurd (omega (arith, high, commit.0)))
        | inr others ↦ elim others as (λ _. Placed node target) [
          | inl hub ↦
              let low = hub_step_low node why target hub in
              (omega (arith, low, g.count), λ high _. absurd (omega (arith, high, low)))
          | inr late ↦ elim late as (λ _. Placed node target) [
            | inl from ↦ (omega (arith, from.5, from.8, g.count, g.of_txns.count), λ _ high. absurd (omega (arith, high, from.7, from.9)))
            | inr direct ↦
                let low = (direct_low node why target direct).0 in
                (omega (arith, low, g.count, g.of_txns.count), λ high _. absurd (omega (arith, high, low)))
          ]
        ]
      ]
    ]

    pub points_closed : IsClosed graph
    points_closed step node is = (placed step.place step.why node (step, is, refl, refl)).0

    pub points_upwards : AreHubsUpwards graph (length txns + length txns)
    points_upwards step node is = (placed step.place step.why node (step, is, refl, refl)).1
