-- Two reads that fork: all that they say of points has a cycle, and no order can keep it.
use Rattle.std.proofs.Common.{◌≡◌, ℕ, ◌+◌, ◌<◌, Bool, true, false, filter, get_or, Some, List, [], ◌∷◌, ◌++◌, length, map, refl, sym, ap, subst, ◌∙◌, inl, inr, arith}
use Rattle.std.specs.Prelude.{Vec}
use Rattle.std.specs.declared.alloc.Global.{Global}
use Rattle.jh_txn.specs.declared.dependency.Step.{Step}
use Rattle.jh_txn.specs.declared.dependency.Why.{Why}
use Rattle.jh_txn.specs.declared.dependency.Why.TheVariants.{FirstCommitter, ReadWrite, RealTime, WriteRead, WriteWrite}
use Rattle.jh_txn.specs.declared.model.ConsistencyModel.{ConsistencyModel}
use Rattle.jh_txn.specs.declared.model.ConsistencyModel.TheVariants.{SnapshotIsolation}
use Rattle.jh_txn.specs.declared.txn.Point.{Point}
use Rattle.jh_txn.specs.declared.txn.Point.TheVariants.{Start, Commit}
use Rattle.jh_txn.specs.declared.txn.Txn.{Txn}
use Rattle.jh_txn.specs.Dependencies.{IsDependency, MustBeThere}
use Rattle.jh_txn.specs.Keeping.{leaves_at, arrives_at}
use Rattle.jh_txn.specs.Models.{is_of_snapshots}
use Rattle.jh_txn.specs.SnapshotCheckInside.{place_of_point}
use Rattle.jh_txn.specs.SnapshotOrders.{HasPoint, IsEarlier}
use Rattle.jh_txn.specs.Transactions.{Appends, ComesBefore, Saw, includes}
use Rattle.jh_txn.proofs.ListLemmas.{before_first, before_itself, before_second}
use Rattle.jh_txn.proofs.SnapshotOrderLemmas.{first_stands}
use Rattle.jh_txn_edges.specs.Graph.{IsWholeReadStep}
use Rattle.jh_txn_graph.specs.Graphs.{AreHubsUpwards, HasStep, IsClosed, IsPath, KeepsPaths}
use Rattle.jh_txn_judge.proofs.DependLemmas.{Depends, lacked_depends, neighbours_before, pair_depends, shown_depends}
use Rattle.jh_txn_graph.proofs.FilterLemmas.{before_filter, filter_before, includes_filter}
use Rattle.jh_txn_points.specs.ForkGraph.{IsAnyWinStep, IsWholeReadPointStep}
use Rattle.jh_txn_points.specs.Laws.{IsForkGraphOfGood, IsStepOfNodes}
use Rattle.jh_txn_points.specs.Points.{node_of_point}
use Rattle.jh_txn_points.proofs.ForkStepLemmas.{has_first_own}
use Rattle.jh_txn_points.proofs.PointListLemmas.{arriving_of, at_node, before_map, leaving_of, map_before, map_has, point_of}
use Rattle.jh_txn_points.proofs.PointStepLemmas.{step_to_below}
use Rattle.jh_txn_points.proofs.SoundLemmas.{arrives_low, leaves_low}
use Rattle.jh_txn_seen.specs.declared.done_reads.DoneRead.{DoneRead}
use Rattle.jh_txn_seen.specs.Marks.{IsMarked}
use Rattle.jh_txn_seen.specs.Places.{writer_place}
use Rattle.jh_txn_seen.specs.Reads.{IsAmongReads}
use Rattle.jh_txn_seen.proofs.KnownLemmas.{appends_of, is_writer, marked_of, must_below, must_of}
use Rattle.jh_txn_snapshots.specs.KeptPoints.{ArePointsOfAll, KeepsReadPoints}
use Rattle.jh_txn_snapshots.proofs.ReadPointLemmas.{begin_one_another}

module _ (txns : List Txn) (graph : List (Vec Step Global)) (g : IsForkGraphOfGood txns graph) where
  must : (place : ℕ) → IsMarked g.there place → MustBeThere txns place
  must = must_of txns g.keys g.elements g.writers g.numbered g.written g.reads g.done g.there g.marked

  mark : (place : ℕ) → MustBeThere txns place → IsMarked g.there place
  mark = marked_of txns g.keys g.elements g.writers g.numbered g.written g.reads g.done g.there g.marked

  wrote : (key element place : ℕ) → writer_place g.writers key element ≡ Some place → Appends txns key element place
  wrote = appends_of txns g.keys g.elements g.writers g.numbered g.written

  place_is : (key element place : ℕ) → Appends txns key element place → writer_place g.writers key element ≡ Some place
  place_is = is_writer txns g.keys g.elements g.writers g.numbered g.written

  read_depends : (read : DoneRead) → IsAmongReads g.reads read → (p : ℕ) (w : Why) (t : ℕ) → IsWholeReadStep g.writers g.there read p w t → Depends txns p w t
  read_depends read one p w t h = elim h as (λ _. Depends txns p w t) [
    | inl shown ↦ shown_depends txns g.keys g.elements g.writers g.numbered g.written g.reads g.done read shown.0 p w t one shown.1 shown.2
    | inr more ↦ elim more as (λ _. Depends txns p w t) [
      | inl along ↦
          let saw = g.done.right read one in
          pair_depends txns g.keys g.elements g.writers g.numbered g.written g.reads g.done read.key along.0 along.1 p w t (read.place, saw.0, read.seen.now, saw.1, neighbours_before read.seen.now along.0 along.1 along.2) along.3
      | inr lacked ↦ lacked_depends txns g.keys g.elements g.writers g.numbered g.written g.reads g.done read lacked.0 p w t one lacked.1.0 (must t lacked.1.1) lacked.1.2
    ]
  ]

  module _ (model : ConsistencyModel) (snap : is_of_snapshots model ≡ true) where
    -- a dependency, from where it leaves to where it arrives
    abbrev Direct : ℕ → Why → ℕ → Type 0
    Direct place why target = (first second : ℕ) × IsDependency txns model why first second × (place ≡ node_of_point (length txns) (leaves_at why first)) × (target ≡ node_of_point (length txns) (arrives_at why second))

    win_direct : (read : DoneRead) → IsAmongReads g.reads read → (place : ℕ) (why : Why) (target : ℕ) → IsAnyWinStep (length txns) g.writers g.there read place why target → Direct place why target
    win_direct read one place why target h =
        let own = h.0 in
        let element = h.2.0 in
        let win = h.2.1 in
        let saw = g.done.right read one in
        let mine : Appends txns read.key own read.place = wrote read.key own read.place h.1.0 in
        let others : Appends txns read.key element target = wrote read.key element target win.3 in
        let depends : IsDependency txns model (FirstCommitter read.key own) read.place target = record {
          differ = λ same. win.2 (sym same);
          first_there = inl saw.1.0;
          second_there = must target win.1;
          reason = (snap, mine, element, others, (saw.0, read.seen.now, saw.1, win.0));
        } in
        subst (λ w. Direct place w target) (sym win.5) (read.place, target, depends, win.4, refl)

    whole_direct : (read : DoneRead) → IsAmongReads g.reads read → (place : ℕ) (why : Why) (target : ℕ) → IsWholeReadPointStep (length txns) g.writers g.there read place why target → Direct place why target
    whole_direct read one place why target h = elim h as (λ _. Direct place why target) [
      | inl said ↦ (said.0, said.1, read_depends read one said.0 why said.1 said.2 model, said.3, said.4)
      | inr win ↦ win_direct read one place why target win
    ]

    step_sound : (from : ℕ) (why : Why) (to : ℕ) → HasStep graph from why to → IsStepOfNodes txns model from why to
    step_sound from why to step = elim ((g.of_points.steps from why to).0 step) as (λ _. IsStepOfNodes txns model from why to) [
      | inl whole ↦ inr (whole_direct g.one g.forked.first from why to whole)
      | inr more ↦ elim more as (λ _. IsStepOfNodes txns model from why to) [
        | inl whole ↦ inr (whole_direct g.other g.forked.second from why to whole)
        | inr commit ↦ inl (from, refl, commit.2)
      ]
    ]

    -- There are no hubs, so each path is one step.
    pub fork_sound : (hubs : List ℕ) (from : ℕ) (why : Why) (to : ℕ) → IsPath graph (length txns + length txns) from hubs why to → IsStepOfNodes txns model from why to
    fork_sound [] from why to path = step_sound from why to path
    fork_sound (hub ∷ hubs) from why to path = absurd (omega (arith, path.2, step_to_below graph path.1.0 hub path.1.1, g.of_points.nodes))

    from_low : (from : ℕ) (why : Why) (to : ℕ) → HasStep graph from why to → from < length txns + length txns
    from_low from why to step = elim ((g.of_points.steps from why to).0 step) as (λ _. from < length txns + length txns) [
      | inl whole ↦
          let d = whole_direct g.one g.forked.first from why to whole in
          omega (arith, leaves_low (length txns) why d.0 (must_below txns d.0 d.2.first_there), d.3)
      | inr more ↦ elim more as (λ _. from < length txns + length txns) [
        | inl whole ↦
            let d = whole_direct g.other g.forked.second from why to whole in
            omega (arith, leaves_low (length txns) why d.0 (must_below txns d.0 d.2.first_there), d.3)
        | inr commit ↦ omega (arith, commit.0)
      ]
    ]

  pub fork_closed : IsClosed graph
  fork_closed step node is = omega (arith, g.of_points.nodes, from_low SnapshotIsolation refl step.place step.why node (step, is, refl, refl))

  pub fork_upwards : AreHubsUpwards graph (length txns + length txns)
  fork_upwards step node is high also = absurd (omega (arith, high, from_low SnapshotIsolation refl step.place step.why node (step, is, refl, refl)))

  -- The points of an order of the nodes, of those transactions that must be there.
  module _ (nodes : List ℕ) (kept : KeepsPaths graph (length txns + length txns) nodes) where
    abbrev Chosen : ℕ → Bool
    Chosen node = get_or g.there (place_of_point (point_of (length txns) node)) false

    abbrev Points : List Point
    Points = map (point_of (length txns)) (filter Chosen nodes)

    choose : (point : Point) → MustBeThere txns (place_of_point point) → Chosen (node_of_point (length txns) point) ≡ true
    choose point here = ap (λ q. get_or g.there (place_of_point q) false) (at_node (length txns) point (must_below txns (place_of_point point) here)) ∙ mark (place_of_point point) here

    earlier : (p q : Point) → MustBeThere txns (place_of_point p) → MustBeThere txns (place_of_point q) → ComesBefore nodes (node_of_point (length txns) p) (node_of_point (length txns) q) → IsEarlier Points p q
    earlier p q here also h =
        let e = before_map (length txns) (filter Chosen nodes) (node_of_point (length txns) p) (node_of_point (length txns) q) (filter_before Chosen nodes (node_of_point (length txns) p) (node_of_point (length txns) q) h (choose p here) (choose q also)) in
        subst (λ x. IsEarlier Points x q) (at_node (length txns) p (must_below txns (place_of_point p) here)) (subst (λ x. IsEarlier Points (point_of (length txns) (node_of_point (length txns) p)) x) (at_node (length txns) q (must_below txns (place_of_point q) also)) e)

    stands : (point : Point) → HasPoint Points point → MustBeThere txns (place_of_point point)
    stands point h =
        let r = map_has (length txns) (filter Chosen nodes) point h in
        let f = includes_filter Chosen nodes (node_of_point (length txns) point) r.0 in
        must (place_of_point point) (ap (λ q. get_or g.there (place_of_point q) false) (sym r.1) ∙ f.1)

    both : (place : ℕ) → MustBeThere txns place → IsEarlier Points (Start place) (Commit place)
    both place here =
        let low = must_below txns place here in
        earlier (Start place) (Commit place) here here (kept.forwards place (length txns + place) RealTime (omega (arith, low)) (omega (arith, low)) ([], (g.of_points.steps place RealTime (length txns + place)).1 (inr (inr (low, refl, refl)))))

    all_points : ArePointsOfAll txns Points
    all_points = record {
      distinct = λ point h. before_itself nodes (node_of_point (length txns) point) kept.distinct (before_filter Chosen nodes (node_of_point (length txns) point) (node_of_point (length txns) point) (map_before (length txns) (filter Chosen nodes) point point h));
      paired = λ place h. both place (elim h as (λ _. MustBeThere txns place) [ inl start ↦ stands (Start place) start | inr commit ↦ stands (Commit place) commit ]);
      there = λ place. (stands (Start place), λ here. first_stands Points (Start place) (Commit place) (both place here));
    }

    said : (why : Why) (first second : ℕ) → MustBeThere txns first → MustBeThere txns second → HasStep graph (node_of_point (length txns) (leaves_at why first)) why (node_of_point (length txns) (arrives_at why second)) → IsEarlier Points (leaves_at why first) (arrives_at why second)
    said why first second here also step =
        earlier (leaves_at why first) (arrives_at why second) (leaving_of (MustBeThere txns) why first here) (arriving_of (MustBeThere txns) why second also)
        (kept.forwards (node_of_point (length txns) (leaves_at why first)) (node_of_point (length txns) (arrives_at why second)) why (leaves_low (length txns) why first (must_below txns first here)) (arrives_low (length txns) why second (must_below txns second also)) ([], step))

    module _ (read : DoneRead) (one : IsAmongReads g.reads read) (has : (place : ℕ) (why : Why) (target : ℕ) → IsWholeReadPointStep (length txns) g.writers g.there read place why target → HasStep graph place why target) where
      reader : MustBeThere txns read.place
      reader = inl (g.done.right read one).1.0

      shown_there : (element writer : ℕ) → includes read.seen.now element ≡ true → Appends txns read.key element writer → MustBeThere txns writer
      shown_there element writer listed appends =
          let saw = g.done.right read one in
          inr (read.key, element, read.place, appends, (saw.0, read.seen.now, saw.1, listed))

      shown_first : (element writer : ℕ) → includes read.seen.now element ≡ true → Appends txns read.key element writer → (writer ≡ read.place → ⊥) → IsEarlier Points (Commit writer) (Start read.place)
      shown_first element writer listed appends differ =
          said (WriteRead read.key element) writer read.place (shown_there element writer listed appends) reader
          (has (length txns + writer) (WriteRead read.key element) read.place (inl (writer, read.place, inl (element, listed, (differ, place_is read.key element writer appends, refl, refl)), refl, refl)))

      in_turn : (before after first second : ℕ) (front back : List ℕ) → read.seen.now ≡ front ++ before ∷ after ∷ back → Appends txns read.key before first → Appends txns read.key after second → (first ≡ second → ⊥) → IsEarlier Points (Commit first) (Start second)
      in_turn before after first second front back is appends others differ =
          let turn = neighbours_before read.seen.now before after (front, back, is) in
          said (WriteWrite read.key before) first second (shown_there before first (before_first read.seen.now before after turn) appends) (shown_there after second (before_second read.seen.now before after turn) others)
          (has (length txns + first) (WriteWrite read.key before) second (inl (first, second, inr (inl (before, after, (front, back, is), (differ, place_is read.key before first appends, place_is read.key after second others, refl))), refl, refl)))

      lacked_behind : (element writer : ℕ) → includes read.seen.now element ≡ false → Appends txns read.key element writer → MustBeThere txns writer → (writer ≡ read.place → ⊥) → IsEarlier Points (Start read.place) (Commit writer)
      lacked_behind element writer lacks appends here differ =
          said (ReadWrite read.key element) read.place writer reader here
          (has read.place (ReadWrite read.key element) (length txns + writer) (inl (read.place, writer, inr (inr (element, (lacks, mark writer here, (λ same. differ (sym same), place_is read.key element writer appends, refl, refl)))), refl, refl)))

      wins : (own element writer : ℕ) → Appends txns read.key own read.place → includes read.seen.now element ≡ false → Appends txns read.key element writer → MustBeThere txns writer → (writer ≡ read.place → ⊥) → IsEarlier Points (Commit read.place) (Start writer)
      wins own element writer mine lacks appends here differ =
          let first = has_first_own g.writers read own (place_is read.key own read.place mine) in
          said (FirstCommitter read.key first.0) read.place writer reader here
          (has (length txns + read.place) (FirstCommitter read.key first.0) writer (inr (first.0, first.1, (element, (lacks, mark writer here, differ, place_is read.key element writer appends, refl, refl)))))

      keeps_read : KeepsReadPoints txns Points read.place read.key read.seen.now
      keeps_read = record {
        shown = shown_first;
        in_turn = in_turn;
        lacked = lacked_behind;
        wins = wins;
      }

    pub no_fork_order : ⊥
    no_fork_order =
        let saw = g.done.right g.one g.forked.first in
        let also = g.done.right g.other g.forked.second in
        let keeps_one = keeps_read g.one g.forked.first (λ place why target h. (g.of_points.steps place why target).1 (inl h)) in
        let keeps_other = keeps_read g.other g.forked.second (λ place why target h. (g.of_points.steps place why target).1 (inr (inl h))) in
        g.forked.apart (begin_one_another txns Points g.numbered.once g.good all_points g.one.place saw.0 g.other.place also.0 g.one.key g.one.seen.now g.other.seen.now saw.1 keeps_one
        (subst (λ k. Saw txns g.other.place also.0 k g.other.seen.now) (sym g.forked.same_key) also.1)
        (subst (λ k. KeepsReadPoints txns Points g.other.place k g.other.seen.now) (sym g.forked.same_key) keeps_other))
