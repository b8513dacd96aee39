-- That an order of the nodes gives a snapshot order.
use Rattle.std.proofs.Common.{◌≡◌, ℕ, ◌+◌, Bool, true, false, Option, List, filter, get_or, length, map, sym, ap, subst, ◌∙◌, inl, inr, arith}
use Rattle.std.specs.Prelude.{Vec}
use Rattle.std.specs.declared.alloc.Global.{Global}
use Rattle.jh_txn.specs.declared.dependency.Step.{Step}
use Rattle.jh_txn.specs.declared.model.ConsistencyModel.{ConsistencyModel}
use Rattle.jh_txn.specs.declared.txn.Point.{Point}
use Rattle.jh_txn.specs.declared.txn.Point.TheVariants.{Start, Commit}
use Rattle.jh_txn.specs.declared.txn.Txn.{Txn}
use Rattle.jh_txn.specs.BadReads.{HasNoBadRead}
use Rattle.jh_txn.specs.Dependencies.{MustBeThere}
use Rattle.jh_txn.specs.Keeping.{leaves_at, arrives_at}
use Rattle.jh_txn.specs.Models.{is_of_snapshots, keeps_real_time}
use Rattle.jh_txn.specs.RealTime.{CompleteAfterInvocation}
use Rattle.jh_txn.specs.SnapshotCheckInside.{place_of_point}
use Rattle.jh_txn.specs.SnapshotOrders.{HasPoint, IsEarlier, IsSnapshotOrderFor}
use Rattle.jh_txn.specs.Transactions.{ComesBefore}
use Rattle.jh_txn.proofs.ListLemmas.{before_itself}
use Rattle.jh_txn.proofs.SnapshotKeepingLemmas.{suffices}
use Rattle.jh_txn.proofs.SnapshotOrderLemmas.{first_stands}
use Rattle.jh_txn_graph.specs.Graphs.{KeepsPaths}
use Rattle.jh_txn_graph.proofs.FilterLemmas.{before_filter, filter_before, filter_includes, includes_filter}
use Rattle.jh_txn_points.specs.PointGraph.{IsPointGraphOf}
use Rattle.jh_txn_points.specs.Points.{node_of_point}
use Rattle.jh_txn_points.proofs.WholeLemmas.{keeps_next, paired}
use Rattle.jh_txn_seen.specs.Marks.{AreThereMarks, IsMarked}
use Rattle.jh_txn_seen.specs.Reads.{AreDoneReads, AreLongestOf, longest_of}
use Rattle.jh_txn_seen.specs.declared.done_reads.DoneRead.{DoneRead}
use Rattle.jh_txn_seen.proofs.KnownLemmas.{are_longest, marked_of, must_below, must_of}
use Rattle.jh_txn_snapshot_judge.specs.Nodes.{point_at, transaction_at}
use Rattle.jh_txn_snapshot_judge.specs.TurnsInside.{AreUntoldMarks, IsTurn, KeepsTurns, is_untold_writer, turn_of}
use Rattle.jh_txn_snapshot_judge.specs.declared.turns.Succession.{Succession}
use Rattle.jh_txn_snapshot_judge.proofs.CycleLemmas.{arriving_of, leaving_of}
use Rattle.jh_txn_snapshot_judge.proofs.NodeLemmas.{at_node, before_map, map_before, map_has}
use Rattle.jh_txn_snapshot_judge.proofs.TurnLemmas.{first_writer, second_writer, turn_differs, untold_of, writer_if}
use Rattle.jh_txn_snapshots.specs.KeptPoints.{ArePointsOfAll, KeepsNextPoints}
use Rattle.jh_txn_snapshots.specs.Untold.{AreUntoldApart}
use Rattle.jh_txn_snapshots.proofs.NextPointLemmas.{keeps_all}
use Rattle.jh_txn_snapshots.proofs.NextReasonLemmas.{is_dependency}
use Rattle.jh_txn_snapshots.proofs.UntoldLemmas.{in_turn_apart, writers_apart}
use Rattle.jh_txn_writers.specs.Numbers.{AreNumbersOf}
use Rattle.jh_txn_writers.specs.Writers.{AreNeighbours, AreWriters}
use Rattle.jh_txn_writers.specs.declared.writer.Writer.{Writer}

-- the points of those nodes of which the transactions are marked
abbrev pub chosen_points : ℕ → List Bool → List ℕ → List Point
chosen_points n there nodes = map (point_at n) (filter (λ node. get_or there (transaction_at n node) false) nodes)

module _ (txns : List Txn) (elements : ℕ) (writers : List (Option Writer)) (reads : List DoneRead) (there : List Bool) (longest : List (Option DoneRead)) (real_time : Bool) (graph : List (Vec Step Global)) (numbered : AreNumbersOf txns (length longest) elements) (table : AreWriters txns elements writers) (are : AreDoneReads txns reads) (marked : AreThereMarks txns writers reads there) (longests : AreLongestOf reads (length reads) longest) (good : HasNoBadRead txns) (ends : CompleteAfterInvocation txns) (g : IsPointGraphOf txns writers there reads longest real_time graph) (model : ConsistencyModel) (snap : is_of_snapshots model ≡ true) (asks : keeps_real_time model ≡ real_time) where
  module _ (nodes : List ℕ) (kept : KeepsPaths graph (length txns + length txns) nodes) where
    abbrev Points : List Point
    Points = chosen_points (length txns) there nodes

    abbrev Chosen : ℕ → Bool
    Chosen node = get_or there (transaction_at (length txns) node) false

    must : (place : ℕ) → IsMarked there place → MustBeThere txns place
    must = must_of txns (length longest) elements writers numbered table reads are there marked

    choose : (point : Point) → MustBeThere txns (place_of_point point) → Chosen (node_of_point (length txns) point) ≡ true
    choose point here = ap (λ q. get_or there (place_of_point q) false) (at_node (length txns) point (must_below txns (place_of_point point) here)) ∙ marked_of txns (length longest) elements writers numbered table reads are there marked (place_of_point point) here

    earlier : (p q : Point) → MustBeThere txns (place_of_point p) → MustBeThere txns (place_of_point q) → ComesBefore nodes (node_of_point (length txns) p) (node_of_point (length txns) q) → IsEarlier Points p q
    earlier p q here also h =
        let e = before_map (length txns) (filter Chosen nodes) (node_of_point (length txns) p) (node_of_point (length txns) q) (filter_before Chosen nodes (node_of_point (length txns) p) (node_of_point (length txns) q) h (choose p here) (choose q also)) in
        subst (λ x. IsEarlier Points x q) (at_node (length txns) p (must_below txns (place_of_point p) here)) (subst (λ x. IsEarlier Points (point_at (length txns) (node_of_point (length txns) p)) x) (at_node (length txns) q (must_below txns (place_of_point q) also)) e)

    stands : (point : Point) → HasPoint Points point → MustBeThere txns (place_of_point point)
    stands point h =
        let r = map_has (length txns) (filter Chosen nodes) point h in
        let f = includes_filter Chosen nodes (node_of_point (length txns) point) r.0 in
        must (place_of_point point) (ap (λ q. get_or there (place_of_point q) false) (sym r.1) ∙ f.1)

    both : (place : ℕ) → MustBeThere txns place → IsEarlier Points (Start place) (Commit place)
    both place here = earlier (Start place) (Commit place) here here (paired txns elements writers reads there longest real_time graph numbered table are marked longests good ends g nodes kept place (must_below txns place here))

    pub all_points : ArePointsOfAll txns Points
    all_points = record {
      distinct = λ point h. before_itself nodes (node_of_point (length txns) point) kept.distinct (before_filter Chosen nodes (node_of_point (length txns) point) (node_of_point (length txns) point) (map_before (length txns) (filter Chosen nodes) point point h));
      paired = λ place h. both place (elim h as (λ _. MustBeThere txns place) [ inl start ↦ stands (Start place) start | inr commit ↦ stands (Commit place) commit ]);
      there = λ place. (stands (Start place), λ here. first_stands Points (Start place) (Commit place) (both place here));
    }

    keeps : KeepsNextPoints txns model (longest_of longest) Points
    keeps = λ why first second h.
        let d = is_dependency txns model (longest_of longest) good (are_longest txns (length longest) elements writers numbered table reads are longest longests) why first second h.0 h.1 in
        earlier (leaves_at why first) (arrives_at why second) (leaving_of (MustBeThere txns) why first d.first_there) (arriving_of (MustBeThere txns) why second d.second_there)
        (keeps_next txns elements writers reads there longest real_time graph numbered table are marked longests good ends g nodes kept model asks why first second h)

    -- in turns of an order that these keep, untold writers do not overlap
    pub turns_apart : (untold : List Bool) (order : List ℕ) → AreUntoldMarks txns untold → KeepsPaths graph (length txns + length txns) order → KeepsTurns txns untold order nodes → AreUntoldApart txns Points
    turns_apart untold order marks first turns = in_turn_apart txns Points (turn_of txns untold order) all_points (record {
      whole = λ key element place u here.
          let there_too : MustBeThere txns place = (all_points.there place).0 here in
          filter_includes (is_untold_writer txns untold key) order place ((first.whole place).1 (omega (arith, must_below txns place there_too))) (writer_if txns untold (length longest) elements numbered marks key element place u there_too);
      there = λ key place h. (all_points.there place).1 (must_writer key place (includes_filter (is_untold_writer txns untold key) order place h).1);
      next = λ key one other front back is.
          let neighbours : AreNeighbours (turn_of txns untold order key) one other = (front, back, is) in
          let turn : Succession = record { first = one; second = other } in
          let is_turn : IsTurn txns untold order turn = (turn_differs txns untold order key one other first.distinct neighbours, key, neighbours) in
          earlier (Commit one) (Start other) (must_writer key one (first_writer txns untold order turn is_turn)) (must_writer key other (second_writer txns untold order turn is_turn)) (turns turn is_turn);
    }) where
      must_writer : (key place : ℕ) → is_untold_writer txns untold key place ≡ true → MustBeThere txns place
      must_writer key place h = (untold_of txns untold (length longest) elements numbered marks key place h).2

    pub order_found : AreUntoldApart txns Points → IsSnapshotOrderFor txns real_time Points
    order_found apart =
        let longer = are_longest txns (length longest) elements writers numbered table reads are longest longests in
        let every = keeps_all txns model (longest_of longest) Points numbered.once good snap longer all_points keeps in
        subst (λ flag. IsSnapshotOrderFor txns flag Points) asks (suffices txns model Points numbered.once ends good (record {
          distinct = all_points.distinct;
          paired = all_points.paired;
          there = all_points.there;
          apart = writers_apart txns model snap Points (longest_of longest) numbered.once longer all_points apart every;
          kept = every;
        }))
