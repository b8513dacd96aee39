use Rattle.std.proofs.Common.{◌<◌, List, length, map, sym, subst}
use Rattle.std.specs.Prelude.{IfOk}
use Rattle.std.specs.List.{All}
use Rattle.std.proofs.lemmas.Result.{IfOk-weaker}
use Rattle.jh_ops.specs.Operation.{operations}
use Rattle.jh_txn.specs.declared.dependency.Step.{Step}
use Rattle.jh_txn.specs.declared.txn.Txn.{Txn}
use Rattle.jh_txn_check.specs.Found.{SaysOf}
use Rattle.jh_txn_check.specs.FoundInside.{IsBadReadFound, IsCycleFound}
use Rattle.jh_txn_check.proofs.BoundLemmas.{cycle_below, cycle_numbered, is_cycle}
use Rattle.jh_txn_check.proofs.FoundLemmas.{says_bad_read, says_cycle, snapshot_cycle, of_snapshots}
use Rattle.jh_txn_findings.specs.Found.{AreStepsNumbered}
use Rattle.jh_txn_snapshot_judge.specs.Judged.{IsSnapshotJudged, snapshot_model}
use Rattle.jh_txn_check.proofs.found.snapshot_finding.Goals as goal

pub cycle_found-requires-clause-there : goal.cycle_found-requires-clause-there
cycle_found-requires-clause-there c =
    let txns = c.args.read.now.txns.items in
    let judged = subst (λ (txns : List Txn). IsSnapshotJudged txns c.args.real_time c.in_ok-points.field-0) c.deref.ensures.value c.in_ok-points.ensures in
    let cycle = subst (IsSnapshotJudged txns c.args.real_time) c.in-Cycle.is judged in
    let below = cycle_below txns (snapshot_model c.args.real_time) c.in-Cycle.steps.items (is_cycle txns (snapshot_model c.args.real_time) c.in-Cycle.steps.items cycle) in
    let counted = subst (λ n. All (λ place. place < n) (map (λ (step : Step). step.place) c.in-Cycle.steps.items)) c.requires.count below in
    subst (λ steps. All (λ place. place < length c.args.pairs.now) (map (λ (step : Step). step.place) steps)) (sym c.deref-in-Cycle.ensures.value) counted

pub cycle_found-requires-clause-numbered : goal.cycle_found-requires-clause-numbered
cycle_found-requires-clause-numbered c =
    let txns = c.args.read.now.txns.items in
    let judged = subst (λ (txns : List Txn). IsSnapshotJudged txns c.args.real_time c.in_ok-points.field-0) c.deref.ensures.value c.in_ok-points.ensures in
    let cycle = subst (IsSnapshotJudged txns c.args.real_time) c.in-Cycle.is judged in
    let keys = length c.args.read.now.keys in
    let elements = length c.args.read.now.elements in
    subst (AreStepsNumbered keys elements) (sym c.deref-in-Cycle.ensures.value) (cycle_numbered txns (snapshot_model c.args.real_time) keys elements c.requires.numbered c.in-Cycle.steps.items (is_cycle txns (snapshot_model c.args.real_time) c.in-Cycle.steps.items cycle))

pub returns-in-BadRead : goal.returns-in-BadRead
returns-in-BadRead c =
    let read = c.args.read.now in
    let at = c.in-BadRead.at in
    let model = snapshot_model c.args.real_time in
    let history = operations c.args.history.now in
    let judged = subst (λ (txns : List Txn). IsSnapshotJudged txns c.args.real_time c.in_ok-points.field-0) c.deref.ensures.value c.in_ok-points.ensures in
    let bad = subst (IsSnapshotJudged read.txns.items c.args.real_time) c.in-BadRead.is judged in
    IfOk-weaker c.bad_read_found.result (IsBadReadFound history c.args.pairs.now c.args.explain at) (SaysOf history c.args.pairs.now model c.args.explain read)
    (λ finding h. says_bad_read history c.args.pairs.now model c.args.explain read at finding bad h) c.bad_read_found.ensures

pub returns-in-Unknown : goal.returns-in-Unknown
returns-in-Unknown c =
    let judged = subst (λ (txns : List Txn). IsSnapshotJudged txns c.args.real_time c.in_ok-points.field-0) c.deref.ensures.value c.in_ok-points.ensures in
    (of_snapshots c.args.real_time, subst (IsSnapshotJudged c.args.read.now.txns.items c.args.real_time) c.in-Unknown.is judged)
