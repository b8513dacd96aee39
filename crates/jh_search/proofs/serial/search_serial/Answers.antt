use Rattle.std.proofs.Common.{◌+◌, sym, subst}
use Rattle.jh_search.specs.Search.{ComesOf}
use Rattle.jh_search.specs.SearchInside.{HasTried}
use Rattle.jh_search.proofs.SearchLemmas.{passed_more, unknown_more}
use Rattle.jh_search.proofs.serial.search_serial.Goals as goal
use Rattle.jh_search.proofs.serial.search_serial.Goals.{in-True, in-Unknown}

pub loop-index-preserved : goal.loop-index-preserved
loop-index-preserved c =
    let p = c.args.plan.now in
    let options = c.args.options.now in
    let tried = c.loop-index.index in
    let comes = c.in_ok-verdict_at.ensures in
    elim c.match-branch-2.branch [
      | in-True w ↦ subst (HasTried p options (tried + 1)) (sym w.unknown-is)
          (passed_more p options tried c.loop-index.unknown c.loop-index.invariant (subst (ComesOf p options (options.from + tried)) w.in-True.is comes))
      | in-Unknown w ↦ subst (HasTried p options (tried + 1)) (sym w.unknown-is)
          (unknown_more p options tried c.loop-index.unknown c.loop-index.invariant (subst (ComesOf p options (options.from + tried)) w.in-Unknown.is comes))
    ]
