use Rattle.std.proofs.Common.{refl}
use Rattle.jh_timeline.specs.declared.lanes.Ends.{Ends}
use Rattle.jh_timeline.proofs.EndLemmas.{kept_held}
use Rattle.jh_timeline.proofs.lanes.hold.Goals as goal

pub returns-clause-kept : goal.returns-clause-kept
returns-clause-kept c =
    let next : Ends = record { until = c.set_until.new.until; busy = c.insert.new.self; free = c.args.ends.now.free } in
    λ index kept. kept_held c.args.ends.now next index c.args.lane c.args.last c.requires kept c.in_ok-set_until.ensures refl c.in_ok-insert.ensures.updates
