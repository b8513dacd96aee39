use Rattle.std.proofs.Common.{◌≡◌, map, take, pos}
use Rattle.jh_edn.specs.Edn.{int}
use Rattle.jh_edn.specs.View.{views}
use Rattle.jh_reports.proofs.lines.active_ids.Given as goal

abbrev pub invariant-loop-place : goal.invariant-loop-place
invariant-loop-place l = views l.ids.items ≡ map (λ fault. int (pos fault.0)) (take l.place l.nemesis.state.active)
