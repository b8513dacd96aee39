use Rattle.std.proofs.Common.{◌≡◌, ◌++◌, take, map}
use Rattle.jh_edn.specs.Normal.{normal}
use Rattle.jh_edn.specs.View.{views}
use Rattle.jh_check.proofs.asked.push_normal.Given as goal

abbrev pub invariant-loop-item : goal.invariant-loop-item
invariant-loop-item l = views l.values.items ≡ views l.fn.values.items ++ map normal (views (take l.item-index l.items))
