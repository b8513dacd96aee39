use Rattle.std.proofs.Common.{◌≡◌, ◌++◌, take}
use Rattle.jh_bands.specs.BandsInside.{changes_with, view_changes, view_all_begun}
use Rattle.jh_bands.proofs.edit.add_all.Given as goal

abbrev pub invariant-loop-fault : goal.invariant-loop-fault
invariant-loop-fault l =
    view_changes l.changes.items
    ≡ view_changes l.fn.changes.items ++ changes_with l.index l.begins (view_all_begun (take l.fault-index l.faults))
