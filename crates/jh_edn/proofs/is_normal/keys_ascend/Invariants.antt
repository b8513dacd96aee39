use Rattle.std.proofs.Common.{◌≡◌, drop}
use Rattle.std.specs.Prelude.{option_map}
use Rattle.jh_edn.specs.Edn.{members_of}
use Rattle.jh_edn.specs.Equality.{keys_of}
use Rattle.jh_edn.specs.Normal.{ascends}
use Rattle.jh_edn.specs.View.{view, view_pairs}
use Rattle.jh_edn.proofs.AscendingLemmas.{ascends_from}
use Rattle.jh_edn.proofs.is_normal.keys_ascend.Given as goal

abbrev pub invariant-loop-pair : goal.invariant-loop-pair
invariant-loop-pair l = ascends_from (option_map (λ x. view x.now) l.last) (keys_of (members_of (view_pairs (drop l.pair-index l.pair-items)))) ≡ ascends (keys_of (members_of (view_pairs l.pair-items)))
