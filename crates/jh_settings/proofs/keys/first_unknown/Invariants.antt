use Rattle.std.specs.BTreeMap.{keys}
use Rattle.jh_settings.proofs.KeyLemmas.{Passed}
use Rattle.jh_settings.proofs.keys.first_unknown.Given as goal

abbrev pub invariant-loop-key : goal.invariant-loop-key
invariant-loop-key l = record {
  can : (goal.iterator-loop-key).can_next l.key-iterator;
  ends : (goal.iterator-loop-key).is_finite l.key-iterator;
  passed : Passed l.keys (keys l.table) l.key-iterator;
}
