use Rattle.std.proofs.Common.{◌≡◌, List, take, drop}
use Rattle.std.specs.Borrow.{Bor}
use Rattle.std.specs.BTreeSet.{contains}
use Rattle.jh_edn.specs.declared.key.Part.{Part}
use Rattle.jh_edn.specs.Key.{key_parts, keys_in, is_in, has_twice_after, has_twice}
use Rattle.jh_edn.proofs.KeyOrderLemmas.{held_cmp}
use Rattle.jh_edn.proofs.pairs.has_twice.Given as goal

abbrev pub invariant-loop-key : goal.invariant-loop-key
invariant-loop-key l = record {
  rest : has_twice_after (keys_in (take l.key-index l.keys)) (keys_in (drop l.key-index l.keys)) ≡ has_twice (keys_in l.keys);
  seen : (q : Bor (List Part)) → contains (λ x y. held_cmp x.now y.now) l.seen q ≡ is_in (key_parts q.now) (keys_in (take l.key-index l.keys));
}
