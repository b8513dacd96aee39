use Rattle.std.proofs.Common.{◌≡◌, ◌++◌, drop}
use Rattle.jh_edn.specs.Key.{key_parts, keys_in, marked_keys}
use Rattle.jh_edn.proofs.key.push_marked.Given as goal

abbrev pub invariant-loop-item_key : goal.invariant-loop-item_key
invariant-loop-item_key l = key_parts l.key.items ++ marked_keys (keys_in (drop l.item_key-index l.keys)) ≡ key_parts l.fn.key.items ++ marked_keys (keys_in l.keys)
