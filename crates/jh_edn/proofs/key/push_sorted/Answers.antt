use Rattle.std.proofs.Common.{◌≡◌, ◌++◌, OnOk, ap, subst, ◌∙◌}
use Rattle.jh_edn.specs.Key.{key_parts, keys_in, marked_keys}
use Rattle.jh_edn.proofs.KeyOrderLemmas.{sorted_keys}
use Rattle.jh_edn.proofs.key.push_sorted.Goals as goal

pub returns : goal.returns
returns c =
    let order = sorted_keys c.args.keys.items c.sort.new.self.items c.in_ok-sort.ensures.sorted c.in_ok-sort.ensures.stable in
    subst (λ ks. OnOk c.push_marked.result (key_parts c.push_marked.new.key.items ≡ key_parts c.args.key.now.items ++ marked_keys ks)) (ap keys_in c.deref.ensures.value ∙ order) c.push_marked.ensures
