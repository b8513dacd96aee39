use Rattle.std.proofs.Common.{◌≡◌, [], ◌∷◌, ◌++◌, codes, rules}
use Rattle.jh_edn.specs.Edn.{keyword}
use Rattle.jh_edn.specs.View.{view, view_pairs}
use Rattle.jh_ops.specs.OperationWritten.{kind_name, process_value}
use Rattle.jh_ops.proofs.FourPairLemmas.{four_pushed}
use Rattle.jh_ops.proofs.op_written.push_four.Goals as goal

pub returns : goal.returns
returns c =
    let start = view_pairs c.args.pairs.now.items in
    let first = view_pairs c.push_pair.new.pairs.items in
    let second = view_pairs c.push_pair-2.new.pairs.items in
    let third = view_pairs c.push_pair-3.new.pairs.items in
    let op = c.args.op.now in
    let type : first ≡ start ++ (keyword (codes "type"), keyword (kind_name op.kind)) ∷ [] = search rules in
    let process : second ≡ first ++ (keyword (codes "process"), process_value op.process) ∷ [] = search rules in
    let f : third ≡ second ++ (keyword (codes "f"), view op.f) ∷ [] = search rules in
    let value : view_pairs c.push_pair-4.new.pairs.items ≡ third ++ (keyword (codes "value"), view op.value) ∷ [] = search rules in
    four_pushed _ _ _ _ _ _ _ _ _ type process f value
