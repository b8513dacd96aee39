use Rattle.std.proofs.Common.{◌≡◌, ◌∙◌, ap, sym}
use Rattle.jh_edn.specs.Edn.{map_pairs}
use Rattle.jh_edn.specs.View.{view, view_pairs}
use Rattle.jh_ops.specs.OperationText.{result_of_needed, op_of_pairs, parsed_op}
use Rattle.jh_ops.specs.declared.op_text.OpError.TheVariants.{NotMap}
use Rattle.jh_ops.proofs.op_text.op_of.Goals as goal

pub returns-in-Some-clause-parsed : goal.returns-in-Some-clause-parsed
returns-in-Some-clause-parsed c =
    let parsed : parsed_op (view c.args.value) ≡ op_of_pairs (view_pairs c.in-Some.pairs.items) =
    ap (λ v. result_of_needed (map_pairs v) NotMap op_of_pairs) (sym c.untagged.ensures)
    ∙ ap (λ pairs. result_of_needed pairs NotMap op_of_pairs) (sym c.in-Some.ensures) in
    rw parsed (c.op_with.ensures.parsed (view_pairs c.in-Some.pairs.items) c.fields_in.ensures)
