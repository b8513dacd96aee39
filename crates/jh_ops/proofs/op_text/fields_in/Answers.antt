use Rattle.std.proofs.Common.{◌≡◌, ap, ◌∙◌, rules}
use Rattle.std.specs.Vec.Iter.{into_iter_items}
use Rattle.jh_edn.specs.View.{view_pairs}
use Rattle.jh_ops.specs.FieldsInside.{no_fields}
use Rattle.jh_ops.proofs.FieldLemmas.{from_none, with_pairs}
use Rattle.jh_ops.proofs.op_text.fields_in.Goals as goal

pub loop-key-init : goal.loop-key-init
loop-key-init c =
    let all : into_iter_items c.into_iter-rest.result ≡ c.args.pairs.items = search rules in
    (no_fields, c.none-fields.ensures, ap (λ pairs. with_pairs no_fields (view_pairs pairs)) all ∙ from_none (view_pairs c.args.pairs.items))
