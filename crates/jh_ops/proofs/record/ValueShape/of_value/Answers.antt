use Rattle.std.proofs.Common.{◌≡◌, sym, ap, ◌∙◌}
use Rattle.jh_edn.specs.Edn.{vector, items_of}
use Rattle.jh_edn.specs.View.{view}
use Rattle.jh_ops.specs.RecordParts.{shape_of_value}
use Rattle.jh_ops.proofs.RecordLemmas.{shape_of_vector, then_some_is}
use Rattle.jh_ops.proofs.record.ValueShape.of_value.Goals as goal

pub returns-in-Vector : goal.returns-in-Vector
returns-in-Vector c =
    let shape = shape_of_vector c.as_slice.result.now c.are_integers.result (sym c.are_integers.ensures) in
    let is : vector (items_of c.in-Vector.items) ≡ view c.args.value.now = sym (ap view c.in-Vector.is) in
    c.then_some.ensures ∙ then_some_is c.are_integers.result ∙ sym (rw c.as_slice.ensures at shape) ∙ ap shape_of_value is
