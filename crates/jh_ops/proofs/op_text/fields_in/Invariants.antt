use Rattle.std.proofs.Common.{◌≡◌}
use Rattle.std.specs.Vec.Iter.{into_iter_items, into_iter_len}
use Rattle.jh_edn.specs.View.{view_pairs}
use Rattle.jh_ops.specs.FieldsInside.{FieldsValue, fields_of, Holds}
use Rattle.jh_ops.proofs.FieldLemmas.{with_pairs}
use Rattle.jh_ops.proofs.op_text.fields_in.Given as goal

-- what was added so far is held, and with the pairs that are left it is what all say
abbrev pub invariant-loop-key : goal.invariant-loop-key
invariant-loop-key l = (said : FieldsValue) × Holds l.fields said × (with_pairs said (view_pairs (into_iter_items l.rest)) ≡ fields_of (view_pairs l.fn.pairs.items))

abbrev pub decreases-loop-key : goal.decreases-loop-key
decreases-loop-key l = into_iter_len l.rest
