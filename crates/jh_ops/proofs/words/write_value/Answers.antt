use Rattle.std.proofs.Common.{◌≡◌, ◌<◌, length, ap, ◌∙◌, sym, rules}
use Rattle.std.proofs.lemmas.List.{length-map}
use Rattle.jh_edn.specs.View.{view, views}
use Rattle.jh_ops.specs.RecordParts.{elements}
use Rattle.jh_edn.proofs.CitedLemmas.{list_of-items_of}
use Rattle.jh_ops.proofs.RecordLemmas.{one_word}
use Rattle.jh_ops.proofs.words.write_value.Goals as goal

pub write_integers-requires : goal.write_integers-requires
write_integers-requires c =
    let values : elements (view c.args.value.now) ≡ views c.as_slice.result.now = rw c.in-Vector.is (list_of-items_of c.in-Vector.items) ∙ sym c.as_slice.ensures in
    let count : length (elements (view c.args.value.now)) ≡ length c.as_slice.result.now = ap length values ∙ length-map c.as_slice.result.now view in
    rw count at c.requires

pub returns-in-Int-clause-integers : goal.returns-in-Int-clause-integers
returns-in-Int-clause-integers c =
    let long : 3 < length c.args.words.now = search rules in
    rw c.in-Int.is (one_word c.args.words.now c.integer_word.result _ long (rw c.in-Int.is at c.integer_word.ensures))

pub returns-in-Vector-clause-integers : goal.returns-in-Vector-clause-integers
returns-in-Vector-clause-integers c =
    let values : elements (view c.args.value.now) ≡ views c.as_slice.result.now = rw c.in-Vector.is (list_of-items_of c.in-Vector.items) ∙ sym c.as_slice.ensures in
    rw (values, length-map c.as_slice.result.now view) c.write_integers.ensures.integers

pub returns-in-Vector-clause-after : goal.returns-in-Vector-clause-after
returns-in-Vector-clause-after c =
    let values : elements (view c.args.value.now) ≡ views c.as_slice.result.now = rw c.in-Vector.is (list_of-items_of c.in-Vector.items) ∙ sym c.as_slice.ensures in
    rw (values, length-map c.as_slice.result.now view) c.write_integers.ensures.after
