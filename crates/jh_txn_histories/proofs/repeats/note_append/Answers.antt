use Rattle.std.proofs.Common.{◌∙◌, eqb, length, ap}
use Rattle.jh_edn.specs.Normal.{normal}
use Rattle.jh_edn.specs.View.{view}
use Rattle.jh_txn_histories.specs.declared.tables.Tables.{Tables}
use Rattle.jh_txn_histories.proofs.GrowLemmas.{stays_with}
use Rattle.jh_txn_histories.proofs.NoteLemmas.{noted_one}
use Rattle.jh_txn_histories.proofs.repeats.note_append.Goals as goal

pub returns : goal.returns
returns c = λ front are.
    let old = c.args.tables.now in
    let new : Tables = record { keys = c.number.new.self; elements = c.number-2.new.self } in
    let key = view c.args.key.now in
    let stay = stays_with old.keys c.number.new.self (0, normal key) c.in_ok-key.ensures.values in
    let h = noted_one old new front key (view c.args.element.now) c.in_ok-key.key are stay c.in_ok-key.ensures.distinct c.in_ok-key.ensures.number c.in_ok-number.ensures.values in (
      ap (λ n. eqb n c.len-count.result) c.len.ensures ∙ ap (λ n. eqb (length new.elements) n) c.len-count.ensures ∙ h.0,
      h.1,
    )
