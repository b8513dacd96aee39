use Rattle.std.proofs.Common.{ℕ, sym, subst}
use Rattle.std.specs.List.{AllZip}
use Rattle.jh_edn.specs.Edn.{Edn}
use Rattle.jh_edn.specs.Normal.{normal}
use Rattle.jh_edn.specs.View.{view, views}
use Rattle.jh_numbers.specs.Numbers.{HasNumber}
use Rattle.jh_txn.specs.declared.txn.MicroOp.TheVariants.{Read}
use Rattle.jh_txn_histories.specs.Histories.{IsNumbered}
use Rattle.jh_txn_histories.specs.ReadingInside.{written}
use Rattle.jh_txn_histories.proofs.GrowLemmas.{stays_with}
use Rattle.jh_txn_histories.proofs.numbered.number_op.Goals as goal

pub returns-in_ok-number_elements-in-Read-clause-numbered : goal.returns-in_ok-number_elements-in-Read-clause-numbered
returns-in_ok-number_elements-in-Read-clause-numbered c =
    let keys = c.number-in-Read.new.self in
    let elements = c.number_elements.new.elements in
    let key = c.in_ok-key-in-Read.key in
    subst (λ op. IsNumbered keys elements (written op) (Read key c.of-seen.result)) (sym c.in-Read.is) (
      c.in_ok-key-in-Read.ensures.number,
      subst (λ ns. AllZip (λ (x : Edn) (n : ℕ). HasNumber elements (key, normal x) n) (views c.in-Read.seen.now) ns) (sym c.of-seen.ensures) c.in_ok-number_elements-in-Read.ensures.numbers,
    )

pub returns-in_ok-number_elements-in-Read-clause-grows : goal.returns-in_ok-number_elements-in-Read-clause-grows
returns-in_ok-number_elements-in-Read-clause-grows c = record {
  keys = stays_with c.args.tables.now.keys c.number-in-Read.new.self (0, normal (view c.in-Read.key.now)) c.in_ok-key-in-Read.ensures.values;
  elements = c.in_ok-number_elements-in-Read.ensures.stays;
}
