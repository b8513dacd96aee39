use Rattle.std.proofs.Common.{◌∙◌, length, sym, subst}
use Rattle.jh_ops.specs.Operation.{operations}
use Rattle.jh_txn_histories.specs.Histories.{IsBadAt, IsRepeatedAt}
use Rattle.jh_txn_histories.specs.ReadingInside.{IsLeastPlace}
use Rattle.jh_txn_histories.proofs.NumberedLemmas.{are_numbered}
use Rattle.jh_txn_histories.proofs.RefusalLemmas.{all_good, ends_if, is_refused, not_refused}
use Rattle.jh_txn_histories.proofs.histories.transactions.Goals as goal

pub returns-in-Some-clause-read : goal.returns-in-Some-clause-read
returns-in-Some-clause-read c =
    is_refused (operations c.args.history.now) c.args.pairs.now c.in_ok-bad.bad c.in_ok-repeated.repeated c.in-Some.error (sym c.refusal.ensures ∙ c.in-Some.is) c.in_ok-bad.ensures c.in_ok-repeated.ensures

pub txns_of-requires : goal.txns_of-requires
txns_of-requires c =
    let history = operations c.args.history.now in
    let pairs = c.args.pairs.now in
    let none = not_refused c.in_ok-bad.bad c.in_ok-repeated.repeated (sym c.refusal.ensures ∙ c.in_default.is) in
    record { good = all_good history pairs (subst (IsLeastPlace (IsBadAt history pairs)) none.0 c.in_ok-bad.ensures) }

pub returns-clause-read : goal.returns-clause-read
returns-clause-read c =
    let history = operations c.args.history.now in
    let pairs = c.args.pairs.now in
    let none = not_refused c.in_ok-bad.bad c.in_ok-repeated.repeated (sym c.refusal.ensures ∙ c.in_default.is) in
    record {
      each = c.in_ok-txns.ensures;
      keys_apart = c.are_apart.ensures;
      elements_apart = c.are_apart-2.ensures;
      good = subst (IsLeastPlace (IsBadAt history pairs)) none.0 c.in_ok-bad.ensures;
      once = subst (IsLeastPlace (IsRepeatedAt history pairs)) none.1 c.in_ok-repeated.ensures;
    }

pub returns-clause-numbered : goal.returns-clause-numbered
returns-clause-numbered c =
    let history = operations c.args.history.now in
    let pairs = c.args.pairs.now in
    let tables = c.txns_of.new.tables in
    let none = not_refused c.in_ok-bad.bad c.in_ok-repeated.repeated (sym c.refusal.ensures ∙ c.in_default.is) in
    let good = all_good history pairs (subst (IsLeastPlace (IsBadAt history pairs)) none.0 c.in_ok-bad.ensures) in
    are_numbered history tables.keys tables.elements pairs c.in_ok-txns.txns.items (subst (IsLeastPlace (IsRepeatedAt history pairs)) none.1 c.in_ok-repeated.ensures) good c.in_ok-txns.ensures

pub returns-clause-ends : goal.returns-clause-ends
returns-clause-ends c =
    let tables = c.txns_of.new.tables in
    ends_if (operations c.args.history.now) tables.keys tables.elements (length c.args.history.now) c.args.pairs.now c.in_ok-txns.txns.items c.requires.within c.in_ok-txns.ensures
