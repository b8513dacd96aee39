use Rattle.std.proofs.Common.{◌≡◌, ◌∙◌, ◌++◌, ap, sym, take, length, length-take, arith}
use Rattle.std.proofs.lemmas.List.{length-map}
use Rattle.jh_ops.specs.Operation.{operation, operations}
use Rattle.jh_check.proofs.ListLemmas.{mapped_more}
use Rattle.jh_bank.specs.BankInside.{erring_of, erring_reads}
use Rattle.jh_bank.proofs.ReadLemmas.{erring_pushed}
use Rattle.jh_bank.proofs.erring.erring_reads.Goals as goal

pub loop-place-preserved : goal.loop-place-preserved
loop-place-preserved c =
    let history = c.args.history.now in
    let bank = c.args.bank.now in
    let i = c.loop-place.place in
    let op = c.index-history-place.result in
    let before = operations (take i history) in
    let more = mapped_more operation history i op c.loop-place-test.true c.index-history-place.is in
    let long : length before ≡ i = omega (arith, length-map (take i history) operation, length-take i history) in
    c.in_ok-push_erring.ensures
    ∙ ap (λ w. w ++ erring_of bank i (operation op)) c.loop-place.invariant
    ∙ ap (λ n. erring_reads bank before ++ erring_of bank n (operation op)) (sym long)
    ∙ sym (ap (erring_reads bank) more ∙ erring_pushed bank before (operation op))
