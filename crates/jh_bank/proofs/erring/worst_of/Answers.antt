use Rattle.std.proofs.Common.{sym, subst, take}
use Rattle.std.specs.List.{filter}
use Rattle.std.proofs.lemmas.List.{take_more}
use Rattle.jh_bank.specs.BankInside.{IsWorstOf, errs_by}
use Rattle.jh_bank.specs.declared.errors.BankError.TheVariants.{WrongTotal}
use Rattle.jh_bank.proofs.ErringLemmas.{worse_more}
use Rattle.jh_bank.proofs.erring.worst_of.Goals as goal

pub loop-read-preserved : goal.loop-read-preserved
loop-read-preserved c =
    let erring = c.args.erring.now in
    let l = c.loop-read in
    subst (λ xs. IsWorstOf (filter (errs_by WrongTotal) xs) c.worse-worst.result) (sym (take_more erring l.read-index _ c.loop-read-test.true))
    (worse_more l.worst _ (take l.read-index erring) c.is.result c.worse-worst.result c.worse-worst.ensures c.is.ensures l.invariant)
