use Rattle.std.proofs.Common.{◌≡◌, ◌∙◌, sym, ap, subst, length, map}
use Rattle.std.specs.Prelude.{◌==◌, slice_get, option_and_then}
use Rattle.std.specs.List.{filter}
use Rattle.jh_ops.specs.Operation.{operations}
use Rattle.jh_check.specs.Verdicts.{verdict_of}
use Rattle.jh_bank.specs.BankInside.{IsWorstOf, errs_by, errors_from}
use Rattle.jh_bank.specs.Banks.{count_and_first, reads_with}
use Rattle.jh_bank.specs.declared.erring.ErringRead.{ErringRead}
use Rattle.jh_bank.specs.declared.errors.BankError.{BankError}
use Rattle.jh_bank.specs.declared.errors.BankError.TheVariants.{UnexpectedKey, NilBalance, WrongTotal, NegativeValue}
use Rattle.jh_bank.proofs.ErringLemmas.{errors_found, worst_found, wrong_counted, wrong_placed}
use Rattle.jh_bank.proofs.ReadLemmas.{reads_counted}
use Rattle.jh_bank.proofs.judge.result_of.Goals as goal

pub returns : goal.returns
returns c =
    let history = operations c.args.history.now in
    let bank = c.args.bank.now in
    let erring = c.args.erring.now in
    let found : (error : BankError) → errors_from history erring error ≡ count_and_first (reads_with bank error history) =
    λ error. ap (λ w. errors_from history w error) c.requires ∙ errors_found bank error history in
    record {
      verdict = c.verdict_of.ensures ∙ ap (λ n. verdict_of (n == 0)) (ap length c.requires ∙ wrong_counted bank history);
      reads = c.count_reads.ensures ∙ sym (reads_counted c.args.history.now);
      errors = record {
        unexpected_key = c.in_ok-errors.ensures.unexpected_key ∙ found UnexpectedKey;
        nil_balance = c.in_ok-errors.ensures.nil_balance ∙ found NilBalance;
        wrong_total = c.in_ok-errors.ensures.wrong_total ∙ found WrongTotal;
        negative_value = c.in_ok-errors.ensures.negative_value ∙ found NegativeValue;
      };
      worst = worst_found bank history c.worst_of.result c.in_ok-worst.worst
          (subst (λ w. IsWorstOf (filter (errs_by WrongTotal) w) c.worst_of.result) c.requires c.worst_of.ensures)
          (c.in_ok-worst.ensures ∙ ap (option_and_then (slice_get history)) c.place_of.ensures);
      wrong = c.in_ok-wrong.ensures ∙ ap (map (λ (read : ErringRead). read.place)) c.requires ∙ wrong_placed bank history;
    }
