use Rattle.std.proofs.Common.{◌≡◌, ◌+◌, refl, subst, arith}
use Rattle.jh_trials.specs.Trials.{IsTrialBegun}
use Rattle.jh_drive_search.proofs.TriedLemmas.{as_many, at_most_more, err_matched, tried_in_part, tried_last, tried_more}
use Rattle.jh_drive_search.proofs.searching.try_candidates.Goals as goal

pub returns-in_err-judged : goal.returns-in_err-judged
returns-in_err-judged g c =
    let begun = subst (λ made. IsTrialBegun made (c.args.options.now.from + c.loop-index.index) c.loop-index.read c.in_ok-trial.trial) c.in_ok-candidate.ensures.candidate c.in_ok-trial.ensures in
    err_matched c.from_residual-in_err-judged.result c.in_err-judged.field-0.0 _ _ c.from_residual-in_err-judged.ensures.1
    (tried_in_part c.args.test.now c.args.judging c.args.options.now _ _ _ _ _ _ c.loop-index.index c.loop-index.unknown c.loop-index.read (c.args.options.now.from + c.loop-index.index)
    c.loop-index.invariant.tried c.in_ok-trial.trial c.hold_trial.new.trial c.in_err-judged.field-0.0 c.loop-index-test.true refl begun c.in_err-judged.ensures)

pub returns-then-judged-eq-INVALID : goal.returns-then-judged-eq-INVALID
returns-then-judged-eq-INVALID g c =
    let begun = subst (λ made. IsTrialBegun made (c.args.options.now.from + c.loop-index.index) c.loop-index.read c.in_ok-trial.trial) c.in_ok-candidate.ensures.candidate c.in_ok-trial.ensures in (
      c.if-judged-eq-INVALID.true,
      tried_last c.args.test.now c.args.judging c.args.options.now _ _ _ _ _ _ c.loop-index.index c.loop-index.unknown c.loop-index.read (c.args.options.now.from + c.loop-index.index)
          c.loop-index.invariant.tried c.in_ok-trial.trial c.hold_trial.new.trial c.in_ok-judged.judged.status c.in_ok-judged.judged.text.items c.loop-index-test.true refl begun c.in_ok-judged.ensures c.if-judged-eq-INVALID.true,
    )

pub loop-index-preserved : goal.loop-index-preserved
loop-index-preserved g c =
    let begun = subst (λ made. IsTrialBegun made (c.args.options.now.from + c.loop-index.index) c.loop-index.read c.in_ok-trial.trial) c.in_ok-candidate.ensures.candidate c.in_ok-trial.ensures in
    record {
      tried = rw c.read-read.ensures (tried_more c.args.test.now c.args.judging c.args.options.now _ _ _ _ _ _ c.loop-index.index c.loop-index.unknown c.loop-index.read (c.args.options.now.from + c.loop-index.index)
          c.loop-index.invariant.tried c.in_ok-trial.trial c.hold_trial.new.trial c.in_ok-judged.judged.status c.from-unknown.result c.in_ok-judged.judged.text.items refl begun c.in_ok-judged.ensures c.if-judged-eq-INVALID.false c.from-unknown.ensures);
      few = at_most_more c.loop-index.unknown c.from-unknown.result c.loop-index.index _ c.loop-index.invariant.few c.from-unknown.ensures;
    }

pub returns : goal.returns
returns g c = (
  c.loop-index.read,
  let all : c.args.options.now.runs ≡ c.loop-index.index = omega (arith, c.loop-index-test.false, c.loop-index.auto.index-end) in
      as_many c.args.test.now c.args.judging c.args.options.now _ _ _ _ c.loop-index.index c.args.options.now.runs c.loop-index.unknown c.loop-index.read c.loop-index.invariant.tried all,
)
