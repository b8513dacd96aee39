use Rattle.std.proofs.Common.{rules, ◌≡◌, ◌<◌, ◌+◌, length, get_or, subst, sym, arith}
use Rattle.std.specs.Prelude.{◌≢◌, None, Ok, Some}
use Rattle.jh_search.specs.Search.{ComesOf}
use Rattle.jh_check.specs.declared.verdict.Verdict.TheVariants.{False}
use Rattle.jh_search.proofs.SearchLemmas.{answer_comes, first_found, goes_further, none_missing, passed_more, unknown_more}
use Rattle.jh_search.proofs.threads.after_block.Goals as goal
use Rattle.jh_search.proofs.threads.after_block.Goals.{in-True, in-Unknown}

pub returns-in-False-clause-next : goal.returns-in-False-clause-next
returns-in-False-clause-next c =
    let p = c.args.plan.now in
    let options = c.args.options.now in
    let i = c.loop-answer.answer-index in
    let far = c.loop-answer.invariant.far in
    let here : options.from + c.args.progress.tried + i ≡ options.from + c.loop-answer.next.tried = omega (arith, far) in
    let below : i < length c.args.answers.now = c.loop-answer-test.true in
    let at : get_or c.args.answers.now i None ≡ Some (Ok c.in-Some-Ok.verdict) = search rules in
    let came = answer_comes p options (options.from + c.args.progress.tried) c.args.answers.now i c.in-Some-Ok.verdict c.requires.answers below at in
    let few = c.requires.few in
    first_found p options c.loop-answer.next.tried c.loop-answer.next.unknown c.loop-answer.invariant.tried (omega (arith, far, few, below))
    (subst (λ n. ComesOf p options n False) here (subst (ComesOf p options (options.from + c.args.progress.tried + i)) c.in-False.is came))

pub returns-in-None-clause-thread : goal.returns-in-None-clause-thread
returns-in-None-clause-thread c all is =
    none_missing c.args.answers.now c.loop-answer.answer-index (c.requires.done all) c.loop-answer.invariant.goes_on c.loop-answer-test.true (search rules)

pub loop-answer-preserved : goal.loop-answer-preserved
loop-answer-preserved c =
    let p = c.args.plan.now in
    let options = c.args.options.now in
    let i = c.loop-answer.answer-index in
    let far = c.loop-answer.invariant.far in
    let here : options.from + c.args.progress.tried + i ≡ options.from + c.loop-answer.next.tried = omega (arith, far) in
    let below : i < length c.args.answers.now = c.loop-answer-test.true in
    let at : get_or c.args.answers.now i None ≡ Some (Ok c.in-Some-Ok.verdict) = search rules in
    let came = subst (λ n. ComesOf p options n c.in-Some-Ok.verdict) here
    (answer_comes p options (options.from + c.args.progress.tried) c.args.answers.now i c.in-Some-Ok.verdict c.requires.answers below at) in
    let before = c.loop-answer.next in
    let answers = c.args.answers.now in
    elim c.match-verdict.branch [
      | in-True w ↦ rw (w.next-is) (record {
        tried = passed_more p options before.tried before.unknown c.loop-answer.invariant.tried (subst (ComesOf p options (options.from + before.tried)) w.in-True.is came);
        far = omega (arith, far);
        goes_on = goes_further answers i c.in-Some-Ok.verdict c.loop-answer.invariant.goes_on below at (subst (λ v. v ≢ False) (sym w.in-True.is) (λ e. cc));
      })
      | in-Unknown w ↦ rw (w.next-is) (record {
        tried = unknown_more p options before.tried before.unknown c.loop-answer.invariant.tried (subst (ComesOf p options (options.from + before.tried)) w.in-Unknown.is came);
        far = omega (arith, far);
        goes_on = goes_further answers i c.in-Some-Ok.verdict c.loop-answer.invariant.goes_on below at (subst (λ v. v ≢ False) (sym w.in-Unknown.is) (λ e. cc));
      })
    ]
