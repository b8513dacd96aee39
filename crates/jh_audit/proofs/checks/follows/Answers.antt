use Rattle.std.proofs.Common.{subst}
use Rattle.std.proofs.lemmas.Bool.{false≢true}
use Rattle.jh_ops.specs.Operation.{operations}
use Rattle.jh_audit.specs.Forms.{SaysAt}
use Rattle.jh_audit.proofs.AuditLemmas.{follows_none, follows_form}
use Rattle.jh_audit.proofs.checks.follows.Goals as goal

pub returns-in-Some-form_at : goal.returns-in-Some-form_at
returns-in-Some-form_at c =
    let history = operations c.args.history.now in
    let earlier = c.in-Some.earlier in
    let form = c.in-Some-form_at.form in
    let says = c.in-Some-form_at.ensures.says in (
      λ holds. (earlier, c.in-Some.ensures, subst (λ f. SaysAt history earlier f) (c.same_form.ensures.0 holds) says),
      λ follows. c.same_form.ensures.1 (follows_form history earlier c.args.place form c.args.asked c.in-Some.ensures says follows),
    )

pub returns-in-None : goal.returns-in-None
returns-in-None c =
    let history = operations c.args.history.now in (
      λ never. absurd (false≢true never),
      λ follows. absurd (follows_none history c.in-Some.earlier c.args.place c.args.asked c.in-Some.ensures c.in-None.ensures.says follows),
    )
