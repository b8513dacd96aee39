use Rattle.std.proofs.Common.{◌≡◌, ◌∙◌, sym, ap}
use Rattle.jh_simnode.specs.Plans.{PlanValue}
use Rattle.jh_simnode.proofs.plan.Plan.with_schedule.Goals as goal

pub invariant_of-result : goal.invariant_of-result
invariant_of-result c =
    let kept = c.self.invariant in
    let env : c.environment.result.now ≡ c.self.inside.environment =
    c.environment.ensures.environment ∙ sym (ap (λ (p : PlanValue). p.env) c.self.view_is) in
    let fits = rw (c.entries.ensures.entries, env) at c.all_fit.ensures.0 c.if-not-all_fit.false in
    rw (c.in_ok-copy.ensures, c.in_ok-of.ensures, c.in_ok-generator.ensures, c.as_gen.ensures) (record {
      fit = record {
        clients = kept.fit.clients;
        ops = kept.fit.ops;
        rows = kept.fit.rows;
        generator = kept.fit.generator;
        steps = fits;
      };
      calm = kept.calm;
      few = c.entries.ensures.few;
    })
