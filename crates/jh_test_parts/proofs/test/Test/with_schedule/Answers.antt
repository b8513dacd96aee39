use Rattle.std.proofs.Common.{◌≡◌, All, length, ap, subst, sym}
use Rattle.jh_env.specs.Overlay.{EnvValue}
use Rattle.jh_nemesis.specs.Steps.{FitsNodes}
use Rattle.jh_test_parts.specs.Test.{TestValue}
use Rattle.jh_test_parts.proofs.test.Test.with_schedule.Goals as goal

pub invariant_of-result : goal.invariant_of-result
invariant_of-result c =
    let kept = c.self.invariant in
    let start : c.args.self.now.start ≡ c.self.inside.environment = sym (ap (λ (t : TestValue). t.start) c.self.view_is) in
    let fit = subst (λ (env : EnvValue). All (λ entry. FitsNodes (length env.names) entry.step) c.args.schedule.items) start c.requires.fit in
    rw (c.in_ok-copy.ensures, c.in_ok-copied.ensures, c.in_ok-copied_final.ensures) (record {
      fit = record {
        clients = kept.fit.clients;
        ops = kept.fit.ops;
        keys = kept.fit.keys;
        generator = kept.fit.generator;
        final = kept.fit.final;
        schedule = (c.requires.few, fit);
        transactions = kept.fit.transactions;
      };
      calm = kept.calm;
    })
