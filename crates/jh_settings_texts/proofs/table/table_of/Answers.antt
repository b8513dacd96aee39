use Rattle.std.proofs.Common.{length, subst, sym}
use Rattle.jh_env.specs.Names.{AreNodeNames, AreFew}
use Rattle.jh_env.specs.Overlay.{EnvValue, cells_of}
use Rattle.std.specs.Prelude.{◌≡◌}
use Rattle.jh_settings_texts.proofs.table.table_of.Goals as goal

pub put_schedule-requires-clause-named : goal.put_schedule-requires-clause-named
put_schedule-requires-clause-named c = subst AreNodeNames (sym c.nodes-nodes.ensures.names) c.nodes-nodes.ensures.named.1

pub returns-clause-known : goal.returns-clause-known
returns-clause-known c =
    let same = c.environment.ensures.environment in
    record {
      kept = c.in_ok-put_load.ensures.kept;
      start = record {
        few = subst (λ (env : EnvValue). AreFew env.names) same c.nodes-nodes.ensures.named.0;
        named = subst (λ (env : EnvValue). AreNodeNames env.names) same c.nodes-nodes.ensures.named.1;
        whole = subst (λ (env : EnvValue). length (cells_of env).nodes ≡ length env.names) same c.nodes-nodes.ensures.whole;
        links = c.requires.can.links;
        nodes = c.requires.can.nodes;
      };
      generator = c.in_ok-put_cluster.ensures.generator;
      steps = c.in_ok-put_schedule.ensures.over;
    }
