use Rattle.std.proofs.Common.{◌<◌, rules, arith, length}
use Rattle.std.proofs.lemmas.Grind.{common_steps}
use Rattle.std.proofs.lemmas.List.Elements.{All-push}
use Rattle.jh_env.proofs.NameLemmas.{place_push}
use Rattle.jh_env.proofs.names.Nodes.all.Goals as goal

pub loop-place-preserved : goal.loop-place-preserved
loop-place-preserved c =
    let count = length c.args.self.now in
    let below : c.at.result < count = rw c.at.ensures (omega (arith, c.loop-place-test.true, c.len-place-end.ensures.len, c.len-place-end.ensures.bounded)) in
    record {
      all = grind (arith, common_steps, place_push c.loop-place.place);
      count = search rules;
      known = rw c.push.ensures.items (All-push (λ n. n < count) c.loop-place.all.items c.at.result c.loop-place.invariant.known below);
    }
