use Rattle.std.proofs.Common.{◌+◌, refl, ap, arith}
use Rattle.std.specs.Prelude.{set}
use Rattle.std.proofs.lemmas.List.{get_or_read}
use Rattle.jh_linear.proofs.PlacingLemmas.{stands_unknown}
use Rattle.jh_linear.proofs.config.place_unknown.Goals as goal

pub returns : goal.returns
returns c =
    let next = c.args.config.now.next.items in
    stands_unknown c.args.problem.now c.requires.problem c.args.config.now _ c.args.class c.args.value c.requires.stage c.requires.there c.requires.allowed refl refl
    (ap (λ n. set next c.args.class (n + 1)) (get_or_read next c.args.class _ (omega arith) c.index_mut.ensures.value 0)) refl
