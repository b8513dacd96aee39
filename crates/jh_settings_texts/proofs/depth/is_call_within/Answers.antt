use Rattle.std.proofs.Common.{rules, [], ◌∷◌, ◌<◌, ◌^◌, codes}
use Rattle.std.specs.Prelude.{pos}
use Rattle.jh_edn.specs.Edn.{int}
use Rattle.jh_settings_texts.proofs.NestingLemmas.{step_is, small_fits, vector_within}
use Rattle.jh_settings_texts.proofs.depth.is_call_within.Goals as goal

pub returns-in-Step : goal.returns-in-Step
returns-in-Step c =
    let below : c.in-Step._place < 2 ^ 32 = search rules in
    rw (c.in-Step.is) (vector_within (codes "step") (int (pos c.in-Step._place) ∷ []) c.args.depth step_is (small_fits c.in-Step._place below, tt))
