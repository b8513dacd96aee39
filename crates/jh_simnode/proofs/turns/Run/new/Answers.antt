use Rattle.std.proofs.Common.{◌≡◌, get_or, replicate, length, refl, ap, ◌∙◌, rules}
use Rattle.std.proofs.lemmas.List.{get_or-replicate}
use Rattle.rand_pcg.specs.Lcg.{started, increment_of}
use Rattle.rand_pcg.specs.Pcg.{multiplier_128}
use Rattle.jh_simnode.specs.Runs.{random_numbers_after}
use Rattle.jh_simnode.proofs.turns.Run.new.Goals as goal

pub returns-clause-first : goal.returns-clause-first
unfolding random_numbers_after
returns-clause-first c =
    let n = c.args.plan.now.clients in
    let items : c.in_ok-vec.field-0.items ≡ replicate c.clients.result 0 = search rules in
    let zeros : c.in_ok-vec.field-0.items ≡ replicate n 0 = items ∙ ap (λ k. replicate k 0) c.clients.ensures.clients in
    let long : length c.in_ok-vec.field-0.items ≡ n = search rules in
    record {
      keeps = record {
        driver = λ _. c.in_ok-driver_of.ensures.driver;
        random_numbers = c.new.ensures ∙ ap (λ s. started 128 multiplier_128 s (increment_of 128 0)) (c.from.ensures ∙ c.seed.ensures);
        counts = record {
          long = long;
          calls = λ t small. ap (λ l. get_or l t 0) zeros ∙ get_or-replicate n t 0 0 small;
          answered = refl;
          applied = refl;
        };
        asks = refl;
        waits = refl;
        ended = refl;
        few = λ _. search rules;
      };
    }
