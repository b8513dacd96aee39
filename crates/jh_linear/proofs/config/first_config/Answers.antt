use Rattle.std.proofs.Common.{[], take, map, ap, sym, ◌∙◌, refl, subst, arith}
use Rattle.std.proofs.lemmas.Bool.{false≢true}
use Rattle.std.proofs.lemmas.List.{get_or_read}
use Rattle.jh_linear.specs.SearchInside.{IsAt, no_stage}
use Rattle.jh_linear.proofs.StageLemmas.{at_first}
use Rattle.jh_linear.proofs.NextLemmas.{next_first}
use Rattle.jh_linear.proofs.config.first_config.Goals as goal

pub returns-clause-stands : goal.returns-clause-stands
returns-clause-stands c =
    let p = c.args.problem.now in
    let h = p.sorted in
    let first = c.index.result.now in
    let is = get_or_read h.stages.items 0 first (omega arith) c.index.ensures no_stage in
    record {
      follows = refl;
      searched = λ number there. absurd (false≢true there);
      known = subst (λ xs. IsAt h.arrivals.items h.stages.items [] 0 xs) (sym (c.in_ok-happened.ensures.items ∙ ap (λ xs. take first.arrived xs) c.deref.ensures.value))
          (at_first p.ops.now h.arrivals.items h.stages.items c.requires.problem.done first.arrived (λ _. ap (λ s. s.arrived) is));
      used = next_first p.ops.now h.unsure_changes.items h.classes.items c.requires.problem.classes c.in_ok-next.next.items (c.in_ok-next.ensures ∙ ap (λ cs. map (λ class. class.from) cs) c.as_slice.ensures.value);
      low = omega arith;
      waits = λ _. refl;
    }
