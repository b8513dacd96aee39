use Rattle.std.proofs.Common.{◌≡◌, subst, sym, inl, inr, arith}
use Rattle.std.proofs.lemmas.Bool.{cases_lt}
use Rattle.jh_linear.specs.WantedInside.{HoldsValue}
use Rattle.jh_linear.specs.SearchInside.{IsReady, Needs, source_call}
use Rattle.jh_linear.specs.declared.moves.Source.TheVariants.{NextOfClass}
use Rattle.jh_linear.proofs.wanted.put_unknown.Goals as goal

pub loop-class-preserved : goal.loop-class-preserved
loop-class-preserved c =
    let l = c.loop-class in
    let p = c.args.problem.now in
    let config = c.args.config.now in
    let put = c.in_ok-put_next.ensures in
    let new = c.put_next.new.wanted in
    record {
      so_far = λ k value lt ready needs. elim (cases_lt k l.class) as (λ _. HoldsValue new value) [
        | inl before ↦ put.more value (l.invariant.so_far k value before ready needs)
        | inr here ↦
            let is : l.class ≡ k = omega (arith, lt, here) in
            put.needs value (subst (IsReady p config) (sym is) ready) (subst (λ j. Needs (source_call p config (NextOfClass j)) value) (sym is) needs)
      ];
      more = λ value held. put.more value (l.invariant.more value held);
    }
