use Rattle.std.proofs.Common.{rules, ◌≡◌, ◌+◌, ◌<◌, length, true, false, get_or, take, subst, sym, [], ◌∷◌, ◌++◌}
use Rattle.std.specs.Prelude.{filter, cond}
use Rattle.std.proofs.lemmas.List.Elements.{filter_more}
use Rattle.jh_step_texts.specs.Kinds.{fault_kinds}
use Rattle.jh_random_faults.specs.Kinds.{is_drawn, kinds_drawn}
use Rattle.jh_step_texts.specs.declared.kinds.FaultKind.TheVariants.{Cut}
use Rattle.jh_random_faults.specs.Named.{HaveNamed}
use Rattle.jh_random_faults.proofs.KindLemmas.{drawn_named}
use Rattle.jh_random_faults.proofs.kinds.kinds_of.Goals as goal
use Rattle.jh_random_faults.proofs.kinds.kinds_of.Goals.{then-is_drawn+in_ok-push, else-is_drawn}

pub loop-kind-preserved : goal.loop-kind-preserved
loop-kind-preserved c =
    let p = is_drawn c.args.palette c.args.count in
    let i = c.loop-kind.kind-index in
    let kind = get_or fault_kinds i Cut in
    let below : i < length fault_kinds = c.loop-kind-test.true in
    let more : filter p (take (i + 1) fault_kinds) ≡ filter p (take i fault_kinds) ++ cond (p kind) (kind ∷ []) [] = filter_more p fault_kinds i Cut below in
    elim c.if-is_drawn.branch [
      | then-is_drawn+in_ok-push w ↦ (let yes : p kind ≡ true = search rules in search (rules, more, yes))
      | else-is_drawn w ↦ (let no : p kind ≡ false = search rules in search (rules, more, no))
    ]

pub returns-clause-named : goal.returns-clause-named
returns-clause-named c =
    let is : c.loop-kind.kinds.items ≡ kinds_drawn c.args.palette c.args.count = search rules in
    subst (HaveNamed c.args.count) (sym is) (drawn_named c.args.palette c.args.count)
