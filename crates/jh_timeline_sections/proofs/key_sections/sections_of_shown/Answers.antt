use Rattle.std.proofs.Common.{◌≡◌, sym, subst, rules}
use Rattle.jh_timeline_sections.specs.ShownKeysInside.{AreMade}
use Rattle.jh_timeline_sections.proofs.KeyLemmas.{none_made, one_made}
use Rattle.jh_timeline_sections.proofs.key_sections.sections_of_shown.Goals as goal

pub loop-one-init : goal.loop-one-init
loop-one-init c =
    let shown = c.args.shown.items in
    let all : c.into_iter-one-iterator.result.rest.items ≡ shown = search rules in
    subst (λ rest. AreMade c.args.choice shown rest c.in_ok-sections.sections.items) (sym all)
    (subst (AreMade c.args.choice shown shown) (sym c.in_ok-sections.ensures.items) (none_made c.args.choice shown))

pub loop-one-preserved : goal.loop-one-preserved
loop-one-preserved c =
    let choice = c.args.choice in
    let rest = c.next.new.self.rest.items in
    subst (AreMade choice c.args.shown.items rest) (sym c.in_ok-push.ensures.items)
    (one_made choice c.args.shown.items c.in-Some.one rest c.loop-one.sections.items c.in_ok-section_of_shown.field-0
    (subst (λ rest. AreMade choice c.args.shown.items rest c.loop-one.sections.items) c.in-Some.ensures.steps.0 c.loop-one.invariant) c.in_ok-section_of_shown.ensures)
