use Rattle.std.proofs.Common.{rules, ◌≡◌, ◌∙◌, sym, ap, subst, ◌<◌, ◌+◌, ◌-◌, [], ◌∷◌, ◌++◌, length, take, drop}
use Rattle.std.specs.Prelude.{Some}
use Rattle.jh_edn.specs.Edn.{size_of, size_list}
use Rattle.jh_edn.specs.View.{view, views}
use Rattle.jh_gen.specs.Generator.{reserve, row_of, share_list}
use Rattle.jh_gen.specs.GeneratorText as rule
use Rattle.jh_gen.specs.View.{generators_of}
use Rattle.jh_gen.specs.ShapeInside.{AreMembersSoFar, operand_of}
use Rattle.jh_gen.proofs.BuildLemmas.{no_more}
use Rattle.jh_gen.proofs.TextLemmas.{SharesRead, members_all, members_read, part_falls, reserve_all, shares_read, two_first}
use Rattle.jh_gen.proofs.text.+read.Goals as goal

pub members_in-gen_in-requires : goal.members_in-gen_in-requires
members_in-gen_in-requires t c =
    let smaller : size_of (view c.part-item.result) < size_list (views c.args.parts.now) = part_falls c.args.parts.now c.loop-part.part-index c.part-item.result c.loop-part-test.true c.part-item.is in
    search rules

pub members_in-loop-part-preserved : goal.members_in-loop-part-preserved
members_in-loop-part-preserved t c =
    subst (λ made. AreMembersSoFar (row_of (generators_of made)) (views (drop (c.loop-part.part-index + 1) c.args.parts.now)) (views c.args.parts.now)) (sym c.in_ok-push.ensures.items)
    (members_read c.loop-part.members.items c.in_ok-gen_in.field-0 c.args.parts.now c.loop-part.part-index c.part-item.result c.loop-part.invariant c.loop-part-test.true c.part-item.is c.in_ok-gen_in.ensures)

pub members_in-returns : goal.members_in-returns
members_in-returns t c =
    members_all c.loop-part.members.items c.args.parts.now _ c.loop-part.invariant (no_more _ _ c.loop-part-test.false) ∙ ap (λ gs. Some (row_of gs)) (sym c.of.ensures)

pub reserve_in-loop-rest-preserved : goal.reserve_in-loop-rest-preserved
reserve_in-loop-rest-preserved t c =
    let rest = c.loop-rest.rest.now in
    let later = take (length rest - 2) (drop 2 rest) in
    let number : rule.number_in (operand_of (view c.number-item.result)) ≡ Some c.in-Some.count = search rules in
    let next : SharesRead (c.loop-rest.shares.items ++ (c.in-Some.count, c.in_ok-gen_in.field-0) ∷ []) c.args.parts.now later =
    shares_read c.loop-rest.shares.items c.in-Some.count c.in_ok-gen_in.field-0 c.args.parts.now rest later c.number-item.result c.part-item.result
    (two_first rest c.number-item.result c.part-item.result c.in-len2-up.len_at_least c.number-item.is c.part-item.is)
    c.loop-rest.invariant.so_far c.loop-rest.invariant.smaller number c.in_ok-gen_in.ensures in
    let now : SharesRead c.push.new.self.items c.args.parts.now later = subst (λ made. SharesRead made c.args.parts.now later) (sym c.in_ok-push.ensures.items) next in
    record { so_far = now.so_far; smaller = now.smaller }

pub reserve_in-returns-in_ok-inner_in-in-len1 : goal.reserve_in-returns-in_ok-inner_in-in-len1
reserve_in-returns-in_ok-inner_in-in-len1 t c =
    reserve_all c.loop-rest.shares.items c.in_ok-inner_in-in-len1.field-0 c.args.parts.now c.loop-rest.rest.now c.inner-item.result c.loop-rest.invariant.so_far c.in-len1.len_at_least c.in_default.len_below c.inner-item.is c.in_ok-inner_in-in-len1.ensures
    ∙ ap (λ ms. Some (reserve (share_list ms) c.in_ok-inner_in-in-len1.field-0)) (sym c.of.ensures)
