use Rattle.std.proofs.Common.{rules, ◌≡◌, ◌∙◌, sym, ap, ◌<◌, true}
use Rattle.std.specs.Prelude.{is_some}
use Rattle.jh_edn.specs.Edn.{size_of, size_list}
use Rattle.jh_edn.specs.View.{view, views}
use Rattle.jh_gen.specs.GeneratorText as rule
use Rattle.jh_gen.specs.Generator.{seq, mix, phases, reserve}
use Rattle.jh_gen.specs.ShapeInside.{parsed_members, operand_of, parsed_reserve, parsed_shape}
use Rattle.jh_gen.proofs.TextLemmas.{members_judged, part_falls, reserved_judged, some_map, two_first}
use Rattle.jh_gen.proofs.text.+judge.Goals as goal

pub are_generators-is_generator-requires : goal.are_generators-is_generator-requires
are_generators-is_generator-requires t c =
    let smaller : size_of (view c.part-item.result) < size_list (views c.args.parts.now) = part_falls c.args.parts.now c.loop-part.part-index c.part-item.result c.loop-part-test.true c.part-item.is in
    search rules

pub are_generators-loop-part-preserved : goal.are_generators-loop-part-preserved
are_generators-loop-part-preserved t c =
    members_judged c.args.parts.now c.loop-part.part-index c.part-item.result c.loop-part.invariant c.loop-part-test.true c.part-item.is (sym c.is_generator.ensures ∙ c.if-not-is_generator.false)

pub are_reserved-loop-rest-preserved : goal.are_reserved-loop-rest-preserved
are_reserved-loop-rest-preserved t c =
    let number : is_some (rule.number_in (operand_of (view c.number-item.result))) ≡ true = search rules in
    let next = reserved_judged c.args.parts.now c.loop-rest.rest.now _ c.number-item.result c.part-item.result
    (two_first c.loop-rest.rest.now c.number-item.result c.part-item.result c.in-len2-up.len_at_least c.number-item.is c.part-item.is)
    c.loop-rest.invariant.same c.loop-rest.invariant.smaller number (sym c.is_generator.ensures ∙ c.if-not-is_generator.false) in
    record { same = next.same; smaller = next.smaller }

pub is_generator-returns-in-Seq : goal.is_generator-returns-in-Seq
is_generator-returns-in-Seq t c =
    c.are_generators.ensures ∙ sym (some_map seq (parsed_members (views c.in-Seq.parts.now)))
    ∙ ap (λ s. is_some (parsed_shape s)) (sym c.in-Seq.is) ∙ ap is_some c.in-Some.ensures.parsed

pub is_generator-returns-in-Mix : goal.is_generator-returns-in-Mix
is_generator-returns-in-Mix t c =
    c.are_generators-in-Mix.ensures ∙ sym (some_map mix (parsed_members (views c.in-Mix.parts.now)))
    ∙ ap (λ s. is_some (parsed_shape s)) (sym c.in-Mix.is) ∙ ap is_some c.in-Some.ensures.parsed

pub is_generator-returns-in-Phases : goal.is_generator-returns-in-Phases
is_generator-returns-in-Phases t c =
    c.are_generators-in-Phases.ensures ∙ sym (some_map phases (parsed_members (views c.in-Phases.parts.now)))
    ∙ ap (λ s. is_some (parsed_shape s)) (sym c.in-Phases.is) ∙ ap is_some c.in-Some.ensures.parsed

pub is_generator-returns-in-Reserve : goal.is_generator-returns-in-Reserve
is_generator-returns-in-Reserve t c =
    c.are_reserved.ensures ∙ sym (some_map (λ r. reserve r.0 r.1) (parsed_reserve (views c.in-Reserve.parts.now)))
    ∙ ap (λ s. is_some (parsed_shape s)) (sym c.in-Reserve.is) ∙ ap is_some c.in-Some.ensures.parsed
