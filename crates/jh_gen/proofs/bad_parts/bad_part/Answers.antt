use Rattle.std.proofs.Common.{rules, ◌≡◌, ◌∙◌, sym}
use Rattle.jh_edn.specs.View.{view}
use Rattle.jh_gen.specs.BadPart.{IsStepInto}
use Rattle.jh_gen.specs.GeneratorText.{parsed_generator}
use Rattle.jh_gen.proofs.BadLemmas.{leads_none, led_on, none_of}
use Rattle.jh_gen.proofs.bad_parts.bad_part.Goals as goal

pub loop-step-init : goal.loop-step-init
loop-step-init c = record { leads = leads_none c.new-way.result.items (view c.args.value.now) (search rules); bad = none_of (parsed_generator (view c.args.value.now)) (sym c.is_generator.ensures ∙ c.if-is_generator.false) }

pub loop-step-preserved : goal.loop-step-preserved
loop-step-preserved c =
    let next : IsStepInto (view c.loop-step.part.now) c.in-Some.step (view c.in-Some.inner.now) = c.in-Some.ensures.next in
    let led = led_on c.loop-step.way.items c.push.new.self.items c.in-Some.step (view c.args.value.now) (view c.loop-step.part.now) (view c.in-Some.inner.now) c.loop-step.invariant.leads next c.in_ok-push.ensures.items in
    record { leads = led.leads; bad = led.bad }
