use Rattle.std.proofs.Common.{◌≡◌, ◌∙◌, ◌+◌, [], add-one, arith, length, refl, rules, subst, sym}
use Rattle.std.proofs.lemmas.List.{append-nil}
use Rattle.jh_env.specs.Overlay.{StandsWith}
use Rattle.jh_tables.specs.Standing.{AreInOrder}
use Rattle.jh_nemesis.specs.AcceptedInside.{active_after, accepted_at, faults_with_stamps, IsRight}
use Rattle.jh_nemesis.specs.declared.accepted.AcceptedStep.TheVariants.{Begun, Withdrawn, WithdrawnAll}
use Rattle.jh_nemesis.proofs.EffectLemmas.{all_begins, all_few, all_fit, all_rise, all_size, before_order, begun_size, begun_stamped, first, last, step_read, withdrawn_after, withdrawn_before, withdrawn_begin, withdrawn_fits, withdrawn_room, withdrawn_size}
use Rattle.jh_nemesis.proofs.effects.revert_in_environment.Goals as goal

pub take_begun-requires-clause-stands : goal.take_begun-requires-clause-stands
take_begun-requires-clause-stands c =
    let at : accepted_at c.args.accepted.now c.args.index ≡ Begun c.in-Begun.field-0 c.in-Begun.field-1 =
    step_read c.args.accepted.now c.args.index c.index-accepted-index.result c.requires.known c.index-accepted-index.is ∙ c.in-Begun.is in
    (faults_with_stamps c.args.accepted.now (active_after c.args.accepted.now c.args.index), [], subst (StandsWith c.args.env.now) (begun_stamped (length c.args.env.now.names) c.args.accepted.now c.requires.right c.args.index c.requires.known c.in-Begun.field-0 c.in-Begun.field-1 at) c.requires.stands)

pub put_begun-requires : goal.put_begun-requires
put_begun-requires c =
    let at : accepted_at c.args.accepted.now c.args.index ≡ Withdrawn c.in-Withdrawn.stamp =
    step_read c.args.accepted.now c.args.index c.index-accepted-index.result c.requires.known c.index-accepted-index.is ∙ c.in-Withdrawn.is in
    record {
      begin = withdrawn_begin (length c.args.env.now.names) c.args.accepted.now c.requires.right c.args.index c.requires.known c.in-Withdrawn.stamp at;
      few = search rules;
      fits = withdrawn_fits (length c.args.env.now.names) c.args.accepted.now c.requires.right c.args.index c.requires.known c.in-Withdrawn.stamp at;
      room = withdrawn_room (length c.args.env.now.names) c.args.accepted.now c.requires.right c.args.index c.requires.known c.in-Withdrawn.stamp at c.args.env.now.laid c.requires.stands.laid;
    }

pub put_each-requires : goal.put_each-requires
put_each-requires c =
    let at : accepted_at c.args.accepted.now c.args.index ≡ WithdrawnAll c.in-WithdrawnAll.stamps =
    step_read c.args.accepted.now c.args.index c.index-accepted-index.result c.requires.known c.index-accepted-index.is ∙ c.in-WithdrawnAll.is in
    let is : c.deref.result.now ≡ active_after c.args.accepted.now c.args.index = c.deref.ensures.value ∙ subst (IsRight (length c.args.env.now.names) c.args.accepted.now c.args.index) at (c.requires.right c.args.index c.requires.known) in
    let none : active_after c.args.accepted.now (c.args.index + 1) ≡ [] = rw (add-one c.args.index, at) refl in
    record {
      begins = all_begins (length c.args.env.now.names) c.args.accepted.now c.requires.right c.args.index c.requires.known c.deref.result.now is none;
      few = (c.requires.few, all_few (length c.args.env.now.names) c.args.accepted.now c.requires.right c.args.index c.requires.known c.deref.result.now is none);
      fit = all_fit (length c.args.env.now.names) c.args.accepted.now c.requires.right c.args.index c.requires.known c.deref.result.now is none;
      rise = all_rise (length c.args.env.now.names) c.args.accepted.now c.requires.right c.args.index c.requires.known c.deref.result.now is none;
      stands = subst (λ active. StandsWith c.args.env.now (faults_with_stamps c.args.accepted.now active)) none c.requires.stands;
    }

pub returns-in-Begun : goal.returns-in-Begun
returns-in-Begun c =
    let at : accepted_at c.args.accepted.now c.args.index ≡ Begun c.in-Begun.field-0 c.in-Begun.field-1 =
    step_read c.args.accepted.now c.args.index c.index-accepted-index.result c.requires.known c.index-accepted-index.is ∙ c.in-Begun.is in
    let before = faults_with_stamps c.args.accepted.now (active_after c.args.accepted.now c.args.index) in
    record {
      stands = subst (StandsWith c.take_begun.new.env) (append-nil before)
          (c.take_begun.ensures.stands before [] (subst (StandsWith c.args.env.now) (begun_stamped (length c.args.env.now.names) c.args.accepted.now c.requires.right c.args.index c.requires.known c.in-Begun.field-0 c.in-Begun.field-1 at) c.requires.stands));
      kept = search rules;
      work = omega (arith, c.take_begun.ensures.work, begun_size (length c.args.env.now.names) c.args.accepted.now c.requires.right c.args.index c.requires.known c.in-Begun.field-0 c.in-Begun.field-1 at);
    }

pub returns-in-Withdrawn : goal.returns-in-Withdrawn
returns-in-Withdrawn c =
    let at : accepted_at c.args.accepted.now c.args.index ≡ Withdrawn c.in-Withdrawn.stamp =
    step_read c.args.accepted.now c.args.index c.index-accepted-index.result c.requires.known c.index-accepted-index.is ∙ c.in-Withdrawn.is in
    record {
      stands = subst (StandsWith c.put_begun.new.env) (sym (withdrawn_before (length c.args.env.now.names) c.args.accepted.now c.requires.right c.args.index c.requires.known c.in-Withdrawn.stamp at))
          (c.put_begun.ensures.stands (first (length c.args.env.now.names) c.args.accepted.now c.requires.right c.args.index c.requires.known c.in-Withdrawn.stamp at) (last (length c.args.env.now.names) c.args.accepted.now c.requires.right c.args.index c.requires.known c.in-Withdrawn.stamp at) (subst AreInOrder (withdrawn_before (length c.args.env.now.names) c.args.accepted.now c.requires.right c.args.index c.requires.known c.in-Withdrawn.stamp at) (before_order (length c.args.env.now.names) c.args.accepted.now c.requires.right c.args.index c.requires.known))
          (subst (StandsWith c.args.env.now) (withdrawn_after (length c.args.env.now.names) c.args.accepted.now c.requires.right c.args.index c.requires.known c.in-Withdrawn.stamp at) c.requires.stands));
      kept = search rules;
      work = omega (arith, c.put_begun.ensures.work, withdrawn_size (length c.args.env.now.names) c.args.accepted.now c.requires.right c.args.index c.requires.known c.in-Withdrawn.stamp at);
    }

pub returns-in-WithdrawnAll : goal.returns-in-WithdrawnAll
returns-in-WithdrawnAll c =
    let at : accepted_at c.args.accepted.now c.args.index ≡ WithdrawnAll c.in-WithdrawnAll.stamps =
    step_read c.args.accepted.now c.args.index c.index-accepted-index.result c.requires.known c.index-accepted-index.is ∙ c.in-WithdrawnAll.is in
    let is : c.deref.result.now ≡ active_after c.args.accepted.now c.args.index = c.deref.ensures.value ∙ subst (IsRight (length c.args.env.now.names) c.args.accepted.now c.args.index) at (c.requires.right c.args.index c.requires.known) in
    let none : active_after c.args.accepted.now (c.args.index + 1) ≡ [] = rw (add-one c.args.index, at) refl in
    record {
      stands = subst (λ stamps. StandsWith c.put_each.new.env (faults_with_stamps c.args.accepted.now stamps)) is c.put_each.ensures.stands;
      kept = search rules;
      work = omega (arith, c.put_each.ensures.work, all_size (length c.args.env.now.names) c.args.accepted.now c.requires.right c.args.index c.requires.known c.deref.result.now is none);
    }
