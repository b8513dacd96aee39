use Rattle.std.proofs.Common.{◌≡◌, ◌∙◌, ◌+◌, [], add-one, arith, length, refl, rules, subst, sym}
use Rattle.std.proofs.lemmas.List.{append-nil}
use Rattle.jh_env.specs.Overlay.{StandsWith}
use Rattle.jh_tables.specs.Standing.{AreInOrder}
use Rattle.jh_nemesis.specs.AcceptedInside.{active_after, accepted_at, faults_with_stamps, IsRight}
use Rattle.jh_nemesis.specs.declared.accepted.AcceptedStep.TheVariants.{Begun, Withdrawn, WithdrawnAll}
use Rattle.jh_nemesis.proofs.EffectLemmas.{after_order, all_begins, all_size, begun_fits, begun_room, begun_size, begun_stamped, first, last, step_read, withdrawn_after, withdrawn_before, withdrawn_begin, withdrawn_size}
use Rattle.jh_nemesis.proofs.effects.apply_to_environment.Goals as goal

pub put_begun-requires : goal.put_begun-requires
put_begun-requires c =
    let at : accepted_at c.args.accepted.now c.args.index ≡ Begun c.in-Begun.field-0 c.in-Begun.field-1 =
    step_read c.args.accepted.now c.args.index c.index-accepted-index.result c.requires.known c.index-accepted-index.is ∙ c.in-Begun.is in
    record {
      begin = search rules;
      few = search rules;
      fits = begun_fits (length c.args.env.now.names) c.args.accepted.now c.requires.right c.args.index c.requires.known c.in-Begun.field-0 c.in-Begun.field-1 at;
      room = begun_room (length c.args.env.now.names) c.args.accepted.now c.requires.right c.args.index c.requires.known c.in-Begun.field-0 c.in-Begun.field-1 at c.args.env.now.laid c.requires.stands.laid;
    }

pub take_begun-requires : goal.take_begun-requires
take_begun-requires c =
    let at : accepted_at c.args.accepted.now c.args.index ≡ Withdrawn c.in-Withdrawn.stamp =
    step_read c.args.accepted.now c.args.index c.index-accepted-index.result c.requires.known c.index-accepted-index.is ∙ c.in-Withdrawn.is in
    record {
      begin = withdrawn_begin (length c.args.env.now.names) c.args.accepted.now c.requires.right c.args.index c.requires.known c.in-Withdrawn.stamp at;
      few = search rules;
      stands = (first (length c.args.env.now.names) c.args.accepted.now c.requires.right c.args.index c.requires.known c.in-Withdrawn.stamp at, last (length c.args.env.now.names) c.args.accepted.now c.requires.right c.args.index c.requires.known c.in-Withdrawn.stamp at, subst (StandsWith c.args.env.now) (withdrawn_before (length c.args.env.now.names) c.args.accepted.now c.requires.right c.args.index c.requires.known c.in-Withdrawn.stamp at) c.requires.stands);
    }

pub take_each-requires : goal.take_each-requires
take_each-requires c =
    let at : accepted_at c.args.accepted.now c.args.index ≡ WithdrawnAll c.in-WithdrawnAll.stamps =
    step_read c.args.accepted.now c.args.index c.index-accepted-index.result c.requires.known c.index-accepted-index.is ∙ c.in-WithdrawnAll.is in
    let is : c.deref.result.now ≡ active_after c.args.accepted.now c.args.index = c.deref.ensures.value ∙ subst (IsRight (length c.args.env.now.names) c.args.accepted.now c.args.index) at (c.requires.right c.args.index c.requires.known) in
    let none : active_after c.args.accepted.now (c.args.index + 1) ≡ [] = rw (add-one c.args.index, at) refl in
    record {
      begins = all_begins (length c.args.env.now.names) c.args.accepted.now c.requires.right c.args.index c.requires.known c.deref.result.now is none;
      few = search rules;
      stands = subst (λ stamps. StandsWith c.args.env.now (faults_with_stamps c.args.accepted.now stamps)) (sym is) c.requires.stands;
    }

pub returns-in-Begun : goal.returns-in-Begun
returns-in-Begun c =
    let at : accepted_at c.args.accepted.now c.args.index ≡ Begun c.in-Begun.field-0 c.in-Begun.field-1 =
    step_read c.args.accepted.now c.args.index c.index-accepted-index.result c.requires.known c.index-accepted-index.is ∙ c.in-Begun.is in
    let before = faults_with_stamps c.args.accepted.now (active_after c.args.accepted.now c.args.index) in
    record {
      stands = subst (StandsWith c.put_begun.new.env) (sym (begun_stamped (length c.args.env.now.names) c.args.accepted.now c.requires.right c.args.index c.requires.known c.in-Begun.field-0 c.in-Begun.field-1 at))
          (c.put_begun.ensures.stands before [] (subst AreInOrder (begun_stamped (length c.args.env.now.names) c.args.accepted.now c.requires.right c.args.index c.requires.known c.in-Begun.field-0 c.in-Begun.field-1 at) (after_order (length c.args.env.now.names) c.args.accepted.now c.requires.right c.args.index c.requires.known))
          (subst (StandsWith c.args.env.now) (sym (append-nil before)) c.requires.stands));
      kept = search rules;
      work = omega (arith, c.put_begun.ensures.work, begun_size (length c.args.env.now.names) c.args.accepted.now c.requires.right c.args.index c.requires.known c.in-Begun.field-0 c.in-Begun.field-1 at);
    }

pub returns-in-Withdrawn : goal.returns-in-Withdrawn
returns-in-Withdrawn c =
    let at : accepted_at c.args.accepted.now c.args.index ≡ Withdrawn c.in-Withdrawn.stamp =
    step_read c.args.accepted.now c.args.index c.index-accepted-index.result c.requires.known c.index-accepted-index.is ∙ c.in-Withdrawn.is in
    record {
      stands = subst (StandsWith c.take_begun.new.env) (sym (withdrawn_after (length c.args.env.now.names) c.args.accepted.now c.requires.right c.args.index c.requires.known c.in-Withdrawn.stamp at))
          (c.take_begun.ensures.stands (first (length c.args.env.now.names) c.args.accepted.now c.requires.right c.args.index c.requires.known c.in-Withdrawn.stamp at) (last (length c.args.env.now.names) c.args.accepted.now c.requires.right c.args.index c.requires.known c.in-Withdrawn.stamp at) (subst (StandsWith c.args.env.now) (withdrawn_before (length c.args.env.now.names) c.args.accepted.now c.requires.right c.args.index c.requires.known c.in-Withdrawn.stamp at) c.requires.stands));
      kept = search rules;
      work = omega (arith, c.take_begun.ensures.work, withdrawn_size (length c.args.env.now.names) c.args.accepted.now c.requires.right c.args.index c.requires.known c.in-Withdrawn.stamp at);
    }

pub returns-in-WithdrawnAll : goal.returns-in-WithdrawnAll
returns-in-WithdrawnAll c =
    let at : accepted_at c.args.accepted.now c.args.index ≡ WithdrawnAll c.in-WithdrawnAll.stamps =
    step_read c.args.accepted.now c.args.index c.index-accepted-index.result c.requires.known c.index-accepted-index.is ∙ c.in-WithdrawnAll.is in
    let is : c.deref.result.now ≡ active_after c.args.accepted.now c.args.index = c.deref.ensures.value ∙ subst (IsRight (length c.args.env.now.names) c.args.accepted.now c.args.index) at (c.requires.right c.args.index c.requires.known) in
    let none : active_after c.args.accepted.now (c.args.index + 1) ≡ [] = rw (add-one c.args.index, at) refl in
    record {
      stands = rw none c.take_each.ensures.stands;
      kept = search rules;
      work = omega (arith, c.take_each.ensures.work, all_size (length c.args.env.now.names) c.args.accepted.now c.requires.right c.args.index c.requires.known c.deref.result.now is none);
    }
