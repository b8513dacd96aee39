use Rattle.std.proofs.Common.{◌≡◌, ◌<◌, get_or, sym, length, true, ◌∙◌}
use Rattle.std.proofs.lemmas.List.{get_or-map, length-map, get_or_default}
use Rattle.std.proofs.lemmas.List.Folds.{list_any_at}
use Rattle.jh_nemesis.specs.State.{has_id}
use Rattle.jh_nemesis.specs.AcceptedInside.{faults_at, begun_fault, accepted_at}
use Rattle.jh_nemesis.specs.declared.accepted.AcceptedStep.TheVariants.{Withdrawn}
use Rattle.jh_nemesis.proofs.accepted.stamp_of.Goals as goal

pub returns-then-is_begin_of-clause-variant : goal.returns-then-is_begin_of-clause-variant
returns-then-is_begin_of-clause-variant c =
    let accepted = c.args.accepted.now in
    let stamps = c.args.stamps.now in
    let i = c.loop-stamp.stamp-index in
    let stamp = get_or stamps i 0 in
    let below : i < length stamps = c.loop-stamp-test.true in
    let step = c.index-accepted-stamp.result in
    let read : accepted_at accepted stamp ≡ step =
    get_or_default accepted stamp (Withdrawn 0) step (c.requires i 0 below).0 ∙ sym c.index-accepted-stamp.is in
    let begins : has_id c.args.id (begun_fault step) ≡ true = sym c.is_begin_of.ensures ∙ c.if-is_begin_of.true in
    let at = get_or-map (λ k. begun_fault (accepted_at accepted k)) stamps i 0 (begun_fault step) below in
    let within : i < length (faults_at accepted stamps) = rw (length-map stamps (λ k. begun_fault (accepted_at accepted k))) below in
    sym (list_any_at (has_id c.args.id) (faults_at accepted stamps) i (begun_fault step) within (rw (at, read) begins))
