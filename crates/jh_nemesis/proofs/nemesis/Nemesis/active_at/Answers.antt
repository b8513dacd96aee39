use Rattle.std.proofs.Common.{◌≡◌, ◌<◌, ◌∙◌, ap, sym, length, get_or, Some, subst}
use Rattle.std.proofs.lemmas.Bool.{ltb-true}
use Rattle.std.proofs.lemmas.List.{get_or_default}
use Rattle.jh_nemesis.specs.AcceptedInside.{IsBegin, accepted_at, begun_fault}
use Rattle.jh_nemesis.specs.declared.accepted.AcceptedStep.{AcceptedStep}
use Rattle.jh_nemesis.specs.declared.accepted.AcceptedStep.TheVariants.{Withdrawn}
use Rattle.jh_nemesis.proofs.AcceptedLemmas.{fault_read, not_begin}
use Rattle.jh_nemesis.proofs.CursorLemmas.{known_read}
use Rattle.jh_nemesis.proofs.nemesis.Nemesis.active_at.Goals as goal

pub index-requires : goal.index-requires
index-requires c =
    let a = c.self.inside in
    let stamp = c.in_ok-stamp.field-0.now in
    let below : c.args.place < length a.active.items =
    rw c.deref.ensures.0 at (ltb-true c.args.place (length c.deref.result.now) (sym c.in_ok-stamp.ensures.lookup.0)) in
    let at : stamp ≡ get_or a.active.items c.args.place stamp = rw c.deref.ensures.0 at c.in_ok-stamp.ensures.lookup.1 in
    rw a.accepted.ok.0 (known_read c.self.invariant c.args.place stamp below at).0

pub returns-in-Begun : goal.returns-in-Begun
returns-in-Begun c =
    let a = c.self.inside in
    let stamp = c.in_ok-stamp.field-0.now in
    let below : c.args.place < length a.active.items =
    rw c.deref.ensures.0 at (ltb-true c.args.place (length c.deref.result.now) (sym c.in_ok-stamp.ensures.lookup.0)) in
    let at : stamp ≡ get_or a.active.items c.args.place stamp = rw c.deref.ensures.0 at c.in_ok-stamp.ensures.lookup.1 in
    let known = (known_read c.self.invariant c.args.place stamp below at).0 in
    rw (← c.self.view_is)
    (ap (λ (step : AcceptedStep). Some (begun_fault step)) (sym c.in-Begun.is)
    ∙ fault_read a.accepted.items a.active.items c.args.place stamp c.index.result.now below at known c.index.ensures)

pub returns-in_default : goal.returns-in_default
returns-in_default c =
    let a = c.self.inside in
    let stamp = c.in_ok-stamp.field-0.now in
    let below : c.args.place < length a.active.items =
    rw c.deref.ensures.0 at (ltb-true c.args.place (length c.deref.result.now) (sym c.in_ok-stamp.ensures.lookup.0)) in
    let at : stamp ≡ get_or a.active.items c.args.place stamp = rw c.deref.ensures.0 at c.in_ok-stamp.ensures.lookup.1 in
    let known = known_read c.self.invariant c.args.place stamp below at in
    let read : accepted_at a.accepted.items stamp ≡ c.index.result.now =
    get_or_default a.accepted.items stamp (Withdrawn 0) c.index.result.now known.0 ∙ sym c.index.ensures in
    absurd (not_begin c.index.result.now (subst IsBegin read known.1) c.in_default.not-Begun)
