use Rattle.std.proofs.Common.{◌≡◌, ◌∷◌, [], sym, ap, subst, length, map, rules, arith, inl, inr, Some}
use Rattle.std.proofs.lemmas.List.{length-map, nil_from_length}
use Rattle.std.proofs.lemmas.Slice.Zip.{AllZip-long}
use Rattle.jh_ops.specs.Operation.{operations}
use Rattle.jh_timeline_sections.specs.ShownKeysInside.{AreJoined, IsKeyOf}
use Rattle.jh_timeline_sections.specs.KeySections.{key_found, keys_found}
use Rattle.jh_timeline_sections.proofs.KeyLemmas.{all_joined, none_judged, one_joined}
use Rattle.jh_timeline_sections.proofs.key_sections.judged_shown_keys.Goals as goal

pub loop-finding-init : goal.loop-finding-init
loop-finding-init c =
    let history = operations c.args.history.now in
    let findings = c.args.findings.items in
    let others = c.in_ok-histories.histories.items in
    let keys = keys_found history (Some findings) in
    let first : c.into_iter-finding-iterator.result.a.rest.items ≡ findings = search rules in
    let second : c.into_iter-finding-iterator.result.b.rest.items ≡ others = search rules in
    subst (λ shown. AreJoined history keys shown (map key_found c.into_iter-finding-iterator.result.a.rest.items) c.into_iter-finding-iterator.result.b.rest.items) (sym c.in_ok-shown.ensures.items)
    (subst (λ left. AreJoined history keys [] (map key_found left) c.into_iter-finding-iterator.result.b.rest.items) (sym first)
    (subst (λ left. AreJoined history keys [] (map key_found findings) left) (sym second)
    (none_judged history findings others c.requires c.in_ok-histories.ensures.1)))

pub loop-finding-preserved : goal.loop-finding-preserved
loop-finding-preserved c =
    let history = operations c.args.history.now in
    let keys = keys_found history (Some c.args.findings.items) in
    let shown = c.loop-finding.shown.items in
    let left = c.next.new.self.a.rest.items in
    let others = c.next.new.self.b.rest.items in
    let steps = c.in-Some.ensures.steps in
    let here : AreJoined history keys shown (key_found c.in-Some.finding ∷ map key_found left) (c.in-Some.own ∷ others) =
    subst (λ fs. AreJoined history keys shown (map key_found fs) (c.in-Some.own ∷ others)) steps.0.0
    (subst (λ hs. AreJoined history keys shown (map key_found c.loop-finding.finding-iterator.a.rest.items) hs) steps.1.0 c.loop-finding.invariant) in
    subst (λ shown. AreJoined history keys shown (map key_found left) others) (sym c.in_ok-push.ensures.items)
    (one_joined history keys shown (key_found c.in-Some.finding) (map key_found left) c.in-Some.own others _ here c.judged_shown_key.ensures.key c.judged_shown_key.ensures.history c.judged_shown_key.ensures.found)

pub returns : goal.returns
returns c =
    let history = operations c.args.history.now in
    let findings = c.loop-finding.finding-iterator.a.rest in
    let others = c.loop-finding.finding-iterator.b.rest in
    let size : length others.items ≡ length (map key_found findings.items) = AllZip-long (IsKeyOf history) (map key_found findings.items) others.items c.loop-finding.invariant.beside in
    let both : length (map key_found findings.items) ≡ length findings.items = length-map findings.items key_found in
    let none : length findings.items ≡ 0 = elim c.in-None.ensures.steps [
      | inl one ↦ omega (arith, one.1.0, findings.ok)
      | inr one ↦ omega (arith, one.1.0, others.ok, size, both)
    ] in
    all_joined history (Some c.args.findings.items) c.loop-finding.shown.items (map key_found findings.items) others.items c.in_ok-histories.ensures.0
    (ap (map key_found) (nil_from_length findings.items none)) c.loop-finding.invariant
