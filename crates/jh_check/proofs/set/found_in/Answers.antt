use Rattle.std.proofs.Common.{◌≡◌, ap, ◌∙◌, map, true, false}
use Rattle.jh_edn.specs.Normal.{normal}
use Rattle.jh_edn.specs.View.{views}
use Rattle.jh_ops.specs.Operation.{operations}
use Rattle.jh_check.specs.Distinct.{distinct_values, set_of}
use Rattle.jh_check.specs.SetResults.{attempts, acknowledged_values}
use Rattle.jh_check.proofs.SearchLemmas.{kept_by, kept_by_sorted}
use Rattle.jh_check.proofs.set.found_in.Goals as goal

pub returns : goal.returns
returns c =
    let history = operations c.args.history.now in
    let set = set_of (map normal (views c.args.elements.now)) in
    let read : views c.each_once-read.result.items ≡ set = c.each_once-read.ensures.values ∙ ap distinct_values c.in_ok-sorted_normal.ensures.values in
    let kept = kept_by_sorted true _ c.deref.result.now c.deref-2.result.now set (attempts history) c.in_ok-ok.ensures
    (ap views c.deref.ensures.value ∙ read) (ap views c.deref-2.ensures.value ∙ c.in_ok-attempted.ensures.values) in
    let ok = c.of.ensures ∙ kept in
    let unexpected = c.of-3.ensures ∙ kept_by_sorted false _ c.deref-3.result.now c.deref-4.result.now set (attempts history) c.in_ok-unexpected.ensures
    (ap views c.deref-3.ensures.value ∙ read) (ap views c.deref-4.ensures.value ∙ c.in_ok-attempted.ensures.values) in
    let recovered = c.of-4.ensures ∙ kept_by_sorted false _ c.deref-5.result.now c.deref-6.result.now _ (acknowledged_values history) c.in_ok-recovered.ensures
    (ap views c.deref-5.ensures.value ∙ kept) (ap views c.deref-6.ensures.value ∙ c.in_ok-acknowledged.ensures.values) in
    let lost = c.of-2.ensures ∙ kept_by false _ c.deref-7.result.now c.deref-8.result.now (set_of (acknowledged_values history)) set c.in_ok-lost.ensures
    (ap views c.deref-7.ensures.value ∙ c.each_once.ensures.values ∙ ap distinct_values c.in_ok-acknowledged.ensures.values) (ap views c.deref-8.ensures.value ∙ read) in
    λ i. record { ok = ok i; lost = lost i; unexpected = unexpected i; recovered = recovered i }
