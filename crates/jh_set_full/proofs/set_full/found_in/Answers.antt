use Rattle.std.proofs.Common.{◌≡◌, ◌∙◌, sym, ap, subst, length, map, rules}
use Rattle.std.specs.Prelude.{All}
use Rattle.std.specs.List.{filter}
use Rattle.std.proofs.lemmas.List.{length-map}
use Rattle.jh_edn.specs.View.{view, views}
use Rattle.jh_ops.specs.Operation.{operations}
use Rattle.jh_ops.specs.Pairing.{IsPairWithin}
use Rattle.jh_check.specs.Distinct.{set_of}
use Rattle.jh_check.specs.Tallies.{view_counted, view_tally}
use Rattle.jh_check.specs.SetResults.{attempts}
use Rattle.jh_set_full.specs.SetFull.{all_shown, duplicates, is_lost, is_never_read, is_stable, is_stale, from_latest, most_shown, set_full_verdict, staleness, those_that}
use Rattle.jh_set_full.specs.Inside.{is_spot_in, repeated_by, spot_of, stale_by}
use Rattle.jh_set_full.specs.StaleView.{view_stale, view_stales}
use Rattle.jh_set_full.specs.declared.spots.State.TheVariants.{Lost, NeverRead, Stable, Stale}
use Rattle.jh_set_full.proofs.ResultLemmas.{repeated_are, stales_are, states_are}
use Rattle.jh_set_full.proofs.SpotLemmas.{latest_descends}
use Rattle.jh_set_full.proofs.set_full.found_in.Goals as goal

pub returns : goal.returns
returns c =
    let history = operations c.args.history.now in
    let n = length c.args.history.now in
    let ps = from_latest history in
    let tables = c.in_ok-tables.tables in
    let pairs : tables.pairs.items ≡ ps = c.in_ok-tables.ensures.pairs ∙ c.requires.from_latest in
    let down = latest_descends history in
    let within : All (IsPairWithin n) ps = subst (All (IsPairWithin n)) c.requires.from_latest c.requires.within in
    let xs = set_of (attempts history) in
    let elements : views c.in_ok-elements.elements.items ≡ xs = c.in_ok-elements.ensures in
    let stable : views c.in_ok-stable.stable.items ≡ those_that is_stable history ps xs =
    c.in_ok-stable.ensures
    ∙ (λ i. filter (λ x. is_spot_in Stable (spot_of history (pairs i) x)) ((ap views c.deref-2.ensures.value ∙ elements) i))
    ∙ states_are history n ps down within Stable xs in
    let lost : views c.in_ok-lost.lost.items ≡ those_that is_lost history ps xs =
    c.in_ok-lost.ensures
    ∙ (λ i. filter (λ x. is_spot_in Lost (spot_of history (pairs i) x)) ((ap views c.deref-3.ensures.value ∙ elements) i))
    ∙ states_are history n ps down within Lost xs in
    let never_read : views c.in_ok-never_read.never_read.items ≡ those_that is_never_read history ps xs =
    c.in_ok-never_read.ensures
    ∙ (λ i. filter (λ x. is_spot_in NeverRead (spot_of history (pairs i) x)) ((ap views c.deref-4.ensures.value ∙ elements) i))
    ∙ states_are history n ps down within NeverRead xs in
    let outdated : views c.in_ok-outdated.outdated.items ≡ filter (λ x. is_spot_in Stale (spot_of history ps x)) xs =
    c.in_ok-outdated.ensures
    ∙ (λ i. filter (λ x. is_spot_in Stale (spot_of history (pairs i) x)) ((ap views c.deref-5.ensures.value ∙ elements) i)) in
    let stale : view_stales c.in_ok-stale.stale.items ≡ map (staleness history ps) (those_that is_stale history ps xs) =
    c.in_ok-stale.ensures
    ∙ (λ i. map (stale_by history (pairs i)) ((ap views c.deref-6.ensures.value ∙ outdated) i))
    ∙ stales_are history n ps down within xs in
    let duplicated : view_tally c.in_ok-duplicated.duplicated.items ≡ duplicates history ps =
    c.in_ok-duplicated.ensures
    ∙ repeated_are history tables c.in_ok-tables.ensures.tables (views c.deref-7.result.now)
    ∙ (λ i. repeated_by (most_shown history (pairs i)) ((ap views c.deref-7.ensures.value ∙ c.in_ok-read.ensures ∙ ap (λ qs. set_of (all_shown history qs)) (c.deref.ensures.value ∙ c.requires.from_latest)) i)) in
    let len_lost : c.len.result ≡ length c.in_ok-lost.lost.items = search rules in
    let len_duplicated : c.len-2.result ≡ length c.in_ok-duplicated.duplicated.items = search rules in
    let len_stale : c.len-3.result ≡ length c.in_ok-stale.stale.items = search rules in
    let len_stable : c.len-4.result ≡ length c.in_ok-stable.stable.items = search rules in
    let len_all : c.len-5.result ≡ length c.in_ok-elements.elements.items = search rules in
    let len_stable_again : c.len-6.result ≡ length c.in_ok-stable.stable.items = search rules in
    let many_lost = len_lost ∙ sym (length-map c.in_ok-lost.lost.items view) ∙ ap length lost in
    let many_duplicated = len_duplicated ∙ sym (length-map c.in_ok-duplicated.duplicated.items view_counted) ∙ ap length duplicated in
    let many_stale = len_stale ∙ sym (length-map c.in_ok-stale.stale.items view_stale) ∙ ap length stale ∙ length-map (those_that is_stale history ps xs) (staleness history ps) in
    let many_stable = len_stable ∙ sym (length-map c.in_ok-stable.stable.items view) ∙ ap length stable in
    let attempted = len_all ∙ sym (length-map c.in_ok-elements.elements.items view) ∙ ap length elements in
    let count_stable = len_stable_again ∙ sym (length-map c.in_ok-stable.stable.items view) ∙ ap length stable in
    λ i. record {
      verdict = (c.verdict_of.ensures ∙ (λ k. set_full_verdict c.args.linearizable (many_lost k) (many_duplicated k) (many_stale k) (many_stable k))) i;
      attempted = attempted i;
      stable = count_stable i;
      lost = (c.of.ensures ∙ lost) i;
      never_read = (c.of-2.ensures ∙ never_read) i;
      stale = (c.of-3.ensures ∙ stale) i;
      duplicated = (c.of-4.ensures ∙ duplicated) i;
    }
