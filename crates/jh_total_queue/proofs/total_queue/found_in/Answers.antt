use Rattle.std.proofs.Common.{◌≡◌, length, ap, sym, ◌∙◌, arith, rules}
use Rattle.std.specs.List.{sum_by}
use Rattle.std.proofs.lemmas.List.{length-map}
use Rattle.jh_edn.specs.View.{view, views}
use Rattle.jh_ops.specs.Operation.{operations}
use Rattle.jh_check.specs.Distinct.{count_of, distinct_values, set_of}
use Rattle.jh_check.specs.Verdicts.{verdict_of}
use Rattle.jh_check.proofs.DistinctLemmas.{length_in_order}
use Rattle.jh_total_queue.specs.CountsInside.{ok_times, part_times}
use Rattle.jh_total_queue.specs.TotalQueue.{dequeues, enqueue_attempts, enqueues, is_whole_queue, tally_of, ok_count, lost_count, unexpected_count, duplicated_count, recovered_count}
use Rattle.jh_total_queue.specs.declared.lists.Part.TheVariants.{Lost, Unexpected, Duplicated, Recovered}
use Rattle.jh_total_queue.proofs.TallyLemmas.{counts_total, part_found, total_found}
use Rattle.jh_total_queue.proofs.total_queue.found_in.Goals as goal

pub count_ok-requires-clause-fits : goal.count_ok-requires-clause-fits
count_ok-requires-clause-fits c =
    let held = c.in_ok-lists.lists.dequeues.items in
    let taken : views c.deref-7.result.now ≡ distinct_values (views held) = ap views c.deref-7.ensures.value ∙ c.in_ok-taken.ensures ∙ ap (λ vs. distinct_values (views vs)) c.deref-2.ensures.value in
    let total : sum_by (count_of (views held)) (views c.deref-7.result.now) ≡ length (views held) = ap (sum_by (count_of (views held))) taken ∙ counts_total (views held) c.in_ok-lists.ensures.ordered.2 in
    omega (arith, total, length-map held view)

pub returns : goal.returns
returns c =
    let history = operations c.args.history.now in
    let held = c.in_ok-lists.lists in
    let lists = c.in_ok-lists.ensures in
    let put_in : views c.in_ok-put_in.put_in.items ≡ set_of (enqueues history) = c.in_ok-put_in.ensures ∙ ap (λ vs. distinct_values (views vs)) c.deref.ensures.value ∙ ap distinct_values lists.enqueues in
    let taken : views c.in_ok-taken.taken.items ≡ set_of (dequeues history) = c.in_ok-taken.ensures ∙ ap (λ vs. distinct_values (views vs)) c.deref-2.ensures.value ∙ ap distinct_values lists.dequeues in
    let found = part_found (enqueue_attempts history) (enqueues history) (dequeues history) _ _ _ lists.attempts lists.enqueues lists.dequeues in
    let lost : c.in_ok-lost.lost ≡ tally_of (lost_count history) (enqueues history) =
    found (part_times Lost) (views c.deref-3.result.now) (enqueues history) c.in_ok-lost.lost (ap views c.deref-3.ensures.value ∙ put_in) c.in_ok-lost.ensures in
    let unexpected : c.in_ok-unexpected.unexpected ≡ tally_of (unexpected_count history) (dequeues history) =
    found (part_times Unexpected) (views c.deref-4.result.now) (dequeues history) c.in_ok-unexpected.unexpected (ap views c.deref-4.ensures.value ∙ taken) c.in_ok-unexpected.ensures in
    let duplicated : c.in_ok-duplicated.duplicated ≡ tally_of (duplicated_count history) (dequeues history) =
    found (part_times Duplicated) (views c.deref-5.result.now) (dequeues history) c.in_ok-duplicated.duplicated (ap views c.deref-5.ensures.value ∙ taken) c.in_ok-duplicated.ensures in
    let recovered : c.in_ok-recovered.recovered ≡ tally_of (recovered_count history) (dequeues history) =
    found (part_times Recovered) (views c.deref-6.result.now) (dequeues history) c.in_ok-recovered.recovered (ap views c.deref-6.ensures.value ∙ taken) c.in_ok-recovered.ensures in
    let ok : c.count_ok.result ≡ sum_by (ok_count history) (set_of (dequeues history)) =
    total_found (enqueue_attempts history) (enqueues history) (dequeues history) _ _ _ lists.attempts lists.enqueues lists.dequeues
    ok_times (views c.deref-7.result.now) (dequeues history) c.count_ok.result (ap views c.deref-7.ensures.value ∙ taken) c.count_ok.ensures in
    let many : c.len.result ≡ length held.attempts.items = search rules in
    let attempted : c.len.result ≡ length (enqueue_attempts history) = many ∙ sym (length-map held.attempts.items view) ∙ ap length lists.attempts ∙ length_in_order (enqueue_attempts history) in
    let sure : c.len-2.result ≡ length held.enqueues.items = search rules in
    let acknowledged : c.len-2.result ≡ length (enqueues history) = sure ∙ sym (length-map held.enqueues.items view) ∙ ap length lists.enqueues ∙ length_in_order (enqueues history) in
    let verdict : c.verdict_of.result ≡ verdict_of (is_whole_queue (tally_of (lost_count history) (enqueues history)) (tally_of (unexpected_count history) (dequeues history))) =
    c.verdict_of.ensures ∙ (λ i. verdict_of (is_whole_queue (lost i) (unexpected i))) in
    λ i. record {
      verdict = verdict i;
      attempted = attempted i;
      acknowledged = acknowledged i;
      ok = ok i;
      lost = lost i;
      unexpected = unexpected i;
      duplicated = duplicated i;
      recovered = recovered i;
    }
