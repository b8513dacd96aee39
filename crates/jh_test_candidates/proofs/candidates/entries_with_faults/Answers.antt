use Rattle.std.proofs.Common.{rules, ◌≡◌, ◌+◌, ◌*◌, length, ap, refl, subst, sym, ◌∙◌, arith}
use Rattle.std.specs.List.{fold, range_with_len}
use Rattle.jh_random_faults.specs.Ids.{fault_id}
use Rattle.jh_random_faults.specs.Kinds.{kinds_drawn}
use Rattle.jh_random_faults.specs.Named.{HaveNamed}
use Rattle.jh_test_candidates.specs.Candidates.{greatest_test_id, test_entries_with_random}
use Rattle.jh_test_candidates.proofs.CandidateLemmas.{one_fault_more}
use Rattle.jh_test_candidates.proofs.candidates.entries_with_faults.Goals as goal

pub put_drawn-requires-clause-named : goal.put_drawn-requires-clause-named
put_drawn-requires-clause-named c =
    let count = c.len.ensures.len ∙ ap length c.nodes.ensures in
    rw (← count) (subst (HaveNamed c.len.result) (sym c.deref.ensures.value) c.in_ok-kinds.ensures.named)

pub loop-fault-preserved : goal.loop-fault-preserved
loop-fault-preserved c =
    let t = c.args.test.now in
    let palette = c.args.palette in
    let fault = c.loop-fault.fault in
    let kinds : c.deref.result.now ≡ kinds_drawn palette (length t.start.names) =
    c.deref.ensures.value ∙ c.in_ok-kinds.ensures.kinds ∙ ap (kinds_drawn palette) (c.len.ensures.len ∙ ap length c.nodes.ensures) in
    let id : c.fault_id-id.result ≡ fault_id (greatest_test_id t.schedule) fault = search rules in
    record {
      so_far = λ seed at.
          let before = c.loop-fault.invariant.so_far seed at in
          let drawn = c.next_draw.ensures seed (7 * fault + 1) before.1 in
          let next : 7 * fault + 1 + 7 ≡ 7 * (fault + 1) + 1 = omega arith in
          let so_far = fold (test_entries_with_random t palette seed) t.schedule (range_with_len 0 fault) in
          let put : c.put_drawn.new.entries.items ≡ test_entries_with_random t palette seed so_far fault =
          c.in_ok-put_drawn.ensures.put ∙ rw (id, kinds, drawn.0, before.0) refl in
          (put ∙ sym (one_fault_more t palette seed fault), rw next at drawn.1);
      kept = c.in_ok-put_drawn.ensures.kept;
    }
