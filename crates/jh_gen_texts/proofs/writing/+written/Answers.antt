use Rattle.std.proofs.Common.{rules, ◌<◌, ◌^◌, subst}
use Rattle.jh_edn.specs.Edn.{keyword}
use Rattle.jh_gen.specs.Generator.{generator_size, generator_list_size, size_shares}
use Rattle.jh_gen.specs.View.{generator_of}
use Rattle.jh_gen_texts.proofs.GeneratorTextLemmas.{RowWritten, SharesWritten, member_falls, share_falls, row_written, share_written}
use Rattle.jh_gen_texts.proofs.writing.+written.Goals as goal

pub row_values-written-requires : goal.row_values-written-requires
row_values-written-requires t c =
    let g = c.member-item.result in
    let inside = member_falls c.as_slice-member-items.result.now c.loop-member.member-index g c.loop-member-test.true c.member-item.is in
    let smaller : generator_size (generator_of g) < generator_list_size c.args.members.now = subst (λ gs. generator_size (generator_of g) < generator_list_size gs) c.as_slice-member-items.ensures inside in
    search rules

pub row_values-loop-member-preserved : goal.row_values-loop-member-preserved
row_values-loop-member-preserved t c =
    let xs = c.as_slice-member-items.result.now in
    let i = c.loop-member.member-index in
    let so_far : RowWritten (keyword c.args.name.now) xs i c.loop-member.values.items = record { text = c.loop-member.invariant.text; writable = c.loop-member.invariant.writable } in
    let next = row_written (keyword c.args.name.now) xs i c.member-item.result c.loop-member.values.items c.push.new.self.items c.in_ok-written.field-0 c.loop-member-test.true c.member-item.is
    so_far c.in_ok-push.ensures.items c.in_ok-written.ensures.text c.in_ok-written.ensures.writable in
    record { text = next.text; writable = next.writable }

pub share_values-written-requires : goal.share_values-written-requires
share_values-written-requires t c =
    let m = c.loop-count-item.result in
    let inside = share_falls c.as_slice-count-items.result.now c.loop-count.count-index m c.loop-count-test.true c.loop-count-item.is in
    let smaller : generator_size (generator_of m.1) < size_shares c.args.shares.now = subst (λ ms. generator_size (generator_of m.1) < size_shares ms) c.as_slice-count-items.ensures inside in
    search rules

pub share_values-loop-count-preserved : goal.share_values-loop-count-preserved
share_values-loop-count-preserved t c =
    let xs = c.as_slice-count-items.result.now in
    let i = c.loop-count.count-index in
    let m = c.loop-count-item.result in
    let so_far : SharesWritten (keyword c.args.name.now) xs i c.loop-count.values.items = record { text = c.loop-count.invariant.text; writable = c.loop-count.invariant.writable } in
    let below : m.0 < 2 ^ 32 = search rules in
    let next = share_written (keyword c.args.name.now) xs i m c.loop-count.values.items c.push.new.self.items c.push-in-loop-count.new.self.items c.small_number.result c.in_ok-written.field-0 c.loop-count-test.true c.loop-count-item.is
    so_far c.in_ok-push.ensures.items c.in_ok-push-2.ensures.items c.small_number.ensures c.in_ok-written.ensures.text below c.in_ok-written.ensures.writable in
    record { text = next.text; writable = next.writable }
