use Rattle.std.proofs.Common.{rules, ◌+◌, ◌-◌, ◌<◌, ◌^◌, ◌≡◌, suc, take, subst, sym, refl, arith}
use Rattle.std.specs.Prelude.{FitsSigned, ◌↔◌, IsTrue}
use Rattle.std.specs.Int.{w64}
use Rattle.std.proofs.lemmas.Bool.{false≢true}
use Rattle.std.proofs.lemmas.List.{take_all}
use Rattle.jh_edn.specs.Edn.{items_of}
use Rattle.jh_edn.specs.Printable.{ArePrintable, IsPrintable}
use Rattle.jh_gen.specs.Generator.{generator_size, generator_list_size, size_shares, row_of, share_list}
use Rattle.jh_gen.specs.View.{generator_of}
use Rattle.jh_gen_texts.specs.GeneratorWritten.{edn_of_generator, values_of_generators, values_of_shares}
use Rattle.jh_gen_texts.proofs.GeneratorTextLemmas.{member_falls, share_falls}
use Rattle.jh_settings_texts.proofs.NestingLemmas.{row_texts, shares_texts, row_first, row_member, share_first, share_member, not_both, nil_within, once_within, rising_within, forever_within, seq_within, limit_within, mix_within, phases_within, reserve_within, reserve_not_within, each_thread_within, clients_within, nemesis_within}
use Rattle.jh_settings_texts.proofs.depth.+within.Goals as goal

pub is_within-returns-in-Nil : goal.is_within-returns-in-Nil
is_within-returns-in-Nil t c =
    let some : 0 < c.args.depth = search rules in
    rw (c.in-Nil.is) (nil_within c.args.depth some)

pub is_within-returns-in-Once : goal.is_within-returns-in-Once
is_within-returns-in-Once t c =
    let some : 0 < c.args.depth = search rules in
    rw (c.in-Once.is) (once_within c.args.depth some c.is_call_within.result c.in-Once.call c.is_call_within.ensures)

pub is_within-returns-in-Rising : goal.is_within-returns-in-Rising
is_within-returns-in-Rising t c =
    let some : 0 < c.args.depth = search rules in
    let fits : FitsSigned w64 c.in-Rising.first = search rules in
    rw (c.in-Rising.is) (rising_within c.args.depth c.in-Rising._rise c.in-Rising.first some fits)

pub is_within-returns-in-Forever : goal.is_within-returns-in-Forever
is_within-returns-in-Forever t c =
    let some : 0 < c.args.depth = search rules in
    rw (c.in-Forever.is) (forever_within c.args.depth some c.is_call_within-in-Forever.result c.in-Forever.call c.is_call_within-in-Forever.ensures)

pub is_within-returns-in-Seq : goal.is_within-returns-in-Seq
is_within-returns-in-Seq t c =
    let some : 0 < c.args.depth = search rules in
    rw (c.in-Seq.is) (seq_within c.args.depth some c.are_within.result (row_of c.in-Seq.members) c.are_within.ensures)

pub is_within-returns-in-Limit : goal.is_within-returns-in-Limit
is_within-returns-in-Limit t c =
    let some : 0 < c.args.depth = search rules in
    let below : c.in-Limit.most < 2 ^ 32 = search rules in
    let inner = subst (λ g. IsTrue c.is_within.result ↔ IsPrintable (c.args.depth - 1) (edn_of_generator g)) c.as_gen.ensures c.is_within.ensures in
    rw (c.in-Limit.is) (limit_within c.args.depth some c.is_within.result c.in-Limit.most c.in-Limit.inner below inner)

pub is_within-returns-in-Mix : goal.is_within-returns-in-Mix
is_within-returns-in-Mix t c =
    let some : 0 < c.args.depth = search rules in
    rw (c.in-Mix.is) (mix_within c.args.depth some c.are_within-in-Mix.result (row_of c.in-Mix.members) c.are_within-in-Mix.ensures)

pub is_within-returns-in-Phases : goal.is_within-returns-in-Phases
is_within-returns-in-Phases t c =
    let some : 0 < c.args.depth = search rules in
    rw (c.in-Phases.is) (phases_within c.args.depth some c.are_within-in-Phases.result (row_of c.in-Phases.members) c.are_within-in-Phases.ensures)

pub is_within-returns-then-shares_are_within : goal.is_within-returns-then-shares_are_within
is_within-returns-then-shares_are_within t c =
    let some : 0 < c.args.depth = search rules in
    let shares = c.shares_are_within.ensures.0 c.if-shares_are_within.true in
    let answer = c.is_within-then-shares_are_within.result in
    let inner = subst (λ g. IsTrue answer ↔ IsPrintable (c.args.depth - 1) (edn_of_generator g)) c.as_gen-then-shares_are_within.ensures c.is_within-then-shares_are_within.ensures in
    rw (c.in-Reserve.is) (reserve_within c.args.depth (share_list c.in-Reserve.shares) c.in-Reserve.inner answer some shares inner)

pub is_within-returns-else-shares_are_within : goal.is_within-returns-else-shares_are_within
is_within-returns-else-shares_are_within t c =
    let answer = c.shares_are_within.result in
    let none : ArePrintable (c.args.depth - 1) (items_of (values_of_shares (share_list c.in-Reserve.shares))) → ⊥ = λ printable. not_both answer (c.shares_are_within.ensures.1 printable) c.if-shares_are_within.false in
    rw (c.in-Reserve.is) (reserve_not_within c.args.depth (share_list c.in-Reserve.shares) c.in-Reserve.inner answer c.if-shares_are_within.false none)

pub is_within-returns-in-EachThread : goal.is_within-returns-in-EachThread
is_within-returns-in-EachThread t c =
    let some : 0 < c.args.depth = search rules in
    let answer = c.is_within-in-EachThread.result in
    let inner = subst (λ g. IsTrue answer ↔ IsPrintable (c.args.depth - 1) (edn_of_generator g)) c.as_gen-in-EachThread.ensures c.is_within-in-EachThread.ensures in
    rw (c.in-EachThread.is) (each_thread_within c.args.depth some answer c.in-EachThread.inner inner)

pub is_within-returns-in-Clients : goal.is_within-returns-in-Clients
is_within-returns-in-Clients t c =
    let some : 0 < c.args.depth = search rules in
    let answer = c.is_within-in-Clients.result in
    let inner = subst (λ g. IsTrue answer ↔ IsPrintable (c.args.depth - 1) (edn_of_generator g)) c.as_gen-in-Clients.ensures c.is_within-in-Clients.ensures in
    rw (c.in-Clients.is) (clients_within c.args.depth some answer c.in-Clients.inner inner)

pub is_within-returns-in-NemesisOnly : goal.is_within-returns-in-NemesisOnly
is_within-returns-in-NemesisOnly t c =
    let some : 0 < c.args.depth = search rules in
    let answer = c.is_within-in-NemesisOnly.result in
    let inner = subst (λ g. IsTrue answer ↔ IsPrintable (c.args.depth - 1) (edn_of_generator g)) c.as_gen-in-NemesisOnly.ensures c.is_within-in-NemesisOnly.ensures in
    rw (c.in-NemesisOnly.is) (nemesis_within c.args.depth some answer c.in-NemesisOnly.inner inner)

pub are_within-is_within-requires : goal.are_within-is_within-requires
are_within-is_within-requires t c =
    let g = c.member-item.result in
    let inside = member_falls c.as_slice-member-items.result.now c.loop-member.member-index g c.loop-member-test.true c.member-item.is in
    let smaller : generator_size (generator_of g) < generator_list_size c.args.members.now = subst (λ gs. generator_size (generator_of g) < generator_list_size gs) c.as_slice-member-items.ensures inside in
    search rules

pub are_within-returns-then-not-is_within : goal.are_within-returns-then-not-is_within
are_within-returns-then-not-is_within t c =
    let xs = c.as_slice-member-items.result.now in (
      λ is. absurd (false≢true is),
      λ all.
          let every = subst (λ gs. ArePrintable c.args.depth (items_of (values_of_generators (row_of gs)))) (sym c.as_slice-member-items.ensures) all in
          let here = row_member c.args.depth xs c.loop-member.member-index c.member-item.result c.loop-member-test.true c.member-item.is every in
          absurd (not_both c.is_within.result (c.is_within.ensures.1 here) c.if-not-is_within.true),
    )

pub are_within-loop-member-preserved : goal.are_within-loop-member-preserved
are_within-loop-member-preserved t c =
    let xs = c.as_slice-member-items.result.now in
    let i = c.loop-member.member-index in
    let next : suc i ≡ i + 1 = omega arith in
    let here = c.is_within.ensures.0 c.if-not-is_within.false in
    subst (λ k. ArePrintable c.args.depth (items_of (row_texts (take k xs)))) next
    (row_first c.args.depth xs i c.member-item.result c.loop-member-test.true c.member-item.is c.loop-member.invariant here)

pub are_within-returns : goal.are_within-returns
are_within-returns t c =
    let xs = c.as_slice-member-items.result.now in
    let whole = subst (λ ys. ArePrintable c.args.depth (items_of (row_texts ys))) (take_all c.loop-member.member-index xs c.loop-member-test.false) c.loop-member.invariant in
    (λ is. subst (λ gs. ArePrintable c.args.depth (items_of (values_of_generators (row_of gs)))) c.as_slice-member-items.ensures whole, λ all. refl)

pub shares_are_within-is_within-requires : goal.shares_are_within-is_within-requires
shares_are_within-is_within-requires t c =
    let m = c.loop-count-item.result in
    let inside = share_falls c.as_slice-count-items.result.now c.loop-count.count-index m c.loop-count-test.true c.loop-count-item.is in
    let smaller : generator_size (generator_of m.1) < size_shares c.args.shares.now = subst (λ ms. generator_size (generator_of m.1) < size_shares ms) c.as_slice-count-items.ensures inside in
    search rules

pub shares_are_within-returns-then-not-is_within : goal.shares_are_within-returns-then-not-is_within
shares_are_within-returns-then-not-is_within t c =
    let xs = c.as_slice-count-items.result.now in (
      λ is. absurd (false≢true is),
      λ all.
          let every = subst (λ ms. ArePrintable c.args.depth (items_of (values_of_shares (share_list ms)))) (sym c.as_slice-count-items.ensures) all in
          let here = share_member c.args.depth xs c.loop-count.count-index c.loop-count-item.result c.loop-count-test.true c.loop-count-item.is every in
          absurd (not_both c.is_within.result (c.is_within.ensures.1 here) c.if-not-is_within.true),
    )

pub shares_are_within-loop-count-preserved : goal.shares_are_within-loop-count-preserved
shares_are_within-loop-count-preserved t c =
    let xs = c.as_slice-count-items.result.now in
    let i = c.loop-count.count-index in
    let m = c.loop-count-item.result in
    let next : suc i ≡ i + 1 = omega arith in
    let below : m.0 < 2 ^ 32 = search rules in
    let here = c.is_within.ensures.0 c.if-not-is_within.false in
    subst (λ k. ArePrintable c.args.depth (items_of (shares_texts (take k xs)))) next
    (share_first c.args.depth xs i m c.loop-count-test.true c.loop-count-item.is below c.loop-count.invariant here)

pub shares_are_within-returns : goal.shares_are_within-returns
shares_are_within-returns t c =
    let xs = c.as_slice-count-items.result.now in
    let whole = subst (λ ys. ArePrintable c.args.depth (items_of (shares_texts ys))) (take_all c.loop-count.count-index xs c.loop-count-test.false) c.loop-count.invariant in
    (λ is. subst (λ ms. ArePrintable c.args.depth (items_of (values_of_shares (share_list ms)))) c.as_slice-count-items.ensures whole, λ all. refl)
