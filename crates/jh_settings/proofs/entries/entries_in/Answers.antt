use Rattle.std.proofs.Common.{refl, length}
use Rattle.std.proofs.lemmas.List.Elements.{All-push}
use Rattle.jh_nemesis.specs.Steps.{FitsNodes}
use Rattle.jh_settings.specs.Parsed.{IsMeant}
use Rattle.jh_settings.proofs.EntryLemmas.{one_parsed, not_parsed, all_parsed, too_many}
use Rattle.jh_settings.proofs.entries.entries_in.Goals as goal

pub returns-then-values-gt-MAX_ENTRIES-clause-parsed : goal.returns-then-values-gt-MAX_ENTRIES-clause-parsed
returns-then-values-gt-MAX_ENTRIES-clause-parsed g c =
    (refl, too_many (IsMeant (g.F.EntryFormat.parsed c.args.nodes.now)) c.args.values.now c.if-values-gt-MAX_ENTRIES.true)

pub returns-in-None-clause-parsed : goal.returns-in-None-clause-parsed
returns-in-None-clause-parsed g c =
    let l = c.loop-value in
    let none = rw c.in-None.is at c.in_ok-entry.ensures.parsed in
    (refl, not_parsed (IsMeant (g.F.EntryFormat.parsed c.args.nodes.now)) c.args.values.now l.value-index l.entries.items c.value-item.result l.invariant.parsed c.loop-value-test.true c.value-item.is none)

pub loop-value-preserved : goal.loop-value-preserved
loop-value-preserved g c =
    let l = c.loop-value in
    let parsed = rw c.in-Some.is at c.in_ok-entry.ensures.parsed in
    let fits = rw c.in-Some.is at c.in_ok-entry.ensures.fits in
    let pushed = c.in_ok-push-in-Some.ensures.items in
    record {
      parsed = rw pushed (one_parsed (IsMeant (g.F.EntryFormat.parsed c.args.nodes.now)) c.args.values.now l.value-index l.entries.items c.value-item.result c.in-Some.entry l.invariant.parsed c.loop-value-test.true c.value-item.is parsed);
      fit = rw pushed (All-push (λ entry. FitsNodes (length c.args.nodes.now) (g.F.EntryFormat.step entry)) l.entries.items c.in-Some.entry l.invariant.fit fits);
    }

pub returns-clause-parsed : goal.returns-clause-parsed
returns-clause-parsed g c =
    let l = c.loop-value in
    all_parsed (IsMeant (g.F.EntryFormat.parsed c.args.nodes.now)) c.args.values.now l.value-index l.entries.items l.invariant.parsed c.loop-value-test.false c.if-values-gt-MAX_ENTRIES.false
