use Rattle.std.proofs.Common.{length, All}
use Rattle.jh_nemesis.specs.Steps.{FitsNodes}
use Rattle.jh_settings.specs.Parsed.{IsMeant}
use Rattle.jh_settings.proofs.EntryLemmas.{Parsed}
use Rattle.jh_settings.proofs.entries.entries_in.Given as goal

abbrev pub invariant-loop-value : goal.invariant-loop-value
invariant-loop-value g l = record {
  parsed : Parsed (IsMeant (g.F.EntryFormat.parsed l.nodes)) l.values l.value-index l.entries.items;
  fit : All (λ entry. FitsNodes (length l.nodes) (g.F.EntryFormat.step entry)) l.entries.items;
}
