use Rattle.std.proofs.Common.{◌∙◌, sym, ap, List, Option}
use Rattle.std.specs.Prelude.{slice_set}
use Rattle.jh_tables.specs.declared.counted.FixEntry.{FixEntry}
use Rattle.jh_tables.specs.Tallies.{Tallies, with_free_entries}
use Rattle.jh_tables.proofs.AllEntriesLemmas.{written_all}
use Rattle.jh_tables.proofs.counted.Counted.write_fix.Goals as goal

abbrev with_fixes : Tallies → List (Option FixEntry) → Tallies
with_fixes t fixes = record t { fixes = fixes }

pub returns : goal.returns
returns c =
    let place = c.args.place in
    let entry = c.args.entry.now in
    let entries = c.reach.new.entries.items in
    let old : Tallies = record {
      links = c.self.inside.links.items;
      nodes = c.self.inside.nodes.items;
      fixes = with_free_entries c.self.inside.fixes.items;
      work = c.self.inside.work;
    } in
    ap (with_fixes old) (sym (written_all entries place entry c.reach.ensures.there) ∙ ap (λ fixes. slice_set fixes place entry) c.reach.ensures.same)
    ∙ ap (λ (t : Tallies). with_fixes t (slice_set t.fixes place entry)) c.self.view_is
