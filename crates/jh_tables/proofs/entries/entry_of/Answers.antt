use Rattle.std.proofs.Common.{refl}
use Rattle.jh_tables.proofs.EntryLemmas.{marked_first}
use Rattle.jh_tables.proofs.entries.entry_of.Goals as goal

pub returns : goal.returns
returns c = record { stamped = refl; delay = refl; named = marked_first c.args.links.now c.mark_links.new.words c.mark_links.ensures }
