use Rattle.std.proofs.Common.{sym, ap}
use Rattle.jh_edn.specs.View.{view}
use Rattle.jh_env.specs.Text.{entry_in}
use Rattle.jh_env.specs.TextInside.{list_with_front, entries_parsed}
use Rattle.jh_env.proofs.TextLemmas.{each_of-map}
use Rattle.jh_env.proofs.texts.reading.push_entries.Goals as goal

pub loop-element-init : goal.loop-element-init
loop-element-init c =
    ap (list_with_front (entries_parsed c.args.entries.now.items)) (sym (each_of-map (entry_in c.args.section) view c.in_ok-elements.elements.now))
