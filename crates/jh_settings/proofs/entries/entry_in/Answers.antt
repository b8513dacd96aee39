use Rattle.toml.specs.View.{view}
use Rattle.jh_edn.specs.View as edn
use Rattle.jh_settings.proofs.ElementLemmas.{entry_from}
use Rattle.jh_settings.proofs.entries.entry_in.Goals as goal

pub returns-in-Some-clause-parsed : goal.returns-in-Some-clause-parsed
returns-in-Some-clause-parsed g c =
    let is = rw c.in-Some.is at c.in_ok-element.ensures in
    entry_from (g.F.EntryFormat.parsed c.args.nodes.now) (view c.args.value.now) (edn.view c.in-Some.element) is c.entry_of.result c.entry_of.ensures.parsed

pub returns-in-None-clause-parsed : goal.returns-in-None-clause-parsed
returns-in-None-clause-parsed g c entry h =
    let none = rw c.in-None.is at c.in_ok-element.ensures in
    none h.0 h.1
