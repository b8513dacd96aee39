use Rattle.std.proofs.Common.{◌≡◌, length, ◌∙◌, ap, sym, rules}
use Rattle.jh_edn.specs.Edn.{elements_of}
use Rattle.jh_ops.proofs.HistoryLemmas.{single, elements_of_sequence}
use Rattle.jh_ops.proofs.history.elements_in.Goals as goal

pub returns-in-Ok : goal.returns-in-Ok
returns-in-Ok c =
    let long : length c.args.values.items ≡ 1 = search rules in
    let one = single c.args.values.items c.pop.new.self.items c.in-Some.value c.in-Some.ensures.items long in
    sym (elements_of_sequence c.args.values.items c.in-Some.value _ one (ap elements_of (sym c.untagged.ensures) ∙ c.in-Ok.ensures.elements))
