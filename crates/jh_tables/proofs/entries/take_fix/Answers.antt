use Rattle.std.proofs.Common.{◌≡◌, ◌∙◌, sym, ap, rules, false}
use Rattle.std.specs.List.{All, list_any}
use Rattle.std.proofs.lemmas.Bool.{false≢true}
use Rattle.std.proofs.lemmas.List.Folds.{list_any_none}
use Rattle.jh_tables.specs.ChangingInside.{has_stamp}
use Rattle.jh_tables.proofs.AllEntriesLemmas.{stamped_all}
use Rattle.jh_tables.proofs.entries.take_fix.Goals as goal

pub returns-in_default : goal.returns-in_default
returns-in_default c =
    let entries = c.fixes.result.now in
    let none : All (λ e. has_stamp c.args.stamp e ≡ false) entries = search rules in
    absurd (false≢true (
    sym (list_any_none (has_stamp c.args.stamp) entries none)
    ∙ sym (stamped_all c.args.stamp entries)
    ∙ ap (list_any (has_stamp c.args.stamp)) (sym c.fixes.ensures.all)
    ∙ c.requires
    ))
