use Rattle.std.proofs.Common.{◌∙◌, sym, rules, ap}
use Rattle.jh_tables.specs.Tallies.{latest_fix}
use Rattle.jh_tables.proofs.AllEntriesLemmas.{latest_all}
use Rattle.jh_tables.proofs.EntryLemmas.{none_latest}
use Rattle.jh_tables.proofs.entries.latest_fix.Goals as goal

pub returns-then-used-eq0 : goal.returns-then-used-eq0
returns-then-used-eq0 c =
    sym (none_latest c.args.from c.args.to c.args.counted.now.fixes (search rules))

pub returns : goal.returns
returns c =
    c.latest_among.ensures
    ∙ sym (latest_all c.args.from c.args.to c.fixes.result.now)
    ∙ ap (latest_fix c.args.from c.args.to) (sym c.fixes.ensures.all)
