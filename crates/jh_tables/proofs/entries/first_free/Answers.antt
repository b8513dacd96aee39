use Rattle.std.proofs.Common.{◌≡◌, length, arith, rules, true}
use Rattle.std.specs.Prelude.{is_some}
use Rattle.std.specs.List.{All}
use Rattle.jh_tables.proofs.AllEntriesLemmas.{free_behind}
use Rattle.jh_tables.proofs.EntryLemmas.{all_counted}
use Rattle.jh_tables.proofs.entries.first_free.Goals as goal

pub returns-in-None : goal.returns-in-None
returns-in-None c =
    let entries = c.args.entries.now in
    let used : All (λ e. is_some e ≡ true) entries = search rules in
    free_behind entries (length entries) c.requires.few (omega arith) (omega (arith, all_counted is_some entries used, c.requires.room))
