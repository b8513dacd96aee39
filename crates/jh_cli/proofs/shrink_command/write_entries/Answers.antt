use Rattle.std.proofs.Common.{length, subst, sym}
use Rattle.jh_nemesis.specs.Steps.{FitsNodes}
use Rattle.jh_simnode.specs.declared.schedule.Entry.{Entry}
use Rattle.jh_cli.proofs.shrink_command.write_entries.Goals as goal

pub value_of_entry-requires : goal.value_of_entry-requires
value_of_entry-requires c =
    let P : Entry → Type 0 = λ entry. FitsNodes (length c.args.nodes.now) entry.step in
    subst P (sym c.entry-item.is) (c.requires c.loop-entry.entry-index c.entry-item.result c.loop-entry-test.true)
