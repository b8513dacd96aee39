use Rattle.jh_bands.proofs.EditLemmas.{insert_back, inserted_views, remove_back, removed_views}
use Rattle.jh_bands.proofs.edit.make_edit.Goals as goal

pub returns-in_ok-insert-in-Insert-clause-edited : goal.returns-in_ok-insert-in-Insert-clause-edited
returns-in_ok-insert-in-Insert-clause-edited c =
    inserted_views c.args.edit c.in-Insert.place c.in-Insert.fault c.args.active.now.items c.insert.new.self.items c.in-Insert.is c.in_ok-insert-in-Insert.ensures.items

pub returns-in_ok-insert-in-Insert-clause-back : goal.returns-in_ok-insert-in-Insert-clause-back
returns-in_ok-insert-in-Insert-clause-back c =
    insert_back c.args.edit c.in-Insert.place c.in-Insert.fault c.args.active.now.items c.insert.new.self.items c.in-Insert.is c.requires c.in_ok-insert-in-Insert.ensures.items

pub returns-in-Remove-clause-edited : goal.returns-in-Remove-clause-edited
returns-in-Remove-clause-edited c =
    removed_views c.args.edit c.in-Remove.place c.args.active.now.items c.remove-fault.new.self.items c.in-Remove.is c.remove-fault.ensures.items

pub returns-in-Remove-clause-back : goal.returns-in-Remove-clause-back
returns-in-Remove-clause-back c =
    remove_back c.args.edit c.in-Remove.place c.remove-fault.result c.args.active.now.items c.remove-fault.new.self.items c.in-Remove.is c.requires c.remove-fault.ensures.items c.remove-fault.ensures.value
