use Rattle.std.proofs.Common.{◌∙◌, ap, true}
use Rattle.jh_bands.specs.BandsInside.{changes_with, view_all_begun}
use Rattle.jh_bands.proofs.EditLemmas.{adds_same, changed_by_clear, changed_by_fill, changed_by_insert, changed_by_remove}
use Rattle.jh_bands.proofs.edit.add_changes.Goals as goal

pub returns-in-Insert : goal.returns-in-Insert
returns-in-Insert c =
    adds_same c.add_all.result _ _ _ _ (changed_by_insert c.args.edit.now c.args.index c.in-Insert.field-0 c.in-Insert.fault (view_all_begun c.args.active.now) c.in-Insert.is c.requires)
    c.add_all.ensures

pub returns-in-Remove : goal.returns-in-Remove
returns-in-Remove c =
    adds_same c.add_all-in-Remove.result _ _ _ _
    (changed_by_remove c.args.edit.now c.args.index c.in-Remove.place c.args.active.now c.index-active-place.result c.in-Remove.is c.requires c.index-active-place.is)
    c.add_all-in-Remove.ensures

pub returns-in-Fill : goal.returns-in-Fill
returns-in-Fill c =
    adds_same c.add_all-in-Fill.result _ _ _ _
    (ap (λ fs. changes_with c.args.index true (view_all_begun fs)) c.deref.ensures.value
    ∙ changed_by_fill c.args.edit.now c.args.index c.in-Fill.faults (view_all_begun c.args.active.now) c.in-Fill.is c.requires)
    c.add_all-in-Fill.ensures

pub returns-in-Clear : goal.returns-in-Clear
returns-in-Clear c =
    adds_same c.add_all-in-Clear.result _ _ _ _ (changed_by_clear c.args.edit.now c.args.index (view_all_begun c.args.active.now) c.in-Clear.is) c.add_all-in-Clear.ensures
