use Rattle.std.proofs.Common.{ap, subst, sym, ◌∙◌, [], ◌∷◌, ◌++◌, rules}
use Rattle.jh_shrink.specs.ChangesInside.{Fits, edit_state_from, entries_after_change}
use Rattle.jh_shrink.specs.Edits.{EditState, state_after_edit}
use Rattle.jh_shrink.proofs.ChangeLemmas.{edited_is, few_changed, play_on}
use Rattle.jh_shrink.proofs.editor.Editor.edit.Goals as goal

-- the change that takes it back is kept, and nothing is undone
pub invariant_of-self-2 : goal.invariant_of-self-2
invariant_of-self-2 c =
    let entries = c.self.inside.entries.items in
    let fits = subst (Fits c.args.change) (sym (ap (λ (s : EditState). s.now) c.self.view_is)) c.requires in
    let on = c.push_reserved.ensures.items ∙ ap (λ xs. xs ++ c.make.result ∷ []) c.reserve.ensures.items in
    let made = c.make.ensures in
    record {
      past = rw made.changed (play_on entries c.self.inside.past.items c.push_reserved.new.self.items c.args.change c.make.result
          c.self.invariant.few on fits made.back c.self.invariant.past);
      future = rw c.clear.ensures.items tt;
      few = rw made.changed (few_changed c.args.change entries c.self.invariant.few fits);
      places = made.room;
      to_undo = search rules;
      to_redo = search rules;
    }

pub returns-clause-edited : goal.returns-clause-edited
returns-clause-edited c =
    let entries = c.self.inside.entries.items in
    let fits = subst (Fits c.args.change) (sym (ap (λ (s : EditState). s.now) c.self.view_is)) c.requires in
    let on = c.push_reserved.ensures.items ∙ ap (λ xs. xs ++ c.make.result ∷ []) c.reserve.ensures.items in
    let made = c.make.ensures in
    ap (λ e. edit_state_from e c.push_reserved.new.self.items c.clear.new.self.items) made.changed
    ∙ ap (edit_state_from (entries_after_change c.args.change entries) c.push_reserved.new.self.items) c.clear.ensures.items
    ∙ edited_is entries c.self.inside.past.items c.push_reserved.new.self.items c.self.inside.future.items c.args.change c.make.result
    on fits made.back
    ∙ ap (λ (s : EditState). state_after_edit s (entries_after_change c.args.change s.now)) c.self.view_is
