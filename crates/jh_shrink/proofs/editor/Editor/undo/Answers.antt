use Rattle.std.proofs.Common.{ap, ◌∙◌, rules}
use Rattle.jh_shrink.specs.ChangesInside.{edit_state_from}
use Rattle.jh_shrink.specs.Edits.{edit_state_after_undo}
use Rattle.jh_shrink.proofs.ChangeLemmas.{few_changed, play_off, play_on, undone_is}
use Rattle.jh_shrink.proofs.editor.Editor.undo.Goals as goal

-- what was played last is taken back, and kept for a redo
pub invariant_of-self-2 : goal.invariant_of-self-2
invariant_of-self-2 c =
    let entries = c.self.inside.entries.items in
    let off = c.in-Some.ensures.items in
    let on = c.push_reserved.ensures.items in
    let made = c.make-back.ensures in
    let first = play_off entries c.self.inside.past.items c.pop.new.self.items c.in-Some.change off c.self.invariant.past in
    record {
      past = rw made.changed first.1;
      future = rw made.changed (play_on entries c.self.inside.future.items c.push_reserved.new.self.items c.in-Some.change c.make-back.result
          c.self.invariant.few on first.0 made.back c.self.invariant.future);
      few = rw made.changed (few_changed c.in-Some.change entries c.self.invariant.few first.0);
      places = made.room;
      to_undo = search rules;
      to_redo = search rules;
    }

pub returns-clause-undone : goal.returns-clause-undone
returns-clause-undone c =
    let entries = c.self.inside.entries.items in
    let off = c.in-Some.ensures.items in
    let made = c.make-back.ensures in
    let first = play_off entries c.self.inside.past.items c.pop.new.self.items c.in-Some.change off c.self.invariant.past in
    ap (λ e. edit_state_from e c.pop.new.self.items c.push_reserved.new.self.items) made.changed
    ∙ undone_is entries c.self.inside.past.items c.pop.new.self.items c.self.inside.future.items c.push_reserved.new.self.items
    c.in-Some.change c.make-back.result off c.push_reserved.ensures.items first.0 made.back
    ∙ ap edit_state_after_undo c.self.view_is
