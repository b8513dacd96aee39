use Rattle.std.proofs.Common.{ap, ◌∙◌, rules}
use Rattle.jh_shrink.specs.ChangesInside.{edit_state_from}
use Rattle.jh_shrink.specs.Edits.{edit_state_after_redo}
use Rattle.jh_shrink.proofs.ChangeLemmas.{few_changed, play_off, play_on, redone_is}
use Rattle.jh_shrink.proofs.editor.Editor.redo.Goals as goal

-- what was taken back last is played again, and kept for an undo
pub invariant_of-self-2 : goal.invariant_of-self-2
invariant_of-self-2 c =
    let entries = c.self.inside.entries.items in
    let off = c.in-Some.ensures.items in
    let on = c.push_reserved.ensures.items in
    let made = c.make-back.ensures in
    let first = play_off entries c.self.inside.future.items c.pop.new.self.items c.in-Some.change off c.self.invariant.future in
    record {
      past = rw made.changed (play_on entries c.self.inside.past.items c.push_reserved.new.self.items c.in-Some.change c.make-back.result
          c.self.invariant.few on first.0 made.back c.self.invariant.past);
      future = rw made.changed first.1;
      few = rw made.changed (few_changed c.in-Some.change entries c.self.invariant.few first.0);
      places = made.room;
      to_undo = search rules;
      to_redo = search rules;
    }

pub returns-clause-redone : goal.returns-clause-redone
returns-clause-redone c =
    let entries = c.self.inside.entries.items in
    let off = c.in-Some.ensures.items in
    let made = c.make-back.ensures in
    let first = play_off entries c.self.inside.future.items c.pop.new.self.items c.in-Some.change off c.self.invariant.future in
    ap (λ e. edit_state_from e c.push_reserved.new.self.items c.pop.new.self.items) made.changed
    ∙ redone_is entries c.self.inside.past.items c.push_reserved.new.self.items c.self.inside.future.items c.pop.new.self.items
    c.in-Some.change c.make-back.result off c.push_reserved.ensures.items first.0 made.back
    ∙ ap edit_state_after_redo c.self.view_is
