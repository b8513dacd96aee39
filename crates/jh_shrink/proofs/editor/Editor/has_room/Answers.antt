use Rattle.std.proofs.Common.{◌≡◌, ap, length, sym, ◌∙◌, rules}
use Rattle.std.specs.Prelude.{reverse}
use Rattle.std.proofs.lemmas.List.{length-reverse}
use Rattle.jh_shrink.specs.Edits.{EditState}
use Rattle.jh_shrink.proofs.ChangeLemmas.{length-entries_after_changes}
use Rattle.jh_shrink.proofs.editor.Editor.has_room.Goals as goal

-- as many edits lie in the past as changes are kept of it
pub returns : goal.returns
returns c =
    let past = c.self.inside.past.items in
    let same : length past ≡ c.len.result = search rules in
    let count : length c.args.self.now.past ≡ c.len.result =
    ap (λ (s : EditState). length s.past) (sym c.self.view_is) ∙ length-entries_after_changes c.self.inside.entries.items (reverse past)
    ∙ length-reverse past ∙ same in
    rw count (search rules)
