use Rattle.std.proofs.Common.{◌∙◌, ap, map, rules}
use Rattle.std.specs.Prelude.{filter}
use Rattle.std.proofs.lemmas.Fn.{filter_same}
use Rattle.jh_bands.specs.Lines.{view_line}
use Rattle.jh_bands.specs.declared.band.Line.{Line}
use Rattle.jh_timeline_sections.specs.Sections as rule
use Rattle.jh_timeline_sections.proofs.NemesisLemmas.{map_filter}
use Rattle.jh_timeline_sections.proofs.nemesis.lines_shown.Goals as goal

pub returns : goal.returns
returns c =
    let kept = filter_same _ (λ (line : Line). rule.is_line_in c.args.window (view_line line)) _ (λ line b after called. (search rules, search rules)) c.in_ok-lines.lines.items c.retain.new.self.items c.retain.ensures.filtered in
    ap (map view_line) kept ∙ map_filter view_line (rule.is_line_in c.args.window) c.in_ok-lines.lines.items ∙ ap (filter (rule.is_line_in c.args.window)) c.in_ok-lines.ensures.lines
