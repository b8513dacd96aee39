use Rattle.std.proofs.Common.{◌∙◌, sym}
use Rattle.jh_timeline_marks.proofs.MarkLemmas.{no_marks}
use Rattle.jh_timeline_marks.proofs.notes.no_marks.Goals as goal

pub returns : goal.returns
returns c = c.new.ensures.items ∙ sym (no_marks c.args.calls.now)
