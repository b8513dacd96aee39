use Rattle.jh_lines.proofs.LineLemmas.{said_to_all-over}
use Rattle.jh_lines.proofs.laws.hears_no_more.Goals as goal

pub returns : goal.returns
returns g c =
    said_to_all-over g.M.Machine.after_line g.M.Machine.answer_to g.M.Machine.has_finished g.met.M.Machine.stays_over
    g.M.Machine.opening
