use Rattle.std.proofs.lemmas.List.Elements.{recursion_from_All}
use Rattle.jh_edn.specs.Printable.{IsPrintable}
use Rattle.jh_edn.specs.Spelling.{depth_limit}
use Rattle.jh_laws.specs.Lines.{lines_of}
use Rattle.jh_laws.proofs.LineLemmas.{lines_spell}
use Rattle.jh_laws.proofs.lines.lines_read_back.Goals as goal

pub returns : goal.returns
returns c = λ values all.
    let spelled = lines_spell values (recursion_from_All (IsPrintable depth_limit) values all) in
    (spelled, λ others more. c.spelled_once.ensures (lines_of values) others values more spelled)
