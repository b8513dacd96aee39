use Rattle.std.proofs.Common.{[]}
use Rattle.jh_lines.proofs.LawLemmas.{joined_from}
use Rattle.jh_lines.proofs.laws.cuts_lines.Goals as goal

pub returns : goal.returns
returns c = λ bytes. joined_from [] bytes tt
