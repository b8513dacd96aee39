use Rattle.std.proofs.Common.{[], ◌∷◌}
use Rattle.jh_edn.specs.Print.{print}
use Rattle.jh_edn.proofs.JoinLemmas.{once}
use Rattle.jh_edn.proofs.PrintedBackLemmas.{printed_spells}
use Rattle.jh_edn.proofs.SpelledLemmas.{all_printable}
use Rattle.jh_edn.proofs.laws.print_laws.Goals as goal

pub returns-clause-spells : goal.returns-clause-spells
returns-clause-spells c = printed_spells

pub returns-clause-alone : goal.returns-clause-alone
returns-clause-alone c = λ x ys h spelled. once (print x) ys (x ∷ []) spelled (printed_spells x h)

pub returns-clause-spelled : goal.returns-clause-spelled
returns-clause-spelled c = all_printable
