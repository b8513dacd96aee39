-- What a contract sees of a fault as a program reads it (this project's own).
use Rattle.jh_edn.specs.View.{views, view_pairs}
use Rattle.jh_step_texts.specs.FaultText.{FaultSpelling}
use Rattle.jh_step_texts.specs.FaultText.FaultSpelling.{Links, Nodes, Bumps, SplitOne, Grudge}
use Rattle.jh_step_texts.specs.declared.spelling.SpelledFault.{SpelledFault}

-- a fault, by the values that it borrows
abbrev pub spelling_of : SpelledFault → FaultSpelling
spelling_of (SpelledFault.Links given links) = Links given (views links.now)
spelling_of (SpelledFault.Nodes kind nodes) = Nodes kind (views nodes.now)
spelling_of (SpelledFault.Bumps bumps) = Bumps (view_pairs bumps.now)
spelling_of (SpelledFault.SplitOne loner) = SplitOne loner.now
spelling_of (SpelledFault.Grudge named) = Grudge named
