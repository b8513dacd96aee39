use Rattle.std.proofs.Common.{take}
use Rattle.std.specs.List.{AllZip, enumerate_from}
use Rattle.jh_plots.specs.Panels.{IsPanelOf}
use Rattle.jh_plots.proofs.panels.panels_of.Given as goal

abbrev pub invariant-loop-number : goal.invariant-loop-number
invariant-loop-number l = AllZip (λ numbered. IsPanelOf l.scale l.functions numbered.0 numbered.1.calls.items) (take l.number (enumerate_from 0 l.groups)) l.panels.items
