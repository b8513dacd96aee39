use Rattle.std.proofs.Common.{◌≡◌, take}
use Rattle.jh_plots.specs.Panels as rule
use Rattle.jh_plots.proofs.panels.own_calls.Given as goal

abbrev pub invariant-loop-call : goal.invariant-loop-call
invariant-loop-call l = l.own.items ≡ rule.own_calls (take l.call-index l.calls) l.panel
