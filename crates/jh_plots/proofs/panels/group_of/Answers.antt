use Rattle.std.proofs.Common.{◌∙◌}
use Rattle.std.specs.Prelude.{◌==◌}
use Rattle.std.proofs.lemmas.List.Elements.{All-filter, All-same}
use Rattle.jh_plots.specs.CallsInside.{IsCallWithin}
use Rattle.jh_plots.specs.Panels.{own_calls, panel_of}
use Rattle.jh_plots.proofs.panels.group_of.Goals as goal

pub counts_of-requires : goal.counts_of-requires
counts_of-requires c =
    All-same (IsCallWithin c.args.end) c.deref.result.now (own_calls c.args.calls.now c.args.panel) (c.deref.ensures.value ∙ c.in_ok-calls.ensures)
    (All-filter (λ call. panel_of call.function == c.args.panel) (IsCallWithin c.args.end) c.args.calls.now c.requires)
