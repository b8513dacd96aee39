use Rattle.std.proofs.Common.{◌∙◌, None, ap}
use Rattle.jh_bands.specs.BandsInside.{view_all_begun, view_replay, view_step}
use Rattle.jh_bands.specs.Replay.{next_active}
use Rattle.jh_bands.proofs.EditLemmas.{adds_none}
use Rattle.jh_bands.proofs.ReplayLemmas.{replayed}
use Rattle.jh_bands.proofs.replay.Replay.take_step.Goals as goal

pub returns-in-None : goal.returns-in-None
returns-in-None c =
    record {
      leads = record {
        replay =
            replayed (view_replay c.args.self.now) c.args.step None c.in_default.not-Undo c.in_default.not-Redo
            (c.in-None.ensures.next ∙ ap (λ xs. next_active (view_all_begun xs) (view_step c.args.step)) c.deref.ensures.value);
        fit = c.requires.fit;
      };
      changes = adds_none c.args.index (view_all_begun c.args.self.now.active.items) c.args.changes.now.items;
    }
