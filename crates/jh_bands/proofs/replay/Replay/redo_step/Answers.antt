use Rattle.jh_bands.specs.BandsInside.{view_all_begun}
use Rattle.jh_bands.proofs.EditLemmas.{adds_none}
use Rattle.jh_bands.proofs.replay.Replay.redo_step.Goals as goal

pub returns-in_default-clause-changes : goal.returns-in_default-clause-changes
returns-in_default-clause-changes c = adds_none c.args.index (view_all_begun c.args.self.now.active.items) c.args.changes.now.items
