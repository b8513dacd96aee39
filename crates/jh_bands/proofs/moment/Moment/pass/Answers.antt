use Rattle.jh_bands.specs.BandsInside.{view_all_begun}
use Rattle.jh_bands.proofs.EditLemmas.{adds_none}
use Rattle.jh_bands.proofs.moment.Moment.pass.Goals as goal

pub returns-then-is_client-clause-changes : goal.returns-then-is_client-clause-changes
returns-then-is_client-clause-changes c = adds_none c.args.index (view_all_begun c.args.self.now.replay.active.items) c.args.changes.now.items

pub returns-in-None-clause-changes : goal.returns-in-None-clause-changes
returns-in-None-clause-changes c = adds_none c.args.index (view_all_begun c.args.self.now.replay.active.items) c.args.changes.now.items
