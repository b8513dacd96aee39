use Rattle.std.proofs.Common.{rules}
use Rattle.jh_ops.proofs.RecordLemmas.{heading_stands}
use Rattle.jh_ops.proofs.words.write_heading.Goals as goal

pub returns-clause-heading : goal.returns-clause-heading
returns-clause-heading c = heading_stands c.args.heading c.args.words.now (search rules) c.requires
