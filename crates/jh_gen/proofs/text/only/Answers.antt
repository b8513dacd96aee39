use Rattle.std.proofs.Common.{rules}
use Rattle.jh_gen.proofs.TextLemmas.{only-none, only-many}
use Rattle.jh_gen.proofs.text.only.Goals as goal
use Rattle.jh_gen.proofs.text.only.Goals.{in_default-via-then-parts-lt1, in_default-via-else-parts-lt1+else-parts-lt2}

pub returns-in_default-clause-part : goal.returns-in_default-clause-part
returns-in_default-clause-part c = elim c.in_default.branch [
  | in_default-via-then-parts-lt1 w ↦ only-none c.args.parts.now (search (rules, w))
  | in_default-via-else-parts-lt1+else-parts-lt2 w ↦ only-many c.args.parts.now (search (rules, w))
]
