use Rattle.std.proofs.Common.{rules}
use Rattle.jh_gen.proofs.TextLemmas.{limited-few, limited-many}
use Rattle.jh_gen.proofs.text.limited.Goals as goal
use Rattle.jh_gen.proofs.text.limited.Goals.{in_default-via-then-parts-lt2, in_default-via-else-parts-lt2+else-parts-lt3}

pub returns-in_default-clause-parsed : goal.returns-in_default-clause-parsed
returns-in_default-clause-parsed c = elim c.in_default.branch [
  | in_default-via-then-parts-lt2 w ↦ limited-few c.args.parts.now (search (rules, w))
  | in_default-via-else-parts-lt2+else-parts-lt3 w ↦ limited-many c.args.parts.now (search (rules, w))
]
