use Rattle.jh_gen.proofs.TextLemmas.{no_part-some}
use Rattle.jh_gen.proofs.text.shape_of_none.Goals as goal

pub returns-in_default-clause-parsed : goal.returns-in_default-clause-parsed
returns-in_default-clause-parsed c = no_part-some c.args.parts.now c.in_default.len_at_least
