use Rattle.jh_lexemes.proofs.WholeLemmas.{all_joined}
use Rattle.jh_lexemes.proofs.laws.lexemes_are_whole.Goals as goal

pub returns : goal.returns
returns c = all_joined
