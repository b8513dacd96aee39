use Rattle.std.proofs.Common.{◌∙◌}
use Rattle.jh_bank.proofs.ReadLemmas.{bad_place_held}
use Rattle.jh_bank.proofs.reads.bad_read_place.Goals as goal

pub returns : goal.returns
returns c = c.first_bad.ensures ∙ bad_place_held c.args.history.now
