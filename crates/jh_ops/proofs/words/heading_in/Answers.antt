use Rattle.jh_ops.proofs.RecordReadLemmas.{first_word_of, first_of}
use Rattle.jh_ops.proofs.words.heading_in.Goals as goal

pub returns-in_err-first : goal.returns-in_err-first
returns-in_err-first c =
    rw c.from_residual.ensures (λ r can are. c.in_err-first.ensures (first_word_of r) (first_of c.args.words.now 0 r are))
