use Rattle.std.proofs.Common.{subst}
use Rattle.jh_fifo.specs.declared.verdict.FifoReason.TheVariants.{NeverEmpty}
use Rattle.jh_fifo.specs.Moments.{IsEmptied}
use Rattle.jh_fifo.specs.Reasons.{IsNeverEmpty}
use Rattle.jh_fifo.proofs.JudgeLemmas.{invalid}
use Rattle.jh_fifo.proofs.judge.judge_sound.Goals as goal

pub returns-in-Never : goal.returns-in-Never
returns-in-Never c =
    let ops = c.args.ops.now in
    let never : IsNeverEmpty ops c.in-Never.place = subst (λ e. IsEmptied ops e) c.in-Never.is (c.in_ok-place.ensures {u = tt}) in
    invalid ops c.requires.sound.fit (NeverEmpty c.in-Never.place) never
