use Rattle.std.proofs.Common.{subst, sym}
use Rattle.jh_checkers.specs.Explanations.{IsBecause}
use Rattle.jh_checkers.proofs.BecauseLemmas.{because}
use Rattle.jh_checkers.proofs.explanation.reason_of.Goals as goal

pub returns : goal.returns
returns c =
    subst (IsBecause c.args.ops.now c.args.initial) (sym c.reason_in.ensures)
    (because c.args.ops.now c.args.initial c.in_ok-verdict.verdict c.requires.none c.in_ok-verdict.ensures)
