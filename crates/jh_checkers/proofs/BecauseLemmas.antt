-- Of operations that have no order the judge of values that are written once names the reason, or some
-- value is not written once.
use Rattle.std.proofs.Common.{ℤ, List, Option}
use Rattle.jh_linear.specs.Verdict.{HaveNoOrder}
use Rattle.jh_linear.specs.declared.register.RegOp.{RegOp}
use Rattle.jh_unique.specs.Judged.{IsUniqueVerdict}
use Rattle.jh_unique.specs.declared.verdict.UniqueVerdict.{UniqueVerdict}
use Rattle.jh_unique.specs.declared.verdict.UniqueVerdict.TheVariants.{Valid, Invalid, Repeated, WritesInitial}
use Rattle.jh_checkers.specs.Explanations.{IsBecause}
use Rattle.jh_checkers.specs.RegisterInside.{reason_in}

pub because : (ops : List RegOp) (initial : Option ℤ) (verdict : UniqueVerdict) → HaveNoOrder ops initial → IsUniqueVerdict ops initial verdict
    → IsBecause ops initial (reason_in verdict)
because ops initial (Valid order) none judged = λ once. none order judged.1
because ops initial (Invalid reason) none judged = (judged.0, judged.1)
because ops initial (Repeated first second) none judged = λ once.
    let both = judged.1 in
    judged.0 (once.apart both.0 first second both.1 both.2)
because ops initial (WritesInitial number) none judged = λ once. once.fresh judged.0 number judged.1 judged.2
