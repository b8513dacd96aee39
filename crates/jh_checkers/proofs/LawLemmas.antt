-- Two findings of one history.
use Rattle.std.proofs.Common.{◌≡◌, ◌∙◌, ◌+◌, ◌<◌, ℕ, ℤ, Bool, true, false, List, [], ◌∷◌, map, refl, sym, ap, subst, arith}
use Rattle.std.specs.Prelude.{◌≢◌, IsTrue, Option, Some, None, IsSomeAnd, slice_get}
use Rattle.jh_ops.specs.Operation.{Operation, operation}
use Rattle.jh_check.specs.declared.verdict.Verdict.{Verdict}
use Rattle.jh_linear.specs.Stuck.{IsStuck}
use Rattle.jh_linear.specs.Verdict.{IsJudged}
use Rattle.jh_linear.specs.declared.operations.Object.{Object}
use Rattle.jh_linear.specs.declared.register.RegOp.{RegOp}
use Rattle.jh_linear.specs.declared.verdict.LinVerdict.{LinVerdict}
use Rattle.jh_linear.specs.declared.verdict.LinVerdict.TheVariants.{Valid, Invalid, Unknown}
use Rattle.jh_linear.specs.declared.verdict.Stuck.{Stuck}
use Rattle.jh_checkers.specs.Explanations.{Explains, IsExplained, numbers_pending, stuck_point}
use Rattle.jh_checkers.specs.Findings.{AreObjectOps, IsFindingBy, IsLinear, finding_verdict, mutex_start, has_one_finding, has_one_line}
use Rattle.jh_checkers.specs.Findings.{judged_bank, stuck_point_of, verdict_of_register}
use Rattle.jh_checkers.specs.Lines.{finding_value}
use Rattle.jh_checkers.specs.declared.checker.Checker.{Checker}
use Rattle.jh_checkers.specs.declared.explanation.Explanation.{Explanation}
use Rattle.jh_checkers.specs.declared.finding.Finding.{Finding}
use Rattle.jh_checkers.specs.declared.finding.Judging.{Judging}
use Rattle.jh_fifo_check.proofs.AgreeLemmas.{fifo_agree}
use Rattle.jh_checkers.proofs.LineLawLemmas.{bank_lines, bank_verdicts, queue_lines, queue_verdicts}

-- ---- one finding

pub one_finding : (checker : Checker) (judging : Judging) (history : List Operation) (a b : Finding) → IsTrue (has_one_finding checker)
    → IsFindingBy checker judging history a → IsFindingBy checker judging history b → a ≡ b
one_finding Checker.Set judging history a b one x y = x.1 ∙ sym y.1
one_finding Checker.Counter judging history a b one x y = x.1 ∙ sym y.1
one_finding Checker.Ids judging history a b one x y = x ∙ sym y
one_finding Checker.Register judging history a b one x y = absurd cc
one_finding Checker.ListAppend judging history a b one x y = absurd cc
one_finding Checker.TotalQueue judging history a b one x y = x.1 ∙ sym y.1
one_finding Checker.Queue judging history a b one x y = absurd cc
one_finding Checker.Bank judging history a b one x y = absurd cc
one_finding Checker.SetFull judging history a b one x y = x.1 ∙ sym y.1
one_finding Checker.Mutex judging history a b one x y = absurd cc
one_finding Checker.FifoQueue judging history a b one x y = absurd cc

-- ---- one line

pub one_line : (checker : Checker) (judging : Judging) (history : List Operation) (a b : Finding) → IsTrue (has_one_line checker)
    → IsFindingBy checker judging history a → IsFindingBy checker judging history b → finding_value a ≡ finding_value b
one_line Checker.Set judging history a b one x y = ap finding_value (x.1 ∙ sym y.1)
one_line Checker.Counter judging history a b one x y = ap finding_value (x.1 ∙ sym y.1)
one_line Checker.Ids judging history a b one x y = ap finding_value (x ∙ sym y)
one_line Checker.Register judging history a b one x y = absurd cc
one_line Checker.ListAppend judging history a b one x y = absurd cc
one_line Checker.TotalQueue judging history a b one x y = ap finding_value (x.1 ∙ sym y.1)
one_line Checker.Queue judging history a b one x y =
    ap finding_value x.1.1 ∙ queue_lines history x.1.0 y.1.0 x.1.2 y.1.2 ∙ sym (ap finding_value y.1.1)
one_line Checker.Bank judging history a b one x y =
    ap finding_value x.1.1 ∙ bank_lines (judged_bank judging) history x.1.0 y.1.0 x.1.2 y.1.2 ∙ sym (ap finding_value y.1.1)
one_line Checker.SetFull judging history a b one x y = ap finding_value (x.1 ∙ sym y.1)
one_line Checker.Mutex judging history a b one x y = absurd cc
one_line Checker.FifoQueue judging history a b one x y = absurd cc

pub one_verdict : (checker : Checker) (judging : Judging) (history : List Operation) (a b : Finding) → IsTrue (has_one_line checker)
    → IsFindingBy checker judging history a → IsFindingBy checker judging history b → finding_verdict a ≡ finding_verdict b
one_verdict Checker.Set judging history a b one x y = ap finding_verdict (x.1 ∙ sym y.1)
one_verdict Checker.Counter judging history a b one x y = ap finding_verdict (x.1 ∙ sym y.1)
one_verdict Checker.Ids judging history a b one x y = ap finding_verdict (x ∙ sym y)
one_verdict Checker.Register judging history a b one x y = absurd cc
one_verdict Checker.ListAppend judging history a b one x y = absurd cc
one_verdict Checker.TotalQueue judging history a b one x y = ap finding_verdict (x.1 ∙ sym y.1)
one_verdict Checker.Queue judging history a b one x y =
    ap finding_verdict x.1.1 ∙ queue_verdicts history x.1.0 y.1.0 x.1.2 y.1.2 ∙ sym (ap finding_verdict y.1.1)
one_verdict Checker.Bank judging history a b one x y =
    ap finding_verdict x.1.1 ∙ bank_verdicts (judged_bank judging) history x.1.0 y.1.0 x.1.2 y.1.2 ∙ sym (ap finding_verdict y.1.1)
one_verdict Checker.SetFull judging history a b one x y = ap finding_verdict (x.1 ∙ sym y.1)
one_verdict Checker.Mutex judging history a b one x y = absurd cc
one_verdict Checker.FifoQueue judging history a b one x y = absurd cc

-- ---- no two verdicts

somes_one : {X : Type 0} (xs ys : List X) → map Some xs ≡ map Some ys → xs ≡ ys
somes_one [] [] e = refl
somes_one [] (y ∷ ys) e = absurd cc
somes_one (x ∷ xs) [] e = absurd cc
somes_one (x ∷ xs) (y ∷ ys) e =
    let first : x ≡ y = cc in
    let rest : map Some xs ≡ map Some ys = cc in
    let others : xs ≡ ys = somes_one xs ys rest in
    λ i. first i ∷ others i

operations_one : (object : Object) (history : List Operation) (a b : List RegOp) → AreObjectOps object history a → AreObjectOps object history b → a ≡ b
operations_one object history a b x y = somes_one a b (sym x.1 ∙ y.1)

orders_agree : (ops : List RegOp) (initial : Option ℤ) (budget : ℕ) (a b : LinVerdict) → IsJudged ops initial budget a → IsJudged ops initial budget b
    → verdict_of_register a ≡ Verdict.True → verdict_of_register b ≡ Verdict.False → ⊥
orders_agree ops initial budget (Valid order) (Invalid stuck) x y yes_a no_b = y.1 order x.1
orders_agree ops initial budget (Valid order) (Valid other) x y yes_a no_b = absurd cc
orders_agree ops initial budget (Valid order) (Unknown reached) x y yes_a no_b = absurd cc
orders_agree ops initial budget (Invalid stuck) b x y yes_a no_b = absurd cc
orders_agree ops initial budget (Unknown reached) b x y yes_a no_b = absurd cc

linear_agree : (object : Object) (initial : Option ℤ) (judging : Judging) (history : List Operation) (a b : LinVerdict) (d e : Option Explanation)
    → IsLinear object initial judging history a d → IsLinear object initial judging history b e
    → verdict_of_register a ≡ Verdict.True → verdict_of_register b ≡ Verdict.False → ⊥
linear_agree object initial judging history a b d e x y yes_a no_b =
    orders_agree x.0 initial judging.budget a b x.2
    (subst (λ ops. IsJudged ops initial judging.budget b) (operations_one object history y.0 x.0 y.1 x.1) y.2) yes_a no_b

apart : (a b : Verdict) → a ≡ b → a ≡ Verdict.True → b ≡ Verdict.False → ⊥
apart a b same yes_a no_b =
    let both : Verdict.True ≡ Verdict.False = sym yes_a ∙ same ∙ no_b in
    absurd cc

pub verdicts_agree : (checker : Checker) (judging : Judging) (history : List Operation) (a b : Finding) → checker ≢ Checker.ListAppend
    → IsFindingBy checker judging history a → IsFindingBy checker judging history b
    → finding_verdict a ≡ Verdict.True → finding_verdict b ≡ Verdict.False → ⊥
verdicts_agree Checker.Register judging history a b append x y = λ yes_a no_b.
    linear_agree Object.Register judging.initial judging history x.0 y.0 x.1 y.1 x.3 y.3
    (sym (ap finding_verdict x.2) ∙ yes_a) (sym (ap finding_verdict y.2) ∙ no_b)
verdicts_agree Checker.Mutex judging history a b append x y = λ yes_a no_b.
    linear_agree Object.Mutex (Some (mutex_start judging.locked)) judging history x.0 y.0 x.1 y.1 x.3 y.3
    (sym (ap finding_verdict x.2) ∙ yes_a) (sym (ap finding_verdict y.2) ∙ no_b)
verdicts_agree Checker.ListAppend judging history a b append x y = absurd (append refl)
verdicts_agree Checker.Set judging history a b append x y = apart _ _ (one_verdict Checker.Set judging history a b refl x y)
verdicts_agree Checker.Counter judging history a b append x y = apart _ _ (one_verdict Checker.Counter judging history a b refl x y)
verdicts_agree Checker.Ids judging history a b append x y = apart _ _ (one_verdict Checker.Ids judging history a b refl x y)
verdicts_agree Checker.TotalQueue judging history a b append x y = apart _ _ (one_verdict Checker.TotalQueue judging history a b refl x y)
verdicts_agree Checker.Queue judging history a b append x y = apart _ _ (one_verdict Checker.Queue judging history a b refl x y)
verdicts_agree Checker.Bank judging history a b append x y = apart _ _ (one_verdict Checker.Bank judging history a b refl x y)
verdicts_agree Checker.SetFull judging history a b append x y = apart _ _ (one_verdict Checker.SetFull judging history a b refl x y)
verdicts_agree Checker.FifoQueue judging history a b append x y =
    apart _ _ (ap finding_verdict x.1.1 ∙ fifo_agree judging.explain judging.explain history x.1.0 y.1.0 x.1.2 y.1.2 ∙ sym (ap finding_verdict y.1.1))

-- ---- one place where an object is stuck

same_end : (ops : List RegOp) (initial : Option ℤ) (a b : Stuck) → IsStuck ops initial a → IsStuck ops initial b → a.end ≡ b.end
same_end ops initial a b x y =
    let not_below : a.end < b.end → ⊥ = λ less. (let order = y.least (a.end + 1) (omega arith) in x.behind order.0 order.1) in
    let not_above : b.end < a.end → ⊥ = λ less. (let order = x.least (b.end + 1) (omega arith) in y.behind order.0 order.1) in
    omega (arith, not_below, not_above)

somes_same : {X : Type 0} (x y : X) → Some x ≡ Some y → x ≡ y
somes_same x y e = cc

same_explained : (history : List Operation) (ops : List RegOp) (initial : Option ℤ) (a b : ℕ) (d e : Option Explanation) → a ≡ b
    → IsSomeAnd d (Explains history ops initial a) → IsSomeAnd e (Explains history ops initial b) → stuck_point d ≡ stuck_point e
same_explained history ops initial a b None e same x y = absurd x
same_explained history ops initial a b (Some d) None same x y = absurd y
same_explained history ops initial a b (Some d) (Some e) same x y =
    let one : operation d.completion ≡ operation e.completion =
    somes_same (operation d.completion) (operation e.completion) (sym x.completion ∙ ap (slice_get history) same ∙ y.completion) in
    let pending : d.pending.items ≡ e.pending.items = x.pending ∙ ap (numbers_pending ops) same ∙ sym y.pending in
    λ i. Some (one i, pending i)

same_stuck : (explain : Bool) (history : List Operation) (ops : List RegOp) (initial : Option ℤ) (budget : ℕ) (a b : LinVerdict) (d e : Option Explanation)
    → IsJudged ops initial budget a → IsJudged ops initial budget b → IsExplained explain history ops initial a d → IsExplained explain history ops initial b e
    → verdict_of_register a ≡ Verdict.False → verdict_of_register b ≡ Verdict.False → stuck_point d ≡ stuck_point e
same_stuck true history ops initial budget (Invalid a) (Invalid b) d e x y m n no_a no_b =
    same_explained history ops initial a.end b.end d e (same_end ops initial a b x.2 y.2) m n
same_stuck false history ops initial budget (Invalid a) (Invalid b) d e x y m n no_a no_b = ap stuck_point (m ∙ sym n)
same_stuck explain history ops initial budget (Invalid a) (Valid order) d e x y m n no_a no_b = absurd cc
same_stuck explain history ops initial budget (Invalid a) (Unknown reached) d e x y m n no_a no_b = absurd cc
same_stuck explain history ops initial budget (Valid order) b d e x y m n no_a no_b = absurd cc
same_stuck explain history ops initial budget (Unknown reached) b d e x y m n no_a no_b = absurd cc

linear_stuck : (object : Object) (initial : Option ℤ) (judging : Judging) (history : List Operation) (a b : LinVerdict) (d e : Option Explanation)
    → IsLinear object initial judging history a d → IsLinear object initial judging history b e
    → verdict_of_register a ≡ Verdict.False → verdict_of_register b ≡ Verdict.False → stuck_point d ≡ stuck_point e
linear_stuck object initial judging history a b d e x y no_a no_b =
    let Q : List RegOp → Type 0 = λ ops. IsJudged ops initial judging.budget b × IsExplained judging.explain history ops initial b e in
    let also = subst Q (operations_one object history y.0 x.0 y.1 x.1) (y.2, y.3) in
    same_stuck judging.explain history x.0 initial judging.budget a b d e x.2 also.0 x.3 also.1 no_a no_b

pub stuck_agree : (checker : Checker) (judging : Judging) (history : List Operation) (a b : Finding)
    → IsFindingBy checker judging history a → IsFindingBy checker judging history b
    → finding_verdict a ≡ Verdict.False → finding_verdict b ≡ Verdict.False → stuck_point_of a ≡ stuck_point_of b
stuck_agree Checker.Set judging history a b x y no_a no_b = ap stuck_point_of (x.1 ∙ sym y.1)
stuck_agree Checker.Counter judging history a b x y no_a no_b = ap stuck_point_of (x.1 ∙ sym y.1)
stuck_agree Checker.Ids judging history a b x y no_a no_b = ap stuck_point_of (x ∙ sym y)
stuck_agree Checker.Register judging history a b x y no_a no_b =
    ap stuck_point_of x.2
    ∙ linear_stuck Object.Register judging.initial judging history x.0 y.0 x.1 y.1 x.3 y.3
    (sym (ap finding_verdict x.2) ∙ no_a) (sym (ap finding_verdict y.2) ∙ no_b)
    ∙ sym (ap stuck_point_of y.2)
stuck_agree Checker.ListAppend judging history a b x y no_a no_b = ap stuck_point_of x.1 ∙ sym (ap stuck_point_of y.1)
stuck_agree Checker.TotalQueue judging history a b x y no_a no_b = ap stuck_point_of (x.1 ∙ sym y.1)
stuck_agree Checker.Queue judging history a b x y no_a no_b = ap stuck_point_of x.1.1 ∙ sym (ap stuck_point_of y.1.1)
stuck_agree Checker.Bank judging history a b x y no_a no_b = ap stuck_point_of x.1.1 ∙ sym (ap stuck_point_of y.1.1)
stuck_agree Checker.SetFull judging history a b x y no_a no_b = ap stuck_point_of (x.1 ∙ sym y.1)
stuck_agree Checker.Mutex judging history a b x y no_a no_b =
    ap stuck_point_of x.2
    ∙ linear_stuck Object.Mutex (Some (mutex_start judging.locked)) judging history x.0 y.0 x.1 y.1 x.3 y.3
    (sym (ap finding_verdict x.2) ∙ no_a) (sym (ap finding_verdict y.2) ∙ no_b)
    ∙ sym (ap stuck_point_of y.2)
stuck_agree Checker.FifoQueue judging history a b x y no_a no_b = ap stuck_point_of x.1.1 ∙ sym (ap stuck_point_of y.1.1)
