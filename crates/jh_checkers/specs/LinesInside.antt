-- The line of what has no order, piece by piece: proofs rest on it, and no public clause names it. This
-- project's own.
use Rattle.std.specs.Prelude.{ℕ, List, ◌++◌, codes}
use Rattle.jh_edn.specs.Parts.{behind_pair_text}
use Rattle.jh_edn.specs.Print.{print}
use Rattle.jh_ops.specs.Operation.{operation}
use Rattle.jh_ops.specs.OperationWritten.{value_written}
use Rattle.jh_check.specs.Lines.{verdict_value}
use Rattle.jh_check.specs.declared.verdict.Verdict.{Verdict}
use Rattle.jh_checkers.specs.Lines.{held_value, order_value}
use Rattle.jh_checkers.specs.declared.explanation.Explanation.{Explanation}
use Rattle.jh_linear.specs.declared.verdict.Stuck.{Stuck}

-- up to the order of what is before
abbrev pub stuck_opening : Stuck → Explanation → List ℕ
stuck_opening stuck explanation =
    ((codes "{:valid? " ++ print (verdict_value Verdict.False))
    ++ behind_pair_text (codes "stuck") (value_written (operation explanation.completion)))
    ++ behind_pair_text (codes "order") (order_value stuck.order)

-- of a register, up to what is pending
abbrev pub stuck_register_opening : Stuck → Explanation → List ℕ
stuck_register_opening stuck explanation =
    (stuck_opening stuck explanation
    ++ behind_pair_text (codes "value") (held_value stuck.value))
    ++ behind_pair_text (codes "pending") (order_value explanation.pending.items)

-- of a mutex, from what is pending on
abbrev pub stuck_end : Explanation → List ℕ
stuck_end explanation =
    behind_pair_text (codes "pending") (order_value explanation.pending.items) ++ codes "}"
