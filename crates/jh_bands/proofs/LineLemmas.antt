-- The lines of a history, record by record.
use Rattle.std.proofs.Common.{◌≡◌, ℕ, ◌+◌, ◌<◌, true, false, cond, List, [], ◌∷◌, ◌++◌, length, drop, get_or, Option, sym, ap, ◌∙◌, append_assoc}
use Rattle.std.specs.Prelude.{ℤ, map}
use Rattle.jh_edn.specs.Edn.{Edn}
use Rattle.jh_ops.specs.Operation.{is_client, operation, operations}
use Rattle.jh_ops.specs.declared.operation.Op.{Op}
use Rattle.jh_bands.specs.Bands.{asked_in}
use Rattle.jh_bands.specs.Lines.{LineValue, line_label, nemesis_lines_from, view_line}
use Rattle.jh_bands.specs.Replay.{StepValue}
use Rattle.jh_bands.specs.declared.band.Line.{Line}
use Rattle.jh_bands.proofs.MomentLemmas.{drop_one}

-- these lines, and those of the records from one on, are all
abbrev pub Along : List Line → List Edn → Option (ℤ × StepValue) → List Op → ℕ → List LineValue → Type 0
Along found steps waiting history n all = map view_line found ++ nemesis_lines_from steps waiting n (drop n (operations history)) ≡ all

-- a client's record has no line
pub along_client : (found : List Line) (steps : List Edn) (waiting : Option (ℤ × StepValue)) (history : List Op) (n : ℕ) (op : Op) (all : List LineValue) → n < length history → op ≡ get_or history n op
    → is_client (operation op).process ≡ true → Along found steps waiting history n all → Along found steps waiting history (n + 1) all
along_client found steps waiting history n op all below same client along =
    let rest = drop (n + 1) (operations history) in
    let line : LineValue = record { index = n; label = line_label steps waiting (operation op) } in
    let left : nemesis_lines_from steps waiting n (drop n (operations history)) ≡ nemesis_lines_from steps waiting (n + 1) rest =
    ap (nemesis_lines_from steps waiting n) (drop_one history n op below same)
    ∙ ap (λ b. cond b (nemesis_lines_from steps waiting (n + 1) rest) (line ∷ nemesis_lines_from steps (asked_in steps (operation op)) (n + 1) rest)) client in
    ap (λ ls. map view_line found ++ ls) (sym left) ∙ along

-- one of the nemesis has one
pub along_line : (found more : List Line) (steps : List Edn) (waiting next : Option (ℤ × StepValue)) (history : List Op) (n : ℕ) (op : Op) (label : List ℕ) (all : List LineValue)
    → n < length history → op ≡ get_or history n op → is_client (operation op).process ≡ false → label ≡ line_label steps waiting (operation op) → next ≡ asked_in steps (operation op)
    → map view_line more ≡ map view_line found ++ record { index = n; label = label } ∷ [] → Along found steps waiting history n all → Along more steps next history (n + 1) all
along_line found more steps waiting next history n op label all below same client says asks grown along =
    let rest = drop (n + 1) (operations history) in
    let line : LineValue = record { index = n; label = line_label steps waiting (operation op) } in
    let behind = nemesis_lines_from steps (asked_in steps (operation op)) (n + 1) rest in
    let left : nemesis_lines_from steps waiting n (drop n (operations history)) ≡ line ∷ behind =
    ap (nemesis_lines_from steps waiting n) (drop_one history n op below same) ∙ ap (λ b. cond b (nemesis_lines_from steps waiting (n + 1) rest) (line ∷ behind)) client in
    ap (λ ls. ls ++ nemesis_lines_from steps next (n + 1) rest) (grown ∙ ap (λ text. map view_line found ++ record { index = n; label = text } ∷ []) says)
    ∙ append_assoc (map view_line found) (line ∷ []) (nemesis_lines_from steps next (n + 1) rest)
    ∙ ap (λ w. map view_line found ++ line ∷ nemesis_lines_from steps w (n + 1) rest) asks
    ∙ ap (λ ls. map view_line found ++ ls) (sym left) ∙ along
