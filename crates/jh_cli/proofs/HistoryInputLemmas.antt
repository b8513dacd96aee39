-- A history that is refused for a text that a program holds is so for the bytes of its reader.
use Rattle.std.proofs.Common.{◌≡◌, ◌∙◌, ℕ, Bool, List, Option, Some, None, Ok, Err, subst}
use Rattle.std.specs.Prelude.{Result, IfErr, IfSome}
use Rattle.jh_histories.specs.declared.error.ReadHistoryError.{ReadHistoryError}
use Rattle.jh_cli.specs.HistoryInput.{RefusesHistoryInput}

pub refused_for : {X : Type 0} (r : Result X ReadHistoryError) (skips : Bool) (known : Option (List ℕ)) (text items : List ℕ) → text ≡ items
    → IfSome known (λ input. items ≡ input) → IfErr r (RefusesHistoryInput skips text) → IfErr r (λ e. IfSome known (λ input. RefusesHistoryInput skips input e))
refused_for (Ok x) skips known text items same read refused = tt
refused_for (Err e) skips None text items same read refused = tt
refused_for (Err e) skips (Some input) text items same read refused =
    subst (λ t. RefusesHistoryInput skips t e) (same ∙ read) refused
