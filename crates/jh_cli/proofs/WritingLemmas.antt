-- What is written for an input, where the bytes of its reader are known.
use Rattle.std.proofs.Common.{◌≡◌, ℕ, List, sym, subst}
use Rattle.std.specs.Prelude.{Option, Some, None, Result, Ok, Err, IfErr, IfOk, IfSome, OnOk}
use Rattle.std.specs.Io.KnownBytes.{Appends}
use Rattle.jh_cli.specs.Outputs.{OnInput, WritesOutput}
use Rattle.jh_cli.specs.declared.error.CliError.{CliError}
use Rattle.jh_cli.specs.declared.error.CliError.TheVariants.{Write}

-- what follows from a fact on the input, whatever that is
pub on_input : (fact result : List ℕ → Type 0) (known : Option (List ℕ)) → ((input : List ℕ) → fact input → result input) → IfSome known fact → IfSome known result
on_input fact result None follows given = tt
on_input fact result (Some input) follows given = follows input given

-- what holds whatever the input is
pub on_any_input : (result : List ℕ → Type 0) (known : Option (List ℕ)) → ((input : List ℕ) → result input) → IfSome known result
on_any_input result None holds = tt
on_any_input result (Some input) holds = holds input

-- two facts on the input are one
pub both_on_input : (one other : List ℕ → Type 0) (known : Option (List ℕ)) → IfSome known one → IfSome known other → IfSome known (λ input. one input × other input)
both_on_input one other None first second = tt
both_on_input one other (Some input) first second = (first, second)

-- an output that goes with the input was written whole
pub output_written : (IsText : List ℕ → ℕ → List ℕ → Type 0) (known before after : Option (List ℕ)) (result : Result ℕ CliError) (status : ℕ) (text : List ℕ)
    → IfSome known (λ input. IsText input status text) → IfOk result (λ s. s ≡ status) → OnOk result (Appends before after text)
    → IfOk result (λ s. WritesOutput known IsText s before after)
output_written IsText known before after (Ok s) status text goes same appended =
    on_input _ _ known (λ input is. (text, subst (λ s. IsText input s text) (sym same) is, appended)) goes
output_written IsText known before after (Err e) status text goes same appended = tt

-- or it was not, which is a failed write
pub output_refused : (IsText : List ℕ → ℕ → List ℕ → Type 0) (Refuses : List ℕ → CliError → Type 0) (known : Option (List ℕ)) (result : Result ℕ CliError) (status : ℕ) (text : List ℕ)
    → ((input : List ℕ) → IsText input status text → Refuses input Write)
    → IfSome known (λ input. IsText input status text) → IfErr result (λ e. e ≡ Write)
    → IfErr result (λ e. OnInput known (λ input. Refuses input e))
output_refused IsText Refuses known (Ok s) status text allows goes failed = tt
output_refused IsText Refuses known (Err e) status text allows goes failed =
    on_input _ _ known (λ input is. subst (Refuses input) (sym failed) (allows input is)) goes
