-- Steps as EDN values (this project's own): `[:begin ID FAULT]`, `[:withdraw ID]`,
-- `[:withdraw-all]`, `[:undo]` and `[:redo]`, where an ID is an integer of 32 bits. A new step is a
-- new case here.
use Rattle.std.specs.Prelude.{ℕ, ◌^◌, ℤ, pos, negsuc, List, [], ◌∷◌, codes, nat_lt, if◌then◌else◌}
use Rattle.std.specs.Prelude.{option_and_then, Option, Some, None, Result, Ok, Err}
use Rattle.std.specs.Str.{bytes_eq}
use Rattle.jh_edn.specs.Edn.{Edn, int, keyword, elements_of}
use Rattle.jh_env.specs.Faults.{FaultValue}
use Rattle.jh_step_texts.specs.FaultText.{result_or_refusal, fault_spelling, parsed_fault}
use Rattle.jh_nemesis.specs.declared.steps.Step.{Step}
use Rattle.jh_nemesis.specs.declared.steps.Step.TheVariants.{Begin, Withdraw, WithdrawAll, Undo}
use Rattle.jh_nemesis.specs.declared.steps.Step.TheVariants.{Redo}
use Rattle.jh_step_texts.specs.declared.steps.StepTextError.{StepTextError}
use Rattle.jh_step_texts.specs.declared.steps.StepTextError.TheVariants.{BadStep, BadId}

-- an id: an integer of 32 bits that is not negative
abbrev pub id_of : ℤ → Option ℕ
id_of (pos n) = if nat_lt n (2 ^ 32) then Some n else None
id_of (negsuc n) = None

abbrev pub begin_of_fault : ℕ → Result FaultValue StepTextError → Result Step StepTextError
begin_of_fault id (Ok fault) = Ok (Begin id fault)
begin_of_fault id (Err refusal) = Err refusal

abbrev pub parsed_begin : List (List ℕ) → ℤ → Edn → Result Step StepTextError
parsed_begin names z fault =
    result_or_refusal (fault_spelling fault) BadStep
    (λ fault. result_or_refusal (id_of z) BadId
    (λ id. begin_of_fault id (parsed_fault names fault)))

abbrev pub parsed_withdraw : ℤ → Result Step StepTextError
parsed_withdraw z = result_or_refusal (id_of z) BadId (λ id. Ok (Withdraw id))

-- a step that is a keyword alone
abbrev pub parsed_keyword : List ℕ → Result Step StepTextError
parsed_keyword name =
    if bytes_eq name (codes "withdraw-all") then Ok WithdrawAll
    else if bytes_eq name (codes "undo") then Ok Undo
    else if bytes_eq name (codes "redo") then Ok Redo
    else Err BadStep

abbrev pub step_of_elements : List (List ℕ) → List Edn → Result Step StepTextError
step_of_elements names (keyword name ∷ []) = parsed_keyword name
step_of_elements names (keyword name ∷ int z ∷ []) =
    if bytes_eq name (codes "withdraw") then parsed_withdraw z else Err BadStep
step_of_elements names (keyword name ∷ int z ∷ fault ∷ []) =
    if bytes_eq name (codes "begin") then parsed_begin names z fault else Err BadStep
step_of_elements names _ = Err BadStep

-- The step that a value means, or the first refusal that applies: its shape is looked at first, and
-- whole, then the id, then the fault.
abbrev pub parsed_step : List (List ℕ) → Edn → Result Step StepTextError
parsed_step names v = result_or_refusal (elements_of v) BadStep (step_of_elements names)

abbrev fault_in : List Edn → Option Edn
fault_in (keyword name ∷ int z ∷ fault ∷ []) = Some fault
fault_in _ = None

-- the value of the fault that a begin has
abbrev pub fault_of_begin : Edn → Option Edn
fault_of_begin v = option_and_then fault_in (elements_of v)
