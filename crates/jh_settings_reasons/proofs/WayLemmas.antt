-- The text of a way, step by step.
use Rattle.std.proofs.Common.{◌≡◌, refl, sym, ap, ◌∙◌, ℕ, List, [], ◌∷◌, ◌++◌, length, take, drop, append_assoc, arith, ◌<◌, ◌≤◌, ◌-◌, get_or, suc, zero}
use Rattle.jh_settings_reasons.specs.Generators.{behind_step, form_step_text, way_text}
use Rattle.jh_gen.specs.declared.bad_parts.FormStep.{FormStep}

pub way_goes_on : (all line next last : List ℕ) (rest later : List FormStep) (step : FormStep) → rest ≡ step ∷ later → line ++ way_text rest ≡ all → next ≡ line ++ form_step_text step → last ≡ next ++ behind_step later → last ++ way_text later ≡ all
way_goes_on all line next last rest later step e so_far h k =
    ap (λ xs. xs ++ way_text later) (k ∙ ap (λ xs. xs ++ behind_step later) h)
    ∙ append_assoc (line ++ form_step_text step) (behind_step later) (way_text later)
    ∙ append_assoc line (form_step_text step) (behind_step later ++ way_text later)
    ∙ ap (λ way. line ++ way_text way) (sym e) ∙ so_far
