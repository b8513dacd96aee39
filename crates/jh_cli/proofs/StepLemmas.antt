-- Steps that are parsed one after another.
use Rattle.std.proofs.Common.{◌≡◌, ℕ, suc, ◌+◌, ◌<◌, List, ◌∷◌, ◌++◌, length, take, drop, get_or}
use Rattle.std.proofs.Common.{ap, sym, ◌∙◌, arith, drop-cons, inl, inr}
use Rattle.std.specs.Prelude.{map, ◌⊎◌, Ok, Err, IsOk}
use Rattle.std.proofs.lemmas.List.{length-map, map-append, length-take-le, take-append-drop}
use Rattle.jh_edn.specs.View.{view, views}
use Rattle.jh_edn.specs.declared.value.Value.{Value}
use Rattle.jh_step_texts.specs.StepText.{parsed_step}
use Rattle.jh_nemesis.specs.declared.steps.Step.{Step}
use Rattle.jh_step_texts.specs.declared.steps.StepTextError.TheVariants as StepTextError
use Rattle.jh_cli.specs.Status.{step_error}
use Rattle.jh_cli.specs.EnvRefusals.{HasStepError, RefusesSteps}
use Rattle.jh_cli.specs.declared.error.CliError.{CliError}

-- the first i values mean steps, and the next has this error
has_step_error : (names : List (List ℕ)) (values : List Value) (i : ℕ) (v : Value) (steps : List Step) (error : StepTextError.the_data)
    → i < length values → v ≡ get_or values i v → map (parsed_step names) (views (take i values)) ≡ map Ok steps
    → parsed_step names (view v) ≡ Err error → HasStepError names (views values) (i + 2) error
has_step_error names values i v steps error below is parsed in_error =
    let seam : values ≡ take i values ++ (v ∷ drop (suc i) values) =
    sym (take-append-drop i values) ∙ ap (λ r. take i values ++ r) (rw (← is) at (drop-cons values i v below)) in
    let size : length (views (take i values)) ≡ i = length-map (take i values) view ∙ length-take-le i values (omega arith) in
    record {
      before = views (take i values);
      value = view v;
      after = views (drop (suc i) values);
      parts = ap views seam ∙ map-append view (take i values) (v ∷ drop (suc i) values);
      steps = steps;
      parsed = parsed;
      in_error = in_error;
      number_is = omega (arith, size);
    }

-- what is answered where a value means no step
pub refuses_element : (names : List (List ℕ)) (values : List Value) (i : ℕ) (v : Value) (steps : List Step) (error : StepTextError.the_data) (e : CliError)
    → i < length values → v ≡ get_or values i v → map (parsed_step names) (views (take i values)) ≡ map Ok steps
    → (parsed_step names (view v) ≡ Err error) ⊎ ((error ≡ StepTextError.OutOfMemory) × IsOk (parsed_step names (view v)))
    → e ≡ step_error (i + 2) error → RefusesSteps names (views values) e
refuses_element names values i v steps StepTextError.OutOfMemory e below is parsed answer named = rw named tt
refuses_element names values i v steps StepTextError.BadStep e below is parsed (inl at) named = rw named (has_step_error names values i v steps StepTextError.BadStep below is parsed at)
refuses_element names values i v steps StepTextError.BadId e below is parsed (inl at) named = rw named (has_step_error names values i v steps StepTextError.BadId below is parsed at)
refuses_element names values i v steps StepTextError.UnknownNode e below is parsed (inl at) named = rw named (has_step_error names values i v steps StepTextError.UnknownNode below is parsed at)
refuses_element names values i v steps StepTextError.SelfLink e below is parsed (inl at) named = rw named (has_step_error names values i v steps StepTextError.SelfLink below is parsed at)
refuses_element names values i v steps StepTextError.BadAmount e below is parsed (inl at) named = rw named (has_step_error names values i v steps StepTextError.BadAmount below is parsed at)
refuses_element names values i v steps error e below is parsed (inr memory) named = absurd (let bad = memory.0 in cc)
