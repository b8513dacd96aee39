-- What a driver answers by its state alone is what its generator offers after its trace.
use Rattle.std.proofs.Common.{◌≡◌, ℕ, ◌+◌, true, false, refl, sym, ap, Some, None, set}
use Rattle.std.specs.Prelude.{if◌then◌else◌}
use Rattle.jh_gen.specs.Generator.{Generator}
use Rattle.jh_gen.specs.Trace.{Trace}
use Rattle.jh_gen.specs.State.{GeneratorState, Taking, is_done, taking, taken_call, rest_of}
use Rattle.jh_gen.specs.DriverState.{DriverState, IsDriverOf, Answers, IsKnown, thread_number, question_by, next_process, answer_by, asked, driver_after_end}
use Rattle.jh_gen.specs.declared.answers.Thread.{Thread}
use Rattle.jh_gen.specs.declared.answers.Ended.{Ended}
use Rattle.jh_gen.specs.declared.answers.GenAnswer.TheVariants as answer
use Rattle.jh_gen.proofs.DriverLemmas.{answers_done, answers_pending, Gave, answers_call}

module _ (d : DriverState) (x : Thread) (random_number : ℕ) (g : Generator) (t : Trace) (stands : IsDriverOf d g t) (known : IsKnown d x) where
  by_taking : (took : Taking GeneratorState) → taking d.state (question_by d x random_number) ≡ took → is_done d.state ≡ false
      → Answers g t d x random_number (answer_by d x took).0 (answer_by d x took).1
  by_taking None is unspent = answers_pending d d x random_number known unspent (ap taken_call is) refl g t stands
  by_taking (Some (c, left)) is unspent =
      let e : DriverState = record d { state = left; given = d.given + 1; busy = set d.busy (thread_number x) true } in
      let gave : Gave d e x random_number (next_process d x) c = record {
        known = known;
        unspent = unspent;
        call = ap taken_call is;
        rest = sym (ap (rest_of d.state) is);
        given = refl;
        clients = refl;
        busy = refl;
        processes = refl;
        process = refl;
      } in
      answers_call d e x random_number (next_process d x) c gave g t stands

  pub answered : Answers g t d x random_number (asked d x random_number).0 (asked d x random_number).1
  answered =
      (elim (is_done d.state) as (λ v. is_done d.state ≡ v
      → Answers g t d x random_number (if v then (answer.Done, d) else answer_by d x (taking d.state (question_by d x random_number))).0
      (if v then (answer.Done, d) else answer_by d x (taking d.state (question_by d x random_number))).1) [
        | true ↦ λ done. answers_done d x random_number done g t stands
        | false ↦ λ unspent. by_taking (taking d.state (question_by d x random_number)) refl unspent
      ]) refl

pub end_kept : (d : DriverState) (x : Thread) (end : Ended) (g : Generator) (t : Trace) → IsDriverOf d g t → IsDriverOf (driver_after_end d x end) g t
end_kept d x end g t stands = record { left = stands.left; count = stands.count }
