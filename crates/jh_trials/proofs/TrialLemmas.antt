-- The line that begins a test.
use Rattle.std.proofs.Common.{◌≡◌, ℕ, Bool, true, false, ◌&&◌, List, [], inl, inr, refl, sym, ap, ◌∙◌, if◌then◌else◌}
use Rattle.std.specs.Prelude.{Ok}
use Rattle.std.specs.Str.{IsUtf8, is_utf8}
use Rattle.std.proofs.lemmas.Bool.{cases_Bool}
use Rattle.std.proofs.lemmas.Str.{IsUtf8-from_is_utf8, is_utf8-from_IsUtf8}
use Rattle.jh_edn.specs.Edn.{Edn}
use Rattle.jh_edn.specs.Lines.{values_in}
use Rattle.jh_conversation.specs.Conversations.{ConversationValue, opening_of}
use Rattle.jh_test_parts.specs.LineMeanings.{MeaningValue, Nothing, Clock, Stop, Op, Bad, line_meaning}
use Rattle.jh_trials.specs.Trials.{said_in_stage, are_ready, has_begun_in, is_ready, is_ready_text, stage_behind_line, stage_by_meaning}
use Rattle.jh_trials.specs.declared.trial.Stage.TheVariants.{Waiting, Begun}

pub not_ready : (line : List ℕ) → (IsUtf8 line → ⊥) → false ≡ is_ready line
not_ready line differs = elim (cases_Bool (is_utf8 line)) [
  | inl is ↦ absurd (differs (IsUtf8-from_is_utf8 line is))
  | inr is ↦ sym (ap (λ b. b && is_ready_text (values_in line)) is)
]

pub ready_by_values : (line : List ℕ) (values : List Edn) → IsUtf8 line → values_in line ≡ Ok values → are_ready values ≡ is_ready line
ready_by_values line values utf8 read =
    sym (ap (λ b. b && is_ready_text (values_in line)) (is_utf8-from_IsUtf8 line utf8) ∙ ap is_ready_text read)

begins_by_meaning : (number : ℕ) (meaning : MeaningValue) → has_begun_in (stage_by_meaning number meaning) ≡ false
begins_by_meaning number Nothing = refl
begins_by_meaning number (Clock time) = refl
begins_by_meaning number Stop = refl
begins_by_meaning number (Op op time) = refl
begins_by_meaning number (Bad why) = refl

-- a trial that waits begins at `:ready` alone
begins_by : (number : ℕ) (line : List ℕ) (ready : Bool)
    → has_begun_in (if ready then Begun number else stage_by_meaning number (line_meaning line)) ≡ ready
begins_by number line true = refl
begins_by number line false = begins_by_meaning number (line_meaning line)

pub ready_begins : (number : ℕ) (line : List ℕ) → has_begun_in (stage_behind_line number line Waiting) ≡ is_ready line
ready_begins number line = begins_by number line (is_ready line)

-- what is said to a line while a trial waits
pub said_to_ready : (c : ConversationValue) (line : List ℕ) → is_ready line ≡ true → opening_of c ≡ said_in_stage Waiting c line
said_to_ready c line ready = sym (ap (λ b. if b then opening_of c else []) ready)

pub said_to_other : (c : ConversationValue) (line : List ℕ) → is_ready line ≡ false → [] ≡ said_in_stage Waiting c line
said_to_other c line other = sym (ap (λ b. if b then opening_of c else []) other)
