-- A text that means no history as a whole, and the first line in it that begins with `:active`.
use Rattle.std.proofs.Common.{◌≡◌, ◌∙◌, ℕ, zero, suc, ◌+◌, ◌<◌, List, [], ◌∷◌, drop, map, Some, sym, ap, subst, arith, add-one}
use Rattle.std.specs.Prelude.{Result, Ok, Err, slice_get}
use Rattle.std.specs.Str.Pattern.{HasTextAt, LacksTextAt}
use Rattle.jh_edn.specs.Edn.{Edn}
use Rattle.jh_edn.specs.Spelling.{SpellsAll}
use Rattle.jh_edn.specs.declared.error.EdnError.TheVariants.{UnexpectedEnd, BadToken, FloatUnsupported, IntegerRange, BadEscape, OddMap, DuplicateKey, TooDeep, Utf8, TooLong, Read, Write}
use Rattle.jh_edn.specs.declared.error.EdnError.TheVariants as edn
use Rattle.jh_histories.specs.Histories.{RefusesHistoryOf}
use Rattle.jh_histories.specs.declared.error.ReadHistoryError.{ReadHistoryError}
use Rattle.jh_histories.specs.declared.error.ReadHistoryError.TheVariants.{Text, History}
use Rattle.jh_ops.specs.HistoryText.{parsed_elements}
use Rattle.jh_ops.specs.Operation.{Operation}
use Rattle.jh_ops.specs.declared.history.HistoryError.TheVariants.{Op, OutOfMemory}
use Rattle.jh_ops.specs.declared.op_text.OpError.{OpError}
use Rattle.jh_histories.specs.HistoryAndBelow.{HasLineAt, IsFirstLine, IsOfBytes, IsNoHistory}

-- ---- a text that means none

-- where each value means an operation, none is refused
none_refused : (ops : List Operation) (place : ℕ) (why : OpError) → slice_get (map (λ (op : Operation). let parsed : Result Operation OpError = Ok op in parsed) ops) place ≡ Some (Err why) → ⊥
none_refused [] place why is = cc
none_refused (op ∷ ops) zero why is = cc
none_refused (op ∷ ops) (suc place) why is = none_refused ops place why is

-- what the text holds is no history
pub means_none : (text : List ℕ) (error : ReadHistoryError) → ((t : List ℕ) (xs ys : List Edn) → SpellsAll xs t → SpellsAll ys t → xs ≡ ys) → (IsOfBytes error → ⊥) → RefusesHistoryOf text error
    → IsNoHistory text
means_none text (Text (UnexpectedEnd line)) once other refused = λ history parsed. refused.0.1 parsed.0 parsed.1.1
means_none text (Text (BadToken line)) once other refused = λ history parsed. refused.0.1 parsed.0 parsed.1.1
means_none text (Text (FloatUnsupported line)) once other refused = λ history parsed. refused.0.1 parsed.0 parsed.1.1
means_none text (Text (IntegerRange line)) once other refused = λ history parsed. refused.0.1 parsed.0 parsed.1.1
means_none text (Text (BadEscape line)) once other refused = λ history parsed. refused.0.1 parsed.0 parsed.1.1
means_none text (Text (OddMap line)) once other refused = λ history parsed. refused.0.1 parsed.0 parsed.1.1
means_none text (Text (DuplicateKey line)) once other refused = λ history parsed. refused.0.1 parsed.0 parsed.1.1
means_none text (Text (TooDeep line)) once other refused = λ history parsed. refused.0.1 parsed.0 parsed.1.1
means_none text (Text Utf8) once other refused = absurd (other tt)
means_none text (Text TooLong) once other refused = absurd (other tt)
means_none text (Text Read) once other refused = absurd (other tt)
means_none text (Text Write) once other refused = absurd refused.0
means_none text (Text edn.OutOfMemory) once other refused = absurd (other tt)
means_none text (History OutOfMemory) once other refused = absurd (other tt)
means_none text (History (Op place why)) once other refused = λ history parsed.
    let same : refused.0 ≡ parsed.0 = once text refused.0 parsed.0 refused.1.1 parsed.1.1 in
    none_refused history place why
    (ap (λ rs. slice_get rs place) (sym parsed.2) ∙ ap (λ (vs : List Edn). slice_get (parsed_elements vs) place) (sym same) ∙ refused.2.0)

-- ---- the first line

-- the first behind a line feed, where none begins at the first place
pub behind_feed : (begin text : List ℕ) (before end : ℕ) → LacksTextAt begin text 0 → ((at : ℕ) → at < before → LacksTextAt (10 ∷ begin) text at) → HasTextAt (10 ∷ begin) text before end
    → IsFirstLine begin text (before + 1)
behind_feed begin text before end start other found =
    let next : suc before ≡ before + 1 = sym (add-one before) in
    subst (IsFirstLine begin text) next (record { here = (drop end text, found.split); first = lower })
  where
    lower : (place : ℕ) → place < suc before → HasLineAt begin text place → ⊥
    lower zero below (behind, is) = start behind is
    lower (suc place) below (behind, is) = other place (omega arith) behind is
