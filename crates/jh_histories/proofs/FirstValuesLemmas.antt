-- A text that is read up to a place, the values before it parsed.
use Rattle.std.proofs.Common.{◌≡◌, ℕ, ◌⊎◌, List, [], ◌∷◌, ◌++◌, drop, Some, None, inl, inr, sym, subst, append_assoc, arith}
use Rattle.std.proofs.lemmas.List.{append-nil, length-append}
use Rattle.std.specs.Str.{IsUtf8}
use Rattle.jh_edn.specs.Edn.{Edn}
use Rattle.jh_edn.specs.Reading.{IsReached, IsFirstErrorAt}
use Rattle.jh_edn.specs.Refused.{RefusesText, IsFirstIfInText}
use Rattle.jh_edn.specs.Spelling.{IsGap, NothingReads, Reads}
use Rattle.jh_edn.specs.declared.error.EdnError.{EdnError}
use Rattle.jh_edn.specs.declared.error.EdnError.TheVariants.{OutOfMemory}
use Rattle.jh_edn.proofs.CitedLemmas.{Before, Behind, before_none, before_more, before_all, behind_none, behind_more, spells_nothing, refuses, first_behind}
use Rattle.jh_histories.specs.Histories.{IsHistoryOf, RefusesHistoryOf}
use Rattle.jh_histories.specs.ParsingInside.{AreSeveral, HasParsed, Leave, ReadsEach, RefusesOne}
use Rattle.jh_histories.specs.declared.parsing.Parsing.{Parsing}
use Rattle.jh_histories.specs.declared.error.ReadHistoryError.TheVariants.{Text, History}
use Rattle.jh_histories.proofs.ParsingLemmas.{all_parsed, all_refused}
use Rattle.jh_ops.specs.HistoryText.{elements_in}
use Rattle.jh_ops.specs.Operation.{operations}
use Rattle.jh_ops.specs.declared.history.HistoryError.{HistoryError}
use Rattle.jh_ops.specs.declared.history.HistoryError.TheVariants as refusals

-- the text begins with these values, up to that place
pub record Begins (text : List ℕ) (values : List Edn) (at : ℕ) : Type 0 where
  pub before : Before values text at
  pub behind : Behind values text at
  pub reached : IsReached text at

pub at_start : (text : List ℕ) (at : ℕ) → at ≡ 0 → Begins text [] at
at_start text at is = subst (Begins text []) (sym is) (record { before = before_none text; behind = behind_none text; reached = IsReached.start 0 (λ i. 0) })

pub one_further : (text : List ℕ) (values : List Edn) (at : ℕ) (value : Edn) (end : ℕ) → Begins text values at → Reads text at value end → Begins text (values ++ value ∷ []) end
one_further text values at value end begun reads =
    record {
      before = before_more values text at value end begun.before reads;
      behind = behind_more values text at value end begun.behind reads;
      reached = IsReached.behind at end value begun.reached reads;
    }

-- an error of the text behind them is the text's
pub text_refused : (text : List ℕ) (values : List Edn) (at : ℕ) (error : EdnError) → IsUtf8 text → Begins text values at → (error ≡ OutOfMemory) ⊎ NothingReads text at → (error ≡ OutOfMemory) ⊎ IsFirstErrorAt text at error
    → RefusesHistoryOf text (Text error)
text_refused text values at error utf8 begun why first =
    let memory : (error ≡ OutOfMemory) → RefusesText text error × IsFirstIfInText text error = λ is. subst (λ (e : EdnError). RefusesText text e × IsFirstIfInText text e) (sym is) (tt, tt) in
    elim why [
      | inl is ↦ memory is
      | inr nothing ↦ elim first [
        | inl is ↦ memory is
        | inr found ↦ (refuses text at error (spells_nothing values text at utf8 begun.behind nothing) found, first_behind text at error begun.reached found)
      ]
    ]

-- values were read, and all elements in them parsed
pub history_read : (text : List ℕ) (values elements : List Edn) (at : ℕ) (parsing : Parsing) → IsUtf8 text → elements_in values ≡ elements → Begins text values at → IsGap (drop at text) → parsing.refusal ≡ None → HasParsed parsing elements
    → IsHistoryOf text (operations parsing.ops.items)
history_read text values elements at parsing utf8 are begun gap none parsed =
    let ops = operations parsing.ops.items in
    (values, (utf8, before_all values text at begun.before gap), all_parsed values elements ops are (subst (Leave elements ops) none parsed.0))

-- values were read, and an element in them was refused
pub history_refused : (text : List ℕ) (values elements : List Edn) (at : ℕ) (parsing : Parsing) (refusal : HistoryError) → IsUtf8 text → elements_in values ≡ elements → Begins text values at → IsGap (drop at text) → parsing.refusal ≡ Some refusal
    → HasParsed parsing elements → RefusesHistoryOf text (History refusal)
history_refused text values elements at parsing refusals.OutOfMemory utf8 are begun gap some parsed = tt
history_refused text values elements at parsing (refusals.Op place refusal) utf8 are begun gap some parsed =
    let ops = operations parsing.ops.items in
    (values, (utf8, before_all values text at begun.before gap), all_refused values elements ops (refusals.Op place refusal) are (subst (Leave elements ops) some parsed.0))

-- a single value was read, and it is refused
pub one_read_refused : (text : List ℕ) (value : Edn) (at : ℕ) (refusal : HistoryError) → IsUtf8 text → Begins text (value ∷ []) at → IsGap (drop at text) → RefusesOne value refusal → RefusesHistoryOf text (History refusal)
one_read_refused text value at refusals.OutOfMemory utf8 begun gap refused = tt
one_read_refused text value at (refusals.Op place why) utf8 begun gap refused = (value ∷ [], (utf8, before_all (value ∷ []) text at begun.before gap), refused)

-- with one more, they are still several
pub still_several : (values : List Edn) (value : Edn) → AreSeveral values → AreSeveral (values ++ value ∷ [])
still_several values value several = let long = length-append values (value ∷ []) in omega (arith, several, long)

each_further : (text : List ℕ) (front : List Edn) (at : ℕ) (values : List Edn) (end : ℕ) → Begins text front at → ReadsEach text at values end → Begins text (front ++ values) end
each_further text front at [] end begun reads = subst (λ (vs : List Edn). Begins text vs end) (sym (append-nil front)) (subst (Begins text front) reads begun)
each_further text front at (value ∷ values) end begun reads =
    subst (λ (vs : List Edn). Begins text vs end) (append_assoc front (value ∷ []) values) (each_further text (front ++ value ∷ []) reads.0 values end (one_further text front at value reads.0 begun reads.1) reads.2)

-- values that were read each behind the one before
pub each_begun : (text : List ℕ) (values : List Edn) (end : ℕ) → ReadsEach text 0 values end → Begins text values end
each_begun text values end reads = each_further text [] 0 values end (at_start text 0 (λ i. 0)) reads
