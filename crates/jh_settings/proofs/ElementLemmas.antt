-- Texts of one element.
use Rattle.std.proofs.Common.{◌≡◌, ℕ, ◌-◌, List, [], ◌∷◌, drop, length, Bool, true, false, not, Option, Some, None, Result, Ok, Err, sym, ap, subst, ◌∙◌}
use Rattle.std.proofs.lemmas.Option.{same_Some}
use Rattle.toml.specs.Data.{Data, Members, as_str}
use Rattle.jh_edn.specs.Edn.{Edn}
use Rattle.jh_edn.specs.Spelling.{SpellsAll, Reads, NothingReads, IsGap}
use Rattle.jh_edn.proofs.CitedLemmas.{made, no_gap, one_next}
use Rattle.std.specs.declared.alloc.AllocError.{AllocError}
use Rattle.std.specs.Result.{IfOk}
use Rattle.std.specs.Option.{MatchOption, IfSome, IfNone, is_some}
use Rattle.std.specs.Bool.{MatchBool}
use Rattle.std.proofs.lemmas.Bool.{true≢false}
use Rattle.jh_edn.specs.View.{view}
use Rattle.jh_edn.specs.declared.value.Value.{Value}
use Rattle.jh_settings.specs.Inside.{IsEntryIn, IsNoElement}
use Rattle.jh_settings.specs.Readers.{IsElementIn}
use Rattle.jh_settings.specs.Keys.{data_under}
use Rattle.jh_settings.specs.Kinds.{IsElement, HoldsElement}
use Rattle.jh_settings.specs.declared.keys.Key.{Key}

pub at_end : (text : List ℕ) → IsGap (drop 0 text) → IsNoElement text
at_end text gap x spelled = no_gap text x spelled.0 spelled.1 gap

pub in_error : (text : List ℕ) → NothingReads text 0 → IsNoElement text
in_error text nothing x spelled = nothing.1 x (length text - length spelled.0) (made text 0 x spelled.0 spelled.1)

pub goes_on : (text : List ℕ) (x : Edn) (end : ℕ) → Reads text 0 x end → (IsGap (drop end text) → ⊥) → IsNoElement text
goes_on text x end reads behind z spelled =
    behind (subst IsGap (one_next text z x spelled.0 (drop end text) spelled.1 reads.1).1 spelled.2)

pub only : (text : List ℕ) (x : Edn) (end : ℕ) → Reads text 0 x end → IsGap (drop end text) → SpellsAll (x ∷ []) text
only text x end reads gap = (drop end text, reads.1, gap)

pub no_gap_before : (text : List ℕ) (at : ℕ) (x : Edn) (end : ℕ) → Reads text at x end → IsGap (drop at text) → ⊥
no_gap_before text at x end reads gap = no_gap (drop at text) x (drop end text) reads.1 gap

-- a value spells one element at most
pub element_once : (value : Data) (x y : Edn) → IsElement value x → IsElement value y → x ≡ y
element_once value x y h k =
    let same : h.0 ≡ k.0 = same_Some h.0 k.0 (sym h.1 ∙ k.1) in
    let spelled : SpellsAll (x ∷ []) k.0 = subst (SpellsAll (x ∷ [])) same h.2 in
    (one_next k.0 x y spelled.0 k.2.0 spelled.1 k.2.1).0

pub held_once : (key : Key) (document : Members) (x y : Edn) → HoldsElement key document x → HoldsElement key document y → x ≡ y
held_once key document x y h k =
    let same : h.0 ≡ k.0 = same_Some h.0 k.0 (sym h.1 ∙ k.1) in
    element_once k.0 x y (subst (λ value. IsElement value x) same h.2) k.2

pub none_not : {A : Type 0} (x : A) → None ≡ Some x → ⊥
none_not x e = cc

-- what a text spells, a value that is this text spells
pub spelled_in : (value : Data) (text : List ℕ) → as_str value ≡ Some text → (r : Result (Option Value) AllocError) → IfOk r (λ found. MatchOption found (IsNoElement text) (λ element. SpellsAll (view element ∷ []) text)) → IfOk r (IsElementIn value)
spelled_in value text is (Ok None) none = λ x h. none x (subst (SpellsAll (x ∷ [])) (same_Some h.0 text (sym h.1 ∙ is)) h.2)
spelled_in value text is (Ok (Some element)) spelled = (text, is, spelled)
spelled_in value text is (Err e) h = tt

-- the entry of an element is that of the value that spells it
pub entry_from : {E : Type 0} (parse : Edn → Option E) (value : Data) (x : Edn) → IsElement value x → (r : Result (Option E) AllocError) → IfOk r (λ entry. entry ≡ parse x) → IfOk r (IsEntryIn parse value)
entry_from parse value x is (Ok None) none = λ entry h.
    let same : x ≡ h.0 = element_once value x h.0 is h.1 in
    none_not entry (none ∙ ap parse same ∙ h.2)
entry_from parse value x is (Ok (Some entry)) parsed = (x, is, sym parsed)
entry_from parse value x is (Err e) h = tt

-- a key under which there is nothing holds no element
pub nothing_held : (key : Key) (document : Members) → data_under key document ≡ None → ((x : Edn) × HoldsElement key document x) → ⊥
nothing_held key document none h = none_not h.1.0 (sym none ∙ h.1.1)

-- the value under a key is no element
pub none_held : (key : Key) (document : Members) (value : Data) → data_under key document ≡ Some value → ((x : Edn) → IsElement value x → ⊥) → ((x : Edn) × HoldsElement key document x) → ⊥
none_held key document value is none h =
    let same : h.1.0 ≡ value = same_Some h.1.0 value (sym h.1.1 ∙ is) in
    none h.0 (subst (λ v. IsElement v h.0) same h.1.2)

-- what is read first is an element, or the text is none
pub first_read : (text : List ℕ) (found : Option (Value × ℕ)) → IfSome found (λ read. Reads text 0 (view read.0) read.1) → IfNone found (IsGap (drop 0 text)) → MatchOption found (IsNoElement text) (λ read. Reads text 0 (view read.0) read.1)
first_read text None some none = at_end text none
first_read text (Some read) some none = some

-- where nothing is read, only a gap is left
pub ends : (text : List ℕ) (at : ℕ) (found : Option (Value × ℕ)) (b : Bool) → is_some found ≡ not b → IfSome found (λ read. Reads text at (view read.0) read.1) → IfNone found (IsGap (drop at text)) → MatchBool b (IsGap (drop at text)) (IsGap (drop at text) → ⊥)
ends text at None true is some none = none
ends text at None false is some none = absurd (true≢false (sym is))
ends text at (Some read) true is some none = absurd (true≢false is)
ends text at (Some read) false is some none = no_gap_before text at (view read.0) read.1 some
