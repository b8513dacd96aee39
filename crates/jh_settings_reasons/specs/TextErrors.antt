-- Why a value of settings is no text of one element (this project's own).
use Rattle.std.specs.Prelude.{◌≡◌, ℕ, List, [], ◌∷◌, codes, Option, Some, None, Result, Ok}
use Rattle.std.specs.Prelude.{IfSome, MatchResult}
use Rattle.toml.specs.Data.{Data, as_str}
use Rattle.jh_edn.specs.Edn.{Edn}
use Rattle.jh_edn.specs.Lines.{IsFirstErrorIn, values_in}
use Rattle.jh_edn.specs.View.{view}
use Rattle.jh_edn.specs.declared.value.Value.{Value}
use Rattle.jh_settings_reasons.specs.declared.text.TextError.{TextError}

-- The text of an error; that of an error of EDN is that error's own, which no clause knows.
abbrev pub text_error_text : TextError → Option (List ℕ)
text_error_text TextError.NoText = Some (codes "no text")
text_error_text (TextError.Unreadable error) = None
text_error_text TextError.NoElement = Some (codes "no element")
text_error_text TextError.ManyElements = Some (codes "more than one element")

-- why these elements are not one
abbrev pub count_error : List Edn → Option TextError
count_error [] = Some TextError.NoElement
count_error (x ∷ []) = None
count_error (x ∷ y ∷ xs) = Some TextError.ManyElements

abbrev pub IsOnlyOrError : List Edn → Result Value TextError → Type 0
IsOnlyOrError xs answer =
    MatchResult answer (λ element. xs ≡ view element ∷ []) (λ error. count_error xs ≡ Some error)

-- the value is a text whose only element is this
abbrev pub IsOneElement : Data → Edn → Type 0
IsOneElement value x =
    (text : List ℕ) × (as_str value ≡ Some text) × (values_in text ≡ Ok (x ∷ []))

-- the value is a text of so many elements that the error applies
abbrev pub HasCountError : Data → TextError → Type 0
HasCountError value error =
    (text : List ℕ) × (xs : List Edn) × (as_str value ≡ Some text) × (values_in text ≡ Ok xs)
    × (count_error xs ≡ Some error)

-- why the value is no text of one element
abbrev pub RefusesElementText : Data → TextError → Type 0
RefusesElementText value TextError.NoText = as_str value ≡ None
RefusesElementText value (TextError.Unreadable error) =
    (text : List ℕ) × (as_str value ≡ Some text) × IsFirstErrorIn text error
RefusesElementText value TextError.NoElement = HasCountError value TextError.NoElement
RefusesElementText value TextError.ManyElements = HasCountError value TextError.ManyElements

abbrev pub IsElementOrError : Data → Result Value TextError → Type 0
IsElementOrError value answer =
    MatchResult answer (λ element. IsOneElement value (view element)) (RefusesElementText value)

-- the line says why the value is no text of one element
abbrev pub ShowsTextError : Data → List ℕ → Type 0
ShowsTextError value line =
    (error : TextError) × RefusesElementText value error
    × IfSome (text_error_text error) (λ text. line ≡ text)
