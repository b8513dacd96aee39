-- What the options of commands read as, from what `clap`'s getters give.
use Rattle.std.proofs.Common.{◌≡◌, ◌∙◌, refl, sym, ap, codes, List, ℕ, ℤ, Bool, true, false, Option, Some, None}
use Rattle.std.specs.Prelude.{Result, option_map, IfSome, IsNone, ◌≤◌}
use Rattle.std.specs.Borrow.{Bor}
use mir.Syntax.{w64}
use Rattle.std.specs.Str.Parse.{ParsesSigned, ParsesUnsigned, ExplainsSignedError, ExplainsUnsignedError, HasSignedDigitsIfOk, HasUnsignedDigitsIfOk}
use Rattle.std.specs.declared.num.ParseIntError.{ParseIntError}
use Rattle.clap.specs.Words.{ReadsOne, Row, Text, first_of, first_value, one_of, one_text, rows_of}
use Rattle.clap.specs.declared.parser.matches.Found.{Found}
use Rattle.jh_checkers.specs.declared.finding.Judging.{Judging}
use Rattle.clap.proofs.WalkLemmas.{first_value-rows, one_text-rows}
use Rattle.jh_arguments.specs.Accounts.{Accounts}
use Rattle.jh_arguments.specs.Commands.{IsFlag, IsGivenNumber, IsGivenSigned, IsJudging, IsJudgingBy, IsNumber, IsNumberWithin, IsGivenWithin}

-- what `FromStr` says of `i64` and of `u64`
abbrev SignedGives : Text → Result ℤ ParseIntError → Type 0
SignedGives t x = ParsesSigned w64 10 t x × ExplainsSignedError 10 t x × HasSignedDigitsIfOk t x

abbrev UnsignedGives : Text → Result ℕ ParseIntError → Type 0
UnsignedGives t x = ParsesUnsigned 64 10 t x × ExplainsUnsignedError 10 t x × HasUnsignedDigitsIfOk t x

-- a signed number, as `get_one` reads it, if there is one
pub signed_read : (f : Found) (id : Text) (r : Option ℤ) → (one_text f id ≡ None → r ≡ None)
    → ((t : Text) → one_text f id ≡ Some t → ReadsOne SignedGives t r) → IsGivenSigned (one_of id (rows_of f)) r
signed_read f id r none some = go (one_of id (rows_of f)) r (one_text-rows f id) none some
  where
    go : (o : Option Text) (r : Option ℤ) → one_text f id ≡ o → (one_text f id ≡ None → r ≡ None)
        → ((t : Text) → one_text f id ≡ Some t → ReadsOne SignedGives t r) → IsGivenSigned o r
    go None r is none some = none is
    go (Some t) (Some v) is none some = (some t is).0
    go (Some t) None is none some = (some t is).1.0

-- a number that is read
pub number_read : (f : Found) (id : Text) (r : Option ℕ) → (one_text f id ≡ None → r ≡ None)
    → ((t : Text) → one_text f id ≡ Some t → ReadsOne UnsignedGives t r) → IfSome r (IsNumber (one_of id (rows_of f)))
number_read f id None none some = tt
number_read f id (Some n) none some = go (one_of id (rows_of f)) (one_text-rows f id)
  where
    go : (o : Option Text) → one_text f id ≡ o → IsNumber o n
    go None is = let bad = none is in cc
    go (Some t) is = (some t is).0

-- and one that is not
pub number_unread : (f : Found) (id : Text) (r : Option ℕ) (n : ℕ) → IsNone r
    → ((t : Text) → one_text f id ≡ Some t → ReadsOne UnsignedGives t r) → IsNumber (one_of id (rows_of f)) n → ⊥
number_unread f id (Some m) n none some = let bad = none in cc
number_unread f id None n none some = go (one_of id (rows_of f)) (one_text-rows f id)
  where
    go : (o : Option Text) → one_text f id ≡ o → IsNumber o n → ⊥
    go None is wanted = wanted
    go (Some t) is wanted = (some t is).1.0 wanted.0

-- a number that is read, if there is one
pub given_number_read : (f : Found) (id : Text) (r : Option ℕ) → (one_text f id ≡ None → r ≡ None)
    → ((t : Text) → one_text f id ≡ Some t → ReadsOne UnsignedGives t r) → IsGivenNumber (one_of id (rows_of f)) r
given_number_read f id r none some = go (one_of id (rows_of f)) r (one_text-rows f id) none some
  where
    go : (o : Option Text) (r : Option ℕ) → one_text f id ≡ o → (one_text f id ≡ None → r ≡ None)
        → ((t : Text) → one_text f id ≡ Some t → ReadsOne UnsignedGives t r) → IsGivenNumber o r
    go None r is none some = none is
    go (Some t) (Some n) is none some = (some t is).0
    go (Some t) None is none some = (some t is).1.0

-- the name of a workload is given, and nothing is judged by it
pub judging_unread : (accounts : Accounts) (options : List Row) (name : Text) (judging : Option Judging) → first_of (codes "workload") options ≡ Some name
    → ((by : Judging) → IsJudgingBy accounts options by → ⊥) → IsJudging accounts options judging → ⊥
judging_unread accounts options name None given none is = let bad : Some name ≡ None = sym given ∙ is in cc
judging_unread accounts options name (Some by) given none is = none by is.0

-- one text writes one number
pub number_one : (o : Option Text) (m n : ℕ) → IsNumber o m → IsNumber o n → m ≡ n
number_one None m n a b = absurd a
number_one (Some t) m n a b = a.1 ∙ sym b.1

-- a flag, as `get_flag` reads it
pub flag_read : (f : Found) (id : Text) (r : Bool) → (one_text f id ≡ None → r ≡ false)
    → (one_text f id ≡ Some (codes "true") → r ≡ true) → (one_text f id ≡ Some (codes "false") → r ≡ false)
    → IsFlag (one_of id (rows_of f)) r
flag_read f id r none given left = go (one_of id (rows_of f)) (one_text-rows f id)
  where
    go : (o : Option Text) → one_text f id ≡ o → IsFlag o r
    go None is = none is
    go (Some t) is = (λ e. given (is ∙ ap Some e), λ e. left (is ∙ ap Some e))

-- the text of an option, as `get_str` gives it
pub text_given : (f : Found) (id : Text) (r : Option (Bor Text)) (o : Option Text)
    → option_map (λ s. s.now) r ≡ first_value f id → option_map (λ s. s.now) r ≡ o
    → first_of id (rows_of f) ≡ o
text_given f id r o given is = sym (first_value-rows f id) ∙ (sym given ∙ is)

-- a number that is given, where it is read if it is there
pub number_given : (least most : ℕ) (o : Option Text) (r : Option ℕ) → IfSome r (IsNumberWithin least most o) → (IsNone r → (number : ℕ) → IsNumberWithin least most o number → ⊥) → IsGivenWithin least most o r
number_given least most None None parsed taken = refl
number_given least most None (Some number) parsed taken = absurd parsed.0
number_given least most (Some text) None parsed taken = taken refl
number_given least most (Some text) (Some number) parsed taken = parsed
