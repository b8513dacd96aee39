-- Numbers may stand in a comment, and what may stand there behind one another.
use Rattle.std.proofs.Common.{◌≡◌, ℕ, ◌<◌, ◌^◌, true, List, [], ◌∷◌, ◌++◌, refl, ◌∙◌, arith}
use Rattle.std.proofs.lemmas.Bool.{and_parts, and_from}
use Rattle.std.proofs.lemmas.Bool.Decides.{nat_tests}
use Rattle.std.proofs.lemmas.List.Folds.{list_all-append}
use Rattle.std.proofs.lemmas.Fmt.{digits_decimal}
use Rattle.std.proofs.lemmas.Str.Parse.{tells_all_ascii_digits, numerals_by_value}
use Rattle.std.specs.Char.{is_ascii_digit}
use Rattle.std.specs.Fmt.{decimal}
use Rattle.std.specs.List.{list_all}
use Rattle.std.specs.Str.{all_ascii_digits}
use Rattle.toml_parser.specs.Lexical.{is_non_eol}
use Rattle.jh_settings_texts.specs.Comments.{IsComment}

digit_in_comment : (c : ℕ) → is_ascii_digit c ≡ true → is_non_eol c ≡ true
digit_in_comment c is = grind (arith, nat_tests)

digits_in_comment : (cs : List ℕ) → all_ascii_digits cs ≡ true → list_all is_non_eol cs ≡ true
digits_in_comment [] is = refl
digits_in_comment (c ∷ cs) is =
    let parts = and_parts (is_ascii_digit c) (all_ascii_digits cs) is in
    and_from (is_non_eol c) (list_all is_non_eol cs) (digit_in_comment c parts.0) (digits_in_comment cs parts.1)

pub number_in_comment : (n : ℕ) → n < 2 ^ 64 → IsComment (decimal n)
number_in_comment n within = digits_in_comment (decimal n) (digits_decimal (numerals_by_value (λ ds. all_ascii_digits ds ≡ true) tells_all_ascii_digits) n within)

pub both_in_comment : (xs ys : List ℕ) → IsComment xs → IsComment ys → IsComment (xs ++ ys)
both_in_comment xs ys h k = list_all-append is_non_eol xs ys ∙ and_from (list_all is_non_eol xs) (list_all is_non_eol ys) h k
