-- A comment before a document means nothing to it.
use Rattle.std.proofs.Common.{◌≡◌, ◌≢◌, ℕ, zero, suc, ◌-◌, ◌≤◌, true, false, ◌==◌, List, [], ◌∷◌, ◌++◌, length, Option, Some, None, refl, sym, ap, ◌∙◌, inl, inr, length-append, arith}
use Rattle.std.proofs.lemmas.Bool.{cases_Bool, and_parts}
use Rattle.std.proofs.lemmas.Bool.Decides.{nat_tests}
use Rattle.std.proofs.lemmas.Option.{same_Some}
use Rattle.std.specs.List.{list_all}
use Rattle.toml_parser.specs.Lexical.{first, is_non_eol, skip_blank, skip_from}
use Rattle.jh_settings_texts.specs.Comments.{IsComment, behind_comment}
use Rattle.toml.specs.Data.{Members}
use Rattle.toml.specs.Tables.{Document, Expression, define, close, no_nodes}
use Rattle.toml.specs.Parse.{line, lines, skip_bom, parse_document}
use Rattle.toml.proofs.Turns.{document_none, document_some, lines_bad, lines_end, lines_more, lines_refused}

-- a byte of a comment is passed over
one_inside : (c : ℕ) (rest : List ℕ) → is_non_eol c ≡ true → skip_from true true (c ∷ rest) ≡ skip_from true true rest
unfolding skip_from
one_inside c rest is =
    let not_feed : (c == 10) ≡ false = grind (arith, nat_tests) in
    let not_return : (c == 13) ≡ false = grind (arith, nat_tests) in
    rw (not_feed, not_return, is) refl

comment_skipped : (comment text : List ℕ) → list_all is_non_eol comment ≡ true → skip_from true true (comment ++ 10 ∷ text) ≡ skip_blank text
unfolding skip_from
comment_skipped [] text is = refl
comment_skipped (c ∷ comment) text is =
    let parts = and_parts (is_non_eol c) (list_all is_non_eol comment) is in
    one_inside c (comment ++ 10 ∷ text) parts.0 ∙ comment_skipped comment text parts.1

blank_comment : (comment text : List ℕ) → list_all is_non_eol comment ≡ true → skip_blank (35 ∷ comment ++ 10 ∷ text) ≡ skip_blank text
unfolding skip_from
blank_comment comment text is = comment_skipped comment text is

abbrev pub SameTurns : ℕ → ℕ → Type 0
SameTurns m n = (doc done : Document) (text : List ℕ) → lines m doc text ≡ Some done → lines n doc text ≡ Some done

none_not : {A : Type 0} (x : A) → None ≡ Some x → ⊥
none_not x e = cc

no_turns : (doc : Document) (text : List ℕ) → lines zero doc text ≡ None
unfolding lines
no_turns doc text = refl

one_turn : (m : ℕ) (doc next : Document) (text : List ℕ) (e : Expression) (after : List ℕ) → (length (skip_blank text) == 0) ≡ false
    → line (skip_blank text) ≡ Some (e, after) → define doc e ≡ Some next → lines (suc m) doc text ≡ lines m next after
one_turn m doc next text e after other read step =
    let less : suc m - 1 ≡ m = omega arith in
    lines_more (suc m) doc next text e after (omega arith) other read step ∙ ap (λ k. lines k next after) less

-- so do those behind an expression
behind : (m n : ℕ) → SameTurns m n → (doc done : Document) (text : List ℕ) (e : Expression) (after : List ℕ) → (length (skip_blank text) == 0) ≡ false
    → line (skip_blank text) ≡ Some (e, after) → (next : Option Document) → define doc e ≡ next → lines (suc m) doc text ≡ Some done → lines (suc n) doc text ≡ Some done
behind m n same doc done text e after other read None step is =
    absurd (none_not done (sym (lines_refused (suc m) doc text e after (omega arith) other read step) ∙ is))
behind m n same doc done text e after other read (Some next) step is =
    one_turn n doc next text e after other read step ∙ same next done after (sym (one_turn m doc next text e after other read step) ∙ is)

at_line : (m n : ℕ) → SameTurns m n → (doc done : Document) (text : List ℕ) → (length (skip_blank text) == 0) ≡ false
    → (read : Option (Expression × List ℕ)) → line (skip_blank text) ≡ read → lines (suc m) doc text ≡ Some done → lines (suc n) doc text ≡ Some done
at_line m n same doc done text other None bad is = absurd (none_not done (sym (lines_bad (suc m) doc text (omega arith) other bad) ∙ is))
at_line m n same doc done text other (Some (e, after)) read is = behind m n same doc done text e after other read (define doc e) refl is

-- more turns read the same
more_turns : (m n : ℕ) → m ≤ n → SameTurns m n
more_turns zero n less doc done text is = absurd (none_not done (sym (no_turns doc text) ∙ is))
more_turns (suc m) zero less doc done text is = absurd (omega arith)
more_turns (suc m) (suc n) less doc done text is =
    elim (cases_Bool (length (skip_blank text) == 0)) [
      | inl none ↦
          let empty : length (skip_blank text) ≡ 0 = grind (arith, nat_tests) in
          lines_end (suc n) doc text (omega arith) empty ∙ sym (lines_end (suc m) doc text (omega arith) empty) ∙ is
      | inr other ↦ at_line m n (more_turns m n (omega arith)) doc done text other (line (skip_blank text)) refl is
    ]

-- white space and comments before a document make no difference to its lines
same_start : (n : ℕ) (doc : Document) (text other : List ℕ) → skip_blank text ≡ skip_blank other → lines n doc text ≡ lines n doc other
unfolding lines
same_start zero doc text other same = refl
same_start (suc n) doc text other same = rw same refl

no_mark : (text : List ℕ) → first text ≢ 239 → skip_bom text ≡ text
unfolding skip_bom
no_mark text first_is =
    let not_first : (first text == 239) ≡ false = grind (arith, nat_tests) in
    rw not_first refl

is_closed : (text : List ℕ) (document : Members) → parse_document text ≡ Some document → skip_bom text ≡ text
    → (doc : Option Document) → lines (suc (length text)) (no_nodes, []) (skip_bom text) ≡ doc
    → (done : Document) × (lines (suc (length text)) (no_nodes, []) text ≡ Some done) × (close done.0 ≡ document)
is_closed text document is unmarked None none = absurd (none_not document (sym (document_none text none) ∙ is))
is_closed text document is unmarked (Some done) some =
    (done, ap (lines (suc (length text)) (no_nodes, [])) (sym unmarked) ∙ some, same_Some (close done.0) document (sym (document_some text done some) ∙ is))

closed : (text : List ℕ) (document : Members) → parse_document text ≡ Some document → skip_bom text ≡ text
    → (done : Document) × (lines (suc (length text)) (no_nodes, []) text ≡ Some done) × (close done.0 ≡ document)
closed text document is unmarked = is_closed text document is unmarked (lines (suc (length text)) (no_nodes, []) (skip_bom text)) refl

pub read_behind_comment : (comment text : List ℕ) (document : Members) → IsComment comment → first text ≢ 239 → parse_document text ≡ Some document
    → parse_document (behind_comment comment text) ≡ Some document
unfolding skip_bom
read_behind_comment comment text document of_comment unmarked is =
    let all : List ℕ = 35 ∷ (comment ++ 10 ∷ text) in
    let read = closed text document is (no_mark text unmarked) in
    let longer : suc (length text) ≤ suc (length all) = omega (arith, length-append comment (10 ∷ text)) in
    let whole : lines (suc (length all)) (no_nodes, []) all ≡ Some read.0 =
    same_start (suc (length all)) (no_nodes, []) all text (blank_comment comment text of_comment)
    ∙ more_turns (suc (length text)) (suc (length all)) longer (no_nodes, []) read.0 text read.1 in
    document_some all read.0 whole ∙ ap Some read.2
