-- What the options of a level that does not fail give.
use Rattle.std.proofs.Common.{◌≡◌, ◌∙◌, ◌<◌, ◌||◌, ◌⊎◌, inl, inr, Bool, cond, true, false, not, refl, sym, ap, subst, arith, List, [], ◌∷◌, length, Option, Some, None, true≢false}
use Rattle.std.specs.Prelude.{option_and_then, option_map, slice_get}
use Rattle.std.specs.List.{find}
use Rattle.std.specs.Str.{bytes_eq}
use Rattle.std.proofs.lemmas.Slice.Eq.{bytes_eq-Decides}
use Rattle.clap.specs.Facts.{parser_of_value}
use Rattle.clap.specs.Faults.{values_fault}
use Rattle.clap.specs.Kinds.{value_kinds}
use Rattle.clap.specs.Values.{Accepts, read_as, reading_of}
use Rattle.clap.specs.Walk.{Row, Rule, Text, arg_by_id, first_of, has_row, is_empty, one_of, row_text}
use Rattle.clap.specs.declared.builder.value_parser.ValueParser.{ValueParser}
use Rattle.clap.specs.declared.error.kind.ErrorKind.{ErrorKind}
use Rattle.clap.proofs.ValueTestLemmas.{accepts-Accepts}
use Rattle.jh_arguments.proofs.PassedRows.{Pass, Passes, found_has, none_of_both}
use Rattle.jh_arguments.proofs.PassedLevel.{HoldsOf}

-- whether it always has a row
abbrev pub is_needed : Rule → Bool
is_needed a = a.required || not (is_empty a.defaults)

-- what is read of a rule: whether its parser goes by ASCII case, this parser, and whether it always has a row
abbrev pub read_of : Rule → Bool × ValueParser × Bool
read_of a = (a.ignore_case, parser_of_value a.parser, is_needed a)

-- the option gives this text, which its parser accepts
pub record HasText (rows : List Row) (id : Text) (ignore_case : Bool) (p : ValueParser) : Type 0 where
  pub text : Text
  pub first : first_of id rows ≡ Some text
  pub one : one_of id rows ≡ Some (read_as (reading_of p) text)
  pub accepted : Accepts ignore_case p text

-- the option is not there
pub record HasNoText (rows : List Row) (id : Text) : Type 0 where
  pub first : first_of id rows ≡ None
  pub one : one_of id rows ≡ None

abbrev RowPasses : Rule → Option Row → Type 0
RowPasses a None = Unit {0}
RowPasses a (Some r) = Passes (Some a) r

row_found : (c : List Rule) (id : Text) (a : Rule) → arg_by_id c id ≡ Some a → (rows : List Row) → Pass c rows → RowPasses a (find (λ r. bytes_eq r.id id) rows)
row_found c id a is [] pass = tt
row_found c id a is (r ∷ rs) pass = go (bytes_eq r.id id) refl (row_found c id a is rs pass.1)
  where
    go : (b : Bool) → bytes_eq r.id id ≡ b → RowPasses a (find (λ x. bytes_eq x.id id) rs) → RowPasses a (cond b (Some r) (find (λ x. bytes_eq x.id id) rs))
    go true e next = subst (λ o. Passes o r) (ap (arg_by_id c) ((bytes_eq-Decides r.id id).0 e) ∙ is) pass.0
    go false e next = next

found_by : (p : Rule → Bool) (c : List Rule) (a : Rule) → find p c ≡ Some a → p a ≡ true
found_by p [] a e = let bad : None ≡ Some a = e in cc
found_by p (x ∷ c) a e = go (p x) refl (found_by p c a) e
  where
    go : (b : Bool) → p x ≡ b → (find p c ≡ Some a → p a ≡ true) → cond b (Some x) (find p c) ≡ Some a → p a ≡ true
    go true here next e = let same : x ≡ a = (let both : Some x ≡ Some a = e in cc) in subst (λ y. p y ≡ true) same here
    go false here next e = next e

row_missing : (id : Text) (rows : List Row) → has_row id rows ≡ true → find (λ r. bytes_eq r.id id) rows ≡ None → ⊥
row_missing id [] e none = true≢false (sym e)
row_missing id (r ∷ rs) e none = go (bytes_eq r.id id) (row_missing id rs) e none
  where
    go : (b : Bool) → (has_row id rs ≡ true → find (λ x. bytes_eq x.id id) rs ≡ None → ⊥)
        → (b || has_row id rs) ≡ true → cond b (Some r) (find (λ x. bytes_eq x.id id) rs) ≡ None → ⊥
    go true next e none = let bad : Some r ≡ None = none in cc
    go false next e none = next e none

either : (a b : Bool) → (a || not b) ≡ true → (a ≡ true) ⊎ (b ≡ false)
either true b e = inl refl
either false true e = absurd (true≢false (sym e))
either false false e = inr refl

needed_row : (c : List Rule) (rows : List Row) → HoldsOf c rows → (id : Text) (a : Rule) → arg_by_id c id ≡ Some a → is_needed a ≡ true → has_row id rows ≡ true
needed_row c rows holds id a is needed =
    let same : a.id ≡ id = (bytes_eq-Decides a.id id).0 (found_by (λ x. bytes_eq x.id id) c a is) in
    subst (λ i. has_row i rows ≡ true) same (elim (either a.required (is_empty a.defaults) needed) [
      | inl wanted ↦ found_has (λ x. x.required ≡ true → has_row x.id rows ≡ true) _ c holds.required a is wanted
      | inr some ↦ found_has (λ x. is_empty x.defaults ≡ false → has_row x.id rows ≡ true) _ c holds.defaults a is some
    ])

accepted_of : (b : Bool) (k : ErrorKind) → cond b [] (k ∷ []) ≡ [] → b ≡ true
accepted_of true k e = refl
accepted_of false k e = let bad : k ∷ [] ≡ [] = e in cc

first_text : (a : Rule) (vs : List Text) → values_fault a vs ≡ [] → 0 < length vs
    → (t : Text) × (slice_get vs 0 ≡ Some t) × Accepts a.ignore_case (parser_of_value a.parser) t
first_text a [] fault lt = absurd (omega arith)
first_text a (v ∷ vs) fault lt =
    let parts = none_of_both (value_kinds a.ignore_case (parser_of_value a.parser) v) (values_fault a vs) fault in
    (v, refl, accepts-Accepts a.ignore_case (parser_of_value a.parser) v (accepted_of _ _ parts.0))

of_rule : (c : List Rule) (rows : List Row) → HoldsOf c rows → (id : Text) (a : Rule) → arg_by_id c id ≡ Some a
    → ((is_needed a ≡ false) × HasNoText rows id) ⊎ HasText rows id a.ignore_case (parser_of_value a.parser)
of_rule c rows holds id a is = go (find (λ r. bytes_eq r.id id) rows) refl (row_found c id a is rows holds.pass)
  where
    unneeded : (b : Bool) → is_needed a ≡ b → find (λ r. bytes_eq r.id id) rows ≡ None → b ≡ false
    unneeded true e none = absurd (row_missing id rows (needed_row c rows holds id a is e) none)
    unneeded false e none = refl

    go : (o : Option Row) → find (λ r. bytes_eq r.id id) rows ≡ o → RowPasses a o
        → ((is_needed a ≡ false) × HasNoText rows id) ⊎ HasText rows id a.ignore_case (parser_of_value a.parser)
    go None e passes = inl (
      unneeded (is_needed a) refl e,
      record {
        first = ap (option_and_then (λ (r : Row). slice_get r.values 0)) e;
        one = ap (option_and_then row_text) e;
      },
    )
    go (Some r) e passes =
        let text = first_text a r.values passes.1 passes.2 in
        inr (record {
          text = text.0;
          first = ap (option_and_then (λ (x : Row). slice_get x.values 0)) e ∙ text.1;
          one = ap (option_and_then row_text) e ∙ (ap (option_map (read_as r.reading)) text.1 ∙ ap (λ how. Some (read_as how text.0)) passes.0);
          accepted = text.2;
        })

-- what the option of this id gives, by what is read of its rule
pub option_gives : (c : List Rule) (rows : List Row) → HoldsOf c rows → (id : Text) (b : Bool) (p : ValueParser) (needed : Bool) → option_map read_of (arg_by_id c id) ≡ Some (b, p, needed)
    → ((needed ≡ false) × HasNoText rows id) ⊎ HasText rows id b p
option_gives c rows holds id b p needed is = go (arg_by_id c id) refl is
  where
    go : (o : Option Rule) → arg_by_id c id ≡ o → option_map read_of o ≡ Some (b, p, needed) → ((needed ≡ false) × HasNoText rows id) ⊎ HasText rows id b p
    go None e is = let bad : option_map read_of None ≡ Some (b, p, needed) = is in cc
    go (Some a) e is =
        let same : read_of a ≡ (b, p, needed) = (let both : Some (read_of a) ≡ Some (b, p, needed) = is in cc) in
        subst (λ k. ((k.2 ≡ false) × HasNoText rows id) ⊎ HasText rows id k.0 k.1) same (of_rule c rows holds id a e)

-- and where it always has a row
pub needed_gives : (c : List Rule) (rows : List Row) → HoldsOf c rows → (id : Text) (b : Bool) (p : ValueParser) → option_map read_of (arg_by_id c id) ≡ Some (b, p, true) → HasText rows id b p
needed_gives c rows holds id b p is = elim (option_gives c rows holds id b p true is) [
  | inl none ↦ absurd (true≢false none.0)
  | inr text ↦ text
]
