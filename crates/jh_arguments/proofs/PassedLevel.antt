-- A level of a parse that does not fail: its rows pass, and each argument that is required or has a default has one.
use Rattle.std.proofs.Common.{◌≡◌, ◌∙◌, ◌&&◌, ◌||◌, Bool, cond, true, false, not, refl, sym, ap, List, [], ◌∷◌, ◌++◌, Some, true≢false}
use Rattle.std.specs.List.{find, fold, list_any}
use Rattle.std.specs.Str.{bytes_eq}
use Rattle.std.specs.Option.{option_map_or}
use Rattle.std.proofs.lemmas.Slice.Eq.{bytes_eq-Decides}
use Rattle.clap.specs.Facts.{explicit_source}
use Rattle.clap.specs.Kinds.{check_kinds}
use Rattle.clap.specs.Faults.{check_fault, default_fault, defaults_fault, level_fault, settle_fault, walk_fault}
use Rattle.clap.specs.Simple.{Shape}
use Rattle.clap.specs.Takes.{is_given}
use Rattle.clap.specs.Walk.{Names, Row, Rule, Text, default_rows, finished, has_row, is_empty, more_values, nothing_held, reading_by, rows_after, settled, walk, walk_from, with_default, with_values}
use Rattle.clap.specs.declared.builder.value_parser.Reading.{Reading}
use Rattle.clap.specs.declared.error.kind.ErrorKind.TheVariants as kind
use Rattle.clap.specs.declared.parser.matches.ValueSource.{ValueSource}
use Rattle.clap.specs.declared.parser.matches.ValueSource.TheVariants.{DefaultValue}
use Rattle.jh_arguments.proofs.PassedRows.{Each, IsOwn, Pass, default_pass, none_of_both, settled_pass}
use Rattle.jh_arguments.proofs.PassedWalk.{walk_pass}

-- ---- rows that are there stay there

or_right : (a b : Bool) → b ≡ true → (a || b) ≡ true
or_right true b e = refl
or_right false b e = e

or_then : (m a b : Bool) → (m || a) ≡ true → (a ≡ true → b ≡ true) → (m || b) ≡ true
or_then true a b e next = refl
or_then false a b e next = next e

row_kept : (k id : Text) (how : Reading) (s : ValueSource) (vs : List Text) (rows : List Row) → has_row k rows ≡ true → has_row k (with_values id how s vs rows) ≡ true
row_kept k id how s vs [] e = absurd (true≢false (sym e))
row_kept k id how s vs (r ∷ rs) e = go (bytes_eq r.id id) (row_kept k id how s vs rs)
  where
    go : (b : Bool) → (has_row k rs ≡ true → has_row k (with_values id how s vs rs) ≡ true)
        → has_row k (cond b (more_values s vs r ++ rs) (r ∷ with_values id how s vs rs)) ≡ true
    go true next = e
    go false next = or_then (bytes_eq r.id k) (has_row k rs) (has_row k (with_values id how s vs rs)) e next

row_added : (id : Text) (how : Reading) (s : ValueSource) (vs : List Text) (rows : List Row) → has_row id (with_values id how s vs rows) ≡ true
row_added id how s vs [] = ap (λ b. b || false) ((bytes_eq-Decides id id).1 refl)
row_added id how s vs (r ∷ rs) = go (bytes_eq r.id id) refl (row_added id how s vs rs)
  where
    go : (b : Bool) → bytes_eq r.id id ≡ b → has_row id (with_values id how s vs rs) ≡ true
        → has_row id (cond b (more_values s vs r ++ rs) (r ∷ with_values id how s vs rs)) ≡ true
    go true e next = ap (λ b. b || has_row id rs) e
    go false e next = or_right (bytes_eq r.id id) _ next

default_kept : (k : Text) (a : Rule) (rows : List Row) → has_row k rows ≡ true → has_row k (with_default rows a) ≡ true
default_kept k a rows e = go (has_row a.id rows)
  where
    given : (vs : List Text) → has_row k (default_rows a.id (reading_by a) vs rows) ≡ true
    given [] = e
    given (v ∷ vs) = row_kept k a.id (reading_by a) DefaultValue (v ∷ vs) rows e

    go : (b : Bool) → has_row k (cond b rows (default_rows a.id (reading_by a) a.defaults rows)) ≡ true
    go true = e
    go false = given a.defaults

defaults_kept : (k : Text) (xs : List Rule) (rows : List Row) → has_row k rows ≡ true → has_row k (fold with_default rows xs) ≡ true
defaults_kept k [] rows e = e
defaults_kept k (a ∷ xs) rows e = defaults_kept k xs (with_default rows a) (default_kept k a rows e)

default_there : (a : Rule) (rows : List Row) → is_empty a.defaults ≡ false → has_row a.id (with_default rows a) ≡ true
default_there a rows some = go (has_row a.id rows) refl
  where
    given : (vs : List Text) → is_empty vs ≡ false → has_row a.id (default_rows a.id (reading_by a) vs rows) ≡ true
    given [] some = absurd (true≢false some)
    given (v ∷ vs) some = row_added a.id (reading_by a) DefaultValue (v ∷ vs) rows

    go : (b : Bool) → has_row a.id rows ≡ b → has_row a.id (cond b rows (default_rows a.id (reading_by a) a.defaults rows)) ≡ true
    go true e = e
    go false e = given a.defaults some

defaults_there : (xs : List Rule) (rows : List Row) → Each (λ a. is_empty a.defaults ≡ false → has_row a.id (fold with_default rows xs) ≡ true) xs
defaults_there [] rows = tt
defaults_there (a ∷ xs) rows = (λ some. defaults_kept a.id xs (with_default rows a) (default_there a rows some), defaults_there xs (with_default rows a))

defaults_pass : (c xs : List Rule) (rows : List Row) → Each (IsOwn c) xs → defaults_fault rows xs ≡ [] → Pass c rows → Pass c (fold with_default rows xs)
unfolding defaults_fault
defaults_pass c [] rows own fault pass = pass
defaults_pass c (a ∷ xs) rows own fault pass =
    let parts = none_of_both (default_fault rows a) (defaults_fault (with_default rows a) xs) fault in
    defaults_pass c xs (with_default rows a) own.1 parts.1 (default_pass c a rows own.0.found parts.0 pass)

-- ---- what is required

given_row : (id : Text) (rows : List Row) → is_given id rows ≡ true → has_row id rows ≡ true
given_row id [] e = e
given_row id (r ∷ rs) e = go (bytes_eq r.id id) (given_row id rs) e
  where
    go : (b : Bool) → (is_given id rs ≡ true → has_row id rs ≡ true)
        → option_map_or (λ (x : Row). explicit_source x.source) (cond b (Some r) (find (λ x. bytes_eq x.id id) rs)) false ≡ true → (b || has_row id rs) ≡ true
    go true next e = refl
    go false next e = next e

pub last_check : (x y z : Bool) → check_kinds x y z ≡ [] → (y ≡ false) × (z ≡ false)
last_check true y z e = let bad : kind.DisplayHelpOnMissingArgumentOrSubcommand ∷ [] ≡ [] = e in cc
last_check false true z e = let bad : kind.MissingSubcommand ∷ [] ≡ [] = e in cc
last_check false false true e = let bad : kind.MissingRequiredArgument ∷ [] ≡ [] = e in cc
last_check false false false e = (refl, refl)

neither : (a b : Bool) → (a || b) ≡ false → (a ≡ false) × (b ≡ false)
neither true b e = absurd (true≢false e)
neither false b e = (refl, e)

then_given : (a b : Bool) → (a && not b) ≡ false → a ≡ true → b ≡ true
then_given true true e t = refl
then_given true false e t = absurd (true≢false e)
then_given false b e t = absurd (true≢false (sym t))

required_there : (c : List Rule) (rows : List Row) → list_any (λ (a : Rule). a.required && not (is_given a.id rows)) c ≡ false → Each (λ a. a.required ≡ true → has_row a.id rows ≡ true) c
required_there [] rows e = tt
required_there (a ∷ c) rows e =
    let parts = neither (a.required && not (is_given a.id rows)) _ e in
    (λ wanted. given_row a.id rows (then_given a.required (is_given a.id rows) parts.0 wanted), required_there c rows parts.1)

-- ---- a level

-- Each row is of a rule, with texts that its parser accepts; each rule that is required, or has a default, has a row.
pub record HoldsOf (c : List Rule) (rows : List Row) : Type 0 where
  pub pass : Pass c rows
  pub defaults : Each (λ a. is_empty a.defaults ≡ false → has_row a.id rows ≡ true) c
  pub required : Each (λ a. a.required ≡ true → has_row a.id rows ≡ true) c

-- a level with no subcommand below it that does not fail
pub level_holds : (s : Shape) (names : Names) (words : List Text) → Each (IsOwn s.rules) s.rules → level_fault s names nothing_held words false [] ≡ []
    → HoldsOf s.rules (rows_after s.rules names words)
level_holds s names words own fault =
    let end = (walk s.rules names nothing_held words).held in
    let walked = none_of_both (walk_fault s names (walk_from nothing_held) words) _ fault in
    let settled_so = none_of_both (settle_fault s.rules s.args_override_self end) _ walked.1 in
    let defaulted = none_of_both (defaults_fault (settled s.rules end).rows s.rules) (check_fault s (finished s.rules end) false) settled_so.1 in
    let checked = last_check _ _ _ defaulted.1 in
    let rows = walk_pass s own names words (walk_from nothing_held) walked.0 tt in
    let settled_rows = settled_pass s.rules s.args_override_self end.pending end.rows own settled_so.0 rows in
    let never : (s.subcommand_negates_reqs && false) ≡ false = no_and s.subcommand_negates_reqs in
    let wanted : list_any (λ (a : Rule). a.required && not (is_given a.id (finished s.rules end))) s.rules ≡ false =
    ap (λ b. not b && list_any (λ (a : Rule). a.required && not (is_given a.id (finished s.rules end))) s.rules) (sym never) ∙ checked.1 in
    record {
      pass = defaults_pass s.rules s.rules (settled s.rules end).rows own defaulted.0 settled_rows;
      defaults = defaults_there s.rules (settled s.rules end).rows;
      required = required_there s.rules (finished s.rules end) wanted;
    }
  where
    no_and : (b : Bool) → (b && false) ≡ false
    no_and true = refl
    no_and false = refl
