-- What the uses of arguments make of rows where none of them fails: each row has texts that its rule's parser accepts.
use Rattle.std.proofs.Common.{◌≡◌, ◌∙◌, ◌<◌, ◌||◌, Bool, cond, true, false, refl, sym, ap, subst, arith, List, [], ◌∷◌, ◌++◌, length, Option, Some, None}
use Rattle.std.specs.List.{find}
use Rattle.std.specs.Str.{bytes_eq}
use Rattle.std.specs.Option.{option_map_or}
use Rattle.std.proofs.lemmas.Bool.{ne_eqb}
use Rattle.std.proofs.lemmas.List.{length-append}
use Rattle.std.proofs.lemmas.Slice.Eq.{bytes_eq-Decides}
use Rattle.clap.specs.Facts.{unwrap_or_range}
use Rattle.clap.specs.Values.{is_request}
use Rattle.clap.specs.Kinds.{Kinds, or_else, range_kinds, request_kinds, value_kinds, values_kinds}
use Rattle.clap.specs.Faults.{action_fault, default_fault, use_fault, values_fault}
use Rattle.clap.specs.Walk.{Row, Rule, Text, action_of, arg_by_id, default_rows, has_row, is_empty, more_values, most_values, reading_by, stronger, used, used_as, used_by_id, settled_rows, values_or_missing, with_default, with_values, without}
use Rattle.clap.specs.declared.builder.action.ArgAction.{ArgAction}
use Rattle.clap.specs.declared.builder.action.ArgAction.TheVariants as action
use Rattle.clap.specs.declared.builder.value_parser.ValueParser.{ValueParser}
use Rattle.clap.specs.declared.parser.matches.ValueSource.{ValueSource}
use Rattle.clap.specs.declared.parser.matches.ValueSource.TheVariants.{DefaultValue, CommandLine}

-- ---- steps of which none fails

pub none_of_both : (a b : Kinds) → or_else a b ≡ [] → (a ≡ []) × (b ≡ [])
none_of_both [] b e = (refl, e)
none_of_both (k ∷ ks) b e = let bad : k ∷ ks ≡ [] = e in cc

-- ---- rules

-- it holds of each rule
abbrev pub Each : (Rule → Type 0) → List Rule → Type 0
Each P [] = Unit {0}
Each P (a ∷ c) = P a × Each P c

pub found_has : (P : Rule → Type 0) (p : Rule → Bool) (c : List Rule) → Each P c → (a : Rule) → find p c ≡ Some a → P a
found_has P p [] each a e = let bad : None ≡ Some a = e in cc
found_has P p (x ∷ c) each a e = go (p x) (found_has P p c each.1 a) e
  where
    go : (b : Bool) → (find p c ≡ Some a → P a) → cond b (Some x) (find p c) ≡ Some a → P a
    go true next e = let same : x ≡ a = (let both : Some x ≡ Some a = e in cc) in subst P same each.0
    go false next e = next e

-- the rule is found by its name among these, and each use of it that is no request has a value
pub record IsOwn (c : List Rule) (a : Rule) : Type 0 where
  pub found : arg_by_id c a.id ≡ Some a
  pub valued : (values : List Text) → is_request (action_of a) ≡ false
      → range_kinds (unwrap_or_range a.range).start_inclusive (most_values a) (length values) ≡ [] → 0 < length (values_or_missing a values)

-- ---- rows

-- the row is one of the rule's, and has values, which all pass its parser
abbrev pub Passes : Option Rule → Row → Type 0
Passes None r = ⊥
Passes (Some a) r = (r.reading ≡ reading_by a) × (values_fault a r.values ≡ []) × (0 < length r.values)

abbrev pub Pass : List Rule → List Row → Type 0
Pass c [] = Unit {0}
Pass c (r ∷ rs) = Passes (arg_by_id c r.id) r × Pass c rs

kinds_append : (b : Bool) (p : ValueParser) (xs ys : List Text) → values_kinds b p xs ≡ [] → values_kinds b p ys ≡ [] → values_kinds b p (xs ++ ys) ≡ []
kinds_append b p [] ys ex ey = ey
kinds_append b p (x ∷ xs) ys ex ey =
    let parts = none_of_both (value_kinds b p x) (values_kinds b p xs) ex in
    ap (λ k. or_else k (values_kinds b p (xs ++ ys))) parts.0 ∙ kinds_append b p xs ys parts.1 ey

module _ (c : List Rule) where
  -- the values of a use join
  pub with_values_pass : (a : Rule) (s : ValueSource) (vs : List Text) (rows : List Row) → arg_by_id c a.id ≡ Some a → values_fault a vs ≡ [] → 0 < length vs
      → Pass c rows → Pass c (with_values a.id (reading_by a) s vs rows)
  with_values_pass a s vs [] own fault lt pass = (subst (λ o. Passes o (record { id = a.id; values = vs; count = None; source = Some s; reading = reading_by a })) (sym own) (refl, fault, lt), tt)
  with_values_pass a s vs (r ∷ rs) own fault lt pass = go (bytes_eq r.id a.id) refl (with_values_pass a s vs rs own fault lt pass.1)
    where
      more : Row
      more = record r { values = r.values ++ vs; source = Some (stronger r.source s) }

      same : bytes_eq r.id a.id ≡ true → Passes (arg_by_id c r.id) more
      same e =
          let id : arg_by_id c r.id ≡ Some a = ap (arg_by_id c) ((bytes_eq-Decides r.id a.id).0 e) ∙ own in
          let before : Passes (Some a) r = subst (λ o. Passes o r) id pass.0 in
          subst (λ o. Passes o more) (sym id)
          (before.0, kinds_append _ _ r.values vs before.1 fault, omega (arith, length-append r.values vs))

      go : (b : Bool) → bytes_eq r.id a.id ≡ b → Pass c (with_values a.id (reading_by a) s vs rs)
          → Pass c (cond b (more_values s vs r ++ rs) (r ∷ with_values a.id (reading_by a) s vs rs))
      go true e next = (same e, pass.1)
      go false e next = (pass.0, next)

  pub without_pass : (id : Text) (rows : List Row) → Pass c rows → Pass c (without id rows)
  without_pass id [] pass = tt
  without_pass id (r ∷ rs) pass = go (bytes_eq r.id id) (without_pass id rs pass.1)
    where
      go : (b : Bool) → Pass c (without id rs) → Pass c (cond b rs (r ∷ without id rs))
      go true next = pass.1
      go false next = (pass.0, next)

  -- an action with values
  pub action_pass : (x : ArgAction) (again : Bool) (a : Rule) (vs : List Text) (rows : List Row) → arg_by_id c a.id ≡ Some a → (is_request x ≡ false → 0 < length vs)
      → action_fault x again a vs rows ≡ [] → Pass c rows → Pass c (used_as x a.id (reading_by a) vs rows)
  action_pass action.Set again a vs rows own lt fault pass =
      with_values_pass a CommandLine vs (without a.id rows) own (none_of_both _ _ fault).1 (lt refl) (without_pass a.id rows pass)
  action_pass action.SetTrue again a vs rows own lt fault pass =
      with_values_pass a CommandLine vs (without a.id rows) own (none_of_both _ _ fault).1 (lt refl) (without_pass a.id rows pass)
  action_pass action.SetFalse again a vs rows own lt fault pass =
      with_values_pass a CommandLine vs (without a.id rows) own (none_of_both _ _ fault).1 (lt refl) (without_pass a.id rows pass)
  action_pass action.Append again a vs rows own lt fault pass = with_values_pass a CommandLine vs rows own fault (lt refl) pass
  action_pass action.Count again a [] rows own lt fault pass = absurd (let no = lt refl in omega arith)
  action_pass action.Count again a (v ∷ vs) rows own lt fault pass =
      with_values_pass a CommandLine (v ∷ vs) (without a.id rows) own fault (lt refl) (without_pass a.id rows pass)
  action_pass action.Help again a vs rows own lt fault pass = pass
  action_pass action.HelpShort again a vs rows own lt fault pass = pass
  action_pass action.HelpLong again a vs rows own lt fault pass = pass
  action_pass action.Version again a vs rows own lt fault pass = pass

  pub used_pass : (again : Bool) (a : Rule) (values : List Text) (rows : List Row) → IsOwn c a → use_fault again a values rows ≡ [] → Pass c rows → Pass c (used a values rows)
  used_pass again a values rows own fault pass =
      let parts = none_of_both _ _ fault in
      action_pass (action_of a) again a (values_or_missing a values) rows own.found (λ no. own.valued values no parts.0) parts.1 pass

  -- the pending argument is used
  pub settled_pass : (again : Bool) (pending : Option (Text × List Text)) (rows : List Row) → Each (IsOwn c) c
      → option_map_or (λ p. option_map_or (λ a. use_fault again a p.1 rows) (arg_by_id c p.0) []) pending [] ≡ [] → Pass c rows → Pass c (settled_rows c pending rows)
  settled_pass again None rows own fault pass = pass
  settled_pass again (Some p) rows own fault pass = go (arg_by_id c p.0) refl fault
    where
      go : (o : Option Rule) → arg_by_id c p.0 ≡ o → option_map_or (λ a. use_fault again a p.1 rows) o [] ≡ [] → Pass c (used_by_id o p.1 rows)
      go None is fault = pass
      go (Some a) is fault = used_pass again a p.1 rows (found_has (IsOwn c) _ c own a is) fault pass

  -- ---- defaults

  pub default_pass : (a : Rule) (rows : List Row) → arg_by_id c a.id ≡ Some a → default_fault rows a ≡ [] → Pass c rows → Pass c (with_default rows a)
  default_pass a rows own fault pass = go (has_row a.id rows) fault
    where
      given : (vs : List Text) → cond (is_empty vs) [] (or_else (request_kinds (action_of a)) (values_fault a vs)) ≡ []
          → Pass c (default_rows a.id (reading_by a) vs rows)
      given [] fault = pass
      given (v ∷ vs) fault =
          let full : is_empty (v ∷ vs) ≡ false = ne_eqb (length (v ∷ vs)) 0 (λ e. omega arith) in
          let here : or_else (request_kinds (action_of a)) (values_fault a (v ∷ vs)) ≡ [] =
          ap (λ b. cond b [] (or_else (request_kinds (action_of a)) (values_fault a (v ∷ vs)))) (sym full) ∙ fault in
          with_values_pass a DefaultValue (v ∷ vs) rows own (none_of_both (request_kinds (action_of a)) (values_fault a (v ∷ vs)) here).1 (omega arith) pass

      go : (b : Bool) → cond (b || is_empty a.defaults) [] (or_else (request_kinds (action_of a)) (values_fault a a.defaults)) ≡ []
          → Pass c (cond b rows (default_rows a.id (reading_by a) a.defaults rows))
      go true fault = pass
      go false fault = given a.defaults fault
