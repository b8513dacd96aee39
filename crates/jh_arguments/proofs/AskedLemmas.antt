-- Arguments that `clap` takes ask for a command, or for a test.
use Rattle.std.proofs.Common.{◌≡◌, ◌∙◌, ◌<◌, ◌||◌, ◌⊎◌, inl, inr, ℕ, ℤ, Bool, codes, true, false, refl, sym, ap, ap₂, subst, arith, map, List, [], ◌∷◌, length, Option, Some, None, true≢false}
use Rattle.std.specs.Prelude.{option_and_then, option_map, pos, negsuc}
use Rattle.std.specs.Borrow.{Bor}
use Rattle.std.specs.List.{list_any}
use Rattle.std.specs.Str.{bytes_eq}
use Rattle.std.specs.Str.Parse.{digits_value, signed_digits_value, without_leading_plus}
use Rattle.std.proofs.lemmas.Slice.Eq.{bytes_eq-Decides}
use Rattle.clap.specs.Facts.{unwrap_or_range}
use Rattle.clap.specs.Kinds.{range_kinds}
use Rattle.clap.specs.Values.{is_request}
use Rattle.clap.specs.Words.{App, new_app, Row, Rule, Shape, Text, fault_of, first_of, one_of, subcommand_of}
use Rattle.clap.specs.Simple.{argument_words, built, built_leaf, help_shape, inherited, marked_built, with_leaf_noted}
use Rattle.clap.specs.Walk.{action_of, arg_by_id, most_values, rows_after, values_or_missing}
use Rattle.clap.specs.declared.builder.range.ValueRange.{ValueRange}
use Rattle.clap.specs.declared.builder.value_parser.ValueParser.TheVariants as vp
use Rattle.clap.proofs.WalkLemmas.{list_any-map}
use Rattle.jh_arguments.proofs.PassedRows.{Each, IsOwn}
use Rattle.jh_arguments.proofs.PassedLevel.{HoldsOf, level_holds}
use Rattle.jh_arguments.proofs.PassedTexts.{HasNoText, HasText, needed_gives, option_gives, read_of}
use Rattle.jh_arguments.proofs.PassedCommand.{Leads, entered_leads}
use Rattle.jh_arguments.specs.Answers.{ArgumentsAskFor, ArgumentsAskForTest}
use Rattle.jh_arguments.proofs.OptionLemmas.{number_one}
use Rattle.jh_arguments.proofs.OnceLemmas.{Once, asked_once, flag_once, named, no_drive, searches, shrinks, trials_once}
use Rattle.jh_arguments.proofs.SameWalk.{subcommand_same}
use Rattle.jh_checkers.specs.Checkers.{checker_name, checker_names}
use Rattle.jh_checkers.specs.Models.{model_named}
use Rattle.jh_arguments.specs.Palettes.{palette_named}
use Rattle.jh_arguments.specs.Line.{IsCommandLine, check, drive, jeprun, plot, search, shrink, timeline, without_options}
use Rattle.jh_arguments.specs.Accounts.{Accounts}
use Rattle.jh_arguments.specs.Commands.{SubcommandIsAny, AsksCheck, Conducts, SubcommandIsTest, SubcommandIs, TestAsked, Tries, Reduces, AsksSearch, AsksTrials, AsksTimeline, IsFlag, IsGivenWithin, IsGivenNumber, IsGivenSigned, IsJudging, IsJudgingBy, IsNumberWithin, IsShow}
use Rattle.jh_arguments.specs.Limits.{max_candidates, max_spread_ms}
use Rattle.jh_settings.specs.Limits.{max_budget}
use Rattle.jh_checkers.specs.declared.checker.Checker.{Checker}
use Rattle.jh_checkers.specs.declared.checker.Checker.TheVariants.{Register, Set, Counter, Ids, ListAppend, TotalQueue, Queue, Bank, SetFull, Mutex, FifoQueue}
use Rattle.jh_checkers.specs.declared.finding.Judging.{Judging}
use Rattle.jh_cli.specs.declared.search_command.Show.{Show}
use Rattle.jh_arguments.specs.declared.commands.Command.{Command}
use Rattle.jh_arguments.specs.declared.commands.Command.TheVariants.{Env, Check, Run, Shrink, Search, Timeline, Plot}

-- ---- rules

one_valued : (c : List Rule) (a : Rule) → arg_by_id c a.id ≡ Some a → unwrap_or_range a.range ≡ record { start_inclusive = 1; end_inclusive = 1 } → IsOwn c a
one_valued c a found range = record { found = found; valued = valued }
  where
    valued : (values : List Text) → is_request (action_of a) ≡ false → range_kinds (unwrap_or_range a.range).start_inclusive (most_values a) (length values) ≡ []
        → 0 < length (values_or_missing a values)
    valued [] it e = let bad = ap (λ (r : ValueRange). range_kinds r.start_inclusive r.end_inclusive 0) (sym range) ∙ e in cc
    valued (v ∷ vs) it e = omega arith

flag_valued : (c : List Rule) (a : Rule) → arg_by_id c a.id ≡ Some a → 0 < length a.missing → IsOwn c a
flag_valued c a found lt = record { found = found; valued = valued }
  where
    valued : (values : List Text) → is_request (action_of a) ≡ false → range_kinds (unwrap_or_range a.range).start_inclusive (most_values a) (length values) ≡ []
        → 0 < length (values_or_missing a values)
    valued [] it e = lt
    valued (v ∷ vs) it e = omega arith

request : (c : List Rule) (a : Rule) → arg_by_id c a.id ≡ Some a → is_request (action_of a) ≡ true → IsOwn c a
request c a found is = record { found = found; valued = λ values it e. absurd (true≢false (sym is ∙ it)) }

-- ---- texts

module _ (rows : List Row) (id : Text) where
  number_in : (least most : ℕ) → HasText rows id false (vp.Unsigned least most) → (n : ℕ) × IsNumberWithin least most (one_of id rows) n
  number_in least most t =
      let n = digits_value 10 (without_leading_plus t.text) in
      (n, subst (λ o. IsNumberWithin least most o n) (sym t.one) (((t.accepted.0, t.accepted.1), refl), t.accepted.2, t.accepted.3))

  given_in : (least most : ℕ) → ((false ≡ false) × HasNoText rows id) ⊎ HasText rows id false (vp.Unsigned least most) → (n : Option ℕ) × IsGivenWithin least most (one_of id rows) n
  given_in least most (inl none) = (None, subst (λ o. IsGivenWithin least most o None) (sym none.1.one) refl)
  given_in least most (inr t) =
      let n = digits_value 10 (without_leading_plus t.text) in
      (Some n, subst (λ o. IsGivenWithin least most o (Some n)) (sym t.one) (((t.accepted.0, t.accepted.1), refl), t.accepted.2, t.accepted.3))

  given_number_in : ((false ≡ false) × HasNoText rows id) ⊎ HasText rows id false (vp.Unsigned 0 18446744073709551615) → (n : Option ℕ) × IsGivenNumber (one_of id rows) n
  given_number_in (inl none) = (None, subst (λ o. IsGivenNumber o None) (sym none.1.one) refl)
  given_number_in (inr t) =
      let n = digits_value 10 (without_leading_plus t.text) in
      (Some n, subst (λ o. IsGivenNumber o (Some n)) (sym t.one) ((t.accepted.0, t.accepted.1), refl))

  signed_in : ((false ≡ false) × HasNoText rows id) ⊎ HasText rows id false (vp.Signed (negsuc 9223372036854775807) (pos 9223372036854775807)) → (v : Option ℤ) × IsGivenSigned (one_of id rows) v
  signed_in (inl none) = (None, subst (λ o. IsGivenSigned o None) (sym none.1.one) refl)
  signed_in (inr t) =
      let v = signed_digits_value 10 t.text in
      (Some v, subst (λ o. IsGivenSigned o (Some v)) (sym t.one) ((t.accepted.0, t.accepted.1), refl))

flag_in : (o : Option Text) → (b : Bool) × IsFlag o b
flag_in None = (false, refl)
flag_in (Some t) = (bytes_eq t (codes "true"), (λ e. (bytes_eq-Decides t (codes "true")).1 e, λ e. ap (λ x. bytes_eq x (codes "true")) e))

any_checker : (t : Text) (cs : List Checker) → list_any (λ n. bytes_eq n t) (map checker_name cs) ≡ true → (c : Checker) × (checker_name c ≡ t)
any_checker t [] e = absurd (true≢false (sym e))
any_checker t (c ∷ cs) e = go (bytes_eq (checker_name c) t) refl (any_checker t cs) e
  where
    go : (b : Bool) → bytes_eq (checker_name c) t ≡ b → (list_any (λ n. bytes_eq n t) (map checker_name cs) ≡ true → (d : Checker) × (checker_name d ≡ t))
        → (b || list_any (λ n. bytes_eq n t) (map checker_name cs)) ≡ true → (d : Checker) × (checker_name d ≡ t)
    go true here next e = (c, (bytes_eq-Decides (checker_name c) t).0 here)
    go false here next e = next e

checker_in : (names : Bor (List (Bor Text))) → map (λ s. s.now) names.now ≡ checker_names → (rows : List Row) → HasText rows (codes "workload") false (vp.Names names)
    → (c : Checker) × (first_of (codes "workload") rows ≡ Some (checker_name c))
checker_in names all rows t =
    let among : list_any (λ n. bytes_eq n t.text) checker_names ≡ true =
    ap (list_any (λ n. bytes_eq n t.text)) (sym all) ∙ (sym (list_any-map (λ n. bytes_eq n t.text) (λ s. s.now) names.now) ∙ t.accepted) in
    let found = any_checker t.text (Register ∷ Set ∷ Counter ∷ Ids ∷ ListAppend ∷ TotalQueue ∷ Queue ∷ Bank ∷ SetFull ∷ Mutex ∷ FifoQueue ∷ []) among in
    (found.0, t.first ∙ ap Some (sym found.1))

-- ---- each command

module _ (names models : Bor (List (Bor Text))) (all : map (λ s. s.now) names.now ≡ checker_names) where
  -- a subcommand, as it is built
  abbrev leaf : App → Shape
  leaf a = built_leaf (inherited (with_leaf_noted (marked_built (jeprun names models).top)) a.top)

  env_asks : Leads SubcommandIsAny (leaf (without_options (codes "env")))
  env_asks name rest named other fault = inl (λ given. (Env, refl))

  run_asks : Leads SubcommandIsAny (leaf (without_options (codes "run")))
  run_asks name rest named other fault = inl (λ given. (Run, refl))

  plot_asks : Leads SubcommandIsAny (leaf plot)
  plot_asks name rest named other fault =
      let rows = rows_after (leaf plot).rules [] rest in
      let skips = flag_in (one_of (codes "skip-unread") rows) in
      inl (λ given. (Plot skips.0, (refl, skips.1)))

  plot_rules : Each (IsOwn (leaf plot).rules) (leaf plot).rules
  plot_rules = (flag_valued _ _ refl (omega arith), (flag_valued _ _ refl (omega arith), (request _ _ refl refl, tt)))

  help_asks : Leads SubcommandIsAny (built_leaf help_shape)
  help_asks name rest named other fault =
      let same : codes "help" ≡ name = (bytes_eq-Decides (codes "help") name).0 (or_false (bytes_eq (codes "help") name) named) in
      absurd (true≢false (sym ((bytes_eq-Decides name (codes "help")).1 (sym same)) ∙ other))
    where
      or_false : (b : Bool) → (b || false) ≡ true → b ≡ true
      or_false true e = refl
      or_false false e = e

  shrink_rules : Each (IsOwn (leaf shrink).rules) (leaf shrink).rules
  shrink_rules = (one_valued _ _ refl refl, (one_valued _ _ refl refl, (flag_valued _ _ refl (omega arith), (request _ _ refl refl, tt))))

  shrink_asks : Leads SubcommandIsAny (leaf shrink)
  shrink_asks name rest named other fault =
      let holds = level_holds (leaf shrink) [] rest shrink_rules fault in
      let rows = rows_after (leaf shrink).rules [] rest in
      let runs = number_in rows (codes "budget") 0 max_budget (needed_gives _ rows holds (codes "budget") false (vp.Unsigned 0 max_budget) refl) in
      elim (option_gives _ rows holds (codes "drive") false vp.String false refl) [
        | inl none ↦ inl (λ given. (Shrink runs.0, (refl, none.1.first, runs.1.0)))
        | inr path ↦ inr (Reduces path.text runs.0, ((refl, path.first), runs.1.0))
      ]

  drive_rules : Each (IsOwn (leaf drive).rules) (leaf drive).rules
  drive_rules = (one_valued _ _ refl refl, (flag_valued _ _ refl (omega arith), (request _ _ refl refl, tt)))

  drive_asks : Leads SubcommandIsAny (leaf drive)
  drive_asks name rest named other fault =
      let holds = level_holds (leaf drive) [] rest drive_rules fault in
      let rows = rows_after (leaf drive).rules [] rest in
      let path = needed_gives _ rows holds (codes "settings") false vp.String refl in
      inr (Conducts path.text, (refl, path.first))

  search_rules : Each (IsOwn (leaf search).rules) (leaf search).rules
  search_rules = (
    one_valued _ _ refl refl,
    (
      one_valued _ _ refl refl,
      (
        one_valued _ _ refl refl,
        (
          one_valued _ _ refl refl,
          (
            one_valued _ _ refl refl,
            (one_valued _ _ refl refl, (one_valued _ _ refl refl, (one_valued _ _ refl refl, (flag_valued _ _ refl (omega arith), (request _ _ refl refl, tt))))),
          ),
        ),
      ),
    ),
  )

  show_in : (rows : List Row) → HoldsOf (leaf search).rules rows → (show : Option Show) × IsShow rows show
  show_in rows holds = go (given_in rows (codes "show") 0 max_candidates (option_gives _ rows holds (codes "show") false (vp.Unsigned 0 max_candidates) false refl))
    where
      go : (n : Option ℕ) × IsGivenWithin 0 max_candidates (one_of (codes "show") rows) n → (show : Option Show) × IsShow rows show
      go (None, none) = (None, none)
      go (Some n, some) =
          let over = given_in rows (codes "ms") 1 max_spread_ms (option_gives _ rows holds (codes "ms") false (vp.Unsigned 1 max_spread_ms) false refl) in
          (Some (record { number = n; milliseconds = over.0 }), (is_within (one_of (codes "show") rows) some, over.1))
        where
          is_within : (o : Option Text) → IsGivenWithin 0 max_candidates o (Some n) → IsNumberWithin 0 max_candidates o n
          is_within None e = let bad : Some n ≡ None = e in cc
          is_within (Some t) e = e

  search_asks : Leads SubcommandIsAny (leaf search)
  search_asks name rest named other fault =
      let holds = level_holds (leaf search) [] rest search_rules fault in
      let rows = rows_after (leaf search).rules [] rest in
      let runs = number_in rows (codes "runs") 1 max_candidates (needed_gives _ rows holds (codes "runs") false (vp.Unsigned 1 max_candidates) refl) in
      let faults = number_in rows (codes "faults") 0 256 (needed_gives _ rows holds (codes "faults") false (vp.Unsigned 0 256) refl) in
      let from = number_in rows (codes "from") 0 max_candidates (needed_gives _ rows holds (codes "from") false (vp.Unsigned 0 max_candidates) refl) in
      let threads = given_in rows (codes "threads") 1 16 (option_gives _ rows holds (codes "threads") false (vp.Unsigned 1 16) false refl) in
      let show = show_in rows holds in
      let asks : AsksSearch rows (record {
        from = from.0;
        runs = runs.0;
        faults = faults.0;
        palette = option_and_then palette_named (first_of (codes "palette") rows);
        threads = threads.0;
        show = show.0;
      }) = record { from = from.1; runs = runs.1; faults = faults.1; palette = refl; threads = threads.1; show = show.1 } in
      let trials : AsksTrials rows (record {
        from = from.0;
        runs = runs.0;
        faults = faults.0;
        palette = option_and_then palette_named (first_of (codes "palette") rows);
      }) = record { from = from.1; runs = runs.1; faults = faults.1; palette = refl } in
      elim (option_gives _ rows holds (codes "drive") false vp.String false refl) [
        | inl none ↦ inl (λ given. (Search _, (refl, none.1.first, asks)))
        | inr path ↦ inr (Tries path.text _, ((refl, path.first), trials))
      ]

  -- by what a history is judged, of a checker that is named
  judging_in : (c : List Rule) (rows : List Row) → HoldsOf c rows
      → option_map read_of (arg_by_id c (codes "initial")) ≡ Some (false, vp.Signed (negsuc 9223372036854775807) (pos 9223372036854775807), false)
      → option_map read_of (arg_by_id c (codes "total")) ≡ Some (false, vp.Signed (negsuc 9223372036854775807) (pos 9223372036854775807), false)
      → option_map read_of (arg_by_id c (codes "budget")) ≡ Some (false, vp.Unsigned 0 max_budget, true)
      → (explain : Bool) (checker : Checker) → first_of (codes "workload") rows ≡ Some (checker_name checker)
      → (given : Accounts) → (judging : Judging) × IsJudgingBy given rows judging × (judging.explain ≡ explain)
  judging_in c rows holds initial total budget explain checker named given =
      let first = signed_in rows (codes "initial") (option_gives c rows holds (codes "initial") false (vp.Signed (negsuc 9223372036854775807) (pos 9223372036854775807)) false initial) in
      let sum = signed_in rows (codes "total") (option_gives c rows holds (codes "total") false (vp.Signed (negsuc 9223372036854775807) (pos 9223372036854775807)) false total) in
      let negative = flag_in (one_of (codes "negative-balances") rows) in
      let linearizable = flag_in (one_of (codes "linearizable") rows) in
      let locked = flag_in (one_of (codes "locked") rows) in
      let most = number_in rows (codes "budget") 0 max_budget (needed_gives c rows holds (codes "budget") false (vp.Unsigned 0 max_budget) budget) in (
        record {
          checker = checker;
          initial = first.0;
          budget = most.0;
          explain = explain;
          model = option_and_then model_named (first_of (codes "model") rows);
          accounts = given;
          total = sum.0;
          negative_balances = negative.0;
          linearizable = linearizable.0;
          locked = locked.0;
        },
        record {
          workload = named;
          initial = first.1;
          model = refl;
          accounts = refl;
          total = sum.1;
          negative_balances = negative.1;
          linearizable = linearizable.1;
          locked = locked.1;
          budget = most.1.0;
        },
        refl,
      )

  check_rules : Each (IsOwn (leaf (check names models)).rules) (leaf (check names models)).rules
  check_rules = (one_valued _ _ refl refl, (one_valued _ _ refl refl, (one_valued _ _ refl refl, (one_valued _ _ refl refl, (one_valued _ _ refl refl, (flag_valued _ _ refl (omega arith), (flag_valued _ _ refl (omega arith), (flag_valued _ _ refl (omega arith), (one_valued _ _ refl refl, (flag_valued _ _ refl (omega arith), (flag_valued _ _ refl (omega arith), (one_valued _ _ refl refl, (one_valued _ _ refl refl, (flag_valued _ _ refl (omega arith), (flag_valued _ _ refl (omega arith), (request _ _ refl refl, tt))))))))))))))))

  check_asks : Leads SubcommandIsAny (leaf (check names models))
  check_asks name rest named other fault =
      let holds = level_holds (leaf (check names models)) [] rest check_rules fault in
      let rows = rows_after (leaf (check names models)).rules [] rest in
      let checker = checker_in names all rows (needed_gives _ rows holds (codes "workload") false (vp.Names names) refl) in
      let explain = flag_in (one_of (codes "explain") rows) in
      let independent = flag_in (one_of (codes "independent") rows) in
      let threads = number_in rows (codes "threads") 1 16 (needed_gives _ rows holds (codes "threads") false (vp.Unsigned 1 16) refl) in
      let least = given_number_in rows (codes "at-least") (option_gives _ rows holds (codes "at-least") false (vp.Unsigned 0 18446744073709551615) false refl) in
      let by = judging_in _ rows holds refl refl refl explain.0 checker.0 checker.1 in
      let skips = flag_in (one_of (codes "skip-unread") rows) in
      let asks : (given : Accounts) → AsksCheck given rows (record { judging = (by given).0; independent = independent.0; threads = threads.0; at_least = least.0; skips_unread = skips.0 }) =
      λ given. record {
        judging = (by given).1;
        explain = subst (IsFlag (one_of (codes "explain") rows)) (sym (by given).2) explain.1;
        independent = independent.1;
        threads = threads.1;
        at_least = least.1;
        skips_unread = skips.1;
      } in
      inl (λ given. (Check _, (refl, asks given)))

  timeline_rules : Each (IsOwn (leaf (timeline names models)).rules) (leaf (timeline names models)).rules
  timeline_rules = (one_valued _ _ refl refl, (one_valued _ _ refl refl, (one_valued _ _ refl refl, (one_valued _ _ refl refl, (one_valued _ _ refl refl, (flag_valued _ _ refl (omega arith), (flag_valued _ _ refl (omega arith), (flag_valued _ _ refl (omega arith), (one_valued _ _ refl refl, (flag_valued _ _ refl (omega arith), (one_valued _ _ refl refl, (one_valued _ _ refl refl, (one_valued _ _ refl refl, (flag_valued _ _ refl (omega arith), (flag_valued _ _ refl (omega arith), (request _ _ refl refl, tt))))))))))))))))

  -- by what the history of a page is judged, where it is
  page_in : (rows : List Row) → HoldsOf (leaf (timeline names models)).rules rows → ((false ≡ false) × HasNoText rows (codes "workload")) ⊎ HasText rows (codes "workload") false (vp.Names names)
      → (given : Accounts) → (judging : Option Judging) × IsJudging given rows judging
  page_in rows holds (inl none) given = (None, none.1.first)
  page_in rows holds (inr t) given =
      let checker = checker_in names all rows t in
      let by = judging_in _ rows holds refl refl refl true checker.0 checker.1 given in
      (Some by.0, (by.1, by.2))

  timeline_asks : Leads SubcommandIsAny (leaf (timeline names models))
  timeline_asks name rest named other fault =
      let holds = level_holds (leaf (timeline names models)) [] rest timeline_rules fault in
      let rows = rows_after (leaf (timeline names models)).rules [] rest in
      let judging = page_in rows holds (option_gives _ rows holds (codes "workload") false (vp.Names names) false refl) in
      let independent = flag_in (one_of (codes "independent") rows) in
      let from = given_number_in rows (codes "from") (option_gives _ rows holds (codes "from") false (vp.Unsigned 0 18446744073709551615) false refl) in
      let to = given_number_in rows (codes "to") (option_gives _ rows holds (codes "to") false (vp.Unsigned 0 18446744073709551615) false refl) in
      let skips = flag_in (one_of (codes "skip-unread") rows) in
      let asks : (given : Accounts) → AsksTimeline given rows (record { judging = (judging given).0; independent = independent.0; choice = record { from = from.0; to = to.0 }; skips_unread = skips.0 }) =
      λ given. record { judging = (judging given).1; independent = independent.1; from = from.1; to = to.1; skips_unread = skips.1 } in
      inl (λ given. (Timeline _, (refl, asks given)))

  -- two subcommands have names that differ
  other_name : (a b : Text) → bytes_eq a b ≡ false → a ≡ b → ⊥
  other_name a b differ same = true≢false (sym ((bytes_eq-Decides a b).1 same) ∙ differ)

  once_of : (a : App) → bytes_eq (leaf a).name (codes "check") ≡ false → bytes_eq (leaf a).name (codes "timeline") ≡ false → bytes_eq (leaf a).name (codes "plot") ≡ false → Leads Once (leaf a)
  once_of a first second third name rest named other fault =
      asked_once ((leaf a).name, rows_after (leaf a).rules [] rest) (λ e. absurd (other_name _ _ first e)) (λ e. absurd (other_name _ _ second e)) (λ e. absurd (other_name _ _ third e))

  check_once : Leads Once (leaf (check names models))
  check_once name rest named other fault =
      let holds = level_holds (leaf (check names models)) [] rest check_rules fault in
      let rows = rows_after (leaf (check names models)).rules [] rest in
      asked_once (codes "check", rows)
      (λ e. (
        flag_once rows (codes "explain") (option_gives _ rows holds (codes "explain") false vp.Bool true refl),
        flag_once rows (codes "independent") (option_gives _ rows holds (codes "independent") false vp.Bool true refl),
        flag_once rows (codes "skip-unread") (option_gives _ rows holds (codes "skip-unread") false vp.Bool true refl),
        (
          flag_once rows (codes "negative-balances") (option_gives _ rows holds (codes "negative-balances") false vp.Bool true refl),
          flag_once rows (codes "linearizable") (option_gives _ rows holds (codes "linearizable") false vp.Bool true refl),
          flag_once rows (codes "locked") (option_gives _ rows holds (codes "locked") false vp.Bool true refl),
        ),
      ))
      (λ e. absurd (other_name (codes "check") (codes "timeline") refl e)) (λ e. absurd (other_name (codes "check") (codes "plot") refl e))

  timeline_once : Leads Once (leaf (timeline names models))
  timeline_once name rest named other fault =
      let holds = level_holds (leaf (timeline names models)) [] rest timeline_rules fault in
      let rows = rows_after (leaf (timeline names models)).rules [] rest in
      asked_once (codes "timeline", rows) (λ e. absurd (other_name (codes "timeline") (codes "check") refl e))
      (λ e. (
        flag_once rows (codes "independent") (option_gives _ rows holds (codes "independent") false vp.Bool true refl),
        flag_once rows (codes "skip-unread") (option_gives _ rows holds (codes "skip-unread") false vp.Bool true refl),
        (
          flag_once rows (codes "negative-balances") (option_gives _ rows holds (codes "negative-balances") false vp.Bool true refl),
          flag_once rows (codes "linearizable") (option_gives _ rows holds (codes "linearizable") false vp.Bool true refl),
          flag_once rows (codes "locked") (option_gives _ rows holds (codes "locked") false vp.Bool true refl),
        ),
      ))
      (λ e. absurd (other_name (codes "timeline") (codes "plot") refl e))

  plot_once : Leads Once (leaf plot)
  plot_once name rest named other fault =
      let holds = level_holds (leaf plot) [] rest plot_rules fault in
      let rows = rows_after (leaf plot).rules [] rest in
      asked_once (codes "plot", rows) (λ e. absurd (other_name (codes "plot") (codes "check") refl e)) (λ e. absurd (other_name (codes "plot") (codes "timeline") refl e))
      (λ e. flag_once rows (codes "skip-unread") (option_gives _ rows holds (codes "skip-unread") false vp.Bool true refl))

  help_once : Leads Once (built_leaf help_shape)
  help_once name rest named other fault =
      asked_once (codes "help", rows_after (built_leaf help_shape).rules [] rest) (λ e. absurd (other_name (codes "help") (codes "check") refl e))
      (λ e. absurd (other_name (codes "help") (codes "timeline") refl e)) (λ e. absurd (other_name (codes "help") (codes "plot") refl e))

  line_asks : (words : List Text) → fault_of (jeprun names models) words ≡ [] → SubcommandIsAny (subcommand_of (jeprun names models) words)
  line_asks words fault =
      entered_leads SubcommandIsAny (built (jeprun names models)) (argument_words (jeprun names models) words)
      (env_asks, (check_asks, (run_asks, (shrink_asks, (search_asks, (timeline_asks, (drive_asks, (plot_asks, (help_asks, tt))))))))) refl refl fault

  line_once : (words : List Text) → fault_of (jeprun names models) words ≡ [] → Once (subcommand_of (jeprun names models) words)
  line_once words fault =
      entered_leads Once (built (jeprun names models)) (argument_words (jeprun names models) words) (
        once_of (without_options (codes "env")) refl refl refl,
        (
          check_once,
          (
            once_of (without_options (codes "run")) refl refl refl,
            (once_of shrink refl refl refl, (once_of search refl refl refl, (timeline_once, (once_of drive refl refl refl, (plot_once, (help_once, tt)))))),
          ),
        ),
      ) refl refl fault

-- arguments of the command line that `clap` takes ask for a command, or for a test
pub taken_asks : (app : App) → IsCommandLine app → (words : List Text) → fault_of app words ≡ [] → SubcommandIsAny (subcommand_of app words)
taken_asks app line words fault = subst (λ a. SubcommandIsAny (subcommand_of a words)) (sym line.4)
    (line_asks line.0 line.1 line.2 words (ap (λ a. fault_of a words) (sym line.4) ∙ fault))

-- the command line reads alike, whichever texts its names are
line_same : (app other : App) → IsCommandLine app → IsCommandLine other → (words : List Text) → subcommand_of app words ≡ subcommand_of other words
line_same app other line also words =
    ap (λ a. subcommand_of a words) line.4
    ∙ (go line.0 line.1 also.0 also.1 ∙ ap (λ a. subcommand_of a words) (sym also.4))
  where
    go : (names models others more : Bor (List (Bor Text))) → subcommand_of (jeprun names models) words ≡ subcommand_of (jeprun others more) words
    go names models others more =
        sym (subcommand_same (built (jeprun names models)) (argument_words (jeprun names models) words))
        ∙ subcommand_same (built (jeprun others more)) (argument_words (jeprun others more) words)

path_alike : (p q : Text) → Some p ≡ Some q → p ≡ q
path_alike p q both = cc

-- a name is no other
apart : (name one other : Text) → bytes_eq one other ≡ false → name ≡ one → name ≡ other → ⊥
apart name one other differ is also =
    true≢false (sym ((bytes_eq-Decides one other).1 (sym is ∙ also)) ∙ differ)

test_alike : (found : Option (Text × List Row)) (p q : TestAsked) → SubcommandIsTest found p → SubcommandIsTest found q → p ≡ q
test_alike None (Conducts p) q a b = absurd a
test_alike None (Tries p m) q a b = absurd a.0
test_alike None (Reduces p m) q a b = absurd a.0
test_alike (Some found) (Conducts p) (Conducts q) a b = ap Conducts (path_alike p q (sym a.1 ∙ b.1))
test_alike (Some found) (Conducts p) (Tries q n) a b = absurd (apart found.0 (codes "drive") (codes "search") refl a.0 b.0.0)
test_alike (Some found) (Conducts p) (Reduces q n) a b = absurd (apart found.0 (codes "drive") (codes "shrink") refl a.0 b.0.0)
test_alike (Some found) (Tries p m) (Conducts q) a b = absurd (apart found.0 (codes "search") (codes "drive") refl a.0.0 b.0)
test_alike (Some found) (Tries p m) (Reduces q n) a b = absurd (apart found.0 (codes "search") (codes "shrink") refl a.0.0 b.0.0)
test_alike (Some found) (Reduces p m) (Conducts q) a b = absurd (apart found.0 (codes "shrink") (codes "drive") refl a.0.0 b.0)
test_alike (Some found) (Reduces p m) (Tries q n) a b = absurd (apart found.0 (codes "shrink") (codes "search") refl a.0.0 b.0.0)
test_alike (Some found) (Reduces p m) (Reduces q n) a b =
    ap₂ Reduces (path_alike p q (sym a.0.1 ∙ b.0.1)) (number_one (one_of (codes "budget") found.1) m n a.1 b.1)
test_alike (Some found) (Tries p m) (Tries q n) a b = ap₂ Tries (path_alike p q (sym a.0.1 ∙ b.0.1)) (trials_once found.1 m n a.1 b.1)

command_no_test : (given : Accounts) (found : Option (Text × List Row)) (c : Command) (asked : TestAsked) → SubcommandIs given found c → SubcommandIsTest found asked → ⊥
command_no_test given None c (Conducts path) a b = b
command_no_test given None c (Tries path question) a b = b.1
command_no_test given None c (Reduces path runs) a b = b.1
command_no_test given (Some found) c (Conducts path) a b = no_drive c (sym (named given found c a) ∙ b.0)
command_no_test given (Some found) c (Tries path question) a b =
    let bad : None ≡ Some path = sym (searches given found c a b.0.0) ∙ b.0.1 in cc
command_no_test given (Some found) c (Reduces path runs) a b =
    let bad : None ≡ Some path = sym (shrinks given found c a b.0.0) ∙ b.0.1 in cc

-- arguments that ask for two commands ask for one
pub asked_alike : (arguments : List Text) (given : Accounts) (c d : Command) → ArgumentsAskFor arguments given c → ArgumentsAskFor arguments given d → c ≡ d
asked_alike arguments given c d (app, line, fault, asks) (other, also, beside, asks_too) =
    let once : Once (subcommand_of app arguments) = subst (λ a. Once (subcommand_of a arguments)) (sym line.4)
    (line_once line.0 line.1 line.2 arguments (ap (λ a. fault_of a arguments) (sym line.4) ∙ fault)) in
    once given c d asks (subst (λ found. SubcommandIs given found d) (sym (line_same app other line also arguments)) asks_too)

pub asked_test_alike : (arguments : List Text) (p q : TestAsked) → ArgumentsAskForTest arguments p → ArgumentsAskForTest arguments q → p ≡ q
asked_test_alike arguments p q (app, line, fault, asks) (other, also, beside, asks_too) =
    test_alike (subcommand_of app arguments) p q asks (subst (λ found. SubcommandIsTest found q) (sym (line_same app other line also arguments)) asks_too)

pub asked_apart : (arguments : List Text) (given : Accounts) (c : Command) (asked : TestAsked) → ArgumentsAskFor arguments given c → ArgumentsAskForTest arguments asked → ⊥
asked_apart arguments given c asked (app, line, fault, asks) (other, also, beside, asks_too) =
    command_no_test given (subcommand_of app arguments) c asked asks (subst (λ found. SubcommandIsTest found asked) (sym (line_same app other line also arguments)) asks_too)

-- arguments that `clap` takes ask for something
pub asked_there : (app : App) (arguments : List Text) → IsCommandLine app → fault_of app arguments ≡ []
    → ((given : Accounts) → (command : Command) × ArgumentsAskFor arguments given command) ⊎ ((asked : TestAsked) × ArgumentsAskForTest arguments asked)
asked_there app arguments line fault = elim (taken_asks app line arguments fault) [
  | inl asks ↦ inl (λ given. ((asks given).0, (app, line, fault, (asks given).1)))
  | inr (asked, asks) ↦ inr (asked, (app, line, fault, asks))
]
