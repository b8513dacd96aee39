-- What is printed of the entries of a schedule is read back as these entries, with their faults in order.
use Rattle.std.proofs.Common.{◌≡◌, ℕ, ◌+◌, ◌<◌, ◌≤◌, true, List, [], ◌∷◌, ◌++◌, length, take, get_or, map, codes, Some, refl, sym, ap, ap₂, ◌∙◌, le-leb, arith}
use Rattle.std.specs.Prelude.{pos, FitsSigned}
use Rattle.std.specs.Int.{w64}
use Rattle.std.specs.List.{All, AllByRecursion}
use Rattle.std.specs.Option.{option_and_then}
use Rattle.std.specs.Str.{IsUtf8}
use Rattle.std.proofs.lemmas.List.{take_more}
use Rattle.std.proofs.lemmas.List.Elements.{All-map, All-weaker}
use Rattle.toml.specs.Data.{item, push_item}
use Rattle.toml.specs.View.{view, items_view}
use Rattle.toml.specs.declared.value.Value.{Value}
use Rattle.toml.proofs.Views.{items_view-push}
use Rattle.jh_edn.specs.Bytes.{is_first, is_symbol, is_digit}
use Rattle.jh_edn.specs.Print.{print}
use Rattle.jh_edn.specs.Printable.{IsPrintable}
use Rattle.jh_edn.specs.Spelling.{depth_limit, is_name}
use Rattle.jh_edn.proofs.PrintedBackLemmas.{printed_spells}
use Rattle.jh_env.specs.Names.{AreNodeNames}
use Rattle.jh_env.proofs.ApartLemmas.{links_kept, nodes_kept}
use Rattle.jh_step_texts.specs.StepText.{parsed_step}
use Rattle.jh_step_texts.specs.StepWritten.{edn_of_step, step_in_order}
use Rattle.jh_step_texts.proofs.FaultOrderLemmas.{in_order_fits}
use Rattle.jh_nemesis.specs.Steps.{FitsNodes}
use Rattle.jh_nemesis.specs.declared.steps.Step.{Step}
use Rattle.jh_nemesis.specs.declared.steps.Step.TheVariants.{Begin, Withdraw, WithdrawAll, Undo, Redo}
use Rattle.jh_settings.specs.Parsed.{AreEach, IsMeant}
use Rattle.jh_test_parts.specs.declared.parts.TestEntry.{TestEntry}
use Rattle.jh_test_parts.specs.declared.parts.When.{When}
use Rattle.jh_drive_settings.specs.Parsed.{parsed_test_entry, parsed_when, test_entry_at}
use Rattle.jh_laws.specs.StepLines.{IsStepOver}
use Rattle.jh_laws.proofs.StepLemmas.{step_again, step_prints}
use Rattle.jh_settings_texts.specs.DocumentWritten.{printed_text}
use Rattle.jh_settings_texts.proofs.AsciiLemmas.{HasAscii, printed_utf8, tested}
use Rattle.jh_settings_texts.proofs.NameAsciiLemmas.{names_ascii, step_ascii}
use Rattle.jh_settings_texts.proofs.ShallowLemmas.{step_within}
use Rattle.jh_test_settings_texts.specs.DocumentWritten.{test_entry_texts, test_entry_value, when_value}
use Rattle.jh_test_settings_texts.specs.WritableEntries.{IsWritableTestEntry, IsWritableWhen, test_entry_in_order}

-- ---- texts

ms_is : is_name (codes "ms") ≡ true
unfolding is_name is_first is_symbol is_digit
ms_is = refl

calls_fit : (n : ℕ) → n ≤ 1000000 → FitsSigned w64 (pos n)
calls_fit n h = record { sfits = omega (arith, h) }

time_fits : (n : ℕ) → n ≤ 86400000 → FitsSigned w64 (pos n)
time_fits n h = record { sfits = omega (arith, h) }

when_printable : (at : When) → IsWritableWhen at → IsPrintable 63 (when_value at)
when_printable (When.Calls n) h = calls_fit n h
when_printable (When.Milliseconds n) h = (omega arith, (ms_is, (time_fits n h, tt)))

when_ascii : (at : When) → HasAscii (when_value at)
when_ascii (When.Calls n) = tt
when_ascii (When.Milliseconds n) = (tested (codes "ms") refl, (tt, tt))

when_back : (at : When) → IsWritableWhen at → parsed_when (when_value at) ≡ Some at
when_back (When.Calls n) h = rw (le-leb n 1000000 h) refl
when_back (When.Milliseconds n) h = rw (le-leb n 86400000 h) refl

module _ (names : List (List ℕ)) (named : AreNodeNames names) where
  entry_printable : (entry : TestEntry) → IsWritableWhen entry.at → IsStepOver (length names) entry.step → IsPrintable depth_limit (test_entry_value names entry)
  entry_printable entry due over =
      (omega arith, (when_printable entry.at due, (step_within names entry.step (step_prints names named entry.step over), tt)))

  pub entry_utf8 : (entry : TestEntry) → IsWritableWhen entry.at → IsStepOver (length names) entry.step → IsUtf8 (print (test_entry_value names entry))
  entry_utf8 entry due over =
      printed_utf8 (test_entry_value names entry) depth_limit (entry_printable entry due over) (when_ascii entry.at, (step_ascii names (names_ascii names named) entry.step, tt))

  -- ---- read back

  entry_parsed : (entry : TestEntry) → IsWritableTestEntry entry → IsStepOver (length names) entry.step → parsed_test_entry names (test_entry_value names entry) ≡ Some (test_entry_in_order entry)
  entry_parsed entry writable over =
      ap (option_and_then (λ at. test_entry_at at (parsed_step names (edn_of_step names entry.step)))) (when_back entry.at writable.0)
      ∙ ap (test_entry_at entry.at) (step_again links_kept nodes_kept names named entry.step over)

  entry_back : (entry : TestEntry) → IsWritableTestEntry entry → IsStepOver (length names) entry.step → IsMeant (parsed_test_entry names) (printed_text (test_entry_value names entry)) (test_entry_in_order entry)
  entry_back entry writable over = (
    test_entry_value names entry,
    (print (test_entry_value names entry), refl, printed_spells (test_entry_value names entry) (entry_printable entry writable.0 over)),
    entry_parsed entry writable over,
  )

  pub entries_back : (entries : List TestEntry) → AllByRecursion IsWritableTestEntry entries → AllByRecursion (λ entry. IsStepOver (length names) entry.step) entries
      → AreEach (IsMeant (parsed_test_entry names)) (test_entry_texts names entries) (map test_entry_in_order entries)
  entries_back [] writable over = tt
  entries_back (entry ∷ entries) writable over = (entry_back entry writable.0 over.0, entries_back entries writable.1 over.1)

-- ---- the steps in order

step_fits : (count : ℕ) (step : Step) → FitsNodes count step → FitsNodes count (step_in_order step)
step_fits count (Begin id fault) h = in_order_fits count fault h
step_fits count (Withdraw id) h = h
step_fits count WithdrawAll h = h
step_fits count Undo h = h
step_fits count Redo h = h

pub steps_fit : (count : ℕ) (schedule : List TestEntry) → All (λ entry. FitsNodes count entry.step) schedule → All (λ entry. FitsNodes count entry.step) (map test_entry_in_order schedule)
steps_fit count schedule fit =
    All-map (λ entry. FitsNodes count entry.step) test_entry_in_order schedule
    (All-weaker (λ entry. FitsNodes count entry.step) (λ entry. FitsNodes count (step_in_order entry.step)) (λ entry h. step_fits count entry.step h) schedule fit)

-- ---- one after another

texts_push : (names : List (List ℕ)) (xs : List TestEntry) (x : TestEntry) → test_entry_texts names (xs ++ x ∷ []) ≡ push_item (test_entry_texts names xs) (printed_text (test_entry_value names x))
texts_push names [] x = refl
texts_push names (y ∷ ys) x = ap (item (printed_text (test_entry_value names y))) (texts_push names ys x)

-- one more text is put behind those of the entries before
pub text_pushed : (names : List (List ℕ)) (xs : List TestEntry) (i : ℕ) (x : TestEntry) (values : List Value) (value : Value) → i < length xs → x ≡ get_or xs i x
    → items_view values ≡ test_entry_texts names (take i xs) → view value ≡ printed_text (test_entry_value names x)
    → items_view (values ++ value ∷ []) ≡ test_entry_texts names (take (i + 1) xs)
text_pushed names xs i x values value below is so_far here =
    items_view-push values value ∙ ap₂ push_item so_far here ∙ sym (texts_push names (take i xs) x)
    ∙ ap (λ y. test_entry_texts names (take i xs ++ y ∷ [])) is ∙ ap (test_entry_texts names) (sym (take_more xs i x below))
