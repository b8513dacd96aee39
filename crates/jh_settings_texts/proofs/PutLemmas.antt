-- What a table shows after an insert, and the document that one insert after another makes.
use Rattle.std.proofs.Common.{◌≡◌, ℕ, ◌+◌, ◌<◌, List, [], ◌∷◌, ◌++◌, codes, length, take, get_or, Option, Some, None, String, Global, Ordering, Less, Equal, Greater, string_bytes, refl, sym, ap, ap₂, ◌∙◌}
use Rattle.std.specs.Prelude.{ℤ}
use Rattle.std.specs.BTreeMap.{insert_entry}
use Rattle.std.specs.Ordering.{match_ordering}
use Rattle.std.specs.String.{string_cmp}
use Rattle.toml.specs.Data.{Members, no_members, member, array, string, boolean, item, push_item}
use Rattle.toml.specs.View.{view, items_view, members_view}
use Rattle.toml.proofs.Views.{items_view-push}
use Rattle.std.proofs.lemmas.List.{take_more}
use Rattle.jh_simnode.specs.declared.schedule.Entry.{Entry}
use Rattle.toml.specs.declared.value.Value.{Value}
use Rattle.jh_simnode.specs.Plans.{PlanValue}
use Rattle.jh_settings.specs.declared.keys.Key.{Key}
use Rattle.jh_settings_texts.specs.DocumentWritten.{document_of, whole_number, printed_text, spread_value, spread_texts, schedule_document}
use Rattle.jh_settings_texts.specs.declared.schedule.Spread.{Spread}
use Rattle.jh_settings_texts.specs.TableInside.{put_member, put_cluster, put_initial, put_load, put_limits, put_schedule, put_key}
use Rattle.jh_settings_texts.proofs.MemberLemmas.{document_with}

abbrev TableEntry : Type 0
TableEntry = String Global × Value

put_at : (o : Ordering) (k : String Global) (v : Value) (e : TableEntry) (es : List TableEntry)
    → members_view (insert_entry string_cmp es k v) ≡ put_member (string_bytes k) (view v) (members_view es)
    → members_view (match_ordering o ((k, v) ∷ e ∷ es) ((e.0, v) ∷ es) (e ∷ insert_entry string_cmp es k v))
    ≡ match_ordering o (member (string_bytes k) (view v) (member (string_bytes e.0) (view e.1) (members_view es))) (member (string_bytes e.0) (view v) (members_view es))
    (member (string_bytes e.0) (view e.1) (put_member (string_bytes k) (view v) (members_view es)))
put_at Less k v e es behind = refl
put_at Equal k v e es behind = refl
put_at Greater k v e es behind = ap (member (string_bytes e.0) (view e.1)) behind

pub inserted_members : (k : String Global) (v : Value) (es : List TableEntry) → members_view (insert_entry string_cmp es k v) ≡ put_member (string_bytes k) (view v) (members_view es)
inserted_members k v [] = refl
inserted_members k v (e ∷ es) = put_at (string_cmp k e.0) k v e es (inserted_members k v es)

-- what is put before `initial`
abbrev put_before : PlanValue → Members
put_before p =
    put_key Key.Volatile (boolean p.database.volatile)
    (put_key Key.Mode (string (codes "serial")) (put_key Key.Ops (whole_number p.ops) (put_key Key.Clients (whole_number p.clients) (put_cluster p no_members))))

put_with : (p : PlanValue) (budget : ℕ) (o : Option ℤ) → put_schedule p (put_limits p budget (put_initial o (put_before p))) ≡ document_with p budget o
put_with p budget None = refl
put_with p budget (Some z) = refl

-- all groups together make the document
pub put_all : (p : PlanValue) (budget : ℕ) → put_schedule p (put_limits p budget (put_load p (put_cluster p no_members))) ≡ document_of p budget
put_all p budget = put_with p budget p.database.initial

-- ---- the schedule

pub texts_push : (names : List (List ℕ)) (spread : Option Spread) (xs : List Entry) (x : Entry)
    → spread_texts names spread (xs ++ x ∷ []) ≡ push_item (spread_texts names spread xs) (printed_text (spread_value names spread x))
texts_push names spread [] x = refl
texts_push names spread (y ∷ ys) x = ap (item (printed_text (spread_value names spread y))) (texts_push names spread ys x)

-- one more text is put behind those of the entries before
pub text_pushed : (names : List (List ℕ)) (spread : Option Spread) (xs : List Entry) (i : ℕ) (x : Entry) (values : List Value) (value : Value) → i < length xs → x ≡ get_or xs i x
    → items_view values ≡ spread_texts names spread (take i xs) → view value ≡ printed_text (spread_value names spread x)
    → items_view (values ++ value ∷ []) ≡ spread_texts names spread (take (i + 1) xs)
text_pushed names spread xs i x values value below is so_far here =
    items_view-push values value ∙ ap₂ push_item so_far here ∙ sym (texts_push names spread (take i xs) x)
    ∙ ap (λ y. spread_texts names spread (take i xs ++ y ∷ [])) is ∙ ap (spread_texts names spread) (sym (take_more xs i x below))

-- a schedule alone
pub put_alone : (names : List (List ℕ)) (spread : Option Spread) (schedule : List Entry) → put_key Key.Schedule (array (spread_texts names spread schedule)) no_members ≡ schedule_document names spread schedule
put_alone names spread schedule = refl
