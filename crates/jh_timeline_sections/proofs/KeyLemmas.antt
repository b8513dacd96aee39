-- Keys beside their histories, in the order of their sections.
use Rattle.std.proofs.Common.{◌≡◌, ℕ, ◌+◌, true, false, cond, List, [], ◌∷◌, ◌++◌, map, refl, sym, ap, subst, ◌∙◌, append_assoc, append-nil}
use Rattle.std.specs.Prelude.{All, Option, Some, None}
use Rattle.std.specs.List.{AllZip, enumerate_from, filter}
use Rattle.std.proofs.lemmas.List.{map_push}
use Rattle.std.proofs.lemmas.List.Elements.{All-nil, All-cons, All-head, All-tail, All-push}
use Rattle.std.proofs.lemmas.Slice.Zip.{all_zipped_more}
use Rattle.jh_edn.specs.Edn.{Edn}
use Rattle.jh_edn.specs.Order.{in_order, put_in_order}
use Rattle.jh_edn.specs.View.{view}
use Rattle.jh_edn.proofs.CitedLemmas.{map_in_order}
use Rattle.jh_checkers.specs.declared.finding.Finding.{Finding}
use Rattle.jh_independent.specs.Histories.{view_histories, view_history}
use Rattle.jh_independent.specs.Keys.{AreTuples, has_key, histories_of, history_of, history_keys, key_with_history, operation_without_key}
use Rattle.jh_independent.specs.declared.histories.KeyHistory.{KeyHistory}
use Rattle.jh_independent.specs.declared.serial.KeyFinding.{KeyFinding}
use Rattle.jh_ops.specs.Operation.{Operation, operation, operations}
use Rattle.jh_ops.specs.OperationWritten.{IsWritable}
use Rattle.jh_ops.specs.declared.operation.Op.{Op}
use Rattle.jh_timeline_pages.specs.declared.section.Section.{Section}
use Rattle.jh_timeline_sections.specs.ShownKeysInside.{AreJoined, AreMade, AreShownKeys, HasHistory, IsKeyOf, IsSectionOfShown, key_and_found, keys_and_found, is_shown_before}
use Rattle.jh_timeline_sections.specs.KeySections.{AreSectionsOf, IsSectionOfKey, key_found, heading_of, keys_found, section_order, stands_before, unjudged_key}
use Rattle.jh_timeline_sections.specs.Sections.{IsSectionOf}
use Rattle.jh_timeline_sections.specs.declared.key_sections.ShownKey.{ShownKey}
use Rattle.jh_timeline_sections.specs.declared.window.Choice.{Choice}

abbrev Key : Type 0
Key = Edn × Option Finding

-- ---- keys beside histories

abbrev head_of : Edn × List Operation → List (Edn × List Operation) → Edn × List Operation
head_of none [] = none
head_of none (one ∷ rest) = one

abbrev tail_of : List (Edn × List Operation) → List (Edn × List Operation)
tail_of [] = []
tail_of (one ∷ rest) = rest

-- histories of the same keys, one by one
beside : (history : List Operation) (keys : List Key) (others : List KeyHistory) → view_histories others ≡ map (key_with_history history) (map (λ (key : Key). key.0) keys) → AllZip (IsKeyOf history) keys others
beside history [] [] h = tt
beside history [] (own ∷ others) h = absurd cc
beside history (key ∷ keys) [] h = absurd cc
beside history (key ∷ keys) (own ∷ others) h = (ap (head_of (view_history own)) h, beside history keys others (ap tail_of h))

none_joined : (history : List Operation) (keys : List Key) (others : List KeyHistory) → map (λ (key : Key). key.0) keys ≡ history_keys history → view_histories others ≡ histories_of history
    → AreJoined history keys [] keys others
none_joined history keys others are h = record {
  whole = refl;
  each = All-nil (HasHistory history);
  beside = beside history keys others (h ∙ ap (map (key_with_history history)) (sym are));
}

found_keys : (findings : List KeyFinding) → map (λ (key : Key). key.0) (map key_found findings) ≡ map (λ (finding : KeyFinding). view finding.key) findings
found_keys [] = refl
found_keys (finding ∷ findings) = λ i. view finding.key ∷ found_keys findings i

pub none_judged : (history : List Operation) (findings : List KeyFinding) (others : List KeyHistory) → map (λ (finding : KeyFinding). view finding.key) findings ≡ history_keys history
    → view_histories others ≡ histories_of history → AreJoined history (keys_found history (Some findings)) [] (map key_found findings) others
none_judged history findings others are h = none_joined history (map key_found findings) others (found_keys findings ∙ are) h

-- the keys of histories
abbrev pub keys_beside : List KeyHistory → List Key
keys_beside others = map (λ (own : KeyHistory). unjudged_key (view own.key)) others

beside_keys : (others : List KeyHistory) (history : List Operation) (keys : List Edn) → view_histories others ≡ map (key_with_history history) keys → keys_beside others ≡ map unjudged_key keys
beside_keys [] history [] h = refl
beside_keys [] history (key ∷ keys) h = absurd cc
beside_keys (own ∷ others) history [] h = absurd cc
beside_keys (own ∷ others) history (key ∷ keys) h =
    let first : view own.key ≡ key = ap (λ all. (head_of (view_history own) all).0) h in
    let rest = beside_keys others history keys (ap tail_of h) in λ i. unjudged_key (first i) ∷ rest i

unjudged_keys : (keys : List Edn) → map (λ (key : Key). key.0) (map unjudged_key keys) ≡ keys
unjudged_keys [] = refl
unjudged_keys (key ∷ keys) = λ i. key ∷ unjudged_keys keys i

pub none_unjudged : (history : List Operation) (others : List KeyHistory) → view_histories others ≡ histories_of history → AreJoined history (keys_found history None) [] (keys_beside others) others
none_unjudged history others h =
    subst (λ left. AreJoined history (keys_found history None) [] left others) (sym (beside_keys others history (history_keys history) h))
    (none_joined history (map unjudged_key (history_keys history)) others (unjudged_keys (history_keys history)) h)

pub one_joined : (history : List Operation) (keys : List Key) (shown : List ShownKey) (key : Key) (left : List Key) (own : KeyHistory) (others : List KeyHistory) (one : ShownKey)
    → AreJoined history keys shown (key ∷ left) (own ∷ others) → one.key ≡ own.key → one.history ≡ own.history → one.found ≡ key.1 → AreJoined history keys (shown ++ one ∷ []) left others
one_joined history keys shown key left own others one h its history_is found =
    let same : view one.key ≡ key.0 = ap view its ∙ ap (λ one. one.0) h.beside.0 in
    let whole : key_and_found one ≡ key = λ i. (same i, found i) in
    record {
      whole = ap (λ w. w ++ left) (map_push key_and_found shown one) ∙ append_assoc (keys_and_found shown) (key_and_found one ∷ []) left
          ∙ ap (λ one. keys_and_found shown ++ one ∷ left) whole ∙ h.whole;
      each = All-push (HasHistory history) shown one h.each
          (ap (λ ops. operations ops.items) history_is ∙ ap (λ one. one.1) h.beside.0 ∙ ap (λ key. history_of key history) (sym same));
      beside = h.beside.1;
    }

pub all_joined : (history : List Operation) (findings : Option (List KeyFinding)) (shown : List ShownKey) (left : List Key) (others : List KeyHistory)
    → AreTuples history → left ≡ [] → AreJoined history (keys_found history findings) shown left others → AreShownKeys history findings shown
all_joined history findings shown left others tuples none h = record {
  keys = sym (append-nil (keys_and_found shown)) ∙ ap (λ w. keys_and_found shown ++ w) (sym none) ∙ h.whole;
  each = h.each;
  tuples = tuples;
}

-- ---- in the order of sections

keys_in_order : (shown : List ShownKey) → keys_and_found (in_order is_shown_before shown) ≡ section_order (keys_and_found shown)
keys_in_order shown = map_in_order key_and_found stands_before shown

all_put : (P : ShownKey → Type 0) (one : ShownKey) (shown : List ShownKey) → P one → All P shown → All P (put_in_order is_shown_before one shown)
all_put P one [] p all = All-cons P one [] p all
all_put P one (other ∷ shown) p all =
    elim (is_shown_before other one) as (λ b. All P (cond b (other ∷ put_in_order is_shown_before one shown) (one ∷ other ∷ shown))) [
      | true ↦ All-cons P other (put_in_order is_shown_before one shown) (All-head P other shown all) (all_put P one shown p (All-tail P other shown all))
      | false ↦ All-cons P one (other ∷ shown) p all
    ]

all_in_order : (P : ShownKey → Type 0) (shown : List ShownKey) → All P shown → All P (in_order is_shown_before shown)
all_in_order P [] all = all
all_in_order P (one ∷ shown) all = all_put P one (in_order is_shown_before shown) (All-head P one shown all) (all_in_order P shown (All-tail P one shown all))

-- ---- sections

pub none_made : (choice : Choice) (shown : List ShownKey) → AreMade choice shown shown []
none_made choice shown = record { made = []; whole = refl; each = tt }

pub one_made : (choice : Choice) (shown : List ShownKey) (one : ShownKey) (left : List ShownKey) (sections : List Section) (section : Section)
    → AreMade choice shown (one ∷ left) sections → IsSectionOfShown choice one section → AreMade choice shown left (sections ++ section ∷ [])
one_made choice shown one left sections section h is = record {
  made = h.made ++ one ∷ [];
  whole = append_assoc h.made (one ∷ []) left ∙ h.whole;
  each = all_zipped_more (IsSectionOfShown choice) h.made sections one section h.each is;
}

pub all_made : (choice : Choice) (shown left : List ShownKey) (sections : List Section) → left ≡ [] → AreMade choice shown left sections → AllZip (IsSectionOfShown choice) shown sections
all_made choice shown left sections none h =
    let all : h.made ≡ shown = sym (append-nil h.made) ∙ ap (λ w. h.made ++ w) (sym none) ∙ h.whole in
    subst (λ made. AllZip (IsSectionOfShown choice) made sections) all h.each

-- the sections of shown are those of keys
of_keys : (history : List Operation) (choice : Choice) (shown : List ShownKey) (sections : List Section) → All (HasHistory history) shown → AllZip (IsSectionOfShown choice) shown sections
    → AllZip (IsSectionOfKey history choice) (keys_and_found shown) sections
of_keys history choice [] [] all h = tt
of_keys history choice [] (section ∷ sections) all h = absurd h
of_keys history choice (one ∷ shown) [] all h = absurd h
of_keys history choice (one ∷ shown) (section ∷ sections) all h = (
  subst (λ ops. IsSectionOf (heading_of (key_and_found one)) ops [] one.found choice section) (All-head (HasHistory history) one shown all) h.0,
  of_keys history choice shown sections (All-tail (HasHistory history) one shown all) h.1,
)

pub sections_are : (history : List Operation) (choice : Choice) (findings : Option (List KeyFinding)) (shown : List ShownKey) (sections : List Section) → AreShownKeys history findings shown
    → AllZip (IsSectionOfShown choice) (in_order is_shown_before shown) sections → AreSectionsOf history choice findings sections
sections_are history choice findings shown sections are h = record {
  tuples = are.tuples;
  each = subst (λ order. AllZip (IsSectionOfKey history choice) order sections) (keys_in_order shown ∙ ap section_order are.keys)
      (of_keys history choice (in_order is_shown_before shown) sections (all_in_order (HasHistory history) shown are.each) h);
}

-- ---- what can be written

-- what is left of a history can be written
kept_from : (key : Edn) (n : ℕ) (ops : List Operation) → All (λ (op : Operation). IsWritable op.process) ops
    → All (λ (op : Operation). IsWritable op.process) (map (λ (placed : ℕ × Operation). operation_without_key placed.1) (filter (λ (placed : ℕ × Operation). has_key key placed.1) (enumerate_from n ops)))
kept_from key n [] all = all
kept_from key n (op ∷ ops) all =
    let P : Operation → Type 0 = λ op. IsWritable op.process in
    let rest = kept_from key (n + 1) ops (All-tail P op ops all) in
    elim (has_key key op) as (λ b. All P (map (λ (placed : ℕ × Operation). operation_without_key placed.1) (cond b ((n, op) ∷ filter (λ (placed : ℕ × Operation). has_key key placed.1) (enumerate_from (n + 1) ops)) (filter (λ (placed : ℕ × Operation). has_key key placed.1) (enumerate_from (n + 1) ops))))) [
      | true ↦ All-cons P (operation_without_key op) _ (All-head P op ops all) rest
      | false ↦ rest
    ]

views : (ops : List Op) → All (λ (op : Op). IsWritable op.process) ops → All (λ (op : Operation). IsWritable op.process) (operations ops)
views [] all = All-nil (λ (op : Operation). IsWritable op.process)
views (op ∷ ops) all =
    All-cons (λ (op : Operation). IsWritable op.process) (operation op) _ (All-head (λ (op : Op). IsWritable op.process) op ops all) (views ops (All-tail (λ (op : Op). IsWritable op.process) op ops all))

unviewed : (ops : List Op) → All (λ (op : Operation). IsWritable op.process) (operations ops) → All (λ (op : Op). IsWritable op.process) ops
unviewed [] all = All-nil (λ (op : Op). IsWritable op.process)
unviewed (op ∷ ops) all =
    All-cons (λ (op : Op). IsWritable op.process) op ops (All-head (λ (op : Operation). IsWritable op.process) (operation op) (operations ops) all) (unviewed ops (All-tail (λ (op : Operation). IsWritable op.process) (operation op) (operations ops) all))

each_writable : (whole : List Op) (choice : Choice) (keys : List Key) (sections : List Section) → All (λ (op : Op). IsWritable op.process) whole
    → AllZip (IsSectionOfKey (operations whole) choice) keys sections → All (λ (section : Section). All (λ (op : Op). IsWritable op.process) section.history.items) sections
each_writable whole choice [] [] all h = All-nil (λ (section : Section). All (λ (op : Op). IsWritable op.process) section.history.items)
each_writable whole choice [] (section ∷ sections) all h = absurd h
each_writable whole choice (key ∷ keys) [] all h = absurd h
each_writable whole choice (key ∷ keys) (section ∷ sections) all h =
    All-cons (λ (section : Section). All (λ (op : Op). IsWritable op.process) section.history.items) section sections
    (unviewed section.history.items
    (subst (All (λ (op : Operation). IsWritable op.process)) (sym h.0.records) (kept_from key.0 0 (operations whole) (views whole all))))
    (each_writable whole choice keys sections all h.1)

pub sections_writable : (whole : List Op) (choice : Choice) (findings : Option (List KeyFinding)) (sections : List Section) → All (λ (op : Op). IsWritable op.process) whole
    → AreSectionsOf (operations whole) choice findings sections → All (λ (section : Section). All (λ (op : Op). IsWritable op.process) section.history.items) sections
sections_writable whole choice findings sections all h = each_writable whole choice (section_order (keys_found (operations whole) findings)) sections all h.each
