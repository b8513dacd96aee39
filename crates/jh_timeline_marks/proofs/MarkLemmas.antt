-- Marks call by call, the places of numbers from the last on, and what does not depend on an order.
use Rattle.std.proofs.Common.{◌≡◌, ℕ, ℤ, zero, suc, ◌+◌, ◌<◌, ◌≤◌, Bool, true, false, cond, eqb, ltb, List, [], ◌∷◌, ◌++◌, length, drop, take, get_or, map, Option, Some, None, refl, sym, ap, ◌∙◌, arith, is_eq}
use Rattle.std.specs.Prelude.{◌&&◌, ◌||◌, IsTrue, not, codes, filter, option_and_then, option_map}
use Rattle.std.specs.List.{cons_option, enumerate_from, filter_map, last_or, position_from, slice_get}
use Rattle.std.specs.Option.{option_flatten, option_map_or, option_or, option_to_list}
use Rattle.std.specs.Ordering.{nat_cmp}
use Rattle.std.specs.BTreeMap.{BTreeMap, get, Updates}
use Rattle.std.proofs.lemmas.Bool.Decides.{nat_tests}
use Rattle.std.proofs.lemmas.List.{map-append, take-map, take_more}
use Rattle.std.proofs.lemmas.List.Elements.{filter_map-append}
use Rattle.std.proofs.lemmas.Option.{slice_get-map}
use Rattle.std.proofs.Math.Seq.{drop-cons}
use Rattle.jh_edn.specs.Edn.{Edn}
use Rattle.jh_edn.specs.Normal.{normal}
use Rattle.jh_edn.specs.Order.{in_order, is_below}
use Rattle.jh_edn.specs.View.{view, views}
use Rattle.jh_edn.specs.declared.value.Value.{Value}
use Rattle.jh_ops.specs.Operation.{Operation, operation, operations, is_asked}
use Rattle.jh_ops.specs.Pairing.{history_pairs, pair_of, pairs_from}
use Rattle.jh_ops.specs.declared.operation.Kind.{Kind}
use Rattle.jh_ops.specs.declared.operation.Op.{Op}
use Rattle.jh_ops.specs.declared.operation.Process.{Process}
use Rattle.jh_check.specs.Distinct.{has_same_value}
use Rattle.jh_check.specs.Tallies.{view_counted, view_tally}
use Rattle.jh_check.specs.SetResults.{final_read}
use Rattle.jh_check.specs.declared.tally.Counted.{Counted}
use Rattle.jh_check.specs.declared.set.SetFound.{SetFound}
use Rattle.jh_check.proofs.ListLemmas.{mapped_more}
use Rattle.jh_check.proofs.SearchLemmas.{among_in_order}
use Rattle.jh_timeline.specs.declared.marks.Mark.{Mark}
use Rattle.jh_timeline.specs.declared.marks.Note.{Note}
use Rattle.jh_timeline.specs.declared.picture.Call.{Call}
use Rattle.jh_timeline.specs.Lanes.{call_end}
use Rattle.jh_timeline_marks.specs.Marked.{acknowledged_before, acknowledges, acknowledges_lost, begins_with_one_of, call_completion, ends_with_one_of, found_note, has_one_of, held_behind, invocation_of, invocations_of, is_completed_at, late_losses, mark_at, marks_by, note_if, place_among, shows_unexpected, value_told, value_told_by}
use Rattle.jh_timeline_marks.specs.MarkedInside.{found_note_with, invocations, is_by_client, is_invocation, is_lost_with}
use Rattle.jh_timeline_marks.specs.declared.set.Elements.{Elements}

-- ---- call by call

numbered_more : {X : Type 0} (n : ℕ) (xs : List X) (x : X) → enumerate_from n (xs ++ x ∷ []) ≡ enumerate_from n xs ++ (n + length xs, x) ∷ []
numbered_more n [] x = let e : n ≡ n + 0 = omega arith in ap (λ m. (m, x) ∷ []) e
numbered_more n (y ∷ xs) x =
    let e : n + 1 + length xs ≡ n + suc (length xs) = omega arith in
    ap (λ ws. (n, y) ∷ ws) (numbered_more (n + 1) xs x ∙ ap (λ m. enumerate_from (n + 1) xs ++ (m, x) ∷ []) e)

length_take : {X : Type 0} (xs : List X) (i : ℕ) → i ≤ length xs → length (take i xs) ≡ i
length_take xs zero h = refl
length_take [] (suc i) h = absurd (omega arith)
length_take (x ∷ xs) (suc i) h = ap suc (length_take xs i (omega arith))

one_at_most : {X : Type 0} (one : Option X) → option_to_list one ≡ cons_option one []
one_at_most None = refl
one_at_most (Some x) = refl

-- the mark of one more call
pub marks_more : (note : Call → Option Note) (calls : List Call) (i : ℕ) (d : Call) (before after : List Mark)
    → i < length calls → before ≡ marks_by note (take i calls) → after ≡ before ++ option_to_list (mark_at i (note (get_or calls i d)))
    → after ≡ marks_by note (take (i + 1) calls)
marks_more note calls i d before after below is grown =
    let call = get_or calls i d in
    let marked : ℕ × Call → Option Mark = λ numbered. mark_at numbered.0 (note numbered.1) in
    let number : 0 + length (take i calls) ≡ i = (let long = length_take calls i (omega arith) in omega (arith, long)) in
    let whole : enumerate_from 0 (take (i + 1) calls) ≡ enumerate_from 0 (take i calls) ++ (i, call) ∷ [] =
    ap (enumerate_from 0) (take_more calls i d below) ∙ numbered_more 0 (take i calls) call ∙ ap (λ n. enumerate_from 0 (take i calls) ++ (n, call) ∷ []) number in
    grown ∙ ap (λ ms. ms ++ option_to_list (marked (i, call))) is
    ∙ ap (λ ms. marks_by note (take i calls) ++ ms) (one_at_most (marked (i, call)))
    ∙ sym (ap (filter_map marked) whole ∙ filter_map-append marked (enumerate_from 0 (take i calls)) ((i, call) ∷ []))

-- of no note there are no marks
pub no_marks : (calls : List Call) → marks_by (λ call. None) calls ≡ []
no_marks calls = none (enumerate_from 0 calls) where
  none : (numbered : List (ℕ × Call)) → filter_map (λ one. mark_at one.0 None) numbered ≡ []
  none [] = refl
  none (one ∷ numbered) = none numbered

-- ---- values

-- whether one of them is there does not depend on their order
has_same : (kind : Kind) (name : List ℕ) (values : List Edn) (op : Option Operation)
    → option_map_or (has_one_of kind name (in_order is_below values)) op false ≡ option_map_or (has_one_of kind name values) op false
has_same kind name values None = refl
has_same kind name values (Some op) = ap (λ among. is_asked kind name op && among) (among_in_order (normal op.value) values)

-- one more id
pub ids_more : (ids : List Value) (duplicated : List Counted) (i : ℕ) (duplicate : Counted) (id : Value) → i < length duplicated
    → duplicate ≡ get_or duplicated i duplicate → view id ≡ view duplicate.value → views ids ≡ map (λ id. id.0) (view_tally (take i duplicated))
    → views (ids ++ id ∷ []) ≡ map (λ id. id.0) (view_tally (take (i + 1) duplicated))
ids_more ids duplicated i duplicate id below at same before =
    let first : Edn × ℕ → Edn = λ id. id.0 in
    map-append view ids (id ∷ []) ∙ ap (λ xs. xs ++ view id ∷ []) before ∙ ap (λ x. map first (view_tally (take i duplicated)) ++ x ∷ []) same
    ∙ sym (ap (map first) (mapped_more view_counted duplicated i duplicate below at)
    ∙ map-append first (view_tally (take i duplicated)) (view_counted duplicate ∷ []))

-- the note of an id does not depend on the order of ids
pub ids_same : (sorted ids : List Edn) (history : List Operation) (calls : List Call) → sorted ≡ in_order is_below ids
    → marks_by (λ call. note_if (ends_with_one_of (codes "generate") sorted history call) Note.Repeated) calls
    ≡ marks_by (λ call. note_if (ends_with_one_of (codes "generate") ids history call) Note.Repeated) calls
ids_same sorted ids history calls e =
    ap (λ xs. marks_by (λ call. note_if (ends_with_one_of (codes "generate") xs history call) Note.Repeated) calls) e
    ∙ (λ i. marks_by (λ call. note_if (has_same Kind.Ok (codes "generate") ids (call_completion history call) i) Note.Repeated) calls)

-- ---- sets

pub begins_same : (name : List ℕ) (values : List Edn) (history : List Operation) (call : Call)
    → begins_with_one_of name (in_order is_below values) history call ≡ begins_with_one_of name values history call
begins_same name values history call = has_same Kind.Invoke name values (invocation_of history call)

pub ends_same : (name : List ℕ) (values : List Edn) (history : List Operation) (call : Call)
    → ends_with_one_of name (in_order is_below values) history call ≡ ends_with_one_of name values history call
ends_same name values history call = has_same Kind.Ok name values (call_completion history call)

acknowledged_same : (values : List Edn) (history : List Operation) (call : Call) → acknowledges (in_order is_below values) history call ≡ acknowledges values history call
acknowledged_same values history call = has_same Kind.Ok (codes "add") values (call_completion history call)

read_same : {X : Type 0} (read : Option (ℕ × Operation)) (at : ℕ → X) (none : X) → option_map_or at (option_map (λ one. one.0) read) none ≡ option_map_or (λ one. at one.0) read none
read_same None at none = refl
read_same (Some read) at none = refl

not_none : (n : ℕ) → false ≡ eqb (suc n) 0
not_none n = grind (arith, nat_tests)

-- a list is empty where it has no element
pub empty_is : (t : Bool) (xs : List Edn) → (IsTrue t → xs ≡ []) → (xs ≡ [] → IsTrue t) → t ≡ eqb (length xs) 0
empty_is true [] then back = refl
empty_is true (x ∷ xs) then back = absurd (let wrong : x ∷ xs ≡ [] = then refl in cc)
empty_is false [] then back = absurd (let wrong : false ≡ true = back refl in cc)
empty_is false (x ∷ xs) then back = not_none (length xs)

-- what of the lost is late does not depend on the order of what was acknowledged
late_same : (lost acknowledged : List Edn) → filter (λ x. not (has_same_value (in_order is_below acknowledged) x)) lost ≡ filter (λ x. not (has_same_value acknowledged x)) lost
late_same lost acknowledged = λ i. filter (λ x. not (among_in_order x acknowledged i)) lost

-- what is late, by what is lost and what was acknowledged before the last read
pub late_are : (lost acknowledged : List Edn) (found : SetFound) (history : List Operation) → lost ≡ found.lost → acknowledged ≡ in_order is_below (acknowledged_before history)
    → filter (λ x. not (has_same_value acknowledged x)) lost ≡ late_losses found history
late_are lost acknowledged found history given known =
    (λ i. filter (λ x. not (has_same_value (known i) x)) (given i)) ∙ late_same found.lost (acknowledged_before history)

-- the records before the last read, as they are looked for
pub before_same : (history : List Op) (read : Option (ℕ × Operation))
    → operations (option_map_or (λ place. take place history) (option_map (λ one. one.0) read) history) ≡ option_map_or (λ one. take one.0 (operations history)) read (operations history)
before_same history None = refl
before_same history (Some read) = sym (take-map operation read.0 history)

-- the notes of a set, from elements in order
pub found_same : (elements : Elements) (found : SetFound) (history : List Operation) (call : Call)
    → views elements.lost.items ≡ in_order is_below found.lost
    → views elements.late.items ≡ in_order is_below (late_losses found history)
    → views elements.recovered.items ≡ in_order is_below found.recovered
    → elements.read ≡ option_map (λ read. read.0) (final_read history)
    → elements.is_unexpected ≡ not (eqb (length found.unexpected) 0)
    → found_note_with elements history call ≡ found_note found history call
found_same elements found history call lost late recovered read unexpected =
    let is_lost : is_lost_with elements history call ≡ acknowledges_lost found history call =
    (λ i. (acknowledges (lost i) history call && option_map_or (λ index. ltb (call_end call) index) (read i) true) || acknowledges (late i) history call)
    ∙ (λ i. (acknowledged_same found.lost history call i && read_same (final_read history) (λ index. ltb (call_end call) index) true i)
    || acknowledged_same (late_losses found history) history call i) in
    let is_recovered : begins_with_one_of (codes "add") (views elements.recovered.items) history call ≡ begins_with_one_of (codes "add") found.recovered history call =
    ap (λ xs. begins_with_one_of (codes "add") xs history call) recovered ∙ begins_same (codes "add") found.recovered history call in
    let shows : elements.is_unexpected && option_map_or (λ index. is_completed_at index call) elements.read false ≡ shows_unexpected found history call =
    (λ i. unexpected i && option_map_or (λ index. is_completed_at index call) (read i) false)
    ∙ ap (λ t. not (eqb (length found.unexpected) 0) && t) (read_same (final_read history) (λ index. is_completed_at index call) false) in
    λ i. cond (is_lost i) (Some Note.Lost) (cond (is_recovered i) (Some Note.Recovered) (note_if (shows i) Note.Unexpected))

-- the same at each call
pub marks_same : (f g : Call → Option Note) (calls : List Call) → ((call : Call) → f call ≡ g call) → marks_by f calls ≡ marks_by g calls
marks_same f g calls same = λ i. marks_by (λ call. same call i) calls

-- ---- invocations

invocations_from : (place : ℕ) (history : List Op)
    → map (λ numbered. numbered.0) (filter (λ numbered. is_invocation numbered.1) (enumerate_from place history))
    ≡ map (λ pair. pair.invoke) (pairs_from place (operations history))
invocations_from place [] = refl
invocations_from place (op ∷ history) = step op.kind op.process (operation op) (invocations_from (place + 1) history) where
  step : (kind : Kind) (process : Process) (o : Operation)
      → map (λ numbered. numbered.0) (filter (λ numbered. is_invocation numbered.1) (enumerate_from (place + 1) history))
      ≡ map (λ pair. pair.invoke) (pairs_from (place + 1) (operations history))
      → map (λ numbered. numbered.0) (cond (is_by_client kind process) ((place, op) ∷ filter (λ numbered. is_invocation numbered.1) (enumerate_from (place + 1) history))
      (filter (λ numbered. is_invocation numbered.1) (enumerate_from (place + 1) history)))
      ≡ map (λ pair. pair.invoke) (pair_of kind process place (operations history) ++ pairs_from (place + 1) (operations history))
  step Kind.Invoke (Process.Client client) o h = ap (λ ws. place ∷ ws) h
  step Kind.Ok (Process.Client client) o h = h
  step Kind.Fail (Process.Client client) o h = h
  step Kind.Info (Process.Client client) o h = h
  step Kind.Invoke Process.Nemesis o h = h
  step Kind.Ok Process.Nemesis o h = h
  step Kind.Fail Process.Nemesis o h = h
  step Kind.Info Process.Nemesis o h = h

-- where clients invoke something is where the pairs are invoked
pub invocations_are : (history : List Op) → invocations history ≡ invocations_of (operations history)
invocations_are history = invocations_from 0 history

-- ---- what a register holds

last_more : (o : Option ℤ) (values : List ℤ) (value : Option ℤ) → last_or o (values ++ option_to_list value) ≡ option_or value (last_or o values)
last_more o [] None = refl
last_more o [] (Some value) = refl
last_more o (x ∷ values) value = last_more (Some x) values value

-- what is held along the first operations of an order
pub record Holding (history : List Operation) (order : List ℕ) (i : ℕ) (holds : Option ℤ) (held : List (Option ℤ)) : Type 0 where
  pub last : holds ≡ held_behind history (take i order)
  pub all : held ≡ map (λ numbered. held_behind history (take (numbered.0 + 1) order)) (enumerate_from 0 (take i order))

-- one operation more
pub holding_more : (history : List Operation) (order : List ℕ) (i : ℕ) (holds next : Option ℤ) (held after : List (Option ℤ)) → i < length order
    → next ≡ option_or (value_told_by history (get_or order i 0)) holds → after ≡ held ++ next ∷ []
    → Holding history order i holds held → Holding history order (i + 1) next after
holding_more history order i holds next held after below is grown holding =
    let number = get_or order i 0 in
    let told = value_told_by history in
    let behind : ℕ × ℕ → Option ℤ = λ numbered. held_behind history (take (numbered.0 + 1) order) in
    let more = take_more order i 0 below in
    let at : 0 + length (take i order) ≡ i = (let long = length_take order i (omega arith) in omega (arith, long)) in
    let whole : enumerate_from 0 (take (i + 1) order) ≡ enumerate_from 0 (take i order) ++ (i, number) ∷ [] =
    ap (enumerate_from 0) more ∙ numbered_more 0 (take i order) number ∙ ap (λ n. enumerate_from 0 (take i order) ++ (n, number) ∷ []) at in
    let now : next ≡ held_behind history (take (i + 1) order) =
    is ∙ ap (option_or (told number)) holding.last ∙ sym (last_more None (filter_map told (take i order)) (told number))
    ∙ ap (λ vs. last_or None (filter_map told (take i order) ++ vs)) (one_at_most (told number))
    ∙ sym (ap (last_or None) (filter_map-append told (take i order) (number ∷ []))) ∙ sym (ap (held_behind history) more) in
    record {
      last = now;
      all = grown ∙ ap (λ vs. vs ++ next ∷ []) holding.all ∙ ap (λ v. map behind (enumerate_from 0 (take i order)) ++ v ∷ []) now
          ∙ sym (ap (map behind) whole ∙ map-append behind (enumerate_from 0 (take i order)) ((i, number) ∷ []));
    }

flat : {X Y : Type 0} (f : X → Option Y) (one : Option X) → option_flatten (option_map f one) ≡ option_and_then f one
flat f None = refl
flat f (Some x) = refl

-- a value by its place among those that are told
pub told_at : (values : List (Option ℤ)) (history : List Operation) (number : ℕ) → values ≡ map (value_told history) (history_pairs history)
    → option_flatten (slice_get values number) ≡ value_told_by history number
told_at values history number is =
    ap (λ vs. option_flatten (slice_get vs number)) is ∙ ap option_flatten (slice_get-map (value_told history) (history_pairs history) number)
    ∙ flat (value_told history) (slice_get (history_pairs history) number)

-- ---- places

-- what is kept of the numbers from a place on
pub record Kept (kept : ℕ → Option ℕ) (numbers : List ℕ) (place : ℕ) : Type 0 where
  pub within : place ≤ length numbers
  pub places : (number : ℕ) → kept number ≡ position_from (λ other. eqb other number) place (drop place numbers)

none_behind : {X : Type 0} (xs : List X) → drop (length xs) xs ≡ []
none_behind [] = refl
none_behind (x ∷ xs) = none_behind xs

-- of no numbers there is no place
pub kept_none : (kept : ℕ → Option ℕ) (numbers : List ℕ) (place : ℕ) → place ≡ length numbers → ((number : ℕ) → kept number ≡ None) → Kept kept numbers place
kept_none kept numbers place at none = record {
  within = omega arith;
  places = λ number. none number ∙ sym (ap (λ ns. position_from (λ other. eqb other number) place ns) (ap (λ p. drop p numbers) at ∙ none_behind numbers));
}

-- from the first number on that is every place
pub kept_all : (kept : ℕ → Option ℕ) (numbers : List ℕ) (place : ℕ) → place ≡ 0 → Kept kept numbers place
    → (number : ℕ) → kept number ≡ place_among numbers number
kept_all kept_at numbers place at kept number = kept.places number ∙ ap (λ p. position_from (λ other. eqb other number) p (drop p numbers)) at

one_more : (numbers : List ℕ) (n i number : ℕ) → n ≡ i + 1 → i < length numbers
    → position_from (λ other. eqb other number) i (drop i numbers)
    ≡ cond (eqb (get_or numbers i 0) number) (Some i) (position_from (λ other. eqb other number) n (drop n numbers))
one_more numbers n i number at below =
    let next : suc i ≡ n = omega arith in
    let also : i + 1 ≡ n = omega arith in
    ap (λ ns. position_from (λ other. eqb other number) i ns) (drop-cons numbers i 0 below)
    ∙ ap (λ rest. cond (eqb (get_or numbers i 0) number) (Some i) rest)
    (ap (λ m. position_from (λ other. eqb other number) m (drop (suc i) numbers)) also ∙ ap (λ m. position_from (λ other. eqb other number) n (drop m numbers)) next)

same_key : (key number : ℕ) → is_eq (nat_cmp key number) ≡ eqb key number
same_key key number = grind (arith, nat_tests)

-- one number more in front
pub kept_put : (old new : BTreeMap ℕ ℕ) (numbers : List ℕ) (n i key : ℕ) → n ≡ i + 1 → i < length numbers
    → key ≡ get_or numbers i 0 → Kept (get nat_cmp old) numbers n → Updates nat_cmp old new key (Some i) → Kept (get nat_cmp new) numbers i
kept_put old new numbers n i key at below is kept updates = record {
  within = omega arith;
  places = λ number.
      updates.0 number
      ∙ ap (λ b. cond b (Some i) (get nat_cmp old number)) (same_key key number ∙ ap (λ k. eqb k number) is)
      ∙ ap (λ rest. cond (eqb (get_or numbers i 0) number) (Some i) rest) (kept.places number)
      ∙ sym (one_more numbers n i number at below);
}

-- a place by way of two lists
pub through : (numbers places : BTreeMap ℕ ℕ) (known order : List ℕ) (index : ℕ) → ((n : ℕ) → get nat_cmp numbers n ≡ place_among known n)
    → ((n : ℕ) → get nat_cmp places n ≡ place_among order n)
    → option_and_then (get nat_cmp places) (get nat_cmp numbers index) ≡ option_and_then (place_among order) (place_among known index)
through numbers places known order index first second =
    ap (option_and_then (get nat_cmp places)) (first index) ∙ (λ i. option_and_then (λ n. second n i) (place_among known index))
