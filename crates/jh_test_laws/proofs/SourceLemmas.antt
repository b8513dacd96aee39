-- What transactions of a seed are as texts have them, and that no append of them comes twice.
use Rattle.std.proofs.Common.{◌≡◌, ◌≢◌, ℕ, zero, suc, ◌+◌, ◌%◌, ◌^◌, ◌<◌, ◌≤◌, ◌==◌, Bool, true, false, List, [], ◌∷◌, ◌++◌, length, get_or, refl, sym, ap, ◌∙◌, subst, arith, append-nil, append_assoc, length-set}
use mathlib.Core.Logic.{◌⊎◌, inl, inr}
use Rattle.std.specs.Prelude.{pos, codes, slice_index_or, Option, Some, option_map, if◌then◌else◌}
use Rattle.std.specs.List.{AllByRecursion, list_any}
use Rattle.std.specs.Ordering.{int_cmp}
use Rattle.std.proofs.lemmas.Bool.{and_parts, cases_eq, false_from_ne_true, or_from, or_parts}
use Rattle.std.proofs.lemmas.List.{get_or-set_other, get_or-set_same}
use Rattle.std.proofs.lemmas.Map.Lookups.{exact_signed}
use Rattle.std.proofs.lemmas.Nat.{mod_below}
use Rattle.std.proofs.Math.Nat.{mod-eq_of_lt}
use Rattle.jh_check.specs.CounterResults.{natural}
use Rattle.jh_edn.specs.Edn.{Edn, int, keyword}
use Rattle.jh_edn.specs.Parts.{vector_of}
use Rattle.jh_test_parts.specs.Test.{IsGoodShape}
use Rattle.jh_test_parts.specs.Transactions.{TransactionSource, after_random_number, first_source, is_full_with_one, next_op, next_ops, next_transaction, no_slot, op_on, op_on_slot, slot_after, slots_from, source_after_append, random_number_of}
use Rattle.jh_test_parts.specs.declared.parts.TransactionShape.{TransactionShape}
use Rattle.jh_test_parts.specs.declared.transactions.Slot.{Slot}
use Rattle.jh_txn_histories.specs.Written.{Written, append, read, appends_of, has_repeat, is_equal, is_same_append}
use Rattle.jh_test_laws.specs.HistoryInside.{ops_asked}
use Rattle.jh_test_laws.proofs.TupleLemmas.{equal_is}

-- ---- what a transaction spells

abbrev pub op_written_on : Bool → Slot → Written
op_written_on reads slot = if reads then read (int (pos slot.key)) [] else append (int (pos slot.key)) (int (pos (slot.appends + 1)))

abbrev pub op_written : TransactionSource → Written
op_written s = op_written_on (random_number_of s % 2 == 0) (slice_index_or s.slots (random_number_of (after_random_number s) % s.shape.keys) no_slot)

abbrev pub ops_written : ℕ → TransactionSource → List Written
ops_written zero s = []
ops_written (suc n) s = op_written s ∷ ops_written n (next_op s).1

abbrev pub transaction_written : TransactionSource → List Written
transaction_written s = ops_written (1 + random_number_of s % s.shape.most) (after_random_number s)

-- micro-operations as the parts of a transaction
abbrev spelled : List Edn → Option (List Written)
spelled ops = ops_asked (keyword (codes "txn")) (vector_of ops)

one_more : (s : TransactionSource) (reads : Bool) (place : ℕ) (slot : Slot) (ops : List Edn) → spelled ((op_on_slot s reads place slot).0 ∷ ops) ≡ option_map (λ ws. op_written_on reads slot ∷ ws) (spelled ops)
one_more s true place slot ops = refl
one_more s false place slot ops = refl

spells : (n : ℕ) (s : TransactionSource) → spelled (next_ops n s).0 ≡ Some (ops_written n s)
spells zero s = refl
spells (suc n) s =
    one_more (after_random_number (after_random_number s)) (random_number_of s % 2 == 0) (random_number_of (after_random_number s) % s.shape.keys) (slice_index_or s.slots (random_number_of (after_random_number s) % s.shape.keys) no_slot) (next_ops n (next_op s).1).0
    ∙ ap (λ o. option_map (λ ws. op_written s ∷ ws) o) (spells n (next_op s).1)

pub transaction_spells : (s : TransactionSource) → ops_asked (keyword (codes "txn")) (next_transaction s).0 ≡ Some (transaction_written s)
transaction_spells s = spells (1 + random_number_of s % s.shape.most) (after_random_number s)

-- ---- no append twice

numbers_equal : (a b : ℕ) → is_equal (int (pos a)) (int (pos b)) ≡ true → a ≡ b
numbers_equal a b e = ap (λ z. natural (Some (int z))) (exact_signed (pos a) (pos b) (equal_is (int_cmp (pos a) (pos b)) e))

abbrev slot_at : TransactionSource → ℕ → Slot
slot_at s i = slice_index_or s.slots i no_slot

-- an append that was made: its key is no new one, and a slot that has this key counts it
pub record IsOld (s : TransactionSource) (made : Edn × Edn) : Type 0 where
  pub key : ℕ
  pub element : ℕ
  pub is : made ≡ (int (pos key), int (pos element))
  pub used : key < s.next_key
  pub counted : (i : ℕ) → i < length s.slots → (slot_at s i).key ≡ key → element ≤ (slot_at s i).appends

-- Slots have keys of their own, all of them used, and with so many more micro-operations no key comes anew.
pub record IsClean (s : TransactionSource) (front : List (Edn × Edn)) (left : ℕ) : Type 0 where
  pub room : s.next_key + left < 2 ^ 63
  pub long : length s.slots ≡ s.shape.keys
  pub some : 1 ≤ s.shape.keys
  pub used : (i : ℕ) → i < length s.slots → (slot_at s i).key < s.next_key
  pub apart : (i j : ℕ) → i < length s.slots → j < length s.slots → (slot_at s i).key ≡ (slot_at s j).key → i ≡ j
  pub old : AllByRecursion (IsOld s) front

abbrev pub Keeps : TransactionSource → List (Edn × Edn) → List (Edn × Edn) → ℕ → Type 0
Keeps s front made left = IsClean s (front ++ made) left × (has_repeat front made ≡ false)

all_mapped : {X : Type 0} (P Q : X → Type 0) → ((x : X) → P x → Q x) → (xs : List X) → AllByRecursion P xs → AllByRecursion Q xs
all_mapped P Q f [] h = tt
all_mapped P Q f (x ∷ xs) h = (f x h.0, all_mapped P Q f xs h.1)

all_pushed : {X : Type 0} (P : X → Type 0) (xs : List X) (x : X) → AllByRecursion P xs → P x → AllByRecursion P (xs ++ x ∷ [])
all_pushed P [] x h p = (p, tt)
all_pushed P (y ∷ ys) x h p = (h.0, all_pushed P ys x h.1 p)

none_same : (one : Edn × Edn) (front : List (Edn × Edn)) → AllByRecursion (λ other. is_same_append one other ≡ false) front → list_any (is_same_append one) front ≡ false
none_same one [] h = refl
none_same one (x ∷ xs) h = or_from (is_same_append one x) (list_any (is_same_append one) xs) h.0 (none_same one xs h.1)

module _ (s : TransactionSource) (front : List (Edn × Edn)) (left place : ℕ) (clean : IsClean s front (suc left)) (within : place < length s.slots) where
  abbrev slot : Slot
  slot = slot_at s place

  abbrev next : TransactionSource
  next = source_after_append s place slot

  abbrev new : Edn × Edn
  new = (int (pos slot.key), int (pos (slot.appends + 1)))

  fresh : list_any (is_same_append new) front ≡ false
  fresh = none_same new front (all_mapped (IsOld s) (λ other. is_same_append new other ≡ false) other_one front clean.old)
    where
      other_one : (made : Edn × Edn) → IsOld s made → is_same_append new made ≡ false
      other_one made old = false_from_ne_true (is_same_append new made) (λ e.
          let at = subst (λ m. is_same_append new m ≡ true) old.is e in
          let both = and_parts (is_equal (int (pos slot.key)) (int (pos old.key))) (is_equal (int (pos (slot.appends + 1))) (int (pos old.element))) at in
          let key : slot.key ≡ old.key = numbers_equal slot.key old.key both.0 in
          let element : slot.appends + 1 ≡ old.element = numbers_equal (slot.appends + 1) old.element both.1 in
          let most : old.element ≤ slot.appends = old.counted place within key in
          absurd (omega (arith, element, most)))

  long_next : length next.slots ≡ length s.slots
  long_next = length-set s.slots place (slot_after s slot)

  here : (i : ℕ) → i ≡ place → slot_at next i ≡ slot_after s slot
  here i e = ap (slot_at next) e ∙ get_or-set_same s.slots place (slot_after s slot) no_slot within

  there : (i : ℕ) → i ≢ place → slot_at next i ≡ slot_at s i
  there i ne = get_or-set_other s.slots place i (slot_after s slot) no_slot ne

  slot_used : slot.key < s.next_key
  slot_used = clean.used place within

  -- a slot of another place has another key than this one's was
  other_key : (i : ℕ) → i < length s.slots → i ≢ place → slot.key ≡ (slot_at s i).key → ⊥
  other_key i inside ne e = ne (clean.apart i place inside within (sym e))

  -- what the slot is then, whether another key has taken its place or not
  record Follows : Type 0 where
    room : next.next_key + left < 2 ^ 63
    more : s.next_key ≤ next.next_key
    used : (slot_after s slot).key < next.next_key
    apart : (i : ℕ) → i < length s.slots → i ≢ place → (slot_after s slot).key ≡ (slot_at s i).key → ⊥
    old : (made : Edn × Edn) (h : IsOld s made) → (slot_after s slot).key ≡ h.key → h.element ≤ (slot_after s slot).appends
    new : (slot_after s slot).key ≡ slot.key → slot.appends + 1 ≤ (slot_after s slot).appends

  abbrev slot_if : Bool → Slot
  slot_if full = if full then record { key = s.next_key; appends = 0 } else record { key = slot.key; appends = slot.appends + 1 }

  abbrev key_if : Bool → ℕ
  key_if full = if full then (s.next_key + 1) % 2 ^ 63 else s.next_key

  follows : Follows
  follows = go (is_full_with_one s slot) refl
    where
      go : (full : Bool) → is_full_with_one s slot ≡ full → Follows
      go true e =
          let spare = clean.room in
          let fits : s.next_key + 1 < 2 ^ 63 = omega (arith, spare) in
          let key : (slot_after s slot).key ≡ s.next_key = ap (λ b. (slot_if b).key) e in
          let number : next.next_key ≡ s.next_key + 1 = ap key_if e ∙ mod-eq_of_lt fits in
          record {
            room = omega (arith, spare, number);
            more = omega (arith, number);
            used = omega (arith, key, number);
            apart = λ i inside ne same. let low = clean.used i inside in absurd (omega (arith, low, key, same));
            old = λ made h same. let low = h.used in absurd (omega (arith, low, key, same));
            new = λ same. let low = slot_used in absurd (omega (arith, low, key, same));
          }
      go false e =
          let spare = clean.room in
          let key : (slot_after s slot).key ≡ slot.key = ap (λ b. (slot_if b).key) e in
          let appends : (slot_after s slot).appends ≡ slot.appends + 1 = ap (λ b. (slot_if b).appends) e in
          let number : next.next_key ≡ s.next_key = ap key_if e in
          record {
            room = omega (arith, spare, number);
            more = omega (arith, number);
            used = (let low = slot_used in omega (arith, low, key, number));
            apart = λ i inside ne same. other_key i inside ne (sym key ∙ same);
            old = λ made h same. let most = h.counted place within (sym key ∙ same) in omega (arith, most, appends);
            new = λ same. omega (arith, appends);
          }

  clean_next : IsClean next (front ++ new ∷ []) left
  clean_next = record {
    room = follows.room;
    long = long_next ∙ clean.long;
    some = clean.some;
    used = λ i inside. used_at i (subst (λ n. i < n) long_next inside) (cases_eq i place);
    apart = λ i j one other. apart_at i j (subst (λ n. i < n) long_next one) (subst (λ n. j < n) long_next other) (cases_eq i place) (cases_eq j place);
    old = all_pushed (IsOld next) front new (all_mapped (IsOld s) (IsOld next) old_next front clean.old) new_old;
  }
    where
      used_at : (i : ℕ) → i < length s.slots → (i ≡ place) ⊎ (i ≡ place → ⊥) → (slot_at next i).key < next.next_key
      used_at i inside (inl e) = subst (λ (x : Slot). x.key < next.next_key) (sym (here i e)) follows.used
      used_at i inside (inr ne) =
          let low = clean.used i inside in let more = follows.more in
          subst (λ (x : Slot). x.key < next.next_key) (sym (there i ne)) (omega (arith, low, more))

      key_here : (i : ℕ) → i ≡ place → (slot_at next i).key ≡ (slot_after s slot).key
      key_here i e = ap (λ (x : Slot). x.key) (here i e)

      key_there : (i : ℕ) → i ≢ place → (slot_at next i).key ≡ (slot_at s i).key
      key_there i ne = ap (λ (x : Slot). x.key) (there i ne)

      apart_at : (i j : ℕ) → i < length s.slots → j < length s.slots → (i ≡ place) ⊎ (i ≡ place → ⊥) → (j ≡ place) ⊎ (j ≡ place → ⊥) → (slot_at next i).key ≡ (slot_at next j).key → i ≡ j
      apart_at i j one other (inl e) (inl d) same = e ∙ sym d
      apart_at i j one other (inl e) (inr nd) same = absurd (follows.apart j other nd (sym (key_here i e) ∙ (same ∙ key_there j nd)))
      apart_at i j one other (inr ne) (inl d) same = absurd (follows.apart i one ne (sym (key_here j d) ∙ (sym same ∙ key_there i ne)))
      apart_at i j one other (inr ne) (inr nd) same = clean.apart i j one other (sym (key_there i ne) ∙ (same ∙ key_there j nd))

      old_next : (made : Edn × Edn) → IsOld s made → IsOld next made
      old_next made h = record {
        key = h.key;
        element = h.element;
        is = h.is;
        used = (let low = h.used in let more = follows.more in omega (arith, low, more));
        counted = λ i inside same. counted_at i (subst (λ n. i < n) long_next inside) (cases_eq i place) same;
      }
        where
          counted_at : (i : ℕ) → i < length s.slots → (i ≡ place) ⊎ (i ≡ place → ⊥) → (slot_at next i).key ≡ h.key → h.element ≤ (slot_at next i).appends
          counted_at i inside (inl e) same = subst (λ (x : Slot). h.element ≤ x.appends) (sym (here i e)) (follows.old made h (sym (key_here i e) ∙ same))
          counted_at i inside (inr ne) same = subst (λ (x : Slot). h.element ≤ x.appends) (sym (there i ne)) (h.counted i inside (sym (key_there i ne) ∙ same))

      new_old : IsOld next new
      new_old = record {
        key = slot.key;
        element = slot.appends + 1;
        is = refl;
        used = (let low = slot_used in let more = follows.more in omega (arith, low, more));
        counted = λ i inside same. counted_at i (subst (λ n. i < n) long_next inside) (cases_eq i place) same;
      }
        where
          counted_at : (i : ℕ) → i < length s.slots → (i ≡ place) ⊎ (i ≡ place → ⊥) → (slot_at next i).key ≡ slot.key → slot.appends + 1 ≤ (slot_at next i).appends
          counted_at i inside (inl e) same = subst (λ (x : Slot). slot.appends + 1 ≤ x.appends) (sym (here i e)) (follows.new (sym (key_here i e) ∙ same))
          counted_at i inside (inr ne) same = absurd (other_key i inside ne (sym same ∙ key_there i ne))

  once : has_repeat front (new ∷ []) ≡ false
  once = or_from (list_any (is_same_append new) front) false fresh refl

-- less is left
pub less_left : (s : TransactionSource) (front : List (Edn × Edn)) (left less : ℕ) → less ≤ left → IsClean s front left → IsClean s front less
less_left s front left less few h = record { room = (let room = h.room in omega (arith, room, few)); long = h.long; some = h.some; used = h.used; apart = h.apart; old = h.old }

pub no_more : (s : TransactionSource) (front : List (Edn × Edn)) (left : ℕ) → IsClean s front left → IsClean s (front ++ []) left
no_more s front left h = subst (λ l. IsClean s l left) (sym (append-nil front)) h

-- a micro-operation on a slot
keeps_on : (s : TransactionSource) (front : List (Edn × Edn)) (left : ℕ) (reads : Bool) (place : ℕ) → place < length s.slots → IsClean s front (suc left)
    → Keeps (op_on s reads place).1 front (appends_of (op_written_on reads (slot_at s place) ∷ [])) left
keeps_on s front left true place within clean = (no_more s front left (less_left s front (suc left) left (omega arith) clean), refl)
keeps_on s front left false place within clean = (clean_next s front left place clean within, once s front left place clean within)

-- the random numbers of a source are no part of what is clean
other_random_numbers : (s : TransactionSource) (front : List (Edn × Edn)) (left : ℕ) → IsClean s front left → IsClean (after_random_number s) front left
other_random_numbers s front left h = record { room = h.room; long = h.long; some = h.some; used = h.used; apart = h.apart; old = all_mapped (IsOld s) (IsOld (after_random_number s)) (λ made o. record { key = o.key; element = o.element; is = o.is; used = o.used; counted = o.counted }) front h.old }

keeps_one : (s : TransactionSource) (front : List (Edn × Edn)) (left : ℕ) → IsClean s front (suc left) → Keeps (next_op s).1 front (appends_of (op_written s ∷ [])) left
keeps_one s front left clean =
    let long = clean.long in
    let some = clean.some in
    let below : random_number_of (after_random_number s) % s.shape.keys < s.shape.keys = mod_below (random_number_of (after_random_number s)) s.shape.keys (omega (arith, some)) in
    keeps_on (after_random_number (after_random_number s)) front left (random_number_of s % 2 == 0) (random_number_of (after_random_number s) % s.shape.keys) (omega (arith, below, long))
    (other_random_numbers (after_random_number s) front (suc left) (other_random_numbers s front (suc left) clean))

pub repeat_joined : (front xs ys : List (Edn × Edn)) → has_repeat front xs ≡ false → has_repeat (front ++ xs) ys ≡ false → has_repeat front (xs ++ ys) ≡ false
repeat_joined front [] ys h k = subst (λ l. has_repeat l ys ≡ false) (append-nil front) k
repeat_joined front (x ∷ xs) ys h k =
    let both = or_parts (list_any (is_same_append x) front) (has_repeat (front ++ x ∷ []) xs) h in
    or_from (list_any (is_same_append x) front) (has_repeat (front ++ x ∷ []) (xs ++ ys)) both.0
    (repeat_joined (front ++ x ∷ []) xs ys both.1 (subst (λ l. has_repeat l ys ≡ false) (sym (append_assoc front (x ∷ []) xs)) k))

keeps_joined : (s : TransactionSource) (front xs ys : List (Edn × Edn)) (left : ℕ) → has_repeat front xs ≡ false → Keeps s (front ++ xs) ys left → Keeps s front (xs ++ ys) left
keeps_joined s front xs ys left h (clean, k) = (subst (λ l. IsClean s l left) (append_assoc front xs ys) clean, repeat_joined front xs ys h k)

appends_apart : (w : Written) (ws : List Written) → appends_of (w ∷ ws) ≡ appends_of (w ∷ []) ++ appends_of ws
appends_apart (append key element) ws = refl
appends_apart (read key seen) ws = refl

keeps_ops : (n : ℕ) (s : TransactionSource) (front : List (Edn × Edn)) (left : ℕ) → IsClean s front (n + left) → Keeps (next_ops n s).1 front (appends_of (ops_written n s)) left
keeps_ops zero s front left clean = (no_more s front left (less_left s front (0 + left) left (omega arith) clean), refl)
keeps_ops (suc n) s front left clean =
    let first = keeps_one s front (n + left) (less_left s front (suc n + left) (suc (n + left)) (omega arith) clean) in
    let rest = keeps_ops n (next_op s).1 (front ++ appends_of (op_written s ∷ [])) left first.0 in
    subst (λ l. Keeps (next_ops (suc n) s).1 front l left) (sym (appends_apart (op_written s) (ops_written n (next_op s).1)))
    (keeps_joined (next_ops (suc n) s).1 front (appends_of (op_written s ∷ [])) (appends_of (ops_written n (next_op s).1)) left first.1 rest)

-- a whole transaction, of at most so many micro-operations
pub keeps_transaction : (s : TransactionSource) (front : List (Edn × Edn)) (left most : ℕ) → 1 ≤ s.shape.most → s.shape.most ≤ most → IsClean s front (most + left)
    → Keeps (next_transaction s).1 front (appends_of (transaction_written s)) left
keeps_transaction s front left most some few clean =
    let below : random_number_of s % s.shape.most < s.shape.most = mod_below (random_number_of s) s.shape.most (omega (arith, some)) in
    let n = 1 + random_number_of s % s.shape.most in
    keeps_ops n (after_random_number s) front left (less_left (after_random_number s) front (most + left) (n + left) (omega (arith, below, few)) (other_random_numbers s front (most + left) clean))

-- how transactions are made stays
shape_on : (s : TransactionSource) (reads : Bool) (place : ℕ) (slot : Slot) → (op_on_slot s reads place slot).1.shape ≡ s.shape
shape_on s true place at = refl
shape_on s false place at = refl

shape_ops : (n : ℕ) (s : TransactionSource) → (next_ops n s).1.shape ≡ s.shape
shape_ops zero s = refl
shape_ops (suc n) s =
    shape_ops n (next_op s).1
    ∙ shape_on (after_random_number (after_random_number s)) (random_number_of s % 2 == 0) (random_number_of (after_random_number s) % s.shape.keys) (slice_index_or s.slots (random_number_of (after_random_number s) % s.shape.keys) no_slot)

pub same_shape : (s : TransactionSource) → (next_transaction s).1.shape ≡ s.shape
same_shape s = shape_ops (1 + random_number_of s % s.shape.most) (after_random_number s)

-- ---- the first source

first_slot : (n key i : ℕ) → i < n → get_or (slots_from key n) i no_slot ≡ record { key = key + i; appends = 0 }
first_slot zero key i h = absurd (omega (arith, h))
first_slot (suc n) key zero h = ap (λ k. record { key = k; appends = 0 }) (let e : key ≡ key + 0 = omega arith in e)
first_slot (suc n) key (suc i) h =
    first_slot n (key + 1) i (omega (arith, h)) ∙ ap (λ k. record { key = k; appends = 0 }) (let e : key + 1 + i ≡ key + suc i = omega arith in e)

first_long : (n key : ℕ) → length (slots_from key n) ≡ n
first_long zero key = refl
first_long (suc n) key = ap suc (first_long n (key + 1))

pub first_clean : (shape : TransactionShape) (seed left : ℕ) → IsGoodShape shape → left ≤ 10 ^ 9 → IsClean (first_source shape seed) [] left
first_clean shape seed left good few = record {
  room = (let keys : shape.keys ≤ 1000 = good.few_keys in omega (arith, keys, few));
  long = first_long shape.keys 0;
  some = good.some_keys;
  used = λ i inside. let k = key_at i inside in let n = inside_is i inside in omega (arith, k, n);
  apart = λ i j one other same. sym (key_at i one) ∙ (same ∙ key_at j other);
  old = tt;
}
  where
    inside_is : (i : ℕ) → i < length (slots_from 0 shape.keys) → i < shape.keys
    inside_is i inside = let long = first_long shape.keys 0 in omega (arith, long, inside)

    key_at : (i : ℕ) → i < length (slots_from 0 shape.keys) → (slot_at (first_source shape seed) i).key ≡ i
    key_at i inside = ap (λ (x : Slot). x.key) (first_slot shape.keys 0 i (inside_is i inside)) ∙ (let e : 0 + i ≡ i = omega arith in e)
