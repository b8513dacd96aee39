-- The bands of lists are the bands of the changes between them, and each ends behind where it begins.
use Rattle.std.proofs.Common.{◌≡◌, ℕ, zero, suc, ◌+◌, ◌<◌, ◌≤◌, Bool, true, false, cond, List, [], ◌∷◌, ◌++◌, length, drop, get_or, reverse, Option, Some, None, refl, sym, ap, ◌∙◌, arith, subst, append_assoc}
use Rattle.std.specs.Prelude.{ℤ, map, not, ◌||◌, All, IfSome}
use Rattle.std.specs.BTreeMap.{BTreeMap, get, Updates}
use Rattle.std.specs.Ordering.{int_cmp, int_eq}
use Rattle.std.proofs.lemmas.List.{map-append, reverse-append}
use Rattle.std.proofs.lemmas.List.Elements.{All-append, All-map, All-nil}
use Rattle.jh_edn.specs.Edn.{Edn}
use Rattle.jh_bands.specs.Bands.{BandValue, IsBandWithin, band_of, bands_from, band_end, label_of, new_faults, view_band}
use Rattle.jh_bands.specs.BandsInside.{AllHaveOwnIds, HaveOwnIds, ChangeValue, bands_along, changes_at, changes_from, changes_with, new_bands, next_change, view_change, view_changes}
use Rattle.jh_bands.specs.Replay.{ActiveList, is_under, is_id_active}
use Rattle.jh_bands.specs.declared.band.Band.{Band}
use Rattle.jh_bands.specs.declared.edit.Change.{Change}
use Rattle.jh_bands.proofs.ActiveLemmas.{distinct_filtered, gone_is_new, id_itself, new_is, new_was_not, or_left, or_right, same_id}

-- ---- the next change of an id

next_with : (id : ℤ) (index : ℕ) (begins : Bool) (fs : ActiveList) (rest : List ChangeValue)
    → next_change id (changes_with index begins fs ++ rest) ≡ cond (is_id_active id fs) (Some index) (next_change id rest)
next_with id index begins [] rest = refl
next_with id index begins (f ∷ fs) rest =
    ap (λ found. cond (int_eq f.0 id) (Some index) found) (next_with id index begins fs rest) ∙ joined (int_eq f.0 id) (is_id_active id fs)
  where
    joined : (a b : Bool) → cond a (Some index) (cond b (Some index) (next_change id rest)) ≡ cond (a || b) (Some index) (next_change id rest)
    joined true b = refl
    joined false b = refl

next_none : (id : ℤ) (index : ℕ) (begins : Bool) (fs : ActiveList) (rest : List ChangeValue) → is_id_active id fs ≡ false
    → next_change id (changes_with index begins fs ++ rest) ≡ next_change id rest
next_none id index begins fs rest e = next_with id index begins fs rest ∙ ap (λ b. cond b (Some index) (next_change id rest)) e

next_here : (id : ℤ) (index : ℕ) (begins : Bool) (fs : ActiveList) (rest : List ChangeValue) → is_id_active id fs ≡ true
    → next_change id (changes_with index begins fs ++ rest) ≡ Some index
next_here id index begins fs rest e = next_with id index begins fs rest ∙ ap (λ b. cond b (Some index) (next_change id rest)) e

-- of an active fault, at the changes of an index
next_at : (id : ℤ) (index : ℕ) (before now : ActiveList) (rest : List ChangeValue) → is_id_active id before ≡ true
    → next_change id (changes_at index before now ++ rest) ≡ cond (is_id_active id now) (next_change id rest) (Some index)
next_at id index before now rest was = decided (is_id_active id now) refl
  where
    split : next_change id (changes_at index before now ++ rest) ≡ next_change id (changes_with index false (new_faults now before) ++ rest)
    split =
        ap (next_change id) (append_assoc (changes_with index true (new_faults before now)) (changes_with index false (new_faults now before)) rest)
        ∙ next_none id index true (new_faults before now) (changes_with index false (new_faults now before) ++ rest) (new_was_not before now id was)

    decided : (b : Bool) → is_id_active id now ≡ b → next_change id (changes_at index before now ++ rest) ≡ cond b (next_change id rest) (Some index)
    decided true is = split ∙ next_none id index false (new_faults now before) rest (new_was_not now before id is)
    decided false unlike = split ∙ next_here id index false (new_faults now before) rest (gone_is_new now before id unlike was)

-- the next change of an active fault is its end
ended : (id : ℤ) (index : ℕ) (before : ActiveList) (later : List ActiveList) → is_id_active id before ≡ true → next_change id (changes_from index before later) ≡ band_end id index later
ended id index before [] was = refl
ended id index before (now ∷ later) was =
    next_at id index before now (changes_from (index + 1) now later) was ∙ decided (is_id_active id now) refl (ended id (index + 1) now later)
  where
    decided : (b : Bool) → is_id_active id now ≡ b → (is_id_active id now ≡ true → next_change id (changes_from (index + 1) now later) ≡ band_end id (index + 1) later)
        → cond b (next_change id (changes_from (index + 1) now later)) (Some index) ≡ cond b (band_end id (index + 1) later) (Some index)
    decided true is rest = rest is
    decided false unlike rest = refl

-- ---- bands

begun_bands : (index : ℕ) (later : List ActiveList) (fs : ActiveList) (rest : List ChangeValue) → HaveOwnIds fs
    → ((id : ℤ) → is_id_active id fs ≡ true → next_change id rest ≡ band_end id (index + 1) later)
    → bands_along (changes_with index true fs ++ rest) ≡ map (band_of index later) fs ++ bands_along rest
begun_bands index later [] rest distinct ends = refl
begun_bands index later (f ∷ fs) rest distinct ends =
    ap (λ (to : Option ℕ). let band : BandValue = record { from = index; to = to; label = label_of f } in
    band ∷ bands_along (changes_with index true fs ++ rest))
    (next_none f.0 index true fs rest distinct.0 ∙ ends f.0 (or_left (int_eq f.0 f.0) (is_id_active f.0 fs) (id_itself f.0)))
    ∙ ap (λ bands. band_of index later f ∷ bands)
    (begun_bands index later fs rest distinct.1 (λ id e. ends id (or_right (is_under id f) (is_id_active id fs) e)))

ended_bands : (index : ℕ) (fs : ActiveList) (rest : List ChangeValue) → bands_along (changes_with index false fs ++ rest) ≡ bands_along rest
ended_bands index [] rest = refl
ended_bands index (f ∷ fs) rest = ended_bands index fs rest

pub bands_of_lists : (index : ℕ) (before : ActiveList) (lists : List ActiveList) → AllHaveOwnIds lists
    → bands_along (changes_from index before lists) ≡ bands_from index before lists
bands_of_lists index before [] distinct = refl
bands_of_lists index before (now ∷ later) distinct =
    let ends = changes_with index false (new_faults now before) in
    let rest = changes_from (index + 1) now later in
    ap bands_along (append_assoc (changes_with index true (new_faults before now)) ends rest)
    ∙ begun_bands index later (new_faults before now) (ends ++ rest) (distinct_filtered (λ fault. not (is_id_active fault.0 before)) now distinct.0)
    (λ id e.
    let is : is_id_active id now ≡ true = new_is before now id e in
    next_none id index false (new_faults now before) rest (new_was_not now before id is) ∙ ended id (index + 1) now later is)
    ∙ ap (λ bands. map (band_of index later) (new_faults before now) ++ bands) (ended_bands index (new_faults now before) rest ∙ bands_of_lists (index + 1) now later distinct.1)

-- ---- where bands end

end_within : (id : ℤ) (index : ℕ) (lists : List ActiveList) → IfSome (band_end id index lists) (λ to. (index ≤ to) × (to < index + length lists))
end_within id index [] = tt
end_within id index (active ∷ later) = decided (is_id_active id active) (band_end id (index + 1) later) (end_within id (index + 1) later)
  where
    wider : (found : Option ℕ) → IfSome found (λ to. (index + 1 ≤ to) × (to < index + 1 + length later)) → IfSome found (λ to. (index ≤ to) × (to < index + length (active ∷ later)))
    wider None h = tt
    wider (Some to) h = (omega (arith, h.0), omega (arith, h.1))

    decided : (b : Bool) (found : Option ℕ) → IfSome found (λ to. (index + 1 ≤ to) × (to < index + 1 + length later))
        → IfSome (cond b found (Some index)) (λ to. (index ≤ to) × (to < index + length (active ∷ later)))
    decided true found h = wider found h
    decided false found h = (omega arith, omega arith)

band_within : (index count : ℕ) (later : List ActiveList) (f : ℤ × Edn) → index + 1 + length later ≡ count → IsBandWithin count (band_of index later f)
band_within index count later f at =
    record { from = omega arith; to = within (band_end f.0 (index + 1) later) (end_within f.0 (index + 1) later) }
  where
    within : (found : Option ℕ) → IfSome found (λ to. (index + 1 ≤ to) × (to < index + 1 + length later)) → IfSome found (λ to. (index < to) × (to < count))
    within None h = tt
    within (Some to) h = (omega (arith, h.0), omega (arith, h.1, at))

pub bands_within : (index count : ℕ) (before : ActiveList) (lists : List ActiveList) → index + length lists ≡ count → All (IsBandWithin count) (bands_from index before lists)
bands_within index count before [] at = All-nil (IsBandWithin count)
bands_within index count before (now ∷ later) at =
    let next : index + 1 + length later ≡ count = omega (arith, at) in
    All-append (IsBandWithin count) (map (band_of index later) (new_faults before now)) (bands_from (index + 1) now later)
    (All-map (IsBandWithin count) (band_of index later) (new_faults before now)
    (λ k d below. band_within index count later (get_or (new_faults before now) k d) next))
    (bands_within (index + 1) count now later next)

view_band_at : (bands : List Band) (k : ℕ) (d : Band) → get_or (map view_band bands) k (view_band d) ≡ view_band (get_or bands k d)
view_band_at [] zero d = refl
view_band_at [] (suc k) d = refl
view_band_at (b ∷ bands) zero d = refl
view_band_at (b ∷ bands) (suc k) d = view_band_at bands k d

length_bands : (bands : List Band) → length (map view_band bands) ≡ length bands
length_bands [] = refl
length_bands (b ∷ bands) = ap suc (length_bands bands)

pub seen_within : (count : ℕ) (bands : List Band) → All (IsBandWithin count) (map view_band bands) → All (λ band. IsBandWithin count (view_band band)) bands
seen_within count bands h = λ k d below. subst (IsBandWithin count) (view_band_at bands k d) (h k (view_band d) (omega (arith, length_bands bands, below)))

-- ---- the bands of changes, from the last one on

-- what is kept of the changes from one on
pub record Kept (known : ℤ → Option ℕ) (found : List Band) (changes : List Change) (left : ℕ) : Type 0 where
  pub within : left ≤ length changes
  pub next : (id : ℤ) → known id ≡ next_change id (drop left (view_changes changes))
  pub bands : reverse (map view_band found) ≡ bands_along (drop left (view_changes changes))

drop_one : (changes : List Change) (i : ℕ) (change : Change) → i < length changes → change ≡ get_or changes i change
    → drop i (view_changes changes) ≡ view_change change ∷ drop (i + 1) (view_changes changes)
drop_one [] i change below same = absurd (omega arith)
drop_one (x ∷ xs) zero change below same = ap (λ c. view_change c ∷ view_changes xs) (sym same)
drop_one (x ∷ xs) (suc i) change below same =
    let next : suc (i + 1) ≡ suc i + 1 = omega arith in
    drop_one xs i change (omega arith) same ∙ ap (λ m. view_change change ∷ drop m (view_changes (x ∷ xs))) next

chosen : (b : Bool) (x y z : Option ℕ) → (b ≡ true → z ≡ x) → (b ≡ false → z ≡ y) → z ≡ cond b x y
chosen true x y z h k = h refl
chosen false x y z h k = k refl

-- a list of one at most is its own reverse
new_reversed : (change : ChangeValue) (to : Option ℕ) → reverse (new_bands change to) ≡ new_bands change to
new_reversed change to = reversed change.begins (record { from = change.index; to = to; label = label_of change.fault })
  where
    reversed : (b : Bool) (band : BandValue) → reverse (cond b (band ∷ []) []) ≡ cond b (band ∷ []) []
    reversed true band = refl
    reversed false band = refl

pub kept_more : (old new : BTreeMap ℤ ℕ) (bands all : List Band) (changes : List Change) (n i : ℕ) (change : Change) (to : Option ℕ)
    → n ≡ i + 1 → i < length changes → change ≡ get_or changes i change → to ≡ get int_cmp old change.fault.id
    → Kept (get int_cmp old) bands changes n → Updates int_cmp old new change.fault.id (Some change.index)
    → map view_band all ≡ map view_band bands ++ new_bands (view_change change) to → Kept (get int_cmp new) all changes i
kept_more old new bands all changes n i change to at below same found kept updates grown =
    let rest = drop (i + 1) (view_changes changes) in
    let whole = drop_one changes i change below same in
    let before : (id : ℤ) → get int_cmp old id ≡ next_change id rest = λ id. kept.next id ∙ ap (λ m. next_change id (drop m (view_changes changes))) at in
    let drawn : reverse (map view_band bands) ≡ bands_along rest = kept.bands ∙ ap (λ m. bands_along (drop m (view_changes changes))) at in
    let seen : to ≡ next_change change.fault.id rest = found ∙ before change.fault.id in
    let fresh = new_bands (view_change change) to in
    record {
      within = omega arith;
      next = λ id.
          chosen (int_eq change.fault.id id) (Some change.index) (next_change id rest) (get int_cmp new id)
          (λ alike. ap (get int_cmp new) (sym (same_id change.fault.id id alike)) ∙ updates.1)
          (λ unlike. updates.2 id unlike ∙ before id)
          ∙ ap (next_change id) (sym whole);
      bands =
          ap reverse grown ∙ reverse-append (map view_band bands) fresh ∙ ap (λ ws. ws ++ reverse (map view_band bands)) (new_reversed (view_change change) to)
          ∙ ap (λ ws. fresh ++ ws) drawn ∙ ap (λ t. new_bands (view_change change) t ++ bands_along rest) seen
          ∙ ap bands_along (sym whole);
    }

reverse_views : (bands : List Band) → map view_band (reverse bands) ≡ reverse (map view_band bands)
reverse_views [] = refl
reverse_views (b ∷ bands) =
    ap (map view_band) (reverse-append (b ∷ []) bands) ∙ map-append view_band (reverse bands) (b ∷ [])
    ∙ ap (λ ws. ws ++ view_band b ∷ []) (reverse_views bands) ∙ sym (reverse-append (view_band b ∷ []) (map view_band bands))

pub kept_all : (next : ℤ → Option ℕ) (bands all : List Band) (changes : List Change) (n : ℕ) → n ≡ 0 → Kept next bands changes n → all ≡ reverse bands
    → map view_band all ≡ bands_along (view_changes changes)
kept_all next bands all changes n none kept turned =
    ap (map view_band) turned ∙ reverse_views bands ∙ kept.bands ∙ ap (λ m. bands_along (drop m (view_changes changes))) none
