-- Marks of what must be there.
use Rattle.std.proofs.Common.{◌≡◌, ℕ, zero, suc, ◌<◌, ℤ, Bool, true, false, Option, Some, None, List, [], ◌∷◌, ◌++◌, length, get_or, set, replicate, refl, sym, subst, ◌∙◌, inl, inr, arith}
use Rattle.std.specs.Prelude.{◌⊎◌}
use Rattle.std.proofs.lemmas.Bool.{false≢true, cases_eq}
use Rattle.std.proofs.lemmas.List.{get_or-set_same, get_or-set_other, length-set, get_or_default}
use Rattle.jh_linear.specs.declared.register.RegCall.{RegCall}
use Rattle.jh_linear.specs.declared.register.RegCall.TheVariants.{Read, Write, Cas}
use Rattle.jh_linear.specs.declared.register.RegOp.{RegOp}
use Rattle.jh_linear.specs.Order.{IsDone, has}
use Rattle.jh_unique.specs.Unique.{NeedsValue, reg_call_at, WritesAt, IsNeeded, MustStand}
use Rattle.jh_unique.specs.Marks.{IsMarkedThere, MarkOnlyNeeded, MarkWriters, KeepsMarks, AreMarksOfList}
use Rattle.jh_unique.proofs.ListLemmas.{has_left, has_right, has_cases, has_head, one_is}
use Rattle.std.specs.declared.alloc.Global.{Global}
use Rattle.std.specs.declared.collections.btree_map.BTreeMap.{BTreeMap}
use Rattle.jh_unique.specs.Tables.{IsWriterTable}
use Rattle.jh_unique.proofs.WalkLemmas.{must_writer}
use Rattle.jh_unique.proofs.TableLemmas.{writers_apart, none_number}
use Rattle.jh_unique.proofs.PartLemmas.{possible_there}
use Rattle.std.specs.Prelude.{MatchOption}
use Rattle.std.specs.BTreeMap.{get}
use Rattle.std.specs.Ordering.{int_cmp}

-- how many are not marked
abbrev pub unmarked : List Bool → ℕ
unmarked [] = 0
unmarked (true ∷ there) = unmarked there
unmarked (false ∷ there) = suc (unmarked there)

pub fewer : (there : List Bool) (p : ℕ) → p < length there → get_or there p false ≡ false → unmarked (set there p true) < unmarked there
fewer [] p low is = absurd (omega (arith, low))
fewer (true ∷ there) zero low is = absurd (false≢true (sym is))
fewer (false ∷ there) zero low is = omega arith
fewer (true ∷ there) (suc p) low is = fewer there p (omega (arith, low)) is
fewer (false ∷ there) (suc p) low is = let h = fewer there p (omega (arith, low)) is in omega (arith, h)

-- one is to be marked: all else is closed
pub record IsMarking (ops : List RegOp) (old : List Bool) (number : ℕ) (there : List Bool) (at : ℕ) : Type 0 where
  pub count : length there ≡ length ops
  pub low : at < length ops
  pub must : MustStand ops at
  pub more : (p : ℕ) → IsMarkedThere old p → IsMarkedThere there p
  pub sound : MarkOnlyNeeded ops there
  pub but : (p w : ℕ) (v : ℤ) → IsMarkedThere there p → NeedsValue (reg_call_at ops p) v → WritesAt ops w v → IsMarkedThere there w ⊎ (w ≡ at)
  pub this : IsMarkedThere there number ⊎ (at ≡ number)

module _ (ops : List RegOp) (old : List Bool) (number : ℕ) where
  pub marking_starts : length old ≡ length ops → number < length ops → MustStand ops number → MarkOnlyNeeded ops old → MarkWriters ops old → IsMarking ops old number old number
  marking_starts count low must sound closed = record { count = count; low = low; must = must; more = λ p h. h; sound = sound; but = λ p w v h needs writes. inl (closed p w v h needs writes); this = inr refl }

  pub marking_ends : (there : List Bool) (at : ℕ) → length old ≡ length ops → IsMarking ops old number there at → IsMarkedThere there at → KeepsMarks ops old there
  marking_ends there at count m here = record {
    count = m.count ∙ sym count;
    more = m.more;
    sound = m.sound;
    closed = λ p w v h needs writes. elim (m.but p w v h needs writes) as (λ _. IsMarkedThere there w) [ inl is ↦ is | inr same ↦ subst (IsMarkedThere there) (sym same) here ];
  }

  pub marking_this : (there : List Bool) (at : ℕ) → IsMarking ops old number there at → IsMarkedThere there at → IsMarkedThere there number
  marking_this there at m here = elim m.this as (λ _. IsMarkedThere there number) [ inl is ↦ is | inr same ↦ subst (IsMarkedThere there) same here ]

  pub mark_cases : (there : List Bool) (at p : ℕ) → at < length there → IsMarkedThere (set there at true) p → (p ≡ at) ⊎ IsMarkedThere there p
  mark_cases there at p low h = elim (cases_eq p at) as (λ _. (p ≡ at) ⊎ IsMarkedThere there p) [ inl same ↦ inl same | inr differ ↦ inr (sym (get_or-set_other there at p true false differ) ∙ h) ]

  pub mark_kept : (there : List Bool) (at p : ℕ) → at < length there → IsMarkedThere there p → IsMarkedThere (set there at true) p
  mark_kept there at p low h = elim (cases_eq p at) as (λ _. IsMarkedThere (set there at true) p) [
    | inl same ↦ subst (IsMarkedThere (set there at true)) (sym same) (get_or-set_same there at true false low)
    | inr differ ↦ get_or-set_other there at p true false differ ∙ h
  ]

one_need : (call : RegCall) (v w : ℤ) → NeedsValue call v → NeedsValue call w → v ≡ w
one_need (Read None) v w h k = absurd h
one_need (Read (Some seen)) v w h k = sym h ∙ k
one_need (Write new) v w h k = absurd h
one_need (Cas old new) v w h k = sym h ∙ k

pub at_is : (there : List Bool) (i : ℕ) (x : Bool) → i < length there → x ≡ get_or there i x → get_or there i false ≡ x
at_is there i x low h = sym (h ∙ get_or_default there i x false low)

module _ (ops : List RegOp) (writers : BTreeMap ℤ ℕ Global) (table : IsWriterTable ops writers) (old : List Bool) (number : ℕ) where
  pub marking_goes_on : (there : List Bool) (at w : ℕ) (v : ℤ) → IsMarking ops old number there at → w < length ops → NeedsValue (reg_call_at ops at) v → WritesAt ops w v → IsMarking ops old number (set there at true) w
  marking_goes_on there at w v m low needs writes =
      let inside : at < length there = omega (arith, m.low, m.count) in
      let now : IsMarkedThere (set there at true) at = get_or-set_same there at true false inside in
      record {
        count = length-set there at true ∙ m.count;
        low = low;
        must = must_writer ops w at v writes needs m.must;
        more = λ p h. mark_kept ops old number there at p inside (m.more p h);
        sound = λ p h. elim (mark_cases ops old number there at p inside h) as (λ _. MustStand ops p) [ inl same ↦ subst (MustStand ops) (sym same) m.must | inr before ↦ m.sound p before ];
        but = λ p x u h asks wrote. elim (mark_cases ops old number there at p inside h) as (λ _. IsMarkedThere (set there at true) x ⊎ (x ≡ w)) [
          | inl same ↦
              let is : u ≡ v = one_need (reg_call_at ops at) u v (subst (λ z. NeedsValue (reg_call_at ops z) u) same asks) needs in
              inr (writers_apart ops writers table v x w (subst (WritesAt ops x) is wrote) writes)
          | inr before ↦ elim (m.but p x u before asks wrote) as (λ _. IsMarkedThere (set there at true) x ⊎ (x ≡ w)) [
            | inl is ↦ inl (mark_kept ops old number there at x inside is)
            | inr here ↦ inl (subst (IsMarkedThere (set there at true)) (sym here) now)
          ]
        ];
        this = elim m.this as (λ _. IsMarkedThere (set there at true) number ⊎ (w ≡ number)) [ inl is ↦ inl (mark_kept ops old number there at number inside is) | inr here ↦ inl (subst (IsMarkedThere (set there at true)) here now) ];
      }

pub all_marked : (ops : List RegOp) (there : List Bool) → MarkWriters ops there → ((k : ℕ) → IsDone ops k → IsMarkedThere there k) → (readers : List ℕ) (p : ℕ) → IsNeeded ops readers p → IsMarkedThere there p
all_marked ops there closed done [] p h = done p h
all_marked ops there closed done (q ∷ qs) p h = closed q p h.0 (all_marked ops there closed done qs q h.3) h.2 h.1

-- Marks of what is in a list.
pub list_none : (count : ℕ) → length (replicate count false) ≡ count → AreMarksOfList count [] (replicate count false)
list_none count long = record {
  count_is = long;
  marked = λ p h. absurd (none_marked count p h);
  all = λ p h. absurd (false≢true h);
} where
  none_marked : (n p : ℕ) → IsMarkedThere (replicate n false) p → ⊥
  none_marked zero p h = false≢true h
  none_marked (suc n) zero h = false≢true h
  none_marked (suc n) (suc p) h = none_marked n p h

pub list_more : (count : ℕ) (list : List ℕ) (marks : List Bool) (x : ℕ) → x < count → AreMarksOfList count list marks → AreMarksOfList count (list ++ x ∷ []) (set marks x true)
list_more count list marks x low so =
    let inside : x < length marks = omega (arith, low, so.count_is) in
    record {
      count_is = length-set marks x true ∙ so.count_is;
      marked = λ p h. elim (cases_eq p x) as (λ _. has (list ++ x ∷ []) p ≡ true) [
        | inl same ↦ has_right list (x ∷ []) p (subst (λ z. has (x ∷ []) z ≡ true) (sym same) (has_head x []))
        | inr differ ↦ has_left list (x ∷ []) p (so.marked p (sym (get_or-set_other marks x p true false differ) ∙ h))
      ];
      all = λ p h. elim (cases_eq p x) as (λ _. IsMarkedThere (set marks x true) p) [
        | inl same ↦ subst (IsMarkedThere (set marks x true)) (sym same) (get_or-set_same marks x true false inside)
        | inr differ ↦ elim (has_cases list (x ∷ []) p h) as (λ _. IsMarkedThere (set marks x true) p) [
          | inl old ↦ get_or-set_other marks x p true false differ ∙ so.all p old
          | inr here ↦ absurd (differ (sym (one_is x p here)))
        ]
      ];
    }

-- who writes what an operation needs, by the table
pub writer_is : (ops : List RegOp) (writers : BTreeMap ℤ ℕ Global) → IsWriterTable ops writers → (p : ℕ) (v : ℤ) → NeedsValue (reg_call_at ops p) v → (o : Option ℕ) → o ≡ get int_cmp writers v
    → MatchOption o ((value : ℤ) (writer : ℕ) → NeedsValue (reg_call_at ops p) value → WritesAt ops writer value → ⊥) (λ writer. (writer < length ops) × ((value : ℤ) × NeedsValue (reg_call_at ops p) value × WritesAt ops writer value))
writer_is ops writers so p v needs None is = λ u w asks writes.
    let same : u ≡ v = one_need (reg_call_at ops p) u v asks needs in
    let wrote = subst (WritesAt ops w) same writes in
    none_number (get int_cmp writers v) w (sym is) (so.whole v w (possible_there ops w wrote.0) wrote)
writer_is ops writers so p v needs (Some w) is = let r = so.sound v w (sym is) in (r.0, (v, needs, r.1))
