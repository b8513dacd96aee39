-- Entries of fixes, before and after a fault is put or taken.
use Rattle.std.proofs.Common.{◌≡◌, ◌≢◌, ◌⊎◌, ℕ, ◌<◌, ◌≤◌, true, false, List, ◌∷◌, ◌++◌, length, get_or, set, refl, ap, ◌∙◌, sym, subst, arith, Option, Some, None, inl, inr, length-set, get_or-set_same, get_or-set_other}
use Rattle.std.proofs.lemmas.List.{get_or_default}
use Rattle.std.specs.Prelude.{◌==◌, slice_get, nat_lt}
use Rattle.std.specs.List.{AllPairs, Contains}
use Rattle.std.proofs.lemmas.Bool.{eq-eqb, eqb-true, false≢true, ltb-true, ltb-false}
use Rattle.std.proofs.lemmas.Option.{none-some, same_Some, slice_get_within, slice_get-get_or}
use Rattle.jh_tables.specs.declared.counted.FixEntry.{FixEntry}
use Rattle.jh_tables.specs.Faults.{FaultValue, fix_value}
use Rattle.jh_tables.specs.Faults.FaultValue.{Fix}
use Rattle.jh_tables.specs.Standing.{AreEntries, AreInOrder, HaveOtherStamps, IsEntryOf}
use Rattle.jh_tables.proofs.MiddleLemmas.{contains_middle, contains_with, middle_cases, pairs_middle, pairs_set}

-- what stands at a place is contained, and the other way round
module _ {X : Type 0} where
  contains_at : (xs : List X) (k : ℕ) (x : X) → slice_get xs k ≡ Some x → Contains xs x
  contains_at xs k x is =
      let below = slice_get_within xs k x is in
      (k, below, same_Some (get_or xs k x) x (sym (slice_get-get_or xs k x below) ∙ is))

  -- a place other than the one that is written keeps what it has
  kept : (xs : List X) (place : ℕ) (x y : X) → (among : Contains xs y) → among.0 ≢ place → Contains (set xs place x) y
  kept xs place x y among apart =
      (among.0, omega (arith, among.1, length-set xs place x), get_or-set_other xs place among.0 x y apart ∙ among.2)

  -- what is among them after the write was among them before, or is what was written
  set_cases : (xs : List X) (place : ℕ) (x y : X) → place < length xs → (among : Contains (set xs place x) y) → ((h : Contains xs y) × (h.0 ≢ place)) ⊎ (x ≡ y)
  set_cases xs place x y there among = elim (among.0 == place) as (λ s. (among.0 == place) ≡ s → ((h : Contains xs y) × (h.0 ≢ place)) ⊎ (x ≡ y)) [
    | true ↦ λ s.
        let same = eqb-true among.0 place s in
        inr (sym (get_or-set_same xs place x y there) ∙ ap (λ k. get_or (set xs place x) k y) (sym same) ∙ among.2)
    | false ↦ λ s.
        let apart : among.0 ≢ place = (λ e. false≢true (sym s ∙ eq-eqb among.0 place e)) in
        inl ((among.0, omega (arith, among.1, length-set xs place x), sym (get_or-set_other xs place among.0 x y apart) ∙ among.2), apart)
  ] refl

module _ (n stamp : ℕ) (fault : FaultValue) (before after : List (ℕ × FaultValue)) (order : AreInOrder (before ++ (stamp, fault) ∷ after)) where
  -- no other fault has its stamp
  other_stamp : (s : ℕ) (g : FaultValue) → Contains (before ++ after) (s, g) → s ≢ stamp
  other_stamp s g among same = elim (pairs_middle (λ x y. x.0 < y.0) before after (stamp, fault) (s, g) order among) as (λ _. ⊥) [
    | inl lower ↦ omega (arith, lower, same)
    | inr higher ↦ omega (arith, higher, same)
  ]

  -- a fault that is no fix stands for no entry
  no_fix : fix_value fault ≡ None → (s ms : ℕ) (links : List (ℕ × ℕ)) → ◌≡◌ {A = ℕ × FaultValue} (stamp, fault) (s, Fix ms links) → ⊥
  no_fix none s ms links same = none-some (ms, links) (sym none ∙ ap (λ (x : ℕ × FaultValue). fix_value x.1) same)

  pub others_put : (entries : List (Option FixEntry)) → fix_value fault ≡ None → AreEntries n entries (before ++ after) → AreEntries n entries (before ++ (stamp, fault) ∷ after)
  others_put entries none are = record {
    all = λ s ms links among. elim (middle_cases before after (stamp, fault) (s, Fix ms links) among)
        as (λ _. (entry : FixEntry) × Contains entries (Some entry) × IsEntryOf n s ms links entry) [
          | inl old ↦ are.all s ms links old
          | inr new ↦ absurd (no_fix none s ms links new)
        ];
    only = λ entry among. let h = are.only entry among in (h.0, h.1, contains_with before after (stamp, fault) (entry.stamp, Fix h.0 h.1) h.2, h.3);
    once = are.once;
  }

  pub others_taken : (entries : List (Option FixEntry)) → fix_value fault ≡ None → AreEntries n entries (before ++ (stamp, fault) ∷ after) → AreEntries n entries (before ++ after)
  others_taken entries none are = record {
    all = λ s ms links among. are.all s ms links (contains_with before after (stamp, fault) (s, Fix ms links) among);
    only = λ entry among. let h = are.only entry among in elim (middle_cases before after (stamp, fault) (entry.stamp, Fix h.0 h.1) h.2)
        as (λ _. (ms : ℕ) × (links : List (ℕ × ℕ)) × Contains (before ++ after) (entry.stamp, Fix ms links) × IsEntryOf n entry.stamp ms links entry) [
          | inl old ↦ (h.0, h.1, old, h.3)
          | inr new ↦ absurd (no_fix none entry.stamp h.0 h.1 new)
        ];
    once = are.once;
  }

-- the entry is that of the stamped fault, which is a fix
abbrev IsEntryFor : ℕ → ℕ × FaultValue → FixEntry → Type 0
IsEntryFor n (s, Fix ms links) entry = IsEntryOf n s ms links entry
IsEntryFor n _ entry = ⊥

-- a place that is free is no entry's
free_apart : (entries : List (Option FixEntry)) (place : ℕ) (entry : FixEntry) → slice_get entries place ≡ Some None
    → (among : Contains entries (Some entry)) → among.0 ≢ place
free_apart entries place entry free among same =
    let there = slice_get-get_or entries among.0 (Some entry) among.1 in
    none-some entry (same_Some None (Some entry) (sym free ∙ ap (slice_get entries) (sym same) ∙ there ∙ ap Some among.2))

-- what stands at one place is one
same_place : (entries : List (Option FixEntry)) (place : ℕ) (entry other : FixEntry) → slice_get entries place ≡ Some (Some entry)
    → (among : Contains entries (Some other)) → among.0 ≡ place → entry ≡ other
same_place entries place entry other at among same =
    let there = slice_get-get_or entries among.0 (Some other) among.1 in
    same_Some entry other (same_Some (Some entry) (Some other) (sym at ∙ ap (slice_get entries) (sym same) ∙ there ∙ ap Some among.2))

others_of_free : (x : Option FixEntry) → HaveOtherStamps x None × HaveOtherStamps None x
others_of_free None = (tt, tt)
others_of_free (Some x) = (tt, tt)

-- no two places have one stamp
twice : (entries : List (Option FixEntry)) (place : ℕ) (entry other : FixEntry) → slice_get entries place ≡ Some (Some entry)
    → (among : Contains entries (Some other)) → among.0 ≢ place → AllPairs HaveOtherStamps entries → entry.stamp ≡ other.stamp → ⊥
twice entries place entry other at among apart once same =
    let there = slice_get_within entries place (Some entry) at in
    let here : get_or entries place (Some other) ≡ Some entry = same_Some (get_or entries place (Some other)) (Some entry) (sym (slice_get-get_or entries place (Some other) there) ∙ at) in
    let first = once place among.0 (Some other) in
    let second = once among.0 place (Some other) in
    elim (nat_lt among.0 place) as (λ s. nat_lt among.0 place ≡ s → ⊥) [
      | true ↦ λ s. (rw (among.2, here) at (second (ltb-true among.0 place s) there)) (sym same)
      | false ↦ λ s. (rw (among.2, here) at (first (let past = ltb-false among.0 place s in omega (arith, past, apart)) among.1)) same
    ] refl

module _ (n stamp ms : ℕ) (links : List (ℕ × ℕ)) (before after : List (ℕ × FaultValue)) (order : AreInOrder (before ++ (stamp, Fix ms links) ∷ after)) where
  pub fix_put : (entries : List (Option FixEntry)) (place : ℕ) (entry : FixEntry) → n ≤ 64 → slice_get entries place ≡ Some None → IsEntryOf 64 stamp ms links entry
      → AreEntries n entries (before ++ after) → AreEntries n (set entries place (Some entry)) (before ++ (stamp, Fix ms links) ∷ after)
  fix_put entries place entry few free is are =
      let there = slice_get_within entries place None free in
      let here : IsEntryOf n stamp ms links entry = record { stamped = is.stamped; delay = is.delay; named = λ a b ha hb. is.named a b (omega (arith, ha, few)) (omega (arith, hb, few)) } in
      record {
        all = λ s m ls among. elim (middle_cases before after (stamp, Fix ms links) (s, Fix m ls) among)
            as (λ _. (e : FixEntry) × Contains (set entries place (Some entry)) (Some e) × IsEntryOf n s m ls e) [
              | inl old ↦ let e = are.all s m ls old in (e.0, kept entries place (Some entry) (Some e.0) e.1 (free_apart entries place e.0 free e.1), e.2)
              | inr new ↦ (
                entry,
                (place, omega (arith, there, length-set entries place (Some entry)), get_or-set_same entries place (Some entry) (Some entry) there),
                subst (λ x. IsEntryFor n x entry) new here,
              )
            ];
        only = λ e among. elim (set_cases entries place (Some entry) (Some e) there among)
            as (λ _. (m : ℕ) × (ls : List (ℕ × ℕ)) × Contains (before ++ (stamp, Fix ms links) ∷ after) (e.stamp, Fix m ls) × IsEntryOf n e.stamp m ls e) [
              | inl old ↦ let h = are.only e old.0 in (h.0, h.1, contains_with before after (stamp, Fix ms links) (e.stamp, Fix h.0 h.1) h.2, h.3)
              | inr new ↦
                  subst (λ (x : FixEntry). (m : ℕ) × (ls : List (ℕ × ℕ)) × Contains (before ++ (stamp, Fix ms links) ∷ after) (x.stamp, Fix m ls) × IsEntryOf n x.stamp m ls x)
                  (same_Some entry e new)
                  (ms, links, rw is.stamped (contains_middle before after (stamp, Fix ms links)), record { stamped = refl; delay = here.delay; named = here.named })
            ];
        once = pairs_set HaveOtherStamps entries place (Some entry) there are.once (λ k d below apart.
            elim (get_or entries k d) as (λ o. get_or entries k d ≡ o → HaveOtherStamps o (Some entry) × HaveOtherStamps (Some entry) o) [
              | None ↦ λ at. (tt, tt)
              | Some x ↦ λ at.
                  let h = are.only x (k, below, get_or_default entries k (Some x) d below ∙ at) in
                  let other = other_stamp n stamp (Fix ms links) before after order x.stamp (Fix h.0 h.1) h.2 in
                  ((λ e. other (e ∙ is.stamped)), (λ e. other (sym e ∙ is.stamped)))
            ] refl);
      }

  pub fix_taken : (entries : List (Option FixEntry)) (place : ℕ) (entry : FixEntry) → slice_get entries place ≡ Some (Some entry) → entry.stamp ≡ stamp
      → AreEntries n entries (before ++ (stamp, Fix ms links) ∷ after) → AreEntries n (set entries place None) (before ++ after)
  fix_taken entries place entry at is are =
      let there = slice_get_within entries place (Some entry) at in
      record {
        all = λ s m ls among.
            let e = are.all s m ls (contains_with before after (stamp, Fix ms links) (s, Fix m ls) among) in
            let other = other_stamp n stamp (Fix ms links) before after order s (Fix m ls) among in
            let apart : e.1.0 ≢ place = (λ same. other (sym e.2.stamped ∙ ap (λ (x : FixEntry). x.stamp) (sym (same_place entries place entry e.0 at e.1 same)) ∙ is)) in
            (e.0, kept entries place None (Some e.0) e.1 apart, e.2);
        only = λ e among. elim (set_cases entries place None (Some e) there among)
            as (λ _. (m : ℕ) × (ls : List (ℕ × ℕ)) × Contains (before ++ after) (e.stamp, Fix m ls) × IsEntryOf n e.stamp m ls e) [
              | inl old ↦
                  let h = are.only e old.0 in
                  elim (middle_cases before after (stamp, Fix ms links) (e.stamp, Fix h.0 h.1) h.2)
                  as (λ _. (m : ℕ) × (ls : List (ℕ × ℕ)) × Contains (before ++ after) (e.stamp, Fix m ls) × IsEntryOf n e.stamp m ls e) [
                    | inl still ↦ (h.0, h.1, still, h.3)
                    | inr new ↦ absurd (twice entries place entry e at old.0 old.1 are.once (is ∙ ap (λ (x : ℕ × FaultValue). x.0) new))
                  ]
              | inr new ↦ absurd (none-some e new)
            ];
        once = pairs_set HaveOtherStamps entries place None there are.once (λ k d below apart. others_of_free (get_or entries k d));
      }
