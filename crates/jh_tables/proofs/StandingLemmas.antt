-- Which faults tables stand for, before and after one of them is put or taken.
use Rattle.std.proofs.Common.{◌≡◌, ℕ, ◌<◌, ◌≤◌, List, ◌∷◌, ◌++◌, length, get_or, refl, ◌∙◌, sym, subst, arith, Option, Some, None}
use Rattle.std.specs.Prelude.{is_some}
use Rattle.std.specs.List.{Contains, count_by}
use Rattle.std.proofs.lemmas.Bool.{eq-eqb}
use Rattle.std.proofs.lemmas.List.{map-append}
use Rattle.std.proofs.lemmas.Option.{slice_get_within, slice_get-get_or, same_Some, some_pair_parts, none-some}
use Rattle.std.proofs.lemmas.List.Folds.{list_any_at}
use Rattle.std.proofs.lemmas.List.Sums.{sum_by-set, count_by-le-length}
use Rattle.jh_tables.specs.declared.counted.FixEntry.{FixEntry}
use Rattle.jh_tables.specs.declared.changing.Change.{Change}
use Rattle.jh_tables.specs.Faults.{FaultValue, fix_value}
use Rattle.jh_tables.specs.Faults.FaultValue.{Cut, Slow, Loss, Fix, Pause, Kill, Bump}
use Rattle.jh_tables.specs.Tallies.{Tallies}
use Rattle.jh_tables.specs.Standing.{AreEntries, AreInOrder, AreTallies, faults_of, is_fix}
use Rattle.jh_tables.specs.ChangingInside.{AreEntriesChanged, CanChangeEntries, has_stamp, changed_number, one_if}
use Rattle.jh_tables.proofs.MiddleLemmas.{contains_middle}
use Rattle.jh_tables.proofs.EntriesLemmas.{others_put, others_taken, fix_put, fix_taken}
use Rattle.jh_tables.proofs.TallyLemmas.{faults_from, faults_to, changed_zero}

-- the stamped faults before the change, and after it
abbrev pub stamped_from : Change → List (ℕ × FaultValue) → ℕ × FaultValue → List (ℕ × FaultValue) → List (ℕ × FaultValue)
stamped_from Change.Add before fault after = before ++ after
stamped_from Change.Remove before fault after = before ++ fault ∷ after

abbrev pub stamped_to : Change → List (ℕ × FaultValue) → ℕ × FaultValue → List (ℕ × FaultValue) → List (ℕ × FaultValue)
stamped_to Change.Add before fault after = before ++ fault ∷ after
stamped_to Change.Remove before fault after = before ++ after

pub faults_of_from : (change : Change) (before after : List (ℕ × FaultValue)) (fault : ℕ × FaultValue)
    → faults_of (stamped_from change before fault after) ≡ faults_from change (faults_of before) fault.1 (faults_of after)
faults_of_from Change.Add before after fault = map-append (λ (s : ℕ × FaultValue). s.1) before after
faults_of_from Change.Remove before after fault = map-append (λ (s : ℕ × FaultValue). s.1) before (fault ∷ after)

pub faults_of_to : (change : Change) (before after : List (ℕ × FaultValue)) (fault : ℕ × FaultValue)
    → faults_of (stamped_to change before fault after) ≡ faults_to change (faults_of before) fault.1 (faults_of after)
faults_of_to Change.Add before after fault = map-append (λ (s : ℕ × FaultValue). s.1) before (fault ∷ after)
faults_of_to Change.Remove before after fault = map-append (λ (s : ℕ × FaultValue). s.1) before after

-- a fault with such parts is this fix
fix_of_parts : (fault : FaultValue) (ms : ℕ) (links : List (ℕ × ℕ)) → fix_value fault ≡ Some (ms, links) → fault ≡ Fix ms links
fix_of_parts (Fix m ls) ms links is = let parts = some_pair_parts m ms ls links is in rw (parts.0, parts.1) refl
fix_of_parts (Cut ls) ms links is = absurd (none-some (ms, links) is)
fix_of_parts (Slow m ls) ms links is = absurd (none-some (ms, links) is)
fix_of_parts (Loss level ls) ms links is = absurd (none-some (ms, links) is)
fix_of_parts (Pause nodes) ms links is = absurd (none-some (ms, links) is)
fix_of_parts (Kill nodes) ms links is = absurd (none-some (ms, links) is)
fix_of_parts (Bump bumps) ms links is = absurd (none-some (ms, links) is)

fix_changed : (change : Change) (n stamp ms : ℕ) (links : List (ℕ × ℕ)) (before after : List (ℕ × FaultValue)) (old new : List (Option FixEntry))
    → n ≤ 64 → AreInOrder (before ++ (stamp, Fix ms links) ∷ after) → AreEntriesChanged change stamp (Some (ms, links)) old new
    → AreEntries n old (stamped_from change before (stamp, Fix ms links) after) → AreEntries n new (stamped_to change before (stamp, Fix ms links) after)
fix_changed Change.Add n stamp ms links before after old new few order changed_number are =
    rw changed_number.4 (fix_put n stamp ms links before after order old changed_number.0 changed_number.1 few changed_number.2 changed_number.3 are)
fix_changed Change.Remove n stamp ms links before after old new few order changed_number are =
    rw changed_number.4 (fix_taken n stamp ms links before after order old changed_number.0 changed_number.1 changed_number.2 changed_number.3 are)

others_changed : (change : Change) (n stamp : ℕ) (fault : FaultValue) (before after : List (ℕ × FaultValue)) (entries : List (Option FixEntry))
    → AreInOrder (before ++ (stamp, fault) ∷ after) → fix_value fault ≡ None
    → AreEntries n entries (stamped_from change before (stamp, fault) after) → AreEntries n entries (stamped_to change before (stamp, fault) after)
others_changed Change.Add n stamp fault before after entries order none are = others_put n stamp fault before after order entries none are
others_changed Change.Remove n stamp fault before after entries order none are = others_taken n stamp fault before after order entries none are

-- entries are changed as the faults are
pub entries_changed : (change : Change) (n stamp : ℕ) (fault : FaultValue) (before after : List (ℕ × FaultValue)) (old new : List (Option FixEntry))
    → n ≤ 64 → AreInOrder (before ++ (stamp, fault) ∷ after) → AreEntriesChanged change stamp (fix_value fault) old new
    → AreEntries n old (stamped_from change before (stamp, fault) after) → AreEntries n new (stamped_to change before (stamp, fault) after)
entries_changed change n stamp fault before after old new few order changed_number are =
    elim (fix_value fault) as (λ o. fix_value fault ≡ o → AreEntriesChanged change stamp o old new → AreEntries n new (stamped_to change before (stamp, fault) after)) [
      | None ↦ λ is same. rw same (others_changed change n stamp fault before after old order is are)
      | Some fix ↦ λ is changed'.
          let e = fix_of_parts fault fix.0 fix.1 is in
          subst (λ f. AreInOrder (before ++ (stamp, f) ∷ after) → AreEntries n old (stamped_from change before (stamp, f) after)
          → AreEntries n new (stamped_to change before (stamp, f) after)) (sym e)
          (λ order' are'. fix_changed change n stamp fix.0 fix.1 before after old new few order' changed' are') order are
    ] refl changed_number

-- as many entries are in use as before, and one more or less for a fix
parts_changed : (change : Change) (stamp : ℕ) (parts : Option (ℕ × List (ℕ × ℕ))) (old new : List (Option FixEntry)) → AreEntriesChanged change stamp parts old new
    → count_by is_some new ≡ changed_number change (count_by is_some old) (one_if (is_some parts))
parts_changed change stamp None old new are = rw are (sym (changed_zero change (count_by is_some old)))
parts_changed Change.Add stamp (Some fix) old new are =
    let there = slice_get_within old are.0 None are.2 in
    let was : get_or old are.0 None ≡ None = same_Some (get_or old are.0 None) None (sym (slice_get-get_or old are.0 None there) ∙ are.2) in
    let f : Option FixEntry → ℕ = (λ x. one_if (is_some x)) in
    let none : f (get_or old are.0 None) ≡ 0 = rw was refl in
    rw are.4 (omega (arith, none, sum_by-set f old are.0 (Some are.1) None there))
parts_changed Change.Remove stamp (Some fix) old new are =
    let there = slice_get_within old are.0 (Some are.1) are.2 in
    let was : get_or old are.0 None ≡ Some are.1 = same_Some (get_or old are.0 None) (Some are.1) (sym (slice_get-get_or old are.0 None there) ∙ are.2) in
    let f : Option FixEntry → ℕ = (λ x. one_if (is_some x)) in
    let some : f (get_or old are.0 None) ≡ 1 = rw was refl in
    rw are.4 (omega (arith, some, sum_by-set f old are.0 None None there))

pub used_changed : (change : Change) (stamp : ℕ) (fault : FaultValue) (old new : List (Option FixEntry)) → AreEntriesChanged change stamp (fix_value fault) old new
    → count_by is_some new ≡ changed_number change (count_by is_some old) (one_if (is_fix fault))
used_changed change stamp fault = parts_changed change stamp (fix_value fault)

-- fewer than 256 faults leave an entry free
room_to_put : (parts : Option (ℕ × List (ℕ × ℕ))) (stamp : ℕ) (entries : List (Option FixEntry)) → count_by is_some entries < length entries → CanChangeEntries Change.Add stamp parts entries
room_to_put None stamp entries h = tt
room_to_put (Some fix) stamp entries h = h

pub entries_room : (n stamp : ℕ) (fault : FaultValue) (tallies : Tallies) (faults : List FaultValue) → length tallies.fixes ≡ 256 → length faults < 256
    → AreTallies n tallies faults → CanChangeEntries Change.Add stamp (fix_value fault) tallies.fixes
entries_room n stamp fault tallies faults long few are =
    room_to_put (fix_value fault) stamp tallies.fixes (omega (arith, long, few, are.fixes, count_by-le-length is_fix faults))

-- a fix that is put has its entry
pub entry_there : (n stamp : ℕ) (fault : FaultValue) (before after : List (ℕ × FaultValue)) (entries : List (Option FixEntry))
    → AreEntries n entries (before ++ (stamp, fault) ∷ after) → CanChangeEntries Change.Remove stamp (fix_value fault) entries
entry_there n stamp fault before after entries are =
    elim (fix_value fault) as (λ o. fix_value fault ≡ o → CanChangeEntries Change.Remove stamp o entries) [
      | None ↦ λ is. tt
      | Some fix ↦ λ is.
          let same = fix_of_parts fault fix.0 fix.1 is in
          let among = subst (λ f. Contains (before ++ (stamp, fault) ∷ after) (stamp, f)) same (contains_middle before after (stamp, fault)) in
          let e = are.all stamp fix.0 fix.1 among in
          list_any_at (has_stamp stamp) entries e.1.0 (Some e.0) e.1.1 (rw e.1.2 (eq-eqb (e.0).stamp stamp e.2.stamped))
    ] refl
