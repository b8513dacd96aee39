-- Entries, and free ones behind them.
use Rattle.std.proofs.Common.{◌≡◌, ℕ, ◌-◌, ◌+◌, ◌<◌, ◌≤◌, false, List, [], ◌∷◌, ◌++◌, length, set, refl, ◌∙◌, arith, zero, suc, replicate, Option, Some, None, append_assoc, length-append, length-set}
use Rattle.std.specs.Prelude.{fold, is_some, slice_get, if◌then◌else◌}
use Rattle.std.specs.List.{count_by, list_any}
use Rattle.std.proofs.Math.Bool.{or-false}
use Rattle.std.proofs.lemmas.List.{length-replicate, set-append_left}
use Rattle.std.proofs.lemmas.List.Folds.{list_any-append}
use Rattle.std.proofs.lemmas.List.Sums.{sum_by-append, fold-append}
use Rattle.std.proofs.lemmas.Option.{none-some}
use Rattle.jh_tables.specs.declared.counted.FixEntry.{FixEntry}
use Rattle.jh_tables.specs.declared.counted.FixedDelay.{FixedDelay}
use Rattle.jh_tables.specs.Tallies.{with_free_entries, later_fix, latest_fix}
use Rattle.jh_tables.specs.ChangingInside.{has_stamp}

-- so many free entries
abbrev free : ℕ → List (Option FixEntry)
free n = replicate n None

-- how many are behind these
abbrev left : List (Option FixEntry) → ℕ
left entries = 256 - length entries

pub free_at : (n k : ℕ) → k < n → slice_get (free n) k ≡ Some None
free_at zero k h = absurd (omega (arith, h))
free_at (suc n) zero h = refl
free_at (suc n) (suc k) h = free_at n k (omega (arith, h))

behind : (entries : List (Option FixEntry)) (n k : ℕ) → length entries ≤ k → k < length entries + n → slice_get (entries ++ free n) k ≡ Some None
behind [] n k past h = free_at n k (omega (arith, h))
behind (x ∷ entries) n zero past h = absurd (omega (arith, past))
behind (x ∷ entries) n (suc k) past h = behind entries n k (omega (arith, past)) (omega (arith, h))

-- all behind these are free
pub free_behind : (entries : List (Option FixEntry)) (k : ℕ) → length entries ≤ 256 → length entries ≤ k → k < 256 → slice_get (with_free_entries entries) k ≡ Some None
free_behind entries k few past h = behind entries (left entries) k past (omega (arith, few, h))

front : (entries rest : List (Option FixEntry)) (k : ℕ) (x : Option FixEntry) → slice_get entries k ≡ Some x → slice_get (entries ++ rest) k ≡ Some x
front [] rest k x is = absurd (none-some x is)
front (y ∷ entries) rest zero x is = is
front (y ∷ entries) rest (suc k) x is = front entries rest k x is

-- each of these stands where it stood
pub entry_stays : (entries : List (Option FixEntry)) (k : ℕ) (x : Option FixEntry) → slice_get entries k ≡ Some x → slice_get (with_free_entries entries) k ≡ Some x
entry_stays entries k x is = front entries (free (left entries)) k x is

pub none_used : (n : ℕ) → count_by is_some (free n) ≡ 0
none_used zero = refl
none_used (suc n) = none_used n

-- no more are in use
pub used_all : (entries : List (Option FixEntry)) → count_by is_some (with_free_entries entries) ≡ count_by is_some entries
used_all entries =
    omega (arith, none_used (left entries), sum_by-append (λ (x : Option FixEntry). if is_some x then 1 else 0) entries (free (left entries)))

-- nor by one more that is free
pub used_more : (entries : List (Option FixEntry)) → count_by is_some (entries ++ None ∷ []) ≡ count_by is_some entries
used_more entries = omega (arith, sum_by-append (λ (x : Option FixEntry). if is_some x then 1 else 0) entries (free 1), none_used 1)

none_later : (a b n : ℕ) (latest : Option FixedDelay) → fold (later_fix a b) latest (free n) ≡ latest
none_later a b zero latest = refl
none_later a b (suc n) latest = none_later a b n latest

-- none of them fixes a link
pub latest_all : (a b : ℕ) (entries : List (Option FixEntry)) → latest_fix a b (with_free_entries entries) ≡ latest_fix a b entries
latest_all a b entries = fold-append (later_fix a b) None entries (free (left entries)) ∙ none_later a b (left entries) (latest_fix a b entries)

none_stamped : (stamp n : ℕ) → list_any (has_stamp stamp) (free n) ≡ false
none_stamped stamp zero = refl
none_stamped stamp (suc n) = none_stamped stamp n

-- none of them has a stamp
pub stamped_all : (stamp : ℕ) (entries : List (Option FixEntry)) → list_any (has_stamp stamp) (with_free_entries entries) ≡ list_any (has_stamp stamp) entries
stamped_all stamp entries =
    list_any-append (has_stamp stamp) entries (free (left entries))
    ∙ rw (none_stamped stamp (left entries)) (or-false (list_any (has_stamp stamp) entries))

-- what is written over one of these is written there
pub written_all : (entries : List (Option FixEntry)) (k : ℕ) (x : Option FixEntry) → k < length entries → set (with_free_entries entries) k x ≡ with_free_entries (set entries k x)
written_all entries k x there = set-append_left entries (free (left entries)) k x there ∙ rw (length-set entries k x) refl

-- the first free one behind these is one of them or not
pub one_more : (entries : List (Option FixEntry)) → length entries < 256 → with_free_entries (entries ++ None ∷ []) ≡ with_free_entries entries
one_more entries few =
    let n = left (entries ++ None ∷ []) in
    let long : left entries ≡ suc n = omega (arith, few, length-append entries (None ∷ [])) in
    append_assoc entries (None ∷ []) (free n) ∙ rw long refl

pub all_are_256 : (entries : List (Option FixEntry)) → length entries ≤ 256 → length (with_free_entries entries) ≡ 256
all_are_256 entries few = omega (arith, few, length-append entries (free (left entries)), length-replicate (left entries) (let none : Option FixEntry = None in none))
