-- What counts and sums of at most 256 faults leave room for.
use Rattle.std.proofs.Common.{◌≡◌, ℕ, ◌+◌, ◌*◌, ◌<◌, ◌≤◌, ◌^◌, Bool, true, false, List, [], ◌∷◌, ◌++◌, length, get_or, arith, length-append}
use Rattle.std.specs.Prelude.{if◌then◌else◌, ◌-◌, ℤ, pos, ◌+ℤ◌, fold}
use Rattle.std.specs.List.{All, sum_by, count_by}
use Rattle.std.proofs.lemmas.Int.{ints}
use Rattle.std.proofs.lemmas.Nat.{mul-le}
use Rattle.std.proofs.lemmas.List.Elements.{All-head, All-tail, All-weaker, All-from_get_or}
use Rattle.std.proofs.lemmas.List.Sums.{sum_by-le}
use Rattle.jh_tables.specs.declared.counted.NodeTally.{NodeTally}
use Rattle.jh_tables.specs.declared.changing.Change.{Change}
use Rattle.jh_tables.specs.Faults.{FaultValue, IsFault, names_link}
use Rattle.jh_tables.specs.Faults.FaultValue.{Cut, Slow, Loss, Fix, Pause, Kill, Bump}
use Rattle.jh_tables.specs.Overlay.{cuts, delay_by, pauses, kills, bump_by}
use Rattle.jh_tables.specs.Tallies.{Tallies, running_tally}
use Rattle.jh_tables.specs.Standing.{AreTallies, IsWithin, loses}
use Rattle.jh_tables.specs.ChangingInside.{CanChange, CanChangeTallies, one_if}
use Rattle.jh_tables.proofs.CountLemmas.{sum_by-middle}
use Rattle.jh_tables.proofs.TallyLemmas.{faults_from}
use Rattle.jh_tables.proofs.ChangingLemmas.{all_moved}

-- no fault slows a link by more than a minute
pub delay_at_most : (a b : ℕ) (fault : FaultValue) → IsFault fault → delay_by a b fault ≤ 60000
delay_at_most a b (Slow ms links) right = elim (names_link links a b) as (λ s. (if s then ms else 0) ≤ 60000) [
  | true ↦ right.0.1
  | false ↦ omega arith
]
delay_at_most a b (Cut links) right = omega arith
delay_at_most a b (Loss level links) right = omega arith
delay_at_most a b (Fix ms links) right = omega arith
delay_at_most a b (Pause nodes) right = omega arith
delay_at_most a b (Kill nodes) right = omega arith
delay_at_most a b (Bump bumps) right = omega arith

-- no fault moves a clock by more than 10^9 milliseconds
moved_at_most : (a : ℕ) (fault : FaultValue) → IsFault fault → IsWithin (10 ^ 9) (bump_by a fault)
moved_at_most a (Bump bumps) right = all_moved bumps right a
moved_at_most a (Cut links) right = (omega (arith, ints), omega (arith, ints))
moved_at_most a (Slow ms links) right = (omega (arith, ints), omega (arith, ints))
moved_at_most a (Loss level links) right = (omega (arith, ints), omega (arith, ints))
moved_at_most a (Fix ms links) right = (omega (arith, ints), omega (arith, ints))
moved_at_most a (Pause nodes) right = (omega (arith, ints), omega (arith, ints))
moved_at_most a (Kill nodes) right = (omega (arith, ints), omega (arith, ints))

-- nor do all of them together, but for their number
pub total_at_most : (a : ℕ) (faults : List FaultValue) (z : ℤ) (most : ℕ) → All IsFault faults → IsWithin most z
    → IsWithin (most + 10 ^ 9 * length faults) (fold (λ a' f. a' +ℤ bump_by a f) z faults)
total_at_most a [] z most right h = (omega (arith, ints, h.0), omega (arith, ints, h.1))
total_at_most a (f ∷ fs) z most right h =
    let one = moved_at_most a f (All-head IsFault f fs right) in
    let next : IsWithin (most + 10 ^ 9) (z +ℤ bump_by a f) = (omega (arith, ints, h.0, one.0), omega (arith, ints, h.1, one.1)) in
    let rest = total_at_most a fs (z +ℤ bump_by a f) (most + 10 ^ 9) (All-tail IsFault f fs right) next in
    (omega (arith, ints, rest.0), omega (arith, ints, rest.1))

one_at_most : (s : Bool) → one_if s ≤ 1
one_at_most true = omega arith
one_at_most false = omega arith

module _ (before : List FaultValue) (fault : FaultValue) (after : List FaultValue) where
  -- a number can be changed, where one fault counts for so little in it
  sum_room : (change : Change) (g : FaultValue → ℕ) (each most number : ℕ) → All (λ f. g f ≤ each) (faults_from change before fault after) → g fault ≤ each
      → length (before ++ after) < 256 → 256 * each ≤ most → number ≡ sum_by g (faults_from change before fault after) → CanChange change most number (g fault)
  sum_room Change.Add g each most number all one few room is =
      let bound = sum_by-le g each (before ++ after) all in
      let less : length (before ++ after) * each ≤ 255 * each = mul-le (length (before ++ after)) each 255 each (omega (arith, few)) (omega arith) in
      omega (arith, bound, less, one, room, is)
  sum_room Change.Remove g each most number all one few room is = omega (arith, is, sum_by-middle g before after fault)

  count_room : (change : Change) (p : FaultValue → Bool) (number : ℕ) → length (before ++ after) < 256
      → number ≡ count_by p (faults_from change before fault after) → CanChange change 65535 number (one_if (p fault))
  count_room change p number few is =
      sum_room change (λ f. if p f then 1 else 0) 1 65535 number (λ k d h. one_at_most (p (get_or (faults_from change before fault after) k d))) (one_at_most (p fault)) few (omega arith) is

  few_faults : (change : Change) → length (before ++ after) < 256 → length (faults_from change before fault after) ≤ 256
  few_faults Change.Add few = omega (arith, few)
  few_faults Change.Remove few = omega (arith, few, length-append before after, length-append before (fault ∷ after))

  -- tallies of few faults can be changed
  pub tallies_room : (change : Change) (t : Tallies) → length (before ++ after) < 256 → IsFault fault
      → AreTallies (length t.nodes) t (faults_from change before fault after) → CanChangeTallies change fault t
  tallies_room change t few right is =
      let all : All IsFault (faults_from change before fault after) = λ k d h. (is.right k d h).0 in
      record {
        links = λ a b ha hb. let tally = is.links a b ha hb in record {
          cuts = count_room change (cuts a b) _ few tally.cuts;
          slowed_ms = sum_room change (delay_by a b) 60000 (2 ^ 64 - 1) _
              (All-weaker IsFault (λ f. delay_by a b f ≤ 60000) (delay_at_most a b) (faults_from change before fault after) all)
              (delay_at_most a b fault right) few (omega arith) tally.slowed_ms;
          losses = λ i h. count_room change (loses a b (i + 1)) _ few (tally.losses i h);
        };
        pauses = λ a ha. count_room change (pauses a) _ few (is.nodes a ha).pauses;
        kills = λ a ha. count_room change (kills a) _ few (is.nodes a ha).kills;
        clocks = All-from_get_or (λ (n : NodeTally). IsWithin (2 ^ 61) n.bumped_ms) t.nodes running_tally (λ a ha.
            let zero : IsWithin 0 (pos 0) = (omega (arith, ints), omega (arith, ints)) in
            let total = total_at_most a (faults_from change before fault after) (pos 0) 0 all zero in
            let many = few_faults change few in
            rw (is.nodes a ha).bumped_ms (omega (arith, ints, total.0, many), omega (arith, ints, total.1, many)));
      }
