-- Tallies of faults, before and after one of them is put or taken.
use Rattle.std.proofs.Common.{◌≡◌, ◌≢◌, ℕ, ◌+◌, ◌<◌, ◌≤◌, Bool, true, false, List, ◌∷◌, ◌++◌, length, get_or, set, refl, ◌∙◌, sym, arith, zero, suc, length-set, get_or-set_same, get_or-set_other}
use Rattle.std.specs.Prelude.{if◌then◌else◌, ◌==◌, ℤ, pos, ◌+ℤ◌, fold, is_some}
use Rattle.std.specs.List.{All, sum_by, count_by}
use Rattle.std.proofs.lemmas.Bool.{eqb-true, eq-eqb, ne_eqb, false≢true}
use Rattle.std.proofs.lemmas.Int.{ints}
use Rattle.jh_tables.specs.declared.counted.LinkTally.{LinkTally}
use Rattle.jh_tables.specs.declared.counted.NodeTally.{NodeTally}
use Rattle.jh_tables.specs.declared.changing.Change.{Change}
use Rattle.jh_tables.specs.Faults.{FaultValue, IsFault, FitsCount}
use Rattle.jh_tables.specs.Overlay.{cuts, delay_by, loss_by, pauses, kills, bump_by}
use Rattle.jh_tables.specs.Tallies.{Tallies}
use Rattle.jh_tables.specs.Standing.{AreTallies, IsLinkTally, IsNodeTally, is_fix, loses}
use Rattle.jh_tables.specs.ChangingInside.{AreChanged, link_changed, node_changed, losses_changed, changed_number, int_changed, one_if}
use Rattle.jh_tables.proofs.CountLemmas.{sum_by-middle, total-middle}
use Rattle.jh_tables.proofs.LevelLemmas.{loss_at_most}
use Rattle.jh_tables.proofs.MiddleLemmas.{all_with, all_without}

-- the faults before the change, and after it
abbrev pub faults_from : Change → List FaultValue → FaultValue → List FaultValue → List FaultValue
faults_from Change.Add before fault after = before ++ after
faults_from Change.Remove before fault after = before ++ fault ∷ after

abbrev pub faults_to : Change → List FaultValue → FaultValue → List FaultValue → List FaultValue
faults_to Change.Add before fault after = before ++ fault ∷ after
faults_to Change.Remove before fault after = before ++ after

module _ (before : List FaultValue) (fault : FaultValue) (after : List FaultValue) where
  -- a sum is changed as the faults are
  sum_changed : (change : Change) (g : FaultValue → ℕ) (number : ℕ) → number ≡ sum_by g (faults_from change before fault after)
      → changed_number change number (g fault) ≡ sum_by g (faults_to change before fault after)
  sum_changed Change.Add g number is = omega (arith, is, sum_by-middle g before after fault)
  sum_changed Change.Remove g number is = omega (arith, is, sum_by-middle g before after fault)

  count_changed : (change : Change) (p : FaultValue → Bool) (number : ℕ) → number ≡ count_by p (faults_from change before fault after)
      → changed_number change number (one_if (p fault)) ≡ count_by p (faults_to change before fault after)
  count_changed change p = sum_changed change (λ f. if p f then 1 else 0)

  total_changed : (change : Change) (g : FaultValue → ℤ) (z : ℤ) → z ≡ fold (λ a f. a +ℤ g f) (pos 0) (faults_from change before fault after)
      → int_changed change z (g fault) ≡ fold (λ a f. a +ℤ g f) (pos 0) (faults_to change before fault after)
  total_changed Change.Add g z is = omega (arith, ints, is, total-middle g before after fault)
  total_changed Change.Remove g z is = omega (arith, ints, is, total-middle g before after fault)

  all_changed : (change : Change) (P : FaultValue → Type 0) → P fault → All P (faults_from change before fault after) → All P (faults_to change before fault after)
  all_changed Change.Add P here all = all_with P before after fault here all
  all_changed Change.Remove P here all = all_without P before after fault all

pub changed_zero : (change : Change) (n : ℕ) → changed_number change n 0 ≡ n
changed_zero Change.Add n = omega arith
changed_zero Change.Remove n = omega arith

-- the count of each level, after that of one is changed
level_changed : (change : Change) (losses : List ℕ) (level i : ℕ) → length losses ≡ 20 → level ≤ 20 → i < 20
    → get_or (losses_changed change losses level) i 0 ≡ changed_number change (get_or losses i 0) (one_if (level == i + 1))
level_changed change losses zero i long most h =
    let none : (zero == i + 1) ≡ false = ne_eqb zero (i + 1) (λ e. omega (arith, e)) in
    rw none (sym (changed_zero change (get_or losses i 0)))
level_changed change losses (suc l) i long most h =
    let there : l < length losses = omega (arith, long, most) in
    elim (l == i) as (λ s. (l == i) ≡ s → get_or (set losses l (changed_number change (get_or losses l 0) 1)) i 0 ≡ changed_number change (get_or losses i 0) (one_if (suc l == i + 1))) [
      | true ↦ λ s.
          let same = eqb-true l i s in
          let this : (suc l == i + 1) ≡ true = eq-eqb (suc l) (i + 1) (omega (arith, same)) in
          rw (this, ← same) (get_or-set_same losses l (changed_number change (get_or losses l 0) 1) 0 there)
      | false ↦ λ s.
          let apart : i ≢ l = (λ e. false≢true (sym s ∙ eq-eqb l i (sym e))) in
          let other : (suc l == i + 1) ≡ false = ne_eqb (suc l) (i + 1) (λ e. apart (omega (arith, e))) in
          rw other (get_or-set_other losses l i (changed_number change (get_or losses l 0) 1) 0 apart ∙ sym (changed_zero change (get_or losses i 0)))
    ] refl

long_changed : (change : Change) (losses : List ℕ) (level : ℕ) → length (losses_changed change losses level) ≡ length losses
long_changed change losses zero = refl
long_changed change losses (suc l) = length-set losses l (changed_number change (get_or losses l 0) 1)

module _ (change : Change) (before : List FaultValue) (fault : FaultValue) (after : List FaultValue) (right : IsFault fault) where
  link_tally_changed : (a b : ℕ) (tally : LinkTally) → IsLinkTally a b (faults_from change before fault after) tally
      → IsLinkTally a b (faults_to change before fault after) (link_changed change fault a b tally)
  link_tally_changed a b tally is = record {
    cuts = count_changed before fault after change (cuts a b) tally.cuts is.cuts;
    slowed_ms = sum_changed before fault after change (delay_by a b) tally.slowed_ms is.slowed_ms;
    levels = long_changed change tally.losses (loss_by a b fault) ∙ is.levels;
    losses = λ i h. level_changed change tally.losses (loss_by a b fault) i is.levels (loss_at_most a b fault right) h
        ∙ count_changed before fault after change (loses a b (i + 1)) (get_or tally.losses i 0) (is.losses i h);
  }

  node_tally_changed : (a : ℕ) (tally : NodeTally) → IsNodeTally a (faults_from change before fault after) tally
      → IsNodeTally a (faults_to change before fault after) (node_changed change fault a tally)
  node_tally_changed a tally is = record {
    pauses = count_changed before fault after change (pauses a) tally.pauses is.pauses;
    kills = count_changed before fault after change (kills a) tally.kills is.kills;
    bumped_ms = total_changed before fault after change (bump_by a) tally.bumped_ms is.bumped_ms;
  }

  -- tallies are changed as the faults are
  pub tallies_changed : (old new : Tallies) → FitsCount (length old.nodes) fault → AreChanged change fault old new
      → count_by is_some new.fixes ≡ changed_number change (count_by is_some old.fixes) (one_if (is_fix fault))
      → AreTallies (length old.nodes) old (faults_from change before fault after) → AreTallies (length old.nodes) new (faults_to change before fault after)
  tallies_changed old new fits are entries is = record {
    right = all_changed before fault after change (λ f. IsFault f × FitsCount (length old.nodes) f) (right, fits) is.right;
    links = λ a b ha hb. rw (are.links a b ha hb) (link_tally_changed a b _ (is.links a b ha hb));
    nodes = λ a ha. rw (are.nodes a ha) (node_tally_changed a _ (is.nodes a ha));
    fixes = entries ∙ count_changed before fault after change is_fix (count_by is_some old.fixes) is.fixes;
  }
