-- Changing the tallies of links and nodes one by one.
use Rattle.std.proofs.Common.{◌≡◌, ◌≢◌, ℕ, ◌+◌, ◌*◌, ◌<◌, ◌≤◌, ◌^◌, true, false, List, length, get_or, set, take, refl, ap, ◌∙◌, sym, arith, subst, zero, suc, get_or-set_same, get_or-set_other, add-one}
use Rattle.std.specs.Prelude.{if◌then◌else◌, ◌||◌, ◌==◌, ℤ, pos, negsuc, ◌-◌, ◌+ℤ◌, ◌≤ℤ◌}
use Rattle.std.specs.List.{All, list_any}
use Rattle.std.proofs.Math.Bool.{or-false}
use Rattle.std.proofs.Math.IntN.{+ℤ_idr}
use Rattle.std.proofs.lemmas.Int.{ints}
use Rattle.std.proofs.lemmas.List.Sums.{fold_more}
use Rattle.std.proofs.lemmas.List.{take_all}
use Rattle.std.proofs.lemmas.Bool.{eqb-true, and_parts, or_right, eq-eqb, and_from, false≢true}
use Rattle.std.proofs.lemmas.List.Folds.{list_any_more, list_any_at}
use Rattle.std.proofs.lemmas.Nat.{same_from_place, mul-add-lt}
use Rattle.jh_tables.specs.declared.counted.LinkTally.{LinkTally}
use Rattle.jh_tables.specs.declared.counted.NodeTally.{NodeTally}
use Rattle.jh_tables.specs.declared.faults.LinkFault.{LinkFault}
use Rattle.jh_tables.specs.declared.changing.Change.{Change}
use Rattle.jh_tables.specs.declared.faults.NodeFault.{NodeFault}
use Rattle.jh_tables.specs.Faults.{names_link, names_node, is_same_link, is_same_node, AreApart, AreBumps}
use Rattle.jh_tables.specs.Faults.FaultValue.{Bump}
use Rattle.jh_tables.specs.Overlay.{bump_by}
use Rattle.jh_tables.specs.Tallies.{calm_tally, running_tally}
use Rattle.jh_tables.specs.Standing.{IsWithin}
use Rattle.jh_tables.specs.ChangingInside.{AreLinksChanged, AreNodesChanged, AreClocksChanged, CanChangeLink, CanChangeLinks, CanChangeNode, CanChangeNodes, named_link_changed, named_node_changed, int_changed}

-- a link that is not named keeps its tally
pub untouched : (change : Change) (fault : LinkFault) (links : List (ℕ × ℕ)) (n : ℕ) (old new : List LinkTally) (a b : ℕ)
    → AreLinksChanged change fault links n old new → a < n → b < n → names_link links a b ≡ false
    → get_or new (a * n + b) calm_tally ≡ get_or old (a * n + b) calm_tally
untouched change fault links n old new a b laid p q h = rw h at (laid a b p q)

-- one more of the links
pub links_more : (change : Change) (fault : LinkFault) (links : List (ℕ × ℕ)) (i n : ℕ) (old mid : List LinkTally) (x : ℕ × ℕ) (y : LinkTally)
    → i < length links → x ≡ get_or links i x → x.0 < n → x.1 < n → AreApart is_same_link links → length mid ≡ n * n
    → y ≡ named_link_changed change fault (get_or mid (x.0 * n + x.1) calm_tally)
    → AreLinksChanged change fault (take i links) n old mid → AreLinksChanged change fault (take (i + 1) links) n old (set mid (x.0 * n + x.1) y)
links_more change fault links i n old mid x y h is p q apart size val laid a b ha hb =
    rw (list_any_more (λ l. is_same_link l (a, b)) links i x h, ← is)
    (elim (is_same_link x (a, b)) as (λ s. is_same_link x (a, b) ≡ s → get_or (set mid (x.0 * n + x.1) y) (a * n + b) calm_tally
    ≡ (if names_link (take i links) a b || s then named_link_changed change fault (get_or old (a * n + b) calm_tally) else get_or old (a * n + b) calm_tally)) [
      | true ↦ λ s.
          let new : names_link (take i links) x.0 x.1 ≡ false = rw (← is) at (apart i x h) in
          let parts = and_parts (x.0 == a) (x.1 == b) s in
          let ea : x.0 ≡ a = eqb-true x.0 a parts.0 in
          let eb : x.1 ≡ b = eqb-true x.1 b parts.1 in
          let place : x.0 * n + x.1 < length mid = rw size (mul-add-lt x.0 n x.1 n p q) in
          let same : get_or mid (x.0 * n + x.1) calm_tally ≡ get_or old (x.0 * n + x.1) calm_tally = untouched change fault (take i links) n old mid x.0 x.1 laid p q new in
          rw (or_right (names_link (take i links) a b) true refl, ← ea, ← eb, get_or-set_same mid (x.0 * n + x.1) y calm_tally place, val, same) refl
      | false ↦ λ s.
          let other : a * n + b ≢ x.0 * n + x.1 = (λ e. let k = same_from_place a b x.0 x.1 n hb q e in
          false≢true (sym s ∙ and_from (x.0 == a) (x.1 == b) (eq-eqb x.0 a (sym k.0)) (eq-eqb x.1 b (sym k.1)))) in
          rw (or-false (names_link (take i links) a b), get_or-set_other mid (x.0 * n + x.1) (a * n + b) y calm_tally other) (laid a b ha hb)
    ] refl)

-- the next link's tally can be changed, since none before it is the same link
pub can_change_next : (change : Change) (fault : LinkFault) (links : List (ℕ × ℕ)) (i n : ℕ) (old mid : List LinkTally) (x : ℕ × ℕ)
    → i < length links → x ≡ get_or links i x → x.0 < n → x.1 < n → AreApart is_same_link links
    → AreLinksChanged change fault (take i links) n old mid → CanChangeLinks change fault links n old
    → CanChangeLink change fault (get_or mid (x.0 * n + x.1) calm_tally)
can_change_next change fault links i n old mid x h is p q apart laid room =
    let new : names_link (take i links) x.0 x.1 ≡ false = rw (← is) at (apart i x h) in
    let same = untouched change fault (take i links) n old mid x.0 x.1 laid p q new in
    let itself : is_same_link x (x.0, x.1) ≡ true = and_from (x.0 == x.0) (x.1 == x.1) (eq-eqb x.0 x.0 refl) (eq-eqb x.1 x.1 refl) in
    let named : names_link links x.0 x.1 ≡ true = list_any_at (λ l. is_same_link l (x.0, x.1)) links i x h (rw (← is) itself) in
    rw same (room x.0 x.1 p q named)

-- one more node's tally is written
node_more : (before after : ℕ → NodeTally → NodeTally) (old mid : List NodeTally) (k : ℕ) (y : NodeTally) → k < length old → length mid ≡ length old
    → ((a : ℕ) → a < length old → get_or mid a running_tally ≡ before a (get_or old a running_tally))
    → y ≡ after k (get_or old k running_tally) → ((a : ℕ) (n : NodeTally) → (k == a) ≡ false → after a n ≡ before a n)
    → (a : ℕ) → a < length old → get_or (set mid k y) a running_tally ≡ after a (get_or old a running_tally)
node_more before after old mid k y below size laid here others a ha =
    elim (k == a) as (λ s. (k == a) ≡ s → get_or (set mid k y) a running_tally ≡ after a (get_or old a running_tally)) [
      | true ↦ λ s.
          let place : k < length mid = rw size below in
          rw (← eqb-true k a s, get_or-set_same mid k y running_tally place) here
      | false ↦ λ s.
          let other : a ≢ k = (λ e. false≢true (sym s ∙ eq-eqb k a (sym e))) in
          rw (get_or-set_other mid k a y running_tally other, others a (get_or old a running_tally) s) (laid a ha)
    ] refl

-- one more of the nodes
pub nodes_more : (change : Change) (fault : NodeFault) (nodes : List ℕ) (i : ℕ) (old mid : List NodeTally) (x : ℕ) (y : NodeTally)
    → i < length nodes → x ≡ get_or nodes i x → x < length old → AreApart is_same_node nodes → length mid ≡ length old
    → y ≡ named_node_changed change fault (get_or mid x running_tally)
    → AreNodesChanged change fault (take i nodes) old mid → AreNodesChanged change fault (take (i + 1) nodes) old (set mid x y)
nodes_more change fault nodes i old mid x y h is below apart size val laid =
    let new : names_node (take i nodes) x ≡ false = rw (← is) at (apart i x h) in
    let one = (λ (a : ℕ). list_any_more (λ n. n == a) nodes i x h) in
    let same : get_or mid x running_tally ≡ get_or old x running_tally = rw new at (laid x below) in
    let added : names_node (take (i + 1) nodes) x ≡ true = one x ∙ rw (← is, eq-eqb x x refl) (or_right (names_node (take i nodes) x) true refl) in
    node_more
    (λ a n. if names_node (take i nodes) a then named_node_changed change fault n else n)
    (λ a n. if names_node (take (i + 1) nodes) a then named_node_changed change fault n else n)
    old mid x y below size laid (val ∙ rw (same, added) refl)
    (λ a n other. let e : names_node (take (i + 1) nodes) a ≡ names_node (take i nodes) a = one a ∙ rw (← is, other) (or-false (names_node (take i nodes) a)) in rw e refl)

-- the next node's tally can be changed, since none before it is the same node
pub can_change_next_node : (change : Change) (fault : NodeFault) (nodes : List ℕ) (i : ℕ) (old mid : List NodeTally) (x : ℕ)
    → i < length nodes → x ≡ get_or nodes i x → x < length old → AreApart is_same_node nodes
    → AreNodesChanged change fault (take i nodes) old mid → CanChangeNodes change fault nodes old → CanChangeNode change fault (get_or mid x running_tally)
can_change_next_node change fault nodes i old mid x h is below apart laid room =
    let new : names_node (take i nodes) x ≡ false = rw (← is) at (apart i x h) in
    let same : get_or mid x running_tally ≡ get_or old x running_tally = rw new at (laid x below) in
    let named : names_node nodes x ≡ true = list_any_at (λ n. n == x) nodes i x h (rw (← is) (eq-eqb x x refl)) in
    rw same (room x below named)

-- changing twice is changing by both amounts
pub changed_again : (change : Change) (z m n : ℤ) → int_changed change (int_changed change z m) n ≡ int_changed change z (m +ℤ n)
changed_again Change.Add z m n = omega (arith, ints)
changed_again Change.Remove z m n = omega (arith, ints)

pub changed_by_nothing : (change : Change) (z : ℤ) → int_changed change z (pos 0) ≡ z
changed_by_nothing Change.Add z = omega (arith, ints)
changed_by_nothing Change.Remove z = omega (arith, ints)

moved_more : (bumps : List (ℕ × ℤ)) (i : ℕ) (x : ℕ × ℤ) (a : ℕ) → i < length bumps → x ≡ get_or bumps i x
    → bump_by a (Bump (take (i + 1) bumps)) ≡ (bump_by a (Bump (take i bumps)) +ℤ (if x.0 == a then x.1 else pos 0))
moved_more bumps i x a h is = fold_more (λ z n. z +ℤ (if n.0 == a then n.1 else pos 0)) (pos 0) bumps i x h ∙ rw (← is) refl

-- one more of the bumps
pub bumps_more : (change : Change) (bumps : List (ℕ × ℤ)) (i : ℕ) (x : ℕ × ℤ) (old mid : List NodeTally) (y : NodeTally)
    → i < length bumps → x ≡ get_or bumps i x → x.0 < length old → length mid ≡ length old
    → y ≡ (let t = get_or mid x.0 running_tally in record t { bumped_ms = int_changed change t.bumped_ms x.1 })
    → AreClocksChanged change (take i bumps) old mid → AreClocksChanged change (take (i + 1) bumps) old (set mid x.0 y)
bumps_more change bumps i x old mid y h is below size val laid =
    node_more
    (λ a t. record t { bumped_ms = int_changed change t.bumped_ms (bump_by a (Bump (take i bumps))) })
    (λ a t. record t { bumped_ms = int_changed change t.bumped_ms (bump_by a (Bump (take (i + 1) bumps))) })
    old mid x.0 y below size laid
    (val ∙ rw (laid x.0 below, moved_more bumps i x x.0 h is, eq-eqb x.0 x.0 refl, changed_again change (get_or old x.0 running_tally).bumped_ms (bump_by x.0 (Bump (take i bumps))) x.1) refl)
    (λ a t other. rw (moved_more bumps i x a h is, other, +ℤ_idr (bump_by a (Bump (take i bumps)))) refl)

-- bumps of different nodes move a clock by at most one of them
moved_within : (bumps : List (ℕ × ℤ)) → AreBumps bumps → (a i : ℕ) → i ≤ length bumps
    → (list_any (λ b. b.0 == a) (take i bumps) ≡ false → bump_by a (Bump (take i bumps)) ≡ pos 0) × IsWithin (10 ^ 9) (bump_by a (Bump (take i bumps)))
moved_within bumps right a zero short = (λ _. refl, (omega (arith, ints), omega (arith, ints)))
moved_within bumps right a (suc i) short =
    let below : i < length bumps = omega arith in
    let d : ℕ × ℤ = (0, pos 0) in
    let x : ℕ × ℤ = get_or bumps i d in
    let before = moved_within bumps right a i (omega arith) in
    let one : take (suc i) bumps ≡ take (i + 1) bumps = ap (λ k. take k bumps) (sym (add-one i)) in
    let more = fold_more (λ z n. z +ℤ (if n.0 == a then n.1 else pos 0)) (pos 0) bumps i d below in
    let among = list_any_more (λ b. b.0 == a) bumps i d below in
    rw (one, more, among)
    (elim (x.0 == a) as (λ s. (x.0 == a) ≡ s
    → ((list_any (λ b. b.0 == a) (take i bumps) || s) ≡ false → (bump_by a (Bump (take i bumps)) +ℤ (if s then x.1 else pos 0)) ≡ pos 0)
    × IsWithin (10 ^ 9) (bump_by a (Bump (take i bumps)) +ℤ (if s then x.1 else pos 0))) [
      | true ↦ λ s.
          let new : list_any (λ b. b.0 == a) (take i bumps) ≡ false = rw (eqb-true x.0 a s) at (right.1 i d below) in
          let nothing = before.0 new in
          let amount = right.0 i d below in
          let least : negsuc (10 ^ 9 - 1) ≤ℤ x.1 = amount.1 in
          let most : x.1 ≤ℤ pos (10 ^ 9) = amount.2 in (
            λ none. absurd (false≢true (sym none ∙ or_right (list_any (λ b. b.0 == a) (take i bumps)) true refl)),
            rw nothing (omega (arith, ints, least), omega (arith, ints, most)),
          )
      | false ↦ λ s. rw (or-false (list_any (λ b. b.0 == a) (take i bumps)), +ℤ_idr (bump_by a (Bump (take i bumps)))) before
    ] refl)

-- the same, where all of them were changed
pub all_moved : (bumps : List (ℕ × ℤ)) → AreBumps bumps → (a : ℕ) → IsWithin (10 ^ 9) (bump_by a (Bump bumps))
all_moved bumps right a =
    let short : length bumps ≤ length bumps = omega arith in
    let all : take (length bumps) bumps ≡ bumps = take_all (length bumps) bumps short in
    subst (λ (some : List (ℕ × ℤ)). IsWithin (10 ^ 9) (bump_by a (Bump some))) all (moved_within bumps right a (length bumps) short).1

changed_within : (change : Change) (z m : ℤ) (most more : ℕ) → IsWithin most z → IsWithin more m → IsWithin (most + more) (int_changed change z m)
changed_within Change.Add z m most more h k = (omega (arith, ints, h.0, k.0), omega (arith, ints, h.1, k.1))
changed_within Change.Remove z m most more h k = (omega (arith, ints, h.0, k.1), omega (arith, ints, h.1, k.0))

-- the clock of the next node can be changed
pub bump_room : (change : Change) (bumps : List (ℕ × ℤ)) (i a : ℕ) (old mid : List NodeTally) → AreBumps bumps → i ≤ length bumps → a < length old
    → AreClocksChanged change (take i bumps) old mid → All (λ n. IsWithin (2 ^ 61) n.bumped_ms) old → IsWithin (2 ^ 62) (get_or mid a running_tally).bumped_ms
bump_room change bumps i a old mid right short below laid within =
    let w = changed_within change (get_or old a running_tally).bumped_ms (bump_by a (Bump (take i bumps))) (2 ^ 61) (10 ^ 9) (within a running_tally below) (moved_within bumps right a i short).1 in
    rw (laid a below) (omega (arith, ints, w.0), omega (arith, ints, w.1))
