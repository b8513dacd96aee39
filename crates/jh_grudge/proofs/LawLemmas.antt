-- The laws of grudges.
use Rattle.std.proofs.Common.{◌≡◌, ◌≢◌, ℕ, ◌+◌, ◌-◌, ◌/◌, ◌%◌, ◌<◌, ◌≤◌, List, ◌++◌, length, get_or, take, drop, refl, sym, ap, ◌∙◌, inl, inr, arith, Some}
use Rattle.std.specs.Prelude.{slice_get}
use Rattle.std.specs.List.{Contains}
use Rattle.std.proofs.lemmas.Bool.{cases_eq, cases_lt}
use Rattle.std.proofs.lemmas.List.{length-take, length-drop, length-append, get_or-take, get_or-drop, get_or_append_left, get_or-append_right}
use Rattle.std.proofs.lemmas.Option.{slice_get_within, slice_get-get_or, get_or_from_slice_get, same_Some}
use Rattle.jh_grudge.specs.Lists.{AreDistinct, first_half}
use Rattle.jh_grudge.specs.Grudges.{RingDrops, nodes_beyond_bridge, majority}
use Rattle.jh_grudge.specs.Laws.{Sees, CompleteSeesItself, BridgeSeesItself, RingSeesItself, BridgeTalksToAll, RingSeesMajority, RingSightsDiffer}
use Rattle.jh_grudge.proofs.ListLemmas.{contains_at, place_of, one_place}
use Rattle.jh_grudge.proofs.AroundLemmas.{around, around_below, ahead, one_ahead}
use Rattle.jh_grudge.proofs.JoinLemmas.{complete_joins, bridge_joins, ring_joins}

pub complete_self : CompleteSeesItself
complete_self components node distinct drops = (complete_joins components distinct node node drops).apart refl

pub bridge_self : BridgeSeesItself
bridge_self nodes node distinct drops = (bridge_joins nodes distinct node node drops).apart refl

pub ring_self : RingSeesItself
ring_self nodes node distinct drops = (ring_joins nodes distinct node node drops).apart refl

-- ---- bridges

-- the bridge is on neither side
not_first : (nodes : List ℕ) (node : ℕ) → AreDistinct nodes → slice_get nodes (length nodes / 2) ≡ Some node → ¬ Contains (first_half nodes) node
not_first nodes node distinct at (k, below, is) =
    let h = length nodes / 2 in
    let short = length-take h nodes in
    distinct k h node (omega arith) (slice_get_within nodes h node at) (sym (get_or-take h nodes k node (omega arith)) ∙ is ∙ sym (get_or_from_slice_get nodes h node node at))

not_beyond : (nodes : List ℕ) (node : ℕ) → AreDistinct nodes → slice_get nodes (length nodes / 2) ≡ Some node → ¬ Contains (nodes_beyond_bridge nodes) node
not_beyond nodes node distinct at (k, below, is) =
    let h = length nodes / 2 in
    let rest = length-drop (h + 1) nodes in
    distinct h (h + 1 + k) node (omega arith) (omega arith) (get_or_from_slice_get nodes h node node at ∙ sym (sym (get_or-drop (h + 1) nodes k node) ∙ is))

pub bridge_talks : BridgeTalksToAll
bridge_talks nodes node other distinct at =
    let left = not_first nodes node distinct at in
    let right = not_beyond nodes node distinct at in (
      (λ drops. elim drops [ inl (to, from) ↦ left to | inr (to, from) ↦ right to ]),
      (λ drops. elim drops [ inl (to, from) ↦ right from | inr (to, from) ↦ left from ]),
    )

-- ---- rings

-- the list from a place on, around
rotated : ℕ → List ℕ → List ℕ
rotated i nodes = drop i nodes ++ take i nodes

length-rotated : (i : ℕ) (nodes : List ℕ) → i < length nodes → length (rotated i nodes) ≡ length nodes
unfolding rotated
length-rotated i nodes low =
    let a = length-append (drop i nodes) (take i nodes) in
    let b = length-drop i nodes in
    let c = length-take i nodes in
    omega arith

get_or-rotated : (i k d : ℕ) (nodes : List ℕ) → i < length nodes → k < length nodes → get_or (rotated i nodes) k d ≡ get_or nodes ((i + k) % length nodes) d
unfolding rotated
get_or-rotated i k d nodes low high =
    let n = length nodes in
    let b = length-drop i nodes in
    elim (around n i k low high) [
      | inl (straight, e) ↦ get_or_append_left (drop i nodes) (take i nodes) d k (omega arith) ∙ get_or-drop i nodes k d ∙ ap (λ p. get_or nodes p d) (sym e)
      | inr (turned, e) ↦
          get_or-append_right (drop i nodes) (take i nodes) (n - i) k d (omega arith) (omega arith) ∙ get_or-take (i) nodes (k - (n - i)) d (omega arith)
          ∙ ap (λ p. get_or nodes p d) (let back : k - (n - i) ≡ i + k - n = omega arith in back ∙ sym e)
    ]

-- what the node at a place sees
sight : ℕ → List ℕ → List ℕ
sight i nodes = take (majority (length nodes)) (rotated i nodes)

length-sight : (i : ℕ) (nodes : List ℕ) → i < length nodes → length (sight i nodes) ≡ majority (length nodes)
unfolding sight
length-sight i nodes low =
    let a = length-take (majority (length nodes)) (rotated i nodes) in
    let b = length-rotated i nodes low in
    omega arith

get_or-sight : (i k d : ℕ) (nodes : List ℕ) → i < length nodes → k < majority (length nodes) → get_or (sight i nodes) k d ≡ get_or nodes ((i + k) % length nodes) d
unfolding sight
get_or-sight i k d nodes low high =
    get_or-take (majority (length nodes)) (rotated i nodes) k d high ∙ get_or-rotated i k d nodes low (omega arith)

sight_distinct : (i : ℕ) (nodes : List ℕ) → AreDistinct nodes → i < length nodes → AreDistinct (sight i nodes)
sight_distinct i nodes distinct low k l d less below same =
    let n = length nodes in
    let long = length-sight i nodes low in
    let first = get_or-sight i k d nodes low (omega arith) in
    let second = get_or-sight i l d nodes low (omega arith) in
    let here = slice_get-get_or nodes ((i + k) % n) d (around_below n i k low) in
    let there = slice_get-get_or nodes ((i + l) % n) d (around_below n i l low) in
    let equal = one_place nodes ((i + k) % n) ((i + l) % n) (get_or nodes ((i + k) % n) d) distinct here (there ∙ ap Some (sym second ∙ sym same ∙ first)) in
    let apart : k ≡ l = one_ahead n i k l low (omega arith) (omega arith) equal in
    omega arith

sight_there : (i node other : ℕ) (nodes : List ℕ) → AreDistinct nodes → slice_get nodes i ≡ Some node → Contains (sight i nodes) other → Contains nodes other × Sees (RingDrops nodes) node other
sight_there i node other nodes distinct at (k, below, is) =
    let n = length nodes in
    let low = slice_get_within nodes i node at in
    let long = length-sight i nodes low in
    let here : slice_get nodes ((i + k) % n) ≡ Some other =
    slice_get-get_or nodes ((i + k) % n) other (around_below n i k low) ∙ ap Some (sym (get_or-sight i k other nodes low (omega arith)) ∙ is) in (
      contains_at nodes ((i + k) % n) other here,
      (λ (j, l, at_j, enough, less, there).
          let same : j ≡ i = one_place nodes j i node distinct at_j at in
          let equal : (i + k) % n ≡ (i + l) % n = one_place nodes ((i + k) % n) ((i + l) % n) other distinct here (ap (λ p. slice_get nodes ((p + l) % n)) (sym same) ∙ there) in
          let apart : k ≡ l = one_ahead n i k l low (omega arith) less equal in
          omega arith),
    )

sight_back : (i node other : ℕ) (nodes : List ℕ) → slice_get nodes i ≡ Some node → Contains nodes other → Sees (RingDrops nodes) node other → Contains (sight i nodes) other
sight_back i node other nodes at has sees =
    let n = length nodes in
    let low = slice_get_within nodes i node at in
    let long = length-sight i nodes low in
    let (j, high, at_j) = place_of nodes other has in
    let (k, less, round) = ahead n i j low high in
    elim (cases_lt k (majority n)) [
      | inl near ↦ (k, omega arith, get_or-sight i k other nodes low near ∙ get_or_from_slice_get nodes ((i + k) % n) other other (ap (slice_get nodes) round ∙ at_j))
      | inr far ↦ absurd (sees (i, k, at, far, less, ap (slice_get nodes) round ∙ at_j))
    ]

pub ring_majority : RingSeesMajority
ring_majority nodes node distinct has =
    let (i, low, at) = place_of nodes node has in
    let long = length-sight i nodes low in (
      sight i nodes,
      record {
        distinct = sight_distinct i nodes distinct low;
        exact = λ other. ((λ seen. sight_there i node other nodes distinct at seen), (λ (there, sees). sight_back i node other nodes at there sees));
      },
      omega arith,
    )

-- from i on by k is from j on by l, where j is from i on by e, and l goes around
same_round : (n i j e k l : ℕ) → i < n → j < n → e < n → k < n → l < n → k + n ≡ e + l → (i + e) % n ≡ j → (i + k) % n ≡ (j + l) % n
same_round n i j e k l low high first second third sum round =
    elim (around n i e low first) [
      | inl (a, f) ↦ elim (around n i k low second) [
        | inl (b, g) ↦ elim (around n j l high third) [ inl (c, h) ↦ omega (arith, round, f, g, h, sum) | inr (c, h) ↦ omega (arith, round, f, g, h, sum) ]
        | inr (b, g) ↦ elim (around n j l high third) [ inl (c, h) ↦ omega (arith, round, f, g, h, sum) | inr (c, h) ↦ omega (arith, round, f, g, h, sum) ]
      ]
      | inr (a, f) ↦ elim (around n i k low second) [
        | inl (b, g) ↦ elim (around n j l high third) [ inl (c, h) ↦ omega (arith, round, f, g, h, sum) | inr (c, h) ↦ omega (arith, round, f, g, h, sum) ]
        | inr (b, g) ↦ elim (around n j l high third) [ inl (c, h) ↦ omega (arith, round, f, g, h, sum) | inr (c, h) ↦ omega (arith, round, f, g, h, sum) ]
      ]
    ]

-- of two places of a ring, some place is near the first and far from the second
between : (n i j : ℕ) → 3 ≤ n → i < n → j < n → i ≢ j → (k : ℕ) × (l : ℕ) × (k < majority n) × (majority n ≤ l) × (l < n) × ((i + k) % n ≡ (j + l) % n)
between n i j many low high apart =
    let m = majority n in
    let (e, less, round) = ahead n i j low high in
    let some : 0 < e = elim (cases_eq e 0) [ inl none ↦ absurd (apart (elim (around n i e low less) [ inl (a, f) ↦ omega (arith, round, f) | inr (a, f) ↦ omega (arith, round, f) ])) | inr more ↦ omega arith ] in
    elim (cases_lt m e) [
      | inl long ↦ (e + m - n, m, omega arith, omega arith, omega arith, same_round n i j e (e + m - n) m low high less (omega arith) (omega arith) (omega arith) round)
      | inr short ↦ (e - 1, n - 1, omega arith, omega arith, omega arith, same_round n i j e (e - 1) (n - 1) low high less (omega arith) (omega arith) (omega arith) round)
    ]

pub sights_differ : RingSightsDiffer
sights_differ nodes a b distinct many has_a has_b apart =
    let n = length nodes in
    let (i, low, at_i) = place_of nodes a has_a in
    let (j, high, at_j) = place_of nodes b has_b in
    let (k, l, near, far, less, round) = between n i j many low high (λ same. apart (same_Some a b (sym at_i ∙ ap (slice_get nodes) same ∙ at_j))) in
    let other = get_or nodes ((i + k) % n) 0 in
    let here : slice_get nodes ((i + k) % n) ≡ Some other = slice_get-get_or nodes ((i + k) % n) 0 (around_below n i k low) in (
      other,
      contains_at nodes ((i + k) % n) other here,
      (λ (p, q, at_p, enough, short, there).
          let same : p ≡ i = one_place nodes p i a distinct at_p at_i in
          let equal : (i + k) % n ≡ (i + q) % n = one_place nodes ((i + k) % n) ((i + q) % n) other distinct here (ap (λ x. slice_get nodes ((x + q) % n)) (sym same) ∙ there) in
          let too : k ≡ q = one_ahead n i k q low (omega arith) short equal in
          omega arith),
      (j, l, at_j, far, less, ap (slice_get nodes) (sym round) ∙ here),
    )
