-- Ranks node by node, and what they tell of a grudge.
use Rattle.std.proofs.Common.{◌≡◌, ℕ, zero, suc, ◌+◌, ◌-◌, ◌<◌, ◌≤◌, Bool, true, not, List, [], ◌∷◌, ◌++◌, length, get_or, set, take, replicate, Option, Some, None, refl, sym, ap, subst, ◌∙◌, inl, inr, arith, eqb, ltb, ◌/◌, ◌%◌}
use Rattle.std.specs.Prelude.{◌↔◌, slice_get}
use Rattle.std.specs.List.{Contains}
use Rattle.std.proofs.lemmas.Bool.{cases_eq, cases_lt, eqb-false, not-true, ne_eqb, ltb-true, lt-ltb, le-ltb, cond-true, cond-false}
use Rattle.std.proofs.lemmas.List.{get_or-set_same, get_or-set_other, take_more, get_or_past, length-set, length-take, length-drop, get_or-take, get_or-drop}
use Rattle.std.proofs.lemmas.List.Elements.{Contains-append_left, Contains-push, Contains-push_cases}
use Rattle.std.proofs.lemmas.Option.{same_Some, none-some, slice_get_within}
use Rattle.jh_grudge.specs.Grudges.{IsIn, CompleteDrops, BridgeDrops, RingDrops, nodes_beyond_bridge, majority}
use Rattle.jh_grudge.specs.Lists.{AreDistinct, first_half}
use Rattle.jh_grudge.specs.Ranks.{rank_of, is_of_both, drops_by, drops_in}
use Rattle.jh_grudge.specs.declared.ranks.Rule.{Rule}
use Rattle.jh_grudge.specs.declared.ranks.Rule.TheVariants.{Apart, Ring}
use Rattle.jh_grudge.proofs.ListLemmas.{contains_none, contains_cases, one_place}
use Rattle.jh_grudge.proofs.AroundLemmas.{around}

-- ---- ranking node by node

-- these nodes have this rank, and all others what they had
pub record AreRanked (old new : List (Option ℕ)) (nodes : List ℕ) (rank : ℕ) : Type 0 where
  pub ranked : (node : ℕ) → Contains nodes node → rank_of new node ≡ Some rank
  pub others : (node : ℕ) → ¬ Contains nodes node → rank_of new node ≡ rank_of old node
  pub long : length new ≡ length old

ranked_push : (old new : List (Option ℕ)) (nodes : List ℕ) (rank a : ℕ) → a < length new → AreRanked old new nodes rank → AreRanked old (set new a (Some rank)) (nodes ++ a ∷ []) rank
ranked_push old new nodes rank a below are = record {
  ranked = λ node has. elim (cases_eq node a) [
    | inl same ↦ rw same (get_or-set_same new a (Some rank) None below)
    | inr apart ↦ get_or-set_other new a node (Some rank) None apart ∙ elim (Contains-push_cases nodes a node has) [ inl old_one ↦ are.ranked node old_one | inr same ↦ absurd (apart (sym same)) ]
  ];
  others = λ node lacks.
      get_or-set_other new a node (Some rank) None (λ same. lacks (subst (λ (n : ℕ). Contains (nodes ++ a ∷ []) n) (sym same) (Contains-push nodes a)))
      ∙ are.others node (λ has. lacks (Contains-append_left nodes (a ∷ []) node has));
  long = length-set new a (Some rank) ∙ are.long;
}

pub ranked_step : (old new : List (Option ℕ)) (nodes : List ℕ) (rank i a : ℕ) → i < length nodes → get_or nodes i 0 ≡ a → a < length new
    → AreRanked old new (take i nodes) rank → AreRanked old (set new a (Some rank)) (take (i + 1) nodes) rank
ranked_step old new nodes rank i a below is within are =
    subst (λ (xs : List ℕ). AreRanked old (set new a (Some rank)) xs rank) (sym (take_more nodes i 0 below ∙ ap (λ x. take i nodes ++ x ∷ []) is)) (ranked_push old new (take i nodes) rank a within are)

-- ---- rankings

-- just the nodes for which this holds have a rank, and this one
abbrev pub IsRanking : (ℕ → ℕ → Type 0) → List (Option ℕ) → Type 0
IsRanking Has ranks = (node rank : ℕ) → (rank_of ranks node ≡ Some rank) ↔ Has node rank

pub unranked : (n node : ℕ) → rank_of (replicate n None) node ≡ None
unranked zero node = refl
unranked (suc n) zero = refl
unranked (suc n) (suc node) = unranked n node

-- only a node of the table has a rank
pub ranked_below : (ranks : List (Option ℕ)) (node rank : ℕ) → rank_of ranks node ≡ Some rank → node < length ranks
ranked_below ranks node rank at =
    elim (cases_lt node (length ranks)) [
      | inl less ↦ less
      | inr more ↦ absurd (none-some rank (sym (get_or_past ranks node None more) ∙ at))
    ]

-- ---- tests of two ranks

both_parts : (test : ℕ → ℕ → Bool) (a b : Option ℕ) → is_of_both test a b ≡ true → (i : ℕ) × (j : ℕ) × (a ≡ Some i) × (b ≡ Some j) × (test i j ≡ true)
both_parts test (Some i) (Some j) passes = (i, j, refl, refl, passes)
both_parts test (Some i) None passes = cc
both_parts test None b passes = cc

-- a node that drops another has a rank, and so has the other
pub both_ranked : (rule : Rule) (ranks : List (Option ℕ)) (dst src : ℕ) → drops_in rule ranks dst src ≡ true
    → (i : ℕ) × (j : ℕ) × (rank_of ranks dst ≡ Some i) × (rank_of ranks src ≡ Some j) × (drops_by rule i j ≡ true)
both_ranked rule ranks dst src passes = both_parts (drops_by rule) (rank_of ranks dst) (rank_of ranks src) passes

pub drops_by_ranks : (rule : Rule) (ranks : List (Option ℕ)) (dst src i j : ℕ) → rank_of ranks dst ≡ Some i → rank_of ranks src ≡ Some j → drops_by rule i j ≡ true
    → drops_in rule ranks dst src ≡ true
drops_by_ranks rule ranks dst src i j to from passes = ap (λ o. is_of_both (drops_by rule) o (rank_of ranks src)) to ∙ ap (λ o. is_of_both (drops_by rule) (Some i) o) from ∙ passes

-- the nodes of a link have places in the table
pub src_below : (rule : Rule) (ranks : List (Option ℕ)) (dst src : ℕ) → drops_in rule ranks dst src ≡ true → src < length ranks
src_below rule ranks dst src passes = let (i, j, to, from, hit) = both_ranked rule ranks dst src passes in ranked_below ranks src j from

pub dst_below : (rule : Rule) (ranks : List (Option ℕ)) (dst src : ℕ) → drops_in rule ranks dst src ≡ true → dst < length ranks
dst_below rule ranks dst src passes = let (i, j, to, from, hit) = both_ranked rule ranks dst src passes in ranked_below ranks dst i to

-- ---- components

-- the components before a number are ranked by number
abbrev pub IsBelow : List (List ℕ) → ℕ → ℕ → ℕ → Type 0
IsBelow components n node rank = (rank < n) × IsIn components rank node

pub is_ranking_none : (components : List (List ℕ)) (n : ℕ) → IsRanking (IsBelow components 0) (replicate n None)
is_ranking_none components n node rank = ((λ at. absurd (none-some rank (sym (unranked n node) ∙ at))), (λ (less, has). absurd (omega arith)))

-- one more component, whose nodes are in no other
pub is_ranking_more : (components : List (List ℕ)) (n : ℕ) (old new : List (Option ℕ)) → ((i j node : ℕ) → IsIn components i node → IsIn components j node → i ≡ j)
    → ((node : ℕ) → Contains (get_or components n []) node → rank_of new node ≡ Some n)
    → ((node : ℕ) → ¬ Contains (get_or components n []) node → rank_of new node ≡ rank_of old node)
    → IsRanking (IsBelow components n) old → IsRanking (IsBelow components (n + 1)) new
is_ranking_more components n old new alone ranked others ranking node rank =
    elim (contains_cases (get_or components n []) node) [
      | inl has ↦ (
        (λ at. let same : n ≡ rank = same_Some n rank (sym (ranked node has) ∙ at) in (omega arith, subst (λ (r : ℕ). IsIn components r node) same has)),
        (λ (less, here). ranked node has ∙ ap Some (alone n rank node has here)),
      )
      | inr lacks ↦ (
        (λ at. let (less, here) = (ranking node rank).0 (sym (others node lacks) ∙ at) in (omega arith, here)),
        (λ (less, here). others node lacks ∙ elim (cases_lt rank n) [
          | inl before ↦ (ranking node rank).1 (before, here)
          | inr after ↦ absurd (lacks (subst (λ (r : ℕ). IsIn components r node) (let same : rank ≡ n = omega arith in same) here))
        ]),
      )
    ]

pub is_ranking_all : (components : List (List ℕ)) (n : ℕ) (ranks : List (Option ℕ)) → length components ≤ n → IsRanking (IsBelow components n) ranks → IsRanking (λ node rank. IsIn components rank node) ranks
is_ranking_all components n ranks all ranking node rank = (
  (λ at. ((ranking node rank).0 at).1),
  (λ here. (ranking node rank).1 (
    elim (cases_lt rank n) [
      | inl less ↦ less
      | inr more ↦ absurd (contains_none node (subst (λ (xs : List ℕ). Contains xs node) (get_or_past components rank [] (omega arith)) here))
    ],
    here,
  )),
)

-- what the rule of components tells
pub complete_there : (components : List (List ℕ)) (ranks : List (Option ℕ)) → IsRanking (λ node rank. IsIn components rank node) ranks
    → (dst src : ℕ) → drops_in Apart ranks dst src ≡ true → CompleteDrops components dst src
complete_there components ranks ranking dst src passes =
    let (i, j, to, from, hit) = both_ranked Apart ranks dst src passes in
    (i, j, (λ same. eqb-false i j (not-true (eqb i j) hit) same), (ranking dst i).0 to, (ranking src j).0 from)

pub complete_back : (components : List (List ℕ)) (ranks : List (Option ℕ)) → IsRanking (λ node rank. IsIn components rank node) ranks
    → (dst src : ℕ) → CompleteDrops components dst src → drops_in Apart ranks dst src ≡ true
complete_back components ranks ranking dst src (i, j, apart, to, from) =
    drops_by_ranks Apart ranks dst src i j ((ranking dst i).1 to) ((ranking src j).1 from) (ap not (ne_eqb i j apart))

-- ---- a bridge

-- a bridge is the complete grudge of its two sides
pub bridge_there : (nodes : List ℕ) (dst src : ℕ) → CompleteDrops (first_half nodes ∷ nodes_beyond_bridge nodes ∷ []) dst src → BridgeDrops nodes dst src
bridge_there nodes dst src (zero, zero, apart, to, from) = absurd (apart refl)
bridge_there nodes dst src (zero, suc zero, apart, to, from) = inl (to, from)
bridge_there nodes dst src (zero, suc (suc j), apart, to, from) = absurd (contains_none src from)
bridge_there nodes dst src (suc zero, zero, apart, to, from) = inr (to, from)
bridge_there nodes dst src (suc zero, suc zero, apart, to, from) = absurd (apart refl)
bridge_there nodes dst src (suc zero, suc (suc j), apart, to, from) = absurd (contains_none src from)
bridge_there nodes dst src (suc (suc i), j, apart, to, from) = absurd (contains_none dst to)

pub bridge_back : (nodes : List ℕ) (dst src : ℕ) → BridgeDrops nodes dst src → CompleteDrops (first_half nodes ∷ nodes_beyond_bridge nodes ∷ []) dst src
bridge_back nodes dst src (inl (to, from)) = (0, 1, (λ same. omega arith), to, from)
bridge_back nodes dst src (inr (to, from)) = (1, 0, (λ same. omega arith), to, from)

-- no node is on both sides
pub sides_apart : (nodes : List ℕ) (node : ℕ) → AreDistinct nodes → Contains (first_half nodes) node → Contains (nodes_beyond_bridge nodes) node → ⊥
sides_apart nodes node distinct (k, low, here) (l, high, there) =
    let h = length nodes / 2 in
    let short = length-take h nodes in
    let rest = length-drop (h + 1) nodes in
    distinct k (h + 1 + l) node (omega arith) (omega arith)
    (sym (get_or-take h nodes k node (omega arith)) ∙ here ∙ sym there ∙ get_or-drop (h + 1) nodes l node)

pub sides_alone : (nodes : List ℕ) → AreDistinct nodes → (i j node : ℕ) → IsIn (first_half nodes ∷ nodes_beyond_bridge nodes ∷ []) i node → IsIn (first_half nodes ∷ nodes_beyond_bridge nodes ∷ []) j node → i ≡ j
sides_alone nodes distinct zero zero node here there = refl
sides_alone nodes distinct zero (suc zero) node here there = absurd (sides_apart nodes node distinct here there)
sides_alone nodes distinct (suc zero) zero node here there = absurd (sides_apart nodes node distinct there here)
sides_alone nodes distinct (suc zero) (suc zero) node here there = refl
sides_alone nodes distinct i (suc (suc j)) node here there = absurd (contains_none node there)
sides_alone nodes distinct (suc (suc i)) j node here there = absurd (contains_none node here)

-- ---- a ring

-- the nodes before a place are ranked by their places
abbrev pub StandsBelow : List ℕ → ℕ → ℕ → ℕ → Type 0
StandsBelow nodes n node rank = (rank < n) × (slice_get nodes rank ≡ Some node)

pub is_placing_none : (nodes : List ℕ) (n : ℕ) → IsRanking (StandsBelow nodes 0) (replicate n None)
is_placing_none nodes n node rank = ((λ at. absurd (none-some rank (sym (unranked n node) ∙ at))), (λ (less, has). absurd (omega arith)))

pub is_placing_more : (nodes : List ℕ) (n a : ℕ) (ranks : List (Option ℕ)) → AreDistinct nodes → slice_get nodes n ≡ Some a → a < length ranks
    → IsRanking (StandsBelow nodes n) ranks → IsRanking (StandsBelow nodes (n + 1)) (set ranks a (Some n))
is_placing_more nodes n a ranks distinct at_n below ranking node rank =
    elim (cases_eq node a) [
      | inl same ↦ (
        (λ at. let here : n ≡ rank = same_Some n rank (sym (get_or-set_same ranks a (Some n) None below) ∙ ap (λ x. rank_of (set ranks a (Some n)) x) (sym same) ∙ at) in
            (omega arith, subst (λ (r : ℕ). slice_get nodes r ≡ Some node) here (at_n ∙ ap Some (sym same)))),
        (λ (less, at). ap (rank_of (set ranks a (Some n))) same ∙ get_or-set_same ranks a (Some n) None below ∙ ap Some (one_place nodes n rank node distinct (at_n ∙ ap Some (sym same)) at)),
      )
      | inr apart ↦ (
        (λ at. let (less, here) = (ranking node rank).0 (sym (get_or-set_other ranks a node (Some n) None apart) ∙ at) in (omega arith, here)),
        (λ (less, at). get_or-set_other ranks a node (Some n) None apart ∙ elim (cases_lt rank n) [
          | inl before ↦ (ranking node rank).1 (before, at)
          | inr after ↦ absurd (apart (same_Some node a (sym at ∙ ap (slice_get nodes) (let same : rank ≡ n = omega arith in same) ∙ at_n)))
        ]),
      )
    ]

-- the nodes are ranked by their places
abbrev pub StandsAt : List ℕ → ℕ → ℕ → Type 0
StandsAt nodes node rank = slice_get nodes rank ≡ Some node

pub is_placing_all : (nodes : List ℕ) (n : ℕ) (ranks : List (Option ℕ)) → length nodes ≤ n → IsRanking (StandsBelow nodes n) ranks → IsRanking (StandsAt nodes) ranks
is_placing_all nodes n ranks all ranking node rank = (
  (λ at. ((ranking node rank).0 at).1),
  (λ here. (ranking node rank).1 (let within = slice_get_within nodes rank node here in (omega arith, here))),
)

-- the rule of a ring: from the place of who drops, the other is at least a majority on
ring_far : (n i j : ℕ) → i < n → j < n → drops_by (Ring n) i j ≡ true → (k : ℕ) × (majority n ≤ k) × (k < n) × ((i + k) % n ≡ j)
ring_far n i j low high hit =
    elim (cases_lt j i) [
      | inl less ↦
          let few = ltb-true (i - j) (n - n / 2) (sym (cond-true (ltb j i) (ltb (i - j) (n - n / 2)) (ltb (n / 2) (j - i)) (lt-ltb j i less)) ∙ hit) in
          (j + n - i, omega arith, omega arith, elim (around n i (j + n - i) low (omega arith)) [ inl (a, e) ↦ e ∙ omega arith | inr (a, e) ↦ e ∙ omega arith ])
      | inr more ↦
          let many = ltb-true (n / 2) (j - i) (sym (cond-false (ltb j i) (ltb (i - j) (n - n / 2)) (ltb (n / 2) (j - i)) (le-ltb j i more)) ∙ hit) in
          (j - i, omega arith, omega arith, elim (around n i (j - i) low (omega arith)) [ inl (a, e) ↦ e ∙ omega arith | inr (a, e) ↦ e ∙ omega arith ])
    ]

ring_hit : (n i j k : ℕ) → i < n → j < n → majority n ≤ k → k < n → (i + k) % n ≡ j → drops_by (Ring n) i j ≡ true
ring_hit n i j k low high enough less at =
    elim (around n i k low less) [
      | inl (straight, e) ↦
          cond-false (ltb j i) (ltb (i - j) (n - n / 2)) (ltb (n / 2) (j - i)) (le-ltb j i (omega (arith, e, at))) ∙ lt-ltb (n / 2) (j - i) (omega (arith, e, at))
      | inr (turned, e) ↦
          cond-true (ltb j i) (ltb (i - j) (n - n / 2)) (ltb (n / 2) (j - i)) (lt-ltb j i (omega (arith, e, at))) ∙ lt-ltb (i - j) (n - n / 2) (omega (arith, e, at))
    ]

pub ring_there : (nodes : List ℕ) (ranks : List (Option ℕ)) → IsRanking (StandsAt nodes) ranks → (dst src : ℕ) → drops_in (Ring (length nodes)) ranks dst src ≡ true → RingDrops nodes dst src
ring_there nodes ranks ranking dst src passes =
    let (i, j, to, from, hit) = both_ranked (Ring (length nodes)) ranks dst src passes in
    let at_i = (ranking dst i).0 to in
    let at_j = (ranking src j).0 from in
    let (k, enough, less, at) = ring_far (length nodes) i j (slice_get_within nodes i dst at_i) (slice_get_within nodes j src at_j) hit in
    (i, k, at_i, enough, less, ap (slice_get nodes) at ∙ at_j)

pub ring_back : (nodes : List ℕ) (ranks : List (Option ℕ)) → IsRanking (StandsAt nodes) ranks → (dst src : ℕ) → RingDrops nodes dst src → drops_in (Ring (length nodes)) ranks dst src ≡ true
ring_back nodes ranks ranking dst src (i, k, at_i, enough, less, at_j) =
    let n = length nodes in
    let low = slice_get_within nodes i dst at_i in
    let high = slice_get_within nodes ((i + k) % n) src at_j in
    drops_by_ranks (Ring n) ranks dst src i ((i + k) % n) ((ranking dst i).1 at_i) ((ranking src ((i + k) % n)).1 at_j)
    (ring_hit n i ((i + k) % n) k low high enough less refl)

pub src_below_in : (rule : Rule) (ranks : List (Option ℕ)) (n : ℕ) → length ranks ≡ n → (dst src : ℕ) → drops_in rule ranks dst src ≡ true → src < n
src_below_in rule ranks n long dst src hit = let low = src_below rule ranks dst src hit in omega arith

-- ---- the two sides of a bridge, ranked in turn

pub sides_ranked : (nodes : List ℕ) (none first both : List (Option ℕ)) → AreDistinct nodes → IsRanking (IsBelow (first_half nodes ∷ nodes_beyond_bridge nodes ∷ []) 0) none
    → ((node : ℕ) → Contains (first_half nodes) node → rank_of first node ≡ Some 0) → ((node : ℕ) → ¬ Contains (first_half nodes) node → rank_of first node ≡ rank_of none node)
    → ((node : ℕ) → Contains (nodes_beyond_bridge nodes) node → rank_of both node ≡ Some 1) → ((node : ℕ) → ¬ Contains (nodes_beyond_bridge nodes) node → rank_of both node ≡ rank_of first node)
    → IsRanking (λ node rank. IsIn (first_half nodes ∷ nodes_beyond_bridge nodes ∷ []) rank node) both
sides_ranked nodes none first both distinct start at_first off_first at_beyond off_beyond =
    let sides = first_half nodes ∷ nodes_beyond_bridge nodes ∷ [] in
    is_ranking_all sides 2 both (omega arith)
    (is_ranking_more sides 1 first both (sides_alone nodes distinct) at_beyond off_beyond (is_ranking_more sides 0 none first (sides_alone nodes distinct) at_first off_first start))

-- what the rule of components tells of the two sides
pub bridge_there_in : (nodes : List ℕ) (ranks : List (Option ℕ)) → IsRanking (λ node rank. IsIn (first_half nodes ∷ nodes_beyond_bridge nodes ∷ []) rank node) ranks
    → (dst src : ℕ) → drops_in Apart ranks dst src ≡ true → BridgeDrops nodes dst src
bridge_there_in nodes ranks ranking dst src hit = bridge_there nodes dst src (complete_there (first_half nodes ∷ nodes_beyond_bridge nodes ∷ []) ranks ranking dst src hit)

pub bridge_back_in : (nodes : List ℕ) (ranks : List (Option ℕ)) → IsRanking (λ node rank. IsIn (first_half nodes ∷ nodes_beyond_bridge nodes ∷ []) rank node) ranks
    → (dst src : ℕ) → BridgeDrops nodes dst src → drops_in Apart ranks dst src ≡ true
bridge_back_in nodes ranks ranking dst src drops = complete_back (first_half nodes ∷ nodes_beyond_bridge nodes ∷ []) ranks ranking dst src (bridge_back nodes dst src drops)
