-- What the turns of a search keep.
use Rattle.std.proofs.Common.{◌≡◌, ℕ, zero, suc, ◌+◌, ◌-◌, ◌<◌, ◌≤◌, true, Option, Some, None, List, [], ◌∷◌, ◌++◌, length, get_or, refl, sym, ap, subst, ◌∙◌, inl, inr, arith}
use Rattle.std.specs.Prelude.{◌≢◌, slice_get, Vec, sum}
use Rattle.std.specs.declared.alloc.Global.{Global}
use Rattle.std.proofs.lemmas.Bool.{false≢true, cases_lt, cases_eq}
use Rattle.std.proofs.lemmas.List.{get_or-set_same, get_or-set_other, length-set, length-append, get_or_append_left, get_or_at}
use Rattle.std.proofs.lemmas.List.Sums.{sum_by-set}
use Rattle.std.proofs.lemmas.Option.{slice_get_within}
use Rattle.jh_txn.specs.declared.dependency.Step.{Step}
use Rattle.jh_txn.specs.Transactions.{includes, ComesBefore, HasNoRepeat}
use Rattle.jh_txn.specs.Cycles.{first_place}
use Rattle.jh_txn_graph.specs.Graphs.{steps_to, IsStepTo}
use Rattle.jh_txn_graph.specs.WalkInside.{AreLinked, IsLoop, KeepsSteps, IsCurrent, IsReturning, turns_at, one_fewer, HaveFewer, step_count, ComesFrom, IsWalkOf, top}
use Rattle.jh_txn.proofs.ListLemmas.{includes_left, includes_right, includes_cases, includes_head, one_is, before_left, before_across, before_itself, once_left, once_push, place_included, none_twice}

-- places of a list with none twice
pub stand_at : (xs : List ℕ) (i j : ℕ) → i < j → j < length xs → ComesBefore xs (get_or xs i 0) (get_or xs j 0)
stand_at [] i j before low = absurd (omega (arith, low))
stand_at (x ∷ xs) i zero before low = absurd (omega (arith, before))
stand_at (x ∷ xs) zero (suc j) before low = inl (refl, place_included xs j (omega (arith, low)))
stand_at (x ∷ xs) (suc i) (suc j) before low = inr (stand_at xs i j (omega (arith, before)) (omega (arith, low)))

pub apart_at : (xs : List ℕ) (i j : ℕ) → HasNoRepeat xs → i < j → j < length xs → get_or xs i 0 ≡ get_or xs j 0 → ⊥
apart_at xs i j once before low same = before_itself xs (get_or xs j 0) once (subst (λ x. ComesBefore xs x (get_or xs j 0)) same (stand_at xs i j before low))

pub top_has : (xs : List ℕ) → 0 < length xs → includes xs (top xs) ≡ true
top_has xs some = place_included xs (length xs - 1) (omega (arith, some))

pub top_push : (xs : List ℕ) (x : ℕ) → top (xs ++ x ∷ []) ≡ x
top_push xs x = get_or_at xs x [] 0 (length (xs ++ x ∷ []) - 1) (omega (arith, length-append xs (x ∷ [])))

-- One turn fewer.
module _ (left : List ℕ) (node : ℕ) (low : node < length left) where
  pub fewer_same : turns_at (one_fewer left node) node ≡ turns_at left node - 1
  fewer_same = get_or-set_same left node (turns_at left node - 1) 0 low

  pub fewer_other : (q : ℕ) → q ≢ node → turns_at (one_fewer left node) q ≡ turns_at left q
  fewer_other q other = get_or-set_other left node q (turns_at left node - 1) 0 other

  pub fewer_all : HaveFewer left (one_fewer left node)
  fewer_all q = elim (cases_eq q node) as (λ _. turns_at (one_fewer left node) q ≤ turns_at left q) [
    | inl same ↦ let e : turns_at (one_fewer left node) q ≡ turns_at left q - 1 = ap (turns_at (one_fewer left node)) same ∙ fewer_same ∙ ap (λ n. turns_at left n - 1) (sym same) in omega (arith, e)
    | inr other ↦ omega (arith, fewer_other q other)
  ]

pub sum_fewer : (left : List ℕ) (node : ℕ) → node < length left → 0 < turns_at left node → sum (one_fewer left node) < sum left
sum_fewer left node low some =
    let e : sum (one_fewer left node) + turns_at left node ≡ sum left + (turns_at left node - 1) = sum_by-set (λ n. n) left node (turns_at left node - 1) 0 low in
    omega (arith, e, some)

module _ (graph : List (Vec Step Global)) (left path done : List ℕ) (walk : IsWalkOf graph left path done) where
  -- of a node that keeps its turns, the step whose turn it is stays the same
  comes_kept : (new : List ℕ) (a b : ℕ) → turns_at new a ≡ turns_at left a → ComesFrom graph left a b → ComesFrom graph new a b
  comes_kept new a b same from = (from.0, (from.1.0, (let e : from.1.0 + turns_at new a ≡ step_count graph a + 1 = omega (arith, same, from.1.1) in e), from.1.2), from.2)

  module _ (node : ℕ) (there : node < length graph) (new : turns_at left node ≡ step_count graph node + 2) (link : 0 < length path → ComesFrom graph left (top path) node) where
    in_left : node < length left
    in_left = omega (arith, there, walk.count)

    now : turns_at (one_fewer left node) node ≡ step_count graph node + 1
    now = let e = fewer_same left node in_left in omega (arith, e, new)

    not_open : includes path node ≡ true → ⊥
    not_open h = let o = walk.on_path node h in absurd (omega (arith, o.2, new))

    other_if : (q : ℕ) → includes path q ≡ true → turns_at (one_fewer left node) q ≡ turns_at left q
    other_if q h = fewer_other left node in_left q (λ same. not_open (subst (λ z. includes path z ≡ true) same h))

    pub walk_entered : IsWalkOf graph (one_fewer left node) (path ++ node ∷ []) done
    walk_entered = record {
      count = length-set left node (turns_at left node - 1) ∙ walk.count;
      few = λ q low. elim (cases_eq q node) as (λ _. turns_at (one_fewer left node) q ≤ step_count graph q + 2) [
        | inl same ↦ subst (λ z. turns_at (one_fewer left node) z ≤ step_count graph z + 2) (sym same) (omega (arith, now))
        | inr other ↦ omega (arith, fewer_other left node in_left q other, walk.few q low)
      ];
      on_path = λ q h. elim (includes_cases path (node ∷ []) q h) as (λ _. (q < length graph) × (0 < turns_at (one_fewer left node) q) × (turns_at (one_fewer left node) q ≤ step_count graph q + 1)) [
        | inl before ↦ let o = walk.on_path q before in let e = other_if q before in (o.0, omega (arith, o.1, e), omega (arith, o.2, e))
        | inr last ↦ subst (λ z. (z < length graph) × (0 < turns_at (one_fewer left node) z) × (turns_at (one_fewer left node) z ≤ step_count graph z + 1)) (one_is node q last) (there, omega (arith, now), omega (arith, now))
      ];
      is_open = λ q low some few. elim (cases_eq q node) as (λ _. includes (path ++ node ∷ []) q ≡ true) [
        | inl same ↦ includes_right path (node ∷ []) q (subst (λ z. includes (node ∷ []) z ≡ true) (sym same) (includes_head node []))
        | inr other ↦ let e = fewer_other left node in_left q other in includes_left path (node ∷ []) q (walk.is_open q low (omega (arith, some, e)) (omega (arith, few, e)))
      ];
      in_done = λ q h. let d = walk.in_done q h in elim (cases_eq q node) as (λ _. (q < length graph) × (turns_at (one_fewer left node) q ≡ 0)) [
        | inl same ↦ let z : turns_at left node ≡ 0 = ap (turns_at left) (sym same) ∙ d.1 in absurd (omega (arith, z, new))
        | inr other ↦ (d.0, fewer_other left node in_left q other ∙ d.1)
      ];
      is_done = λ q low none. elim (cases_eq q node) as (λ _. includes done q ≡ true) [
        | inl same ↦ let z : turns_at (one_fewer left node) node ≡ 0 = ap (turns_at (one_fewer left node)) (sym same) ∙ none in absurd (omega (arith, z, now))
        | inr other ↦ walk.is_done q low (sym (fewer_other left node in_left q other) ∙ none)
      ];
      path_once = once_push path node walk.path_once not_open;
      done_once = walk.done_once;
      ordered = walk.ordered;
      looked_at = λ q k step h looked at. elim (includes_cases path (node ∷ []) q h) as (λ _. includes done step.place ≡ true) [
        | inl before ↦ let e = other_if q before in walk.looked_at q k step before (omega (arith, looked, e)) at
        | inr last ↦ let z : turns_at (one_fewer left node) q ≡ step_count graph q + 1 = subst (λ z. turns_at (one_fewer left node) z ≡ step_count graph z + 1) (one_is node q last) now in absurd (omega (arith, looked, z))
      ];
      linked = linked_more;
    } where
      linked_more : (i : ℕ) → i + 1 < length (path ++ node ∷ []) → ComesFrom graph (one_fewer left node) (get_or (path ++ node ∷ []) i 0) (get_or (path ++ node ∷ []) (i + 1) 0)
      linked_more i low =
          let size : length (path ++ node ∷ []) ≡ length path + 1 = length-append path (node ∷ []) in
          let here : i < length path = omega (arith, low, size) in
          let first : get_or (path ++ node ∷ []) i 0 ≡ get_or path i 0 = get_or_append_left path (node ∷ []) 0 i here in
          let kept : turns_at (one_fewer left node) (get_or path i 0) ≡ turns_at left (get_or path i 0) = other_if (get_or path i 0) (place_included path i here) in
          elim (cases_lt (i + 1) (length path)) as (λ _. ComesFrom graph (one_fewer left node) (get_or (path ++ node ∷ []) i 0) (get_or (path ++ node ∷ []) (i + 1) 0)) [
            | inl inside ↦
                let second : get_or (path ++ node ∷ []) (i + 1) 0 ≡ get_or path (i + 1) 0 = get_or_append_left path (node ∷ []) 0 (i + 1) inside in
                subst (λ a. ComesFrom graph (one_fewer left node) a (get_or (path ++ node ∷ []) (i + 1) 0)) (sym first)
                (subst (λ b. ComesFrom graph (one_fewer left node) (get_or path i 0) b) (sym second) (comes_kept (one_fewer left node) (get_or path i 0) (get_or path (i + 1) 0) kept (walk.linked i inside)))
            | inr ends ↦
                let at_end : length path ≡ i + 1 = omega (arith, ends, here) in
                let second : get_or (path ++ node ∷ []) (i + 1) 0 ≡ node = get_or_at path node [] 0 (i + 1) at_end in
                let is_top : top path ≡ get_or path i 0 = ap (λ n. get_or path n 0) (let e : length path - 1 ≡ i = omega (arith, at_end) in e) in
                subst (λ a. ComesFrom graph (one_fewer left node) a (get_or (path ++ node ∷ []) (i + 1) 0)) (sym first)
                (subst (λ b. ComesFrom graph (one_fewer left node) (get_or path i 0) b) (sym second)
                (comes_kept (one_fewer left node) (get_or path i 0) node kept (subst (λ a. ComesFrom graph left a node) is_top (link (omega (arith, here))))))
          ]

  -- the last node's step comes from one that is done
  module _ (some : 0 < length path) (k : ℕ) (step : Step) (its_turn : k + turns_at left (top path) ≡ step_count graph (top path) + 1) (at : slice_get (steps_to graph (top path)) k ≡ Some step) (finished : includes done step.place ≡ true) where
    last_open : (top path < length graph) × (0 < turns_at left (top path)) × (turns_at left (top path) ≤ step_count graph (top path) + 1)
    last_open = walk.on_path (top path) (top_has path some)

    last_in : top path < length left
    last_in = omega (arith, last_open.0, walk.count)

    inside : k < step_count graph (top path)
    inside = slice_get_within (steps_to graph (top path)) k step at

    now_passed : turns_at (one_fewer left (top path)) (top path) + 1 ≡ turns_at left (top path)
    now_passed = let e = fewer_same left (top path) last_in in omega (arith, e, inside, its_turn)

    at_least : 0 < turns_at (one_fewer left (top path)) (top path)
    at_least = omega (arith, now_passed, inside, its_turn)

    pub walk_passed : IsWalkOf graph (one_fewer left (top path)) path done
    walk_passed = record {
      count = length-set left (top path) (turns_at left (top path) - 1) ∙ walk.count;
      few = λ q low. omega (arith, fewer_all left (top path) last_in q, walk.few q low);
      on_path = λ q h. let o = walk.on_path q h in elim (cases_eq q (top path)) as (λ _. (q < length graph) × (0 < turns_at (one_fewer left (top path)) q) × (turns_at (one_fewer left (top path)) q ≤ step_count graph q + 1)) [
        | inl same ↦ (o.0, subst (λ z. 0 < turns_at (one_fewer left (top path)) z) (sym same) at_least, omega (arith, fewer_all left (top path) last_in q, o.2))
        | inr other ↦ let e = fewer_other left (top path) last_in q other in (o.0, omega (arith, o.1, e), omega (arith, o.2, e))
      ];
      is_open = λ q low more few. elim (cases_eq q (top path)) as (λ _. includes path q ≡ true) [
        | inl same ↦ subst (λ z. includes path z ≡ true) (sym same) (top_has path some)
        | inr other ↦ let e = fewer_other left (top path) last_in q other in walk.is_open q low (omega (arith, more, e)) (omega (arith, few, e))
      ];
      in_done = λ q h. let d = walk.in_done q h in (d.0, (let e : turns_at (one_fewer left (top path)) q ≡ 0 = omega (arith, d.1, fewer_all left (top path) last_in q) in e));
      is_done = λ q low none. elim (cases_eq q (top path)) as (λ _. includes done q ≡ true) [
        | inl same ↦ let z : turns_at (one_fewer left (top path)) (top path) ≡ 0 = ap (turns_at (one_fewer left (top path))) (sym same) ∙ none in absurd (omega (arith, z, at_least))
        | inr other ↦ walk.is_done q low (sym (fewer_other left (top path) last_in q other) ∙ none)
      ];
      path_once = walk.path_once;
      done_once = walk.done_once;
      ordered = walk.ordered;
      looked_at = look;
      linked = λ i low. comes_kept (one_fewer left (top path)) (get_or path i 0) (get_or path (i + 1) 0) (fewer_other left (top path) last_in (get_or path i 0) (not_last i low)) (walk.linked i low);
    } where
      not_last : (i : ℕ) → i + 1 < length path → get_or path i 0 ≢ top path
      not_last i low same = apart_at path i (length path - 1) walk.path_once (omega (arith, low)) (omega (arith, some)) same

      look : (q j : ℕ) (other : Step) → includes path q ≡ true → j + turns_at (one_fewer left (top path)) q < step_count graph q + 1 → slice_get (steps_to graph q) j ≡ Some other → includes done other.place ≡ true
      look q j other h looked there = elim (cases_eq q (top path)) as (λ _. includes done other.place ≡ true) [
        | inl same ↦
            let looked' : j + turns_at (one_fewer left (top path)) (top path) < step_count graph (top path) + 1 = subst (λ z. j + turns_at (one_fewer left (top path)) z < step_count graph z + 1) same looked in
            let there' : slice_get (steps_to graph (top path)) j ≡ Some other = subst (λ z. slice_get (steps_to graph z) j ≡ Some other) same there in
            elim (cases_lt j k) as (λ _. includes done other.place ≡ true) [
              | inl before ↦ walk.looked_at (top path) j other (top_has path some) (omega (arith, before, its_turn)) there'
              | inr not_before ↦
                  let here : j ≡ k = omega (arith, not_before, looked', now_passed, its_turn) in
                  let both : Some other ≡ Some step = sym there' ∙ ap (slice_get (steps_to graph (top path))) here ∙ at in
                  let is : other ≡ step = cc in
                  subst (λ s. includes done s.place ≡ true) (sym is) finished
            ]
        | inr different ↦ walk.looked_at q j other h (omega (arith, looked, fewer_other left (top path) last_in q different)) there
      ]

  -- the last node includes looked at all its steps
  module _ (node : ℕ) (rest : List ℕ) (cut : path ≡ rest ++ node ∷ []) (over : turns_at left node ≡ 1) where
    node_in : node < length graph
    node_in = (walk.on_path node (subst (λ xs. includes xs node ≡ true) (sym cut) (includes_right rest (node ∷ []) node (includes_head node [])))).0

    node_low : node < length left
    node_low = omega (arith, node_in, walk.count)

    none_left : turns_at (one_fewer left node) node ≡ 0
    none_left = let e = fewer_same left node node_low in (let z : turns_at (one_fewer left node) node ≡ 0 = omega (arith, e, over) in z)

    on_whole : (q : ℕ) → includes rest q ≡ true → includes path q ≡ true
    on_whole q h = subst (λ xs. includes xs q ≡ true) (sym cut) (includes_left rest (node ∷ []) q h)

    not_node : (q : ℕ) → includes rest q ≡ true → q ≢ node
    not_node q h same = before_itself path node walk.path_once (subst (λ xs. ComesBefore xs node node) (sym cut) (before_across rest (node ∷ []) node node (subst (λ z. includes rest z ≡ true) same h) (includes_head node [])))

    same_on : (q : ℕ) → includes rest q ≡ true → turns_at (one_fewer left node) q ≡ turns_at left q
    same_on q h = fewer_other left node node_low q (not_node q h)

    pub walk_left : IsWalkOf graph (one_fewer left node) rest (done ++ node ∷ [])
    walk_left = record {
      count = length-set left node (turns_at left node - 1) ∙ walk.count;
      few = λ q low. omega (arith, fewer_all left node node_low q, walk.few q low);
      on_path = λ q h. let o = walk.on_path q (on_whole q h) in let e = same_on q h in (o.0, omega (arith, o.1, e), omega (arith, o.2, e));
      is_open = λ q low more few. elim (cases_eq q node) as (λ _. includes rest q ≡ true) [
        | inl same ↦ let z : turns_at (one_fewer left node) q ≡ 0 = ap (turns_at (one_fewer left node)) same ∙ none_left in absurd (omega (arith, z, more))
        | inr other ↦
            let e = fewer_other left node node_low q other in
            elim (includes_cases rest (node ∷ []) q (subst (λ xs. includes xs q ≡ true) cut (walk.is_open q low (omega (arith, more, e)) (omega (arith, few, e))))) as (λ _. includes rest q ≡ true) [
              | inl there ↦ there
              | inr last ↦ absurd (other (sym (one_is node q last)))
            ]
      ];
      in_done = λ q h. elim (includes_cases done (node ∷ []) q h) as (λ _. (q < length graph) × (turns_at (one_fewer left node) q ≡ 0)) [
        | inl before ↦ let d = walk.in_done q before in (d.0, (let e : turns_at (one_fewer left node) q ≡ 0 = omega (arith, d.1, fewer_all left node node_low q) in e))
        | inr last ↦ subst (λ z. (z < length graph) × (turns_at (one_fewer left node) z ≡ 0)) (one_is node q last) (node_in, none_left)
      ];
      is_done = λ q low none. elim (cases_eq q node) as (λ _. includes (done ++ node ∷ []) q ≡ true) [
        | inl same ↦ includes_right done (node ∷ []) q (subst (λ z. includes (node ∷ []) z ≡ true) (sym same) (includes_head node []))
        | inr other ↦ includes_left done (node ∷ []) q (walk.is_done q low (sym (fewer_other left node node_low q other) ∙ none))
      ];
      path_once = once_left rest (node ∷ []) (subst HasNoRepeat cut walk.path_once);
      done_once = once_push done node walk.done_once (λ h. let d = walk.in_done node h in absurd (omega (arith, d.1, over)));
      ordered = order_more;
      looked_at = λ q k step h looked at. includes_left done (node ∷ []) step.place (walk.looked_at q k step (on_whole q h) (omega (arith, looked, same_on q h)) at);
      linked = linked_less;
    } where
      order_more : (step : Step) (q : ℕ) → includes (done ++ node ∷ []) q ≡ true → IsStepTo graph step q → ComesBefore (done ++ node ∷ []) step.place q
      order_more step q h edge = elim (includes_cases done (node ∷ []) q h) as (λ _. ComesBefore (done ++ node ∷ []) step.place q) [
        | inl before ↦ before_left done (node ∷ []) step.place q (walk.ordered step q before edge)
        | inr last ↦
            let is : node ≡ q = one_is node q last in
            let at : slice_get (steps_to graph node) edge.0 ≡ Some step = subst (λ z. slice_get (steps_to graph z) edge.0 ≡ Some step) (sym is) edge.1 in
            let low : edge.0 < step_count graph node = slice_get_within (steps_to graph node) edge.0 step at in
            let on : includes path node ≡ true = subst (λ xs. includes xs node ≡ true) (sym cut) (includes_right rest (node ∷ []) node (includes_head node [])) in
            before_across done (node ∷ []) step.place q (walk.looked_at node edge.0 step on (omega (arith, low, over)) at) last
      ]

      linked_less : (i : ℕ) → i + 1 < length rest → ComesFrom graph (one_fewer left node) (get_or rest i 0) (get_or rest (i + 1) 0)
      linked_less i low =
          let size : length path ≡ length rest + 1 = ap length cut ∙ length-append rest (node ∷ []) in
          let first : get_or path i 0 ≡ get_or rest i 0 = ap (λ xs. get_or xs i 0) cut ∙ get_or_append_left rest (node ∷ []) 0 i (omega (arith, low)) in
          let second : get_or path (i + 1) 0 ≡ get_or rest (i + 1) 0 = ap (λ xs. get_or xs (i + 1) 0) cut ∙ get_or_append_left rest (node ∷ []) 0 (i + 1) low in
          let old : ComesFrom graph left (get_or rest i 0) (get_or rest (i + 1) 0) = subst (λ a. ComesFrom graph left a (get_or rest (i + 1) 0)) first (subst (λ b. ComesFrom graph left (get_or path i 0) b) second (walk.linked i (omega (arith, low, size)))) in
          comes_kept (one_fewer left node) (get_or rest i 0) (get_or rest (i + 1) 0) (same_on (get_or rest i 0) (place_included rest i (omega (arith, low)))) old

  -- a node that is neither done nor new is on the path
  pub met_on_path : (place : ℕ) → place < length graph → 0 < turns_at left place → (turns_at left place ≡ step_count graph place + 2 → ⊥) → includes path place ≡ true
  met_on_path place low not_done not_new = walk.is_open place low not_done (omega (arith, walk.few place low, apart_from (turns_at left place) (step_count graph place + 2) not_new (walk.few place low))) where
    apart_from : (m n : ℕ) → (m ≡ n → ⊥) → m ≤ n → m < n
    apart_from m n h le = elim (cases_lt m n) as (λ _. m < n) [ inl lt ↦ lt | inr ge ↦ absurd (h (omega (arith, le, ge))) ]

  pub new_if : (node : ℕ) → node < length graph → path ≡ [] → 0 < turns_at left node → turns_at left node ≡ step_count graph node + 2
  new_if node low empty not_done = elim (cases_eq (turns_at left node) (step_count graph node + 2)) as (λ _. turns_at left node ≡ step_count graph node + 2) [
    | inl e ↦ e
    | inr ne ↦ absurd (false≢true (ap (λ xs. includes xs node) (sym empty) ∙ met_on_path node low not_done ne))
  ]

  -- where the path is empty, a node that is not new is done
  pub done_if : (node : ℕ) → node < length graph → path ≡ [] → turns_at left node ≤ step_count graph node + 1 → turns_at left node ≡ 0
  done_if node low empty few = elim (cases_lt 0 (turns_at left node)) as (λ _. turns_at left node ≡ 0) [
    | inl some ↦ absurd (false≢true (ap (λ xs. includes xs node) (sym empty) ∙ walk.is_open node low some few))
    | inr none ↦ omega (arith, none)
  ]

  pub order_found : path ≡ [] → ((node : ℕ) → node < length graph → turns_at left node ≡ 0) → KeepsSteps graph done
  order_found empty finished = record {
    distinct = walk.done_once;
    nodes = λ node h. (walk.in_done node h).0;
    whole = λ node low. walk.is_done node low (finished node low);
    forwards = forwards;
  } where
    forwards : (step : Step) (node : ℕ) → IsStepTo graph step node → ComesBefore done step.place node
    forwards step node edge = walk.ordered step node (walk.is_done node (edge_low step node edge) (finished node (edge_low step node edge))) edge where
      edge_low : (step : Step) (node : ℕ) → IsStepTo graph step node → node < length graph
      edge_low step node edge = row_low graph node edge.0 step edge.1 where
        row_low : (g : List (Vec Step Global)) (n k : ℕ) (s : Step) → slice_get (steps_to g n) k ≡ Some s → n < length g
        row_low [] n k s h = absurd (let bad : ◌≡◌ {A = Option Step} None (Some s) = h in cc)
        row_low (row ∷ g) zero k s h = omega arith
        row_low (row ∷ g) (suc n) k s h = omega (arith, row_low g n k s h)

pub walk_begun : (graph : List (Vec Step Global)) (left : List ℕ) → length left ≡ length graph → ((k : ℕ) → k < length graph → get_or left k 0 ≡ step_count graph k + 2) → IsWalkOf graph left [] []
walk_begun graph left count new = record {
  count = count;
  few = λ q low. omega (arith, new q low);
  on_path = λ q h. absurd (false≢true h);
  is_open = λ q low some few. absurd (omega (arith, new q low, few));
  in_done = λ q h. absurd (false≢true h);
  is_done = λ q low none. absurd (omega (arith, new q low, none));
  path_once = none_twice;
  done_once = none_twice;
  ordered = λ step q h edge. absurd (false≢true h);
  looked_at = λ q k step h looked at. absurd (false≢true h);
  linked = λ i low. absurd (omega (arith, low));
}

-- The steps of a cycle.

pub linked_push : (graph : List (Vec Step Global)) (steps : List Step) (step : Step) (last next : ℕ) → AreLinked graph steps last → step.place ≡ last → IsStepTo graph step next → AreLinked graph (steps ++ step ∷ []) next
linked_push graph [] step last next linked is edge = (edge, tt)
linked_push graph (first ∷ steps) step last next linked is edge = (subst (λ p. IsStepTo graph first p) (same_first steps) linked.0, linked_push graph steps step last next linked.1 is edge) where
  same_first : (others : List Step) → first_place others last ≡ first_place (others ++ step ∷ []) next
  same_first [] = sym is
  same_first (other ∷ others) = refl

pub first_push : (steps : List Step) (step : Step) (last next : ℕ) → step.place ≡ last → first_place (steps ++ step ∷ []) next ≡ first_place steps last
first_push [] step last next is = is
first_push (first ∷ steps) step last next is = refl

pub loop_if : (graph : List (Vec Step Global)) (steps : List Step) (place : ℕ) → 0 < length steps → AreLinked graph steps place → first_place steps place ≡ place → IsLoop graph steps
loop_if graph [] place some linked first = absurd (omega (arith, some))
loop_if graph (step ∷ steps) place some linked first = subst (λ p. AreLinked graph (step ∷ steps) p) (sym first) linked

pub same_walk : (graph : List (Vec Step Global)) (left path done left' path' done' : List ℕ) → left' ≡ left → path' ≡ path → done' ≡ done → IsWalkOf graph left path done → IsWalkOf graph left' path' done'
same_walk graph left path done left' path' done' l p d walk =
    subst (λ xs. IsWalkOf graph xs path' done') (sym l) (subst (λ xs. IsWalkOf graph left xs done') (sym p) (subst (λ xs. IsWalkOf graph left path xs) (sym d) walk))

pub same_turns : (graph : List (Vec Step Global)) (left path : List ℕ) (steps : List Step) (place : ℕ) (done : List ℕ) → IsWalkOf graph left path done → includes path place ≡ true → ComesFrom graph left (top path) place → IsReturning graph left path [] place
same_turns graph left path steps place done walk there comes = record {
  count = walk.count;
  on_path = walk.on_path;
  linked = walk.linked;
  there = there;
  next = place;
  joined = tt;
  begun = refl;
  comes = comes;
}

module _ (graph : List (Vec Step Global)) (left path : List ℕ) (steps : List Step) (place : ℕ) (back : IsReturning graph left path steps place) (rest : List ℕ) (node : ℕ) (cut : path ≡ rest ++ node ∷ []) where
  is_top : top path ≡ node
  is_top = ap top cut ∙ top_push rest node

  comes_here : ComesFrom graph left node back.next
  comes_here = subst (λ z. ComesFrom graph left z back.next) is_top back.comes

  pub node_on : (node < length graph) × (0 < turns_at left node) × (turns_at left node ≤ step_count graph node + 1)
  node_on = back.on_path node (subst (λ xs. includes xs node ≡ true) (sym cut) (includes_right rest (node ∷ []) node (includes_head node [])))

  pub not_over : turns_at left node ≡ 1 → ⊥
  not_over over = let c = comes_here in absurd (omega (arith, over, c.1.1, slice_get_within (steps_to graph node) c.1.0 c.0 c.1.2))

  module _ (step : Step) (current : IsCurrent graph left node step) where
    from_next : step.place ≡ back.next
    from_next =
        let c = comes_here in
        let same : current.0 ≡ c.1.0 = omega (arith, current.1, c.1.1) in
        let both : Some step ≡ Some c.0 = sym current.2 ∙ ap (slice_get (steps_to graph node)) same ∙ c.1.2 in
        let is : step ≡ c.0 = cc in
        ap (λ s. s.place) is ∙ c.2

    joined_more : AreLinked graph (steps ++ step ∷ []) node
    joined_more = linked_push graph steps step back.next node back.joined from_next (current.0, current.2)

    begun_more : first_place (steps ++ step ∷ []) node ≡ place
    begun_more = first_push steps step back.next node from_next ∙ back.begun

    pub loop_found : node ≡ place → IsLoop graph (steps ++ step ∷ [])
    loop_found same = loop_if graph (steps ++ step ∷ []) node (omega (arith, length-append steps (step ∷ []))) joined_more (begun_more ∙ sym same)

    pub returning_more : (node ≡ place → ⊥) → IsReturning graph left rest (steps ++ step ∷ []) place
    returning_more differ =
        let there : includes rest place ≡ true = elim (includes_cases rest (node ∷ []) place (subst (λ xs. includes xs place ≡ true) cut back.there)) as (λ _. includes rest place ≡ true) [ inl h ↦ h | inr last ↦ absurd (differ (one_is node place last)) ] in
        let some : 0 < length rest = some_included rest place there in
        let size : length path ≡ length rest + 1 = ap length cut ∙ length-append rest (node ∷ []) in
        record {
          count = back.count;
          on_path = λ q h. back.on_path q (subst (λ xs. includes xs q ≡ true) (sym cut) (includes_left rest (node ∷ []) q h));
          linked = λ i low.
              subst (λ a. ComesFrom graph left a (get_or rest (i + 1) 0)) (front_at i (omega (arith, low)))
              (subst (λ b. ComesFrom graph left (get_or path i 0) b) (front_at (i + 1) low) (back.linked i (omega (arith, low, size))));
          there = there;
          next = node;
          joined = joined_more;
          begun = begun_more;
          comes = let i : ℕ = length rest - 1 in
              let last : get_or path (i + 1) 0 ≡ node = ap (λ xs. get_or xs (i + 1) 0) cut ∙ get_or_at rest node [] 0 (i + 1) (omega (arith, some)) in
              subst (λ a. ComesFrom graph left a node) (front_at i (omega (arith, some)))
              (subst (λ b. ComesFrom graph left (get_or path i 0) b) last (back.linked i (omega (arith, some, size))));
        } where
          front_at : (i : ℕ) → i < length rest → get_or path i 0 ≡ get_or rest i 0
          front_at i low = ap (λ xs. get_or xs i 0) cut ∙ get_or_append_left rest (node ∷ []) 0 i low

          some_included : (xs : List ℕ) (x : ℕ) → includes xs x ≡ true → 0 < length xs
          some_included [] x h = absurd (false≢true h)
          some_included (y ∷ ys) x h = omega arith

pub some_left : (n : ℕ) → (n ≡ 0 → ⊥) → 0 < n
some_left zero h = absurd (h refl)
some_left (suc n) h = omega arith
