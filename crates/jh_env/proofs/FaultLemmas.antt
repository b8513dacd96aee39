-- What is kept of links, nodes and bumps that are given more than once: each once, as it stood first.
use Rattle.std.proofs.Common.{◌≡◌, ℕ, ◌+◌, ◌<◌, ◌≤◌, Bool, true, false, suc, List, [], ◌∷◌, ◌++◌, length, get_or, drop, take, ap, subst, ◌∙◌, sym, refl, arith, add-one, drop-cons, length-append, inl, inr}
use Rattle.std.specs.Prelude.{if◌then◌else◌, ◌||◌, ◌==◌, ◌↔◌, not, nat_le, IsTrue, ℤ}
use Rattle.std.specs.Cmp.{IsEquivalence}
use Rattle.std.specs.List.{All, list_any}
use Rattle.std.proofs.lemmas.Bool.{cases_lt, leb-false, lt-leb, false≢true}
use Rattle.std.proofs.lemmas.List.{get_or_append_left, get_or_default, take-append-le}
use Rattle.std.proofs.lemmas.List.Elements.{All-nil, All-cons, All-push, All-head, All-tail}
use Rattle.std.proofs.Math.Seq.{get_or-append_seam, take-append_seam}
use Rattle.std.proofs.lemmas.List.Folds.{list_any_none}
use Rattle.jh_tables.specs.declared.faults.LinkFault.{LinkFault}
use Rattle.jh_tables.specs.declared.faults.NodeFault.{NodeFault}
use Rattle.jh_tables.specs.Plain.{fault_on_links, fault_on_nodes}
use Rattle.jh_env.specs.Amounts.{IsLinkAmount}
use Rattle.jh_env.specs.Faults.{kept_list, kept_links, kept_nodes, AreApart, is_same_link, is_same_node, is_same_bumped, FitsCount, is_unknown_link, is_unknown_node, is_unknown_bump, IsFault}

none_of : (x y : Bool) → (x || y) ≡ false → (x ≡ false) × (y ≡ false)
none_of true y e = cc
none_of false y e = (refl, e)

-- one more of those that are to be kept once
kept_step : {A : Type 0} (same : A → A → Bool) (kept more xs : List A) (i : ℕ) (x : A) (all : List A) → i < length xs → x ≡ get_or xs i x
    → more ≡ (if list_any (λ k. same k x) kept then kept else kept ++ x ∷ []) → kept_list same kept (drop i xs) ≡ all → kept_list same more (drop (i + 1) xs) ≡ all
kept_step same kept more xs i x all h is m before =
    rw m
    (let e : drop i xs ≡ x ∷ drop (i + 1) xs = rw (add-one, drop-cons xs i x h) (ap (λ y. y ∷ drop (suc i) xs) (sym is)) in
    (sym (ap (kept_list same kept) e) ∙ before))

-- whether one is there, asked in either order
looked_up : {A : Type 0} {same : A → A → Bool} → IsEquivalence same → (x : A) (kept : List A) → list_any (same x) kept ≡ list_any (λ k. same k x) kept
looked_up laws x [] = refl
looked_up {A} {same} laws x (k ∷ ks) = ap (λ b. b || list_any (same x) ks) (laws.symm x k) ∙ ap (λ b. same k x || b) (looked_up laws x ks)

exchanged : {A : Type 0} (b : Bool) (x y : A) → (if not b then y else x) ≡ (if b then x else y)
exchanged true x y = refl
exchanged false x y = refl

-- one more of those that are to be kept once, where a set has the same keys as are kept
pub seen_step : {A : Type 0} {same : A → A → Bool} → IsEquivalence same → (seen after kept more xs : List A) (i : ℕ) (x : A) (new : Bool) (all : List A) → i < length xs → x ≡ get_or xs i x
    → new ≡ not (list_any (same x) seen) → after ≡ (if list_any (same x) seen then seen else seen ++ x ∷ []) → more ≡ (if new then kept ++ x ∷ [] else kept)
    → (seen ≡ kept) × (kept_list same kept (drop i xs) ≡ all) → (after ≡ more) × (kept_list same more (drop (i + 1) xs) ≡ all)
seen_step {A} {same} laws seen after kept more xs i x new all h is was a m before =
    let b = list_any (λ k. same k x) kept in
    let there : list_any (same x) seen ≡ b = ap (list_any (same x)) before.0 ∙ looked_up laws x kept in
    let e : more ≡ (if b then kept else kept ++ x ∷ []) = m ∙ ap (λ t. if t then kept ++ x ∷ [] else kept) (was ∙ ap not there) ∙ exchanged b kept (kept ++ x ∷ []) in
    (a ∙ ap (λ t. if t then seen else seen ++ x ∷ []) there ∙ ap (λ s. if b then s else s ++ x ∷ []) before.0 ∙ sym e, kept_step same kept more xs i x all h is e before.1)

pub push_apart : {A : Type 0} (same : A → A → Bool) (kept : List A) (x : A) → list_any (λ k. same k x) kept ≡ false → AreApart same kept → AreApart same (kept ++ x ∷ [])
push_apart same kept x new apart i d h =
    elim (cases_lt i (length kept)) [
      | inl lt ↦ let le : i ≤ length kept = omega arith in rw (get_or_append_left kept (x ∷ []) d i lt, take-append-le i kept (x ∷ []) le) (apart i d lt)
      | inr ge ↦ let e : i ≡ length kept = omega (arith, length-append kept (x ∷ [])) in rw (e, get_or-append_seam kept x [] d, take-append_seam kept (x ∷ [])) new
    ]

-- what is kept stands apart
pub kept_apart : {A : Type 0} (same : A → A → Bool) (xs kept : List A) → AreApart same kept → AreApart same (kept_list same kept xs)
kept_apart same [] kept apart = apart
kept_apart same (x ∷ xs) kept apart =
    elim (list_any (λ k. same k x) kept) as (λ b. list_any (λ k. same k x) kept ≡ b → AreApart same (kept_list same (if b then kept else kept ++ x ∷ []) xs)) [
      | true ↦ λ e. kept_apart same xs kept apart
      | false ↦ λ e. kept_apart same xs (kept ++ x ∷ []) (push_apart same kept x e apart)
    ] refl

pub none_apart : {A : Type 0} (same : A → A → Bool) → AreApart same []
none_apart same i d h = absurd (omega arith)

-- what holds of each holds of each that is kept
pub kept_all : {A : Type 0} (P : A → Type 0) (same : A → A → Bool) (xs kept : List A) → All P kept → All P xs → All P (kept_list same kept xs)
kept_all P same [] kept all more = all
kept_all P same (x ∷ xs) kept all more =
    elim (list_any (λ k. same k x) kept) as (λ b. All P (kept_list same (if b then kept else kept ++ x ∷ []) xs)) [
      | true ↦ kept_all P same xs kept all (All-tail P x xs more)
      | false ↦ kept_all P same xs (kept ++ x ∷ []) (All-push P kept x all (All-head P x xs more)) (All-tail P x xs more)
    ]

-- also where it holds of what is kept and of one more
pub kept_all_one : {A : Type 0} (P : A → Type 0) (same : A → A → Bool) (kept : List A) (x : A) (more : List A) → All P kept → P x → more ≡ kept_list same kept (x ∷ []) → All P more
kept_all_one P same kept x more all one is = subst (All P) (sym is) (kept_all P same (x ∷ []) kept all (All-cons P x [] one (All-nil P)))

-- no link has an end that is unknown
pub links_known : (count : ℕ) (links : List (ℕ × ℕ)) → list_any (is_unknown_link count) links ≡ false → All (λ l. (l.0 < count) × (l.1 < count)) links
links_known count [] known = All-nil (λ (l : ℕ × ℕ). (l.0 < count) × (l.1 < count))
links_known count (l ∷ ls) known =
    let p = none_of (is_unknown_link count l) (list_any (is_unknown_link count) ls) known in
    let q = none_of (nat_le count l.0) (nat_le count l.1) p.0 in
    All-cons (λ (l : ℕ × ℕ). (l.0 < count) × (l.1 < count)) l ls (leb-false count l.0 q.0, leb-false count l.1 q.1) (links_known count ls p.1)

pub nodes_known : (count : ℕ) (nodes : List ℕ) → list_any (is_unknown_node count) nodes ≡ false → All (λ n. n < count) nodes
nodes_known count [] known = All-nil (λ (n : ℕ). n < count)
nodes_known count (n ∷ ns) known =
    let p = none_of (is_unknown_node count n) (list_any (is_unknown_node count) ns) known in
    All-cons (λ (n : ℕ). n < count) n ns (leb-false count n p.0) (nodes_known count ns p.1)

pub bumps_known : (count : ℕ) (bumps : List (ℕ × ℤ)) → list_any (is_unknown_bump count) bumps ≡ false → All (λ b. b.0 < count) bumps
bumps_known count [] known = All-nil (λ (b : ℕ × ℤ). b.0 < count)
bumps_known count (b ∷ bs) known =
    let p = none_of (is_unknown_bump count b) (list_any (is_unknown_bump count) bs) known in
    All-cons (λ (b : ℕ × ℤ). b.0 < count) b bs (leb-false count b.0 p.0) (bumps_known count bs p.1)

-- the links that are kept are known
pub kept_links_known : (count : ℕ) (links : List (ℕ × ℕ)) → list_any (is_unknown_link count) links ≡ false → All (λ l. (l.0 < count) × (l.1 < count)) (kept_links links)
kept_links_known count links known =
    kept_all (λ (l : ℕ × ℕ). (l.0 < count) × (l.1 < count)) is_same_link links [] (All-nil (λ (l : ℕ × ℕ). (l.0 < count) × (l.1 < count))) (links_known count links known)

pub kept_nodes_known : (count : ℕ) (nodes : List ℕ) → list_any (is_unknown_node count) nodes ≡ false → All (λ n. n < count) (kept_nodes nodes)
kept_nodes_known count nodes known =
    kept_all (λ (n : ℕ). n < count) is_same_node nodes [] (All-nil (λ (n : ℕ). n < count)) (nodes_known count nodes known)

-- where each is known, none is unknown
pub known_links : (count : ℕ) (links : List (ℕ × ℕ)) → All (λ l. (l.0 < count) × (l.1 < count)) links → list_any (is_unknown_link count) links ≡ false
known_links count links known =
    list_any_none (is_unknown_link count) links (λ k d h. let e = known k d h in
    let l : ℕ × ℕ = get_or links k d in rw (lt-leb count l.0 e.0, lt-leb count l.1 e.1) refl)

pub known_nodes : (count : ℕ) (nodes : List ℕ) → All (λ n. n < count) nodes → list_any (is_unknown_node count) nodes ≡ false
known_nodes count nodes known = list_any_none (is_unknown_node count) nodes (λ k d h. lt-leb count (get_or nodes k d) (known k d h))

pub known_bumps : (count : ℕ) (bumps : List (ℕ × ℤ)) → All (λ b. b.0 < count) bumps → list_any (is_unknown_bump count) bumps ≡ false
known_bumps count bumps known = list_any_none (is_unknown_bump count) bumps (λ k d h. lt-leb count (get_or bumps k d).0 (known k d h))

-- a fault on links fits where they are known
pub fits_links : (count : ℕ) (kind : LinkFault) (links : List (ℕ × ℕ)) → FitsCount count (fault_on_links kind links) ≡ All (λ l. (l.0 < count) × (l.1 < count)) links
fits_links count LinkFault.Cut links = refl
fits_links count (LinkFault.Slow ms) links = refl
fits_links count (LinkFault.Loss level) links = refl
fits_links count (LinkFault.Fix ms) links = refl

pub fits_nodes : (count : ℕ) (kind : NodeFault) (nodes : List ℕ) → FitsCount count (fault_on_nodes kind nodes) ≡ All (λ n. n < count) nodes
fits_nodes count NodeFault.Pause nodes = refl
fits_nodes count NodeFault.Kill nodes = refl

-- a fault is right where its amount is and its links or nodes stand once
pub right_links : (kind : LinkFault) (links : List (ℕ × ℕ)) → IsLinkAmount kind → AreApart is_same_link links → IsFault (fault_on_links kind links)
right_links LinkFault.Cut links amount apart = apart
right_links (LinkFault.Slow ms) links amount apart = (amount, apart)
right_links (LinkFault.Loss level) links amount apart = (amount, apart)
right_links (LinkFault.Fix ms) links amount apart = (amount, apart)

pub right_nodes : (kind : NodeFault) (nodes : List ℕ) → AreApart is_same_node nodes → IsFault (fault_on_nodes kind nodes)
right_nodes NodeFault.Pause nodes apart = apart
right_nodes NodeFault.Kill nodes apart = apart

-- the amount of a right fault is in its range
pub right_amount : (kind : LinkFault) (links : List (ℕ × ℕ)) → IsFault (fault_on_links kind links) → IsLinkAmount kind
right_amount LinkFault.Cut links right = tt
right_amount (LinkFault.Slow ms) links right = right.0
right_amount (LinkFault.Loss level) links right = right.0
right_amount (LinkFault.Fix ms) links right = right.0

-- a test that tells whether a fact holds
pub decides : (test : Bool) (fact : Type 0) → (test ≡ false → fact) → (fact → test ≡ false) → IsTrue (not test) ↔ fact
decides true fact to from = (λ h. absurd cc, λ h. let e = from h in absurd cc)
decides false fact to from = (λ h. to refl, λ h. refl)

-- where one is the same as one before it, they don't stand apart
pub not_apart : (bumps : List (ℕ × ℤ)) (i : ℕ) (x : ℕ × ℤ) → i < length bumps → x ≡ get_or bumps i x → list_any (λ b. b.0 == x.0) (take i bumps) ≡ true → AreApart is_same_bumped bumps → ⊥
not_apart bumps i x h is again apart =
    let new : list_any (λ b. b.0 == x.0) (take i bumps) ≡ false = rw (← is) at (apart i x h) in
    false≢true (sym new ∙ again)

pub more_apart : (bumps : List (ℕ × ℤ)) (i : ℕ) (x : ℕ × ℤ) → i < length bumps → x ≡ get_or bumps i x → list_any (λ b. b.0 == x.0) (take i bumps) ≡ false
    → ((k : ℕ) (d : ℕ × ℤ) → k < i → list_any (λ y. is_same_bumped y (get_or bumps k d)) (take k bumps) ≡ false)
    → (k : ℕ) (d : ℕ × ℤ) → k < i + 1 → list_any (λ y. is_same_bumped y (get_or bumps k d)) (take k bumps) ≡ false
more_apart bumps i x h is new before k d within =
    elim (cases_lt k i) [
      | inl lt ↦ before k d lt
      | inr ge ↦
          let e : k ≡ i = omega arith in
          let same : get_or bumps i d ≡ x = get_or_default bumps i d x h ∙ sym is in
          rw (e, same) new
    ]
