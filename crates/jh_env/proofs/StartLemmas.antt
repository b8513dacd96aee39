-- What setting one link or one node of the start changes, and what stays as it was.
use Rattle.std.proofs.Common.{◌≡◌, ◌≢◌, ℕ, ◌+◌, ◌*◌, ◌<◌, Bool, true, false, List, length, get_or, set, refl, ap, ◌∙◌, sym, get_or-set_same, get_or-set_other, Some, None, ◌≤◌, arith, inl, inr}
use Rattle.std.specs.Prelude.{if◌then◌else◌, ◌&&◌, ◌==◌, not, nat_lt, slice_get, replicate}
use Rattle.std.proofs.lemmas.List.{get_or-replicate, length-replicate, length-set}
use Rattle.std.proofs.lemmas.Bool.{eqb-true, and_parts, eq-eqb, and_from, cases_lt, false≢true, le-ltb, lt-ltb, ltb-true}
use Rattle.std.proofs.lemmas.Option.{slice_get-get_or, slice_get_past}
use Rattle.jh_env.specs.Starting.{IsCalm}
use Rattle.std.proofs.lemmas.Nat.{same_from_place, mul-add-lt}
use Rattle.jh_tables.specs.declared.cells.Link.{Link}
use Rattle.jh_tables.specs.declared.cells.NodeCell.{NodeCell}
use Rattle.jh_env.specs.Cells.{calm_link, running_node, link_at}
use Rattle.jh_env.specs.Faults.{is_same_link}

different : (a b : ℕ) → a ≢ b → (a == b) ≡ false
different a b apart = elim (a == b) as (λ s. (a == b) ≡ s → s ≡ false) [ true ↦ λ s. absurd (apart (eqb-true a b s)) | false ↦ λ s. refl ] refl

-- the link from a to b after a write of it
pub link_at_set : (links : List Link) (nodes : List NodeCell) (a b : ℕ) (l : Link) → a < length nodes → b < length nodes → a ≢ b → length links ≡ length nodes * length nodes
    → (c d : ℕ) → link_at (record { links = set links (a * length nodes + b) l; nodes = nodes }) c d
    ≡ (if is_same_link (c, d) (a, b) then Some l else link_at (record { links = links; nodes = nodes }) c d)
link_at_set links nodes a b l p q apart size c d =
    let n : ℕ = length nodes in
    let place : a * n + b < length links = rw size (mul-add-lt a n b n p q) in
    let t : Bool = nat_lt c n && (nat_lt d n && not (c == d)) in
    elim (is_same_link (c, d) (a, b)) as (λ s. is_same_link (c, d) (a, b) ≡ s
    → (if t then Some (get_or (set links (a * n + b) l) (c * n + d) calm_link) else None) ≡ (if s then Some l else if t then Some (get_or links (c * n + d) calm_link) else None)) [
      | true ↦ λ s.
          let parts = and_parts (c == a) (d == b) s in
          rw (eqb-true c a parts.0, eqb-true d b parts.1, lt-ltb a n p, lt-ltb b n q, different a b apart, get_or-set_same links (a * n + b) l calm_link place) refl
      | false ↦ λ s. elim t as (λ t. nat_lt c n && (nat_lt d n && not (c == d)) ≡ t
          → (if t then Some (get_or (set links (a * n + b) l) (c * n + d) calm_link) else None) ≡ (if t then Some (get_or links (c * n + d) calm_link) else None)) [
            | true ↦ λ r.
                let d_below : d < n = ltb-true d n (and_parts (nat_lt d n) (not (c == d)) (and_parts (nat_lt c n) (nat_lt d n && not (c == d)) r).1).0 in
                let other : c * n + d ≢ a * n + b = (λ e. let k = same_from_place c d a b n d_below q e in
                false≢true (sym s ∙ and_from (c == a) (d == b) (eq-eqb c a k.0) (eq-eqb d b k.1))) in
                ap Some (get_or-set_other links (a * n + b) (c * n + d) l calm_link other)
            | false ↦ λ r. refl
          ] refl
    ] refl

-- the cells of nodes don't tell how the links stand
pub links_stay : (links : List Link) (nodes : List NodeCell) (a : ℕ) (n : NodeCell)
    → (c d : ℕ) → link_at (record { links = links; nodes = set nodes a n }) c d ≡ link_at (record { links = links; nodes = nodes }) c d
links_stay links nodes a n c d = rw (length-set nodes a n) refl

-- a node after a write of one
pub node_at_set : (nodes : List NodeCell) (a : ℕ) (n : NodeCell) → a < length nodes
    → (c : ℕ) → slice_get (set nodes a n) c ≡ (if c == a then Some n else slice_get nodes c)
node_at_set nodes a n h c =
    elim (cases_lt c (length nodes)) [
      | inl lt ↦
          let kept : c < length (set nodes a n) = rw (length-set nodes a n) lt in
          rw (slice_get-get_or (set nodes a n) c n kept, slice_get-get_or nodes c n lt)
          (elim (c == a) as (λ s. (c == a) ≡ s → Some (get_or (set nodes a n) c n) ≡ (if s then Some n else Some (get_or nodes c n))) [
            | true ↦ λ s. rw (eqb-true c a s, get_or-set_same nodes a n n h) refl
            | false ↦ λ s. let other : c ≢ a = (λ e. false≢true (sym s ∙ eq-eqb c a e)) in ap Some (get_or-set_other nodes a c n n other)
          ] refl)
      | inr ge ↦
          let past : length (set nodes a n) ≤ c = rw (length-set nodes a n) ge in
          let other : c ≢ a = omega arith in
          rw (slice_get_past (set nodes a n) c past, slice_get_past nodes c ge, different c a other) refl
    ]

-- where every link is calm
pub calm_links : (n c d : ℕ)
    → link_at (record { links = replicate (n * n) calm_link; nodes = replicate n running_node }) c d ≡ (if nat_lt c n && (nat_lt d n && not (c == d)) then Some calm_link else None)
calm_links n c d =
    rw (length-replicate n running_node)
    (elim (nat_lt c n && (nat_lt d n && not (c == d))) as (λ t. nat_lt c n && (nat_lt d n && not (c == d)) ≡ t
    → (if t then Some (get_or (replicate (n * n) calm_link) (c * n + d) calm_link) else None) ≡ (if t then Some calm_link else None)) [
      | true ↦ λ r.
          let parts = and_parts (nat_lt c n) (nat_lt d n && not (c == d)) r in
          let below : c * n + d < n * n = mul-add-lt c n d n (ltb-true c n parts.0) (ltb-true d n (and_parts (nat_lt d n) (not (c == d)) parts.1).0) in
          ap Some (get_or-replicate (n * n) (c * n + d) calm_link calm_link below)
      | false ↦ λ r. refl
    ] refl)

-- where every node runs
pub running_nodes : (n c : ℕ) → slice_get (replicate n running_node) c ≡ (if nat_lt c n then Some running_node else None)
running_nodes n c =
    elim (cases_lt c n) [
      | inl lt ↦
          let below : c < length (replicate n running_node) = rw (length-replicate n running_node) lt in
          rw (lt-ltb c n lt, slice_get-get_or (replicate n running_node) c running_node below, get_or-replicate n c running_node running_node lt) refl
      | inr ge ↦
          let past : length (replicate n running_node) ≤ c = rw (length-replicate n running_node) ge in
          rw (le-ltb c n ge, slice_get_past (replicate n running_node) c past) refl
    ]

-- a table of calm links and running nodes
pub calm_start : (names : List (List ℕ)) (links : List Link) (nodes : List NodeCell) → links ≡ replicate (length names * length names) calm_link → nodes ≡ replicate (length names) running_node
    → IsCalm (record { names = names; cells = record { links = links; nodes = nodes } })
calm_start names links nodes e f = record {
  links = λ a b. rw (e, f) (calm_links (length names) a b);
  nodes = λ a. rw f (running_nodes (length names) a);
}
