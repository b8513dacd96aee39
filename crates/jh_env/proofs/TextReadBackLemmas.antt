-- What the entries that are written make of each cell.
use Rattle.std.proofs.Common.{◌≡◌, ℕ, ◌<◌, Bool, true, false, List, length, fold, filter_map, flat_map, Option, Some, None, ap, refl, sym, ◌∙◌, arith}
use Rattle.std.specs.Prelude.{if◌then◌else◌, ◌==◌, ◌&&◌, nat_lt, slice_get, pos, negsuc, ℤ}
use Rattle.std.proofs.lemmas.Bool.Decides.{nat_tests}
use Rattle.std.specs.Option.{option_map_or}
use Rattle.std.proofs.lemmas.Bool.{eqb-true}
use Rattle.jh_tables.specs.declared.cells.Link.{Link}
use Rattle.jh_tables.specs.declared.cells.NodeCell.{NodeCell}
use Rattle.jh_tables.specs.declared.cells.Life.{Life}
use Rattle.jh_tables.specs.declared.cells.Life.TheVariants.{Running, Paused, Killed}
use Rattle.jh_env.specs.declared.texts.entries.Section.{Section}
use Rattle.jh_env.specs.declared.texts.entries.LinkChange.{LinkChange}
use Rattle.jh_env.specs.declared.texts.entries.NodeChange.{NodeChange}
use Rattle.jh_env.specs.Cells.{calm_link, running_node}
use Rattle.jh_env.specs.Names.{AreNodeNames}
use Rattle.jh_env.specs.Starting.{IsStartingLink}
use Rattle.jh_env.specs.Overlay.{EnvValue, link_of, node_of}
use Rattle.jh_env.specs.Text.{◌>>=◌, OfLink, OfNode, sections}
use Rattle.jh_env.specs.TextCells.{link_after, node_after, link_with, node_with}
use Rattle.jh_env.specs.TextErrors.{place_of}
use Rattle.jh_env.specs.TextWritten.{places, link_entry, node_entry, link_change, node_change, life_change, is_zero, entries_written}
use Rattle.jh_env.proofs.TextPlaceLemmas.{place_of-at}
use Rattle.jh_env.proofs.TextFoldLemmas.{fold-filter_map, fold-flat_map, fold-same, fold-idle, fold-once}
use Rattle.jh_env.proofs.TextWritingLemmas.{at_each_place}

if-same : {A : Type 0} (t : Bool) (x : A) → (if t then x else x) ≡ x
if-same true x = refl
if-same false x = refl

-- what is written of the link from x to y under a key makes this of a link
pub change_of_link : EnvValue → Section → ℕ → ℕ → Link → Link
change_of_link env section x y l = option_map_or (λ says. link_with says l) (link_of env x y >>= link_change section) l

-- a node's place is not one where no name stands
not_there : (names : List (List ℕ)) (a x : ℕ) → a < length names → slice_get names x ≡ None → (a == x) ≡ false
not_there names a x below none =
    elim (a == x) as (λ t. (a == x) ≡ t → t ≡ false) [
      | true ↦ λ is. let gone : slice_get names a ≡ None = rw (eqb-true a x is) none in absurd (at_each_place names a below gone)
      | false ↦ λ is. refl
    ] refl

link_step_there : (names : List (List ℕ)) (a b x y : ℕ) (from to : List ℕ) (l : Link) (spelled : Option LinkChange)
    → place_of names from ≡ Some x → place_of names to ≡ Some y
    → option_map_or (link_after names a b l) (spelled >>= (λ says. Some (OfLink from to says))) l
    ≡ (if (a == x) && (b == y) then option_map_or (λ says. link_with says l) spelled l else l)
link_step_there names a b x y from to l None from_at to_at = sym (if-same ((a == x) && (b == y)) l)
link_step_there names a b x y from to l (Some says) from_at to_at = rw (from_at, to_at) refl

-- the entry of the link from x to y changes the link from a to b where they are one link
link_step : (env : EnvValue) (section : Section) (a b x y : ℕ) (l : Link) → AreNodeNames env.names → a < length env.names → b < length env.names
    → option_map_or (link_after env.names a b l) (link_entry env section x y) l
    ≡ (if (a == x) && (b == y) then change_of_link env section x y l else l)
unfolding change_of_link
link_step env section a b x y l good a_below b_below =
    elim (slice_get env.names x)
    as (λ o. slice_get env.names x ≡ o
    → option_map_or (link_after env.names a b l)
    (o >>= (λ from. slice_get env.names y >>= (λ to. link_of env x y >>= (λ k. link_change section k >>= (λ says. Some (OfLink from to says)))))) l
    ≡ (if (a == x) && (b == y) then option_map_or (λ says. link_with says l) (link_of env x y >>= link_change section) l else l)) [
      | None ↦ λ none. rw (not_there env.names a x a_below none) refl
      | Some from ↦ λ from_at.
          elim (slice_get env.names y)
          as (λ o. slice_get env.names y ≡ o
          → option_map_or (link_after env.names a b l)
          (o >>= (λ to. link_of env x y >>= (λ k. link_change section k >>= (λ says. Some (OfLink from to says))))) l
          ≡ (if (a == x) && (b == y) then option_map_or (λ says. link_with says l) (link_of env x y >>= link_change section) l else l)) [
            | None ↦ λ none. rw (not_there env.names b y b_below none)
                (elim (a == x) as (λ t. l ≡ (if t && false then option_map_or (λ says. link_with says l) (link_of env x y >>= link_change section) l else l)) [ true ↦ refl | false ↦ refl ])
            | Some to ↦ λ to_at.
                let from_place = place_of-at env.names x from good from_at in
                let to_place = place_of-at env.names y to good to_at in
                elim (link_of env x y)
                as (λ o. option_map_or (link_after env.names a b l) (o >>= (λ k. link_change section k >>= (λ says. Some (OfLink from to says)))) l
                ≡ (if (a == x) && (b == y) then option_map_or (λ says. link_with says l) (o >>= link_change section) l else l)) [
                  | None ↦ link_step_there env.names a b x y from to l None from_place to_place
                  | Some k ↦ link_step_there env.names a b x y from to l (link_change section k) from_place to_place
                ]
          ] refl
    ] refl

-- all entries of links under a key make of the link from a to b what is written of it
pub fold_links : (env : EnvValue) (section : Section) (a b : ℕ) (l : Link) → AreNodeNames env.names → a < length env.names → b < length env.names
    → fold (link_after env.names a b) l (flat_map (λ x. filter_map (link_entry env section x) (places env)) (places env)) ≡ change_of_link env section a b l
fold_links env section a b l good a_below b_below =
    let n = length env.names in
    let inner : (m : Link) (x : ℕ) → fold (link_after env.names a b) m (filter_map (link_entry env section x) (places env)) ≡ (if a == x then change_of_link env section x b m else m) =
    λ m x.
    fold-filter_map (link_after env.names a b) (link_entry env section x) m (places env)
    ∙ fold-same (λ k y. option_map_or (link_after env.names a b k) (link_entry env section x y) k) (λ k y. if (a == x) && (b == y) then change_of_link env section x y k else k)
    (λ k y. link_step env section a b x y k good a_below b_below) m (places env)
    ∙ (elim (a == x) as (λ t. fold (λ k y. if t && (b == y) then change_of_link env section x y k else k) m (places env) ≡ (if t then change_of_link env section x b m else m)) [
      | true ↦ fold-once (change_of_link env section x) b 0 n m (omega arith) (omega arith)
      | false ↦ fold-idle (λ k y. k) (λ k y. refl) m (places env)
    ])
    in
    fold-flat_map (link_after env.names a b) (λ x. filter_map (link_entry env section x) (places env)) l (places env)
    ∙ fold-same (λ m x. fold (link_after env.names a b) m (filter_map (link_entry env section x) (places env))) (λ m x. if a == x then change_of_link env section x b m else m) inner l (places env)
    ∙ fold-once (λ x. change_of_link env section x b) a 0 n l (omega arith) (omega arith)

-- what is written of a node under a key makes this of a node
pub change_of_node : EnvValue → Section → ℕ → NodeCell → NodeCell
change_of_node env section x c = option_map_or (λ says. node_with says c) (node_of env x >>= node_change section) c

node_step_there : (names : List (List ℕ)) (a x : ℕ) (name : List ℕ) (c : NodeCell) (spelled : Option NodeChange) → place_of names name ≡ Some x
    → option_map_or (node_after names a c) (spelled >>= (λ says. Some (OfNode name says))) c
    ≡ (if a == x then option_map_or (λ says. node_with says c) spelled c else c)
node_step_there names a x name c None at = sym (if-same (a == x) c)
node_step_there names a x name c (Some says) at = rw at refl

-- the entry of the node x changes the node a where they are one node
node_step : (env : EnvValue) (section : Section) (a x : ℕ) (c : NodeCell) → AreNodeNames env.names → a < length env.names
    → option_map_or (node_after env.names a c) (node_entry env section x) c ≡ (if a == x then change_of_node env section x c else c)
unfolding change_of_node
node_step env section a x c good a_below =
    elim (slice_get env.names x)
    as (λ o. slice_get env.names x ≡ o
    → option_map_or (node_after env.names a c) (o >>= (λ name. node_of env x >>= (λ k. node_change section k >>= (λ says. Some (OfNode name says))))) c
    ≡ (if a == x then option_map_or (λ says. node_with says c) (node_of env x >>= node_change section) c else c)) [
      | None ↦ λ none. rw (not_there env.names a x a_below none) refl
      | Some name ↦ λ name_at.
          let place = place_of-at env.names x name good name_at in
          elim (node_of env x)
          as (λ o. option_map_or (node_after env.names a c) (o >>= (λ k. node_change section k >>= (λ says. Some (OfNode name says)))) c
          ≡ (if a == x then option_map_or (λ says. node_with says c) (o >>= node_change section) c else c)) [
            | None ↦ node_step_there env.names a x name c None place
            | Some k ↦ node_step_there env.names a x name c (node_change section k) place
          ]
    ] refl

-- all entries of nodes under a key make of the node a what is written of it
pub fold_nodes : (env : EnvValue) (section : Section) (a : ℕ) (c : NodeCell) → AreNodeNames env.names → a < length env.names
    → fold (node_after env.names a) c (filter_map (node_entry env section) (places env)) ≡ change_of_node env section a c
fold_nodes env section a c good a_below =
    fold-filter_map (node_after env.names a) (node_entry env section) c (places env)
    ∙ fold-same (λ k x. option_map_or (node_after env.names a k) (node_entry env section x) k) (λ k x. if a == x then change_of_node env section x k else k)
    (λ k x. node_step env section a x k good a_below) c (places env)
    ∙ fold-once (change_of_node env section) a 0 (length env.names) c (omega arith) (omega arith)

-- entries of nodes change no link
pub fold_nodes-link : (env : EnvValue) (section : Section) (a b : ℕ) (l : Link)
    → fold (link_after env.names a b) l (filter_map (node_entry env section) (places env)) ≡ l
fold_nodes-link env section a b l =
    fold-filter_map (link_after env.names a b) (node_entry env section) l (places env)
    ∙ fold-idle (λ k x. option_map_or (link_after env.names a b k) (node_entry env section x) k) (λ k x. idle k x) l (places env)
  where
    idle : (k : Link) (x : ℕ) → option_map_or (link_after env.names a b k) (node_entry env section x) k ≡ k
    idle k x =
        elim (slice_get env.names x)
        as (λ o. option_map_or (link_after env.names a b k) (o >>= (λ name. node_of env x >>= (λ cell. node_change section cell >>= (λ says. Some (OfNode name says))))) k ≡ k) [
          | None ↦ refl
          | Some name ↦ elim (node_of env x)
              as (λ o. option_map_or (link_after env.names a b k) (o >>= (λ cell. node_change section cell >>= (λ says. Some (OfNode name says)))) k ≡ k) [
                | None ↦ refl
                | Some cell ↦ elim (node_change section cell) as (λ o. option_map_or (link_after env.names a b k) (o >>= (λ says. Some (OfNode name says))) k ≡ k) [ None ↦ refl | Some says ↦ refl ]
              ]
        ]

-- entries of links change no node
pub fold_links-node : (env : EnvValue) (section : Section) (a : ℕ) (c : NodeCell)
    → fold (node_after env.names a) c (flat_map (λ x. filter_map (link_entry env section x) (places env)) (places env)) ≡ c
fold_links-node env section a c =
    fold-flat_map (node_after env.names a) (λ x. filter_map (link_entry env section x) (places env)) c (places env)
    ∙ fold-idle (λ k x. fold (node_after env.names a) k (filter_map (link_entry env section x) (places env)))
    (λ k x. fold-filter_map (node_after env.names a) (link_entry env section x) k (places env)
    ∙ fold-idle (λ m y. option_map_or (node_after env.names a m) (link_entry env section x y) m) (λ m y. idle m x y) k (places env)) c (places env)
  where
    idle : (m : NodeCell) (x y : ℕ) → option_map_or (node_after env.names a m) (link_entry env section x y) m ≡ m
    idle m x y =
        elim (slice_get env.names x)
        as (λ o. option_map_or (node_after env.names a m) (o >>= (λ from. slice_get env.names y >>= (λ to. link_of env x y >>= (λ k. link_change section k >>= (λ says. Some (OfLink from to says)))))) m ≡ m) [
          | None ↦ refl
          | Some from ↦ elim (slice_get env.names y)
              as (λ o. option_map_or (node_after env.names a m) (o >>= (λ to. link_of env x y >>= (λ k. link_change section k >>= (λ says. Some (OfLink from to says))))) m ≡ m) [
                | None ↦ refl
                | Some to ↦ elim (link_of env x y)
                    as (λ o. option_map_or (node_after env.names a m) (o >>= (λ k. link_change section k >>= (λ says. Some (OfLink from to says)))) m ≡ m) [
                      | None ↦ refl
                      | Some k ↦ elim (link_change section k) as (λ o. option_map_or (node_after env.names a m) (o >>= (λ says. Some (OfLink from to says))) m ≡ m) [ None ↦ refl | Some says ↦ refl ]
                    ]
              ]
        ]

cut_written : (link : Link) → option_map_or (λ says. link_with says calm_link) (link_change Section.Cut link) calm_link ≡ record { cut = link.cut; delay = 0; loss = 0 }
cut_written link =
    elim link.cut
    as (λ t. option_map_or (λ says. link_with says calm_link) (if t then Some LinkChange.Cut else None) calm_link ≡ record { cut = t; delay = 0; loss = 0 }) [ true ↦ refl | false ↦ refl ]

no_less : (n : ℕ) → nat_lt 0 n ≡ false → 0 ≡ n
no_less n is = grind (arith, nat_tests)

delay_written : (link : Link) (cut : Bool)
    → option_map_or (λ says. link_with says (record { cut = cut; delay = 0; loss = 0 })) (link_change Section.Slow link) (record { cut = cut; delay = 0; loss = 0 })
    ≡ record { cut = cut; delay = link.delay; loss = 0 }
delay_written link cut =
    elim (nat_lt 0 link.delay)
    as (λ t. nat_lt 0 link.delay ≡ t
    → option_map_or (λ says. link_with says (record { cut = cut; delay = 0; loss = 0 }))
    (if t then Some (LinkChange.Delay (pos link.delay)) else None) (record { cut = cut; delay = 0; loss = 0 })
    ≡ record { cut = cut; delay = link.delay; loss = 0 }) [
      | true ↦ λ is. refl
      | false ↦ λ is. λ i. record { cut = cut; delay = no_less link.delay is i; loss = 0 }
    ] refl

loss_written : (link : Link) (cut : Bool) (delay : ℕ)
    → option_map_or (λ says. link_with says (record { cut = cut; delay = delay; loss = 0 })) (link_change Section.Loss link) (record { cut = cut; delay = delay; loss = 0 })
    ≡ record { cut = cut; delay = delay; loss = link.loss }
loss_written link cut delay =
    elim (nat_lt 0 link.loss)
    as (λ t. nat_lt 0 link.loss ≡ t
    → option_map_or (λ says. link_with says (record { cut = cut; delay = delay; loss = 0 }))
    (if t then Some (LinkChange.Loss (pos link.loss)) else None) (record { cut = cut; delay = delay; loss = 0 })
    ≡ record { cut = cut; delay = delay; loss = link.loss }) [
      | true ↦ λ is. refl
      | false ↦ λ is. λ i. record { cut = cut; delay = delay; loss = no_less link.loss is i }
    ] refl

-- all that is written of a link, under the three keys, is the link
pub link_rebuilt : (env : EnvValue) (a b : ℕ) (link : Link) → link_of env a b ≡ Some link → IsStartingLink link
    → change_of_link env Section.Loss a b (change_of_link env Section.Slow a b (change_of_link env Section.Cut a b calm_link)) ≡ link
unfolding change_of_link
link_rebuilt env a b link there starts =
    let spelled : Section → Link → Link = λ s l. option_map_or (λ says. link_with says l) (link_of env a b >>= link_change s) l in
    let is : (s : Section) (l : Link) → spelled s l ≡ option_map_or (λ says. link_with says l) (link_change s link) l =
    λ s l. ap (λ o. option_map_or (λ says. link_with says l) (o >>= link_change s) l) there in
    ap (λ l. spelled Section.Loss (spelled Section.Slow l)) (is Section.Cut calm_link ∙ cut_written link)
    ∙ ap (spelled Section.Loss) (is Section.Slow _ ∙ delay_written link link.cut)
    ∙ (is Section.Loss _ ∙ loss_written link link.cut link.delay)

life_written : (cell : NodeCell) → option_map_or (λ says. node_with says running_node) (node_change Section.Down cell) running_node ≡ record { process = cell.process; clock = pos 0 }
life_written cell =
    elim cell.process as (λ p. option_map_or (λ says. node_with says running_node) (life_change p) running_node ≡ record { process = p; clock = pos 0 }) [
      | Running ↦ refl
      | Paused ↦ refl
      | Killed ↦ refl
    ]

clock_written : (process : Life) (clock : ℤ)
    → option_map_or (λ says. node_with says (record { process = process; clock = pos 0 })) (if is_zero clock then None else Some (NodeChange.Clock clock))
    (record { process = process; clock = pos 0 })
    ≡ record { process = process; clock = clock }
clock_written process (pos n) =
    elim (n == 0)
    as (λ t. (n == 0) ≡ t
    → option_map_or (λ says. node_with says (record { process = process; clock = pos 0 })) (if t then None else Some (NodeChange.Clock (pos n)))
    (record { process = process; clock = pos 0 })
    ≡ record { process = process; clock = pos n }) [
      | true ↦ λ is. let none = eqb-true n 0 is in λ i. record { process = process; clock = pos (sym none i) }
      | false ↦ λ is. refl
    ] refl
clock_written process (negsuc n) = refl

-- all that is written of a node, under the two keys, is the node
pub node_rebuilt : (env : EnvValue) (a : ℕ) (cell : NodeCell) → node_of env a ≡ Some cell
    → change_of_node env Section.Clock a (change_of_node env Section.Down a running_node) ≡ cell
unfolding change_of_node
node_rebuilt env a cell there =
    let spelled : Section → NodeCell → NodeCell = λ s c. option_map_or (λ says. node_with says c) (node_of env a >>= node_change s) c in
    let is : (s : Section) (c : NodeCell) → spelled s c ≡ option_map_or (λ says. node_with says c) (node_change s cell) c =
    λ s c. ap (λ o. option_map_or (λ says. node_with says c) (o >>= node_change s) c) there in
    ap (spelled Section.Clock) (is Section.Down running_node ∙ life_written cell)
    ∙ (is Section.Clock _ ∙ clock_written cell.process cell.clock)

-- the entries that are written, section by section
pub fold_written-link : (env : EnvValue) (a b : ℕ) (link : Link) → AreNodeNames env.names → a < length env.names → b < length env.names
    → link_of env a b ≡ Some link → IsStartingLink link
    → fold (link_after env.names a b) calm_link (flat_map (entries_written env) sections) ≡ link
fold_written-link env a b link good a_below b_below there starts =
    fold-flat_map (link_after env.names a b) (entries_written env) calm_link sections
    ∙ fold_nodes-link env Section.Clock a b _
    ∙ fold_nodes-link env Section.Down a b _
    ∙ fold_links env Section.Loss a b _ good a_below b_below
    ∙ ap (change_of_link env Section.Loss a b) (fold_links env Section.Slow a b _ good a_below b_below)
    ∙ ap (λ l. change_of_link env Section.Loss a b (change_of_link env Section.Slow a b l)) (fold_links env Section.Cut a b calm_link good a_below b_below)
    ∙ link_rebuilt env a b link there starts

pub fold_written-node : (env : EnvValue) (a : ℕ) (cell : NodeCell) → AreNodeNames env.names → a < length env.names
    → node_of env a ≡ Some cell
    → fold (node_after env.names a) running_node (flat_map (entries_written env) sections) ≡ cell
fold_written-node env a cell good a_below there =
    fold-flat_map (node_after env.names a) (entries_written env) running_node sections
    ∙ fold_nodes env Section.Clock a _ good a_below
    ∙ ap (change_of_node env Section.Clock a) (fold_nodes env Section.Down a _ good a_below
    ∙ ap (change_of_node env Section.Down a) (fold_links-node env Section.Loss a _ ∙ fold_links-node env Section.Slow a _ ∙ fold_links-node env Section.Cut a running_node))
    ∙ node_rebuilt env a cell there
