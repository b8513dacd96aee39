-- Facts about the cells that entries mean.
use Rattle.std.proofs.Common.{◌≡◌, ℕ, ◌<◌, Bool, true, false, List, [], length, get_or, bytes_eq, Some, None, option_map, sym, ◌∙◌, ap, refl, subst, pos, negsuc, arith}
use Rattle.std.specs.Prelude.{T, ℤ, ◌≤ℤ◌, nat_lt, slice_index_or, ◌+◌, ◌*◌, int_le, ◌-◌, ◌^◌, if◌then◌else◌, ◌&&◌, ◌==◌, not}
use Rattle.std.proofs.lemmas.Int.{ints}
use Rattle.std.proofs.lemmas.Bool.{and_parts, and_from, eqb-true, eq-eqb, false≢true}
use Rattle.std.proofs.lemmas.Bool.Decides.{nat_tests}
use Rattle.std.specs.Int.Signed.{le_z_yes}
use Rattle.std.proofs.lemmas.Float.{T_from_true}
use Rattle.std.proofs.lemmas.List.Quantifiers.{position-Some}
use Rattle.std.proofs.lemmas.Slice.Eq.{bytes_eq-Decides}
use Rattle.jh_tables.specs.declared.cells.Link.{Link}
use Rattle.jh_tables.specs.declared.cells.NodeCell.{NodeCell}
use Rattle.jh_env.specs.declared.texts.EnvTextError.TheVariants.{SelfLink, BadAmount}
use Rattle.jh_env.specs.declared.texts.entries.LinkChange.{LinkChange}
use Rattle.jh_env.specs.declared.texts.entries.NodeChange.{NodeChange}
use Rattle.jh_env.specs.declared.starting.StartError.{StartError}
use Rattle.jh_env.specs.Cells.{Table, calm_link, link_at, node_at}
use Rattle.jh_env.specs.Faults.{is_same_link}
use Rattle.jh_env.specs.Starting.{StartValue, SetsLink, SetsNode, IsStartingLink, IsStartingNode, RefusesLink, RefusesNode}
use Rattle.jh_env.specs.Text.{OfLink, OfNode}
use Rattle.jh_env.specs.TextCells.{link_with, node_with}
use Rattle.jh_env.specs.TextErrors.{place_of, entry_error, is_within, is_link_change_amount, is_node_change_amount}
use Rattle.jh_env.specs.TextInside.{AreStarting, SetsEntry, fits_link, cell_error}

-- a place is one of the names'
pub place_below : (names : List (List ℕ)) (name : List ℕ) (a : ℕ) → place_of names name ≡ Some a → a < length names
place_below names name a at = (position-Some (bytes_eq name) names a [] at).0

-- the name at its place is the one that was looked for
name_there : (names : List (List ℕ)) (name : List ℕ) (a : ℕ) → place_of names name ≡ Some a → name ≡ get_or names a []
name_there names name a at = (bytes_eq-Decides name (get_or names a [])).0 (position-Some (bytes_eq name) names a [] at).1

-- names at one place are one name
pub same_name : (names : List (List ℕ)) (from to : List ℕ) (a b : ℕ) → place_of names from ≡ Some a → place_of names to ≡ Some b → a ≡ b → bytes_eq from to ≡ true
same_name names from to a b from_at to_at same =
    (bytes_eq-Decides from to).1 (name_there names from a from_at ∙ ap (λ p. get_or names p []) same ∙ sym (name_there names to b to_at))

-- names at two places are two names
pub other_name : (names : List (List ℕ)) (from to : List ℕ) (a b : ℕ) → place_of names from ≡ Some a → place_of names to ≡ Some b → (a ≡ b → ⊥) → bytes_eq from to ≡ false
other_name names from to a b from_at to_at apart =
    elim (bytes_eq from to) as (λ t. bytes_eq from to ≡ t → t ≡ false) [
      | true ↦ λ is.
          let same : from ≡ to = (bytes_eq-Decides from to).0 is in
          let e : Some a ≡ Some b = sym from_at ∙ ap (place_of names) same ∙ to_at in
          let eq : a ≡ b = cc in
          absurd (apart eq)
      | false ↦ λ is. refl
    ] refl

-- the fault of an entry of a link whose ends are nodes
pub entry_error-link : (names : List (List ℕ)) (from to : List ℕ) (says : LinkChange) (a b : ℕ) → place_of names from ≡ Some a → place_of names to ≡ Some b
    → entry_error names (OfLink from to says) ≡ (if bytes_eq from to then Some SelfLink else if not (is_link_change_amount says) then Some BadAmount else None)
entry_error-link names from to says a b from_at to_at = rw (from_at, to_at) refl

-- the fault of an entry of a node that is one
pub entry_error-node : (names : List (List ℕ)) (name : List ℕ) (says : NodeChange) (a : ℕ) → place_of names name ≡ Some a
    → entry_error names (OfNode name says) ≡ (if not (is_node_change_amount says) then Some BadAmount else None)
entry_error-node names name says a at = rw at refl

-- a link that is set is what its entry makes of it
pub sets_link : (old new : StartValue) (from to : List ℕ) (says : LinkChange) (a b : ℕ) (link : Link)
    → place_of old.names from ≡ Some a → place_of old.names to ≡ Some b → link_at old.cells a b ≡ Some link
    → AreStarting old → SetsLink old a b (link_with says link) new → SetsEntry old (OfLink from to says) new
sets_link old new from to says a b link from_at to_at was starting sets = record {
  names = sets.names;
  links = λ c d. rw (sets.links c d, from_at, to_at)
      (elim (is_same_link (c, d) (a, b))
      as (λ t. is_same_link (c, d) (a, b) ≡ t → (if t then Some (link_with says link) else link_at old.cells c d)
      ≡ option_map (λ l. if t then link_with says l else l) (link_at old.cells c d)) [
        | true ↦ λ is.
            let parts = and_parts (c == a) (d == b) is in
            rw (eqb-true c a parts.0, eqb-true d b parts.1, was) refl
        | false ↦ λ is. elim (link_at old.cells c d) as (λ o. o ≡ option_map (λ l. l) o) [ Some l ↦ refl | None ↦ refl ]
      ] refl);
  nodes = λ c. rw (sets.nodes c) (elim (node_at old.cells c) as (λ o. o ≡ option_map (λ l. l) o) [ Some l ↦ refl | None ↦ refl ]);
  starting = record {
    links = λ c d l at. elim (is_same_link (c, d) (a, b))
        as (λ t. (if t then Some (link_with says link) else link_at old.cells c d) ≡ Some l → IsStartingLink l) [
          | true ↦ λ e. let same : link_with says link ≡ l = cc in subst IsStartingLink same sets.amounts
          | false ↦ λ e. starting.links c d l e
        ] (sym (sets.links c d) ∙ at);
    nodes = λ c n at. starting.nodes c n (sym (sets.nodes c) ∙ at);
    no_link = λ c d p q none. elim (is_same_link (c, d) (a, b))
        as (λ t. (if t then Some (link_with says link) else link_at old.cells c d) ≡ None → c ≡ d) [
          | true ↦ λ e. absurd cc
          | false ↦ λ e. starting.no_link c d (rw (← sets.names) p) (rw (← sets.names) q) e
        ] (sym (sets.links c d) ∙ none);
    no_node = λ c p none. starting.no_node c (rw (← sets.names) p) (sym (sets.nodes c) ∙ none);
  };
}

-- a node that is set is what its entry makes of it
pub sets_node : (old new : StartValue) (name : List ℕ) (says : NodeChange) (a : ℕ) (cell : NodeCell)
    → place_of old.names name ≡ Some a → node_at old.cells a ≡ Some cell
    → AreStarting old → SetsNode old a (node_with says cell) new → SetsEntry old (OfNode name says) new
sets_node old new name says a cell at was starting sets = record {
  names = sets.names;
  links = λ c d. rw (sets.links c d) (elim (link_at old.cells c d) as (λ o. o ≡ option_map (λ l. l) o) [ Some l ↦ refl | None ↦ refl ]);
  nodes = λ c. rw (sets.nodes c, at)
      (elim (c == a)
      as (λ t. (c == a) ≡ t → (if t then Some (node_with says cell) else node_at old.cells c)
      ≡ option_map (λ n. if t then node_with says n else n) (node_at old.cells c)) [
        | true ↦ λ is. rw (eqb-true c a is, was) refl
        | false ↦ λ is. elim (node_at old.cells c) as (λ o. o ≡ option_map (λ n. n) o) [ Some n ↦ refl | None ↦ refl ]
      ] refl);
  starting = record {
    links = λ c d l at_link. starting.links c d l (sym (sets.links c d) ∙ at_link);
    nodes = λ c n at_node. elim (c == a)
        as (λ t. (if t then Some (node_with says cell) else node_at old.cells c) ≡ Some n → IsStartingNode n) [
          | true ↦ λ e. let same : node_with says cell ≡ n = cc in subst IsStartingNode same sets.amount
          | false ↦ λ e. starting.nodes c n e
        ] (sym (sets.nodes c) ∙ at_node);
    no_link = λ c d p q none. starting.no_link c d (rw (← sets.names) p) (rw (← sets.names) q) (sym (sets.links c d) ∙ none);
    no_node = λ c p none. elim (c == a)
        as (λ t. (if t then Some (node_with says cell) else node_at old.cells c) ≡ None → ⊥) [
          | true ↦ λ e. absurd cc
          | false ↦ λ e. starting.no_node c (rw (← sets.names) p) e
        ] (sym (sets.nodes c) ∙ none);
  };
}

-- a change within its range keeps a link within its ranges
pub link_with-starts : (says : LinkChange) (link : Link) → is_link_change_amount says ≡ true → IsStartingLink link → IsStartingLink (link_with says link)
link_with-starts LinkChange.Cut link good starts = starts
link_with-starts (LinkChange.Delay (pos n)) link good starts = (grind (arith, nat_tests), starts.1)
link_with-starts (LinkChange.Delay (negsuc n)) link good starts = absurd cc
link_with-starts (LinkChange.Loss (pos n)) link good starts = (starts.0, grind (arith, nat_tests))
link_with-starts (LinkChange.Loss (negsuc n)) link good starts = absurd cc

-- and so of a node
pub node_with-starts : (says : NodeChange) (cell : NodeCell) → is_node_change_amount says ≡ true → IsStartingNode cell → IsStartingNode (node_with says cell)
node_with-starts NodeChange.Pause cell good starts = starts
node_with-starts NodeChange.Kill cell good starts = starts
node_with-starts (NodeChange.Clock ms) cell good starts =
    let parts = and_parts (int_le (negsuc (10 ^ 12 - 1)) ms) (int_le ms (pos (10 ^ 12))) good in
    let low : negsuc (10 ^ 12 - 1) ≤ℤ ms = le_z_yes (T_from_true _ parts.0) in
    (omega (arith, ints, low), le_z_yes (T_from_true _ parts.1))

-- what a test chose
pub chosen : {A : Type 0} (test : Bool) (x y : A) → (if test then Some x else None) ≡ Some y → (test ≡ true) × (y ≡ x)
chosen true x y is = (refl, cc)
chosen false x y is = absurd cc

-- what a test passed over
pub passed_over : {A : Type 0} (test : Bool) (x : A) → (if test then Some x else None) ≡ None → test ≡ false
passed_over true x is = absurd cc
passed_over false x is = refl

-- there is no link from a node to itself
pub link_apart : (cells : Table) (a b : ℕ) (link : Link) → link_at cells a b ≡ Some link → a ≡ b → ⊥
link_apart cells a b link there same =
    let count = length cells.nodes in
    let test = (chosen (nat_lt a count && (nat_lt b count && not (a == b))) (slice_index_or cells.links (a * count + b) calm_link) link there).0 in
    let differ = (and_parts (nat_lt b count) (not (a == b)) (and_parts (nat_lt a count) (nat_lt b count && not (a == b)) test).1).1 in
    let bad : not true ≡ true = rw (eq-eqb a b same) at differ in
    false≢true bad

passes : (b : Bool) → T b → b ≡ true
passes true t = refl
passes false t = absurd t

-- a number between two others
pub within : (least most z : ℤ) → least ≤ℤ z → z ≤ℤ most → is_within least most z ≡ true
within least most z above below = and_from (int_le least z) (int_le z most) (passes (int_le least z) above.le) (passes (int_le z most) below.le)

-- a change within its range fits a link
pub link_amount-fits : (says : LinkChange) → is_link_change_amount says ≡ true → fits_link says ≡ true
link_amount-fits LinkChange.Cut good = refl
link_amount-fits (LinkChange.Delay ms) good = (and_parts (int_le (pos 0) ms) (int_le ms (pos 60000)) good).0
link_amount-fits (LinkChange.Loss level) good =
    let parts = and_parts (int_le (pos 0) level) (int_le level (pos 20)) good in
    let above : pos 0 ≤ℤ level = le_z_yes (T_from_true _ parts.0) in
    let below : level ≤ℤ pos 20 = le_z_yes (T_from_true _ parts.1) in
    within (pos 0) (pos 255) level above (omega (arith, ints))

-- a change that fits a link, and with which it may start, is within its range
pub link_amount-starts : (says : LinkChange) (link : Link) → fits_link says ≡ true → IsStartingLink (link_with says link) → is_link_change_amount says ≡ true
link_amount-starts LinkChange.Cut link fits starts = refl
link_amount-starts (LinkChange.Delay (pos n)) link fits starts = within (pos 0) (pos 60000) (pos n) (omega (arith, ints)) (omega (arith, ints, starts.0))
link_amount-starts (LinkChange.Delay (negsuc n)) link fits starts = absurd cc
link_amount-starts (LinkChange.Loss (pos n)) link fits starts = within (pos 0) (pos 20) (pos n) (omega (arith, ints)) (omega (arith, ints, starts.1))
link_amount-starts (LinkChange.Loss (negsuc n)) link fits starts = absurd cc

-- and so of a node
pub node_amount-starts : (says : NodeChange) (cell : NodeCell) → IsStartingNode (node_with says cell) → is_node_change_amount says ≡ true
node_amount-starts NodeChange.Pause cell starts = refl
node_amount-starts NodeChange.Kill cell starts = refl
node_amount-starts (NodeChange.Clock ms) cell starts = within (negsuc (10 ^ 12 - 1)) (pos (10 ^ 12)) ms (omega (arith, ints, starts.0)) starts.1

-- what a test does not pass
unless : (t : Bool) → (t ≡ true → ⊥) → t ≡ false
unless true never = absurd (never refl)
unless false never = refl

-- what does not fit a link is out of its range
pub link_amount-unfit : (says : LinkChange) → fits_link says ≡ false → is_link_change_amount says ≡ false
link_amount-unfit says unfit = unless (is_link_change_amount says) (λ good. false≢true (sym unfit ∙ link_amount-fits says good))

-- a link between two nodes that is not set is in error by its entry
pub link_refused : (s : StartValue) (from to : List ℕ) (says : LinkChange) (a b : ℕ) (link : Link) (e : StartError)
    → place_of s.names from ≡ Some a → place_of s.names to ≡ Some b → (a ≡ b → ⊥) → IsStartingLink link
    → RefusesLink s a b (link_with says link) e → entry_error s.names (OfLink from to says) ≡ Some (cell_error e)
link_refused s from to says a b link StartError.UnknownNode from_at to_at apart starts refused =
    absurd (refused (place_below s.names from a from_at, place_below s.names to b to_at))
link_refused s from to says a b link StartError.SelfLink from_at to_at apart starts refused = absurd (apart refused.1)
link_refused s from to says a b link StartError.BadAmount from_at to_at apart starts refused =
    let bad = unless (is_link_change_amount says) (λ good. refused.2 (link_with-starts says link good starts)) in
    rw (entry_error-link s.names from to says a b from_at to_at, other_name s.names from to a b from_at to_at apart, bad) refl

-- and so of a node
pub node_refused : (s : StartValue) (name : List ℕ) (says : NodeChange) (a : ℕ) (cell : NodeCell) (e : StartError)
    → place_of s.names name ≡ Some a → IsStartingNode cell
    → RefusesNode s a (node_with says cell) e → entry_error s.names (OfNode name says) ≡ Some (cell_error e)
node_refused s name says a cell StartError.UnknownNode at starts refused = let below = place_below s.names name a at in absurd (omega arith)
node_refused s name says a cell StartError.SelfLink at starts refused = absurd refused
node_refused s name says a cell StartError.BadAmount at starts refused =
    let bad = unless (is_node_change_amount says) (λ good. refused.1 (node_with-starts says cell good starts)) in
    rw (entry_error-node s.names name says a at, bad) refl
