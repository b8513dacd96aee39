-- The entries that are written are sound, and each is spelled as it is read.
use Rattle.std.proofs.Common.{◌≡◌, ℕ, zero, suc, ◌+◌, ◌*◌, ◌<◌, ◌≤◌, Bool, true, false, List, [], ◌∷◌, ◌++◌, length, take, bytes_eq, filter_map, flat_map, Option, Some, None, ap, refl, sym, ◌∙◌, arith, subst, pos, negsuc, add-zero, ◌-◌, ◌^◌}
use Rattle.std.specs.Prelude.{◌≤ℤ◌, if◌then◌else◌, ◌&&◌, ◌||◌, nat_lt, slice_get, unwrap_or, option_and_then, All}
use Rattle.std.specs.List.{range_with_len, cons_option, list_any}
use Rattle.std.proofs.lemmas.Bool.{and_parts}
use Rattle.std.proofs.lemmas.Int.{ints}
use Rattle.std.proofs.lemmas.List.Elements.{All-nil, All-cons, All-append, All-get_or}
use Rattle.std.proofs.lemmas.Option.{slice_get_within, get_or_from_slice_get}
use Rattle.std.proofs.lemmas.Slice.Eq.{bytes_eq-Decides}
use Rattle.jh_tables.specs.declared.cells.Link.{Link}
use Rattle.jh_tables.specs.declared.cells.NodeCell.{NodeCell}
use Rattle.jh_tables.specs.declared.cells.Life.{Life}
use Rattle.jh_tables.specs.declared.cells.Life.TheVariants.{Running, Paused, Killed}
use Rattle.jh_env.specs.declared.texts.entries.Section.{Section}
use Rattle.jh_env.specs.declared.texts.entries.LinkChange.{LinkChange}
use Rattle.jh_env.specs.declared.texts.entries.NodeChange.{NodeChange}
use Rattle.jh_env.specs.Overlay.{EnvValue, cells_of, link_of, node_of}
use Rattle.jh_env.specs.Starting.{IsStartingLink, IsStartingNode}
use Rattle.jh_env.specs.Text.{◌>>=◌, Entry, OfLink, OfNode, sections}
use Rattle.jh_env.specs.TextErrors.{place_of, entry_error, entry_error_after, repeats, is_same_link_key, is_same_node_key, is_link_change_amount, is_node_change_amount, AreSound}
use Rattle.jh_env.specs.TextLaws.{CanStart}
use Rattle.jh_env.specs.TextWritten.{places, link_entry, node_entry, link_change, node_change, life_change, is_zero, entries_written}
use Rattle.jh_env.proofs.TextCellLemmas.{within, entry_error-link, entry_error-node, other_name, link_apart}
use Rattle.jh_env.proofs.TextPlaceLemmas.{place_of-at}

bind_gives : {A B : Type 0} (o : Option A) (f : A → Option B) (y : B) → (o >>= f) ≡ Some y → (x : A) × (o ≡ Some x) × (f x ≡ Some y)
bind_gives None f y is = absurd cc
bind_gives (Some x) f y is = (x, refl, is)

-- how the entry of a link came about
pub record LinkParts (env : EnvValue) (section : Section) (a b : ℕ) (entry : Entry) : Type 0 where
  pub from : List ℕ
  pub to : List ℕ
  pub link : Link
  pub says : LinkChange
  pub from_at : slice_get env.names a ≡ Some from
  pub to_at : slice_get env.names b ≡ Some to
  pub there : link_of env a b ≡ Some link
  pub is_written : link_change section link ≡ Some says
  pub is : entry ≡ OfLink from to says

pub link_parts : (env : EnvValue) (section : Section) (a b : ℕ) (entry : Entry) → link_entry env section a b ≡ Some entry → LinkParts env section a b entry
link_parts env section a b entry made =
    let p = bind_gives (slice_get env.names a) _ entry made in
    let q = bind_gives (slice_get env.names b) _ entry p.2 in
    let r = bind_gives (link_of env a b) _ entry q.2 in
    let s = bind_gives (link_change section r.0) (λ says. Some (OfLink p.0 q.0 says)) entry r.2 in
    let e : entry ≡ OfLink p.0 q.0 s.0 = cc (s.2) in
    record { from = p.0; to = q.0; link = r.0; says = s.0; from_at = p.1; to_at = q.1; there = r.1; is_written = s.1; is = e }

-- how the entry of a node came about
pub record NodeParts (env : EnvValue) (section : Section) (a : ℕ) (entry : Entry) : Type 0 where
  pub name : List ℕ
  pub cell : NodeCell
  pub says : NodeChange
  pub name_at : slice_get env.names a ≡ Some name
  pub there : node_of env a ≡ Some cell
  pub is_written : node_change section cell ≡ Some says
  pub is : entry ≡ OfNode name says

pub node_parts : (env : EnvValue) (section : Section) (a : ℕ) (entry : Entry) → node_entry env section a ≡ Some entry → NodeParts env section a entry
node_parts env section a entry made =
    let p = bind_gives (slice_get env.names a) _ entry made in
    let r = bind_gives (node_of env a) _ entry p.2 in
    let s = bind_gives (node_change section r.0) (λ says. Some (OfNode p.0 says)) entry r.2 in
    let e : entry ≡ OfNode p.0 s.0 = cc (s.2) in
    record { name = p.0; cell = r.0; says = s.0; name_at = p.1; there = r.1; is_written = s.1; is = e }

pub if_gives : {A : Type 0} (t : Bool) (x y : A) → (if t then Some x else None) ≡ Some y → y ≡ x
if_gives true x y is = cc
if_gives false x y is = absurd cc

pub unless_gives : {A : Type 0} (t : Bool) (x y : A) → (if t then None else Some x) ≡ Some y → y ≡ x
unless_gives true x y is = absurd cc
unless_gives false x y is = cc

-- what is written of a link that may start is in its range
link_change-amount : (section : Section) (link : Link) (says : LinkChange) → IsStartingLink link → link_change section link ≡ Some says → is_link_change_amount says ≡ true
link_change-amount Section.Cut link says starts is_written = rw (if_gives link.cut LinkChange.Cut says is_written) refl
link_change-amount Section.Slow link says starts is_written =
    let above : pos 0 ≤ℤ pos link.delay = omega (arith, ints) in
    let below : pos link.delay ≤ℤ pos 60000 = omega (arith, ints, starts.0) in
    rw (if_gives (nat_lt 0 link.delay) _ says is_written) (within (pos 0) (pos 60000) (pos link.delay) above below)
link_change-amount Section.Loss link says starts is_written =
    let above : pos 0 ≤ℤ pos link.loss = omega (arith, ints) in
    let below : pos link.loss ≤ℤ pos 20 = omega (arith, ints, starts.1) in
    rw (if_gives (nat_lt 0 link.loss) _ says is_written) (within (pos 0) (pos 20) (pos link.loss) above below)
link_change-amount Section.Down link says starts is_written = absurd cc
link_change-amount Section.Clock link says starts is_written = absurd cc

life_change-amount : (life : Life) (says : NodeChange) → life_change life ≡ Some says → is_node_change_amount says ≡ true
life_change-amount Running says is_written = absurd cc
life_change-amount Paused says is_written = let e : says ≡ NodeChange.Pause = cc in rw e refl
life_change-amount Killed says is_written = let e : says ≡ NodeChange.Kill = cc in rw e refl

-- and so of a node
node_change-amount : (section : Section) (cell : NodeCell) (says : NodeChange) → IsStartingNode cell → node_change section cell ≡ Some says → is_node_change_amount says ≡ true
node_change-amount Section.Down cell says starts is_written = life_change-amount cell.process says is_written
node_change-amount Section.Clock cell says starts is_written = rw (unless_gives (is_zero cell.clock) _ says is_written) (within (negsuc (10 ^ 12 - 1)) (pos (10 ^ 12)) cell.clock (omega (arith, ints, starts.0)) starts.1)
node_change-amount Section.Cut cell says starts is_written = absurd cc
node_change-amount Section.Slow cell says starts is_written = absurd cc
node_change-amount Section.Loss cell says starts is_written = absurd cc

-- the fault of an entry that is written: none
link_entry-sound : (env : EnvValue) (section : Section) (a b : ℕ) (entry : Entry) → CanStart env → link_entry env section a b ≡ Some entry → entry_error env.names entry ≡ None
link_entry-sound env section a b entry starts made =
    let p = link_parts env section a b entry made in
    let from_place = place_of-at env.names a p.from starts.named p.from_at in
    let to_place = place_of-at env.names b p.to starts.named p.to_at in
    let apart = other_name env.names p.from p.to a b from_place to_place (link_apart (cells_of env) a b p.link p.there) in
    let good = link_change-amount section p.link p.says (starts.links a b p.link p.there) p.is_written in
    ap (entry_error env.names) p.is ∙ rw (entry_error-link env.names p.from p.to p.says a b from_place to_place, apart, good) refl

node_entry-sound : (env : EnvValue) (section : Section) (a : ℕ) (entry : Entry) → CanStart env → node_entry env section a ≡ Some entry → entry_error env.names entry ≡ None
node_entry-sound env section a entry starts made =
    let p = node_parts env section a entry made in
    let place = place_of-at env.names a p.name starts.named p.name_at in
    let good = node_change-amount section p.cell p.says (starts.nodes a p.cell p.there) p.is_written in
    ap (entry_error env.names) p.is ∙ rw (entry_error-node env.names p.name p.says a place, good) refl

all-filter_map : {X E : Type 0} (P : E → Type 0) (h : X → Option E) (xs : List X) → ((x : X) (e : E) → h x ≡ Some e → P e) → All P (filter_map h xs)
all-filter_map P h [] each = All-nil P
all-filter_map P h (x ∷ xs) each =
    elim (h x) as (λ o. h x ≡ o → All P (cons_option o (filter_map h xs))) [
      | None ↦ λ is. all-filter_map P h xs each
      | Some e ↦ λ is. All-cons P e (filter_map h xs) (each x e is) (all-filter_map P h xs each)
    ] refl

all-flat_map : {X E : Type 0} (P : E → Type 0) (g : X → List E) (xs : List X) → ((x : X) → All P (g x)) → All P (flat_map g xs)
all-flat_map P g [] each = All-nil P
all-flat_map P g (x ∷ xs) each = All-append P (g x) (flat_map g xs) (each x) (all-flat_map P g xs each)

-- what holds of each entry of a link and of a node holds of all that are written under a key
pub all_written : (env : EnvValue) (P : Entry → Type 0) (section : Section)
    → ((a b : ℕ) (e : Entry) → link_entry env section a b ≡ Some e → P e) → ((a : ℕ) (e : Entry) → node_entry env section a ≡ Some e → P e)
    → All P (entries_written env section)
all_written env P Section.Cut links nodes = all-flat_map P _ (places env) (λ a. all-filter_map P (link_entry env Section.Cut a) (places env) (links a))
all_written env P Section.Slow links nodes = all-flat_map P _ (places env) (λ a. all-filter_map P (link_entry env Section.Slow a) (places env) (links a))
all_written env P Section.Loss links nodes = all-flat_map P _ (places env) (λ a. all-filter_map P (link_entry env Section.Loss a) (places env) (links a))
all_written env P Section.Down links nodes = all-filter_map P (node_entry env Section.Down) (places env) nodes
all_written env P Section.Clock links nodes = all-filter_map P (node_entry env Section.Clock) (places env) nodes

pub all_sound : (env : EnvValue) → CanStart env → All (λ e. entry_error env.names e ≡ None) (flat_map (entries_written env) sections)
all_sound env starts =
    all-flat_map (λ e. entry_error env.names e ≡ None) (entries_written env) sections
    (λ section. all_written env (λ e. entry_error env.names e ≡ None) section
    (λ a b e made. link_entry-sound env section a b e starts made) (λ a e made. node_entry-sound env section a e starts made))

-- the number of the key under which an entry stands
link_number : LinkChange → ℕ
link_number LinkChange.Cut = 0
link_number (LinkChange.Delay ms) = 1
link_number (LinkChange.Loss level) = 2

node_number : NodeChange → ℕ
node_number (NodeChange.Clock ms) = 4
node_number _ = 3

number : Section → ℕ
number Section.Cut = 0
number Section.Slow = 1
number Section.Loss = 2
number Section.Down = 3
number Section.Clock = 4

-- an entry's rank: by key, then by the place of its first name, then of its second
rank : List (List ℕ) → Entry → ℕ
rank names (OfLink from to says) = (link_number says * length names + unwrap_or (place_of names from) 0) * length names + unwrap_or (place_of names to) 0
rank names (OfNode name says) = (node_number says * length names + unwrap_or (place_of names name) 0) * length names

-- the ranks climb from low to high
Climbs : List (List ℕ) → ℕ → ℕ → List Entry → Type 0
Climbs names low high [] = low ≤ high
Climbs names low high (e ∷ es) = (low ≤ rank names e) × Climbs names (rank names e + 1) high es

same_link_number : (x y : LinkChange) → is_same_link_key x y ≡ true → link_number x ≡ link_number y
unfolding link_number
same_link_number LinkChange.Cut LinkChange.Cut same = refl
same_link_number (LinkChange.Delay x) (LinkChange.Delay y) same = refl
same_link_number (LinkChange.Loss x) (LinkChange.Loss y) same = refl
same_link_number _ _ same = absurd cc

same_node_number : (x y : NodeChange) → is_same_node_key x y ≡ true → node_number x ≡ node_number y
unfolding node_number
same_node_number (NodeChange.Clock x) (NodeChange.Clock y) same = refl
same_node_number (NodeChange.Clock x) NodeChange.Pause same = absurd cc
same_node_number (NodeChange.Clock x) NodeChange.Kill same = absurd cc
same_node_number NodeChange.Pause (NodeChange.Clock y) same = absurd cc
same_node_number NodeChange.Kill (NodeChange.Clock y) same = absurd cc
same_node_number NodeChange.Pause NodeChange.Pause same = refl
same_node_number NodeChange.Pause NodeChange.Kill same = refl
same_node_number NodeChange.Kill NodeChange.Pause same = refl
same_node_number NodeChange.Kill NodeChange.Kill same = refl

-- an entry that repeats another has its rank
same_rank : (names : List (List ℕ)) (e d : Entry) → repeats e d ≡ true → rank names e ≡ rank names d
unfolding rank
same_rank names (OfLink a b x) (OfLink c d y) same =
    let p = and_parts (bytes_eq a c) (bytes_eq b d && is_same_link_key x y) same in
    let q = and_parts (bytes_eq b d) (is_same_link_key x y) p.1 in
    rw ((bytes_eq-Decides a c).0 p.0, (bytes_eq-Decides b d).0 q.0, same_link_number x y q.1) refl
same_rank names (OfNode a x) (OfNode b y) same =
    let p = and_parts (bytes_eq a b) (is_same_node_key x y) same in
    rw ((bytes_eq-Decides a b).0 p.0, same_node_number x y p.1) refl
same_rank names (OfLink a b x) (OfNode c y) same = absurd cc
same_rank names (OfNode a x) (OfLink c d y) same = absurd cc

-- an entry of a list that climbs repeats none before it
climbs-once : (names : List (List ℕ)) (low high : ℕ) (es : List Entry) (k : ℕ) (e : Entry) → Climbs names low high es → slice_get es k ≡ Some e
    → (low ≤ rank names e) × (list_any (repeats e) (take k es) ≡ false)
unfolding Climbs
climbs-once names low high [] k e climbs at = absurd cc
climbs-once names low high (d ∷ ds) zero e climbs at = let same : d ≡ e = cc in (subst (λ x. low ≤ rank names x) same climbs.0, refl)
climbs-once names low high (d ∷ ds) (suc k) e climbs at =
    let rest = climbs-once names (rank names d + 1) high ds k e climbs.1 at in (
      omega (arith, climbs.0, rest.0),
      elim (repeats e d) as (λ t. repeats e d ≡ t → (t || list_any (repeats e) (take k ds)) ≡ false) [
        | true ↦ λ is. let same = same_rank names e d is in absurd (omega (arith, same, rest.0))
        | false ↦ λ is. rest.1
      ] refl,
    )

climbs-wider : (names : List (List ℕ)) (low high lower higher : ℕ) (es : List Entry) → lower ≤ low → high ≤ higher → Climbs names low high es → Climbs names lower higher es
unfolding Climbs
climbs-wider names low high lower higher [] p q climbs = omega arith
climbs-wider names low high lower higher (e ∷ es) p q climbs =
    (omega (arith, climbs.0), climbs-wider names (rank names e + 1) high (rank names e + 1) higher es (omega arith) q climbs.1)

climbs-append : (names : List (List ℕ)) (low middle high : ℕ) (xs ys : List Entry) → Climbs names low middle xs → Climbs names middle high ys → Climbs names low high (xs ++ ys)
unfolding Climbs
climbs-append names low middle high [] ys first second = climbs-wider names middle high low high ys first (omega arith) second
climbs-append names low middle high (x ∷ xs) ys first second = (first.0, climbs-append names (rank names x + 1) middle high xs ys first.1 second)

-- lists that climb one after another
climbs-flat_map : (names : List (List ℕ)) (g : ℕ → ℕ) (f : ℕ → List Entry) (s m : ℕ) → ((x : ℕ) → Climbs names (g x) (g (x + 1)) (f x))
    → Climbs names (g s) (g (s + m)) (flat_map f (range_with_len s m))
unfolding Climbs
climbs-flat_map names g f s zero each = let e : g s ≡ g (s + 0) = ap g (sym (add-zero s)) in omega arith
climbs-flat_map names g f s (suc m) each =
    let e : (s + 1) + m ≡ s + suc m = omega arith in
    climbs-append names (g s) (g (s + 1)) (g (s + suc m)) (f s) (flat_map f (range_with_len (s + 1) m)) (each s)
    (subst (λ k. Climbs names (g (s + 1)) (g k) (flat_map f (range_with_len (s + 1) m))) e (climbs-flat_map names g f (s + 1) m each))

climbs-filter_map : (names : List (List ℕ)) (g : ℕ → ℕ) (h : ℕ → Option Entry) (s m : ℕ) → ((x : ℕ) → g x ≤ g (x + 1))
    → ((x : ℕ) (e : Entry) → h x ≡ Some e → (g x ≤ rank names e) × (rank names e < g (x + 1)))
    → Climbs names (g s) (g (s + m)) (filter_map h (range_with_len s m))
unfolding Climbs
climbs-filter_map names g h s zero rises each = let e : g s ≡ g (s + 0) = ap g (sym (add-zero s)) in omega arith
climbs-filter_map names g h s (suc m) rises each =
    let e : (s + 1) + m ≡ s + suc m = omega arith in
    let rest : Climbs names (g (s + 1)) (g (s + suc m)) (filter_map h (range_with_len (s + 1) m)) =
    subst (λ k. Climbs names (g (s + 1)) (g k) (filter_map h (range_with_len (s + 1) m))) e (climbs-filter_map names g h (s + 1) m rises each) in
    elim (h s) as (λ o. h s ≡ o → Climbs names (g s) (g (s + suc m)) (cons_option o (filter_map h (range_with_len (s + 1) m)))) [
      | None ↦ λ is. climbs-wider names (g (s + 1)) (g (s + suc m)) (g s) (g (s + suc m)) (filter_map h (range_with_len (s + 1) m)) (rises s) (omega arith) rest
      | Some x ↦ λ is.
          let there = each s x is in
          (there.0, climbs-wider names (g (s + 1)) (g (s + suc m)) (rank names x + 1) (g (s + suc m)) (filter_map h (range_with_len (s + 1) m)) (omega (arith, there.1)) (omega arith) rest)
    ] refl

part_number : (section : Section) (link : Link) (says : LinkChange) → link_change section link ≡ Some says → link_number says ≡ number section
unfolding link_number number
part_number Section.Cut link says is_written = rw (if_gives link.cut LinkChange.Cut says is_written) refl
part_number Section.Slow link says is_written = rw (if_gives (nat_lt 0 link.delay) _ says is_written) refl
part_number Section.Loss link says is_written = rw (if_gives (nat_lt 0 link.loss) _ says is_written) refl
part_number Section.Down link says is_written = absurd cc
part_number Section.Clock link says is_written = absurd cc

life_number : (life : Life) (says : NodeChange) → life_change life ≡ Some says → node_number says ≡ 3
unfolding node_number
life_number Running says is_written = absurd cc
life_number Paused says is_written = let e : says ≡ NodeChange.Pause = cc in rw e refl
life_number Killed says is_written = let e : says ≡ NodeChange.Kill = cc in rw e refl

node_part_number : (section : Section) (cell : NodeCell) (says : NodeChange) → node_change section cell ≡ Some says → node_number says ≡ number section
unfolding node_number number
node_part_number Section.Down cell says is_written = life_number cell.process says is_written
node_part_number Section.Clock cell says is_written = rw (unless_gives (is_zero cell.clock) _ says is_written) refl
node_part_number Section.Cut cell says is_written = absurd cc
node_part_number Section.Slow cell says is_written = absurd cc
node_part_number Section.Loss cell says is_written = absurd cc

-- where the entries of the node or source x begin, under the k-th key of n nodes
start_of : ℕ → ℕ → ℕ → ℕ
start_of n k x = (k * n + x) * n

link_rank : (env : EnvValue) (section : Section) (a b : ℕ) (entry : Entry) → CanStart env → link_entry env section a b ≡ Some entry
    → rank env.names entry ≡ start_of (length env.names) (number section) a + b
unfolding rank start_of
link_rank env section a b entry starts made =
    let p = link_parts env section a b entry made in
    let from_place = place_of-at env.names a p.from starts.named p.from_at in
    let to_place = place_of-at env.names b p.to starts.named p.to_at in
    ap (rank env.names) p.is ∙ rw (part_number section p.link p.says p.is_written, from_place, to_place) refl

node_rank : (env : EnvValue) (section : Section) (a : ℕ) (entry : Entry) → CanStart env → node_entry env section a ≡ Some entry
    → rank env.names entry ≡ start_of (length env.names) (number section) a
unfolding rank start_of
node_rank env section a entry starts made =
    let p = node_parts env section a entry made in
    let place = place_of-at env.names a p.name starts.named p.name_at in
    ap (rank env.names) p.is ∙ rw (node_part_number section p.cell p.says p.is_written, place) refl

next_start : (n k x : ℕ) → start_of n k (x + 1) ≡ start_of n k x + n
unfolding start_of
next_start n k x = omega arith

next_key : (n k : ℕ) → start_of n k (0 + n) ≡ start_of n (k + 1) 0
unfolding start_of
next_key n k = omega arith

link_entries_climb : (env : EnvValue) (section : Section) → CanStart env
    → Climbs env.names (start_of (length env.names) (number section) 0) (start_of (length env.names) (number section + 1) 0)
    (flat_map (λ a. filter_map (link_entry env section a) (places env)) (places env))
link_entries_climb env section starts =
    let n = length env.names in
    let k = number section in
    let each : (a : ℕ) → Climbs env.names (start_of n k a) (start_of n k (a + 1)) (filter_map (link_entry env section a) (places env)) =
    λ a.
    let inner = climbs-filter_map env.names (λ b. start_of n k a + b) (link_entry env section a) 0 n (λ b. omega arith)
    (λ b e made. let is = link_rank env section a b e starts made in (omega (arith, is), omega (arith, is))) in
    climbs-wider env.names (start_of n k a + 0) (start_of n k a + (0 + n)) (start_of n k a) (start_of n k (a + 1)) (filter_map (link_entry env section a) (places env))
    (omega arith) (omega (arith, next_start n k a)) inner
    in
    subst (λ high. Climbs env.names (start_of n k 0) high (flat_map (λ a. filter_map (link_entry env section a) (places env)) (places env))) (next_key n k)
    (climbs-flat_map env.names (start_of n k) (λ a. filter_map (link_entry env section a) (places env)) 0 n each)

node_entries_climb : (env : EnvValue) (section : Section) → CanStart env
    → Climbs env.names (start_of (length env.names) (number section) 0) (start_of (length env.names) (number section + 1) 0)
    (filter_map (node_entry env section) (places env))
node_entries_climb env section starts =
    let n = length env.names in
    let k = number section in
    let some : 0 < n = starts.few.0 in
    subst (λ high. Climbs env.names (start_of n k 0) high (filter_map (node_entry env section) (places env))) (next_key n k)
    (climbs-filter_map env.names (start_of n k) (node_entry env section) 0 n (λ a. omega (arith, next_start n k a))
    (λ a e made. let is = node_rank env section a e starts made in (omega (arith, is), omega (arith, is, next_start n k a))))

-- all entries that are written climb, so none repeats another
all_climb : (env : EnvValue) → CanStart env → Climbs env.names (start_of (length env.names) 0 0) (start_of (length env.names) 5 0) (flat_map (entries_written env) sections)
unfolding number Climbs
all_climb env starts =
    let n = length env.names in
    let last : Climbs env.names (start_of n 5 0) (start_of n 5 0) [] = omega arith in
    climbs-append env.names (start_of n 0 0) (start_of n 1 0) (start_of n 5 0) (entries_written env Section.Cut) _ (link_entries_climb env Section.Cut starts)
    (climbs-append env.names (start_of n 1 0) (start_of n 2 0) (start_of n 5 0) (entries_written env Section.Slow) _ (link_entries_climb env Section.Slow starts)
    (climbs-append env.names (start_of n 2 0) (start_of n 3 0) (start_of n 5 0) (entries_written env Section.Loss) _ (link_entries_climb env Section.Loss starts)
    (climbs-append env.names (start_of n 3 0) (start_of n 4 0) (start_of n 5 0) (entries_written env Section.Down) _ (node_entries_climb env Section.Down starts)
    (climbs-append env.names (start_of n 4 0) (start_of n 5 0) (start_of n 5 0) (entries_written env Section.Clock) [] (node_entries_climb env Section.Clock starts) last))))

-- no entry that is written is in error
pub written_sound : (env : EnvValue) → CanStart env → AreSound env.names (flat_map (entries_written env) sections)
written_sound env starts = λ place.
    let entries = flat_map (entries_written env) sections in
    elim (slice_get entries place)
    as (λ o. slice_get entries place ≡ o → option_and_then (entry_error_after env.names (take place entries)) o ≡ None) [
      | None ↦ λ none. refl
      | Some e ↦ λ at.
          let own : entry_error env.names e ≡ None = subst (λ x. entry_error env.names x ≡ None) (get_or_from_slice_get entries place e e at)
          (All-get_or (λ x. entry_error env.names x ≡ None) entries place e (slice_get_within entries place e at) (all_sound env starts)) in
          let once = (climbs-once env.names _ _ entries place e (all_climb env starts) at).1 in
          rw (own, once) refl
    ] refl
