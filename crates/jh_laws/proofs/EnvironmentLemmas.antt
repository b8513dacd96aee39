-- What is written of an environment can be printed.
use Rattle.std.proofs.Common.{◌≡◌, ℕ, ◌≤◌, ◌^◌, ◌<◌, true, false, List, [], ◌∷◌, ◌++◌, codes, map, filter_map, flat_map, Option, Some, None, refl, arith}
use Rattle.std.specs.Prelude.{ℤ, pos, negsuc, FitsSigned, IfSome, if◌then◌else◌, nat_lt, slice_get, ◌≤ℤ◌, ◌+ℤ◌}
use Rattle.std.specs.Int.{w64}
use Rattle.std.specs.List.{AllByRecursion, cons_option}
use Rattle.std.proofs.lemmas.Int.{ints}
use Rattle.jh_edn.specs.Bytes.{is_first, is_symbol, is_digit}
use Rattle.jh_edn.specs.Edn.{str, vector, items_of}
use Rattle.jh_edn.specs.Printable.{IsPrintable, ArePrintable}
use Rattle.jh_edn.specs.Spelling.{depth_limit, is_name}
use Rattle.jh_env.specs.declared.texts.entries.Section.{Section}
use Rattle.jh_env.specs.declared.texts.entries.LinkChange.{LinkChange}
use Rattle.jh_env.specs.declared.texts.entries.NodeChange.{NodeChange}
use Rattle.jh_env.specs.Cells.{Life, Running, Paused, Killed, Link, NodeCell}
use Rattle.jh_env.specs.Overlay.{EnvValue, link_of, node_of}
use Rattle.jh_env.specs.Starting.{IsStartingLink, IsStartingNode}
use Rattle.jh_env.specs.Text.{◌>>=◌, Entry, OfLink, OfNode, keyword_of, nodes_keyword, sections}
use Rattle.jh_env.specs.TextLaws.{CanStart}
use Rattle.jh_env.specs.TextWritten.{places, link_change, node_change, life_change, is_zero, link_entry, node_entry, entries_written, link_amounts, node_amount, edn_of_entry, edn_of_env}
use Rattle.jh_laws.proofs.KeyLemmas.{keywords_differ}

-- ---- what each of a list is

pub all_kept : {A B : Type 0} (f : A → Option B) (P : B → Type 0) → ((x : A) → IfSome (f x) P) → (xs : List A) → AllByRecursion P (filter_map f xs)
all_kept f P each [] = tt
all_kept f P each (x ∷ xs) =
    elim (f x) as (λ o. IfSome o P → AllByRecursion P (cons_option o (filter_map f xs))) [
      | None ↦ λ h. all_kept f P each xs
      | Some y ↦ λ h. (h, all_kept f P each xs)
    ] (each x)

all_joined : {B : Type 0} (P : B → Type 0) (xs ys : List B) → AllByRecursion P xs → AllByRecursion P ys → AllByRecursion P (xs ++ ys)
all_joined P [] ys h k = k
all_joined P (x ∷ xs) ys h k = (h.0, all_joined P xs ys h.1 k)

all_flat : {A B : Type 0} (f : A → List B) (P : B → Type 0) → ((x : A) → AllByRecursion P (f x)) → (xs : List A) → AllByRecursion P (flat_map f xs)
all_flat f P each [] = tt
all_flat f P each (x ∷ xs) = all_joined P (f x) (flat_map f xs) (each x) (all_flat f P each xs)

if_bound : {A B : Type 0} (o : Option A) (f : A → Option B) (P : B → Type 0) → ((x : A) → o ≡ Some x → IfSome (f x) P) → IfSome (o >>= f) P
if_bound None f P each = tt
if_bound (Some x) f P each = each x refl

-- ---- what is written of an entry

small : (n : ℕ) → n ≤ 10 ^ 12 → FitsSigned w64 (pos n)
small n h = record { sfits = omega (arith, h) }

clock_fits : (z : ℤ) → pos 0 ≤ℤ (z +ℤ pos (10 ^ 12)) → z ≤ℤ pos (10 ^ 12) → FitsSigned w64 z
clock_fits (pos n) low high = let less : n ≤ 10 ^ 12 = omega (arith, ints, high) in small n less
clock_fits (negsuc n) low high = record { sfits = omega (arith, ints, low) }

abbrev LinkPrints : LinkChange → Type 0
LinkPrints says = ArePrintable 61 (items_of (link_amounts says))

link_prints : (section : Section) (link : Link) → IsStartingLink link → IfSome (link_change section link) LinkPrints
link_prints Section.Cut link starts = elim link.cut as (λ t. IfSome (if t then Some LinkChange.Cut else None) LinkPrints) [ true ↦ tt | false ↦ tt ]
link_prints Section.Slow link starts =
    elim (nat_lt 0 link.delay) as (λ t. IfSome (if t then Some (LinkChange.Delay (pos link.delay)) else None) LinkPrints) [
      | true ↦ (small link.delay (omega (arith, starts.0)), tt)
      | false ↦ tt
    ]
link_prints Section.Loss link starts =
    elim (nat_lt 0 link.loss) as (λ t. IfSome (if t then Some (LinkChange.Loss (pos link.loss)) else None) LinkPrints) [
      | true ↦ (small link.loss (omega (arith, starts.1)), tt)
      | false ↦ tt
    ]
link_prints Section.Down link starts = tt
link_prints Section.Clock link starts = tt

paused_is : is_name (codes "paused") ≡ true
unfolding is_name is_first is_symbol is_digit
paused_is = refl

killed_is : is_name (codes "killed") ≡ true
unfolding is_name is_first is_symbol is_digit
killed_is = refl

abbrev NodePrints : NodeChange → Type 0
NodePrints says = IsPrintable 61 (node_amount says)

life_prints : (life : Life) → IfSome (life_change life) NodePrints
life_prints Running = tt
life_prints Paused = paused_is
life_prints Killed = killed_is

node_prints : (section : Section) (node : NodeCell) → IsStartingNode node → IfSome (node_change section node) NodePrints
node_prints Section.Down node starts = life_prints node.process
node_prints Section.Clock node starts =
    elim (is_zero node.clock) as (λ t. IfSome (if t then None else Some (NodeChange.Clock node.clock)) NodePrints) [
      | true ↦ tt
      | false ↦ clock_fits node.clock starts.0 starts.1
    ]
node_prints Section.Cut node starts = tt
node_prints Section.Slow node starts = tt
node_prints Section.Loss node starts = tt

-- ---- the entries

abbrev Prints : Entry → Type 0
Prints entry = IsPrintable 62 (edn_of_entry entry)

some_depth : 0 < 62
some_depth = omega arith

then_prints : {C : Type 0} (o : Option C) (entry : C → Entry) (P : C → Type 0) → IfSome o P → ((x : C) → P x → Prints (entry x)) → IfSome (o >>= (λ says. Some (entry says))) Prints
then_prints None entry P h each = tt
then_prints (Some x) entry P h each = each x h

link_entry_prints : (env : EnvValue) → CanStart env → (section : Section) (a b : ℕ) → IfSome (link_entry env section a b) Prints
link_entry_prints env starts section a b =
    if_bound (slice_get env.names a) _ Prints (λ from at_a.
    if_bound (slice_get env.names b) _ Prints (λ to at_b.
    if_bound (link_of env a b) _ Prints (λ link there.
    then_prints (link_change section link) (OfLink from to) LinkPrints (link_prints section link (starts.links a b link there)) (λ says h. (some_depth, (tt, (tt, h)))))))

node_entry_prints : (env : EnvValue) → CanStart env → (section : Section) (a : ℕ) → IfSome (node_entry env section a) Prints
node_entry_prints env starts section a =
    if_bound (slice_get env.names a) _ Prints (λ name at_a.
    if_bound (node_of env a) _ Prints (λ node there.
    then_prints (node_change section node) (OfNode name) NodePrints (node_prints section node (starts.nodes a node there)) (λ says h. (some_depth, (tt, (h, tt))))))

links_print : (env : EnvValue) → CanStart env → (section : Section) → AllByRecursion Prints (flat_map (λ a. filter_map (link_entry env section a) (places env)) (places env))
links_print env starts section =
    all_flat (λ a. filter_map (link_entry env section a) (places env)) Prints
    (λ a. all_kept (link_entry env section a) Prints (link_entry_prints env starts section a) (places env)) (places env)

nodes_print : (env : EnvValue) → CanStart env → (section : Section) → AllByRecursion Prints (filter_map (node_entry env section) (places env))
nodes_print env starts section = all_kept (node_entry env section) Prints (node_entry_prints env starts section) (places env)

written_print : (env : EnvValue) → CanStart env → (section : Section) → AllByRecursion Prints (entries_written env section)
written_print env starts Section.Cut = links_print env starts Section.Cut
written_print env starts Section.Slow = links_print env starts Section.Slow
written_print env starts Section.Loss = links_print env starts Section.Loss
written_print env starts Section.Down = nodes_print env starts Section.Down
written_print env starts Section.Clock = nodes_print env starts Section.Clock

-- ---- the whole

entries_printable : (entries : List Entry) → AllByRecursion Prints entries → ArePrintable 62 (items_of (map edn_of_entry entries))
entries_printable [] all = tt
entries_printable (entry ∷ entries) all = (all.0, entries_printable entries all.1)

names_printable : (names : List (List ℕ)) → ArePrintable 62 (items_of (map str names))
names_printable [] = tt
names_printable (name ∷ names) = (tt, names_printable names)

section_is : (section : Section) → is_name (keyword_of section) ≡ true
unfolding is_name is_first is_symbol is_digit
section_is Section.Cut = refl
section_is Section.Slow = refl
section_is Section.Loss = refl
section_is Section.Down = refl
section_is Section.Clock = refl

nodes_is : is_name nodes_keyword ≡ true
unfolding is_name is_first is_symbol is_digit
nodes_is = refl

some_depth_more : 0 < 63
some_depth_more = omega arith

section_printable : (env : EnvValue) → CanStart env → (section : Section) → IsPrintable 63 (vector (items_of (map edn_of_entry (entries_written env section))))
section_printable env starts section = (some_depth_more, entries_printable (entries_written env section) (written_print env starts section))

some_depth_whole : 0 < depth_limit
some_depth_whole = omega arith

pub environment_printable : (env : EnvValue) → CanStart env → IsPrintable depth_limit (edn_of_env env)
environment_printable env starts = (
  some_depth_whole,
  (
    nodes_is,
    (some_depth_more, names_printable env.names),
    (
      section_is Section.Cut,
      section_printable env starts Section.Cut,
      (
        section_is Section.Slow,
        section_printable env starts Section.Slow,
        (
          section_is Section.Loss,
          section_printable env starts Section.Loss,
          (
            section_is Section.Down,
            section_printable env starts Section.Down,
            (section_is Section.Clock, section_printable env starts Section.Clock, tt),
          ),
        ),
      ),
    ),
  ),
  keywords_differ (nodes_keyword ∷ map keyword_of sections) refl,
)
