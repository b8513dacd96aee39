-- Facts about faults whose links, nodes or bumps are put in order.
use Rattle.std.proofs.Common.{◌≡◌, ℕ, ◌+◌, ◌<◌, Bool, true, false, cond, List, [], ◌∷◌, ◌++◌, fold, option_map, refl, sym, ap, ◌∙◌, arith}
use Rattle.std.specs.Prelude.{ℤ, ◌+ℤ◌, pos, max, if◌then◌else◌, ◌==◌, ◌||◌}
use Rattle.std.specs.List.{list_any}
use Rattle.std.proofs.lemmas.Int.{ints}
use Rattle.std.proofs.lemmas.List.Sorted.{list_any-IsPermutation, All-permutation}
use Rattle.std.specs.Cmp.{IsStrictWeakOrder}
use Rattle.std.proofs.lemmas.Cmp.{nat_cmp_total, on_total, then_total}
use Rattle.std.proofs.lemmas.List.MinMax.{ranks_by}
use Rattle.jh_edn.specs.Order.{put_in_order, in_order}
use Rattle.jh_edn.proofs.CitedLemmas.{in_order_ascends, in_order_is}
use Rattle.jh_env.proofs.ApartLemmas.{in_order_moves}
use Rattle.jh_tables.specs.declared.cells.Life.TheVariants.{Running, Paused, Killed}
use Rattle.jh_tables.specs.declared.cells.Link.{Link}
use Rattle.jh_tables.specs.declared.cells.NodeCell.{NodeCell}
use Rattle.jh_env.specs.Cells.{link_at, node_at}
use Rattle.jh_env.specs.Faults.{FaultValue, FitsCount, names_link, is_same_link}
use Rattle.jh_tables.specs.Faults.FaultValue.{Cut, Slow, Loss, Fix, Pause, Kill, Bump}
use Rattle.jh_step_texts.specs.FaultLaws.{DoesAs}
use Rattle.jh_step_texts.specs.FaultWritten.{fault_in_order, is_link_before, is_node_before, is_bump_before}
use Rattle.jh_env.specs.Overlay.{link_over, node_over, cuts, delay_after_fault, delay_by, loss_by, pauses, kills, bump_by, is_paused, is_killed}

-- ---- what is summed in order

put_folds : {X Z : Type 0} (lt : X → X → Bool) (f : Z → X → Z) → ((z : Z) (x y : X) → f (f z x) y ≡ f (f z y) x) → (z : Z) (x : X) (ys : List X)
    → fold f z (put_in_order lt x ys) ≡ fold f z (x ∷ ys)
put_folds lt f swaps z x [] = refl
put_folds lt f swaps z x (y ∷ ys) =
    elim (lt y x) as (λ t. fold f z (cond t (y ∷ put_in_order lt x ys) (x ∷ y ∷ ys)) ≡ fold f z (x ∷ y ∷ ys)) [
      | true ↦ put_folds lt f swaps (f z y) x ys ∙ ap (λ w. fold f w ys) (swaps z y x)
      | false ↦ refl
    ]

-- a fold whose steps may change places
in_order_folds : {X Z : Type 0} (lt : X → X → Bool) (f : Z → X → Z) → ((z : Z) (x y : X) → f (f z x) y ≡ f (f z y) x) → (z : Z) (xs : List X)
    → fold f z (in_order lt xs) ≡ fold f z xs
in_order_folds lt f swaps z [] = refl
in_order_folds lt f swaps z (x ∷ xs) = put_folds lt f swaps z x (in_order lt xs) ∙ in_order_folds lt f swaps (f z x) xs

any_in_order : {X : Type 0} (lt : X → X → Bool) (p : X → Bool) (xs : List X) → list_any p (in_order lt xs) ≡ list_any p xs
any_in_order lt p xs = sym (list_any-IsPermutation p xs (in_order lt xs) (in_order_moves lt xs))

-- ---- what a fault does

named : (links : List (ℕ × ℕ)) (a b : ℕ) → names_link (in_order is_link_before links) a b ≡ names_link links a b
named links a b = any_in_order is_link_before (λ l. is_same_link l (a, b)) links

cuts_same : (a b : ℕ) (fault : FaultValue) → cuts a b (fault_in_order fault) ≡ cuts a b fault
cuts_same a b (Cut links) = named links a b
cuts_same a b (Slow ms links) = refl
cuts_same a b (Loss level links) = refl
cuts_same a b (Fix ms links) = refl
cuts_same a b (Pause nodes) = refl
cuts_same a b (Kill nodes) = refl
cuts_same a b (Bump bumps) = refl

fixed_same : (a b delay : ℕ) (fault : FaultValue) → delay_after_fault a b delay (fault_in_order fault) ≡ delay_after_fault a b delay fault
fixed_same a b delay (Cut links) = refl
fixed_same a b delay (Slow ms links) = refl
fixed_same a b delay (Loss level links) = refl
fixed_same a b delay (Fix ms links) = ap (λ t. if t then ms else delay) (named links a b)
fixed_same a b delay (Pause nodes) = refl
fixed_same a b delay (Kill nodes) = refl
fixed_same a b delay (Bump bumps) = refl

delay_same : (a b : ℕ) (fault : FaultValue) → delay_by a b (fault_in_order fault) ≡ delay_by a b fault
delay_same a b (Cut links) = refl
delay_same a b (Slow ms links) = ap (λ t. if t then ms else 0) (named links a b)
delay_same a b (Loss level links) = refl
delay_same a b (Fix ms links) = refl
delay_same a b (Pause nodes) = refl
delay_same a b (Kill nodes) = refl
delay_same a b (Bump bumps) = refl

loss_same : (a b : ℕ) (fault : FaultValue) → loss_by a b (fault_in_order fault) ≡ loss_by a b fault
loss_same a b (Cut links) = refl
loss_same a b (Slow ms links) = refl
loss_same a b (Loss level links) = ap (λ t. if t then level else 0) (named links a b)
loss_same a b (Fix ms links) = refl
loss_same a b (Pause nodes) = refl
loss_same a b (Kill nodes) = refl
loss_same a b (Bump bumps) = refl

pauses_same : (a : ℕ) (fault : FaultValue) → pauses a (fault_in_order fault) ≡ pauses a fault
pauses_same a (Cut links) = refl
pauses_same a (Slow ms links) = refl
pauses_same a (Loss level links) = refl
pauses_same a (Fix ms links) = refl
pauses_same a (Pause nodes) = any_in_order is_node_before (λ n. n == a) nodes
pauses_same a (Kill nodes) = refl
pauses_same a (Bump bumps) = refl

kills_same : (a : ℕ) (fault : FaultValue) → kills a (fault_in_order fault) ≡ kills a fault
kills_same a (Cut links) = refl
kills_same a (Slow ms links) = refl
kills_same a (Loss level links) = refl
kills_same a (Fix ms links) = refl
kills_same a (Pause nodes) = refl
kills_same a (Kill nodes) = any_in_order is_node_before (λ n. n == a) nodes
kills_same a (Bump bumps) = refl

swaps_int : (z u v : ℤ) → (z +ℤ u) +ℤ v ≡ (z +ℤ v) +ℤ u
swaps_int z u v = omega (arith, ints)

bump_same : (a : ℕ) (fault : FaultValue) → bump_by a (fault_in_order fault) ≡ bump_by a fault
bump_same a (Cut links) = refl
bump_same a (Slow ms links) = refl
bump_same a (Loss level links) = refl
bump_same a (Fix ms links) = refl
bump_same a (Pause nodes) = refl
bump_same a (Kill nodes) = refl
bump_same a (Bump bumps) =
    in_order_folds is_bump_before (λ z n. z +ℤ (if n.0 == a then n.1 else pos 0))
    (λ z x y. swaps_int z (if x.0 == a then x.1 else pos 0) (if y.0 == a then y.1 else pos 0)) (pos 0) bumps

-- ---- among other faults

any_among : {X : Type 0} (p : X → Bool) (x y : X) → p x ≡ p y → (before after : List X) → list_any p (before ++ x ∷ after) ≡ list_any p (before ++ y ∷ after)
any_among p x y same [] after = ap (λ t. t || list_any p after) same
any_among p x y same (b ∷ before) after = ap (λ t. p b || t) (any_among p x y same before after)

fold_among : {X Z : Type 0} (f : Z → X → Z) (x y : X) → ((z : Z) → f z x ≡ f z y) → (z : Z) (before after : List X)
    → fold f z (before ++ x ∷ after) ≡ fold f z (before ++ y ∷ after)
fold_among f x y same z [] after = ap (λ w. fold f w after) (same z)
fold_among f x y same z (b ∷ before) after = fold_among f x y same (f z b) before after

link_among : (fault : FaultValue) (before after : List FaultValue) (a b : ℕ) (l : Link)
    → link_over (before ++ fault ∷ after) a b l ≡ link_over (before ++ fault_in_order fault ∷ after) a b l
link_among fault before after a b l =
    let other = fault_in_order fault in
    let cut = any_among (cuts a b) fault other (sym (cuts_same a b fault)) before after in
    let fixed = fold_among (delay_after_fault a b) fault other (λ n. sym (fixed_same a b n fault)) l.delay before after in
    let delay = fold_among (λ n f. n + delay_by a b f) fault other (λ n. ap (λ m. n + m) (sym (delay_same a b fault))) 0 before after in
    let loss = fold_among (λ m f. max m (loss_by a b f)) fault other (λ m. ap (max m) (sym (loss_same a b fault))) l.loss before after in
    λ i. record { cut = l.cut || cut i; delay = fixed i + delay i; loss = loss i }

node_among : (fault : FaultValue) (before after : List FaultValue) (a : ℕ) (n : NodeCell)
    → node_over (before ++ fault ∷ after) a n ≡ node_over (before ++ fault_in_order fault ∷ after) a n
node_among fault before after a n =
    let other = fault_in_order fault in
    let killed = any_among (kills a) fault other (sym (kills_same a fault)) before after in
    let paused = any_among (pauses a) fault other (sym (pauses_same a fault)) before after in
    let clock = fold_among (λ z f. z +ℤ bump_by a f) fault other (λ z. ap (λ w. z +ℤ w) (sym (bump_same a fault))) n.clock before after in
    λ i. record {
      process = if is_killed n.process || killed i then Killed else if is_paused n.process || paused i then Paused else Running;
      clock = clock i;
    }

-- in order, a fault does what it did
pub in_order_does : (fault : FaultValue) → DoesAs (fault_in_order fault) fault
in_order_does fault before after start now overlay = record {
  links = λ a b. overlay.links a b ∙ (λ i. option_map (λ l. link_among fault before after a b l i) (link_at start a b));
  nodes = λ a. overlay.nodes a ∙ (λ i. option_map (λ n. node_among fault before after a n i) (node_at start a));
}

-- in order, it fits where it did
pub in_order_fits : (count : ℕ) (fault : FaultValue) → FitsCount count fault → FitsCount count (fault_in_order fault)
in_order_fits count (Cut links) fits = All-permutation (λ (l : ℕ × ℕ). (l.0 < count) × (l.1 < count)) links _ (in_order_moves is_link_before links) fits
in_order_fits count (Slow ms links) fits = All-permutation (λ (l : ℕ × ℕ). (l.0 < count) × (l.1 < count)) links _ (in_order_moves is_link_before links) fits
in_order_fits count (Loss level links) fits = All-permutation (λ (l : ℕ × ℕ). (l.0 < count) × (l.1 < count)) links _ (in_order_moves is_link_before links) fits
in_order_fits count (Fix ms links) fits = All-permutation (λ (l : ℕ × ℕ). (l.0 < count) × (l.1 < count)) links _ (in_order_moves is_link_before links) fits
in_order_fits count (Pause nodes) fits = All-permutation (λ (n : ℕ). n < count) nodes _ (in_order_moves is_node_before nodes) fits
in_order_fits count (Kill nodes) fits = All-permutation (λ (n : ℕ). n < count) nodes _ (in_order_moves is_node_before nodes) fits
in_order_fits count (Bump bumps) fits = All-permutation (λ (b : ℕ × ℤ). b.0 < count) bumps _ (in_order_moves is_bump_before bumps) fits

-- ---- in order again

again : {X : Type 0} (lt : X → X → Bool) → IsStrictWeakOrder lt → (xs : List X) → in_order lt (in_order lt xs) ≡ in_order lt xs
again lt o xs = in_order_is lt o (in_order lt xs) (in_order_ascends lt o xs)

links_again : (links : List (ℕ × ℕ)) → in_order is_link_before (in_order is_link_before links) ≡ in_order is_link_before links
links_again links =
    let total = then_total (on_total (λ (l : ℕ × ℕ). l.0) nat_cmp_total) (on_total (λ (l : ℕ × ℕ). l.1) nat_cmp_total) in
    again is_link_before (ranks_by total (λ (l : ℕ × ℕ). l)) links

nodes_again : (nodes : List ℕ) → in_order is_node_before (in_order is_node_before nodes) ≡ in_order is_node_before nodes
nodes_again nodes = again is_node_before (ranks_by nat_cmp_total (λ (n : ℕ). n)) nodes

bumps_again : (bumps : List (ℕ × ℤ)) → in_order is_bump_before (in_order is_bump_before bumps) ≡ in_order is_bump_before bumps
bumps_again bumps = again is_bump_before (ranks_by nat_cmp_total (λ (b : ℕ × ℤ). b.0)) bumps

-- a fault that is in order stays as it is
pub in_order_stays : (fault : FaultValue) → fault_in_order (fault_in_order fault) ≡ fault_in_order fault
in_order_stays (Cut links) = ap Cut (links_again links)
in_order_stays (Slow ms links) = ap (Slow ms) (links_again links)
in_order_stays (Loss level links) = ap (Loss level) (links_again links)
in_order_stays (Fix ms links) = ap (Fix ms) (links_again links)
in_order_stays (Pause nodes) = ap Pause (nodes_again nodes)
in_order_stays (Kill nodes) = ap Kill (nodes_again nodes)
in_order_stays (Bump bumps) = ap Bump (bumps_again bumps)
