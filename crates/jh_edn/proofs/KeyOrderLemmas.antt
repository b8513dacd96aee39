-- Keys compare as their parts do, part by part; keys that tie are one.
use Rattle.std.proofs.Common.{◌≡◌, Bool, true, not, ◌&&◌, List, [], ◌∷◌, refl, ap, subst, ◌∙◌, Vec, Global}
use Rattle.std.specs.declared.cmp.Ordering.{Ordering}
use Rattle.std.specs.declared.cmp.Ordering.TheVariants.{Less, Equal, Greater}
use Rattle.std.specs.Ordering.{nat_cmp, int_cmp, ordering_then, ordering_reverse, is_lt, is_eq}
use Rattle.std.specs.Cmp.{IsTotalOrder, IsStrictWeakOrder}
use Rattle.std.specs.Cmp.Lexicographic.{slice_cmp}
use Rattle.std.specs.List.Sorted.{ties, IsSorted, IsSortedBy, IsStable, IsStableBy}
use Rattle.std.proofs.lemmas.Bool.{eqb-false}
use Rattle.std.proofs.lemmas.Cmp.{nat_cmp_total, int_cmp_total, nat_list_cmp_total, lists_total, on_total, then_total, tied_itself}
use Rattle.std.proofs.lemmas.List.MinMax.{ranks_by}
use Rattle.std.proofs.lemmas.Map.Lookups.{exact_unsigned, exact_signed, exact_bytes}
use Rattle.jh_edn.specs.declared.key.Part.{Part}
use Rattle.jh_edn.specs.declared.key.KeyMark.{KeyMark}
use Rattle.jh_edn.specs.declared.key.KeyMark.TheVariants.{Last, More, Nil, Bool as Boolean, Int, Char, Str, Keyword, Symbol, Sequence, Map, Set, Tagged}
use Rattle.jh_edn.specs.contracts.key.PartOrd.TheImpl as part
use Rattle.jh_edn.specs.contracts.key.KeyMarkOrd.TheImpl as mark
use Rattle.jh_edn.specs.Order.{in_order}
use Rattle.jh_edn.proofs.SortLemmas.{sorted_is, map_in_order}
use Rattle.jh_edn.specs.Key.{KeyPart, key_part, key_parts, keys_in, mark_place, part_cmp, key_cmp, is_key_below}

-- ---- the derived order

marks : (a b : KeyMark) → mark.ghosts.cmp a b ≡ nat_cmp (mark_place a) (mark_place b)
marks Last Last = refl
marks More More = refl
marks Nil Nil = refl
marks Boolean Boolean = refl
marks Int Int = refl
marks Char Char = refl
marks Str Str = refl
marks Keyword Keyword = refl
marks Symbol Symbol = refl
marks Sequence Sequence = refl
marks Map Map = refl
marks Set Set = refl
marks Tagged Tagged = refl
marks a b = refl

parts : (a b : Part) → part.ghosts.cmp a b ≡ part_cmp (key_part a) (key_part b)
parts a b = rw (marks a.mark b.mark) refl

-- what a program compares two keys by
abbrev pub held_cmp : List Part → List Part → Ordering
held_cmp = slice_cmp part.ghosts.cmp

pub held_cmp_is : (ps qs : List Part) → held_cmp ps qs ≡ key_cmp (key_parts ps) (key_parts qs)
held_cmp_is [] [] = refl
held_cmp_is [] (q ∷ qs) = refl
held_cmp_is (p ∷ ps) [] = refl
held_cmp_is (p ∷ ps) (q ∷ qs) = λ i. ordering_then (parts p q i) (held_cmp_is ps qs i)

-- ---- it is an order

part_total : IsTotalOrder part_cmp
part_total = then_total (on_total (λ p. mark_place p.mark) nat_cmp_total) (then_total (on_total (λ p. p.number) int_cmp_total) (on_total (λ p. p.text) nat_list_cmp_total))

pub key_total : IsTotalOrder key_cmp
key_total = lists_total part_total

pub key_order : IsStrictWeakOrder is_key_below
key_order = ranks_by key_total (λ (k : List KeyPart). k)

-- ---- what ties is one

pub then_equal : (a b : Ordering) → ordering_then a b ≡ Equal → (a ≡ Equal) × (b ≡ Equal)
then_equal Less b h = absurd cc
then_equal Equal b h = (refl, h)
then_equal Greater b h = absurd cc

mark_exact : (a b : KeyMark) → mark_place a ≡ mark_place b → a ≡ b
mark_exact Last Last h = refl
mark_exact More More h = refl
mark_exact Nil Nil h = refl
mark_exact Boolean Boolean h = refl
mark_exact Int Int h = refl
mark_exact Char Char h = refl
mark_exact Str Str h = refl
mark_exact Keyword Keyword h = refl
mark_exact Symbol Symbol h = refl
mark_exact Sequence Sequence h = refl
mark_exact Map Map h = refl
mark_exact Set Set h = refl
mark_exact Tagged Tagged h = refl
mark_exact a b h = absurd (eqb-false (mark_place a) (mark_place b) refl h)

part_exact : (p q : KeyPart) → part_cmp p q ≡ Equal → p ≡ q
part_exact p q h =
    let first = then_equal (nat_cmp (mark_place p.mark) (mark_place q.mark)) (ordering_then (int_cmp p.number q.number) (slice_cmp nat_cmp p.text q.text)) h in
    let rest = then_equal (int_cmp p.number q.number) (slice_cmp nat_cmp p.text q.text) first.1 in
    let same = mark_exact p.mark q.mark (exact_unsigned (mark_place p.mark) (mark_place q.mark) first.0) in
    let numbers = exact_signed p.number q.number rest.0 in
    let texts = exact_bytes p.text q.text rest.1 in
    λ i. record { mark = same i; number = numbers i; text = texts i }

pub key_exact : (ks ls : List KeyPart) → key_cmp ks ls ≡ Equal → ks ≡ ls
key_exact [] [] h = refl
key_exact [] (l ∷ ls) h = absurd cc
key_exact (k ∷ ks) [] h = absurd cc
key_exact (k ∷ ks) (l ∷ ls) h =
    let p = then_equal (part_cmp k l) (key_cmp ks ls) h in
    λ i. part_exact k l p.0 i ∷ key_exact ks ls p.1 i

-- neither is below the other only where they compare as equal
pub tie_equal : (o p : Ordering) → o ≡ ordering_reverse p → (not (is_lt o) && not (is_lt p)) ≡ true → o ≡ Equal
tie_equal Less p e h = absurd cc
tie_equal Equal p e h = refl
tie_equal Greater Less e h = absurd cc
tie_equal Greater Equal e h = absurd cc
tie_equal Greater Greater e h = absurd cc

equal_is : (o : Ordering) → is_eq o ≡ true → o ≡ Equal
equal_is Less h = absurd cc
equal_is Equal h = refl
equal_is Greater h = absurd cc

pub same_is : (k l : List KeyPart) → is_eq (key_cmp k l) ≡ true → k ≡ l
same_is k l h = key_exact k l (equal_is (key_cmp k l) h)

pub same_itself : (k : List KeyPart) → is_eq (key_cmp k k) ≡ true
same_itself k = rw (tied_itself key_total k) refl

pub ties_exact : (k l : List KeyPart) → ties is_key_below k l ≡ true → k ≡ l
ties_exact k l h = key_exact k l (tie_equal (key_cmp k l) (key_cmp l k) (key_total.antisymm k l) h)

-- ---- a sort gives the keys in order

abbrev held_below : Vec Part Global → Vec Part Global → Bool
held_below x y = is_lt (held_cmp x.items y.items)

abbrev seen_below : Vec Part Global → Vec Part Global → Bool
seen_below x y = is_key_below (key_parts x.items) (key_parts y.items)

below_is : held_below ≡ seen_below
below_is = λ i x y. is_lt (held_cmp_is x.items y.items i)

pub sorted_keys : (vs ws : List (Vec Part Global)) → IsSorted (λ x y. held_cmp x.items y.items) ws → IsStable (λ x y. held_cmp x.items y.items) vs ws
    → keys_in ws ≡ in_order is_key_below (keys_in vs)
sorted_keys vs ws up still =
    let by : Vec Part Global → List KeyPart = λ v. key_parts v.items in
    let order = sorted_is (λ x y. is_key_below (by x) (by y)) (ranks_by key_total by) vs ws (subst (λ lt. IsSortedBy lt ws) below_is up) (subst (λ lt. IsStableBy lt vs ws) below_is still) in
    ap keys_in order ∙ map_in_order by is_key_below vs
