-- Bumps that are found one after another: whether each is in its range, and whether a node is bumped twice.
use Rattle.std.proofs.Common.{◌≡◌, ℕ, ◌+◌, ◌<◌, ◌≤◌, Bool, true, false, zero, suc, List, [], ◌∷◌, ◌++◌, length, get_or, drop, take, ap, subst, ◌∙◌, sym, refl, arith, add-one, drop-cons, append_assoc, length-append}
use Rattle.std.specs.Prelude.{Option, Some, None, ◌==◌, ◌^◌, not, nat_lt, nat_le, ℤ, pos, negsuc}
use Rattle.std.specs.List.{filter_map, list_all, list_any}
use Rattle.std.proofs.lemmas.Bool.{and_from, and_parts, le-leb, leb-true, lt-ltb, ltb-true}
use Rattle.std.proofs.lemmas.Int.{ints}
use Rattle.std.proofs.lemmas.List.{append-nil, take_more}
use Rattle.std.proofs.lemmas.List.Elements.{filter_map-append}
use Rattle.std.proofs.lemmas.List.Sums.{AllPass-from_list_all, list_all-from_AllPass}
use Rattle.std.proofs.Math.Seq.{get_or-append_seam, take-append_seam}
use Rattle.jh_env.specs.Faults.{AreApart, AreBumps, IsBumpAmount, is_same_bumped, kept_list}
use Rattle.jh_env.specs.Naming.{are_apart_after, are_bumps, is_bump_amount}

drop_next : {A : Type 0} (xs : List A) (i : ℕ) (x : A) → i < length xs → x ≡ get_or xs i x → drop i xs ≡ x ∷ drop (i + 1) xs
drop_next xs i x below is = rw (add-one, drop-cons xs i x below) (ap (λ y. y ∷ drop (suc i) xs) (sym is))

take_next : {A : Type 0} (xs : List A) (i : ℕ) (x : A) → i < length xs → x ≡ get_or xs i x → take (i + 1) xs ≡ take i xs ++ x ∷ []
take_next xs i x below is = take_more xs i x below ∙ ap (λ y. take i xs ++ y ∷ []) (sym is)

-- one more that stands for nothing
pub found_skip : {A B : Type 0} (f : A → Option B) (xs : List A) (i : ℕ) (x : A) → i < length xs → x ≡ get_or xs i x → f x ≡ None
    → filter_map f (take (i + 1) xs) ≡ filter_map f (take i xs)
found_skip f xs i x below is none =
    ap (filter_map f) (take_next xs i x below is) ∙ filter_map-append f (take i xs) (x ∷ []) ∙ rw none (append-nil (filter_map f (take i xs)))

-- one more that stands for something
pub found_next : {A B : Type 0} (f : A → Option B) (xs : List A) (i : ℕ) (x : A) (y : B) → i < length xs → x ≡ get_or xs i x → f x ≡ Some y
    → filter_map f (take (i + 1) xs) ≡ filter_map f (take i xs) ++ y ∷ []
found_next f xs i x y below is there = ap (filter_map f) (take_next xs i x below is) ∙ filter_map-append f (take i xs) (x ∷ []) ∙ rw there refl

-- what is found of the rest
pub rest_skip : {A B : Type 0} (f : A → Option B) (xs : List A) (i : ℕ) (x : A) → i < length xs → x ≡ get_or xs i x → f x ≡ None
    → filter_map f (drop i xs) ≡ filter_map f (drop (i + 1) xs)
rest_skip f xs i x below is none = ap (filter_map f) (drop_next xs i x below is) ∙ rw none refl

pub rest_next : {A B : Type 0} (f : A → Option B) (xs : List A) (i : ℕ) (x : A) (y : B) → i < length xs → x ≡ get_or xs i x → f x ≡ Some y
    → filter_map f (drop i xs) ≡ y ∷ filter_map f (drop (i + 1) xs)
rest_next f xs i x y below is there = ap (filter_map f) (drop_next xs i x below is) ∙ rw there refl

-- what is kept, where one more stands for nothing
pub kept_skip : {A B : Type 0} (same : B → B → Bool) (f : A → Option B) (xs : List A) (i : ℕ) (x : A) (kept all : List B) → i < length xs → x ≡ get_or xs i x → f x ≡ None
    → kept_list same kept (filter_map f (drop i xs)) ≡ all → kept_list same kept (filter_map f (drop (i + 1) xs)) ≡ all
kept_skip same f xs i x kept all below is none before = ap (kept_list same kept) (sym (rest_skip f xs i x below is none)) ∙ before

-- and where it stands for something
pub kept_next : {A B : Type 0} (same : B → B → Bool) (f : A → Option B) (xs : List A) (i : ℕ) (x : A) (y : B) (kept more all : List B) → i < length xs → x ≡ get_or xs i x → f x ≡ Some y
    → more ≡ kept_list same kept (y ∷ [])
    → kept_list same kept (filter_map f (drop i xs)) ≡ all → kept_list same more (filter_map f (drop (i + 1) xs)) ≡ all
kept_next same f xs i x y kept more all below is there now before =
    ap (λ m. kept_list same m (filter_map f (drop (i + 1) xs))) now ∙ ap (kept_list same kept) (sym (rest_next f xs i x y below is there)) ∙ before

-- one more, of no node
pub apart_skip : {A : Type 0} (f : A → Option (ℕ × ℤ)) (xs : List A) (i : ℕ) (x : A) (all : Bool) → i < length xs → x ≡ get_or xs i x → f x ≡ None
    → are_apart_after (filter_map f (take i xs)) (filter_map f (drop i xs)) ≡ all
    → are_apart_after (filter_map f (take (i + 1) xs)) (filter_map f (drop (i + 1) xs)) ≡ all
apart_skip f xs i x all below is none before =
    rw (found_skip f xs i x below is none) (subst (λ some. are_apart_after (filter_map f (take i xs)) some ≡ all) (rest_skip f xs i x below is none) before)

-- one more, of a node that is not bumped yet
pub apart_next : {A : Type 0} (f : A → Option (ℕ × ℤ)) (xs : List A) (i : ℕ) (x : A) (y : ℕ × ℤ) (all : Bool) → i < length xs → x ≡ get_or xs i x → f x ≡ Some y
    → list_any (λ b. b.0 == y.0) (filter_map f (take i xs)) ≡ false
    → are_apart_after (filter_map f (take i xs)) (filter_map f (drop i xs)) ≡ all
    → are_apart_after (filter_map f (take (i + 1) xs)) (filter_map f (drop (i + 1) xs)) ≡ all
apart_next f xs i x y all below is there new before =
    let step : are_apart_after (filter_map f (take i xs)) (y ∷ filter_map f (drop (i + 1) xs)) ≡ all =
    subst (λ some. are_apart_after (filter_map f (take i xs)) some ≡ all) (rest_next f xs i x y below is there) before in
    rw (found_next f xs i x y below is there) (rw new at step)

-- one more, of a node that is bumped already
pub not_apart : {A : Type 0} (f : A → Option (ℕ × ℤ)) (xs : List A) (i : ℕ) (x : A) (y : ℕ × ℤ) (all : Bool) → i < length xs → x ≡ get_or xs i x → f x ≡ Some y
    → list_any (λ b. b.0 == y.0) (filter_map f (take i xs)) ≡ true
    → are_apart_after (filter_map f (take i xs)) (filter_map f (drop i xs)) ≡ all → false ≡ all
not_apart f xs i x y all below is there again before =
    let step : are_apart_after (filter_map f (take i xs)) (y ∷ filter_map f (drop (i + 1) xs)) ≡ all =
    subst (λ some. are_apart_after (filter_map f (take i xs)) some ≡ all) (rest_next f xs i x y below is there) before in
    rw again at step

bump_in_range : (z : ℤ) → is_bump_amount z ≡ true → IsBumpAmount z
bump_in_range (pos n) h =
    let p = and_parts (nat_lt 0 n) (nat_le n (10 ^ 9)) h in
    let above : 0 < n = ltb-true 0 n p.0 in
    let below = leb-true n (10 ^ 9) p.1 in
    ((λ e. let none : n ≡ 0 = cc in omega arith), omega (arith, ints), omega (arith, ints, below))
bump_in_range (negsuc n) h =
    let below : n < 10 ^ 9 = ltb-true n (10 ^ 9) h in
    ((λ e. absurd cc), omega (arith, ints, below), omega (arith, ints))

above_none : (n : ℕ) → (n ≡ 0 → ⊥) → 0 < n
above_none zero some = absurd (some refl)
above_none (suc n) some = omega arith

range_in_bump : (z : ℤ) → IsBumpAmount z → is_bump_amount z ≡ true
range_in_bump (pos n) (some, low, high) =
    let above : 0 < n = above_none n (λ e. some (ap pos e)) in
    let below : n ≤ 10 ^ 9 = omega (arith, ints, high) in
    and_from (nat_lt 0 n) (nat_le n (10 ^ 9)) (lt-ltb 0 n above) (le-leb n (10 ^ 9) below)
range_in_bump (negsuc n) (some, low, high) =
    let below : n < 10 ^ 9 = omega (arith, ints, low) in lt-ltb n (10 ^ 9) below

not_false : (b : Bool) → not b ≡ true → b ≡ false
not_false true e = absurd cc
not_false false e = refl

apart_in_order : (before bumps : List (ℕ × ℤ)) → are_apart_after before bumps ≡ true
    → (i : ℕ) (d : ℕ × ℤ) → i < length bumps → list_any (λ x. is_same_bumped x (get_or bumps i d)) (before ++ take i bumps) ≡ false
apart_in_order before [] h i d below = absurd (omega arith)
apart_in_order before (b ∷ bs) h zero d below =
    let p = and_parts (not (list_any (λ x. is_same_bumped x b) before)) (are_apart_after (before ++ b ∷ []) bs) h in
    rw (append-nil before) (not_false (list_any (λ x. is_same_bumped x b) before) p.0)
apart_in_order before (b ∷ bs) h (suc i) d below =
    let p = and_parts (not (list_any (λ x. is_same_bumped x b) before)) (are_apart_after (before ++ b ∷ []) bs) h in
    let rest = apart_in_order (before ++ b ∷ []) bs p.1 i d (omega arith) in
    rw (append_assoc before (b ∷ []) (take i bs)) at rest

order_apart : (before bumps : List (ℕ × ℤ)) → AreApart is_same_bumped (before ++ bumps) → are_apart_after before bumps ≡ true
order_apart before [] apart = refl
order_apart before (b ∷ bs) apart =
    let within : length before < length (before ++ b ∷ bs) = omega (arith, length-append before (b ∷ bs)) in
    let here = rw (get_or-append_seam before b bs b, take-append_seam before (b ∷ bs)) at (apart (length before) b within) in
    let rest = order_apart (before ++ b ∷ []) bs (subst (AreApart is_same_bumped) (sym (append_assoc before (b ∷ []) bs)) apart) in
    rw (here, rest) refl

-- bumps that pass the test are bumps
pub bumps_right : (bumps : List (ℕ × ℤ)) → are_bumps bumps ≡ true → AreBumps bumps
bumps_right bumps h =
    let p = and_parts (list_all (λ b. is_bump_amount b.1) bumps) (are_apart_after [] bumps) h in
    let all = AllPass-from_list_all (λ (b : ℕ × ℤ). is_bump_amount b.1) bumps p.0 in
    ((λ k d below. bump_in_range (get_or bumps k d).1 (all k d below)), apart_in_order [] bumps p.1)

-- and bumps pass it
pub right_bumps : (bumps : List (ℕ × ℤ)) → AreBumps bumps → are_bumps bumps ≡ true
right_bumps bumps (amounts, apart) =
    and_from (list_all (λ b. is_bump_amount b.1) bumps) (are_apart_after [] bumps)
    (list_all-from_AllPass (λ (b : ℕ × ℤ). is_bump_amount b.1) bumps (λ k d below. range_in_bump (get_or bumps k d).1 (amounts k d below)))
    (order_apart [] bumps apart)
