-- Lists of active faults: which ids are active, what is new in one list beside another, and lists in which no two
-- faults have one id.
use Rattle.std.proofs.Common.{◌≡◌, ℕ, zero, suc, ◌<◌, Bool, true, false, cond, not, [], ◌∷◌, ◌++◌, length, get_or, refl, sym, ap, ◌∙◌, arith, subst, append-nil}
use Rattle.std.specs.Prelude.{ℤ, ◌||◌, filter, remove}
use Rattle.std.specs.Ordering.{int_eq}
use Rattle.std.proofs.lemmas.Bool.Decides.{Decides-int_eq}
use Rattle.jh_edn.specs.Edn.{Edn}
use Rattle.jh_bands.specs.Bands.{new_faults}
use Rattle.jh_bands.specs.BandsInside.{HaveOwnIds}
use Rattle.jh_bands.specs.Replay.{ActiveList, is_under, is_id_active, list_without}

-- ---- ids

pub same_id : (a b : ℤ) → int_eq a b ≡ true → a ≡ b
same_id a b e = (Decides-int_eq a b).0 e

pub id_itself : (a : ℤ) → int_eq a a ≡ true
id_itself a = (Decides-int_eq a a).1 refl

from_false : (b : Bool) → (b ≡ true → ⊥) → b ≡ false
from_false true unlike = absurd (unlike refl)
from_false false unlike = refl

pub not_both : (b : Bool) → b ≡ true → b ≡ false → ⊥
not_both true e f = cc
not_both false e f = cc

pub other_id : (a b : ℤ) → int_eq a b ≡ false → int_eq b a ≡ false
other_id a b e = from_false (int_eq b a) (λ alike. not_both (int_eq a b) (subst (λ c. int_eq c b ≡ true) (same_id b a alike) (id_itself b)) e)

swap_or : (a b c : Bool) → (a || (b || c)) ≡ (b || (a || c))
swap_or true true c = refl
swap_or true false c = refl
swap_or false true c = refl
swap_or false false c = refl

pub or_left : (a b : Bool) → a ≡ true → (a || b) ≡ true
or_left true b e = refl
or_left false b e = absurd (cc)

pub or_right : (a b : Bool) → b ≡ true → (a || b) ≡ true
or_right true b e = refl
or_right false b e = e

pub or_false : (a b : Bool) → (a || b) ≡ false → (a ≡ false) × (b ≡ false)
or_false true b e = absurd (cc)
or_false false b e = (refl, e)

pub both_false : (a b : Bool) → a ≡ false → b ≡ false → (a || b) ≡ false
both_false true b e f = e
both_false false b e f = f

-- ---- which ids are active

-- with one fault more
pub active_put : (id : ℤ) (xs ys : ActiveList) (f : ℤ × Edn) → is_id_active id (xs ++ f ∷ ys) ≡ (is_under id f || is_id_active id (xs ++ ys))
active_put id [] ys f = refl
active_put id (x ∷ xs) ys f = ap (λ b. is_under id x || b) (active_put id xs ys f) ∙ swap_or (is_under id x) (is_under id f) (is_id_active id (xs ++ ys))

pub active_filtered : (p : (ℤ × Edn) → Bool) (id : ℤ) (xs : ActiveList) → is_id_active id xs ≡ false → is_id_active id (filter p xs) ≡ false
active_filtered p id [] e = refl
active_filtered p id (x ∷ xs) e =
    kept (p x) (or_false (is_under id x) (is_id_active id xs) e).0 (active_filtered p id xs (or_false (is_under id x) (is_id_active id xs) e).1)
  where
    kept : (b : Bool) → is_under id x ≡ false → is_id_active id (filter p xs) ≡ false → is_id_active id (cond b (x ∷ filter p xs) (filter p xs)) ≡ false
    kept true unlike rest = both_false (is_under id x) (is_id_active id (filter p xs)) unlike rest
    kept false unlike rest = rest

-- the fault at a place is active
pub active_at : (xs : ActiveList) (place : ℕ) (d : ℤ × Edn) → place < length xs → is_id_active (get_or xs place d).0 xs ≡ true
active_at [] place d below = absurd (omega arith)
active_at (x ∷ xs) zero d below = or_left (int_eq x.0 x.0) (is_id_active x.0 xs) (id_itself x.0)
active_at (x ∷ xs) (suc place) d below =
    or_right (int_eq x.0 (get_or xs place d).0) (is_id_active (get_or xs place d).0 xs) (active_at xs place d (omega arith))

-- ---- what is new

-- nothing is new where each id was active before
pub none_new : (before xs : ActiveList) → ((id : ℤ) → is_id_active id xs ≡ true → is_id_active id before ≡ true) → new_faults before xs ≡ []
none_new before [] had = refl
none_new before (x ∷ xs) had =
    let was : is_id_active x.0 before ≡ true = had x.0 (or_left (int_eq x.0 x.0) (is_id_active x.0 xs) (id_itself x.0)) in
    skipped (is_id_active x.0 before) was (none_new before xs (λ id e. had id (or_right (is_under id x) (is_id_active id xs) e)))
  where
    skipped : (b : Bool) → b ≡ true → new_faults before xs ≡ [] → cond (not b) (x ∷ new_faults before xs) (new_faults before xs) ≡ []
    skipped true e rest = rest
    skipped false e rest = absurd (cc)

-- one fault is new that was not active before, among others that were
pub one_new : (before xs ys : ActiveList) (f : ℤ × Edn) → is_id_active f.0 before ≡ false
    → ((id : ℤ) → is_id_active id (xs ++ ys) ≡ true → is_id_active id before ≡ true) → new_faults before (xs ++ f ∷ ys) ≡ f ∷ []
one_new before [] ys f new had = first (is_id_active f.0 before) new (none_new before ys had)
  where
    first : (b : Bool) → b ≡ false → new_faults before ys ≡ [] → cond (not b) (f ∷ new_faults before ys) (new_faults before ys) ≡ f ∷ []
    first true e rest = absurd (cc)
    first false e rest = ap (λ fs. f ∷ fs) rest
one_new before (x ∷ xs) ys f new had =
    let was : is_id_active x.0 before ≡ true = had x.0 (or_left (int_eq x.0 x.0) (is_id_active x.0 (xs ++ ys)) (id_itself x.0)) in
    skipped (is_id_active x.0 before) was (one_new before xs ys f new (λ id e. had id (or_right (is_under id x) (is_id_active id (xs ++ ys)) e)))
  where
    skipped : (b : Bool) → b ≡ true → new_faults before (xs ++ f ∷ ys) ≡ f ∷ []
        → cond (not b) (x ∷ new_faults before (xs ++ f ∷ ys)) (new_faults before (xs ++ f ∷ ys)) ≡ f ∷ []
    skipped true e rest = rest
    skipped false e rest = absurd (cc)

pub all_new : (xs : ActiveList) → new_faults [] xs ≡ xs
all_new [] = refl
all_new (x ∷ xs) = ap (λ fs. x ∷ fs) (all_new xs)

-- what is new was not active before
pub new_was_not : (before now : ActiveList) (id : ℤ) → is_id_active id before ≡ true → is_id_active id (new_faults before now) ≡ false
new_was_not before [] id was = refl
new_was_not before (x ∷ xs) id was = kept (is_id_active x.0 before) refl (new_was_not before xs id was)
  where
    apart : is_id_active x.0 before ≡ false → int_eq x.0 id ≡ false
    apart unlike = from_false (int_eq x.0 id) (λ alike. not_both (is_id_active x.0 before) (subst (λ i. is_id_active i before ≡ true) (sym (same_id x.0 id alike)) was) unlike)

    kept : (b : Bool) → is_id_active x.0 before ≡ b → is_id_active id (new_faults before xs) ≡ false
        → is_id_active id (cond (not b) (x ∷ new_faults before xs) (new_faults before xs)) ≡ false
    kept true e rest = rest
    kept false e rest = both_false (int_eq x.0 id) (is_id_active id (new_faults before xs)) (apart e) rest

-- what is active now and was not before is new
pub gone_is_new : (before now : ActiveList) (id : ℤ) → is_id_active id before ≡ false → is_id_active id now ≡ true → is_id_active id (new_faults before now) ≡ true
gone_is_new before [] id unlike is = absurd (cc)
gone_is_new before (x ∷ xs) id unlike is = either (int_eq x.0 id) refl is (λ e. gone_is_new before xs id unlike e)
  where
    shown : (b : Bool) → b ≡ false → int_eq x.0 id ≡ true → is_id_active id (cond (not b) (x ∷ new_faults before xs) (new_faults before xs)) ≡ true
    shown true e alike = absurd (cc)
    shown false e alike = or_left (int_eq x.0 id) (is_id_active id (new_faults before xs)) alike

    behind : (b : Bool) → is_id_active id (new_faults before xs) ≡ true → is_id_active id (cond (not b) (x ∷ new_faults before xs) (new_faults before xs)) ≡ true
    behind true rest = rest
    behind false rest = or_right (int_eq x.0 id) (is_id_active id (new_faults before xs)) rest

    either : (b : Bool) → int_eq x.0 id ≡ b → (b || is_id_active id xs) ≡ true → (is_id_active id xs ≡ true → is_id_active id (new_faults before xs) ≡ true)
        → is_id_active id (new_faults before (x ∷ xs)) ≡ true
    either true alike e rest = shown (is_id_active x.0 before) (subst (λ i. is_id_active i before ≡ false) (sym (same_id x.0 id alike)) unlike) alike
    either false other e rest = behind (is_id_active x.0 before) (rest e)

-- what is new is active
pub new_is : (before now : ActiveList) (id : ℤ) → is_id_active id (new_faults before now) ≡ true → is_id_active id now ≡ true
new_is before now id e = caught (is_id_active id now) refl
  where
    caught : (b : Bool) → is_id_active id now ≡ b → is_id_active id now ≡ true
    caught true is = is
    caught false unlike = absurd (not_both (is_id_active id (new_faults before now)) e (active_filtered (λ fault. not (is_id_active fault.0 before)) id now unlike))

-- ---- no two of one id

pub distinct_filtered : (p : (ℤ × Edn) → Bool) (xs : ActiveList) → HaveOwnIds xs → HaveOwnIds (filter p xs)
distinct_filtered p [] distinct = tt
distinct_filtered p (x ∷ xs) distinct = kept (p x) (active_filtered p x.0 xs distinct.0) (distinct_filtered p xs distinct.1)
  where
    kept : (b : Bool) → is_id_active x.0 (filter p xs) ≡ false → HaveOwnIds (filter p xs) → HaveOwnIds (cond b (x ∷ filter p xs) (filter p xs))
    kept true apart rest = (apart, rest)
    kept false apart rest = rest

pub distinct_behind : (xs : ActiveList) (f : ℤ × Edn) → HaveOwnIds xs → is_id_active f.0 xs ≡ false → HaveOwnIds (xs ++ f ∷ [])
distinct_behind [] f distinct new = (refl, tt)
distinct_behind (x ∷ xs) f distinct new =
    let apart = or_false (int_eq x.0 f.0) (is_id_active f.0 xs) new in
    (active_put x.0 xs [] f ∙ both_false (int_eq f.0 x.0) (is_id_active x.0 (xs ++ [])) (other_id x.0 f.0 apart.0) (ap (is_id_active x.0) (append-nil xs) ∙ distinct.0), distinct_behind xs f distinct.1 apart.1)

-- of a fault that is active, at a place, no other has the id
apart_from : (xs : ActiveList) (place : ℕ) (d : ℤ × Edn) (id : ℤ) → place < length xs → is_id_active id xs ≡ false → int_eq id (get_or xs place d).0 ≡ false
apart_from xs place d id below unlike =
    from_false (int_eq id (get_or xs place d).0)
    (λ alike. not_both (is_id_active id xs) (subst (λ i. is_id_active i xs ≡ true) (sym (same_id id (get_or xs place d).0 alike)) (active_at xs place d below)) unlike)

pub only_at : (xs : ActiveList) (place : ℕ) (d : ℤ × Edn) → HaveOwnIds xs → place < length xs → is_id_active (get_or xs place d).0 (remove xs place) ≡ false
only_at [] place d distinct below = absurd (omega arith)
only_at (x ∷ xs) zero d distinct below = distinct.0
only_at (x ∷ xs) (suc place) d distinct below =
    both_false (int_eq x.0 (get_or xs place d).0) (is_id_active (get_or xs place d).0 (remove xs place))
    (apart_from xs place d x.0 (omega arith) distinct.0) (only_at xs place d distinct.1 (omega arith))

all_kept : (id : ℤ) (xs : ActiveList) → is_id_active id xs ≡ false → list_without id xs ≡ xs
all_kept id [] e = refl
all_kept id (x ∷ xs) e =
    let apart = or_false (is_under id x) (is_id_active id xs) e in kept (is_under id x) apart.0 (all_kept id xs apart.1)
  where
    kept : (b : Bool) → b ≡ false → list_without id xs ≡ xs → cond (not b) (x ∷ list_without id xs) (list_without id xs) ≡ x ∷ xs
    kept true e rest = absurd (cc)
    kept false e rest = ap (λ ws. x ∷ ws) rest

-- to withdraw an id is to take the fault at its place out
pub withdrawn : (xs : ActiveList) (place : ℕ) (d : ℤ × Edn) (id : ℤ) → HaveOwnIds xs → place < length xs → int_eq (get_or xs place d).0 id ≡ true
    → list_without id xs ≡ remove xs place
withdrawn [] place d id distinct below is = absurd (omega arith)
withdrawn (x ∷ xs) zero d id distinct below is =
    gone (is_under id x) is (all_kept id xs (subst (λ i. is_id_active i xs ≡ false) (same_id x.0 id is) distinct.0))
  where
    gone : (b : Bool) → b ≡ true → list_without id xs ≡ xs → cond (not b) (x ∷ list_without id xs) (list_without id xs) ≡ xs
    gone true e rest = rest
    gone false e rest = absurd (cc)
withdrawn (x ∷ xs) (suc place) d id distinct below is =
    stays (is_under id x) (subst (λ i. int_eq x.0 i ≡ false) (same_id (get_or xs place d).0 id is) (apart_from xs place d x.0 (omega arith) distinct.0))
    (withdrawn xs place d id distinct.1 (omega arith) is)
  where
    stays : (b : Bool) → b ≡ false → list_without id xs ≡ remove xs place → cond (not b) (x ∷ list_without id xs) (list_without id xs) ≡ x ∷ remove xs place
    stays true e rest = absurd (cc)
    stays false e rest = ap (λ ws. x ∷ ws) rest
