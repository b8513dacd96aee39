-- Edits: the changes that each makes, and the edit that takes it back.
use Rattle.std.proofs.Common.{◌≡◌, ℕ, zero, suc, ◌<◌, ◌≤◌, Bool, true, false, List, [], ◌∷◌, ◌++◌, length, take, drop, get_or, Global, refl, sym, ap, ◌∙◌, arith, subst, append-nil}
use Rattle.std.specs.Prelude.{ℤ, OnOk, Result, Ok, Err, Vec, insert, remove}
use Rattle.std.proofs.lemmas.List.{take-append-drop}
use Rattle.std.proofs.lemmas.List.Edits.{length-insert, length-remove, get_or-insert_at}
use Rattle.jh_edn.specs.Edn.{Edn}
use Rattle.jh_bands.specs.Bands.{new_faults}
use Rattle.jh_bands.specs.BandsInside.{AddChanges, AllowsEdit, ChangeValue, IsNewAt, IsOnlyAt, TakesBack, changes_at, changes_with, edited, view_changes, view_begun, view_all_begun}
use Rattle.jh_bands.specs.declared.edit.Change.{Change}
use Rattle.jh_bands.specs.declared.edit.Edit.{Edit}
use Rattle.jh_bands.specs.declared.edit.Edit.TheVariants.{Insert, Remove, Fill, Clear}
use Rattle.jh_bands.specs.declared.step.Fault.{Fault}
use Rattle.jh_bands.specs.Replay.{ActiveList, is_under, is_id_active}
use Rattle.jh_bands.proofs.ActiveLemmas.{active_put, all_new, none_new, one_new, or_right}

-- ---- changes

abbrev change : ℕ → Bool → ℤ × Edn → ChangeValue
change index begins fault = record { index = index; begins = begins; fault = fault }

-- a fault more
put_in : (index : ℕ) (xs ys : ActiveList) (f : ℤ × Edn) → is_id_active f.0 (xs ++ ys) ≡ false
    → changes_at index (xs ++ ys) (xs ++ f ∷ ys) ≡ change index true f ∷ []
put_in index xs ys f new =
    ap (λ fs. changes_with index true fs ++ changes_with index false (new_faults (xs ++ f ∷ ys) (xs ++ ys))) (one_new (xs ++ ys) xs ys f new (λ id e. e))
    ∙ ap (λ fs. change index true f ∷ changes_with index false fs)
    (none_new (xs ++ f ∷ ys) (xs ++ ys) (λ id e. active_put id xs ys f ∙ or_right (is_under id f) (is_id_active id (xs ++ ys)) e))

-- a fault less
taken_out : (index : ℕ) (xs ys : ActiveList) (f : ℤ × Edn) → is_id_active f.0 (xs ++ ys) ≡ false
    → changes_at index (xs ++ f ∷ ys) (xs ++ ys) ≡ change index false f ∷ []
taken_out index xs ys f new =
    ap (λ fs. changes_with index true fs ++ changes_with index false (new_faults (xs ++ ys) (xs ++ f ∷ ys)))
    (none_new (xs ++ f ∷ ys) (xs ++ ys) (λ id e. active_put id xs ys f ∙ or_right (is_under id f) (is_id_active id (xs ++ ys)) e))
    ∙ ap (λ fs. changes_with index false fs) (one_new (xs ++ ys) xs ys f new (λ id e. e))

pub inserted : (index place : ℕ) (f : ℤ × Edn) (a : ActiveList) → IsNewAt place f a → changes_at index a (insert a place f) ≡ change index true f ∷ []
inserted index place f a new =
    let whole : take place a ++ drop place a ≡ a = take-append-drop place a in
    ap (λ b. changes_at index b (insert a place f)) (sym whole)
    ∙ put_in index (take place a) (drop place a) f (ap (is_id_active f.0) whole ∙ new.new)

one_out : (a : ActiveList) (place : ℕ) (d : ℤ × Edn) → place < length a → a ≡ take place a ++ get_or a place d ∷ drop (suc place) a
one_out [] place d below = absurd (omega arith)
one_out (x ∷ xs) zero d below = refl
one_out (x ∷ xs) (suc place) d below = ap (λ ws. x ∷ ws) (one_out xs place d (omega arith))

pub removed : (index place : ℕ) (a : ActiveList) (d : ℤ × Edn) → IsOnlyAt place a → changes_at index a (remove a place) ≡ change index false (get_or a place d) ∷ []
removed index place a d only =
    ap (λ b. changes_at index b (remove a place)) (one_out a place d only.within)
    ∙ taken_out index (take place a) (drop (suc place) a) (get_or a place d) (only.only d)

pub filled : (index : ℕ) (a fs : ActiveList) → a ≡ [] → changes_at index a fs ≡ changes_with index true fs
filled index a fs none =
    ap (λ b. changes_at index b fs) none ∙ ap (λ ws. changes_with index true ws ++ changes_with index false (new_faults fs [])) (all_new fs)
    ∙ append-nil (changes_with index true fs)

pub unchanged : (index : ℕ) (a : ActiveList) → changes_at index a a ≡ []
unchanged index a = ap (λ fs. changes_with index true fs ++ changes_with index false fs) (none_new a a (λ id e. e))

-- ---- back

pub remove_inserted : (a : ActiveList) (place : ℕ) (f : ℤ × Edn) → place ≤ length a → remove (insert a place f) place ≡ a
remove_inserted a zero f below = refl
remove_inserted [] (suc place) f below = absurd (omega arith)
remove_inserted (x ∷ xs) (suc place) f below = ap (λ ws. x ∷ ws) (remove_inserted xs place f (omega arith))

pub insert_removed : (a : ActiveList) (place : ℕ) (d : ℤ × Edn) → place < length a → insert (remove a place) place (get_or a place d) ≡ a
insert_removed [] place d below = absurd (omega arith)
insert_removed (x ∷ xs) zero d below = refl
insert_removed (x ∷ xs) (suc place) d below = ap (λ ws. x ∷ ws) (insert_removed xs place d (omega arith))

pub only_inserted : (a : ActiveList) (place : ℕ) (f : ℤ × Edn) → IsNewAt place f a → IsOnlyAt place (insert a place f)
only_inserted a place f new =
    record {
      within = omega (arith, length-insert a place f new.within, new.within);
      only = λ d.
          ap (λ g. is_id_active g.0 (remove (insert a place f) place)) (get_or-insert_at a place f d new.within)
          ∙ ap (is_id_active f.0) (remove_inserted a place f new.within) ∙ new.new;
    }

pub new_removed : (a : ActiveList) (place : ℕ) (d : ℤ × Edn) → IsOnlyAt place a → IsNewAt place (get_or a place d) (remove a place)
new_removed a place d only = record { within = omega (arith, length-remove a place only.within, only.within); new = only.only d }

-- ---- what is seen of faults

pub views_insert : (xs : List Fault) (place : ℕ) (f : Fault) → view_all_begun (insert xs place f) ≡ insert (view_all_begun xs) place (view_begun f)
views_insert xs zero f = refl
views_insert [] (suc place) f = refl
views_insert (x ∷ xs) (suc place) f = ap (λ ws. view_begun x ∷ ws) (views_insert xs place f)

pub views_remove : (xs : List Fault) (place : ℕ) → view_all_begun (remove xs place) ≡ remove (view_all_begun xs) place
views_remove [] zero = refl
views_remove (x ∷ xs) zero = refl
views_remove [] (suc place) = refl
views_remove (x ∷ xs) (suc place) = ap (λ ws. view_begun x ∷ ws) (views_remove xs place)

pub view_at : (xs : List Fault) (place : ℕ) (d : Fault) → view_begun (get_or xs place d) ≡ get_or (view_all_begun xs) place (view_begun d)
view_at [] zero d = refl
view_at [] (suc place) d = refl
view_at (x ∷ xs) zero d = refl
view_at (x ∷ xs) (suc place) d = view_at xs place d

pub length_views : (xs : List Fault) → length (view_all_begun xs) ≡ length xs
length_views [] = refl
length_views (x ∷ xs) = ap suc (length_views xs)

-- ---- the changes of an edit

pub changed_by_insert : (edit : Edit) (index place : ℕ) (f : Fault) (a : ActiveList) → edit ≡ Insert place f → AllowsEdit edit a
    → changes_with index true (view_all_begun (f ∷ [])) ≡ changes_at index a (edited edit a)
changed_by_insert edit index place f a is allows =
    let allowed : IsNewAt place (view_begun f) a = subst (λ e. AllowsEdit e a) is allows in
    sym (inserted index place (view_begun f) a allowed) ∙ ap (λ e. changes_at index a (edited e a)) (sym is)

pub changed_by_remove : (edit : Edit) (index place : ℕ) (xs : List Fault) (f : Fault) → edit ≡ Remove place → AllowsEdit edit (view_all_begun xs) → f ≡ get_or xs place f
    → changes_with index false (view_all_begun (f ∷ [])) ≡ changes_at index (view_all_begun xs) (edited edit (view_all_begun xs))
changed_by_remove edit index place xs f is allows same =
    let allowed : IsOnlyAt place (view_all_begun xs) = subst (λ e. AllowsEdit e (view_all_begun xs)) is allows in
    ap (λ fault. change index false fault ∷ []) (ap view_begun same ∙ view_at xs place f)
    ∙ sym (removed index place (view_all_begun xs) (view_begun f) allowed) ∙ ap (λ e. changes_at index (view_all_begun xs) (edited e (view_all_begun xs))) (sym is)

pub changed_by_fill : (edit : Edit) (index : ℕ) (faults : Vec Fault Global) (a : ActiveList) → edit ≡ Fill faults → AllowsEdit edit a
    → changes_with index true (view_all_begun faults.items) ≡ changes_at index a (edited edit a)
changed_by_fill edit index faults a is allows =
    let none : a ≡ [] = subst (λ e. AllowsEdit e a) is allows in
    sym (filled index a (view_all_begun faults.items) none) ∙ ap (λ e. changes_at index a (edited e a)) (sym is)

pub changed_by_clear : (edit : Edit) (index : ℕ) (a : ActiveList) → edit ≡ Clear → changes_with index false a ≡ changes_at index a (edited edit a)
changed_by_clear edit index a is =
    sym (ap (λ fs. changes_with index false fs) (all_new a)) ∙ ap (λ e. changes_at index a (edited e a)) (sym is)

pub adds_same : {A E : Type 0} (r : Result A E) (all found more same : List ChangeValue) → more ≡ same → OnOk r (all ≡ found ++ more) → OnOk r (all ≡ found ++ same)
adds_same (Ok v) all found more same e h = h ∙ ap (λ cs. found ++ cs) e
adds_same (Err v) all found more same e h = tt

-- ---- edits that are made

pub inserted_views : (edit : Edit) (place : ℕ) (f : Fault) (xs ys : List Fault) → edit ≡ Insert place f → ys ≡ insert xs place f → view_all_begun ys ≡ edited edit (view_all_begun xs)
inserted_views edit place f xs ys is made = ap view_all_begun made ∙ views_insert xs place f ∙ ap (λ e. edited e (view_all_begun xs)) (sym is)

pub insert_back : (edit : Edit) (place : ℕ) (f : Fault) (xs ys : List Fault) → edit ≡ Insert place f → AllowsEdit edit (view_all_begun xs) → ys ≡ insert xs place f
    → TakesBack (Remove place) (view_all_begun ys) (view_all_begun xs)
insert_back edit place f xs ys is allows made =
    let new : IsNewAt place (view_begun f) (view_all_begun xs) = subst (λ e. AllowsEdit e (view_all_begun xs)) is allows in
    let seen : view_all_begun ys ≡ insert (view_all_begun xs) place (view_begun f) = ap view_all_begun made ∙ views_insert xs place f in
    record {
      fits = subst (IsOnlyAt place) (sym seen) (only_inserted (view_all_begun xs) place (view_begun f) new);
      edited = ap (λ a. remove a place) seen ∙ remove_inserted (view_all_begun xs) place (view_begun f) new.within;
    }

pub removed_views : (edit : Edit) (place : ℕ) (xs ys : List Fault) → edit ≡ Remove place → ys ≡ remove xs place → view_all_begun ys ≡ edited edit (view_all_begun xs)
removed_views edit place xs ys is made = ap view_all_begun made ∙ views_remove xs place ∙ ap (λ e. edited e (view_all_begun xs)) (sym is)

pub remove_back : (edit : Edit) (place : ℕ) (f : Fault) (xs ys : List Fault) → edit ≡ Remove place → AllowsEdit edit (view_all_begun xs) → ys ≡ remove xs place → f ≡ get_or xs place f
    → TakesBack (Insert place f) (view_all_begun ys) (view_all_begun xs)
remove_back edit place f xs ys is allows made same =
    let only : IsOnlyAt place (view_all_begun xs) = subst (λ e. AllowsEdit e (view_all_begun xs)) is allows in
    let seen : view_all_begun ys ≡ remove (view_all_begun xs) place = ap view_all_begun made ∙ views_remove xs place in
    let fault : view_begun f ≡ get_or (view_all_begun xs) place (view_begun f) = ap view_begun same ∙ view_at xs place f in
    record {
      fits =
          subst (λ a. IsNewAt place (view_begun f) a) (sym seen)
          (subst (λ g. IsNewAt place g (remove (view_all_begun xs) place)) (sym fault) (new_removed (view_all_begun xs) place (view_begun f) only));
      edited =
          ap (λ a. insert a place (view_begun f)) seen ∙ ap (λ g. insert (remove (view_all_begun xs) place) place g) fault
          ∙ insert_removed (view_all_begun xs) place (view_begun f) only.within;
    }

-- a list that stays as it is
pub adds_none : (index : ℕ) (a : ActiveList) (found : List Change) → AddChanges index a a found found
adds_none index a found = sym (append-nil (view_changes found)) ∙ ap (λ cs. view_changes found ++ cs) (sym (unchanged index a))
