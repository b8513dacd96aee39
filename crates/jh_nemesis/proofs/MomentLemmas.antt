-- Which faults one moment has more than another.
use Rattle.std.proofs.Common.{◌≡◌, ℕ, zero, suc, Bool, true, false, not, List, [], ◌∷◌, ◌++◌, refl, sym, ap, subst, ◌∙◌, arith}
use Rattle.std.specs.Prelude.{if◌then◌else◌, filter}
use Rattle.std.specs.List.{Contains, list_any}
use Rattle.std.proofs.lemmas.Bool.{eq-eqb, eqb-true, or_parts, or_right}
use Rattle.std.proofs.lemmas.List.Elements.{All-contains, All-contains_itself, All-filter, Contains-append_right, filter-append}
use Rattle.std.proofs.lemmas.List.Folds.{list_any-append}
use Rattle.jh_env.specs.Faults.{FaultValue}
use Rattle.jh_nemesis.specs.State.{Active, faults_in, has_id, is_active}
use Rattle.jh_nemesis.specs.Steps.{active_without}
use Rattle.jh_nemesis.specs.Work.{faults_only_in}
use Rattle.jh_nemesis.proofs.CellLemmas.{none_kept}
use Rattle.jh_nemesis.proofs.EffectLemmas.{all_alone, gone, kept}
use Rattle.jh_nemesis.proofs.LawLemmas.{without_middle}

-- a fault of the list is active in it
pub active_there : (f : ℕ × FaultValue) (fs : Active) → Contains fs f → is_active fs f.0 ≡ true
active_there f [] (k, within, at) = absurd (omega arith)
active_there f (g ∷ fs) (zero, within, at) =
    let same : has_id f.0 g ≡ true = eq-eqb g.0 f.0 (ap (λ (h : ℕ × FaultValue). h.0) at) in
    rw same refl
active_there f (g ∷ fs) (suc k, within, at) =
    or_right (has_id f.0 g) (is_active fs f.0) (active_there f fs (k, omega arith, at))

-- none is alone whose ids are all in the other list
pub none_alone : (fs others : Active) → ((f : ℕ × FaultValue) → Contains fs f → is_active others f.0 ≡ true) → faults_only_in fs others ≡ []
none_alone [] others there = refl
none_alone (f ∷ fs) others there =
    rw (there f (zero, omega arith, refl))
    (none_alone fs others (λ g inside. there g (Contains-append_right (f ∷ []) fs g inside)))

-- the one moment has these faults more than the other, under ids that the other has not
pub record HasMore (more fewer named : Active) : Type 0 where
  pub alone : faults_only_in more fewer ≡ named
  pub none : faults_only_in fewer more ≡ []
  pub same : (p : FaultValue → Bool) → list_any p (faults_in named) ≡ false → filter p (faults_in more) ≡ filter p (faults_in fewer)

-- two tests that agree on the elements of a list keep the same of it
same_kept : {X : Type 0} (p q : X → Bool) (xs : List X) → ((x : X) → Contains xs x → p x ≡ q x) → filter p xs ≡ filter q xs
same_kept p q [] h = refl
same_kept p q (x ∷ xs) h =
    rw (h x (zero, omega arith, refl), same_kept p q xs (λ y inside. h y (Contains-append_right (x ∷ []) xs y inside))) refl

inside_kept : {X : Type 0} (p : X → Bool) (xs : List X) (x : X) → Contains (filter p xs) x → Contains xs x
inside_kept p xs x inside = All-contains (Contains xs) (filter p xs) x (All-filter p (Contains xs) xs (All-contains_itself xs)) inside

-- a test that none of those taken out passes keeps the same of those that are left
left_kept : (q : (ℕ × FaultValue) → Bool) (p : FaultValue → Bool) (fs : Active) → list_any p (faults_in (filter q fs)) ≡ false
    → filter p (faults_in fs) ≡ filter p (faults_in (filter (λ f. not (q f)) fs))
left_kept q p [] h = refl
left_kept q p (f ∷ fs) h =
    elim (q f) as (λ t. list_any p (faults_in (if t then f ∷ filter q fs else filter q fs)) ≡ false
    → filter p (faults_in (f ∷ fs)) ≡ filter p (faults_in (if not t then f ∷ filter (λ g. not (q g)) fs else filter (λ g. not (q g)) fs))) [
      | true ↦ λ none. let parts = or_parts (p f.1) (list_any p (faults_in (filter q fs))) none in rw parts.0 (left_kept q p fs parts.1)
      | false ↦ λ none. ap (λ (gs : List FaultValue). if p f.1 then f.1 ∷ gs else gs) (left_kept q p fs none)
    ] h

-- those of an id are taken out
pub id_more : (id : ℕ) (fs : Active) → HasMore fs (active_without fs id) (filter (has_id id) fs)
id_more id fs =
    let left : Active = active_without fs id in
    record {
      alone = same_kept (λ (f : ℕ × FaultValue). not (is_active left f.0)) (has_id id) fs (λ f inside.
          elim (has_id id f) as (λ t. has_id id f ≡ t → not (is_active left f.0) ≡ t) [
            | true ↦ λ is. ap not (ap (is_active left) (eqb-true f.0 id is) ∙ gone id fs)
            | false ↦ λ is. ap not (active_there f left (kept (λ (g : ℕ × FaultValue). not (has_id id g)) f fs inside (ap not is)))
          ] refl);
      none = none_alone left fs (λ f inside. active_there f fs (inside_kept (λ (g : ℕ × FaultValue). not (has_id id g)) fs f inside));
      same = λ p none. left_kept (has_id id) p fs none;
    }

-- one is put among them
pub one_more : (before after : Active) (id : ℕ) (f : FaultValue) → is_active (before ++ after) id ≡ false
    → HasMore (before ++ (id, f) ∷ after) (before ++ after) ((id, f) ∷ [])
one_more before after id f new =
    let one : ℕ × FaultValue = (id, f) in
    let more : Active = before ++ one ∷ after in
    let none = or_parts (is_active before id) (is_active after id) (sym (list_any-append (has_id id) before after) ∙ new) in
    let here : filter (has_id id) more ≡ one ∷ [] =
    filter-append (has_id id) before (one ∷ after) ∙ rw (none_kept (has_id id) before none.0, eq-eqb id id refl, none_kept (has_id id) after none.1) refl in
    subst (λ (named : Active). HasMore more (before ++ after) named) here
    (subst (λ (fewer : Active). HasMore more fewer (filter (has_id id) more)) (without_middle before after id f new) (id_more id more))

pub all_more : (fs : Active) → HasMore fs [] fs
all_more fs = record { alone = all_alone fs; none = refl; same = λ p none. none_kept p (faults_in fs) none }
