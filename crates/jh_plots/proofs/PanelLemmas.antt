-- Panels, their headings and their groups.
use Rattle.std.proofs.Common.{◌≡◌, ◌∙◌, ℕ, zero, suc, ◌+◌, ◌-◌, ◌<◌, ◌≤◌, false, cond, List, [], ◌∷◌, ◌++◌, length, get_or, take, drop, Option, sym, ap, subst, arith}
use Rattle.std.specs.Prelude.{◌==◌, codes}
use Rattle.std.specs.Option.{option_map_or}
use Rattle.std.specs.List.{AllZip, enumerate_from, flat_map, join_by, range_with_len}
use Rattle.std.proofs.lemmas.List.{append-nil, append_assoc, drop_more, flat_map_more, get_or-drop, length-drop, take_all, take_more}
use Rattle.std.proofs.lemmas.List.FromFn.{get_or-enumerate_from}
use Rattle.std.proofs.lemmas.Option.{slice_get-get_or}
use Rattle.std.proofs.lemmas.Slice.Zip.{all_zipped_more}
use Rattle.jh_edn.specs.Edn.{Edn, nil}
use Rattle.jh_edn.specs.Print.{print}
use Rattle.jh_plots.specs.Panels.{IsPanelOf, panel_heading, own_calls}
use Rattle.jh_plots.specs.PanelsInside.{IsGroupOf, name_at}
use Rattle.jh_plots.specs.declared.calls.TimedCall.{TimedCall}
use Rattle.jh_plots.specs.declared.panels.Group.{Group}
use Rattle.jh_plots.specs.declared.plot.Panel.{Panel}
use Rattle.jh_plots.specs.declared.scale.Scale.{Scale}
use Rattle.jh_plots.proofs.PointLemmas.{taken}

-- one of each more
pub zip_push : {A B : Type 0} (R : A → B → Type 0) (xs : List A) (i : ℕ) (x : A) (ys zs : List B) (y : B) → i < length xs → x ≡ get_or xs i x → zs ≡ ys ++ y ∷ [] → AllZip R (take i xs) ys → R x y → AllZip R (take (i + 1) xs) zs
zip_push R xs i x ys zs y low is pushed h r =
    subst (λ ws. AllZip R ws zs) (sym (taken xs i x x low is))
    (subst (AllZip R (take i xs ++ x ∷ [])) (sym pushed) (all_zipped_more R (take i xs) ys x y h r))

-- ---- headings

abbrev behind : ℕ × Edn → List ℕ
behind function = codes "," ++ print function.1

name_is : (fs : List (ℕ × Edn)) (k : ℕ) (d : ℕ × Edn) → k < length fs → name_at fs k ≡ print (get_or fs k d).1
name_is fs k d low = ap (λ (o : Option (ℕ × Edn)). option_map_or (λ (f : ℕ × Edn). print f.1) o []) (slice_get-get_or fs k d low)

pub heading_more : (fs : List (ℕ × Edn)) (number : ℕ) (old mid new base : List ℕ) → 8 ≤ number → number < length fs → old ≡ base ++ flat_map (λ function. codes "," ++ print function.1) (take (number - 8) (drop 8 fs)) → mid ≡ old ++ 44 ∷ [] → new ≡ mid ++ name_at fs number
    → new ≡ base ++ flat_map (λ function. codes "," ++ print function.1) (take (number + 1 - 8) (drop 8 fs))
heading_more fs number old mid new base from low was comma named =
    let d : ℕ × Edn = (0, nil) in
    let xs = drop 8 fs in
    let i = number - 8 in
    let x = get_or xs i d in
    let next : number + 1 - 8 ≡ i + 1 = omega (arith, from) in
    let there : 8 + i ≡ number = omega (arith, from) in
    let same : x ≡ get_or fs number d = get_or-drop 8 fs i d ∙ ap (λ k. get_or fs k d) there in
    let within : i < length xs = omega (arith, length-drop 8 fs, from, low) in
    let written : new ≡ old ++ behind x =
    named ∙ (λ k. comma k ++ (name_is fs number d low ∙ ap (λ (f : ℕ × Edn). print f.1) (sym same)) k) ∙ append_assoc old (44 ∷ []) (print x.1) in
    written ∙ ap (λ ys. ys ++ behind x) was ∙ flat_map_more behind base (take i xs) x
    ∙ ap (λ ys. base ++ flat_map behind ys) (sym (take_more xs i d within)) ∙ ap (λ n. base ++ flat_map behind (take n xs)) (sym next)

pub heading_last : (fs : List (ℕ × Edn)) (number : ℕ) (heading : List ℕ) → 8 ≤ length fs → length fs ≤ number → heading ≡ name_at fs 7 ++ flat_map (λ function. codes "," ++ print function.1) (take (number - 8) (drop 8 fs)) → heading ≡ panel_heading fs 7
heading_last fs number heading many past is =
    let d : ℕ × Edn = (0, nil) in
    is ∙ ap (λ ys. name_at fs 7 ++ flat_map behind ys) (take_all (number - 8) (drop 8 fs) (omega (arith, length-drop 8 fs, past)))
    ∙ ap (λ n. n ++ flat_map behind (drop 8 fs)) (name_is fs 7 d (omega (arith, many)))
    ∙ ap (join_by (λ (f : ℕ × Edn). print f.1) (codes ",")) (sym (drop_more fs 7 d (omega (arith, many))))

pub heading_one : (fs : List (ℕ × Edn)) (k : ℕ) (heading : List ℕ) → k < length fs → (k == 7) ≡ false → heading ≡ name_at fs k → heading ≡ panel_heading fs k
heading_one fs k heading low other is =
    let d : ℕ × Edn = (0, nil) in
    let named = join_by (λ (f : ℕ × Edn). print f.1) (codes ",") in
    is ∙ name_is fs k d low ∙ sym (append-nil (print (get_or fs k d).1))
    ∙ ap (λ ys. named (take 1 ys)) (sym (drop_more fs k d low))
    ∙ ap (λ t. named (cond t (drop k fs) (take 1 (drop k fs)))) (sym other)

-- ---- panels of groups

pub numbered_at : {X : Type 0} (xs : List X) (i : ℕ) (x : X) → i < length xs → x ≡ get_or xs i x → (i, x) ≡ get_or (enumerate_from 0 xs) i (i, x)
numbered_at xs i x low is = (λ k. ((let e : i ≡ 0 + i = omega arith in e) k, is k)) ∙ sym (get_or-enumerate_from 0 xs i (i, x) low)

pub panels_combined : (end : ℕ) (scale : Scale) (functions : List (ℕ × Edn)) (calls : List TimedCall) (a n : ℕ) (groups : List Group) (panels : List Panel) → AllZip (IsGroupOf end calls) (range_with_len a n) groups
    → AllZip (λ numbered. IsPanelOf scale functions numbered.0 numbered.1.calls.items) (enumerate_from a groups) panels → AllZip (λ number. IsPanelOf scale functions number (own_calls calls number)) (range_with_len a n) panels
panels_combined end scale functions calls a zero [] [] g p = tt
panels_combined end scale functions calls a zero [] (q ∷ panels) g p = absurd p
panels_combined end scale functions calls a zero (x ∷ groups) panels g p = absurd g
panels_combined end scale functions calls a (suc n) [] panels g p = absurd g
panels_combined end scale functions calls a (suc n) (x ∷ groups) [] g p = absurd p
panels_combined end scale functions calls a (suc n) (x ∷ groups) (q ∷ panels) g p =
    (subst (λ own. IsPanelOf scale functions a own q) g.0.own p.0, panels_combined end scale functions calls (a + 1) n groups panels g.1 p.1)
