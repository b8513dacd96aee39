-- Where a name stands in the set of names, that names stay apart when one more is added, and the
-- places of all.
use Rattle.std.proofs.Common.{◌≡◌, ℕ, ◌+◌, ◌<◌, ◌≤◌, Bool, false, cond, List, [], ◌∷◌, ◌++◌, length, map, take, drop, get_or, refl, ap, ◌∙◌, sym, arith, suc, inl, inr, append_assoc, length-append, drop-cons, String}
use Rattle.std.proofs.Math.Seq.{get_or-append_seam, take-append_seam}
use Rattle.std.specs.List.{list_any, prefix_len, position, AllZip}
use Rattle.std.specs.Prelude.{not, ◌||◌, ◌==◌, if◌then◌else◌}
use Rattle.std.specs.Str.{bytes_eq}
use Rattle.std.specs.String.{string_bytes, string_eq}
use Rattle.std.proofs.lemmas.Bool.{cases_lt, eq-eqb, false≢true}
use Rattle.std.proofs.lemmas.List.FromFn.{map-range_with_len_more}
use Rattle.std.proofs.lemmas.List.{length-map, map-id, map-append, length-take-le, take-append-drop}
use Rattle.jh_env.specs.Names.{AreNodeNames, AreFew, MayFollow, node_places, RefusesName, RefusesSomeName, RefusesNames}
use Rattle.jh_env.specs.declared.names.NodesError.{NodesError}
use Rattle.jh_env.specs.declared.names.NodesError.TheVariants.{NoNodes, TooManyNodes, BadName, DuplicateName, OutOfMemory}

prefix_len-map : {X Y : Type 0} (p : Y → Bool) (f : X → Y) (xs : List X) → prefix_len p (map f xs) ≡ prefix_len (λ x. p (f x)) xs
prefix_len-map p f [] = refl
prefix_len-map p f (x ∷ xs) = ap (λ n. cond (p (f x)) (1 + n) 0) (prefix_len-map p f xs)

-- the first place among the images
pub position-map : {X Y : Type 0} (p : Y → Bool) (f : X → Y) (xs : List X) → position p (map f xs) ≡ position (λ x. p (f x)) xs
position-map p f xs = rw (prefix_len-map (λ y. not (p y)) f xs, length-map xs f)

-- a test of the images
pub list_any-map : {X Y : Type 0} (p : Y → Bool) (f : X → Y) (xs : List X) → list_any p (map f xs) ≡ list_any (λ x. p (f x)) xs
list_any-map p f [] = refl
list_any-map p f (x ∷ xs) = ap (λ b. p (f x) || b) (list_any-map p f xs)

-- a text that is not among the keys goes last
pub text_added : {Z : Type 0} (keys more : List (String Z)) (text : String Z) (name : List ℕ) → string_bytes text ≡ name
    → list_any (λ k. bytes_eq name (string_bytes k)) keys ≡ false → more ≡ (if list_any (string_eq text) keys then keys else keys ++ text ∷ [])
    → map string_bytes more ≡ map string_bytes keys ++ name ∷ []
text_added keys more text name is new m =
    let absent : list_any (string_eq text) keys ≡ false = rw (← is) at new in
    let added : more ≡ keys ++ text ∷ [] = rw absent at m in
    rw (added, ← is) (map-append string_bytes keys (text ∷ []))

-- each of the first n may stand after those before it
abbrev pub MayFollowBelow : List (List ℕ) → ℕ → Type 0
MayFollowBelow names n = (i : ℕ) → i < n → MayFollow (take i names) (get_or names i [])

-- the same of the list of the first ones
pub node_names : (names first rest : List (List ℕ)) (n : ℕ) → names ≡ first ++ rest → length first ≤ n → MayFollowBelow names n → AreNodeNames first
node_names names first rest n whole few good before after name split =
    let e : names ≡ before ++ (name ∷ (after ++ rest)) = whole ∙ rw (split, append_assoc before (name ∷ after) rest) refl in
    let length_is : length first ≡ length before + length (name ∷ after) = rw split (length-append before (name ∷ after)) in
    let below : length before < n = omega arith in
    let at : get_or names (length before) [] ≡ name = rw e (get_or-append_seam before name (after ++ rest) []) in
    let seam : take (length before) names ≡ before = rw e (take-append_seam before (name ∷ (after ++ rest))) in
    rw (at, seam) at (good (length before) below)

some_name_refuses : (names : List (List ℕ)) (e : NodesError) → AreFew names → RefusesSomeName names e → RefusesNames names e
some_name_refuses names NoNodes few h = absurd h.5
some_name_refuses names TooManyNodes few h = absurd h.5
some_name_refuses names BadName few h = (few, h)
some_name_refuses names DuplicateName few h = (few, h)
some_name_refuses names OutOfMemory few h = (few, h)

-- where the name at i is the first that is refused
pub refused_at : (names : List (List ℕ)) (i : ℕ) (e : NodesError) → AreFew names → i < length names → MayFollowBelow names i
    → RefusesName (take i names) (get_or names i []) e → RefusesNames names e
refused_at names i e few below good refuses =
    let seam : names ≡ take i names ++ (get_or names i [] ∷ drop (suc i) names) = sym (take-append-drop i names) ∙ ap (λ r. take i names ++ r) (drop-cons names i [] below) in
    let before_good : AreNodeNames (take i names) = node_names names (take i names) (drop i names) i (sym (take-append-drop i names)) (omega (arith, length-take-le i names)) good in
    some_name_refuses names e few (take i names, drop (suc i) names, get_or names i [], seam, before_good, refuses)

-- a number that is not nought
pub above_nought : (n : ℕ) → false ≡ (n == 0) → 0 < n
above_nought n h = elim (cases_lt 0 n) [ inl lt ↦ lt | inr ge ↦ absurd (let e : n ≡ 0 = omega arith in false≢true (h ∙ eq-eqb n 0 e)) ]

-- one more place goes last
pub place_push : (count : ℕ) → node_places (count + 1) ≡ node_places count ++ count ∷ []
place_push count =
    sym (map-id (node_places (count + 1))) ∙ map-range_with_len_more (λ k. k) 0 count count (omega arith)
    ∙ ap (λ ks. ks ++ count ∷ []) (map-id (node_places count))

-- what is cloned one by one has the same texts
pub same_texts : {Z : Type 0} (keys copies : List (String Z)) → AllZip (λ s t. string_bytes t ≡ string_bytes s) keys copies → map string_bytes copies ≡ map string_bytes keys
same_texts [] [] h = refl
same_texts [] (y ∷ ys) h = absurd h
same_texts (x ∷ xs) [] h = absurd h
same_texts (x ∷ xs) (y ∷ ys) h = rw (h.0, same_texts xs ys h.1) refl

-- and is as long
pub as_many_texts : {Z : Type 0} (keys copies : List (String Z)) → AllZip (λ s t. string_bytes t ≡ string_bytes s) keys copies → length copies ≡ length keys
as_many_texts keys copies h = sym (length-map copies string_bytes) ∙ ap length (same_texts keys copies h) ∙ length-map keys string_bytes
