-- One key judged after another.
use Rattle.std.proofs.Common.{◌≡◌, ℕ, zero, suc, ◌+◌, ◌<◌, List, [], ◌∷◌, ◌++◌, length, map, refl, sym, ap, subst, ◌∙◌, append_assoc, append-nil, arith}
use Rattle.std.specs.Prelude.{Option, Some, None, All, Result, MatchResult, Ok, Err, is_err, slice_get, option_map, unwrap_or}
use Rattle.std.proofs.lemmas.List.{map_push, length-append, length-map}
use Rattle.std.proofs.lemmas.List.Elements.{All-nil, All-cons, All-get_or, All-head, All-tail, All-push}
use Rattle.std.proofs.lemmas.Option.{get_or_from_slice_get, slice_get-map, slice_get_within}
use Rattle.jh_tasks.proofs.DoneLemmas.{AreDoneInTurn}
use Rattle.jh_edn.specs.Edn.{Edn}
use Rattle.jh_edn.specs.View.{view}
use Rattle.jh_ops.specs.Operation.{Operation}
use Rattle.jh_independent.specs.AnswersInside.{AreAnswers, IsAnswer, IsAnswerAt, IsAnswerThrough, RefusesSome}
use Rattle.jh_independent.specs.FoundInside.{AreCollected, IsFoundSoFar}
use Rattle.jh_independent.specs.Keys.{AreTuples, history_keys, places_of}
use Rattle.jh_independent.specs.Refusals.{KeysQuestion, AreFindings, AreFoundBefore, IsFindingOf, RefusesKey, RefusesKeys}
use Rattle.jh_independent.specs.SplitInside.{groups_of, view_groups}
use Rattle.jh_independent.specs.declared.error.KeysError.{KeysError}
use Rattle.jh_independent.specs.declared.error.KeysError.TheVariants.{BadValue, Key, Thread, OutOfMemory}
use Rattle.jh_checkers.specs.declared.finding.Finding.{Finding}
use Rattle.jh_independent.specs.declared.serial.KeyFinding.{KeyFinding}
use Rattle.jh_independent.specs.declared.split.KeyPlaces.{KeyPlaces}

-- ---- groups

abbrev HasPlaces : List Operation → KeyPlaces → Type 0
HasPlaces history group = group.places.items ≡ places_of (view group.key) history

abbrev head_of : Edn × List ℕ → List (Edn × List ℕ) → Edn × List ℕ
head_of none [] = none
head_of none (one ∷ rest) = one

abbrev tail_of : List (Edn × List ℕ) → List (Edn × List ℕ)
tail_of [] = []
tail_of (one ∷ rest) = rest

-- what these groups are, one by one
groups_are : (history : List Operation) (groups : List KeyPlaces) (keys : List Edn) → view_groups groups ≡ map (λ key. (key, places_of key history)) keys
    → (map (λ group. view group.key) groups ≡ keys) × All (HasPlaces history) groups
groups_are history [] [] h = (refl, All-nil (HasPlaces history))
groups_are history [] (key ∷ keys) h = absurd cc
groups_are history (group ∷ groups) [] h = absurd cc
groups_are history (group ∷ groups) (key ∷ keys) h =
    let first : view group.key ≡ key = ap (λ all. (head_of (key, []) all).0) h in
    let places : group.places.items ≡ places_of key history = ap (λ all. (head_of (key, []) all).1) h in
    let tail : view_groups groups ≡ map (λ key. (key, places_of key history)) keys = ap tail_of h in
    let rest = groups_are history groups keys tail in
    ((λ i. first i ∷ rest.0 i), All-cons (HasPlaces history) group groups (places ∙ ap (λ k. places_of k history) (sym first)) rest.1)

pub groups_keys : (history : List Operation) (groups : List KeyPlaces) → view_groups groups ≡ groups_of history → map (λ group. view group.key) groups ≡ history_keys history
groups_keys history groups h = (groups_are history groups (history_keys history) h).0

pub groups_places : (history : List Operation) (groups : List KeyPlaces) → view_groups groups ≡ groups_of history → All (HasPlaces history) groups
groups_places history groups h = (groups_are history groups (history_keys history) h).1

pub place_of_all : (history : List Operation) (groups : List KeyPlaces) (place : ℕ) (group : KeyPlaces) → All (HasPlaces history) groups → slice_get groups place ≡ Some group → group.places.items ≡ places_of (view group.key) history
place_of_all history groups place group all at =
    subst (HasPlaces history) (get_or_from_slice_get groups place group group at) (All-get_or (HasPlaces history) groups place group (slice_get_within groups place group at) all)

-- ---- what is found so far

pub none_found : (asked : KeysQuestion) (groups : List KeyPlaces) → view_groups groups ≡ groups_of asked.history → IsFoundSoFar asked [] groups
none_found asked groups h = record {
  keys = groups_keys asked.history groups h;
  each = All-nil (λ one. IsFindingOf asked (view one.key) one.finding);
  places = groups_places asked.history groups h;
}

pub first_places : (asked : KeysQuestion) (found : List KeyFinding) (group : KeyPlaces) (rest : List KeyPlaces) → IsFoundSoFar asked found (group ∷ rest) → group.places.items ≡ places_of (view group.key) asked.history
first_places asked found group rest h = All-head (HasPlaces asked.history) group rest h.places

pub one_more : (asked : KeysQuestion) (found : List KeyFinding) (group : KeyPlaces) (rest : List KeyPlaces) (one : KeyFinding) → IsFoundSoFar asked found (group ∷ rest)
    → view one.key ≡ view group.key → IsFindingOf asked (view group.key) one.finding → IsFoundSoFar asked (found ++ one ∷ []) rest
one_more asked found group rest one h same judged =
    let others : List Edn = map (λ group. view group.key) rest in
    record {
      keys = ap (λ w. w ++ others) (map_push (λ one. view one.key) found one) ∙ append_assoc (map (λ one. view one.key) found) (view one.key ∷ []) others
          ∙ ap (λ k. map (λ one. view one.key) found ++ k ∷ others) same ∙ h.keys;
      each = All-push (λ one. IsFindingOf asked (view one.key) one.finding) found one h.each (subst (λ k. IsFindingOf asked k one.finding) (sym same) judged);
      places = All-tail (HasPlaces asked.history) group rest h.places;
    }

pub all_found : (asked : KeysQuestion) (found : List KeyFinding) → AreTuples asked.history → IsFoundSoFar asked found [] → AreFindings asked found
all_found asked found tuples h = record { tuples = tuples; keys = sym (append-nil (map (λ one. view one.key) found)) ∙ h.keys; each = h.each }

-- ---- refusals and answers

-- what stands behind so many others
behind : (xs : List Edn) (y : Edn) (ys : List Edn) → slice_get (xs ++ y ∷ ys) (length xs) ≡ Some y
behind [] y ys = refl
behind (x ∷ xs) y ys = behind xs y ys

before : (asked : KeysQuestion) (found : List KeyFinding) (rest : List Edn) → All (λ one. IsFindingOf asked (view one.key) one.finding) found → (earlier : ℕ) (key : Edn)
    → earlier < length (map (λ one. view one.key) found) → slice_get (map (λ one. view one.key) found ++ rest) earlier ≡ Some key → (found : Finding) × IsFindingOf asked key found
before asked [] rest each earlier key less at = absurd (omega arith)
before asked (one ∷ found) rest each zero key less at =
    let same : view one.key ≡ key = cc in
    (one.finding, subst (λ k. IsFindingOf asked k one.finding) same (All-head (λ one. IsFindingOf asked (view one.key) one.finding) one found each))
before asked (one ∷ found) rest each (suc earlier) key less at =
    before asked found rest (All-tail (λ one. IsFindingOf asked (view one.key) one.finding) one found each) earlier key (omega arith) at

-- the key in front of those that are left, and that all before it were judged
front_found : (asked : KeysQuestion) (found : List KeyFinding) (group : KeyPlaces) (rest : List KeyPlaces) → IsFoundSoFar asked found (group ∷ rest)
    → (slice_get (history_keys asked.history) (length (map (λ one. view one.key) found)) ≡ Some (view group.key))
    × AreFoundBefore asked (length (map (λ one. view one.key) found))
front_found asked found group rest h =
    let keys : List Edn = map (λ one. view one.key) found in
    let others : List Edn = map (λ group. view group.key) rest in (
      subst (λ all. slice_get all (length keys) ≡ Some (view group.key)) h.keys (behind keys (view group.key) others),
      subst (λ all. (earlier : ℕ) (key : Edn) → earlier < length keys → slice_get all earlier ≡ Some key → (found : Finding) × IsFindingOf asked key found) h.keys (before asked found (view group.key ∷ others) h.each),
    )

pub keys_refused : (asked : KeysQuestion) (found : List KeyFinding) (group : KeyPlaces) (rest : List KeyPlaces) (error : KeysError) → AreTuples asked.history
    → IsFoundSoFar asked found (group ∷ rest) → RefusesKey asked (view group.key) error → RefusesKeys asked error
keys_refused asked found group rest (BadValue place) tuples h refused = absurd refused
keys_refused asked found group rest (Key given) tuples h refused =
    let front = front_found asked found group rest h in
    (tuples, (length (map (λ one. view one.key) found), view group.key, front.0, front.1, refused))
keys_refused asked found group rest Thread tuples h refused =
    let front = front_found asked found group rest h in
    (tuples, (length (map (λ one. view one.key) found), view group.key, front.0, front.1))
keys_refused asked found group rest OutOfMemory tuples h refused = tuples

-- the key in front of those that are left
front_key : (asked : KeysQuestion) (found : List KeyFinding) (group : KeyPlaces) (rest : List KeyPlaces) → IsFoundSoFar asked found (group ∷ rest) → slice_get (history_keys asked.history) (length found) ≡ Some (view group.key)
front_key asked found group rest h =
    let keys : List Edn = map (λ one. view one.key) found in
    let others : List Edn = map (λ group. view group.key) rest in
    ap (λ all. slice_get all (length found)) (sym h.keys)
    ∙ ap (slice_get (keys ++ view group.key ∷ others)) (sym (length-map found (λ one. view one.key)))
    ∙ behind keys (view group.key) others

-- what was answered of it, where that was answered
pub front_answer : (asked : KeysQuestion) (MayRefuse : ℕ → Type 0) (found : List KeyFinding) (group : KeyPlaces) (rest : List KeyPlaces) (answer : Option (Result Finding KeysError)) (answers : List (Option (Result Finding KeysError)))
    → AreCollected asked MayRefuse found (group ∷ rest) (answer ∷ answers) → IsAnswer asked (view group.key) (unwrap_or answer (Err Thread))
front_answer asked MayRefuse found group rest None answers h = tt
front_answer asked MayRefuse found group rest (Some answer) answers h =
    let e : length found + 0 ≡ length found = omega arith in
    (h.answers 0 answer refl).judged (view group.key) (ap (slice_get (history_keys asked.history)) e ∙ front_key asked found group rest h.keys)

-- it has no thread only where it may be refused one, if all that are left are done
pub front_let_in : (asked : KeysQuestion) (MayRefuse : ℕ → Type 0) (found : List KeyFinding) (rest : List KeyPlaces) (answer : Option (Result Finding KeysError)) (answers : List (Option (Result Finding KeysError)))
    → AreCollected asked MayRefuse found rest (answer ∷ answers) → AreDoneInTurn is_err (answer ∷ answers) → unwrap_or answer (Err Thread) ≡ Err Thread → RefusesSome MayRefuse
front_let_in asked MayRefuse found rest None answers h done is = absurd done
front_let_in asked MayRefuse found rest (Some answer) answers h done is = (length found + 0, (h.answers 0 answer refl).let_in is)

-- all behind one that was judged are done
pub rest_done : (answer : Option (Result Finding KeysError)) (answers : List (Option (Result Finding KeysError))) (finding : Finding)
    → AreDoneInTurn is_err (answer ∷ answers) → unwrap_or answer (Err Thread) ≡ Ok finding → AreDoneInTurn is_err answers
rest_done None answers finding done is = absurd done
rest_done (Some answer) answers finding done is = done (ap is_err is)

pub first_collected : (asked : KeysQuestion) (MayRefuse : ℕ → Type 0) (groups : List KeyPlaces) (answers : List (Option (Result Finding KeysError)))
    → view_groups groups ≡ groups_of asked.history → AreAnswers asked MayRefuse answers → AreCollected asked MayRefuse [] groups answers
first_collected asked MayRefuse groups answers h are = record {
  keys = none_found asked groups h;
  answers = λ place answer at. (let e : place ≡ 0 + place = omega arith in subst (λ p. IsAnswerThrough asked MayRefuse p answer) e (are.each place answer at));
  size = are.size ∙ ap length (sym (groups_keys asked.history groups h)) ∙ length-map groups (λ group. view group.key);
}

pub more_collected : (asked : KeysQuestion) (MayRefuse : ℕ → Type 0) (found : List KeyFinding) (group : KeyPlaces) (rest : List KeyPlaces) (answer : Option (Result Finding KeysError)) (answers : List (Option (Result Finding KeysError))) (one : KeyFinding)
    → AreCollected asked MayRefuse found (group ∷ rest) (answer ∷ answers) → view one.key ≡ view group.key → IsFindingOf asked (view group.key) one.finding → AreCollected asked MayRefuse (found ++ one ∷ []) rest answers
more_collected asked MayRefuse found group rest answer answers one h same judged = record {
  keys = one_more asked found group rest one h.keys same judged;
  answers = λ place given at.
      (let e : length found + suc place ≡ length (found ++ one ∷ []) + place = omega (arith, length-append found (one ∷ [])) in
      subst (λ p. IsAnswerThrough asked MayRefuse p given) e (h.answers (suc place) given at));
  size = (let e : length answers ≡ length rest = omega (arith, h.size) in e);
}

pub answered : (asked : KeysQuestion) (key : Edn) (answer : Result Finding KeysError) → MatchResult answer (IsFindingOf asked key) (RefusesKey asked key) → IsAnswer asked key answer
answered asked key (Ok finding) h = h
answered asked key (Err error) h = h

-- a place for each key is filled with what was answered of that key
pub answer_at : (asked : KeysQuestion) (groups : List KeyPlaces) (place : ℕ) (group : KeyPlaces) (answer : Result Finding KeysError)
    → view_groups groups ≡ groups_of asked.history → slice_get groups place ≡ Some group → IsAnswer asked (view group.key) answer → IsAnswerAt asked place answer
answer_at asked groups place group answer h at judged = λ key key_at.
    let here : slice_get (history_keys asked.history) place ≡ Some (view group.key) =
    ap (λ keys. slice_get keys place) (sym (groups_keys asked.history groups h)) ∙ slice_get-map (λ group. view group.key) groups place ∙ ap (option_map (λ group. view group.key)) at in
    let same : view group.key ≡ key = ap (λ o. unwrap_or o key) (sym here ∙ key_at) in
    subst (λ k. IsAnswer asked k answer) same judged
