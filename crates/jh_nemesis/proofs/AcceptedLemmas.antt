-- What the steps that a nemesis keeps make active, and what holds of it.
use Rattle.std.proofs.Common.{◌≡◌, ◌≢◌, ℕ, zero, suc, ◌-◌, ◌≤◌, ◌<◌, Bool, true, false, not, List, [], ◌∷◌, ◌++◌, length, get_or, eqb, refl, sym, ap, ap₂, subst, ◌∙◌, arith, length-append, take_at, Some}
use Rattle.jh_edn.specs.Edn.{is_empty}
use Rattle.std.specs.Prelude.{filter, slice_get}
use Rattle.std.specs.List.{All, AllPairs, Contains}
use Rattle.std.proofs.lemmas.Bool.{eq-eqb, ne_eqb}
use Rattle.std.proofs.lemmas.List.{map-append, get_or-map, get_or_default, length-map}
use Rattle.std.proofs.lemmas.Option.{slice_get-map, slice_get_read}
use Rattle.std.proofs.lemmas.List.Elements.{All-head, All-tail, All-nil, All-push, All-filter, All-map, filter-append}
use Rattle.std.proofs.lemmas.List.Filters.{length-filter_both}
use Rattle.std.proofs.lemmas.List.Folds.{list_any_at}
use Rattle.std.proofs.lemmas.List.Kept.{AllPairs-filter}
use Rattle.std.proofs.lemmas.List.Quantifiers.{all_pairs_push}
use Rattle.jh_env.specs.Faults.{FaultValue, FitsCount}
use Rattle.jh_nemesis.specs.State.{has_id, is_active, faults_in}
use Rattle.jh_tables.specs.Standing.{faults_of}
use Rattle.jh_nemesis.specs.Steps.{active_without}
use Rattle.jh_nemesis.specs.AcceptedInside.{accepted_at, stamps_after, stamps_before, active_after, begun_fault, faults_at, moment, past_of, fault_with_stamp, faults_with_stamps, IsBegin, AreRight, AreStamps, IsRight}
use Rattle.jh_nemesis.specs.declared.accepted.AcceptedStep.{AcceptedStep}
use Rattle.jh_nemesis.specs.declared.accepted.AcceptedStep.TheVariants.{Begun, Withdrawn, WithdrawnAll}
use Rattle.jh_nemesis.specs.Steps.{max_active}
use Rattle.jh_nemesis.proofs.StampLemmas.{split_at, all_pass, taken_out, put_back}

-- the first steps of two lists are the same
abbrev pub SameBelow : ℕ → List AcceptedStep → List AcceptedStep → Type 0
SameBelow n old new = (k : ℕ) → k < n → accepted_at new k ≡ accepted_at old k

pub same_active : (n : ℕ) (old new : List AcceptedStep) → SameBelow n old new → active_after new n ≡ active_after old n
same_active zero old new same = refl
same_active (suc n) old new same = ap₂ (stamps_after n) (same n (omega arith)) (same_active n old new (λ k below. same k (omega arith)))

pub same_faults : (n : ℕ) (old new : List AcceptedStep) (stamps : List ℕ) → SameBelow n old new → All (λ k. k < n) stamps
    → faults_at new stamps ≡ faults_at old stamps
same_faults n old new [] same below = refl
same_faults n old new (k ∷ ks) same below =
    ap₂ (λ fault faults. fault ∷ faults) (ap begun_fault (same k (All-head (λ k. k < n) k ks below)))
    (same_faults n old new ks same (All-tail (λ k. k < n) k ks below))

pub same_stamped : (n : ℕ) (old new : List AcceptedStep) (stamps : List ℕ) → SameBelow n old new → All (λ k. k < n) stamps
    → faults_with_stamps new stamps ≡ faults_with_stamps old stamps
same_stamped n old new [] same below = refl
same_stamped n old new (k ∷ ks) same below =
    let here : fault_with_stamp new k ≡ fault_with_stamp old k = ap (λ (step : AcceptedStep). (k, (begun_fault step).1)) (same k (All-head (λ k. k < n) k ks below)) in
    ap₂ (λ first rest. first ∷ rest) here (same_stamped n old new ks same (All-tail (λ k. k < n) k ks below))

-- without their stamps they are the faults
pub stamped_faults : (accepted : List AcceptedStep) (stamps : List ℕ) → faults_of (faults_with_stamps accepted stamps) ≡ faults_in (faults_at accepted stamps)
stamped_faults accepted [] = refl
stamped_faults accepted (k ∷ ks) = ap (λ (faults : List FaultValue). (begun_fault (accepted_at accepted k)).1 ∷ faults) (stamped_faults accepted ks)

-- each stamp is the index of a step before
played_below : (n : ℕ) (step : AcceptedStep) (active : List ℕ) → All (λ k. k < n) active → All (λ k. k < suc n) (stamps_after n step active)
played_below n (Begun id fault) active below =
    All-push (λ k. k < suc n) active n (λ k d within. let less = below k d within in omega arith) (omega arith)
played_below n (Withdrawn stamp) active below =
    All-filter (λ k. not (eqb k stamp)) (λ k. k < suc n) active (λ k d within. let less = below k d within in omega arith)
played_below n (WithdrawnAll stamps) active below = All-nil (λ k. k < suc n)

pub stamps_below : (accepted : List AcceptedStep) (n : ℕ) → All (λ k. k < n) (active_after accepted n)
stamps_below accepted zero = All-nil (λ k. k < 0)
stamps_below accepted (suc n) = played_below n (accepted_at accepted n) (active_after accepted n) (stamps_below accepted n)

-- and that step is a begin
played_begins : (accepted : List AcceptedStep) (n : ℕ) (step : AcceptedStep) (active : List ℕ) → accepted_at accepted n ≡ step
    → All (λ k. IsBegin (accepted_at accepted k)) active
    → All (λ k. IsBegin (accepted_at accepted k)) (stamps_after n step active)
played_begins accepted n (Begun id fault) active at begins =
    All-push (λ k. IsBegin (accepted_at accepted k)) active n begins (subst IsBegin (sym at) tt)
played_begins accepted n (Withdrawn stamp) active at begins =
    All-filter (λ k. not (eqb k stamp)) (λ k. IsBegin (accepted_at accepted k)) active begins
played_begins accepted n (WithdrawnAll stamps) active at begins = All-nil (λ k. IsBegin (accepted_at accepted k))

stamps_begin : (accepted : List AcceptedStep) (n : ℕ) → All (λ k. IsBegin (accepted_at accepted k)) (active_after accepted n)
stamps_begin accepted zero = All-nil (λ k. IsBegin (accepted_at accepted k))
stamps_begin accepted (suc n) =
    played_begins accepted n (accepted_at accepted n) (active_after accepted n) refl (stamps_begin accepted n)

pub are_stamps : (accepted : List AcceptedStep) (n : ℕ) → n ≤ length accepted → AreStamps accepted (active_after accepted n)
are_stamps accepted n within k d inside =
    (let below = stamps_below accepted n k d inside in omega arith, stamps_begin accepted n k d inside)

pub same_moment : (n : ℕ) (old new : List AcceptedStep) → SameBelow n old new → moment new n ≡ moment old n
same_moment n old new same =
    ap (faults_at new) (same_active n old new same)
    ∙ same_faults n old new (active_after old n) same (stamps_below old n)

pub same_past : (n : ℕ) (old new : List AcceptedStep) → SameBelow n old new → past_of new n ≡ past_of old n
same_past zero old new same = refl
same_past (suc n) old new same =
    let before : SameBelow n old new = λ k below. same k (omega arith) in
    ap₂ (λ first rest. first ∷ rest) (same_moment n old new before) (same_past n old new before)

pub same_right : (nodes n : ℕ) (old new : List AcceptedStep) (step : AcceptedStep) → SameBelow n old new → IsRight nodes old n step
    → IsRight nodes new n step
same_right nodes n old new (Begun id fault) same right =
    (right.0, rw (same_active n old new same) right.1, ap (λ faults. is_active faults id) (same_moment n old new same) ∙ right.2)
same_right nodes n old new (Withdrawn stamp) same right = rw (same_active n old new same) right
same_right nodes n old new (WithdrawnAll stamps) same right = right ∙ sym (same_active n old new same)

-- a fault is active where a stamp is
pub some_active : (accepted : List AcceptedStep) (stamps : List ℕ) → eqb (length stamps) 0 ≡ false
    → is_empty (faults_at accepted stamps) ≡ false
some_active accepted [] h = absurd cc
some_active accepted (k ∷ ks) h = refl

pub length-past : (accepted : List AcceptedStep) (n : ℕ) → length (past_of accepted n) ≡ n
length-past accepted zero = refl
length-past accepted (suc n) = ap suc (length-past accepted n)

played_few : (nodes n : ℕ) (accepted : List AcceptedStep) (step : AcceptedStep) → IsRight nodes accepted n step
    → length (active_after accepted n) ≤ max_active
    → length (stamps_after n step (active_after accepted n)) ≤ max_active
played_few nodes n accepted (Begun id fault) right few =
    let room = right.1 in omega (arith, length-append (active_after accepted n) (n ∷ []))
played_few nodes n accepted (Withdrawn stamp) right few =
    omega (arith, length-filter_both (λ k. not (eqb k stamp)) (λ k. not (not (eqb k stamp))) (λ _. refl) (active_after accepted n))
played_few nodes n accepted (WithdrawnAll stamps) right few = omega arith

pub few_after : (nodes : ℕ) (accepted : List AcceptedStep) → AreRight nodes accepted → (n : ℕ) → n ≤ length accepted
    → length (active_after accepted n) ≤ max_active
few_after nodes accepted right zero within = omega arith
few_after nodes accepted right (suc n) within =
    played_few nodes n accepted (accepted_at accepted n) (right n (omega arith)) (few_after nodes accepted right n (omega arith))

begin_fits : (nodes n : ℕ) (accepted : List AcceptedStep) (step : AcceptedStep) → IsBegin step → IsRight nodes accepted n step
    → FitsCount nodes (begun_fault step).1
begin_fits nodes n accepted (Begun id fault) begins right = right.0
begin_fits nodes n accepted (Withdrawn stamp) begins right = absurd begins
begin_fits nodes n accepted (WithdrawnAll stamps) begins right = absurd begins

pub fit_after : (nodes : ℕ) (accepted : List AcceptedStep) → AreRight nodes accepted → (n : ℕ) → n ≤ length accepted
    → All (λ k. FitsCount nodes (begun_fault (accepted_at accepted k)).1) (active_after accepted n)
fit_after nodes accepted right n within k d inside =
    let stamp = get_or (active_after accepted n) k d in
    let here = are_stamps accepted n within k d inside in
    begin_fits nodes stamp accepted (accepted_at accepted stamp) here.1 (right stamp here.0)

-- the step of a stamp is a begin
pub not_begin : (step : AcceptedStep) → IsBegin step → ((id : ℕ) (fault : FaultValue) → step ≡ Begun id fault → ⊥) → ⊥
not_begin (Begun id fault) begins other = other id fault refl
not_begin (Withdrawn stamp) begins other = begins
not_begin (WithdrawnAll stamps) begins other = begins

-- the fault of the stamp that stands at i
pub fault_read : (accepted : List AcceptedStep) (stamps : List ℕ) (i stamp : ℕ) (step : AcceptedStep) → i < length stamps
    → stamp ≡ get_or stamps i stamp → stamp < length accepted → step ≡ get_or accepted stamp step
    → Some (begun_fault step) ≡ slice_get (faults_at accepted stamps) i
fault_read accepted stamps i stamp step below at known is =
    let here : slice_get stamps i ≡ Some stamp = slice_get_read stamps (length stamps) i stamp refl below at in
    let value : accepted_at accepted stamp ≡ step = get_or_default accepted stamp (Withdrawn 0) step known ∙ sym is in
    rw (slice_get-map (λ k. begun_fault (accepted_at accepted k)) stamps i, here, value) refl

-- one fault was begun before the other, under another id
pub record Apart (accepted : List AcceptedStep) (a b : ℕ) : Type 0 where
  pub less : a < b
  pub ids : (begun_fault (accepted_at accepted a)).0 ≢ (begun_fault (accepted_at accepted b)).0

id_apart : (accepted : List AcceptedStep) (active : List ℕ) (id : ℕ) → is_active (faults_at accepted active) id ≡ false → (k d : ℕ)
    → k < length active
    → (begun_fault (accepted_at accepted (get_or active k d))).0 ≢ id
id_apart accepted active id free k d within same =
    let at = get_or-map (λ k. begun_fault (accepted_at accepted k)) active k d (begun_fault (accepted_at accepted 0)) within in
    let inside : k < length (faults_at accepted active) = rw (length-map active (λ k. begun_fault (accepted_at accepted k))) within in
    let taken : is_active (faults_at accepted active) id ≡ true =
    list_any_at (has_id id) (faults_at accepted active) k (begun_fault (accepted_at accepted 0)) inside
    (rw at (eq-eqb (begun_fault (accepted_at accepted (get_or active k d))).0 id same)) in
    absurd cc

played_apart : (nodes n : ℕ) (accepted : List AcceptedStep) (step : AcceptedStep) → accepted_at accepted n ≡ step → IsRight nodes accepted n step
    → AllPairs (Apart accepted) (active_after accepted n)
    → AllPairs (Apart accepted) (stamps_after n step (active_after accepted n))
played_apart nodes n accepted (Begun id fault) at right apart =
    all_pairs_push (Apart accepted) (active_after accepted n) n apart (λ k d within. record {
      less = stamps_below accepted n k d within;
      ids = λ same. id_apart accepted (active_after accepted n) id right.2 k d within (same ∙ ap (λ step. (begun_fault step).0) at);
    })
played_apart nodes n accepted (Withdrawn stamp) at right apart =
    AllPairs-filter (Apart accepted) (λ k. not (eqb k stamp)) (active_after accepted n) apart
played_apart nodes n accepted (WithdrawnAll stamps) at right apart = λ i j d less within. absurd (omega arith)

pub apart_after : (nodes : ℕ) (accepted : List AcceptedStep) → AreRight nodes accepted → (n : ℕ) → n ≤ length accepted
    → AllPairs (Apart accepted) (active_after accepted n)
apart_after nodes accepted right zero within = λ i j d less inside. absurd (omega arith)
apart_after nodes accepted right (suc n) within =
    played_apart nodes n accepted (accepted_at accepted n) refl (right n (omega arith))
    (apart_after nodes accepted right n (omega arith))

-- a step that is taken back leaves what was active before it
pub back_again : (nodes n : ℕ) (accepted : List AcceptedStep) (step : AcceptedStep) → IsRight nodes accepted n step
    → AllPairs (Apart accepted) (active_after accepted n)
    → stamps_before step (stamps_after n step (active_after accepted n)) ≡ active_after accepted n
back_again nodes n accepted (Begun id fault) right apart =
    let active = active_after accepted n in
    take_at active (n ∷ []) (length (active ++ n ∷ []) - 1) (omega (arith, length-append active (n ∷ [])))
back_again nodes n accepted (Withdrawn stamp) right apart =
    let s = split_at (Apart accepted) (active_after accepted n) stamp apart right in
    let below : All (λ y. y < stamp) s.before = λ k d h. (s.below k d h).less in
    let above : All (λ y. stamp < y) s.after = λ k d h. (s.above k d h).less in
    let out =
    taken_out s.before s.after stamp (λ k d h e. let less = below k d h in omega arith)
    (λ k d h e. let less = above k d h in omega arith) in
    rw (s.is, out) (put_back s.before s.after stamp below above)
back_again nodes n accepted (WithdrawnAll stamps) right apart = right

others_stay : (id : ℕ) (accepted : List AcceptedStep) (stamps : List ℕ) → All (λ k. (begun_fault (accepted_at accepted k)).0 ≢ id) stamps
    → filter (λ f. not (has_id id f)) (faults_at accepted stamps) ≡ faults_at accepted stamps
others_stay id accepted stamps other =
    all_pass (λ (f : ℕ × FaultValue). not (has_id id f)) (faults_at accepted stamps)
    (All-map (λ (f : ℕ × FaultValue). not (has_id id f) ≡ true) (λ k. begun_fault (accepted_at accepted k)) stamps
    (λ k d h. ap not (ne_eqb (begun_fault (accepted_at accepted (get_or stamps k d))).0 id (other k d h))))

-- the fault of an id is the one of its stamp
pub without_stamp : (accepted : List AcceptedStep) (active : List ℕ) (id stamp : ℕ) → AllPairs (Apart accepted) active
    → Contains active stamp → (begun_fault (accepted_at accepted stamp)).0 ≡ id
    → faults_at accepted (filter (λ other. not (eqb other stamp)) active) ≡ active_without (faults_at accepted active) id
without_stamp accepted active id stamp apart inside is =
    let f : ℕ → ℕ × FaultValue = λ k. begun_fault (accepted_at accepted k) in
    let p : ℕ × FaultValue → Bool = λ g. not (has_id id g) in
    let s = split_at (Apart accepted) active stamp apart inside in
    let out =
    taken_out s.before s.after stamp (λ k d h e. let less = (s.below k d h).less in omega arith)
    (λ k d h e. let less = (s.above k d h).less in omega arith) in
    let before = others_stay id accepted s.before (λ k d h e. (s.below k d h).ids (e ∙ sym is)) in
    let after = others_stay id accepted s.after (λ k d h e. (s.above k d h).ids (is ∙ sym e)) in
    let gone : p (f stamp) ≡ false = ap not (eq-eqb (f stamp).0 id is) in
    let two = filter-append p (faults_at accepted s.before) (f stamp ∷ faults_at accepted s.after) in
    rw (s.is, out, map-append f s.before s.after, map-append f s.before (stamp ∷ s.after), two, before, gone, after) refl
