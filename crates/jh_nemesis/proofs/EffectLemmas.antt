-- What the steps that are kept do to an environment, and how much that is.
use Rattle.std.proofs.Common.{◌≡◌, ℕ, zero, suc, ◌+◌, ◌≤◌, ◌<◌, Bool, true, false, not, List, [], ◌∷◌, ◌++◌, length, get_or, eqb, take, drop, drop-cons, length-take, get_or-take, length-append, refl, sym, ap, subst, ◌∙◌, arith, add-one}
use Rattle.std.specs.Prelude.{filter, if◌then◌else◌}
use Rattle.std.specs.List.{All, AllPairs, Contains}
use Rattle.std.proofs.lemmas.List.{get_or_default, get_or-map, length-map, map-append, take_more}
use Rattle.std.proofs.lemmas.List.Elements.{All-contains, Contains-append_right}
use Rattle.std.proofs.lemmas.List.Sums.{sum_by-cons}
use Rattle.jh_env.specs.Faults.{FaultValue, FitsCount, fault_size}
use Rattle.jh_tables.specs.Standing.{AreInOrder}
use Rattle.jh_nemesis.specs.State.{Active, has_id, is_active}
use Rattle.jh_nemesis.specs.Steps.{active_without}
use Rattle.jh_nemesis.specs.AcceptedInside.{active_after, begun_fault, faults_at, moment, accepted_at, fault_with_stamp, faults_with_stamps, AreRight, AreStamps, IsBegin, IsRight}
use Rattle.jh_nemesis.specs.Work.{faults_only_in, size_between, size_of_all}
use Rattle.jh_nemesis.specs.Steps.{max_active}
use Rattle.jh_nemesis.specs.declared.accepted.AcceptedStep.{AcceptedStep}
use Rattle.jh_nemesis.specs.declared.accepted.AcceptedStep.TheVariants.{Begun, Withdrawn}
use Rattle.jh_nemesis.proofs.AcceptedLemmas.{Apart, apart_after, are_stamps, few_after, fit_after, without_stamp}
use Rattle.jh_nemesis.proofs.StampLemmas.{SplitAt, all_pass, split_at, taken_out}

-- the step that is read
pub step_read : (accepted : List AcceptedStep) (n : ℕ) (step : AcceptedStep) → n < length accepted → step ≡ get_or accepted n step → accepted_at accepted n ≡ step
step_read accepted n step within is = get_or_default accepted n (Withdrawn 0) step within ∙ sym is

-- ---- in order of their stamps

pub stamps_rise : (accepted : List AcceptedStep) (stamps : List ℕ) → AllPairs (λ x y. x < y) stamps → AreInOrder (faults_with_stamps accepted stamps)
stamps_rise accepted stamps rise i j d less within =
    let below : j < length stamps = rw (length-map stamps (fault_with_stamp accepted)) at within in
    let first = get_or-map (fault_with_stamp accepted) stamps i 0 d (omega arith) in
    let second = get_or-map (fault_with_stamp accepted) stamps j 0 d below in
    rw (first, second) (rise i j 0 less below)

pub active_rise : (nodes : ℕ) (accepted : List AcceptedStep) → AreRight nodes accepted → (n : ℕ) → n ≤ length accepted → AllPairs (λ x y. x < y) (active_after accepted n)
active_rise nodes accepted right n within i j d less inside = (apart_after nodes accepted right n within i j d less inside).less

pub rise_take : (n : ℕ) (stamps : List ℕ) → AllPairs (λ x y. x < y) stamps → AllPairs (λ x y. x < y) (take n stamps)
rise_take n stamps rise i j d less within =
    let short : (j < n) × (j < length stamps) = (let m = length-take n stamps in (omega (arith, m, within), omega (arith, m, within))) in
    rw (get_or-take n stamps i d (omega (arith, less, short.0)), get_or-take n stamps j d short.0) (rise i j d less short.1)

-- one more stamp
pub stamped_more : (accepted : List AcceptedStep) (stamps : List ℕ) (i : ℕ) → i < length stamps
    → faults_with_stamps accepted (take (i + 1) stamps) ≡ faults_with_stamps accepted (take i stamps) ++ fault_with_stamp accepted (get_or stamps i 0) ∷ []
stamped_more accepted stamps i h = ap (faults_with_stamps accepted) (take_more stamps i 0 h) ∙ map-append (fault_with_stamp accepted) (take i stamps) (get_or stamps i 0 ∷ [])

pub faults_more : (accepted : List AcceptedStep) (stamps : List ℕ) (i : ℕ) → i < length stamps
    → faults_at accepted (take (i + 1) stamps) ≡ faults_at accepted (take i stamps) ++ begun_fault (accepted_at accepted (get_or stamps i 0)) ∷ []
faults_more accepted stamps i h =
    ap (faults_at accepted) (take_more stamps i 0 h) ∙ map-append (λ k. begun_fault (accepted_at accepted k)) (take i stamps) (get_or stamps i 0 ∷ [])

-- the stamp at i, and those behind it
pub stamped_left : (accepted : List AcceptedStep) (stamps : List ℕ) (i : ℕ) → i < length stamps
    → faults_with_stamps accepted (drop i stamps) ≡ fault_with_stamp accepted (get_or stamps i 0) ∷ faults_with_stamps accepted (drop (i + 1) stamps)
stamped_left accepted stamps i h =
    let cut : drop i stamps ≡ get_or stamps i 0 ∷ drop (i + 1) stamps = rw add-one (drop-cons stamps i 0 h) in
    ap (faults_with_stamps accepted) cut

-- ---- how much is written

size_in : (f : ℕ × FaultValue) (fs : Active) → Contains fs f → fault_size f.1 ≤ size_of_all fs
size_in f [] (k, within, at) = absurd (omega arith)
size_in f (g ∷ fs) (zero, within, at) =
    subst (λ (h : ℕ × FaultValue). fault_size h.1 ≤ size_of_all (g ∷ fs)) at (omega (arith, sum_by-cons (λ (f : ℕ × FaultValue). fault_size f.1) g fs))
size_in f (g ∷ fs) (suc k, within, at) =
    let rest = size_in f fs (k, omega arith, at) in
    omega (arith, rest, sum_by-cons (λ (f : ℕ × FaultValue). fault_size f.1) g fs)

-- what passes is kept
pub kept : {X : Type 0} (p : X → Bool) (x : X) (xs : List X) → Contains xs x → p x ≡ true → Contains (filter p xs) x
kept p x [] (k, within, at) pass = absurd (omega arith)
kept p x (y ∷ ys) (zero, within, at) pass =
    let here : p y ≡ true = ap p at ∙ pass in
    rw here (let found : Contains (y ∷ filter p ys) x = (zero, omega arith, at) in found)
kept p x (y ∷ ys) (suc k, within, at) pass =
    let rest = kept p x ys (k, omega arith, at) pass in
    elim (p y) as (λ t. Contains (if t then y ∷ filter p ys else filter p ys) x) [
      | true ↦ Contains-append_right (y ∷ []) (filter p ys) x rest
      | false ↦ rest
    ]

-- a fault is written that is active at one of the moments alone
alone_before : (f : ℕ × FaultValue) (before after : Active) → Contains before f → is_active after f.0 ≡ false → fault_size f.1 ≤ size_between before after
alone_before f before after inside gone =
    let alone = size_in f (faults_only_in before after) (kept (λ (g : ℕ × FaultValue). not (is_active after g.0)) f before inside (ap not gone)) in
    omega (arith, alone)

alone_after : (f : ℕ × FaultValue) (before after : Active) → Contains after f → is_active before f.0 ≡ false → fault_size f.1 ≤ size_between before after
alone_after f before after inside new =
    let alone = size_in f (faults_only_in after before) (kept (λ (g : ℕ × FaultValue). not (is_active before g.0)) f after inside (ap not new)) in
    omega (arith, alone)

pub all_alone : (active : Active) → faults_only_in active [] ≡ active
all_alone active = all_pass (λ (g : ℕ × FaultValue). true) active (λ k d h. refl)

all_before : (active : Active) → size_of_all active ≤ size_between active []
all_before active = rw (all_alone active) (omega arith)

-- one more is written
pub size_more : (f : ℕ × FaultValue) (before : Active) → size_of_all (before ++ f ∷ []) ≡ size_of_all before + fault_size f.1
size_more f [] = omega (arith, sum_by-cons (λ (f : ℕ × FaultValue). fault_size f.1) f [])
size_more f (g ∷ before) =
    omega (arith, size_more f before, sum_by-cons (λ (f : ℕ × FaultValue). fault_size f.1) g (before ++ f ∷ []), sum_by-cons (λ (f : ℕ × FaultValue). fault_size f.1) g before)

-- what is written of the first of some stamps, and of one more
pub work_more : (accepted : List AcceptedStep) (stamps : List ℕ) (i was now start : ℕ) → i < length stamps → was ≤ start + size_of_all (faults_at accepted (take i stamps))
    → now ≤ was + fault_size (fault_with_stamp accepted (get_or stamps i 0)).1 → now ≤ start + size_of_all (faults_at accepted (take (i + 1) stamps))
work_more accepted stamps i was now start h before here =
    rw (faults_more accepted stamps i h) (omega (arith, before, here, size_more (begun_fault (accepted_at accepted (get_or stamps i 0))) (faults_at accepted (take i stamps))))

-- no fault of an id is left where they are taken out
pub gone : (id : ℕ) (fs : Active) → is_active (active_without fs id) id ≡ false
gone id [] = refl
gone id (f ∷ fs) =
    elim (has_id id f) as (λ t. has_id id f ≡ t → is_active (if not t then f ∷ active_without fs id else active_without fs id) id ≡ false) [
      | true ↦ λ is. gone id fs
      | false ↦ λ is. rw is (gone id fs)
    ] refl

module _ (nodes : ℕ) (accepted : List AcceptedStep) (right : AreRight nodes accepted) (n : ℕ) (within : n < length accepted) where
  before_rise : AllPairs (λ x y. x < y) (active_after accepted n)
  before_rise = active_rise nodes accepted right n (omega arith)

  pub before_order : AreInOrder (faults_with_stamps accepted (active_after accepted n))
  before_order = stamps_rise accepted (active_after accepted n) before_rise

  pub after_order : AreInOrder (faults_with_stamps accepted (active_after accepted (n + 1)))
  after_order = stamps_rise accepted (active_after accepted (n + 1)) (active_rise nodes accepted right (n + 1) (omega arith))

  before_few : length (active_after accepted n) ≤ max_active
  before_few = few_after nodes accepted right n (omega arith)

  -- a begin
  module _ (id : ℕ) (fault : FaultValue) (at : accepted_at accepted n ≡ Begun id fault) where
    pub begun_right : IsRight nodes accepted n (Begun id fault)
    begun_right = subst (IsRight nodes accepted n) at (right n within)

    pub begun_fits : FitsCount nodes (fault_with_stamp accepted n).1
    begun_fits = rw at begun_right.0

    pub begun_room : (laid : ℕ) → laid ≡ length (faults_with_stamps accepted (active_after accepted n)) → laid < max_active
    begun_room laid is = let short = begun_right.1 in omega (arith, is, short, length-map (active_after accepted n) (fault_with_stamp accepted))

    begun_active : active_after accepted (n + 1) ≡ active_after accepted n ++ n ∷ []
    begun_active = rw (add-one n, at) refl

    pub begun_stamped : faults_with_stamps accepted (active_after accepted (n + 1)) ≡ faults_with_stamps accepted (active_after accepted n) ++ fault_with_stamp accepted n ∷ []
    begun_stamped = ap (faults_with_stamps accepted) begun_active ∙ map-append (fault_with_stamp accepted) (active_after accepted n) (n ∷ [])

    pub begun_moment : moment accepted (n + 1) ≡ moment accepted n ++ (id, fault) ∷ []
    begun_moment =
        ap (faults_at accepted) begun_active
        ∙ map-append (λ k. begun_fault (accepted_at accepted k)) (active_after accepted n) (n ∷ [])
        ∙ ap (λ (step : AcceptedStep). moment accepted n ++ begun_fault step ∷ []) at

    pub begun_size : fault_size (fault_with_stamp accepted n).1 ≤ size_between (moment accepted n) (moment accepted (n + 1))
    begun_size =
        let new : ℕ × FaultValue = (id, fault) in
        let there : Contains (moment accepted n ++ new ∷ []) new = Contains-append_right (moment accepted n) (new ∷ []) new (zero, omega arith, refl) in
        let size : fault_size fault ≤ size_between (moment accepted n) (moment accepted n ++ new ∷ []) = alone_after new (moment accepted n) (moment accepted n ++ new ∷ []) there begun_right.2 in
        rw (begun_moment, at) size

  -- a withdrawal
  module _ (stamp : ℕ) (at : accepted_at accepted n ≡ Withdrawn stamp) where
    pub withdrawn_right : Contains (active_after accepted n) stamp
    withdrawn_right = subst (IsRight nodes accepted n) at (right n within)

    pub withdrawn_begin : (stamp < length accepted) × IsBegin (accepted_at accepted stamp)
    withdrawn_begin = All-contains (λ k. (k < length accepted) × IsBegin (accepted_at accepted k)) (active_after accepted n) stamp (are_stamps accepted n (omega arith)) withdrawn_right

    pub withdrawn_fits : FitsCount nodes (fault_with_stamp accepted stamp).1
    withdrawn_fits =
        All-contains (λ k. FitsCount nodes (begun_fault (accepted_at accepted k)).1) (active_after accepted n) stamp (fit_after nodes accepted right n (omega arith)) withdrawn_right

    pub split : SplitAt (Apart accepted) (active_after accepted n) stamp
    split = split_at (Apart accepted) (active_after accepted n) stamp (apart_after nodes accepted right n (omega arith)) withdrawn_right

    -- the others, before it and after it
    abbrev pub first : List (ℕ × FaultValue)
    first = faults_with_stamps accepted split.before

    abbrev pub last : List (ℕ × FaultValue)
    last = faults_with_stamps accepted split.after

    pub withdrawn_before : faults_with_stamps accepted (active_after accepted n) ≡ first ++ fault_with_stamp accepted stamp ∷ last
    withdrawn_before = ap (faults_with_stamps accepted) split.is ∙ map-append (fault_with_stamp accepted) split.before (stamp ∷ split.after)

    withdrawn_active : active_after accepted (n + 1) ≡ filter (λ other. not (eqb other stamp)) (active_after accepted n)
    withdrawn_active = rw (add-one n, at) refl

    others_left : active_after accepted (n + 1) ≡ split.before ++ split.after
    others_left =
        withdrawn_active
        ∙ ap (filter (λ other. not (eqb other stamp))) split.is
        ∙ taken_out split.before split.after stamp (λ k d h e. let less = (split.below k d h).less in omega arith) (λ k d h e. let less = (split.above k d h).less in omega arith)

    pub withdrawn_after : faults_with_stamps accepted (active_after accepted (n + 1)) ≡ first ++ last
    withdrawn_after = ap (faults_with_stamps accepted) others_left ∙ map-append (fault_with_stamp accepted) split.before split.after

    pub withdrawn_room : (laid : ℕ) → laid ≡ length (faults_with_stamps accepted (active_after accepted (n + 1))) → laid < max_active
    withdrawn_room laid is =
        omega (
          arith,
          is,
          before_few,
          ap length split.is,
          ap length others_left,
          length-map (active_after accepted (n + 1)) (fault_with_stamp accepted),
          length-append split.before (stamp ∷ split.after),
          length-append split.before split.after,
        )

    pub withdrawn_moment : moment accepted (n + 1) ≡ active_without (moment accepted n) (begun_fault (accepted_at accepted stamp)).0
    withdrawn_moment =
        ap (faults_at accepted) withdrawn_active
        ∙ without_stamp accepted (active_after accepted n) (begun_fault (accepted_at accepted stamp)).0 stamp (apart_after nodes accepted right n (omega arith)) withdrawn_right refl

    pub withdrawn_size : fault_size (fault_with_stamp accepted stamp).1 ≤ size_between (moment accepted n) (moment accepted (n + 1))
    withdrawn_size =
        let f : ℕ × FaultValue = begun_fault (accepted_at accepted stamp) in
        let parts : moment accepted n ≡ faults_at accepted split.before ++ f ∷ faults_at accepted split.after =
        ap (faults_at accepted) split.is ∙ map-append (λ k. begun_fault (accepted_at accepted k)) split.before (stamp ∷ split.after) in
        let there : Contains (moment accepted n) f =
        subst (λ fs. Contains fs f) (sym parts) (Contains-append_right (faults_at accepted split.before) (f ∷ faults_at accepted split.after) f (zero, omega arith, refl)) in
        alone_before f (moment accepted n) (moment accepted (n + 1)) there (ap (λ fs. is_active fs f.0) withdrawn_moment ∙ gone f.0 (moment accepted n))

  -- a withdrawal of all
  module _ (stamps : List ℕ) (is : stamps ≡ active_after accepted n) (none : active_after accepted (n + 1) ≡ []) where
    pub all_begins : AreStamps accepted stamps
    all_begins = rw is (are_stamps accepted n (omega arith))

    pub all_few : length stamps ≤ max_active
    all_few = rw is before_few

    pub all_fit : All (λ k. FitsCount nodes (fault_with_stamp accepted k).1) stamps
    all_fit = rw is (fit_after nodes accepted right n (omega arith))

    pub all_rise : AllPairs (λ x y. x < y) stamps
    all_rise = rw is before_rise

    pub all_size : size_of_all (faults_at accepted stamps) ≤ size_between (moment accepted n) (moment accepted (n + 1))
    all_size = rw (is, none) (all_before (moment accepted n))
