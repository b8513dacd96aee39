-- That an order of the nodes which keeps the paths keeps the next dependencies.
use Rattle.std.proofs.Common.{◌≡◌, ℕ, zero, suc, ◌+◌, ◌-◌, ◌<◌, ◌≤◌, Bool, true, false, Option, Some, None, List, [], ◌∷◌, ◌++◌, length, get_or, refl, sym, ap, subst, ◌∙◌, inl, inr, arith, append_assoc}
use Rattle.std.specs.Prelude.{◌⊎◌, ◌≢◌, Vec, slice_get, slice_index_or}
use Rattle.std.specs.List.{AllByRecursion}
use Rattle.std.specs.declared.alloc.Global.{Global}
use Rattle.std.proofs.lemmas.Bool.{cases_Bool, cases_eq, cases_lt, false≢true}
use Rattle.std.proofs.lemmas.Option.{slice_get-get_or, slice_get_within}
use Rattle.jh_txn.specs.declared.dependency.Step.{Step}
use Rattle.jh_txn.specs.declared.dependency.Why.{Why}
use Rattle.jh_txn.specs.declared.dependency.Why.TheVariants.{FirstCommitter, ReadWrite, RealTime, WriteRead, WriteWrite}
use Rattle.jh_txn.specs.declared.model.ConsistencyModel.{ConsistencyModel}
use Rattle.jh_txn.specs.declared.txn.Txn.{Txn}
use Rattle.jh_txn.specs.BadReads.{HasNoBadRead}
use Rattle.jh_txn.specs.Dependencies.{MustBeThere}
use Rattle.jh_txn.specs.Keeping.{leaves_at, arrives_at}
use Rattle.jh_txn.specs.Models.{keeps_real_time}
use Rattle.jh_txn.specs.RealTime.{CompleteAfterInvocation, PrecedesInTime, completed_at, invoked_at}
use Rattle.jh_txn.specs.Transactions.{Appends, ComesBefore, Saw, appends_before, includes}
use Rattle.jh_txn.proofs.ListLemmas.{append_nil_right, split_at as cut, before_itself, before_trans, includes_cases, includes_cons, includes_head, includes_middle, middle_shift, not_both, place_of}
use Rattle.jh_txn.proofs.TransactionLemmas.{appends_from_before}
use Rattle.jh_txn_edges.proofs.MomentLemmas.{point_exists, point_inside}
use Rattle.jh_txn_edges.specs.Moments.{IsDoneFrom, IsPointOf}
use Rattle.jh_txn_graph.specs.Graphs.{HasPath, HasStep, KeepsPaths}
use Rattle.jh_txn_judge.proofs.WholeLemmas.{get_at, last_of_all, some_and}
use Rattle.jh_txn_points.specs.PointGraph.{IsPointGraphOf}
use Rattle.jh_txn_points.specs.PointSteps.{IsKeyHub, last_why}
use Rattle.jh_txn_points.specs.Points.{IsArriving, IsLeaving, node_of_point}
use Rattle.jh_txn_points.proofs.SoundLemmas.{arrives_low, leaves_low}
use Rattle.jh_txn_seen.specs.Marks.{AreThereMarks, IsMarked}
use Rattle.jh_txn_seen.specs.Middles.{IsFullRead}
use Rattle.jh_txn_seen.specs.Places.{writer_place}
use Rattle.jh_txn_seen.specs.Reads.{AreDoneReads, AreLongestOf, longest_of, seen_by}
use Rattle.jh_txn_seen.specs.declared.done_reads.DoneRead.{DoneRead}
use Rattle.jh_txn_seen.specs.declared.middles.Middle.{Middle}
use Rattle.jh_txn_seen.proofs.KnownLemmas.{appends_below, has_read, is_writer, key_below, longest_begins, longest_writer, marked_of, must_below}
use Rattle.jh_txn_snapshots.specs.NextPoints.{IsFirstLacked, IsNextDependency, SawLongest}
use Rattle.jh_txn_writers.specs.Numbers.{AreNumbersOf}
use Rattle.jh_txn_writers.specs.Writers.{AreWriters}
use Rattle.jh_txn_writers.specs.declared.writer.Writer.{Writer}

-- what a table has for a key of which the longest list is not empty
longest_entry : (longest : List (Option DoneRead)) (key x : ℕ) (front back : List ℕ) → longest_of longest key ≡ front ++ x ∷ back → (read : DoneRead) × (slice_index_or longest key None ≡ Some read)
longest_entry longest key x front back is = by (slice_index_or longest key None) refl where
  by : (o : Option DoneRead) → slice_index_or longest key None ≡ o → (read : DoneRead) × (slice_index_or longest key None ≡ Some read)
  by None none =
      let empty : [] ≡ front ++ x ∷ back = sym (ap seen_by none) ∙ is in
      absurd (false≢true (subst (λ xs. includes xs x ≡ true) (sym empty) (includes_middle front back x)))
  by (Some read) at = (read, at)

-- the last one of a list that is not empty
last_in : (x : ℕ) (xs : List ℕ) → (front : List ℕ) × (last : ℕ) × (x ∷ xs ≡ front ++ last ∷ [])
last_in x [] = ([], x, refl)
last_in x (y ∷ ys) = let r = last_in y ys in (x ∷ r.0, r.1, ap (λ zs. x ∷ zs) r.2)

module _ (txns : List Txn) (elements : ℕ) (writers : List (Option Writer)) (reads : List DoneRead) (there : List Bool) (longest : List (Option DoneRead)) (real_time : Bool) (graph : List (Vec Step Global)) (numbered : AreNumbersOf txns (length longest) elements) (table : AreWriters txns elements writers) (are : AreDoneReads txns reads) (marked : AreThereMarks txns writers reads there) (longests : AreLongestOf reads (length reads) longest) (good : HasNoBadRead txns) (ends : CompleteAfterInvocation txns) (g : IsPointGraphOf txns writers there reads longest real_time graph) (nodes : List ℕ) (kept : KeepsPaths graph (length txns + length txns) nodes) where
  -- the commit of the one before the start of the other one
  abbrev Apart : ℕ → ℕ → Type 0
  Apart first second = ComesBefore nodes (length txns + first) second

  -- the start of the one before the commit of the other one
  abbrev Begun : ℕ → ℕ → Type 0
  Begun first second = ComesBefore nodes first (length txns + second)

  way : (a : ℕ) (w : Why) (b : ℕ) → a < length txns + length txns → b < length txns + length txns → HasPath graph (length txns + length txns) a w b → ComesBefore nodes a b
  way a w b low below path = kept.forwards a b w low below path

  step : (a : ℕ) (w : Why) (b : ℕ) → a < length txns + length txns → b < length txns + length txns → HasStep graph a w b → ComesBefore nodes a b
  step a w b low below s = way a w b low below ([], s)

  then : (a b c : ℕ) → ComesBefore nodes a b → ComesBefore nodes b c → ComesBefore nodes a c
  then a b c h k = before_trans nodes a b c kept.distinct h k

  never : (a : ℕ) → ComesBefore nodes a a → ⊥
  never a h = before_itself nodes a kept.distinct h

  pub paired : (p : ℕ) → p < length txns → Begun p p
  paired p low = step p RealTime (length txns + p) (omega (arith, low)) (omega (arith, low)) ((g.steps p RealTime (length txns + p)).1 (inr (inl (low, refl, refl))))

  apart_then : (a b c : ℕ) → b < length txns → Apart a b → Apart b c → Apart a c
  apart_then a b c low h k = then (length txns + a) b c h (then b (length txns + b) c (paired b low) k)

  apart_begun : (a b : ℕ) → a < length txns → b < length txns → Apart a b → Begun a b
  apart_begun a b low below h = then a (length txns + a) (length txns + b) (paired a low) (then (length txns + a) b (length txns + b) h (paired b below))

  not_back : (a b : ℕ) → Begun a b → Apart b a → ⊥
  not_back a b h k = never a (then a (length txns + b) a h k)

  kept_step : (from : ℕ) (why : Why) (to a b : ℕ) → HasStep g.edges from why to → (IsKeyHub (length txns) (length longest) from → ⊥) → (IsKeyHub (length txns) (length longest) to → ⊥) → IsLeaving (length txns) why from a → IsArriving (length txns) why to b → HasStep graph a why b
  kept_step from why to a b s out in_ leaves arrives = (g.steps a why b).1 (inl (
    to,
    s.0,
    s.1,
    (
      λ h. out (subst (IsKeyHub (length txns) (length longest)) s.2 h),
      in_,
      sym s.3,
      subst (λ w. IsLeaving (length txns) w s.0.place a) (sym s.3) (subst (λ p. IsLeaving (length txns) why p a) (sym s.2) leaves),
      subst (λ w. IsArriving (length txns) w to b) (sym s.3) arrives,
    ),
  ))

  edge : (from : ℕ) (why : Why) (to : ℕ) → from < length txns → to < length txns → HasStep g.edges from why to → ComesBefore nodes (node_of_point (length txns) (leaves_at why from)) (node_of_point (length txns) (arrives_at why to))
  edge from why to low below s = step (node_of_point (length txns) (leaves_at why from)) why (node_of_point (length txns) (arrives_at why to)) (leaves_low (length txns) why from low) (arrives_low (length txns) why to below)
      (kept_step from why to (node_of_point (length txns) (leaves_at why from)) (node_of_point (length txns) (arrives_at why to)) s (λ h. omega (arith, low, h.0)) (λ h. omega (arith, below, h.0)) (inl (low, refl)) (inl (below, refl)))

  low_of : (key element place : ℕ) → Appends txns key element place → place < length txns
  low_of = appends_below txns

  place_is : (key element place : ℕ) → Appends txns key element place → writer_place writers key element ≡ Some place
  place_is = is_writer txns (length longest) elements writers numbered table

  mark : (place : ℕ) → MustBeThere txns place → IsMarked there place
  mark = marked_of txns (length longest) elements writers numbered table reads are there marked

  along : (key one other first second : ℕ) (front back : List ℕ) → longest_of longest key ≡ front ++ one ∷ other ∷ back → Appends txns key one first → Appends txns key other second → first ≢ second → Apart first second
  along key one other first second front back is appends others differ =
      edge first (WriteWrite key one) second (low_of key one first appends) (low_of key other second others)
      ((g.of_txns.steps first (WriteWrite key one) second).1 (inl (key, (one, other, (front, back, is), (differ, place_is key one first appends, place_is key other second others, refl)))))

  to_reader : (place index key element writer : ℕ) (base : List ℕ) → Saw txns place index key (base ++ element ∷ appends_before txns key place index) → Appends txns key element writer → writer ≢ place → Apart writer place
  to_reader place index key element writer base saw appends differ = by (appends_before txns key place index) refl saw where
    by : (own : List ℕ) → appends_before txns key place index ≡ own → Saw txns place index key (base ++ element ∷ own) → Apart writer place
    by [] is here =
        let r = has_read txns (length longest) elements writers numbered table reads are place index key (base ++ element ∷ []) here in
        let wrote : writer_place writers r.0.key element ≡ Some writer = subst (λ k. writer_place writers k element ≡ Some writer) (sym r.3) (place_is key element writer appends) in
        edge writer (WriteRead r.0.key element) place (low_of key element writer appends) (must_below txns place (inl here.0))
        ((g.of_txns.steps writer (WriteRead r.0.key element) place).1 (inr (inl (r.0, r.1, inl (element, (base, r.4), (differ, wrote, sym r.2, refl))))))
    by (o ∷ own) is here =
        let b = longest_begins txns (length longest) elements writers numbered table reads are longest longests place index key (base ++ element ∷ o ∷ own) here in
        let mine : Appends txns key o place = appends_from_before txns key place index o (subst (λ xs. includes xs o ≡ true) (sym is) (includes_head o own)) in
        along key element o writer place base (own ++ b.0) (b.1 ∙ append_assoc base (element ∷ o ∷ own) b.0) appends mine differ

  -- behind what a read saw, the reader's own first
  behind_own : (place key element writer o : ℕ) (seen own rest : List ℕ) → longest_of longest key ≡ seen ++ (o ∷ own) ++ element ∷ rest → AllByRecursion (λ one. Appends txns key one place) (o ∷ own) → Appends txns key element writer → writer ≢ place → Apart place writer
  behind_own place key element writer o seen own rest is all appends differ =
      let r = last_of_all (λ one. Appends txns key one place) o own all in
      let whole : longest_of longest key ≡ (seen ++ r.0) ++ r.1 ∷ element ∷ rest = is ∙ ap (λ xs. (seen ++ xs) ++ element ∷ rest) r.2 ∙ ap (λ xs. xs ++ element ∷ rest) (sym (append_assoc seen r.0 (r.1 ∷ []))) ∙ sym (middle_shift (seen ++ r.0) (element ∷ rest) r.1) in
      along key r.1 element place writer (seen ++ r.0) rest whole r.3 appends (λ same. differ (sym same))

  next_lacked : (place index key element writer : ℕ) (seen rest : List ℕ) → Saw txns place index key seen → longest_of longest key ≡ seen ++ element ∷ rest → Appends txns key element writer → writer ≢ place → Begun place writer
  next_lacked place index key element writer seen rest saw whole appends differ =
      let r = has_read txns (length longest) elements writers numbered table reads are place index key seen saw in
      let at : slice_get (longest_of longest key) (length seen) ≡ Some element = subst (λ xs. slice_get xs (length seen) ≡ Some element) (sym whole) (get_at seen rest element) in
      let here : slice_get (longest_of longest r.0.key) (length r.0.seen.now) ≡ Some element = subst (λ k. slice_get (longest_of longest k) (length r.0.seen.now) ≡ Some element) (sym r.3) (subst (λ xs. slice_get (longest_of longest key) (length xs) ≡ Some element) (sym r.4) at) in
      let wrote : writer_place writers r.0.key element ≡ Some writer = subst (λ k. writer_place writers k element ≡ Some writer) (sym r.3) (place_is key element writer appends) in
      edge place (ReadWrite r.0.key element) writer (must_below txns place (inl saw.0)) (low_of key element writer appends)
      ((g.of_txns.steps place (ReadWrite r.0.key element) writer).1 (inr (inl (r.0, r.1, inr (element, here, (λ same. differ (sym same), wrote, sym r.2, refl))))))

  without_own : (seen : List ℕ) (element : ℕ) (rest : List ℕ) (key : ℕ) → longest_of longest key ≡ seen ++ [] ++ element ∷ rest → longest_of longest key ≡ seen ++ element ∷ rest
  without_own seen element rest key is = is ∙ ap (λ xs. xs ++ element ∷ rest) (append_nil_right seen)

  from_reader : (place index key element writer : ℕ) (seen own rest : List ℕ) → Saw txns place index key seen → longest_of longest key ≡ seen ++ own ++ element ∷ rest → AllByRecursion (λ one. Appends txns key one place) own → Appends txns key element writer → writer ≢ place → Begun place writer
  from_reader place index key element writer seen [] rest saw is all appends differ = next_lacked place index key element writer seen rest saw (without_own seen element rest key is) appends differ
  from_reader place index key element writer seen (o ∷ own) rest saw is all appends differ = apart_begun place writer (must_below txns place (inl saw.0)) (low_of key element writer appends) (behind_own place key element writer o seen own rest is all appends differ)

  -- one transaction, or the commit of the one before the start of the other one
  abbrev Linked : ℕ → ℕ → Type 0
  Linked a b = (a ≡ b) ⊎ Apart a b

  link : (a b c : ℕ) → b < length txns → Linked a b → Linked b c → Linked a c
  link a b c low h k = elim h as (λ _. Linked a c) [
    | inl same ↦ subst (λ x. Linked x c) (sym same) k
    | inr early ↦ elim k as (λ _. Linked a c) [
      | inl same ↦ inr (subst (Apart a) same early)
      | inr late ↦ inr (apart_then a b c low early late)
    ]
  ]

  -- along the longest list of a key
  chain : (key x y a b : ℕ) (front rest : List ℕ) → longest_of longest key ≡ front ++ x ∷ rest → includes (x ∷ rest) y ≡ true → Appends txns key x a → Appends txns key y b → Linked a b
  chain key x y a b front [] is listed wrote appends = elim (includes_cons x [] y listed) as (λ _. Linked a b) [
    | inl same ↦ inl (numbered.once.apart key y a b (subst (λ e. Appends txns key e a) same wrote) appends)
    | inr none ↦ absurd (false≢true none)
  ]
  chain key x y a b front (z ∷ rest) is listed wrote appends = elim (includes_cons x (z ∷ rest) y listed) as (λ _. Linked a b) [
    | inl same ↦ inl (numbered.once.apart key y a b (subst (λ e. Appends txns key e a) same wrote) appends)
    | inr later ↦
        let whole : longest_of longest key ≡ (front ++ x ∷ []) ++ z ∷ rest = is ∙ middle_shift front (z ∷ rest) x in
        let listed_z : includes (longest_of longest key) z ≡ true = subst (λ xs. includes xs z ≡ true) (sym whole) (includes_middle (front ++ x ∷ []) rest z) in
        let w = longest_writer txns (length longest) elements writers numbered table reads are longest longests good key z listed_z in
        let next : Linked a w.0 = elim (cases_eq a w.0) as (λ _. Linked a w.0) [
          | inl same ↦ inl same
          | inr differ ↦ inr (along key x z a w.0 front rest is wrote w.1 differ)
        ] in
        link a w.0 b (low_of key z w.0 w.1) next (chain key z y w.0 b (front ++ x ∷ []) rest whole later w.1 appends)
  ]

  -- what no longest list has is not marked
  not_marked : (key element writer : ℕ) → Appends txns key element writer → includes (longest_of longest key) element ≡ false → IsMarked g.marks element → ⊥
  not_marked key element writer appends lacks h =
      let listed = (g.read element).0 h in
      let x = longest_writer txns (length longest) elements writers numbered table reads are longest longests good listed.0 element listed.1 in
      let same : listed.0 ≡ key = numbered.one_key listed.0 key element x.0 writer x.1 appends in
      not_both _ (subst (λ k. includes (longest_of longest k) element ≡ true) same listed.1) lacks

  -- from the writer of the last element to one that appends more
  from_last : (key last other first second : ℕ) (front : List ℕ) → longest_of longest key ≡ front ++ last ∷ [] → Appends txns key last first → Appends txns key other second → includes (longest_of longest key) other ≡ false → MustBeThere txns second → first ≢ second → Apart first second
  from_last key last other first second front is wrote appends lacks must differ =
      let w = table.whole key other second appends in
      let entry = longest_entry longest key last front [] is in
      let seen : entry.0.seen.now ≡ front ++ last ∷ [] = sym (ap seen_by entry.1) ∙ is in
      let at : slice_index_or longest w.0.key None ≡ Some entry.0 = ap (λ k. slice_index_or longest k None) w.2 ∙ entry.1 in
      let wrote_at : writer_place writers w.0.key last ≡ Some first = ap (λ k. writer_place writers k last) w.2 ∙ place_is key last first wrote in
      let low : first < length txns = low_of key last first wrote in
      let below : second < length txns = low_of key other second appends in
      let why = last_why entry.0.place first w.0.key last in
      step (length txns + first) why second (omega (arith, low)) (omega (arith, below))
      ((g.steps (length txns + first) why second).1 (inr (inr (inr (
        other,
        (
          w.0,
          w.1,
          subst (IsMarked there) (sym w.3) (mark second must),
          not_marked key other second appends lacks,
          inr (inl (entry.0, last, at, (front, seen), (first, wrote_at, λ e. differ (e ∙ w.3), refl, refl, sym w.3))),
        ),
      )))))

  -- from one that saw all of a key to one that appends more
  unread : (place key element writer : ℕ) → SawLongest txns (longest_of longest) key place → Appends txns key element writer → includes (longest_of longest key) element ≡ false → MustBeThere txns writer → Begun place writer
  unread place key element writer saw appends lacks must =
      let n = length txns in
      let r = has_read txns (length longest) elements writers numbered table reads are place saw.0 key (longest_of longest key) saw.1 in
      let w = table.whole key element writer appends in
      let full : IsFullRead longest r.0 = r.4 ∙ ap (longest_of longest) (sym r.3) in
      let low : place < n = must_below txns place (inl saw.1.0) in
      let below : writer < n = low_of key element writer appends in
      let into : HasStep graph place RealTime (n + n + key) = (g.steps place RealTime (n + n + key)).1 (inr (inr (inl (r.0, r.1, (full, sym r.2, refl, ap (λ k. n + n + k) (sym r.3)))))) in
      let out : HasStep graph (n + n + key) (ReadWrite w.0.key element) (n + writer) = (g.steps (n + n + key) (ReadWrite w.0.key element) (n + writer)).1 (inr (inr (inr (
        element,
        (
          w.0,
          w.1,
          subst (IsMarked there) (sym w.3) (mark writer must),
          not_marked key element writer appends lacks,
          inl (ap (λ k. n + n + k) (sym w.2), refl, ap (λ p. n + p) (sym w.3)),
        ),
      )))) in
      way place (ReadWrite w.0.key element) (n + writer) (omega (arith, low)) (omega (arith, below)) ((n + n + key) ∷ [], (RealTime, into, omega arith, out))

  -- from the transaction in the middle of a key to another one that appends more
  from_middle : (key own element writer : ℕ) (middle : Middle) → slice_get g.middles key ≡ Some middle → middle.why ≡ ReadWrite key own → middle.node < length txns → Appends txns key element writer → includes (longest_of longest key) element ≡ false → MustBeThere txns writer → middle.node ≢ writer → Apart middle.node writer
  from_middle key own element writer middle at is low appends lacks must differ =
      let w = table.whole key element writer appends in
      let at_w : slice_get g.middles w.0.key ≡ Some middle = ap (slice_get g.middles) w.2 ∙ at in
      let below : writer < length txns = low_of key element writer appends in
      step (length txns + middle.node) (FirstCommitter key own) writer (omega (arith, low)) (omega (arith, below))
      ((g.steps (length txns + middle.node) (FirstCommitter key own) writer).1 (inr (inr (inr (
        element,
        (
          w.0,
          w.1,
          subst (IsMarked there) (sym w.3) (mark writer must),
          not_marked key element writer appends lacks,
          inr (inr (middle, key, own, at_w, is, low, λ e. differ (e ∙ w.3), refl, refl, sym w.3)),
        ),
      )))))

  -- from one that read all of a key and appends more to another one that appends more
  first_committer : (key element other first second : ℕ) → Appends txns key element first → Appends txns key other second → SawLongest txns (longest_of longest) key first → includes (longest_of longest key) element ≡ false → includes (longest_of longest key) other ≡ false → MustBeThere txns second → first ≢ second → Apart first second
  first_committer key element other first second wrote appends saw lacks none must differ =
      let low : key < length g.middles = omega (arith, key_below txns (length longest) elements writers numbered table key element first wrote, g.middle.count) in
      let no : Middle = record { node = 0; why = RealTime } in
      let middle = get_or g.middles key no in
      let at : slice_get g.middles key ≡ Some middle = slice_get-get_or g.middles key no low in
      elim (g.middle.right key middle at) as (λ _. Apart first second) [
        | inl both ↦
            let inside : middle.node < length txns = low_of key both.0 middle.node both.3.0 in
            elim (cases_eq middle.node first) as (λ _. Apart first second) [
              | inl same ↦ subst (λ p. Apart p second) same (from_middle key both.0 other second middle at both.2 inside appends none must (λ e. differ (sym same ∙ e)))
              | inr apart ↦
                  let back : Apart middle.node first = from_middle key both.0 element first middle at both.2 inside wrote lacks (inl saw.1.0) apart in
                  let fresh : includes (longest_of longest key) both.0 ≡ false = elim (cases_Bool (includes (longest_of longest key) both.0)) as (λ _. includes (longest_of longest key) both.0 ≡ false) [
                    | inl listed ↦ absurd (both.3.1 ((g.read both.0).1 (key, listed)))
                    | inr not ↦ not
                  ] in
                  let here : MustBeThere txns middle.node = subst (MustBeThere txns) both.5 (inl (are.right both.1 both.4).1.0) in
                  absurd (not_back first middle.node (unread first key both.0 middle.node saw both.3.0 fresh here) back)
            ]
        | inr hub ↦
            let r = has_read txns (length longest) elements writers numbered table reads are first saw.0 key (longest_of longest key) saw.1 in
            let full : IsFullRead longest r.0 = r.4 ∙ ap (longest_of longest) (sym r.3) in
            absurd (hub.1 r.1.0 element r.0 (slice_get_within reads r.1.0 r.0 r.1.1) r.1.1 r.3 full (subst (Appends txns key element) (sym r.2) wrote, not_marked key element first wrote lacks))
      ]

  -- One that appends to a key, and read it without what the longest list has behind, comes first, or
  -- there are no such orders.
  wins : (key element other first second index : ℕ) (seen rest : List ℕ) → Appends txns key element first → Appends txns key other second → Saw txns first index key seen → longest_of longest key ≡ seen ++ other ∷ rest → first ≢ second → Apart first second
  wins key element other first second index seen rest wrote appends saw is differ =
      let begun : Begun first second = next_lacked first index key other second seen rest saw is appends (λ e. differ (sym e)) in
      let not_first : Linked second first → Apart first second = λ h. elim h as (λ _. Apart first second) [
        | inl same ↦ absurd (differ (sym same))
        | inr back ↦ absurd (not_back first second begun back)
      ] in
      elim (cases_Bool (includes (longest_of longest key) element)) as (λ _. Apart first second) [
        | inl listed ↦ elim (includes_cases seen (other ∷ rest) element (subst (λ xs. includes xs element ≡ true) is listed)) as (λ _. Apart first second) [
          | inl early ↦
              let s = cut seen element early in
              let whole : longest_of longest key ≡ s.0 ++ element ∷ (s.1 ++ other ∷ rest) = is ∙ ap (λ xs. xs ++ other ∷ rest) s.2 ∙ append_assoc s.0 (element ∷ s.1) (other ∷ rest) in
              let there_other : includes (element ∷ (s.1 ++ other ∷ rest)) other ≡ true = includes_middle (element ∷ s.1) rest other in
              elim (chain key element other first second s.0 (s.1 ++ other ∷ rest) whole there_other wrote appends) as (λ _. Apart first second) [ inl same ↦ absurd (differ same) | inr apart ↦ apart ]
          | inr late ↦ not_first (chain key other element second first seen rest is late appends wrote)
        ]
        | inr fresh ↦
            let l = last_in other rest in
            let whole : longest_of longest key ≡ (seen ++ l.0) ++ l.1 ∷ [] = is ∙ ap (λ xs. seen ++ xs) l.2 ∙ sym (append_assoc seen l.0 (l.1 ∷ [])) in
            let listed : includes (longest_of longest key) l.1 ≡ true = subst (λ xs. includes xs l.1 ≡ true) (sym whole) (includes_middle (seen ++ l.0) [] l.1) in
            let w = longest_writer txns (length longest) elements writers numbered table reads are longest longests good key l.1 listed in
            let there_last : includes (other ∷ rest) l.1 ≡ true = subst (λ xs. includes xs l.1 ≡ true) (sym l.2) (includes_middle l.0 [] l.1) in
            let to_last : Linked second w.0 = chain key other l.1 second w.0 seen rest is there_last appends w.1 in
            let from_it : Linked w.0 first = elim (cases_eq w.0 first) as (λ _. Linked w.0 first) [
              | inl same ↦ inl same
              | inr apart ↦ inr (from_last key l.1 element w.0 first (seen ++ l.0) whole w.1 wrote fresh (inl saw.0) apart)
            ] in
            not_first (link second w.0 first (low_of key l.1 w.0 w.1) to_last from_it)
      ]

  lacked_wins : (key element other first second : ℕ) → Appends txns key element first → Appends txns key other second → IsFirstLacked txns (longest_of longest) key other first → first ≢ second → Apart first second
  lacked_wins key element other first second wrote appends lacked differ = by lacked.2 lacked.5 lacked.6 where
    by : (own : List ℕ) → longest_of longest key ≡ lacked.1 ++ own ++ other ∷ lacked.3 → AllByRecursion (λ one. Appends txns key one first) own → Apart first second
    by [] is all = wins key element other first second lacked.0 lacked.1 lacked.3 wrote appends lacked.4 (without_own lacked.1 other lacked.3 key is) differ
    by (o ∷ own) is all = behind_own first key other second o lacked.1 own lacked.3 is all appends (λ e. differ (sym e))

  module _ (asked : real_time ≡ true) where
    no_key_hub : (i : ℕ) → IsKeyHub (length txns) (length longest) (length txns + length longest + i) → ⊥
    no_key_hub i h = omega (arith, h.1)

    completed : (first i c : ℕ) → first < length txns → IsDoneFrom txns first c → IsPointOf g.of_txns.moments c i → HasStep graph (length txns + first) RealTime (length txns + (length txns + length longest + i))
    completed first i c low from pointed = kept_step first RealTime (length txns + length longest + i) (length txns + first) (length txns + (length txns + length longest + i))
        ((g.of_txns.steps first RealTime (length txns + length longest + i)).1 (inr (inr (inr (asked, inl (first, (c, i, from, pointed, refl, refl, refl)))))))
        (λ h. omega (arith, low, h.0)) (no_key_hub i) (inl (low, refl)) (inr (omega arith, refl))

    moment_chain : (second : ℕ) → MustBeThere txns second → (k : ℕ) → IsPointOf g.of_txns.moments (invoked_at txns second) k → (d i : ℕ) → i + d + 1 ≡ k → HasPath graph (length txns + length txns) (length txns + (length txns + length longest + i)) RealTime second
    moment_chain second also k pointed zero i sum =
        let at : k ≡ i + 1 = omega (arith, sum) in
        let below : second < length txns = must_below txns second also in (
          [],
          kept_step (length txns + length longest + i) RealTime second (length txns + (length txns + length longest + i)) second
              ((g.of_txns.steps (length txns + length longest + i) RealTime second).1 (inr (inr (inr (asked, inr (inr (second, (i, mark second also, subst (IsPointOf g.of_txns.moments (invoked_at txns second)) at pointed, refl, refl, refl))))))))
              (no_key_hub i) (λ h. omega (arith, below, h.0)) (inr (omega arith, refl)) (inl (below, refl)),
        )
    moment_chain second also k pointed (suc d) i sum =
        let within : k ≤ length g.of_txns.moments = pointed.within in
        let rest = moment_chain second also k pointed d (i + 1) (omega (arith, sum)) in
        let next : HasStep graph (length txns + (length txns + length longest + i)) RealTime (length txns + (length txns + length longest + (i + 1))) =
        kept_step (length txns + length longest + i) RealTime (length txns + length longest + (i + 1)) (length txns + (length txns + length longest + i)) (length txns + (length txns + length longest + (i + 1)))
        ((g.of_txns.steps (length txns + length longest + i) RealTime (length txns + length longest + (i + 1))).1 (inr (inr (inr (asked, inr (inl (i, omega (arith, sum, within), refl, refl, refl)))))))
        (no_key_hub i) (no_key_hub (i + 1)) (inr (omega arith, refl)) (inr (omega arith, refl)) in
        ((length txns + (length txns + length longest + (i + 1))) ∷ rest.0, (RealTime, next, omega arith, rest.1))

  in_time : (first second : ℕ) → real_time ≡ true → PrecedesInTime txns first second → MustBeThere txns second → Apart first second
  in_time first second asked precedes also =
      let moments = g.of_txns.moments in
      let times = g.of_txns.times asked in
      let c = some_and (completed_at txns first) (invoked_at txns second) precedes.1 in
      let from : IsDoneFrom txns first c.0 = (precedes.0, c.1) in
      let i = point_exists moments c.0 times.rising in
      let k = point_exists moments (invoked_at txns second) times.rising in
      let inside : i.0 < length moments = point_inside moments c.0 i.0 (times.whole first c.0 from) i.1 in
      let before : i.0 < k.0 = elim (cases_lt i.0 k.0) as (λ _. i.0 < k.0) [
        | inl lt ↦ lt
        | inr ge ↦
            let late : invoked_at txns second ≤ get_or moments i.0 0 = k.1.behind i.0 ge inside in
            let j = place_of moments c.0 (times.whole first c.0 from) in
            elim (cases_lt j.0 i.0) as (λ _. i.0 < k.0) [
              | inl lt ↦ let low : get_or moments j.0 0 < c.0 = i.1.before j.0 lt in absurd (omega (arith, low, j.2))
              | inr le ↦ let up : get_or moments i.0 0 ≤ get_or moments j.0 0 = times.rising i.0 j.0 le j.1 in absurd (omega (arith, up, j.2, late, c.2))
            ]
      ] in
      let low : first < length txns = must_below txns first (inl precedes.0) in
      let rest = moment_chain asked second also k.0 k.1 (k.0 - i.0 - 1) i.0 (omega (arith, before)) in
      way (length txns + first) RealTime second (omega (arith, low)) (omega (arith, must_below txns second also))
      ((length txns + (length txns + length longest + i.0)) ∷ rest.0, (RealTime, completed asked first i.0 c.0 low from i.1, omega arith, rest.1))

  pub keeps_next : (model : ConsistencyModel) → keeps_real_time model ≡ real_time → (why : Why) (first second : ℕ) → IsNextDependency txns model (longest_of longest) why first second → ComesBefore nodes (node_of_point (length txns) (leaves_at why first)) (node_of_point (length txns) (arrives_at why second))
  keeps_next model asks (WriteRead key element) first second h = to_reader second h.1.1.0 key element first h.1.1.1 h.1.1.2 h.1.0 h.0
  keeps_next model asks (WriteWrite key element) first second h = elim h.1.3 as (λ _. Apart first second) [
    | inl next ↦ along key element h.1.1 first second next.2 next.3 next.4 h.1.0 h.1.2 h.0
    | inr beyond ↦ from_last key element h.1.1 first second beyond.0.0 beyond.0.1 h.1.0 h.1.2 beyond.1 beyond.2 h.0
  ]
  keeps_next model asks (FirstCommitter key element) first second h = elim h.1.4 as (λ _. Apart first second) [
    | inl lacked ↦ lacked_wins key element h.1.2 first second h.1.1 h.1.3 lacked h.0
    | inr full ↦ elim full.3 as (λ _. Apart first second) [
      | inl last ↦ from_last key element h.1.2 first second last.0 last.1 h.1.1 h.1.3 full.1 full.2 h.0
      | inr fresh ↦ first_committer key element h.1.2 first second h.1.1 h.1.3 full.0 fresh full.1 full.2 h.0
    ]
  ]
  keeps_next model asks (ReadWrite key element) first second h = elim h.1.1 as (λ _. Begun first second) [
    | inl lacked ↦ from_reader first lacked.0 key element second lacked.1 lacked.2 lacked.3 lacked.4 lacked.5 lacked.6 h.1.0 (λ e. h.0 (sym e))
    | inr full ↦ unread first key element second full.0 h.1.0 full.1 full.2
  ]
  keeps_next model asks RealTime first second h = in_time first second (sym asks ∙ h.1.0) h.1.1 h.1.2
