-- That an order which keeps the paths of the graph keeps the next dependencies, and so is a serial order.
use Rattle.std.proofs.Common.{◌≡◌, ℕ, zero, suc, ◌+◌, ◌-◌, ◌<◌, ◌≤◌, Bool, true, false, Option, Some, None, List, [], ◌∷◌, ◌++◌, length, get_or, refl, sym, ap, subst, ◌∙◌, inl, inr, arith, append_assoc}
use Rattle.std.specs.Prelude.{◌≢◌, Vec, slice_get}
use Rattle.std.specs.List.{AllByRecursion}
use Rattle.std.specs.Option.{IsSomeAnd}
use Rattle.std.specs.declared.alloc.Global.{Global}
use Rattle.std.proofs.lemmas.Bool.{cases_eq, cases_lt}
use Rattle.std.proofs.lemmas.Option.{slice_get-get_or}
use Rattle.jh_txn.specs.declared.dependency.Step.{Step}
use Rattle.jh_txn.specs.declared.dependency.Why.{Why}
use Rattle.jh_txn.specs.declared.dependency.Why.TheVariants.{ReadWrite, RealTime, WriteRead, WriteWrite}
use Rattle.jh_txn.specs.declared.model.ConsistencyModel.{ConsistencyModel}
use Rattle.jh_txn.specs.declared.txn.Txn.{Txn}
use Rattle.jh_txn.specs.BadReads.{HasNoBadRead}
use Rattle.jh_txn.specs.Dependencies.{MustBeThere}
use Rattle.jh_txn.specs.Models.{keeps_real_time}
use Rattle.jh_txn.specs.Next.{KeepsNext}
use Rattle.jh_txn.specs.RealTime.{CompleteAfterInvocation, PrecedesInTime, completed_at, invoked_at}
use Rattle.jh_txn.specs.SerialOrders.{IsSerialOrderFor}
use Rattle.jh_txn.specs.Transactions.{Appends, ComesBefore, Saw, appends_before, includes}
use Rattle.jh_txn.proofs.KeepingLemmas.{suffices_for}
use Rattle.jh_txn.proofs.ListLemmas.{append_nil_right, before_trans, includes_head, includes_middle, middle_shift, not_both, place_of}
use Rattle.jh_txn.proofs.NextDependencyLemmas.{keeps_all}
use Rattle.jh_txn.proofs.TransactionLemmas.{appends_from_before}
use Rattle.jh_txn_graph.specs.Graphs.{HasStep, KeepsPaths, HasPath}
use Rattle.jh_txn_seen.specs.declared.done_reads.DoneRead.{DoneRead}
use Rattle.jh_txn_edges.specs.Graph.{IsGraphOf}
use Rattle.jh_txn_seen.specs.Marks.{AreThereMarks, IsMarked}
use Rattle.jh_txn_seen.specs.Middles.{IsFullRead}
use Rattle.jh_txn_edges.specs.Moments.{IsDoneFrom, IsPointOf}
use Rattle.jh_txn_seen.specs.Reads.{AreDoneReads, AreLongestOf, longest_of}
use Rattle.jh_txn_seen.specs.Places.{writer_place}
use Rattle.jh_txn_judge.proofs.ChosenLemmas.{chosen, of_all, step_before, way_before}
use Rattle.jh_txn_seen.proofs.KnownLemmas.{are_longest, has_read, is_writer, key_below, longest_begins, longest_writer, marked_of, must_below, must_of, must_read}
use Rattle.jh_txn_edges.proofs.MomentLemmas.{point_exists, point_inside}
use Rattle.jh_txn_writers.specs.Numbers.{AreNumbersOf}
use Rattle.jh_txn_writers.specs.Writers.{AreWriters}
use Rattle.jh_txn_writers.specs.declared.writer.Writer.{Writer}

pub get_at : (xs ys : List ℕ) (y : ℕ) → slice_get (xs ++ y ∷ ys) (length xs) ≡ Some y
get_at [] ys y = refl
get_at (x ∷ xs) ys y = get_at xs ys y

-- the last one of those of which all something holds
pub last_of_all : (P : ℕ → Type 0) (x : ℕ) (xs : List ℕ) → AllByRecursion P (x ∷ xs) → (front : List ℕ) × (last : ℕ) × (x ∷ xs ≡ front ++ last ∷ []) × P last
last_of_all P x [] all = ([], x, refl, all.0)
last_of_all P x (y ∷ ys) all = let r = last_of_all P y ys all.1 in (x ∷ r.0, r.1, ap (λ zs. x ∷ zs) r.2, r.3)

pub some_and : (o : Option ℕ) (index : ℕ) → IsSomeAnd o (λ completed. completed < index) → (c : ℕ) × (o ≡ Some c) × (c < index)
some_and None index h = absurd h
some_and (Some c) index h = (c, refl, h)

module _ (txns : List Txn) (elements : ℕ) (writers : List (Option Writer)) (reads : List DoneRead) (there : List Bool) (longest : List (Option DoneRead)) (real_time : Bool) (graph : List (Vec Step Global)) (numbered : AreNumbersOf txns (length longest) elements) (table : AreWriters txns elements writers) (are : AreDoneReads txns reads) (marked : AreThereMarks txns writers reads there) (longests : AreLongestOf reads (length reads) longest) (good : HasNoBadRead txns) (ends : CompleteAfterInvocation txns) (g : IsGraphOf txns writers there reads longest real_time graph) (nodes : List ℕ) (kept : KeepsPaths graph (length txns) nodes) where
  abbrev Order : List ℕ
  Order = chosen there nodes

  must : (place : ℕ) → IsMarked there place → MustBeThere txns place
  must = must_of txns (length longest) elements writers numbered table reads are there marked

  mark : (place : ℕ) → MustBeThere txns place → IsMarked there place
  mark = marked_of txns (length longest) elements writers numbered table reads are there marked

  step : (p : ℕ) (w : Why) (q : ℕ) → MustBeThere txns p → MustBeThere txns q → HasStep graph p w q → ComesBefore Order p q
  step = step_before txns there must mark graph nodes kept

  way : (p : ℕ) (w : Why) (q : ℕ) → MustBeThere txns p → MustBeThere txns q → HasPath graph (length txns) p w q → ComesBefore Order p q
  way = way_before txns there must mark graph nodes kept

  place_is : (key element place : ℕ) → Appends txns key element place → writer_place writers key element ≡ Some place
  place_is = is_writer txns (length longest) elements writers numbered table

  read_must : (key element place : ℕ) → includes (longest_of longest key) element ≡ true → Appends txns key element place → MustBeThere txns place
  read_must = must_read txns (length longest) elements writers numbered table reads are longest longests

  along : (key one other first second : ℕ) (front back : List ℕ) → longest_of longest key ≡ front ++ one ∷ other ∷ back → Appends txns key one first → Appends txns key other second → first ≢ second → ComesBefore Order first second
  along key one other first second front back is appends others differ =
      let listed_one : includes (longest_of longest key) one ≡ true = subst (λ xs. includes xs one ≡ true) (sym is) (includes_middle front (other ∷ back) one) in
      let listed_other : includes (longest_of longest key) other ≡ true = subst (λ xs. includes xs other ≡ true) (sym (is ∙ middle_shift front (other ∷ back) one)) (includes_middle (front ++ one ∷ []) back other) in
      step first (WriteWrite key one) second (read_must key one first listed_one appends) (read_must key other second listed_other others)
      ((g.steps first (WriteWrite key one) second).1 (inl (key, (one, other, (front, back, is), (differ, place_is key one first appends, place_is key other second others, refl)))))

  to_reader : (place index key element writer : ℕ) (base : List ℕ) → Saw txns place index key (base ++ element ∷ appends_before txns key place index) → Appends txns key element writer → writer ≢ place → ComesBefore Order writer place
  to_reader place index key element writer base saw appends differ = by (appends_before txns key place index) refl saw where
    by : (own : List ℕ) → appends_before txns key place index ≡ own → Saw txns place index key (base ++ element ∷ own) → ComesBefore Order writer place
    by [] is here =
        let r = has_read txns (length longest) elements writers numbered table reads are place index key (base ++ element ∷ []) here in
        let must_writer : MustBeThere txns writer = inr (key, element, place, appends, (index, base ++ element ∷ [], here, includes_middle base [] element)) in
        let wrote : writer_place writers r.0.key element ≡ Some writer = subst (λ k. writer_place writers k element ≡ Some writer) (sym r.3) (place_is key element writer appends) in
        step writer (WriteRead r.0.key element) place must_writer (inl here.0)
        ((g.steps writer (WriteRead r.0.key element) place).1 (inr (inl (r.0, r.1, inl (element, (base, r.4), (differ, wrote, sym r.2, refl))))))
    by (o ∷ own) is here =
        let b = longest_begins txns (length longest) elements writers numbered table reads are longest longests place index key (base ++ element ∷ o ∷ own) here in
        let mine : Appends txns key o place = appends_from_before txns key place index o (subst (λ xs. includes xs o ≡ true) (sym is) (includes_head o own)) in
        along key element o writer place base (own ++ b.0) (b.1 ∙ append_assoc base (element ∷ o ∷ own) b.0) appends mine differ

  from_reader : (place index key element writer : ℕ) (seen own rest : List ℕ) → Saw txns place index key seen → longest_of longest key ≡ seen ++ own ++ element ∷ rest → AllByRecursion (λ one. Appends txns key one place) own → Appends txns key element writer → writer ≢ place → ComesBefore Order place writer
  from_reader place index key element writer seen [] rest saw is all appends differ =
      let r = has_read txns (length longest) elements writers numbered table reads are place index key seen saw in
      let whole : longest_of longest key ≡ seen ++ element ∷ rest = is ∙ ap (λ xs. xs ++ element ∷ rest) (append_nil_right seen) in
      let at : slice_get (longest_of longest key) (length seen) ≡ Some element = subst (λ xs. slice_get xs (length seen) ≡ Some element) (sym whole) (get_at seen rest element) in
      let here : slice_get (longest_of longest r.0.key) (length r.0.seen.now) ≡ Some element = subst (λ k. slice_get (longest_of longest k) (length r.0.seen.now) ≡ Some element) (sym r.3) (subst (λ xs. slice_get (longest_of longest key) (length xs) ≡ Some element) (sym r.4) at) in
      let wrote : writer_place writers r.0.key element ≡ Some writer = subst (λ k. writer_place writers k element ≡ Some writer) (sym r.3) (place_is key element writer appends) in
      let listed : includes (longest_of longest key) element ≡ true = subst (λ xs. includes xs element ≡ true) (sym whole) (includes_middle seen rest element) in
      step place (ReadWrite r.0.key element) writer (inl saw.0) (read_must key element writer listed appends)
      ((g.steps place (ReadWrite r.0.key element) writer).1 (inr (inl (r.0, r.1, inr (element, here, (λ same. differ (sym same), wrote, sym r.2, refl))))))
  from_reader place index key element writer seen (o ∷ own) rest saw is all appends differ =
      let r = last_of_all (λ one. Appends txns key one place) o own all in
      let whole : longest_of longest key ≡ (seen ++ r.0) ++ r.1 ∷ element ∷ rest = is ∙ ap (λ xs. (seen ++ xs) ++ element ∷ rest) r.2 ∙ ap (λ xs. xs ++ element ∷ rest) (sym (append_assoc seen r.0 (r.1 ∷ []))) ∙ sym (middle_shift (seen ++ r.0) (element ∷ rest) r.1) in
      along key r.1 element place writer (seen ++ r.0) rest whole r.3 appends (λ same. differ (sym same))

  unread : (place index key element writer : ℕ) → Saw txns place index key (longest_of longest key) → Appends txns key element writer → includes (longest_of longest key) element ≡ false → MustBeThere txns writer → writer ≢ place → ComesBefore Order place writer
  unread place index key element writer saw appends lacks there_too differ =
      let r = has_read txns (length longest) elements writers numbered table reads are place index key (longest_of longest key) saw in
      let w = table.whole key element writer appends in
      let none : IsMarked g.marks element → ⊥ = λ h.
      let listed = (g.read element).0 h in
      let x = longest_writer txns (length longest) elements writers numbered table reads are longest longests good listed.0 element listed.1 in
      let same : listed.0 ≡ key = numbered.one_key listed.0 key element x.0 writer x.1 appends in
      not_both _ (subst (λ k. includes (longest_of longest k) element ≡ true) same listed.1) lacks in
      let full : IsFullRead longest r.0 = r.4 ∙ ap (longest_of longest) (sym r.3) in
      let low : key < length g.middles = omega (arith, key_below txns (length longest) elements writers numbered table key element writer appends, g.middle.count) in
      let reader_low : place < length txns = must_below txns place (inl saw.0) in
      let writer_low : writer < length txns = must_below txns writer there_too in
      let middle = get_or g.middles key (record { node = 0; why = RealTime }) in
      let at : slice_get g.middles key ≡ Some middle = slice_get-get_or g.middles key (record { node = 0; why = RealTime }) low in
      let at_r : slice_get g.middles r.0.key ≡ Some middle = ap (slice_get g.middles) r.3 ∙ at in
      let at_w : slice_get g.middles w.0.key ≡ Some middle = ap (slice_get g.middles) w.2 ∙ at in
      let into : place ≢ middle.node → HasStep graph place middle.why middle.node = λ apart. (g.steps place middle.why middle.node).1 (inr (inr (inl (inl (r.0, r.1, (middle, full, at_r, apart, sym r.2, refl, refl)))))) in
      let out_of : middle.node ≢ writer → HasStep graph middle.node (ReadWrite w.0.key element) writer = λ apart. (g.steps middle.node (ReadWrite w.0.key element) writer).1 (inr (inr (inl (inr (element, (w.0, middle, w.1, subst (IsMarked there) (sym w.3) (mark writer there_too), none, at_w, apart, refl, refl, sym w.3)))))) in
      elim (g.middle.right key middle at) as (λ _. ComesBefore Order place writer) [
        | inl both ↦
            let must_middle : MustBeThere txns middle.node = subst (MustBeThere txns) both.5 (inl (are.right both.1 both.4).1.0) in
            elim (cases_eq place middle.node) as (λ _. ComesBefore Order place writer) [
              | inl same ↦ subst (λ p. ComesBefore Order p writer) (sym same) (step middle.node (ReadWrite w.0.key element) writer must_middle there_too (out_of (λ e. differ (sym (same ∙ e)))))
              | inr apart ↦
                  let early : ComesBefore Order place middle.node = step place middle.why middle.node (inl saw.0) must_middle (into apart) in
                  elim (cases_eq middle.node writer) as (λ _. ComesBefore Order place writer) [
                    | inl same ↦ subst (λ q. ComesBefore Order place q) same early
                    | inr other ↦ before_trans Order place middle.node writer (of_all txns there must mark graph nodes kept).distinct early (step middle.node (ReadWrite w.0.key element) writer must_middle there_too (out_of other))
                  ]
            ]
        | inr hub ↦ way place (ReadWrite w.0.key element) writer (inl saw.0) there_too
            (middle.node ∷ [], (middle.why, into (λ e. omega (arith, e, hub.0, reader_low)), omega (arith, hub.0), out_of (λ e. omega (arith, e, hub.0, writer_low))))
      ]

  module _ (asked : real_time ≡ true) where
    completed : (first i c : ℕ) → IsDoneFrom txns first c → IsPointOf g.moments c i → HasStep graph first RealTime (length txns + length longest + i)
    completed first i c from pointed = (g.steps first RealTime (length txns + length longest + i)).1 (inr (inr (inr (asked, inl (first, (c, i, from, pointed, refl, refl, refl))))))

    chain : (second : ℕ) → MustBeThere txns second → (k : ℕ) → IsPointOf g.moments (invoked_at txns second) k → (d i : ℕ) → i + d + 1 ≡ k → HasPath graph (length txns) (length txns + length longest + i) RealTime second
    chain second also k pointed zero i sum =
        let at : k ≡ i + 1 = omega (arith, sum) in
        ([], (g.steps (length txns + length longest + i) RealTime second).1 (inr (inr (inr (asked, inr (inr (second, (i, mark second also, subst (IsPointOf g.moments (invoked_at txns second)) at pointed, refl, refl, refl))))))))
    chain second also k pointed (suc d) i sum =
        let within : k ≤ length g.moments = pointed.within in
        let rest = chain second also k pointed d (i + 1) (omega (arith, sum)) in
        let next : HasStep graph (length txns + length longest + i) RealTime (length txns + length longest + (i + 1)) = (g.steps (length txns + length longest + i) RealTime (length txns + length longest + (i + 1))).1 (inr (inr (inr (asked, inr (inl (i, omega (arith, sum, within), refl, refl, refl)))))) in
        ((length txns + length longest + (i + 1)) ∷ rest.0, (RealTime, next, omega arith, rest.1))

  in_time : (first second : ℕ) → real_time ≡ true → PrecedesInTime txns first second → MustBeThere txns second → first ≢ second → ComesBefore Order first second
  in_time first second asked precedes also differ =
      let times = g.times asked in
      let c = some_and (completed_at txns first) (invoked_at txns second) precedes.1 in
      let from : IsDoneFrom txns first c.0 = (precedes.0, c.1) in
      let i = point_exists g.moments c.0 times.rising in
      let k = point_exists g.moments (invoked_at txns second) times.rising in
      let inside : i.0 < length g.moments = point_inside g.moments c.0 i.0 (times.whole first c.0 from) i.1 in
      let before : i.0 < k.0 = elim (cases_lt i.0 k.0) as (λ _. i.0 < k.0) [
        | inl lt ↦ lt
        | inr ge ↦
            let late : invoked_at txns second ≤ get_or g.moments i.0 0 = k.1.behind i.0 ge inside in
            let j = place_of g.moments c.0 (times.whole first c.0 from) in
            elim (cases_lt j.0 i.0) as (λ _. i.0 < k.0) [
              | inl lt ↦ let low : get_or g.moments j.0 0 < c.0 = i.1.before j.0 lt in absurd (omega (arith, low, j.2))
              | inr le ↦ let up : get_or g.moments i.0 0 ≤ get_or g.moments j.0 0 = times.rising i.0 j.0 le j.1 in absurd (omega (arith, up, j.2, late, c.2))
            ]
      ] in
      let rest = chain asked second also k.0 k.1 (k.0 - i.0 - 1) i.0 (omega (arith, before)) in
      way first RealTime second (inl precedes.0) also
      ((length txns + length longest + i.0) ∷ rest.0, (RealTime, completed asked first i.0 c.0 from i.1, omega arith, rest.1))

  keeps_next : KeepsNext txns real_time (longest_of longest) Order
  keeps_next = record {
    along = along;
    to_reader = to_reader;
    from_reader = from_reader;
    unread = unread;
    in_time = in_time;
  }

  pub order_found : (model : ConsistencyModel) → keeps_real_time model ≡ real_time → IsSerialOrderFor txns real_time Order
  order_found model asks =
      let all = of_all txns there must mark graph nodes kept in
      let keeps = keeps_all txns model (longest_of longest) Order numbered.once good all (are_longest txns (length longest) elements writers numbered table reads are longest longests) (subst (λ flag. KeepsNext txns flag (longest_of longest) Order) (sym asks) keeps_next) in
      subst (λ flag. IsSerialOrderFor txns flag Order) asks (suffices_for txns model Order numbered.once ends good all keeps)
