-- That the steps of the graph are dependencies.
use Rattle.std.proofs.Common.{◌≡◌, ℕ, true, false, Option, Some, List, [], ◌∷◌, ◌++◌, length, refl, sym, subst, ◌∙◌, inl, inr}
use Rattle.std.specs.Prelude.{◌≢◌, slice_get}
use Rattle.std.proofs.lemmas.Bool.{cases_Bool}
use Rattle.std.proofs.lemmas.Option.{same_Some, none-some}
use Rattle.jh_txn.specs.declared.dependency.Why.{Why}
use Rattle.jh_txn.specs.declared.dependency.Why.TheVariants.{ReadWrite, WriteRead}
use Rattle.jh_txn.specs.declared.model.ConsistencyModel.{ConsistencyModel}
use Rattle.jh_txn.specs.declared.txn.Txn.{Txn}
use Rattle.jh_txn.specs.BadReads.{HasNoBadRead}
use Rattle.jh_txn.specs.Dependencies.{IsDependency, IsReadBefore, MustBeThere, ReadsWith, ReadsWithout}
use Rattle.jh_txn.specs.Transactions.{Appends, ComesBefore, includes}
use Rattle.jh_txn.proofs.ListLemmas.{before_across, before_first, before_itself, before_right, before_second, includes_head, includes_right}
use Rattle.jh_txn_seen.specs.declared.done_reads.DoneRead.{DoneRead}
use Rattle.jh_txn_seen.specs.Reads.{AreDoneReads, AreLongestOf, IsAmongReads, longest_of}
use Rattle.jh_txn_edges.specs.Steps.{IsAlongStep, IsLackedStep, IsPairStep, IsReadStep, IsShownStep}
use Rattle.jh_txn_seen.proofs.KnownLemmas.{appends_of, longest_begins, longest_once, longest_reader, must_read}
use Rattle.jh_txn_writers.specs.Numbers.{AreNumbersOf}
use Rattle.jh_txn_writers.specs.Writers.{AreNeighbours, AreWriters}
use Rattle.jh_txn_writers.specs.declared.writer.Writer.{Writer}

-- a dependency in each model
abbrev pub Depends : List Txn → ℕ → Why → ℕ → Type 0
Depends txns place why target = (model : ConsistencyModel) → IsDependency txns model why place target

get_behind : (xs ys : List ℕ) (e : ℕ) → slice_get (xs ++ ys) (length xs) ≡ Some e → includes ys e ≡ true
get_behind [] [] e h = absurd (none-some e h)
get_behind [] (y ∷ ys) e h = subst (λ z. includes (y ∷ ys) z ≡ true) (same_Some y e h) (includes_head y ys)
get_behind (x ∷ xs) ys e h = get_behind xs ys e h

pub neighbours_before : (xs : List ℕ) (a b : ℕ) → AreNeighbours xs a b → ComesBefore xs a b
neighbours_before xs a b h = subst (λ ys. ComesBefore ys a b) (sym h.2) (before_right h.0 (a ∷ b ∷ h.1) a b (inl (refl, includes_head b h.1)))

module _ (txns : List Txn) (keys elements : ℕ) (writers : List (Option Writer)) (numbered : AreNumbersOf txns keys elements) (table : AreWriters txns elements writers) (reads : List DoneRead) (are : AreDoneReads txns reads) where
  -- of a pair of elements that a read has in this order
  pub pair_depends : (key one other place : ℕ) (why : Why) (target : ℕ) → IsReadBefore txns key one other → IsPairStep writers key one other place why target → Depends txns place why target
  pair_depends key one other place why target before h model =
      let first = appends_of txns keys elements writers numbered table key one place h.1 in
      let second = appends_of txns keys elements writers numbered table key other target h.2 in
      subst (λ w. IsDependency txns model w place target) (sym h.3) (record {
        differ = h.0;
        first_there = inr (key, one, before.0, first, (before.1, before.2, before.3, before_first before.2 one other before.4));
        second_there = inr (key, other, before.0, second, (before.1, before.2, before.3, before_second before.2 one other before.4));
        reason = (first, other, second, inl before);
      })

  pub shown_depends : (read : DoneRead) (element place : ℕ) (why : Why) (target : ℕ) → IsAmongReads reads read → includes read.seen.now element ≡ true → IsShownStep writers read element place why target → Depends txns place why target
  shown_depends read element place why target one there h model =
      let saw = are.right read one in
      let appends = appends_of txns keys elements writers numbered table read.key element place h.1 in
      let shows : ReadsWith txns read.key element read.place = (saw.0, read.seen.now, saw.1, there) in
      subst (λ w. IsDependency txns model w place target) (sym h.3) (subst (λ t. IsDependency txns model (WriteRead read.key element) place t) (sym h.2) (record {
        differ = λ same. h.0 (same ∙ sym h.2);
        first_there = inr (read.key, element, read.place, appends, shows);
        second_there = inl saw.1.0;
        reason = (appends, shows);
      }))

  pub without_depends : (key element place target : ℕ) → ReadsWithout txns key element place → Appends txns key element target → MustBeThere txns target → place ≢ target → Depends txns place (ReadWrite key element) target
  without_depends key element place target lacks appends must differ model = record {
    differ = differ;
    first_there = inl lacks.2.0;
    second_there = must;
    reason = (lacks, appends);
  }

  pub lacked_depends : (read : DoneRead) (element place : ℕ) (why : Why) (target : ℕ) → IsAmongReads reads read → includes read.seen.now element ≡ false → MustBeThere txns target → IsLackedStep writers read element place why target → Depends txns place why target
  lacked_depends read element place why target one none must h =
      let saw = are.right read one in
      let appends = appends_of txns keys elements writers numbered table read.key element target h.1 in
      subst (λ w. Depends txns place w target) (sym h.3) (subst (λ p. Depends txns p (ReadWrite read.key element) target) (sym h.2)
      (without_depends read.key element read.place target (saw.0, read.seen.now, saw.1, none) appends must (λ same. h.0 (h.2 ∙ same))))

  module _ (longest : List (Option DoneRead)) (longests : AreLongestOf reads (length reads) longest) (good : HasNoBadRead txns) where
    pub along_depends : (place : ℕ) (why : Why) (target : ℕ) → IsAlongStep writers longest place why target → Depends txns place why target
    along_depends place why target h =
        let key = h.0 in
        let one = h.1.0 in
        let other = h.1.1 in
        let before = neighbours_before (longest_of longest key) one other h.1.2 in
        let w = longest_reader txns keys elements writers numbered table reads are longest longests key one (before_first (longest_of longest key) one other before) in
        pair_depends key one other place why target (w.0, w.1, longest_of longest key, w.2, before) h.1.3

    pub read_depends : (place : ℕ) (why : Why) (target : ℕ) → IsReadStep writers longest reads place why target → Depends txns place why target
    read_depends place why target h =
        let read = h.0 in
        elim h.2 as (λ _. Depends txns place why target) [
          | inl to ↦ shown_depends read to.0 place why target h.1 (subst (λ xs. includes xs to.0 ≡ true) (sym to.1.1) (includes_right to.1.0 (to.0 ∷ []) to.0 (includes_head to.0 []))) to.2
          | inr from ↦
              let element = from.0 in
              let saw = are.right read h.1 in
              let b = longest_begins txns keys elements writers numbered table reads are longest longests read.place saw.0 read.key read.seen.now saw.1 in
              let behind : includes b.0 element ≡ true = get_behind read.seen.now b.0 element (subst (λ xs. slice_get xs (length read.seen.now) ≡ Some element) b.1 from.1) in
              let listed : includes (longest_of longest read.key) element ≡ true = subst (λ xs. includes xs element ≡ true) (sym b.1) (includes_right read.seen.now b.0 element behind) in
              let appends = appends_of txns keys elements writers numbered table read.key element target from.2.1 in
              elim (cases_Bool (includes read.seen.now element)) as (λ _. Depends txns place why target) [
                | inl again ↦ absurd (before_itself (longest_of longest read.key) element (longest_once txns keys elements writers numbered table reads are longest longests good read.key) (subst (λ xs. ComesBefore xs element element) (sym b.1) (before_across read.seen.now b.0 element element again behind)))
                | inr none ↦ lacked_depends read element place why target h.1 none (must_read txns keys elements writers numbered table reads are longest longests read.key element target listed appends) from.2
              ]
        ]
