-- What is known of the tables that the judge makes.
use Rattle.std.proofs.Common.{◌≡◌, ℕ, zero, suc, ◌<◌, Bool, true, false, cond, eqb, Option, Some, None, List, [], ◌∷◌, ◌++◌, length, refl, sym, ap, subst, ◌∙◌, inl, inr, arith}
use Rattle.std.specs.Prelude.{◌⊎◌, slice_get, slice_index_or, option_and_then}
use Rattle.std.specs.List.{All}
use Rattle.std.proofs.lemmas.Bool.{false≢true, eqb-true}
use Rattle.std.proofs.lemmas.Option.{slice_get_within, get_or_from_slice_get}
use Rattle.jh_txn.specs.declared.anomaly.BadRead.TheVariants.{DuplicateElements, GarbageRead}
use Rattle.jh_txn.specs.declared.txn.MicroOp.{MicroOp}
use Rattle.jh_txn.specs.declared.txn.MicroOp.TheVariants.{Append, Read}
use Rattle.jh_txn.specs.declared.txn.Txn.{Txn}
use Rattle.jh_txn.specs.BadReads.{HasNoBadRead}
use Rattle.jh_txn.specs.Dependencies.{MustBeThere}
use Rattle.jh_txn.specs.Next.{AreLongest}
use Rattle.jh_txn.specs.Transactions.{Appends, HasNoRepeat, IsKeyBelow, Saw, appended, includes, ops_at, read_content}
use Rattle.jh_txn.proofs.ExplainedLemmas.{writer_cases}
use Rattle.jh_txn.proofs.ListLemmas.{none_twice, place_of, twice_cases}
use Rattle.jh_txn.proofs.OrderCheckLemmas.{done_below, same_read}
use Rattle.jh_txn.proofs.StartLemmas.{keys_of_ops}
use Rattle.jh_txn_seen.specs.declared.done_reads.DoneRead.{DoneRead}
use Rattle.jh_txn_seen.specs.Marks.{AreThereMarks, IsMarked}
use Rattle.jh_txn_seen.specs.Reads.{AreDoneReads, AreLongestOf, HasRead, longest_of, seen_by}
use Rattle.jh_txn_seen.specs.Places.{AreWriterKeysBelow, AreWritersBelow, writer_place}
use Rattle.jh_txn_seen.proofs.PlaceLemmas.{place_writer, writer_is_place}
use Rattle.jh_txn_writers.specs.Numbers.{AreElementsOfBelow, AreNumbersOf}
use Rattle.jh_txn_writers.specs.Writers.{AreWriters}
use Rattle.jh_txn_writers.specs.declared.writer.Writer.{Writer}

pub appends_below : (txns : List Txn) (key element place : ℕ) → Appends txns key element place → place < length txns
appends_below [] key element place h = absurd (false≢true h)
appends_below (txn ∷ txns) key element zero h = omega arith
appends_below (txn ∷ txns) key element (suc place) h = omega (arith, appends_below txns key element place h)

pub must_below : (txns : List Txn) (place : ℕ) → MustBeThere txns place → place < length txns
must_below txns place must = elim must as (λ _. place < length txns) [
  | inl done ↦ done_below txns place done
  | inr shown ↦ appends_below txns shown.0 shown.1 place shown.3
]

appended_key_below : (keys key element : ℕ) (ops : List MicroOp) → All (IsKeyBelow keys) ops → includes (appended key ops) element ≡ true → key < keys
appended_key_below keys key element [] all h = absurd (false≢true h)
appended_key_below keys key element (Append k e ∷ ops) all h =
    elim (eqb k key) as (λ b. eqb k key ≡ b → includes (cond b (e ∷ appended key ops) (appended key ops)) element ≡ true → key < keys) [
      | true ↦ λ is there. let first : k < keys = all 0 (Append k e) (omega arith) in subst (λ n. n < keys) (eqb-true k key is) first
      | false ↦ λ is there. appended_key_below keys key element ops (λ m d inside. all (suc m) d (omega (arith, inside))) there
    ] refl h
appended_key_below keys key element (Read k seen ∷ ops) all h = appended_key_below keys key element ops (λ m d inside. all (suc m) d (omega (arith, inside))) h

ops_all : (P : MicroOp → Type 0) (txns : List Txn) → All (λ txn. All P txn.ops) txns → (place : ℕ) → All P (ops_at txns place)
ops_all P [] all place = λ k d low. absurd (omega (arith, low))
ops_all P (txn ∷ txns) all zero = all 0 txn (omega arith)
ops_all P (txn ∷ txns) all (suc place) = ops_all P txns (λ k d low. all (suc k) d (omega (arith, low))) place

seen_elements : (elements : ℕ) (ops : List MicroOp) (m key element : ℕ) (seen : List ℕ) → All (AreElementsOfBelow elements) ops → option_and_then read_content (slice_get ops m) ≡ Some (key, seen) → includes seen element ≡ true → element < elements
seen_elements elements ops m key element seen all is there = at (slice_get ops m) refl is where
  at : (found : Option MicroOp) → slice_get ops m ≡ found → option_and_then read_content found ≡ Some (key, seen) → element < elements
  at None e h = absurd (let bad : ◌≡◌ {A = Option (ℕ × List ℕ)} None (Some (key, seen)) = h in cc)
  at (Some (Append k x)) e h = absurd (let bad : ◌≡◌ {A = Option (ℕ × List ℕ)} None (Some (key, seen)) = h in cc)
  at (Some (Read k list)) e h =
      let inside : m < length ops = slice_get_within ops m (Read k list) e in
      let below : AreElementsOfBelow elements (Read k list) = subst (AreElementsOfBelow elements) (get_or_from_slice_get ops m (Read k list) (Read k list) e) (all m (Read k list) inside) in
      let listed : includes list element ≡ true = subst (λ xs. includes xs element ≡ true) (sym (same_read k key list seen h).1) there in
      let place = place_of list element listed in
      subst (λ x. x < elements) place.2 (below place.0 0 place.1)

pub nil_front : (xs ys : List ℕ) → xs ++ ys ≡ [] → xs ≡ []
nil_front [] ys e = refl
nil_front (x ∷ xs) ys e = absurd (let bad : ◌≡◌ {A = List ℕ} (x ∷ (xs ++ ys)) [] = e in cc)

module _ (txns : List Txn) (keys elements : ℕ) (writers : List (Option Writer)) (numbered : AreNumbersOf txns keys elements) (table : AreWriters txns elements writers) where
  pub key_below : (key element place : ℕ) → Appends txns key element place → key < keys
  key_below key element place h = appended_key_below keys key element (ops_at txns place) (keys_of_ops keys txns place numbered.keys_below) h

  pub element_below : (place index key element : ℕ) (seen : List ℕ) → Saw txns place index key seen → includes seen element ≡ true → element < elements
  element_below place index key element seen saw there = seen_elements elements (ops_at txns place) index key element seen (ops_all (AreElementsOfBelow elements) txns numbered.elements_below place) saw.1 there

  pub is_writer : (key element place : ℕ) → Appends txns key element place → writer_place writers key element ≡ Some place
  is_writer key element place h =
      let w = table.whole key element place h in
      subst (λ k. writer_place writers k element ≡ Some place) w.2 (subst (λ p. writer_place writers w.0.key element ≡ Some p) w.3 (writer_is_place writers element w.0 w.1))

  pub appends_of : (key element place : ℕ) → writer_place writers key element ≡ Some place → Appends txns key element place
  appends_of key element place is =
      let w = place_writer writers key element place is in
      subst (λ k. Appends txns k element place) w.2 (subst (λ p. Appends txns w.0.key element p) w.3 (table.right element w.0 w.1).appends)

  pub writers_below : AreWritersBelow (length txns) writers
  writers_below element w is = appends_below txns w.key element w.place (table.right element w is).appends

  pub writer_keys_below : AreWriterKeysBelow keys writers
  writer_keys_below element w is = key_below w.key element w.place (table.right element w is).appends

  module _ (reads : List DoneRead) (are : AreDoneReads txns reads) where
    pub has_read : (place index key : ℕ) (seen : List ℕ) → Saw txns place index key seen → HasRead reads place key seen
    has_read place index key seen saw = are.whole place key seen (done_below txns place saw.0) (index, saw)

    module _ (there : List Bool) (marked : AreThereMarks txns writers reads there) where
      pub must_of : (place : ℕ) → IsMarked there place → MustBeThere txns place
      must_of place h = elim (marked.only place h) as (λ _. MustBeThere txns place) [
        | inl done ↦ inl done
        | inr shown ↦
            let read = shown.0 in
            let saw = are.right read shown.1 in
            let element = shown.2.0 in
            inr (read.key, element, read.place, appends_of read.key element place shown.2.2, (saw.0, read.seen.now, saw.1, shown.2.1))
      ]

      pub marked_of : (place : ℕ) → MustBeThere txns place → IsMarked there place
      marked_of place must = elim must as (λ _. IsMarked there place) [
        | inl done ↦ marked.done place done
        | inr shown ↦
            let key = shown.0 in
            let element = shown.1 in
            let w = shown.4 in
            let r = has_read shown.2 w.0 key w.1 w.2 in
            marked.shown place (r.0, r.1, (element, subst (λ xs. includes xs element ≡ true) (sym r.4) w.3, subst (λ k. writer_place writers k element ≡ Some place) (sym r.3) (is_writer key element place shown.3)))
      ]

    -- the longest reads
    module _ (longest : List (Option DoneRead)) (longests : AreLongestOf reads (length reads) longest) where
      pub longest_begins : (place index key : ℕ) (seen : List ℕ) → Saw txns place index key seen → (rest : List ℕ) × (longest_of longest key ≡ seen ++ rest)
      longest_begins place index key seen saw =
          let r = has_read place index key seen saw in
          let b = longests.begins r.1.0 r.0 (slice_get_within reads r.1.0 r.0 r.1.1) r.1.1 in
          (b.0, ap (longest_of longest) (sym r.3) ∙ b.1 ∙ ap (λ xs. xs ++ b.0) r.4)

      pub longest_seen : (key : ℕ) → ((reader : ℕ) × (at : ℕ) × Saw txns reader at key (longest_of longest key)) ⊎ (longest_of longest key ≡ [])
      longest_seen key = by (slice_index_or longest key None) refl where
        by : (found : Option DoneRead) → slice_index_or longest key None ≡ found → ((reader : ℕ) × (at : ℕ) × Saw txns reader at key (longest_of longest key)) ⊎ (longest_of longest key ≡ [])
        by None e = inr (ap seen_by e)
        by (Some r) e =
            let x = longests.right key r e in
            let saw = are.right r x.1 in
            inl (r.place, saw.0, subst (λ xs. Saw txns r.place saw.0 key xs) (sym (ap seen_by e)) (subst (λ k. Saw txns r.place saw.0 k r.seen.now) x.0 saw.1))

      pub are_longest : AreLongest txns (longest_of longest)
      are_longest = record {
        begins = longest_begins;
        seen = λ place index key seen saw. elim (longest_seen key) as (λ _. (reader at : ℕ) × Saw txns reader at key (longest_of longest key)) [
          | inl w ↦ (w.0, w.1, w.2)
          | inr none ↦
              let b = longest_begins place index key seen saw in
              let nil : seen ≡ [] = nil_front seen b.0 (sym b.1 ∙ none) in
              (place, index, subst (λ xs. Saw txns place index key xs) (nil ∙ sym none) saw)
        ];
      }

      pub longest_reader : (key element : ℕ) → includes (longest_of longest key) element ≡ true → (reader : ℕ) × (at : ℕ) × Saw txns reader at key (longest_of longest key)
      longest_reader key element h = elim (longest_seen key) as (λ _. (reader : ℕ) × (at : ℕ) × Saw txns reader at key (longest_of longest key)) [
        | inl w ↦ w
        | inr none ↦ absurd (false≢true (ap (λ xs. includes xs element) (sym none) ∙ h))
      ]

      pub must_read : (key element place : ℕ) → includes (longest_of longest key) element ≡ true → Appends txns key element place → MustBeThere txns place
      must_read key element place h appends =
          let w = longest_reader key element h in
          inr (key, element, w.0, appends, (w.1, longest_of longest key, w.2, h))

      pub longest_below : (key element : ℕ) → includes (longest_of longest key) element ≡ true → element < elements
      longest_below key element h = let w = longest_reader key element h in element_below w.0 w.1 key element (longest_of longest key) w.2 h

      module _ (good : HasNoBadRead txns) where
        pub longest_once : (key : ℕ) → HasNoRepeat (longest_of longest key)
        longest_once key = elim (longest_seen key) as (λ _. HasNoRepeat (longest_of longest key)) [
          | inl w ↦ elim (twice_cases (longest_of longest key)) as (λ _. HasNoRepeat (longest_of longest key)) [
            | inl once ↦ once
            | inr twice ↦ absurd (good w.0 w.1 DuplicateElements (key, longest_of longest key, w.2, twice))
          ]
          | inr none ↦ subst HasNoRepeat (sym none) none_twice
        ]

        -- who appends what a longest read has
        pub longest_writer : (key element : ℕ) → includes (longest_of longest key) element ≡ true → (writer : ℕ) × Appends txns key element writer
        longest_writer key element h =
            let w = longest_reader key element h in
            elim (writer_cases txns key element) as (λ _. (writer : ℕ) × Appends txns key element writer) [
              | inl writer ↦ writer
              | inr nobody ↦ absurd (good w.0 w.1 GarbageRead (key, longest_of longest key, w.2, (element, h, nobody)))
            ]
