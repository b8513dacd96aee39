-- What the table of writers says of the elements of a base.
use Rattle.std.proofs.Common.{◌≡◌, ℕ, Option, Some, None, Bool, true, false, List, length, refl, sym, ap, subst, ◌∙◌, inl, inr, MatchOption, IsSomeAnd, take, get_or, ◌<◌, ◌+◌, [], ◌∷◌}
use Rattle.std.specs.Prelude.{◌⊎◌, option_and_then}
use Rattle.std.proofs.lemmas.Bool.{true_from_ne_false}
use Rattle.std.proofs.lemmas.List.{take_more}
use Rattle.jh_txn.specs.declared.anomaly.BadRead.TheVariants.{IntermediateRead, OutOfOrder}
use Rattle.jh_txn.specs.declared.txn.Txn.{Txn}
use Rattle.jh_txn.specs.Transactions.{AppendOnce, Appends, ComesBefore, HasNoRepeat, IsFailedAt, appends_at, includes}
use Rattle.jh_txn.proofs.ListLemmas.{before_first, before_second, includes_cases, one_is}
use Rattle.jh_txn_writers.specs.declared.writer.Writer.{Writer}
use Rattle.jh_txn_writers.specs.Writers.{AreNeighbours, AreWriters, BeginsWith, EndsWith, writer_at}
use Rattle.jh_txn_reads.specs.Inside.{AreElementMarks, IsReadInTurn, IsOutOfTurn, IsSoundElement, IsWrongBase, previous_of}
use Rattle.jh_txn_reads.proofs.NeighbourLemmas.{neighbours_before, none_before_first, none_behind_last, same_next, same_previous}

-- one element more
pub elements_more : (P : ℕ → Type 0) (xs : List ℕ) (i : ℕ) → i < length xs → ((e : ℕ) → includes (take i xs) e ≡ true → P e) → P (get_or xs i 0) → (e : ℕ) → includes (take (i + 1) xs) e ≡ true → P e
elements_more P xs i low each here e h = elim (includes_cases (take i xs) (get_or xs i 0 ∷ []) e (subst (λ ys. includes ys e ≡ true) (take_more xs i 0 low) h)) as (λ _. P e) [
  | inl front ↦ each e front
  | inr own ↦ subst P (one_is (get_or xs i 0) e own) here
]

-- the entry's neighbours are the only ones
module _ (xs : List ℕ) (once : HasNoRepeat xs) (element : ℕ) where
  previous_is : (found : Option ℕ) (one : ℕ) → MatchOption found (BeginsWith xs element) (λ other. AreNeighbours xs other element) → AreNeighbours xs one element → found ≡ Some one
  previous_is None one first pair = absurd (none_before_first xs once element one first pair)
  previous_is (Some p) one given pair = ap Some (same_previous xs once p one element given pair)

  next_is : (found : Option ℕ) (one : ℕ) → MatchOption found (EndsWith xs element) (λ other. AreNeighbours xs element other) → AreNeighbours xs element one → found ≡ Some one
  next_is None one last pair = absurd (none_behind_last xs once element one last pair)
  next_is (Some p) one given pair = ap Some (same_next xs once element p one given pair)

module _ (txns : List Txn) (once : AppendOnce txns) (elements : ℕ) (table : List (Option Writer)) (writers : AreWriters txns elements table) where
  at_entry : (w : Writer) (key writer one other : ℕ) → w.key ≡ key → w.place ≡ writer → AreNeighbours (appends_at txns key writer) one other → AreNeighbours (appends_at txns w.key w.place) one other
  at_entry w key writer one other e f pair = subst (λ k. AreNeighbours (appends_at txns k w.place) one other) (sym e) (subst (λ p. AreNeighbours (appends_at txns key p) one other) (sym f) pair)

  -- Of an element of a base with its entry.
  module _ (base : List ℕ) (marks : List Bool) (marked : AreElementMarks base marks) (place key element : ℕ) (there : includes base element ≡ true) (w : Writer) (is : writer_at table element ≡ Some w) (at_key : w.key ≡ key) (differ : w.place ≡ place → ⊥) where
    by_previous : (found : Option ℕ) → MatchOption found (BeginsWith (appends_at txns w.key w.place) element) (λ other. AreNeighbours (appends_at txns w.key w.place) other element) → IsSomeAnd found (λ x. get_or marks x false ≡ false) → IsWrongBase txns place w.key base IntermediateRead
    by_previous None given lacks = absurd lacks
    by_previous (Some p) given lacks = (element, p, w.place, differ, (writers.right element w is).appends, before_first (appends_at txns w.key w.place) p element (neighbours_before (appends_at txns w.key w.place) p element given), there, sym (marked p) ∙ lacks)

    by_next : (found : Option ℕ) → MatchOption found (EndsWith (appends_at txns w.key w.place) element) (λ other. AreNeighbours (appends_at txns w.key w.place) element other) → IsSomeAnd found (λ x. get_or marks x false ≡ false) → IsWrongBase txns place w.key base IntermediateRead
    by_next None given lacks = absurd lacks
    by_next (Some p) given lacks = (element, p, w.place, differ, (writers.right element w is).appends, before_second (appends_at txns w.key w.place) element p (neighbours_before (appends_at txns w.key w.place) element p given), there, sym (marked p) ∙ lacks)

    pub wrong_if_lacking : IsSomeAnd w.previous (λ x. get_or marks x false ≡ false) ⊎ IsSomeAnd w.next (λ x. get_or marks x false ≡ false) → IsWrongBase txns place key base IntermediateRead
    wrong_if_lacking lacks = subst (λ k. IsWrongBase txns place k base IntermediateRead) at_key (elim lacks as (λ _. IsWrongBase txns place w.key base IntermediateRead) [
      | inl e ↦ by_previous w.previous (writers.right element w is).previous e
      | inr e ↦ by_next w.next (writers.right element w is).next e
    ])

    -- what is not lacking is there
    there_if : (found : Option ℕ) (one : ℕ) → found ≡ Some one → (IsSomeAnd found (λ x. get_or marks x false ≡ false) → ⊥) → includes base one ≡ true
    there_if found one e none = sym (marked one) ∙ true_from_ne_false _ (λ lacks. none (subst (λ o. IsSomeAnd o (λ x. get_or marks x false ≡ false)) (sym e) lacks))

    sound_there : (IsFailedAt txns w.place → ⊥) → (IsSomeAnd w.previous (λ x. get_or marks x false ≡ false) → ⊥) → (IsSomeAnd w.next (λ x. get_or marks x false ≡ false) → ⊥) → IsSoundElement txns place w.key base element
    sound_there possible no_previous no_next = record {
      written = (w.place, (writers.right element w is).appends, differ, possible);
      previous = λ one writer pair.
          let same : w.place ≡ writer = once.apart w.key element w.place writer (writers.right element w is).appends (before_second (appends_at txns w.key writer) one element (neighbours_before (appends_at txns w.key writer) one element pair)) in
          there_if w.previous one (previous_is (appends_at txns w.key w.place) (once.within w.key w.place) element w.previous one (writers.right element w is).previous (at_entry w w.key writer one element refl same pair)) no_previous;
      next = λ one writer pair.
          let same : w.place ≡ writer = once.apart w.key element w.place writer (writers.right element w is).appends (before_first (appends_at txns w.key writer) element one (neighbours_before (appends_at txns w.key writer) element one pair)) in
          there_if w.next one (next_is (appends_at txns w.key w.place) (once.within w.key w.place) element w.next one (writers.right element w is).next (at_entry w w.key writer element one refl same pair)) no_next;
    }

    pub sound_if : (IsFailedAt txns w.place → ⊥) → (IsSomeAnd w.previous (λ x. get_or marks x false ≡ false) ⊎ IsSomeAnd w.next (λ x. get_or marks x false ≡ false) → ⊥) → IsSoundElement txns place key base element
    sound_if possible none = subst (λ k. IsSoundElement txns place k base element) at_key (sound_there possible (λ e. none (inl e)) (λ e. none (inr e)))

  -- Of a base, each element of which is sound.
  module _ (place key : ℕ) (base : List ℕ) (sound : (element : ℕ) → includes base element ≡ true → IsSoundElement txns place key base element) where
    pub in_turn_if : (IsOutOfTurn table base → ⊥) → IsReadInTurn txns key base
    in_turn_if none one other writer pair wrong =
        let appends : Appends txns key other writer = before_second (appends_at txns key writer) one other (neighbours_before (appends_at txns key writer) one other pair) in
        let e = writers.whole key other writer appends in
        let w : Writer = e.0 in
        let is : w.previous ≡ Some one = previous_is (appends_at txns w.key w.place) (once.within w.key w.place) other w.previous one (writers.right other w e.1).previous (at_entry w key writer one other e.2 e.3 pair) in
        let found : previous_of table other ≡ w.previous = ap (λ o. option_and_then (λ (writer : Writer). writer.previous) o) e.1 in
        none (one, other, found ∙ is, wrong)

    pub wrong_if_out_of_turn : IsOutOfTurn table base → IsWrongBase txns place key base OutOfOrder
    wrong_if_out_of_turn out =
        let one = out.0 in
        let other = out.1 in
        let written = (sound other (before_first base other one out.3)).written in
        let e = writers.whole key other written.0 written.1 in
        let w : Writer = e.0 in
        let found : previous_of table other ≡ w.previous = ap (λ o. option_and_then (λ (writer : Writer). writer.previous) o) e.1 in
        let pair : AreNeighbours (appends_at txns w.key w.place) one other = subst (λ o. MatchOption o (BeginsWith (appends_at txns w.key w.place) other) (λ p. AreNeighbours (appends_at txns w.key w.place) p other)) (sym found ∙ out.2) (writers.right other w e.1).previous in
        (one, other, w.place, subst (λ k. ComesBefore (appends_at txns k w.place) one other) e.2 (neighbours_before (appends_at txns w.key w.place) one other pair), out.3)
