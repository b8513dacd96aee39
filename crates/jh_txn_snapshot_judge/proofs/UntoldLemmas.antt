-- Elements of untold writers, as the judge finds them.
use Rattle.std.proofs.Common.{◌≡◌, ℕ, zero, suc, ◌+◌, ◌<◌, Bool, true, eqb, eq-eqb, Option, Some, None, List, [], ◌∷◌, ◌++◌, length, take, get_or, sym, ap, subst, ◌∙◌, inl, inr}
use Rattle.std.specs.Prelude.{◌⊎◌, ◌↔◌, ◌||◌, slice_get, option_and_then}
use Rattle.std.proofs.lemmas.Bool.{cases_Bool, eqb-true, false≢true, or_left, or_right}
use Rattle.std.proofs.lemmas.List.{take_more}
use Rattle.jh_txn.specs.declared.txn.MicroOp.{MicroOp}
use Rattle.jh_txn.specs.declared.txn.MicroOp.TheVariants.{Append, Read}
use Rattle.jh_txn.specs.declared.txn.Txn.{Txn}
use Rattle.jh_txn.specs.BadReads.{HasNoBadRead}
use Rattle.jh_txn.specs.Transactions.{appended, includes, ops_at, read_content}
use Rattle.jh_txn.proofs.ListLemmas.{includes_cases, includes_left, includes_right}
use Rattle.jh_txn.proofs.OrderCheckLemmas.{same_read}
use Rattle.jh_txn.proofs.TransactionLemmas.{appended_append}
use Rattle.jh_txn_seen.specs.Marks.{AddsMarks, AreThereMarks, IsMarked, IsReadElement}
use Rattle.jh_txn_seen.specs.Reads.{AreDoneReads, AreLongestOf, longest_of}
use Rattle.jh_txn_seen.specs.declared.done_reads.DoneRead.{DoneRead}
use Rattle.jh_txn_seen.proofs.KnownLemmas.{longest_begins, longest_reader, longest_writer, marked_of, must_of}
use Rattle.jh_txn_snapshot_judge.specs.TurnsInside.{AreUntoldMarks, IsUntoldElement}
use Rattle.jh_txn_snapshot_judge.specs.UntoldInside.{AppendsBlind, IsAnyUntoldAt, ReadsKey, has_read_of, is_read_of}
use Rattle.jh_txn_snapshots.specs.Untold.{IsUntold}
use Rattle.jh_txn_writers.specs.Numbers.{AreNumbersOf}
use Rattle.jh_txn_writers.specs.Writers.{AreWriters}
use Rattle.jh_txn_writers.specs.declared.writer.Writer.{Writer}

-- a read at an index, and whether there is one
module _ (key : ℕ) where
  read_op : (seen : List ℕ) (op : MicroOp) → option_and_then read_content (Some op) ≡ Some (key, seen) → is_read_of key op ≡ true
  read_op seen (Append k x) h = absurd (let bad : ◌≡◌ {A = Option (ℕ × List ℕ)} None (Some (key, seen)) = h in cc)
  read_op seen (Read k xs) h = eq-eqb k key (same_read k key xs seen h).0

  pub read_here : (ops : List MicroOp) (index : ℕ) (seen : List ℕ) → option_and_then read_content (slice_get ops index) ≡ Some (key, seen) → has_read_of key ops ≡ true
  read_here [] index seen h = absurd (let bad : ◌≡◌ {A = Option (ℕ × List ℕ)} None (Some (key, seen)) = h in cc)
  read_here (op ∷ ops) zero seen h = or_left (is_read_of key op) (has_read_of key ops) (read_op seen op h)
  read_here (op ∷ ops) (suc index) seen h = or_right (is_read_of key op) (has_read_of key ops) (read_here ops index seen h)

  pub here_read : (ops : List MicroOp) → has_read_of key ops ≡ true → (index : ℕ) × (seen : List ℕ) × (option_and_then read_content (slice_get ops index) ≡ Some (key, seen))
  here_read [] h = absurd (false≢true h)
  here_read (Append k x ∷ ops) h = let r = here_read ops h in (suc r.0, r.1, r.2)
  here_read (Read k xs ∷ ops) h = elim (cases_Bool (eqb k key)) as (λ _. (index : ℕ) × (seen : List ℕ) × (option_and_then read_content (slice_get (Read k xs ∷ ops) index) ≡ Some (key, seen))) [
    | inl is ↦ (0, xs, ap (λ n. Some (n, xs)) (eqb-true k key is))
    | inr differ ↦
        let later : has_read_of key ops ≡ true = subst (λ b. (b || has_read_of key ops) ≡ true) differ h in
        let r = here_read ops later in
        (suc r.0, r.1, r.2)
  ]

-- Marks of what micro-operations append.
marks_both : (P Q R : ℕ → Type 0) (old mid new : List Bool) → AddsMarks P old mid → AddsMarks Q mid new → ((n : ℕ) → P n → R n) → ((n : ℕ) → Q n → R n) → ((n : ℕ) → R n → P n ⊎ Q n) → AddsMarks R old new
marks_both P Q R old mid new a b one other back = record {
  count = b.count ∙ a.count;
  kept = λ n h. b.kept n (a.kept n h);
  added = λ n h. elim (back n h) as (λ _. IsMarked new n) [ inl first ↦ b.kept n (a.added n first) | inr second ↦ b.added n second ];
  only = λ n h. elim (b.only n h) as (λ _. IsMarked old n ⊎ R n) [
    | inl before ↦ elim (a.only n before) as (λ _. IsMarked old n ⊎ R n) [ inl there ↦ inl there | inr first ↦ inr (one n first) ]
    | inr second ↦ inr (other n second)
  ];
}

module _ (readers : List (Option ℕ)) (marks : List Bool) (place : ℕ) where
  blind_then : (ops more : List MicroOp) (old mid new : List Bool) → AddsMarks (AppendsBlind readers marks place ops) old mid → AddsMarks (AppendsBlind readers marks place more) mid new → AddsMarks (AppendsBlind readers marks place (ops ++ more)) old new
  blind_then ops more old mid new a b = marks_both (AppendsBlind readers marks place ops) (AppendsBlind readers marks place more) (AppendsBlind readers marks place (ops ++ more)) old mid new a b
      (λ n h. (h.0, h.1, subst (λ xs. includes xs n ≡ true) (sym (appended_append h.1 ops more)) (includes_left (appended h.1 ops) (appended h.1 more) n h.2), h.3))
      (λ n h. (h.0, h.1, subst (λ xs. includes xs n ≡ true) (sym (appended_append h.1 ops more)) (includes_right (appended h.1 ops) (appended h.1 more) n h.2), h.3))
      (λ n h. elim (includes_cases (appended h.1 ops) (appended h.1 more) n (subst (λ xs. includes xs n ≡ true) (appended_append h.1 ops more) h.2)) as (λ _. AppendsBlind readers marks place ops n ⊎ AppendsBlind readers marks place more n) [
        | inl early ↦ inl (h.0, h.1, early, h.3)
        | inr late ↦ inr (h.0, h.1, late, h.3)
      ])

  pub blind_more : (ops : List MicroOp) (i : ℕ) (op : MicroOp) (old mid new : List Bool) → i < length ops → op ≡ get_or ops i op → AddsMarks (AppendsBlind readers marks place (take i ops)) old mid → AddsMarks (AppendsBlind readers marks place (op ∷ [])) mid new → AddsMarks (AppendsBlind readers marks place (take (i + 1) ops)) old new
  blind_more ops i op old mid new low is a b = subst (λ os. AddsMarks (AppendsBlind readers marks place os) old new) (sym (take_more ops i op low ∙ ap (λ o. take i ops ++ o ∷ []) (sym is))) (blind_then (take i ops) (op ∷ []) old mid new a b)

module _ (txns : List Txn) (there marks : List Bool) where
  -- These are the elements of untold writers that must be there.
  module _ (elements : ℕ) (writers : List (Option Writer)) (reads : List DoneRead) (longest : List (Option DoneRead)) (numbered : AreNumbersOf txns (length longest) elements) (table : AreWriters txns elements writers) (are : AreDoneReads txns reads) (marked : AreThereMarks txns writers reads there) (longests : AreLongestOf reads (length reads) longest) (good : HasNoBadRead txns) (read : (element : ℕ) → IsMarked marks element ↔ IsReadElement longest element) where
    untold_of : (element : ℕ) → IsAnyUntoldAt txns there marks element → IsUntoldElement txns element
    untold_of element h =
        let place = h.0 in
        let key = h.1.2 in
        let told : IsUntold txns key element place = record {
          appends = h.1.3;
          unread = λ reader r.
              let b = longest_begins txns (length longest) elements writers numbered table reads are longest longests reader r.0 key r.1 r.2 in
              h.1.1 ((read element).1 (key, subst (λ xs. includes xs element ≡ true) (sym b.1) (includes_left r.1 b.0 element r.3)));
          blind = λ index seen saw. h.1.4 (saw.0, read_here key (ops_at txns place) index seen saw.1);
        } in
        (key, place, told, must_of txns (length longest) elements writers numbered table reads are there marked place h.1.0)

    at_untold : (element : ℕ) → IsUntoldElement txns element → IsAnyUntoldAt txns there marks element
    at_untold element h =
        let key = h.0 in
        let place = h.1 in
        let u = h.2 in
        let none : IsMarked marks element → ⊥ = λ m.
        let listed = (read element).0 m in
        let x = longest_writer txns (length longest) elements writers numbered table reads are longest longests good listed.0 element listed.1 in
        let same : listed.0 ≡ key = numbered.one_key listed.0 key element x.0 place x.1 u.appends in
        let here : includes (longest_of longest key) element ≡ true = subst (λ k. includes (longest_of longest k) element ≡ true) same listed.1 in
        let r = longest_reader txns (length longest) elements writers numbered table reads are longest longests key element here in
        u.unread r.0 (r.1, longest_of longest key, r.2, here) in
        let blind : ReadsKey txns place key → ⊥ = λ k.
        let s = here_read key (ops_at txns place) k.1 in
        u.blind s.0 s.1 (k.0, s.2) in
        (place, (marked_of txns (length longest) elements writers numbered table reads are there marked place h.3, none, key, u.appends, blind))

    pub are_untold : (untold : List Bool) → ((element : ℕ) → IsMarked untold element ↔ IsAnyUntoldAt txns there marks element) → AreUntoldMarks txns untold
    are_untold untold is element = (λ h. untold_of element ((is element).0 h), λ h. (is element).1 (at_untold element h))
