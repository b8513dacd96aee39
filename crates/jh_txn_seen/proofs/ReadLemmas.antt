-- Reads in one list, and the longest one of each key.
use Rattle.std.proofs.Common.{◌≡◌, ℕ, zero, suc, replicate, ◌+◌, ◌<◌, ◌≤◌, Option, Some, None, List, [], ◌++◌, length, get_or, set, refl, sym, ap, subst, ◌∙◌, inl, inr, arith, append_assoc, Bool, true, false, eqb, drop}
use Rattle.std.specs.Prelude.{◌⊎◌, slice_get, unwrap_or, option_map, option_and_then}
use Rattle.std.specs.List.{starts_with}
use Rattle.std.proofs.lemmas.Bool.{cases_lt, cases_eq, false≢true}
use Rattle.std.proofs.lemmas.Bool.Decides.{Decides-eqb}
use Rattle.std.proofs.lemmas.Slice.Eq.{starts_is}
use Rattle.std.proofs.lemmas.List.{get_or_past, get_or-set_same, get_or-set_other}
use Rattle.std.proofs.lemmas.Option.{same_Some, none-some}
use Rattle.jh_txn.specs.declared.txn.MicroOp.{MicroOp}
use Rattle.jh_txn.specs.declared.txn.Outcome.TheVariants.{Done, Failed}
use Rattle.jh_txn.specs.declared.txn.Txn.{Txn}
use Rattle.jh_txn.specs.Transactions.{AreKeysBelow, IsDoneAt, Saw, ops_at, read_content}
use Rattle.jh_txn.proofs.ListLemmas.{append_nil_right}
use Rattle.jh_txn.proofs.OrderCheckLemmas.{read_inside, key_of_read}
use Rattle.jh_txn.proofs.StartLemmas.{keys_of_ops}
use Rattle.jh_txn_seen.specs.declared.done_reads.DoneRead.{DoneRead}
use Rattle.jh_txn_seen.specs.Reads.{HasSeen, IsAmongReads, HasRead, AreReadsBelow, AreDoneReads, AreLongestOf, AreForked, longest_of, seen_by}
use Rattle.jh_txn_seen.specs.Inside.{IsReadAt, AddsRead, AddsReads, LooksAt}

-- what a list of reads has past its end
abbrev pub no_read : DoneRead
no_read = record { place = 0; key = 0; seen = record { ref_ptr = (0, 0); now = [] } }

has_kept : (old new : List DoneRead) → ((read : DoneRead) → IsAmongReads old read → IsAmongReads new read) → (place key : ℕ) (seen : List ℕ) → HasRead old place key seen → HasRead new place key seen
has_kept old new kept place key seen h = (h.0, kept h.0 h.1, h.2, h.3, h.4)

pub adds_reads_none : (place : ℕ) (ops : List MicroOp) (old : List DoneRead) → AddsReads place ops 0 old old
adds_reads_none place ops old = record {
  kept = λ r h. h;
  whole = λ index key seen low. absurd (omega (arith, low));
  right = λ r h. inl h;
}

pub adds_reads_more : (place : ℕ) (ops : List MicroOp) (i : ℕ) (op : MicroOp) (old mid new : List DoneRead) → slice_get ops i ≡ Some op → AddsReads place ops i old mid → AddsRead place op mid new → AddsReads place ops (i + 1) old new
adds_reads_more place ops i op old mid new at a b = record {
  kept = λ r h. b.kept r (a.kept r h);
  whole = λ index key seen low is. elim (cases_lt index i) as (λ _. HasRead new place key seen) [
    | inl lt ↦ has_kept mid new b.kept place key seen (a.whole index key seen lt is)
    | inr ge ↦
        let same : i ≡ index = omega (arith, low, ge) in
        let here : slice_get ops index ≡ Some op = ap (slice_get ops) (sym same) ∙ at in
        b.whole key seen (sym (ap (λ o. option_and_then read_content o) here) ∙ is)
  ];
  right = λ r h. elim (b.right r h) as (λ _. IsAmongReads old r ⊎ ((index : ℕ) × (r.place ≡ place) × IsReadAt ops index r.key r.seen.now)) [
    | inl e ↦ a.right r e
    | inr e ↦ inr (i, e.0, ap (λ o. option_and_then read_content o) at ∙ e.1)
  ];
}

pub below_none : (txns : List Txn) → AreReadsBelow txns 0 []
below_none txns = record {
  right = λ r h. absurd (none-some r h.1);
  whole = λ place key seen low. absurd (omega (arith, low));
}

pub below_skip : (txns : List Txn) (n : ℕ) (txn : Txn) (reads : List DoneRead) → slice_get txns n ≡ Some txn → (txn.outcome ≡ Done → ⊥) → AreReadsBelow txns n reads → AreReadsBelow txns (n + 1) reads
below_skip txns n txn reads at other a = record {
  right = a.right;
  whole = λ place key seen low h. elim (cases_lt place n) as (λ _. HasRead reads place key seen) [
    | inl lt ↦ a.whole place key seen lt h
    | inr ge ↦
        let same : place ≡ n = omega (arith, low, ge) in
        absurd (other (sym (ap (λ o. unwrap_or (option_map (λ (t : Txn). t.outcome) o) Failed) (ap (slice_get txns) same ∙ at)) ∙ h.1.0))
  ];
}

pub below_more : (txns : List Txn) (n : ℕ) (txn : Txn) (ops : List MicroOp) (old new : List DoneRead) → slice_get txns n ≡ Some txn → txn.outcome ≡ Done → ops ≡ txn.ops → AreReadsBelow txns n old → AddsReads n ops (length ops) old new → AreReadsBelow txns (n + 1) new
below_more txns n txn ops old new at done is a b =
    let mine : ops_at txns n ≡ ops = ap (λ o. unwrap_or (option_map (λ (t : Txn). t.ops) o) []) at ∙ sym is in
    let done_here : IsDoneAt txns n = ap (λ o. unwrap_or (option_map (λ (t : Txn). t.outcome) o) Failed) at ∙ done in
    record {
      right = λ r h. elim (b.right r h) as (λ _. HasSeen txns r.place r.key r.seen.now) [
        | inl e ↦ a.right r e
        | inr e ↦ (e.0, subst (λ p. Saw txns p e.0 r.key r.seen.now) (sym e.1) (done_here, subst (λ os. IsReadAt os e.0 r.key r.seen.now) (sym mine) e.2))
      ];
      whole = λ place key seen low h. elim (cases_lt place n) as (λ _. HasRead new place key seen) [
        | inl lt ↦ has_kept old new b.kept place key seen (a.whole place key seen lt h)
        | inr ge ↦
            let same : place ≡ n = omega (arith, low, ge) in
            let content : IsReadAt ops h.0 key seen = subst (λ os. IsReadAt os h.0 key seen) (ap (ops_at txns) same ∙ mine) h.1.1 in
            subst (λ p. HasRead new p key seen) (sym same) (b.whole h.0 key seen (read_inside ops h.0 key seen content) content)
      ];
    }

-- The longest reads.

pub longest_past : (table : List (Option DoneRead)) (key : ℕ) → length table ≤ key → longest_of table key ≡ []
longest_past table key past = ap seen_by (get_or_past table key None past)

longest_same : (old : List (Option DoneRead)) (key : ℕ) (read : DoneRead) → key < length old → longest_of (set old key (Some read)) key ≡ read.seen.now
longest_same old key read low = ap seen_by (get_or-set_same old key (Some read) None low)

longest_other : (old : List (Option DoneRead)) (key other : ℕ) (read : DoneRead) → (other ≡ key → ⊥) → longest_of (set old key (Some read)) other ≡ longest_of old other
longest_other old key other read differ = ap seen_by (get_or-set_other old key other (Some read) None differ)

pub longest_none : (reads : List DoneRead) (table : List (Option DoneRead)) → ((key : ℕ) → get_or table key None ≡ None) → AreLongestOf reads 0 table
longest_none reads table none = record {
  right = λ key read is. absurd (none-some read (sym (none key) ∙ is));
  begins = λ index read low. absurd (omega (arith, low));
}

pub longest_new : (reads : List DoneRead) (table : List (Option DoneRead)) (keys : ℕ) → table ≡ replicate keys None → AreLongestOf reads 0 table
longest_new reads table keys is = longest_none reads table (λ key. ap (λ t. get_or t key None) is ∙ none_at keys key) where
  none_at : (n key : ℕ) → get_or (replicate {A = Option DoneRead} n None) key None ≡ None
  none_at zero key = refl
  none_at (suc n) zero = refl
  none_at (suc n) (suc key) = none_at n key

pub longest_more : (reads : List DoneRead) (i : ℕ) (read : DoneRead) (old new : List (Option DoneRead)) → slice_get reads i ≡ Some read → read.key < length old → LooksAt old read None new → AreLongestOf reads i old → AreLongestOf reads (i + 1) new
longest_more reads i read old new at low looks a = elim looks as (λ _. AreLongestOf reads (i + 1) new) [
  | inl stays ↦ record {
    right = λ key r is. a.right key r (ap (λ t. get_or t key None) (sym stays.0) ∙ is);
    begins = λ index r under is. elim (cases_lt index i) as (λ _. (rest : List ℕ) × (longest_of new r.key ≡ r.seen.now ++ rest)) [
      | inl lt ↦ let h = a.begins index r lt is in (h.0, ap (λ t. longest_of t r.key) stays.0 ∙ h.1)
      | inr ge ↦
          let same : i ≡ index = omega (arith, under, ge) in
          let it : read ≡ r = same_Some read r (sym at ∙ ap (slice_get reads) same ∙ is) in
          (stays.1.0, ap (λ t. longest_of t r.key) stays.0 ∙ subst (λ x. longest_of old x.key ≡ x.seen.now ++ stays.1.0) it stays.1.1)
    ];
  }
  | inr put ↦ record {
    right = λ key r is. elim (cases_eq key read.key) as (λ _. (r.key ≡ key) × IsAmongReads reads r) [
      | inl same ↦
          let it : read ≡ r = same_Some read r (sym (get_or-set_same old read.key (Some read) None low) ∙ ap (λ t. get_or t read.key None) (sym put.0) ∙ ap (λ k. get_or new k None) (sym same) ∙ is) in
          (ap (λ x. x.key) (sym it) ∙ sym same, subst (IsAmongReads reads) it (i, at))
      | inr other ↦ a.right key r (sym (get_or-set_other old read.key key (Some read) None other) ∙ ap (λ t. get_or t key None) (sym put.0) ∙ is)
    ];
    begins = λ index r under is. elim (cases_lt index i) as (λ _. (rest : List ℕ) × (longest_of new r.key ≡ r.seen.now ++ rest)) [
      | inl lt ↦ let h = a.begins index r lt is in elim (cases_eq r.key read.key) as (λ _. (rest : List ℕ) × (longest_of new r.key ≡ r.seen.now ++ rest)) [
        | inl same ↦ (
          h.0 ++ put.1.0,
          ap (λ t. longest_of t r.key) put.0 ∙ ap (longest_of (set old read.key (Some read))) same ∙ longest_same old read.key read low ∙ put.1.1
              ∙ ap (λ xs. xs ++ put.1.0) (ap (longest_of old) (sym same) ∙ h.1) ∙ append_assoc r.seen.now h.0 put.1.0,
        )
        | inr other ↦ (h.0, ap (λ t. longest_of t r.key) put.0 ∙ longest_other old read.key r.key read other ∙ h.1)
      ]
      | inr ge ↦
          let same : i ≡ index = omega (arith, under, ge) in
          let it : read ≡ r = same_Some read r (sym at ∙ ap (slice_get reads) same ∙ is) in
          ([], subst (λ x. longest_of new x.key ≡ x.seen.now ++ []) it (ap (λ t. longest_of t read.key) put.0 ∙ longest_same old read.key read low ∙ sym (append_nil_right read.seen.now)))
    ];
  }
]

pub forked : (reads : List DoneRead) (i : ℕ) (read other : DoneRead) (old new : List (Option DoneRead)) → slice_get reads i ≡ Some read → LooksAt old read (Some other) new → AreLongestOf reads i old → AreForked reads other read
forked reads i read other old new at looks a =
    let it = a.right read.key other looks.0 in
    record { first = it.1; second = (i, at); same_key = it.0; apart = looks.1 }

-- What is begun.
pub begun : (s p : List ℕ) (r : Bool) → r ≡ starts_with eqb s p → r ≡ true → (rest : List ℕ) × (s ≡ p ++ rest)
begun s p r is begins = (drop (length p) s, (starts_is Decides-eqb s p r is).0 begins)

pub not_begun : (s p : List ℕ) (r : Bool) → r ≡ starts_with eqb s p → r ≡ false → (rest : List ℕ) → s ≡ p ++ rest → ⊥
not_begun s p r is none rest begins = false≢true (sym none ∙ (starts_is Decides-eqb s p r is).1 rest begins)

-- a read's key is one of the keys
pub read_key_below : (txns : List Txn) (reads : List DoneRead) (keys : ℕ) → AreDoneReads txns reads → AreKeysBelow keys txns → (read : DoneRead) → IsAmongReads reads read → read.key < keys
read_key_below txns reads keys are below read one =
    let saw = are.right read one in
    key_of_read keys (ops_at txns read.place) saw.0 read.key read.seen.now (keys_of_ops keys txns read.place below) saw.1.1
