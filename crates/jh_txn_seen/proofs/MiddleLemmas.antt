-- What stands in the middle of each key.
use Rattle.std.proofs.Common.{◌≡◌, ℕ, zero, suc, replicate, ◌+◌, ◌<◌, Bool, true, false, eqb, Option, Some, None, List, [], ◌∷◌, ◌++◌, length, take, get_or, set, refl, sym, ap, subst, ◌∙◌, inl, inr, arith, eq-eqb}
use Rattle.std.specs.Prelude.{◌⊎◌, slice_get}
use Rattle.std.proofs.lemmas.Bool.{cases_lt, cases_eq, false≢true, eqb-true}
use Rattle.std.proofs.lemmas.List.{length-set, get_or-set_same, get_or-set_other, take_more}
use Rattle.std.proofs.lemmas.Option.{same_Some}
use Rattle.jh_txn.specs.declared.dependency.Why.TheVariants.{ReadWrite, WriteRead}
use Rattle.jh_txn.specs.declared.txn.MicroOp.{MicroOp}
use Rattle.jh_txn.specs.declared.txn.MicroOp.TheVariants.{Append}
use Rattle.jh_txn.specs.declared.txn.Txn.{Txn}
use Rattle.jh_txn.specs.Transactions.{Appends, appended, includes, ops_at}
use Rattle.jh_txn.proofs.ListLemmas.{includes_left, includes_right, includes_cases, one_is, includes_head}
use Rattle.jh_txn.proofs.TransactionLemmas.{appended_append}
use Rattle.jh_txn_seen.specs.declared.done_reads.DoneRead.{DoneRead}
use Rattle.jh_txn_seen.specs.declared.middles.Middle.{Middle}
use Rattle.jh_txn_seen.specs.declared.middles.Unread.{Unread}
use Rattle.jh_txn_seen.specs.Marks.{IsMarked}
use Rattle.jh_txn_seen.specs.Middles.{IsFullRead, AppendsUnread, IsBoth, AreMiddlesOf}
use Rattle.jh_txn_seen.specs.Inside.{unread_at, NotesUnread, AreUnread, IsNotedUnread, LooksAtMiddle}

-- what a list of middles has past its end
abbrev pub no_middle : Middle
no_middle = record { node = 0; why = WriteRead 0 0 }

-- Lists with one element set.
pub get_set_same : {X : Type 0} (xs : List X) (i : ℕ) (y : X) → i < length xs → slice_get (set xs i y) i ≡ Some y
get_set_same [] i y low = absurd (omega arith)
get_set_same (x ∷ xs) zero y low = refl
get_set_same (x ∷ xs) (suc i) y low = get_set_same xs i y (omega (arith, low))

pub get_set_other : {X : Type 0} (xs : List X) (i j : ℕ) (y : X) → (j ≡ i → ⊥) → slice_get (set xs i y) j ≡ slice_get xs j
get_set_other [] i j y differ = refl
get_set_other (x ∷ xs) zero zero y differ = absurd (differ refl)
get_set_other (x ∷ xs) zero (suc j) y differ = refl
get_set_other (x ∷ xs) (suc i) zero y differ = refl
get_set_other (x ∷ xs) (suc i) (suc j) y differ = get_set_other xs i j y (λ e. differ (ap suc e))

-- What one append appends.
appended_one : (k key element e : ℕ) → includes (appended k (Append key element ∷ [])) e ≡ true → (key ≡ k) × (element ≡ e)
appended_one k key element e h = by (eqb key k) refl h where
  by : (b : Bool) → eqb key k ≡ b → includes (appended k (Append key element ∷ [])) e ≡ true → (key ≡ k) × (element ≡ e)
  by true is there = (eqb-true key k is, one_is element e (subst (λ (xs : List ℕ). includes xs e ≡ true) (listed is) there)) where
    listed : eqb key k ≡ true → appended k (Append key element ∷ []) ≡ element ∷ []
    listed same = rw same refl
  by false is there = absurd (false≢true (subst (λ (xs : List ℕ). includes xs e ≡ true) (listed is) there)) where
    listed : eqb key k ≡ false → appended k (Append key element ∷ []) ≡ []
    listed same = rw same refl

one_appended : (key element : ℕ) → includes (appended key (Append key element ∷ [])) element ≡ true
one_appended key element = subst (λ (xs : List ℕ). includes xs element ≡ true) (sym (listed (same key))) (includes_head element []) where
  listed : eqb key key ≡ true → appended key (Append key element ∷ []) ≡ element ∷ []
  listed same = rw same refl

  same : (n : ℕ) → eqb n n ≡ true
  same n = eq-eqb n n refl

module _ (marks : List Bool) (place : ℕ) where
  pub notes_nil : (old : List (Option Unread)) → NotesUnread marks place [] old old
  notes_nil old = record {
    count = refl;
    kept = λ key u is same. (u, is, same);
    whole = λ key element h. absurd (false≢true h);
    right = λ key u is. inl is;
  }

  pub notes_set : (key element : ℕ) (old : List (Option Unread)) → key < length old → (IsMarked marks element → ⊥) → NotesUnread marks place (Append key element ∷ []) old (set old key (Some (record { place = place; element = element })))
  notes_set key element old low none =
      let mine : Unread = record { place = place; element = element } in
      let new : List (Option Unread) = set old key (Some mine) in
      let here : unread_at new key ≡ Some mine = get_or-set_same old key (Some mine) None low in
      record {
        count = length-set old key (Some mine);
        kept = λ k u is same. elim (cases_eq k key) as (λ _. (other : Unread) × (unread_at new k ≡ Some other) × (other.place ≡ place)) [
          | inl at ↦ (mine, ap (unread_at new) at ∙ here, refl)
          | inr differ ↦ (u, get_or-set_other old key k (Some mine) None differ ∙ is, same)
        ];
        whole = λ k e h unread. let at = appended_one k key element e h in (mine, ap (unread_at new) (sym at.0) ∙ here, refl);
        right = λ k u is. elim (cases_eq k key) as (λ _. (unread_at old k ≡ Some u) ⊎ ((u.place ≡ place) × (includes (appended k (Append key element ∷ [])) u.element ≡ true) × (IsMarked marks u.element → ⊥))) [
          | inl at ↦
              let it : mine ≡ u = same_Some mine u (sym here ∙ ap (unread_at new) (sym at) ∙ is) in
              inr (sym (ap (λ (x : Unread). x.place) it), subst (λ n. includes (appended n (Append key element ∷ [])) u.element ≡ true) (sym at) (subst (λ (x : Unread). includes (appended key (Append key element ∷ [])) x.element ≡ true) it (one_appended key element)), subst (λ (x : Unread). IsMarked marks x.element → ⊥) it none)
          | inr differ ↦ inl (sym (get_or-set_other old key k (Some mine) None differ) ∙ is)
        ];
      }

  pub notes_then : (ops more : List MicroOp) (old mid new : List (Option Unread)) → NotesUnread marks place ops old mid → NotesUnread marks place more mid new → NotesUnread marks place (ops ++ more) old new
  notes_then ops more old mid new a b = record {
    count = b.count ∙ a.count;
    kept = λ key u is same. let r = a.kept key u is same in b.kept key r.0 r.1 r.2;
    whole = λ key element h unread. elim (includes_cases (appended key ops) (appended key more) element (subst (λ (xs : List ℕ). includes xs element ≡ true) (appended_append key ops more) h)) as (λ _. (u : Unread) × (unread_at new key ≡ Some u) × (u.place ≡ place)) [
      | inl early ↦ let r = a.whole key element early unread in b.kept key r.0 r.1 r.2
      | inr late ↦ b.whole key element late unread
    ];
    right = λ key u is.
        let Goal : Type 0 = (unread_at old key ≡ Some u) ⊎ ((u.place ≡ place) × (includes (appended key (ops ++ more)) u.element ≡ true) × (IsMarked marks u.element → ⊥)) in
        elim (b.right key u is) as (λ _. Goal) [
          | inl before ↦ elim (a.right key u before) as (λ _. Goal) [
            | inl first ↦ inl first
            | inr here ↦ inr (here.0, subst (λ (xs : List ℕ). includes xs u.element ≡ true) (sym (appended_append key ops more)) (includes_left (appended key ops) (appended key more) u.element here.1), here.2)
          ]
          | inr here ↦ inr (here.0, subst (λ (xs : List ℕ). includes xs u.element ≡ true) (sym (appended_append key ops more)) (includes_right (appended key ops) (appended key more) u.element here.1), here.2)
        ];
  }

  pub notes_more : (ops : List MicroOp) (i : ℕ) (op : MicroOp) (old mid new : List (Option Unread)) → i < length ops → op ≡ get_or ops i op → NotesUnread marks place (take i ops) old mid → NotesUnread marks place (op ∷ []) mid new → NotesUnread marks place (take (i + 1) ops) old new
  notes_more ops i op old mid new low is a b = subst (λ os. NotesUnread marks place os old new) (sym (take_more ops i op low ∙ ap (λ o. take i ops ++ o ∷ []) (sym is))) (notes_then (take i ops) (op ∷ []) old mid new a b)

-- what is known of what stands in the middle of a key
abbrev pub MiddleRight : List Txn → List Bool → List (Option DoneRead) → List DoneRead → ℕ → ℕ → Middle → Type 0
MiddleRight txns marks longest reads upto key middle = IsBoth txns marks longest reads key middle ⊎ ((middle.node ≡ length txns + key) × ((index element : ℕ) (r : DoneRead) → index < upto → slice_get reads index ≡ Some r → r.key ≡ key → IsFullRead longest r → AppendsUnread txns marks key element r.place → ⊥))

module _ (txns : List Txn) (marks : List Bool) where
  pub noted_unread : (place : ℕ) (ops : List MicroOp) (old new : List (Option Unread)) → ops ≡ ops_at txns place → NotesUnread marks place ops old new → AreUnread txns marks old → AreUnread txns marks new
  noted_unread place ops old new is a unread key u at = elim (a.right key u at) as (λ _. AppendsUnread txns marks key u.element u.place) [
    | inl before ↦ unread key u before
    | inr here ↦ (subst (λ p. Appends txns key u.element p) (sym here.0) (subst (λ os. includes (appended key os) u.element ≡ true) is here.1), here.2)
  ]

  pub noted_here : (place : ℕ) (ops : List MicroOp) (old new : List (Option Unread)) → ops ≡ ops_at txns place → NotesUnread marks place ops old new → IsNotedUnread txns marks new place
  noted_here place ops old new is a key element h = a.whole key element (subst (λ os. includes (appended key os) element ≡ true) (sym is) h.0) h.1

  module _ (longest : List (Option DoneRead)) (reads : List DoneRead) where
    pub middles_more : (i : ℕ) (read : DoneRead) (table : List (Option Unread)) (old new : List Middle) → slice_get reads i ≡ Some read → AreUnread txns marks table → IsNotedUnread txns marks table read.place → LooksAtMiddle table longest read old new → read.key < length old → AreMiddlesOf txns marks longest reads i old → AreMiddlesOf txns marks longest reads (i + 1) new
    middles_more i read table old new at unread noted looks low a = elim looks as (λ _. AreMiddlesOf txns marks longest reads (i + 1) new) [
      | inl stays ↦ record {
        count = ap length stays.0 ∙ a.count;
        right = λ key middle is. elim (a.right key middle (ap (λ ms. slice_get ms key) (sym stays.0) ∙ is)) as (λ _. MiddleRight txns marks longest reads (i + 1) key middle) [
          | inl both ↦ inl both
          | inr hub ↦ inr (
            hub.0,
            λ index element r under is_read same_key full lacks. elim (cases_lt index i) as (λ _. ⊥) [
              | inl lt ↦ hub.1 index element r lt is_read same_key full lacks
              | inr ge ↦
                  let here : i ≡ index = omega (arith, under, ge) in
                  let it : r ≡ read = same_Some r read (sym is_read ∙ ap (slice_get reads) (sym here) ∙ at) in
                  let n = noted key element (subst (λ (x : DoneRead). AppendsUnread txns marks key element x.place) it lacks) in
                  let mine : read.key ≡ key = ap (λ (x : DoneRead). x.key) (sym it) ∙ same_key in
                  stays.1 n.0 (ap (unread_at table) mine ∙ n.1) n.2 (subst (IsFullRead longest) it full)
            ],
          )
        ];
      }
      | inr put ↦
          let it : Middle = record { node = read.place; why = ReadWrite read.key put.0.element } in
          record {
            count = ap length put.4 ∙ length-set old read.key it ∙ a.count;
            right = λ key middle is. elim (cases_eq key read.key) as (λ _. MiddleRight txns marks longest reads (i + 1) key middle) [
              | inl same ↦
                  let here : it ≡ middle = same_Some it middle (sym (get_set_same old read.key it low) ∙ ap (λ ms. slice_get ms read.key) (sym put.4) ∙ ap (slice_get new) (sym same) ∙ is) in
                  inl (subst (λ k. IsBoth txns marks longest reads k middle) (sym same) (subst (IsBoth txns marks longest reads read.key) here
                  (put.0.element, read, refl, subst (λ p. AppendsUnread txns marks read.key put.0.element p) put.2 (unread read.key put.0 put.1), (i, at), refl, refl, put.3)))
              | inr differ ↦ elim (a.right key middle (sym (get_set_other old read.key key it differ) ∙ ap (λ ms. slice_get ms key) (sym put.4) ∙ is)) as (λ _. MiddleRight txns marks longest reads (i + 1) key middle) [
                | inl both ↦ inl both
                | inr hub ↦ inr (
                  hub.0,
                  λ index element r under is_read same_key full lacks. elim (cases_lt index i) as (λ _. ⊥) [
                    | inl lt ↦ hub.1 index element r lt is_read same_key full lacks
                    | inr ge ↦
                        let here : i ≡ index = omega (arith, under, ge) in
                        let same : r ≡ read = same_Some r read (sym is_read ∙ ap (slice_get reads) (sym here) ∙ at) in
                        differ (sym same_key ∙ ap (λ (x : DoneRead). x.key) same)
                  ],
                )
              ]
            ];
          }
    ]

-- the middles before any read was looked at
pub middles_new : (txns : List Txn) (marks : List Bool) (longest : List (Option DoneRead)) (reads : List DoneRead) (middles : List Middle) → length middles ≡ length longest → ((key : ℕ) (middle : Middle) → slice_get middles key ≡ Some middle → middle.node ≡ length txns + key) → AreMiddlesOf txns marks longest reads 0 middles
middles_new txns marks longest reads middles count hubs = record {
  count = count;
  right = λ key middle is. inr (hubs key middle is, λ index element r low. absurd (omega (arith, low)));
}

pub no_unread : (table : List (Option Unread)) (n : ℕ) → table ≡ replicate n None → (key : ℕ) → unread_at table key ≡ None
no_unread table n is key = ap (λ t. get_or t key None) is ∙ none_at n key where
  none_at : (n key : ℕ) → get_or (replicate {A = Option Unread} n None) key None ≡ None
  none_at zero key = refl
  none_at (suc n) zero = refl
  none_at (suc n) (suc key) = none_at n key
