-- Tables that grow: what has a number keeps it, and so what is read keeps its numbers.
use Rattle.std.proofs.Common.{◌≡◌, ◌∙◌, ℕ, ◌+◌, ◌<◌, List, [], ◌∷◌, ◌++◌, length, get_or, take, map, sym, ap, subst}
use Rattle.std.proofs.lemmas.List.{map-append, take_more}
use Rattle.std.proofs.lemmas.Slice.Zip.{all_zipped_more}
use Rattle.std.specs.List.{AllZip}
use Rattle.jh_edn.specs.Edn.{Edn}
use Rattle.jh_edn.specs.Normal.{normal}
use Rattle.jh_numbers.specs.Numbers.{HasNumber, with_value}
use Rattle.jh_numbers.proofs.NumberLemmas.{stays}
use Rattle.jh_ops.specs.Operation.{Operation}
use Rattle.jh_ops.specs.declared.pairs.Pair.{Pair}
use Rattle.jh_txn.specs.declared.txn.MicroOp.{MicroOp}
use Rattle.jh_txn.specs.declared.txn.MicroOp.TheVariants.{Append, Read}
use Rattle.jh_txn.specs.declared.txn.Txn.{Txn}
use Rattle.jh_txn_histories.specs.Histories.{IsNumbered, IsTxnOf}
use Rattle.jh_txn_histories.specs.ReadingInside.{Stays, TablesGrow}
use Rattle.jh_txn_histories.specs.Written.{Written, append, read}
use Rattle.jh_txn_histories.specs.declared.tables.Tables.{Tables}

pub zip_weaker : {A B : Type 0} (R S : A → B → Type 0) → ((x : A) (y : B) → R x y → S x y) → (xs : List A) (ys : List B) → AllZip R xs ys → AllZip S xs ys
zip_weaker R S weaker [] [] h = tt
zip_weaker R S weaker [] (y ∷ ys) h = absurd h
zip_weaker R S weaker (x ∷ xs) [] h = absurd h
zip_weaker R S weaker (x ∷ xs) (y ∷ ys) h = (weaker x y h.0, zip_weaker R S weaker xs ys h.1)

pub stays_itself : (values : List (ℕ × Edn)) → Stays values values
stays_itself values = λ one number h. h

pub stays_then : (a b c : List (ℕ × Edn)) → Stays a b → Stays b c → Stays a c
stays_then a b c first second = λ one number h. second one number (first one number h)

pub stays_with : (old new : List (ℕ × Edn)) (one : ℕ × Edn) → new ≡ with_value old one → Stays old new
stays_with old new one is = subst (λ values. Stays old values) (sym is) (λ other number h. stays old other one number h)

pub grows_itself : (tables : Tables) → TablesGrow tables tables
grows_itself tables = record { keys = stays_itself tables.keys; elements = stays_itself tables.elements }

pub grows_then : (a b c : Tables) → TablesGrow a b → TablesGrow b c → TablesGrow a c
grows_then a b c first second = record {
  keys = stays_then a.keys b.keys c.keys first.keys second.keys;
  elements = stays_then a.elements b.elements c.elements first.elements second.elements;
}

-- the numbers of elements
pub elements_stay : (old new : List (ℕ × Edn)) (key : ℕ) → Stays old new → (xs : List Edn) (ns : List ℕ) → AllZip (λ x n. HasNumber old (key, normal x) n) xs ns → AllZip (λ x n. HasNumber new (key, normal x) n) xs ns
elements_stay old new key stay xs ns h = zip_weaker (λ x n. HasNumber old (key, normal x) n) (λ x n. HasNumber new (key, normal x) n) (λ x n. stay (key, normal x) n) xs ns h

module _ (old new : Tables) (grows : TablesGrow old new) where
  numbered_stays : (op : Written) (m : MicroOp) → IsNumbered old.keys old.elements op m → IsNumbered new.keys new.elements op m
  numbered_stays (append key element) (Append k e) h = (grows.keys (0, normal key) k h.0, grows.elements (k, normal element) e h.1)
  numbered_stays (append key element) (Read k es) h = absurd h
  numbered_stays (read key seen) (Append k e) h = absurd h
  numbered_stays (read key seen) (Read k es) h = (grows.keys (0, normal key) k h.0, elements_stay old.elements new.elements k grows.elements seen es h.1)

  pub ops_stay : (ops : List Written) (ms : List MicroOp) → AllZip (IsNumbered old.keys old.elements) ops ms → AllZip (IsNumbered new.keys new.elements) ops ms
  ops_stay ops ms h = zip_weaker (IsNumbered old.keys old.elements) (IsNumbered new.keys new.elements) numbered_stays ops ms h

  pub txn_stays : (history : List Operation) (pair : Pair) (txn : Txn) → IsTxnOf history old.keys old.elements pair txn → IsTxnOf history new.keys new.elements pair txn
  txn_stays history pair txn is = record {
    invoked = is.invoked;
    completed = is.completed;
    outcome = is.outcome;
    ops = (is.ops.0, is.ops.1, ops_stay is.ops.0 txn.ops is.ops.2);
  }

  pub txns_stay : (history : List Operation) (pairs : List Pair) (txns : List Txn) → AllZip (IsTxnOf history old.keys old.elements) pairs txns → AllZip (IsTxnOf history new.keys new.elements) pairs txns
  txns_stay history pairs txns h = zip_weaker (IsTxnOf history old.keys old.elements) (IsTxnOf history new.keys new.elements) (txn_stays history) pairs txns h

-- one more of each
pub zip_push : {A B : Type 0} (R : A → B → Type 0) (xs : List A) (i : ℕ) (x : A) (ys zs : List B) (y : B) → i < length xs → x ≡ get_or xs i x → zs ≡ ys ++ y ∷ [] → AllZip R (take i xs) ys → R x y → AllZip R (take (i + 1) xs) zs
zip_push R xs i x ys zs y low is pushed h r =
    subst (λ ws. AllZip R ws zs) (sym (take_more xs i x low ∙ ap (λ w. take i xs ++ w ∷ []) (sym is)))
    (subst (AllZip R (take i xs ++ x ∷ [])) (sym pushed) (all_zipped_more R (take i xs) ys x y h r))

pub map_zip_push : {A B C : Type 0} (v : A → B) (R : B → C → Type 0) (xs : List A) (i : ℕ) (x : A) (ys zs : List C) (y : C) → i < length xs → x ≡ get_or xs i x → zs ≡ ys ++ y ∷ [] → AllZip R (map v (take i xs)) ys → R (v x) y → AllZip R (map v (take (i + 1) xs)) zs
map_zip_push v R xs i x ys zs y low is pushed h r =
    subst (λ ws. AllZip R ws zs) (sym (ap (map v) (take_more xs i x low ∙ ap (λ w. take i xs ++ w ∷ []) (sym is)) ∙ map-append v (take i xs) (x ∷ [])))
    (subst (AllZip R (map v (take i xs) ++ v x ∷ [])) (sym pushed) (all_zipped_more R (map v (take i xs)) ys (v x) y h r))
