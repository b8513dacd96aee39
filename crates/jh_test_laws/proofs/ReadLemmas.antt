-- What checkers ask of a completed operation, it has.
use Rattle.std.proofs.Common.{◌≡◌, ℕ, true, false, List, [], ◌∷◌, refl, sym, ap, ◌∙◌}
use Rattle.std.specs.Prelude.{codes}
use Rattle.std.specs.List.{All, AllByRecursion}
use Rattle.std.proofs.lemmas.Bool.{false≢true}
use Rattle.std.proofs.lemmas.List.Elements.{All-nil, All-cons}
use Rattle.jh_edn.specs.Edn.{Edn, is_keyword, keyword}
use Rattle.jh_ops.specs.Requests.{request_name}
use Rattle.jh_ops.specs.declared.call.Request.{Request}
use Rattle.jh_ops.specs.declared.call.Request.TheVariants.{Read, Write, Cas, Add, Generate, Txn}
use Rattle.jh_ops.specs.declared.operation.Kind.{Kind}
use Rattle.jh_test_parts.specs.Values.{fits_request, is_readable}
use Rattle.jh_test_parts.specs.declared.workload.TestWorkload.{TestWorkload}
use Rattle.jh_txn_histories.specs.Written.{is_answered}
use Rattle.jh_test_laws.specs.HistoryInside.{CompletesOk}

-- a function that is named so, of an operation with another name
pub other_name : (name : List ℕ) (f : Edn) (is : List ℕ) → f ≡ keyword is → is_keyword name f ≡ true → is_keyword name (keyword is) ≡ false → ⊥
other_name name f is e named other = false≢true (sym other ∙ (sym (ap (is_keyword name) e) ∙ named))

-- what was read, the checker takes
pub good_read : (workload : TestWorkload) (f asked value : Edn) (kind : Kind) → CompletesOk workload f asked value kind → kind ≡ Kind.Ok → is_keyword (codes "read") f ≡ true → is_readable workload value ≡ true
good_read workload f asked value Kind.Invoke h is read = absurd cc
good_read workload f asked value Kind.Fail h is read = absurd cc
good_read workload f asked value Kind.Info h is read = absurd cc
good_read workload f asked value Kind.Ok (request, name, good) is read = by request name good
  where
    by : (r : Request) → f ≡ keyword (request_name r) → fits_request workload r asked value ≡ true → is_readable workload value ≡ true
    by Read name good = good
    by (Write v) name good = absurd (other_name (codes "read") f (codes "write") name read refl)
    by (Cas a b) name good = absurd (other_name (codes "read") f (codes "cas") name read refl)
    by (Add v) name good = absurd (other_name (codes "read") f (codes "add") name read refl)
    by Generate name good = absurd (other_name (codes "read") f (codes "generate") name read refl)
    by Txn name good = absurd (other_name (codes "read") f (codes "txn") name read refl)

-- a transaction was answered
pub good_transaction : (workload : TestWorkload) (f asked value : Edn) (kind : Kind) → CompletesOk workload f asked value kind → kind ≡ Kind.Ok → is_keyword (codes "txn") f ≡ true → is_answered asked value ≡ true
good_transaction workload f asked value Kind.Invoke h is read = absurd cc
good_transaction workload f asked value Kind.Fail h is read = absurd cc
good_transaction workload f asked value Kind.Info h is read = absurd cc
good_transaction workload f asked value Kind.Ok (request, name, good) is txn = by request name good
  where
    by : (r : Request) → f ≡ keyword (request_name r) → fits_request workload r asked value ≡ true → is_answered asked value ≡ true
    by Read name good = absurd (other_name (codes "txn") f (codes "read") name txn refl)
    by (Write v) name good = absurd (other_name (codes "txn") f (codes "write") name txn refl)
    by (Cas a b) name good = absurd (other_name (codes "txn") f (codes "cas") name txn refl)
    by (Add v) name good = absurd (other_name (codes "txn") f (codes "add") name txn refl)
    by Generate name good = absurd (other_name (codes "txn") f (codes "generate") name txn refl)
    by Txn name good = good

pub all_of : {X : Type 0} (P : X → Type 0) (xs : List X) → AllByRecursion P xs → All P xs
all_of P [] h = All-nil P
all_of P (x ∷ xs) h = All-cons P x xs h.0 (all_of P xs h.1)
