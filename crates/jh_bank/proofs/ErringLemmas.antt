-- What is counted and looked for among the reads that have an error.
use Rattle.std.proofs.Common.{◌≡◌, ◌∙◌, ℕ, suc, ◌≤◌, Bool, true, false, cond, nat_lt, List, [], ◌∷◌, ◌++◌, length, map, find, refl, sym, ap, subst, inl, append-nil}
use Rattle.std.specs.Prelude.{slice_get, Option, Some, None, is_some, option_map, option_and_then}
use Rattle.std.specs.List.{All, filter, filter_map, cons_option, count_by}
use Rattle.std.specs.Option.{option_map_or}
use Rattle.std.proofs.lemmas.Bool.{ltb-true, ltb-false}
use Rattle.std.proofs.lemmas.List.{length-map}
use Rattle.std.proofs.lemmas.List.Elements.{All-nil, All-head, filter-append}
use Rattle.std.proofs.lemmas.List.Sums.{length-filter}
use Rattle.jh_edn.specs.Edn.{Edn, map_pairs}
use Rattle.jh_ops.specs.Operation.{Operation, operation}
use Rattle.jh_ops.specs.declared.operation.Op.{Op}
use Rattle.jh_check.specs.SetResults.{ok_reads}
use Rattle.jh_bank.specs.BankInside.{IsWorstOf, errs_by, erring_at, erring_in, erring_reads, errors_from, worse_of}
use Rattle.jh_bank.specs.Banks.{IsFarthest, IsWorst, bank_error, count_and_first, distance, error_of_read, has_error, is_bank_error, read_distance, reads_with, wrong_places, wrong_reads}
use Rattle.jh_bank.specs.declared.bank.Bank.{Bank}
use Rattle.jh_bank.specs.declared.erring.ErringRead.{ErringRead}
use Rattle.jh_bank.specs.declared.errors.BankError.{BankError}
use Rattle.jh_bank.specs.declared.errors.BankError.TheVariants.{UnexpectedKey, NilBalance, WrongTotal, NegativeValue}
use Rattle.jh_bank.proofs.FarthestLemmas.{farthest_kept, farthest_taken, farthest_unmapped, farthest_has}
use Rattle.jh_bank.proofs.ReadLemmas.{IsAtPlace, reads_placed}

same_error : (a b : BankError) → is_bank_error a b ≡ true → a ≡ b
same_error UnexpectedKey UnexpectedKey h = refl
same_error NilBalance NilBalance h = refl
same_error WrongTotal WrongTotal h = refl
same_error NegativeValue NegativeValue h = refl
same_error _ _ h = absurd cc

-- ---- those with one error, among all that have one

-- what is kept of a read that has this error
abbrev mark : Bank → BankError → ℕ × Operation → ErringRead
mark bank error read = record { place = read.0; error = error; distance = read_distance bank read }

abbrev kept : ℕ → ℕ → BankError → ErringRead
kept place far error = record { place = place; error = error; distance = far }

-- a read more, by the error that it has
one_kept : (error : BankError) (place far : ℕ) (found : Option BankError) (erring marks : List ErringRead) → filter (errs_by error) erring ≡ marks
    → filter (errs_by error) (cons_option (option_map (kept place far) found) erring) ≡ cond (option_map_or (is_bank_error error) found false) (kept place far error ∷ marks) marks
one_kept error place far None erring marks h = h
one_kept error place far (Some e) erring marks h =
    elim (is_bank_error error e) as (λ b. is_bank_error error e ≡ b → cond b (kept place far e ∷ filter (errs_by error) erring) (filter (errs_by error) erring) ≡ cond b (kept place far error ∷ marks) marks) [
      | true ↦ λ q. λ i. kept place far (sym (same_error error e q) i) ∷ h i
      | false ↦ λ q. h
    ] refl

-- by its pairs
one_read : (bank : Bank) (error : BankError) (place : ℕ) (pairs : Option (List (Edn × Edn))) (erring marks : List ErringRead) → filter (errs_by error) erring ≡ marks
    → filter (errs_by error) (cons_option (option_and_then (erring_in bank place) pairs) erring)
    ≡ cond (option_map_or (is_bank_error error) (option_and_then (bank_error bank) pairs) false) (kept place (option_map_or (distance bank) pairs 0) error ∷ marks) marks
one_read bank error place None erring marks h = h
one_read bank error place (Some pairs) erring marks h = one_kept error place (distance bank pairs) (bank_error bank pairs) erring marks h

of_reads : (bank : Bank) (error : BankError) (reads : List (ℕ × Operation))
    → filter (errs_by error) (filter_map (λ read. erring_at bank read.0 read.1) reads) ≡ map (mark bank error) (filter (λ read. has_error bank error read.1) reads)
of_reads bank error [] = refl
of_reads bank error (r ∷ rs) =
    let others = filter (λ (read : ℕ × Operation). has_error bank error read.1) rs in
    one_read bank error r.0 (map_pairs r.1.value) (filter_map (λ read. erring_at bank read.0 read.1) rs) (map (mark bank error) others) (of_reads bank error rs)
    ∙ mapped (has_error bank error r.1) others where
      mapped : (b : Bool) (xs : List (ℕ × Operation)) → cond b (mark bank error r ∷ map (mark bank error) xs) (map (mark bank error) xs) ≡ map (mark bank error) (cond b (r ∷ xs) xs)
      mapped true xs = refl
      mapped false xs = refl

kept_are : (bank : Bank) (error : BankError) (history : List Operation) → filter (errs_by error) (erring_reads bank history) ≡ map (mark bank error) (reads_with bank error history)
kept_are bank error history = of_reads bank error (ok_reads history)

-- ---- how many, and the first

find_first : {A : Type 0} (p : A → Bool) (xs : List A) → find p xs ≡ slice_get (filter p xs) 0
find_first p [] = refl
find_first p (x ∷ xs) =
    elim (p x) as (λ b. cond b (Some x) (find p xs) ≡ slice_get (cond b (x ∷ filter p xs) (filter p xs)) 0) [
      | true ↦ refl
      | false ↦ find_first p xs
    ]

first_marked : (bank : Bank) (error : BankError) (reads : List (ℕ × Operation))
    → option_map (λ (read : ErringRead). read.place) (slice_get (map (mark bank error) reads) 0) ≡ option_map (λ (read : ℕ × Operation). read.0) (slice_get reads 0)
first_marked bank error [] = refl
first_marked bank error (r ∷ rs) = refl

-- an operation with a number in front
abbrev numbered : ℕ → Operation → ℕ × Operation
numbered n op = (n, op)

abbrev numbered_first : ℕ → ℕ × Operation → ℕ × Operation
numbered_first n read = (n, read.1)

first_there : (history : List Operation) (n : ℕ) (reads : List (ℕ × Operation)) → All (IsAtPlace history) reads
    → option_map (numbered n) (option_and_then (slice_get history) (option_map (λ (read : ℕ × Operation). read.0) (slice_get reads 0)))
    ≡ option_map (numbered_first n) (slice_get reads 0)
first_there history n [] placed = refl
first_there history n (r ∷ rs) placed = ap (option_map (numbered n)) (All-head (IsAtPlace history) r rs placed)

pub errors_found : (bank : Bank) (error : BankError) (history : List Operation) → errors_from history (erring_reads bank history) error ≡ count_and_first (reads_with bank error history)
errors_found bank error history =
    let erring = erring_reads bank history in
    let reads = reads_with bank error history in
    let count : count_by (errs_by error) erring ≡ length reads =
    sym (length-filter (errs_by error) erring) ∙ ap length (kept_are bank error history) ∙ length-map reads (mark bank error) in
    let first : option_map (λ (read : ErringRead). read.place) (find (errs_by error) erring) ≡ option_map (λ (read : ℕ × Operation). read.0) (slice_get reads 0) =
    ap (option_map (λ (read : ErringRead). read.place)) (find_first (errs_by error) erring ∙ ap (λ w. slice_get w 0) (kept_are bank error history)) ∙ first_marked bank error reads in
    (λ i. option_map (numbered (count i)) (option_and_then (slice_get history) (first i)))
    ∙ first_there history (length reads) reads (reads_placed (λ read. has_error bank error read.1) history)

-- ---- where they are

abbrev read_place : ErringRead → ℕ
read_place read = read.place

abbrev first_of : ℕ × Operation → ℕ
first_of read = read.0

one_wrong : (far : ℕ) (found : Option BankError) (erring : List ErringRead) (r : ℕ × Operation) (rs : List (ℕ × Operation)) → map read_place erring ≡ map first_of rs
    → map read_place (cons_option (option_map (kept r.0 far) found) erring) ≡ map first_of (cond (is_some found) (r ∷ rs) rs)
one_wrong far None erring r rs h = h
one_wrong far (Some e) erring r rs h = ap (λ places. r.0 ∷ places) h

wrong_by_pairs : (bank : Bank) (pairs : Option (List (Edn × Edn))) (erring : List ErringRead) (r : ℕ × Operation) (rs : List (ℕ × Operation)) → map read_place erring ≡ map first_of rs
    → map read_place (cons_option (option_and_then (erring_in bank r.0) pairs) erring) ≡ map first_of (cond (is_some (option_and_then (bank_error bank) pairs)) (r ∷ rs) rs)
wrong_by_pairs bank None erring r rs h = h
wrong_by_pairs bank (Some pairs) erring r rs h = one_wrong (distance bank pairs) (bank_error bank pairs) erring r rs h

wrong_among : (bank : Bank) (reads : List (ℕ × Operation))
    → map read_place (filter_map (λ read. erring_at bank read.0 read.1) reads) ≡ map first_of (filter (λ read. is_some (error_of_read bank read.1)) reads)
wrong_among bank [] = refl
wrong_among bank (r ∷ rs) =
    wrong_by_pairs bank (map_pairs r.1.value) (filter_map (λ read. erring_at bank read.0 read.1) rs) r (filter (λ read. is_some (error_of_read bank read.1)) rs) (wrong_among bank rs)

pub wrong_placed : (bank : Bank) (history : List Operation) → map (λ (read : ErringRead). read.place) (erring_reads bank history) ≡ wrong_places bank history
wrong_placed bank history = wrong_among bank (ok_reads history)

pub wrong_counted : (bank : Bank) (history : List Operation) → length (erring_reads bank history) ≡ length (wrong_reads bank history)
wrong_counted bank history =
    sym (length-map (erring_reads bank history) read_place) ∙ ap length (wrong_among bank (ok_reads history)) ∙ length-map (wrong_reads bank history) first_of

-- ---- the worst

worse_kept : (b : Bool) (worst : Option ErringRead) (read : ErringRead) (xs : List ErringRead) → IsWorstOf xs worst → IsWorstOf (xs ++ cond b (read ∷ []) []) (worse_of b worst read)
worse_kept false worst read xs h = subst (λ w. IsWorstOf w worst) (sym (append-nil xs)) h
worse_kept true None read xs h =
    subst (λ w. IsFarthest (λ (r : ErringRead). r.distance) (w ++ read ∷ []) read) (sym h) (inl (refl, All-nil (λ (other : ErringRead). other.distance ≤ read.distance)))
worse_kept true (Some last) read xs h =
    elim (nat_lt last.distance read.distance) as (λ b. nat_lt last.distance read.distance ≡ b → IsWorstOf (xs ++ read ∷ []) (cond b (Some read) (Some last))) [
      | true ↦ λ e. farthest_taken (λ (r : ErringRead). r.distance) xs last read (ltb-true last.distance read.distance e) h
      | false ↦ λ e. farthest_kept (λ (r : ErringRead). r.distance) xs last read (ltb-false last.distance read.distance e) h
    ] refl

pub worse_more : (worst : Option ErringRead) (read : ErringRead) (xs : List ErringRead) (counts : Bool) (found : Option ErringRead)
    → found ≡ worse_of counts worst read → counts ≡ is_bank_error WrongTotal read.error → IsWorstOf (filter (errs_by WrongTotal) xs) worst
    → IsWorstOf (filter (errs_by WrongTotal) (xs ++ read ∷ [])) found
worse_more worst read xs counts found is counted h =
    subst (IsWorstOf (filter (errs_by WrongTotal) (xs ++ read ∷ []))) (sym (is ∙ ap (λ b. worse_of b worst read) counted))
    (subst (λ w. IsWorstOf w (worse_of (errs_by WrongTotal read) worst read)) (sym (filter-append (errs_by WrongTotal) xs (read ∷ [])))
    (worse_kept (errs_by WrongTotal read) worst read (filter (errs_by WrongTotal) xs) h))

none_marked : (bank : Bank) (reads : List (ℕ × Operation)) → map (mark bank WrongTotal) reads ≡ [] → reads ≡ []
none_marked bank [] h = refl
none_marked bank (r ∷ rs) h = absurd cc

of_marks : (bank : Bank) (history : List Operation) (reads : List (ℕ × Operation)) (worst : Option ErringRead) (copy : Option Op) → All (IsAtPlace history) reads
    → IsWorstOf (map (mark bank WrongTotal) reads) worst → option_map operation copy ≡ option_and_then (slice_get history) (option_map (λ (read : ErringRead). read.place) worst) → IsWorst bank reads copy
of_marks bank history reads None None placed h is = none_marked bank reads h
of_marks bank history reads None (Some op) placed h is = absurd cc
of_marks bank history reads (Some w) copy placed h is =
    let found = farthest_unmapped (mark bank WrongTotal) (λ (r : ErringRead). r.distance) reads w h in
    let there : slice_get history found.0.0 ≡ Some found.0.1 = farthest_has (IsAtPlace history) (read_distance bank) reads found.0 placed found.2 in
    as_copied found.0 copy found.2 (is ∙ ap (λ (r : ErringRead). slice_get history r.place) (sym found.1) ∙ there) where
      as_copied : (r : ℕ × Operation) (o : Option Op) → IsFarthest (read_distance bank) reads r → option_map operation o ≡ Some r.1 → IsWorst bank reads o
      as_copied r None far e = absurd cc
      as_copied r (Some op) far e =
          let same : operation op ≡ r.1 = cc in
          (r.0, subst (λ (x : Operation). IsFarthest (read_distance bank) reads (r.0, x)) (sym same) far)

pub worst_found : (bank : Bank) (history : List Operation) (worst : Option ErringRead) (copy : Option Op) → IsWorstOf (filter (errs_by WrongTotal) (erring_reads bank history)) worst
    → option_map operation copy ≡ option_and_then (slice_get history) (option_map (λ (read : ErringRead). read.place) worst) → IsWorst bank (reads_with bank WrongTotal history) copy
worst_found bank history worst copy h is =
    of_marks bank history (reads_with bank WrongTotal history) worst copy (reads_placed (λ read. has_error bank WrongTotal read.1) history)
    (subst (λ w. IsWorstOf w worst) (kept_are bank WrongTotal history) h) is
