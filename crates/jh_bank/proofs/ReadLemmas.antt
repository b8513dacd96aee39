-- The reads of a history, one operation after another, with their places.
use Rattle.std.proofs.Common.{◌≡◌, ℕ, suc, ◌+◌, Bool, true, false, cond, not, ◌&&◌, nat_lt, List, [], ◌∷◌, ◌++◌, length, refl, sym, ap, subst, ◌∙◌, append_assoc, arith, codes}
use Rattle.std.specs.Prelude.{slice_get, Option, Some, None, option_map}
use Rattle.std.specs.List.{All, filter, filter_map, cons_option, count_by, enumerate_from, position, prefix_len}
use Rattle.std.proofs.lemmas.Bool.{lt-ltb}
use Rattle.std.proofs.lemmas.Bool.Decides.{nat_tests}
use Rattle.std.proofs.lemmas.List.{length-append}
use Rattle.std.proofs.lemmas.List.Elements.{All-nil, All-cons, All-filter, filter-append, filter_map-append}
use Rattle.std.proofs.lemmas.List.Sums.{sum_by-cons}
use Rattle.jh_ops.specs.Operation.{Operation, operation, operations, is_asked}
use Rattle.jh_ops.specs.declared.operation.Kind.{Kind}
use Rattle.jh_ops.specs.declared.operation.Op.{Op}
use Rattle.jh_check.specs.SetResults.{ok_reads}
use Rattle.jh_bank.specs.BankInside.{erring_at, erring_of, erring_reads, is_bad_read}
use Rattle.jh_bank.specs.Banks.{bad_read_place, shows_balances}
use Rattle.jh_bank.specs.declared.bank.Bank.{Bank}
use Rattle.jh_bank.specs.declared.erring.ErringRead.{ErringRead}

abbrev is_read : Operation → Bool
is_read op = is_asked Kind.Ok (codes "read") op

-- ---- one operation more

enumerated : (n : ℕ) (xs : List Operation) (x : Operation) → enumerate_from n (xs ++ x ∷ []) ≡ enumerate_from n xs ++ (n + length xs, x) ∷ []
enumerated n [] x = let e : n ≡ n + 0 = omega arith in λ i. (e i, x) ∷ []
enumerated n (y ∷ ys) x =
    let e : n + 1 + length ys ≡ n + length (y ∷ ys) = omega arith in
    ap (λ w. (n, y) ∷ w) (enumerated (n + 1) ys x ∙ ap (λ m. enumerate_from (n + 1) ys ++ (m, x) ∷ []) e)

abbrev erring_by : Bank → ℕ × Operation → Option ErringRead
erring_by bank read = erring_at bank read.0 read.1

one_erring : (bank : Bank) (n : ℕ) (x : Operation) → filter_map (erring_by bank) (filter (λ read. is_read read.1) ((0 + n, x) ∷ [])) ≡ erring_of bank n x
one_erring bank n x =
    elim (is_read x) as (λ b. filter_map (erring_by bank) (cond b ((0 + n, x) ∷ []) []) ≡ cond b (cons_option (erring_at bank n x) []) []) [
      | true ↦ let e : 0 + n ≡ n = omega arith in ap (λ m. cons_option (erring_at bank m x) []) e
      | false ↦ refl
    ]

pub erring_pushed : (bank : Bank) (xs : List Operation) (x : Operation) → erring_reads bank (xs ++ x ∷ []) ≡ erring_reads bank xs ++ erring_of bank (length xs) x
erring_pushed bank xs x =
    let reads : ok_reads (xs ++ x ∷ []) ≡ ok_reads xs ++ filter (λ read. is_read read.1) ((0 + length xs, x) ∷ []) =
    ap (filter (λ read. is_read read.1)) (enumerated 0 xs x) ∙ filter-append (λ read. is_read read.1) (enumerate_from 0 xs) ((0 + length xs, x) ∷ []) in
    ap (filter_map (erring_by bank)) reads
    ∙ filter_map-append (erring_by bank) (ok_reads xs) (filter (λ read. is_read read.1) ((0 + length xs, x) ∷ []))
    ∙ ap (λ w. erring_reads bank xs ++ w) (one_erring bank (length xs) x)

-- ---- places

abbrev pub IsAtPlace : List Operation → ℕ × Operation → Type 0
IsAtPlace history read = slice_get history read.0 ≡ Some read.1

behind : (front xs : List Operation) (x : Operation) → slice_get (front ++ x ∷ xs) (length front) ≡ Some x
behind [] xs x = refl
behind (y ∷ ys) xs x = behind ys xs x

placed_from : (front xs : List Operation) → All (IsAtPlace (front ++ xs)) (enumerate_from (length front) xs)
placed_from front [] = All-nil (IsAtPlace (front ++ []))
placed_from front (x ∷ xs) =
    let whole : (front ++ x ∷ []) ++ xs ≡ front ++ x ∷ xs = append_assoc front (x ∷ []) xs in
    let long : length (front ++ x ∷ []) ≡ length front + 1 = omega (arith, length-append front (x ∷ [])) in
    All-cons (IsAtPlace (front ++ x ∷ xs)) (length front, x) (enumerate_from (length front + 1) xs) (behind front xs x)
    (subst (λ w. All (IsAtPlace w) (enumerate_from (length front + 1) xs)) whole
    (subst (λ n. All (IsAtPlace ((front ++ x ∷ []) ++ xs)) (enumerate_from n xs)) long (placed_from (front ++ x ∷ []) xs)))

pub reads_placed : (p : ℕ × Operation → Bool) (history : List Operation) → All (IsAtPlace history) (filter p (ok_reads history))
reads_placed p history =
    All-filter p (IsAtPlace history) (ok_reads history) (All-filter (λ read. is_read read.1) (IsAtPlace history) (enumerate_from 0 history) (placed_from [] history))

-- ---- how many

counted_from : (n : ℕ) (ops : List Op) → length (filter (λ read. is_read read.1) (enumerate_from n (operations ops))) ≡ count_by (λ op. is_read (operation op)) ops
counted_from n [] = refl
counted_from n (op ∷ ops) =
    let rest = filter (λ (read : ℕ × Operation). is_read read.1) (enumerate_from (n + 1) (operations ops)) in
    let others : length rest ≡ count_by (λ o. is_read (operation o)) ops = counted_from (n + 1) ops in
    with_first (is_read (operation op)) (n, operation op) rest (count_by (λ o. is_read (operation o)) ops) others
    ∙ sym (sum_by-cons (λ o. cond (is_read (operation o)) 1 0) op ops) where
      with_first : (b : Bool) (r : ℕ × Operation) (rs : List (ℕ × Operation)) (m : ℕ) → length rs ≡ m → length (cond b (r ∷ rs) rs) ≡ cond b 1 0 + m
      with_first true r rs m e = omega (arith, e)
      with_first false r rs m e = omega (arith, e)

pub reads_counted : (ops : List Op) → length (ok_reads (operations ops)) ≡ count_by (λ op. is_read (operation op)) ops
reads_counted ops = counted_from 0 ops

-- ---- the first bad one

position-cons : {A : Type 0} (p : A → Bool) (x : A) (xs : List A) → position p (x ∷ xs) ≡ cond (p x) (Some 0) (option_map (λ k. 1 + k) (position p xs))
position-cons {A} p x xs =
    elim (p x) as (λ b. cond (nat_lt (cond (not b) (1 + prefix_len (λ y. not (p y)) xs) 0) (suc (length xs))) (Some (cond (not b) (1 + prefix_len (λ y. not (p y)) xs) 0)) None
    ≡ cond b (Some 0) (option_map (λ k. 1 + k) (position p xs))) [
      | true ↦ ap (λ b. cond b (Some 0) None) (lt-ltb 0 (suc (length xs)) (omega arith))
      | false ↦ further (prefix_len (λ y. not (p y)) xs)
    ] where
      later : (b : Bool) (m : ℕ) → cond b (Some (1 + m)) None ≡ option_map (λ k. 1 + k) (cond b (Some m) None)
      later true m = refl
      later false m = refl

      further : (m : ℕ) → cond (nat_lt (1 + m) (suc (length xs))) (Some (1 + m)) None ≡ option_map (λ k. 1 + k) (cond (nat_lt m (length xs)) (Some m) None)
      further m =
          let same : nat_lt (1 + m) (suc (length xs)) ≡ nat_lt m (length xs) = grind (arith, nat_tests) in
          ap (λ b. cond b (Some (1 + m)) None) same ∙ later (nat_lt m (length xs)) m

abbrev is_bad : Op → Bool
is_bad op = is_bad_read (operation op)

abbrev first_of : List (ℕ × Operation) → Option ℕ
first_of reads = option_map (λ read. read.0) (slice_get reads 0)

-- those that show no balances
abbrev without_balances : List (ℕ × Operation) → List (ℕ × Operation)
without_balances reads = filter (λ read. not (shows_balances read.1.value)) reads

abbrev bad_among : List (ℕ × Operation) → List (ℕ × Operation)
bad_among reads = without_balances (filter (λ read. is_read read.1) reads)

moved : (n : ℕ) (o : Option ℕ) → option_map (λ k. n + 1 + k) o ≡ option_map (λ k. n + k) (option_map (λ k. 1 + k) o)
moved n None = refl
moved n (Some k) = let e : n + 1 + k ≡ n + (1 + k) = omega arith in ap Some e

-- one operation in front
one_bad : (n : ℕ) (op : Operation) (rest : List (ℕ × Operation)) (later : Option ℕ) (b : Bool) → first_of (without_balances rest) ≡ option_map (λ k. n + 1 + k) later
    → first_of (without_balances (cond b ((n, op) ∷ rest) rest)) ≡ option_map (λ k. n + k) (cond (b && not (shows_balances op.value)) (Some 0) (option_map (λ k. 1 + k) later))
one_bad n op rest later true h =
    elim (not (shows_balances op.value)) as (λ d. first_of (cond d ((n, op) ∷ without_balances rest) (without_balances rest)) ≡ option_map (λ k. n + k) (cond d (Some 0) (option_map (λ k. 1 + k) later))) [
      | true ↦ let e : n ≡ n + 0 = omega arith in ap Some e
      | false ↦ h ∙ moved n later
    ]
one_bad n op rest later false h = h ∙ moved n later

bad_from : (n : ℕ) (ops : List Op) → first_of (bad_among (enumerate_from n (operations ops))) ≡ option_map (λ k. n + k) (position is_bad ops)
bad_from n [] = refl
bad_from n (op ∷ ops) =
    one_bad n (operation op) (filter (λ read. is_read read.1) (enumerate_from (n + 1) (operations ops))) (position is_bad ops) (is_read (operation op)) (bad_from (n + 1) ops)
    ∙ sym (ap (option_map (λ k. n + k)) (position-cons is_bad op ops))

unmoved : (o : Option ℕ) → option_map (λ k. 0 + k) o ≡ o
unmoved None = refl
unmoved (Some k) = let e : 0 + k ≡ k = omega arith in ap Some e

pub bad_place_held : (ops : List Op) → position (λ op. is_bad_read (operation op)) ops ≡ bad_read_place (operations ops)
bad_place_held ops = sym (bad_from 0 ops ∙ unmoved (position is_bad ops))
