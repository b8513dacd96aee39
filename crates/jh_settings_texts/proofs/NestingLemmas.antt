-- When the text of a generator can be printed with so many levels, part by part.
use Rattle.std.proofs.Common.{◌≡◌, ℕ, zero, suc, ◌-◌, ◌<◌, ◌^◌, Bool, true, false, List, [], ◌∷◌, ◌++◌, length, take, get_or, refl, sym, subst, ◌∙◌, arith}
use Rattle.std.specs.Prelude.{◌↔◌, IsTrue, nat_lt, ℤ, pos, FitsSigned, codes}
use Rattle.std.specs.Int.{w64}
use Rattle.std.proofs.lemmas.Bool.{true≢false, lt-ltb, ltb-true}
use Rattle.jh_edn.specs.Bytes.{is_first, is_symbol, is_digit}
use Rattle.jh_edn.specs.Edn.{Edn, int, items_of}
use Rattle.jh_edn.specs.Printable.{IsPrintable, ArePrintable}
use Rattle.jh_edn.specs.Spelling.{is_name}
use Rattle.jh_gen.specs.Generator.{Generator, nothing, once, rising, forever, seq, limit, mix, phases, reserve, each_thread, clients, nemesis_only, Generators, ShareList, no_shares, share, row_of, share_list}
use Rattle.jh_gen.specs.View.{generator_of, generators_of, shares_of}
use Rattle.jh_gen.specs.declared.generator.Gen.{Gen}
use Rattle.jh_gen.specs.declared.rise.Rise.{Rise}
use Rattle.jh_gen.specs.declared.rise.Rise.TheVariants.{Adds, Writes}
use Rattle.jh_gen_texts.specs.GeneratorWritten.{named, rising_name, edn_of_call, edn_of_generator, values_of_generators, values_of_shares}
use Rattle.jh_ops.specs.declared.call.Call.{Call}

-- ---- names

once_is : is_name (codes "once") ≡ true
unfolding is_name is_first is_symbol is_digit
once_is = refl

nil_is : is_name (codes "nil") ≡ true
unfolding is_name is_first is_symbol is_digit
nil_is = refl

rising_is : (r : Rise) → is_name (rising_name r) ≡ true
unfolding is_name is_first is_symbol is_digit
rising_is Adds = refl
rising_is Writes = refl

forever_is : is_name (codes "forever") ≡ true
unfolding is_name is_first is_symbol is_digit
forever_is = refl

seq_is : is_name (codes "seq") ≡ true
unfolding is_name is_first is_symbol is_digit
seq_is = refl

limit_is : is_name (codes "limit") ≡ true
unfolding is_name is_first is_symbol is_digit
limit_is = refl

mix_is : is_name (codes "mix") ≡ true
unfolding is_name is_first is_symbol is_digit
mix_is = refl

phases_is : is_name (codes "phases") ≡ true
unfolding is_name is_first is_symbol is_digit
phases_is = refl

reserve_is : is_name (codes "reserve") ≡ true
unfolding is_name is_first is_symbol is_digit
reserve_is = refl

each_thread_is : is_name (codes "each-thread") ≡ true
unfolding is_name is_first is_symbol is_digit
each_thread_is = refl

clients_is : is_name (codes "clients") ≡ true
unfolding is_name is_first is_symbol is_digit
clients_is = refl

nemesis_is : is_name (codes "nemesis") ≡ true
unfolding is_name is_first is_symbol is_digit
nemesis_is = refl

pub read_is : is_name (codes "read") ≡ true
unfolding is_name is_first is_symbol is_digit
read_is = refl

pub write_is : is_name (codes "write") ≡ true
unfolding is_name is_first is_symbol is_digit
write_is = refl

pub cas_is : is_name (codes "cas") ≡ true
unfolding is_name is_first is_symbol is_digit
cas_is = refl

pub add_is : is_name (codes "add") ≡ true
unfolding is_name is_first is_symbol is_digit
add_is = refl

pub generate_is : is_name (codes "generate") ≡ true
unfolding is_name is_first is_symbol is_digit
generate_is = refl

pub txn_is : is_name (codes "txn") ≡ true
unfolding is_name is_first is_symbol is_digit
txn_is = refl

pub step_is : is_name (codes "step") ≡ true
unfolding is_name is_first is_symbol is_digit
step_is = refl

-- ---- numbers

pub small_fits : (n : ℕ) → n < 2 ^ 32 → FitsSigned w64 (pos n)
small_fits n h = record { sfits = omega (arith, h) }

pub not_both : (answer : Bool) → answer ≡ true → answer ≡ false → ⊥
not_both answer is not = true≢false (sym is ∙ not)

-- ---- kinds

-- what is named can be printed just where its parts can, with one level less
pub named_within : (name : List ℕ) (parts : List Edn) (d : ℕ) (answer : Bool) → is_name name ≡ true → 0 < d
    → (IsTrue answer ↔ ArePrintable (d - 1) (items_of parts)) → (IsTrue answer ↔ IsPrintable d (named name parts))
named_within name parts d answer is some h = (λ told. (some, (is, h.0 told)), λ printable. h.1 printable.1.1)

-- what is named with numbers can be printed just where there is a level
pub vector_within : (name : List ℕ) (parts : List Edn) (d : ℕ) → is_name name ≡ true → ArePrintable (d - 1) (items_of parts) → (IsTrue (nat_lt 0 d) ↔ IsPrintable d (named name parts))
vector_within name parts d is h = (λ told. (ltb-true 0 d told, (is, h)), λ printable. lt-ltb 0 d printable.0)

one_within : (x : Edn) (d : ℕ) (answer : Bool) → (IsTrue answer ↔ IsPrintable d x) → (IsTrue answer ↔ ArePrintable d (items_of (x ∷ [])))
one_within x d answer h = (λ told. (h.0 told, tt), λ printable. h.1 printable.0)

module _ (d : ℕ) (some : 0 < d) (answer : Bool) where
  pub once_within : (call : Call) → (IsTrue answer ↔ IsPrintable (d - 1) (edn_of_call call)) → (IsTrue answer ↔ IsPrintable d (edn_of_generator (once call)))
  once_within call h = named_within (codes "once") (edn_of_call call ∷ []) d answer once_is some (one_within (edn_of_call call) (d - 1) answer h)

  pub forever_within : (call : Call) → (IsTrue answer ↔ IsPrintable (d - 1) (edn_of_call call)) → (IsTrue answer ↔ IsPrintable d (edn_of_generator (forever call)))
  forever_within call h = named_within (codes "forever") (edn_of_call call ∷ []) d answer forever_is some (one_within (edn_of_call call) (d - 1) answer h)

  pub seq_within : (gs : Generators) → (IsTrue answer ↔ ArePrintable (d - 1) (items_of (values_of_generators gs))) → (IsTrue answer ↔ IsPrintable d (edn_of_generator (seq gs)))
  seq_within gs h = named_within (codes "seq") (values_of_generators gs) d answer seq_is some h

  pub mix_within : (gs : Generators) → (IsTrue answer ↔ ArePrintable (d - 1) (items_of (values_of_generators gs))) → (IsTrue answer ↔ IsPrintable d (edn_of_generator (mix gs)))
  mix_within gs h = named_within (codes "mix") (values_of_generators gs) d answer mix_is some h

  pub phases_within : (gs : Generators) → (IsTrue answer ↔ ArePrintable (d - 1) (items_of (values_of_generators gs))) → (IsTrue answer ↔ IsPrintable d (edn_of_generator (phases gs)))
  phases_within gs h = named_within (codes "phases") (values_of_generators gs) d answer phases_is some h

  pub limit_within : (n : ℕ) (g : Generator) → n < 2 ^ 32 → (IsTrue answer ↔ IsPrintable (d - 1) (edn_of_generator g)) → (IsTrue answer ↔ IsPrintable d (edn_of_generator (limit n g)))
  limit_within n g small h =
      named_within (codes "limit") (int (pos n) ∷ edn_of_generator g ∷ []) d answer limit_is some
      (λ told. (small_fits n small, (h.0 told, tt)), λ printable. h.1 printable.1.0)

  pub each_thread_within : (g : Generator) → (IsTrue answer ↔ IsPrintable (d - 1) (edn_of_generator g)) → (IsTrue answer ↔ IsPrintable d (edn_of_generator (each_thread g)))
  each_thread_within g h = named_within (codes "each-thread") (edn_of_generator g ∷ []) d answer each_thread_is some (one_within (edn_of_generator g) (d - 1) answer h)

  pub clients_within : (g : Generator) → (IsTrue answer ↔ IsPrintable (d - 1) (edn_of_generator g)) → (IsTrue answer ↔ IsPrintable d (edn_of_generator (clients g)))
  clients_within g h = named_within (codes "clients") (edn_of_generator g ∷ []) d answer clients_is some (one_within (edn_of_generator g) (d - 1) answer h)

  pub nemesis_within : (g : Generator) → (IsTrue answer ↔ IsPrintable (d - 1) (edn_of_generator g)) → (IsTrue answer ↔ IsPrintable d (edn_of_generator (nemesis_only g)))
  nemesis_within g h = named_within (codes "nemesis") (edn_of_generator g ∷ []) d answer nemesis_is some (one_within (edn_of_generator g) (d - 1) answer h)

pub nil_within : (d : ℕ) → 0 < d → (IsTrue true ↔ IsPrintable d (edn_of_generator nothing))
nil_within d some = (λ told. (some, (nil_is, tt)), λ printable. refl)

pub rising_within : (d : ℕ) (r : Rise) (z : ℤ) → 0 < d → FitsSigned w64 z → (IsTrue true ↔ IsPrintable d (edn_of_generator (rising r z)))
rising_within d r z some fits = (λ told. (some, (rising_is r, (fits, tt))), λ printable. refl)

-- ---- reserves

joined : (d : ℕ) (ms : ShareList) (last : Edn) → ArePrintable d (items_of (values_of_shares ms)) → IsPrintable d last → ArePrintable d (items_of (values_of_shares ms ++ last ∷ []))
joined d no_shares last h k = (k, tt)
joined d (share n g ms) last h k = (h.0, (h.1.0, joined d ms last h.1.1 k))

parted : (d : ℕ) (ms : ShareList) (last : Edn) → ArePrintable d (items_of (values_of_shares ms ++ last ∷ [])) → ArePrintable d (items_of (values_of_shares ms)) × IsPrintable d last
parted d no_shares last h = (tt, h.0)
parted d (share n g ms) last h = let behind = parted d ms last h.1.1 in ((h.0, (h.1.0, behind.0)), behind.1)

-- where the shares can be printed, the last generator decides
pub reserve_within : (d : ℕ) (ms : ShareList) (g : Generator) (answer : Bool) → 0 < d → ArePrintable (d - 1) (items_of (values_of_shares ms))
    → (IsTrue answer ↔ IsPrintable (d - 1) (edn_of_generator g)) → (IsTrue answer ↔ IsPrintable d (edn_of_generator (reserve ms g)))
reserve_within d ms g answer some shares h =
    named_within (codes "reserve") (values_of_shares ms ++ edn_of_generator g ∷ []) d answer reserve_is some
    (λ told. joined (d - 1) ms (edn_of_generator g) shares (h.0 told), λ printable. h.1 (parted (d - 1) ms (edn_of_generator g) printable).1)

-- where they can't, nothing can
pub reserve_not_within : (d : ℕ) (ms : ShareList) (g : Generator) (answer : Bool) → answer ≡ false → (ArePrintable (d - 1) (items_of (values_of_shares ms)) → ⊥)
    → (IsTrue answer ↔ IsPrintable d (edn_of_generator (reserve ms g)))
reserve_not_within d ms g answer isnt not =
    (λ is. absurd (not_both answer is isnt), λ printable. absurd (not (parted (d - 1) ms (edn_of_generator g) printable.1.1).0))

-- ---- member by member

abbrev pub row_texts : List Gen → List Edn
row_texts xs = values_of_generators (row_of (generators_of xs))

pub row_first : (d : ℕ) (xs : List Gen) (i : ℕ) (x : Gen) → i < length xs → x ≡ get_or xs i x → ArePrintable d (items_of (row_texts (take i xs)))
    → IsPrintable d (edn_of_generator (generator_of x)) → ArePrintable d (items_of (row_texts (take (suc i) xs)))
row_first d [] i x lt e so_far here = absurd (omega arith)
row_first d (y ∷ xs) zero x lt e so_far here = (subst (λ z. IsPrintable d (edn_of_generator (generator_of z))) e here, tt)
row_first d (y ∷ xs) (suc i) x lt e so_far here = (so_far.0, row_first d xs i x (omega arith) e so_far.1 here)

pub row_member : (d : ℕ) (xs : List Gen) (i : ℕ) (x : Gen) → i < length xs → x ≡ get_or xs i x → ArePrintable d (items_of (row_texts xs)) → IsPrintable d (edn_of_generator (generator_of x))
row_member d [] i x lt e all = absurd (omega arith)
row_member d (y ∷ xs) zero x lt e all = subst (λ z. IsPrintable d (edn_of_generator (generator_of z))) (sym e) all.0
row_member d (y ∷ xs) (suc i) x lt e all = row_member d xs i x (omega arith) e all.1

abbrev pub shares_texts : List (ℕ × Gen) → List Edn
shares_texts xs = values_of_shares (share_list (shares_of xs))

pub share_first : (d : ℕ) (xs : List (ℕ × Gen)) (i : ℕ) (x : ℕ × Gen) → i < length xs → x ≡ get_or xs i x → x.0 < 2 ^ 32 → ArePrintable d (items_of (shares_texts (take i xs)))
    → IsPrintable d (edn_of_generator (generator_of x.1)) → ArePrintable d (items_of (shares_texts (take (suc i) xs)))
share_first d [] i x lt e small so_far here = absurd (omega arith)
share_first d (y ∷ xs) zero x lt e small so_far here = subst (λ z. ArePrintable d (items_of (shares_texts (z ∷ [])))) e (small_fits x.0 small, (here, tt))
share_first d (y ∷ xs) (suc i) x lt e small so_far here = (so_far.0, (so_far.1.0, share_first d xs i x (omega arith) e small so_far.1.1 here))

pub share_member : (d : ℕ) (xs : List (ℕ × Gen)) (i : ℕ) (x : ℕ × Gen) → i < length xs → x ≡ get_or xs i x → ArePrintable d (items_of (shares_texts xs))
    → IsPrintable d (edn_of_generator (generator_of x.1))
share_member d [] i x lt e all = absurd (omega arith)
share_member d (y ∷ xs) zero x lt e all = subst (λ (z : ℕ × Gen). IsPrintable d (edn_of_generator (generator_of z.1))) (sym e) all.1.0
share_member d (y ∷ xs) (suc i) x lt e all = share_member d xs i x (omega arith) e all.1.1
