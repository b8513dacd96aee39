-- The calls of a history, record by record from the last.
use Rattle.std.proofs.Common.{◌≡◌, ℕ, zero, suc, ◌+◌, ◌<◌, ◌≤◌, Bool, true, false, cond, eqb, List, [], ◌∷◌, ◌++◌, length, drop, get_or, reverse, Option, Some, None, refl, sym, ap, ◌∙◌, arith, is_eq}
use Rattle.std.specs.Ordering.{nat_cmp}
use Rattle.std.specs.BTreeMap.{BTreeMap, get, Updates}
use Rattle.std.proofs.lemmas.Bool.{eq-eqb}
use Rattle.std.proofs.lemmas.Bool.Decides.{nat_tests}
use Rattle.std.proofs.lemmas.List.{length-map, reverse-append}
use Rattle.jh_ops.specs.Operation.{Operation, operation, operations}
use Rattle.jh_ops.specs.Pairing.{first_of, is_of_client, pair_of, pairs_from, history_pairs}
use Rattle.jh_ops.specs.declared.operation.Kind.{Kind}
use Rattle.jh_ops.specs.declared.operation.Op.{Op}
use Rattle.jh_ops.specs.declared.operation.Process.{Process}
use Rattle.jh_ops.specs.declared.pairs.Pair.{Pair}
use Rattle.jh_timeline_marks.specs.MarkedInside.{pair_with}

-- what is kept of the records from a place on
pub record Paired (kept : ℕ → Option ℕ) (found : List Pair) (history : List Op) (place : ℕ) : Type 0 where
  pub within : place ≤ length history
  pub next : (client : ℕ) → kept client ≡ first_of client place (drop place (operations history))
  pub pairs : reverse found ≡ pairs_from place (drop place (operations history))

drop_one : (history : List Op) (i : ℕ) (op : Op) → i < length history → op ≡ get_or history i op
    → drop i (operations history) ≡ operation op ∷ drop (i + 1) (operations history)
drop_one [] i op below same = absurd (omega arith)
drop_one (x ∷ xs) zero op below same = ap (λ o. operation o ∷ operations xs) (sym same)
drop_one (x ∷ xs) (suc i) op below same =
    let next : suc (i + 1) ≡ suc i + 1 = omega arith in
    drop_one xs i op (omega arith) same ∙ ap (λ m. operation op ∷ drop m (operations (x ∷ xs))) next

none_behind : {X : Type 0} (xs : List X) → drop (length xs) xs ≡ []
none_behind [] = refl
none_behind (x ∷ xs) = none_behind xs

-- behind the last record there is none
pub paired_none : (kept : ℕ → Option ℕ) (history : List Op) (place : ℕ) → place ≡ length history → ((client : ℕ) → kept client ≡ None) → Paired kept [] history place
paired_none kept history place at none =
    let nothing : drop place (operations history) ≡ [] =
    ap (λ m. drop m (operations history)) (at ∙ sym (length-map history operation)) ∙ none_behind (operations history) in
    record {
      within = omega arith;
      next = λ client. none client ∙ sym (ap (first_of client place) nothing);
      pairs = sym (ap (pairs_from place) nothing);
    }

pair_same : (kind : Kind) (client i : ℕ) (ops : List Operation) → pair_of kind (Process.Client client) i ops ≡ pair_with kind i (first_of client (i + 1) ops)
pair_same Kind.Invoke client i ops = refl
pair_same Kind.Ok client i ops = refl
pair_same Kind.Fail client i ops = refl
pair_same Kind.Info client i ops = refl

no_pair : (kind : Kind) (i : ℕ) (ops : List Operation) → pair_of kind Process.Nemesis i ops ≡ []
no_pair Kind.Invoke i ops = refl
no_pair Kind.Ok i ops = refl
no_pair Kind.Fail i ops = refl
no_pair Kind.Info i ops = refl

-- a list of one at most is its own reverse
pair_reversed : (kind : Kind) (i : ℕ) (next : Option ℕ) → reverse (pair_with kind i next) ≡ pair_with kind i next
pair_reversed Kind.Invoke i next = refl
pair_reversed Kind.Ok i next = refl
pair_reversed Kind.Fail i next = refl
pair_reversed Kind.Info i next = refl

missed : (client other : ℕ) → (client ≡ other → ⊥) → is_eq (nat_cmp client other) ≡ false
missed client other apart = grind (arith, nat_tests)

equal : (a b : ℕ) → eqb a b ≡ true → a ≡ b
equal a b e = grind (arith, nat_tests)

differ : (a b : ℕ) → eqb a b ≡ false → a ≡ b → ⊥
differ a b e same = let wrong : eqb a b ≡ true = eq-eqb a b same in absurd (cc)

chosen : (b : Bool) (x y z : Option ℕ) → (b ≡ true → z ≡ x) → (b ≡ false → z ≡ y) → z ≡ cond b x y
chosen true x y z h k = h refl
chosen false x y z h k = k refl

-- a record of a client
pub paired_client : (old new : BTreeMap ℕ ℕ) (found added : List Pair) (history : List Op) (n i number : ℕ) (op : Op) (next : Option ℕ)
    → n ≡ i + 1 → i < length history → op ≡ get_or history i op → op.process ≡ Process.Client number → next ≡ get nat_cmp old number
    → Paired (get nat_cmp old) found history n → Updates nat_cmp old new number (Some i)
    → added ≡ found ++ pair_with op.kind i next → Paired (get nat_cmp new) added history i
paired_client old new found added history n i number op next at below same is looked_up kept updates grown =
    let all = operations history in
    let rest = drop (i + 1) all in
    let whole = drop_one history i op below same in
    let before : (client : ℕ) → get nat_cmp old client ≡ first_of client (i + 1) rest = λ client. kept.next client ∙ ap (λ m. first_of client m (drop m all)) at in
    let behind : reverse found ≡ pairs_from (i + 1) rest = kept.pairs ∙ ap (λ m. pairs_from m (drop m all)) at in
    let seen : next ≡ first_of number (i + 1) rest = looked_up ∙ before number in
    let fresh = pair_with op.kind i next in
    record {
      within = omega arith;
      next = λ client.
          chosen (eqb client number) (Some i) (first_of client (i + 1) rest) (get nat_cmp new client)
          (λ yes. ap (get nat_cmp new) (equal client number yes) ∙ updates.1)
          (λ no. updates.2 client (missed number client (λ e. differ client number no (sym e))) ∙ before client)
          ∙ sym (ap (first_of client i) whole ∙ ap (λ p. cond (is_of_client client p) (Some i) (first_of client (i + 1) rest)) is);
      pairs =
          ap reverse grown ∙ reverse-append found fresh ∙ ap (λ ps. ps ++ reverse found) (pair_reversed op.kind i next)
          ∙ ap (λ ps. fresh ++ ps) behind ∙ ap (λ b. pair_with op.kind i b ++ pairs_from (i + 1) rest) seen
          ∙ sym (ap (pairs_from i) whole ∙ ap (λ p. pair_of op.kind p i rest ++ pairs_from (i + 1) rest) is
          ∙ ap (λ ps. ps ++ pairs_from (i + 1) rest) (pair_same op.kind number i rest));
    }

-- a record of the nemesis
pub paired_other : (kept : ℕ → Option ℕ) (found : List Pair) (history : List Op) (n i : ℕ) (op : Op)
    → n ≡ i + 1 → i < length history → op ≡ get_or history i op → op.process ≡ Process.Nemesis
    → Paired kept found history n → Paired kept found history i
paired_other kept_at found history n i op at below same is kept =
    let all = operations history in
    let rest = drop (i + 1) all in
    let whole = drop_one history i op below same in
    record {
      within = omega arith;
      next = λ client.
          kept.next client ∙ ap (λ m. first_of client m (drop m all)) at
          ∙ sym (ap (first_of client i) whole ∙ ap (λ p. cond (is_of_client client p) (Some i) (first_of client (i + 1) rest)) is);
      pairs =
          kept.pairs ∙ ap (λ m. pairs_from m (drop m all)) at
          ∙ sym (ap (pairs_from i) whole ∙ ap (λ p. pair_of op.kind p i rest ++ pairs_from (i + 1) rest) is
          ∙ ap (λ ps. ps ++ pairs_from (i + 1) rest) (no_pair op.kind i rest));
    }

-- from the first record on that is every call
pub paired_all : (kept : ℕ → Option ℕ) (found : List Pair) (history : List Op) (place : ℕ) → place ≡ 0 → Paired kept found history place
    → reverse found ≡ history_pairs (operations history)
paired_all kept_at found history place at kept = kept.pairs ∙ ap (λ m. pairs_from m (drop m (operations history))) at
