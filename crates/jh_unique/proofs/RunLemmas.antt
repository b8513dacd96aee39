-- Orders of a register, cut at an operation.
use Rattle.std.proofs.Common.{◌≡◌, ℕ, ℤ, true, eqb, Option, Some, None, List, [], ◌∷◌, ◌++◌, refl, sym, ap, subst, ◌∙◌, inl, inr}
use Rattle.std.specs.Prelude.{◌⊎◌}
use Rattle.std.specs.List.{All}
use Rattle.std.proofs.lemmas.Bool.{false≢true, or_right}
use Rattle.std.proofs.lemmas.List.Elements.{All-head, All-tail}
use Rattle.jh_linear.specs.declared.register.RegCall.{RegCall}
use Rattle.jh_linear.specs.declared.register.RegCall.TheVariants.{Read, Write, Cas}
use Rattle.jh_linear.specs.declared.register.RegOp.{RegOp}
use Rattle.jh_linear.specs.Order.{IsPossible, has, Allows, IsLegalFrom}
use Rattle.jh_unique.specs.Unique.{WritesValue, NeedsValue, GivesValue, reg_call_at}
use Rattle.jh_unique.proofs.ListLemmas.{has_cons, has_head, has_left, split_at}

pub some_same : (x y : ℤ) → ◌≡◌ {A = Option ℤ} (Some x) (Some y) → x ≡ y
some_same x y h = cc

pub needs_held : (call : RegCall) (held next : Option ℤ) (v : ℤ) → Allows call held next → NeedsValue call v → held ≡ Some v
needs_held (Read None) held next v h k = absurd k
needs_held (Read (Some seen)) held next v h k = h.0 ∙ ap (λ x. Some x) k
needs_held (Write new) held next v h k = absurd k
needs_held (Cas old new) held next v h k = h.0 ∙ ap (λ x. Some x) k

pub leaves_next : (call : RegCall) (held next : Option ℤ) (v : ℤ) → Allows call held next → GivesValue call v → next ≡ Some v
leaves_next (Read None) held next v h k = absurd k
leaves_next (Read (Some seen)) held next v h k = h.1 ∙ h.0 ∙ ap (λ x. Some x) k
leaves_next (Write new) held next v h k = h ∙ ap (λ x. Some x) k
leaves_next (Cas old new) held next v h k = h.1 ∙ ap (λ x. Some x) k

pub next_from : (call : RegCall) (held next : Option ℤ) (v : ℤ) → Allows call held next → next ≡ Some v → (held ≡ Some v) ⊎ WritesValue call v
next_from (Read None) held next v h is = inl (sym h ∙ is)
next_from (Read (Some seen)) held next v h is = inl (sym h.1 ∙ is)
next_from (Write new) held next v h is = inr (some_same new v (sym h ∙ is))
next_from (Cas old new) held next v h is = inr (some_same new v (sym h.1 ∙ is))

pub writes_leaves : (call : RegCall) (v : ℤ) → WritesValue call v → GivesValue call v
writes_leaves (Read seen) v h = absurd h
writes_leaves (Write new) v h = h
writes_leaves (Cas old new) v h = h

pub leaves_cases : (call : RegCall) (v : ℤ) → GivesValue call v → NeedsValue call v ⊎ WritesValue call v
leaves_cases (Read None) v h = absurd h
leaves_cases (Read (Some seen)) v h = inl h
leaves_cases (Write new) v h = inr h
leaves_cases (Cas old new) v h = inr h

pub one_value : (call : RegCall) (v w : ℤ) → GivesValue call v → GivesValue call w → v ≡ w
one_value (Read None) v w h k = absurd h
one_value (Read (Some seen)) v w h k = sym h ∙ k
one_value (Write new) v w h k = sym h ∙ k
one_value (Cas old new) v w h k = sym h ∙ k

pub all_has : (P : ℕ → Type 0) (xs : List ℕ) → All P xs → (p : ℕ) → has xs p ≡ true → P p
all_has P [] all p h = absurd (false≢true h)
all_has P (x ∷ xs) all p h = elim (has_cons x xs p h) as (λ _. P p) [
  | inl e ↦ subst P e (All-head P x xs all)
  | inr there ↦ all_has P xs (All-tail P x xs all) p there
]

module _ (ops : List RegOp) where
  -- the values on both sides of an operation
  pub legal_cut : (front back : List ℕ) (p : ℕ) (value last : Option ℤ) → IsLegalFrom ops value (front ++ p ∷ back) last
      → (held next : Option ℤ) × IsLegalFrom ops value front held × Allows (reg_call_at ops p) held next × IsLegalFrom ops next back last
  legal_cut [] back p value last h = (value, h.0, refl, h.1, h.2)
  legal_cut (x ∷ front) back p value last h = let r = legal_cut front back p h.0 last h.2 in (r.0, r.1, (h.0, h.1, r.2), r.3, r.4)

  -- where the value that is held comes from
  pub source : (xs : List ℕ) (value held : Option ℤ) (v : ℤ) → IsLegalFrom ops value xs held → held ≡ Some v → (value ≡ Some v) ⊎ ((w : ℕ) × (has xs w ≡ true) × WritesValue (reg_call_at ops w) v)
  source [] value held v h is = inl (sym h ∙ is)
  source (x ∷ xs) value held v h is =
      let Goal : Type 0 = (value ≡ Some v) ⊎ ((w : ℕ) × (has (x ∷ xs) w ≡ true) × WritesValue (reg_call_at ops w) v) in
      elim (source xs h.0 held v h.2 is) as (λ _. Goal) [
        | inl before ↦ elim (next_from (reg_call_at ops x) value h.0 v h.1 before) as (λ _. Goal) [
          | inl older ↦ inl older
          | inr here ↦ inr (x, has_head x xs, here)
        ]
        | inr later ↦ inr (later.0, or_right (eqb x later.0) _ later.1, later.2)
      ]

  -- Values that are reached from outside only by an entry.
  module _ (V : ℤ → Type 0) (Entry : ℕ → Type 0) (closed : (p : ℕ) (v : ℤ) → IsPossible ops p → GivesValue (reg_call_at ops p) v → V v → Entry p ⊎ ((u : ℤ) × NeedsValue (reg_call_at ops p) u × V u)) where
    abbrev pub Out : Option ℤ → Type 0
    Out value = (v : ℤ) → value ≡ Some v → V v → ⊥

    step_out : (p : ℕ) (held next : Option ℤ) → IsPossible ops p → (Entry p → ⊥) → Allows (reg_call_at ops p) held next → Out held → Out next
    step_out p held next possible none allows out v is inside =
        elim (next_from (reg_call_at ops p) held next v allows is) as (λ _. ⊥) [
          | inl same ↦ out v same inside
          | inr writes ↦ elim (closed p v possible (writes_leaves (reg_call_at ops p) v writes) inside) as (λ _. ⊥) [
            | inl e ↦ none e
            | inr n ↦ out n.0 (needs_held (reg_call_at ops p) held next n.0 allows n.1) n.2
          ]
        ]

    pub stays_out : (xs : List ℕ) (value held : Option ℤ) → ((p : ℕ) → has xs p ≡ true → IsPossible ops p) → ((p : ℕ) → has xs p ≡ true → Entry p → ⊥) → IsLegalFrom ops value xs held → Out value → Out held
    stays_out [] value held possible none legal out v is inside = out v (sym legal ∙ is) inside
    stays_out (x ∷ xs) value held possible none legal out v is inside =
        stays_out xs legal.0 held (λ p h. possible p (or_right (eqb x p) _ h)) (λ p h. none p (or_right (eqb x p) _ h)) legal.2
        (step_out x value legal.0 (possible x (has_head x xs)) (none x (has_head x xs)) legal.1 out) v is inside

    -- from outside and with no entry none of them is left or needed
    pub never : (xs : List ℕ) (value last : Option ℤ) → ((p : ℕ) → has xs p ≡ true → IsPossible ops p) → ((p : ℕ) → has xs p ≡ true → Entry p → ⊥) → IsLegalFrom ops value xs last → Out value
        → (p : ℕ) (v : ℤ) → has xs p ≡ true → V v → GivesValue (reg_call_at ops p) v ⊎ NeedsValue (reg_call_at ops p) v → ⊥
    never xs value last possible none legal out p v h inside touches =
        let r = split_at xs p h in
        let into : (q : ℕ) → has r.0 q ≡ true → has xs q ≡ true = λ q k. subst (λ zs. has zs q ≡ true) (sym r.2) (has_left r.0 (p ∷ r.1) q k) in
        let c = legal_cut r.0 r.1 p value last (subst (λ zs. IsLegalFrom ops value zs last) r.2 legal) in
        let still : Out c.0 = stays_out r.0 value c.0 (λ q k. possible q (into q k)) (λ q k. none q (into q k)) c.2 out in
        elim touches as (λ _. ⊥) [
          | inl leaves ↦ elim (closed p v (possible p h) leaves inside) as (λ _. ⊥) [
            | inl e ↦ none p h e
            | inr n ↦ still n.0 (needs_held (reg_call_at ops p) c.0 c.1 n.0 c.3 n.1) n.2
          ]
          | inr needs ↦ still v (needs_held (reg_call_at ops p) c.0 c.1 v c.3 needs) inside
        ]
