-- What a text spells can be printed.
use Rattle.std.proofs.Common.{◌≡◌, ℕ, zero, suc, ◌-◌, ◌<◌, inl, inr, Bool, true, false, cond, ◌&&◌, List, [], ◌∷◌, Option, Some, None, codes, refl, sym, subst, arith}
use Rattle.std.specs.Prelude.{ℤ, FitsSigned, All, not, ◌==◌}
use Rattle.std.specs.Int.{w64}
use Rattle.std.specs.Char.{IsScalar}
use Rattle.std.specs.List.{list_all}
use Rattle.std.specs.Str.{byte, bytes_eq}
use Rattle.std.specs.Str.Parse.{digits_value}
use Rattle.std.proofs.lemmas.Grind.{common_steps}
use Rattle.std.proofs.lemmas.List.Elements.{All-nil, All-cons}
use Rattle.jh_edn.specs.Bytes.{backspace, carriage_return, form_feed, is_hex, line_feed, space, tab}
use Rattle.jh_edn.specs.Edn.{Edn, nil, boolean, int, char, str, keyword, symbol, list, vector, mapping, set, tagged, Items, no_items, item, items_of, Members, no_members, member}
use Rattle.jh_edn.specs.Printable.{IsPrintable, ArePrintable, ArePrintablePairs}
use Rattle.jh_edn.specs.Spelling.{IsCharacter, IsInteger, SpellsElements, SpellsFront, SpellsAll, grammar_around, char_named, char_numbered, depth_limit, inside, is_surrogate, items_of_members, no_grammar}
use Rattle.jh_edn.proofs.CharacterLemmas.{hex_below}
use Rattle.jh_edn.proofs.SortLemmas.{both}
use Rattle.jh_edn.proofs.ReadTokenLemmas.{chosen}

-- ---- characters

either : (b : Bool) (x y : Option ℕ) (c : ℕ) → (x ≡ Some c → IsScalar c) → (y ≡ Some c → IsScalar c) → cond b x y ≡ Some c → IsScalar c
either true x y c f g h = f h
either false x y c f g h = g h

known : (n c : ℕ) → IsScalar n → Some n ≡ Some c → IsScalar c
known n c s e =
    let same : n ≡ c = cc in
    subst IsScalar same s

named_scalar : (name : List ℕ) (c : ℕ) → char_named name ≡ Some c → IsScalar c
unfolding char_named
named_scalar name c =
    either (bytes_eq name (codes "newline")) _ _ c (known line_feed c refl)
    (either (bytes_eq name (codes "return")) _ _ c (known carriage_return c refl)
    (either (bytes_eq name (codes "space")) _ _ c (known space c refl)
    (either (bytes_eq name (codes "tab")) _ _ c (known tab c refl)
    (either (bytes_eq name (codes "formfeed")) _ _ c (known form_feed c refl)
    (either (bytes_eq name (codes "backspace")) _ _ c (known backspace c refl) (λ e. absurd cc))))))

plain_scalar : (n : ℕ) → n < 65536 → is_surrogate n ≡ false → IsScalar n
plain_scalar n small h = grind (arith, common_steps)

not_false : (b : Bool) → not b ≡ true → b ≡ false
not_false true h = absurd cc
not_false false h = refl

numbered_scalar : (name : List ℕ) (c : ℕ) → char_numbered name ≡ Some c → IsScalar c
unfolding char_numbered
numbered_scalar (u ∷ a ∷ b ∷ d ∷ e ∷ []) c h =
    let n = digits_value 16 (a ∷ b ∷ d ∷ e ∷ []) in
    elim (chosen (u == byte "u" && list_all is_hex (a ∷ b ∷ d ∷ e ∷ []) && not (is_surrogate n)) (Some n) None (Some c) h) [
      | inl p ↦
          let outer = both (u == byte "u" && list_all is_hex (a ∷ b ∷ d ∷ e ∷ [])) (not (is_surrogate n)) p.0 in
          let hexes = both (u == byte "u") (list_all is_hex (a ∷ b ∷ d ∷ e ∷ [])) outer.0 in
          let x₁ = both (is_hex a) (is_hex b && (is_hex d && (is_hex e && true))) hexes.1 in
          let x₂ = both (is_hex b) (is_hex d && (is_hex e && true)) x₁.1 in
          let x₃ = both (is_hex d) (is_hex e && true) x₂.1 in
          let x₄ = both (is_hex e) true x₃.1 in
          let small : n < 65536 = omega (arith, hex_below a x₁.0, hex_below b x₂.0, hex_below d x₃.0, hex_below e x₄.0) in
          known n c (plain_scalar n small (not_false (is_surrogate n) outer.1)) p.1
      | inr p ↦ absurd (let bad = p.1 in cc)
    ]
numbered_scalar [] c h = absurd cc
numbered_scalar (u ∷ []) c h = absurd cc
numbered_scalar (u ∷ a ∷ []) c h = absurd cc
numbered_scalar (u ∷ a ∷ b ∷ []) c h = absurd cc
numbered_scalar (u ∷ a ∷ b ∷ d ∷ []) c h = absurd cc
numbered_scalar (u ∷ a ∷ b ∷ d ∷ e ∷ f ∷ s) c h = absurd cc

character : (c : ℕ) (name : List ℕ) → IsCharacter c name → IsScalar c
character c name (inl h) = h.0
character c name (inr (inl h)) = named_scalar name c h
character c name (inr (inr h)) = numbered_scalar name c h

integer : (s : List ℕ) (z : ℤ) → IsInteger s z → FitsSigned w64 z
integer s z h = subst (FitsSigned w64) (sym h.value) h.fits

-- ---- values

one_less : (depth : ℕ) → depth ≡ suc depth - 1
one_less depth = omega arith

-- where nothing may stand no elements are, not even none
no_elements : (xs : Items) (text rest : List ℕ) → SpellsElements no_grammar xs text rest → ⊥
no_elements no_items text rest e = e
no_elements (item x xs) text rest e = e.1

mutual
  unfolding inside

  form : (depth : ℕ) (x : Edn) (text rest : List ℕ) → SpellsFront (inside depth) x text rest → IsPrintable depth x
  form depth nil text rest f = tt
  form depth (boolean b) text rest f = tt
  form depth (int z) text rest f = integer f.0 z f.1
  form depth (char c) text rest f = character c f.0 f.1
  form depth (str s) text rest f = tt
  form depth (keyword name) text rest f = f.1.0
  form depth (symbol name) text rest f = f.1.0
  form zero (list xs) text rest f = absurd (no_elements xs _ _ f.2)
  form zero (vector xs) text rest f = absurd (no_elements xs _ _ f.2)
  form zero (mapping ms) text rest f = absurd (no_elements (items_of_members ms) _ _ f.2)
  form zero (set xs) text rest f = absurd (no_elements xs _ _ f.2)
  form zero (tagged tag x) text rest f = absurd f.4
  form (suc depth) (list xs) text rest f = (omega arith, subst (λ n. ArePrintable n xs) (one_less depth) (items depth xs f.0 _ f.2))
  form (suc depth) (vector xs) text rest f = (omega arith, subst (λ n. ArePrintable n xs) (one_less depth) (items depth xs f.0 _ f.2))
  form (suc depth) (mapping ms) text rest f = (omega arith, subst (λ n. ArePrintablePairs n ms) (one_less depth) (pairs depth ms f.0 _ f.2), f.3)
  form (suc depth) (set xs) text rest f = (omega arith, subst (λ n. ArePrintable n xs) (one_less depth) (items depth xs f.0 _ f.2), f.3)
  form (suc depth) (tagged tag x) text rest f = (omega arith, f.1, subst (λ n. IsPrintable n x) (one_less depth) (form depth x f.4.0 rest f.4.2))

  items : (depth : ℕ) (xs : Items) (text rest : List ℕ) → SpellsElements (grammar_around (inside depth)) xs text rest → ArePrintable depth xs
  items depth no_items text rest e = tt
  items depth (item x xs) text rest e = (form depth x e.1.0 e.0 e.1.2, items depth xs e.0 rest e.2)

  pairs : (depth : ℕ) (ms : Members) (text rest : List ℕ) → SpellsElements (grammar_around (inside depth)) (items_of_members ms) text rest → ArePrintablePairs depth ms
  pairs depth no_members text rest e = tt
  pairs depth (member k v ms) text rest e =
      (form depth k e.1.0 e.0 e.1.2, form depth v e.2.1.0 e.2.0 e.2.1.2, pairs depth ms e.2.0 rest e.2.2)

each : (depth : ℕ) (xs : List Edn) → ArePrintable depth (items_of xs) → All (IsPrintable depth) xs
each depth [] h = All-nil (IsPrintable depth)
each depth (x ∷ xs) h = All-cons (IsPrintable depth) x xs h.0 (each depth xs h.1)

pub all_printable : (text : List ℕ) (xs : List Edn) → SpellsAll xs text → All (IsPrintable depth_limit) xs
all_printable text xs e = each depth_limit xs (items depth_limit (items_of xs) text [] e)
