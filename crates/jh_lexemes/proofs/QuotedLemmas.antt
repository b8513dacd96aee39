-- A string, one byte more at a time.
use Rattle.std.proofs.Common.{◌≡◌, ℕ, ◌+◌, ◌-◌, ◌<◌, ◌≤◌, Bool, true, false, List, [], ◌∷◌, length, drop, get_or, eqb, refl, ap, ◌∙◌, sym, arith}
use Rattle.std.specs.Prelude.{◌&&◌, ◌==◌, ◌≢◌}
use Rattle.std.proofs.lemmas.List.{drop_more, drop_all, get_or-drop, length-drop}
use Rattle.std.specs.Str.{IsCharBoundary, IsUtf8}
use Rattle.std.proofs.lemmas.Str.{IsCharBoundary-after_ascii}
use Rattle.std.proofs.lemmas.Grind.{common_steps}
use Rattle.jh_edn.specs.Bytes.{quote, backslash}
use Rattle.jh_lexemes.specs.declared.lexeme.Lexeme.{Lexeme}
use Rattle.jh_lexemes.specs.declared.lexeme.Lexeme.TheVariants as kinds
use Rattle.jh_lexemes.specs.Lexemes.{quoted, closed_string, is_escape, string_front}

module _ (t : List ℕ) (k len : ℕ) (good : Bool) (l : k < length t) where
  pub escaped_step : quoted (good && is_escape (get_or t k 0)) false (len + 1) (drop (k + 1) t) ≡ quoted good true len (drop k t)
  escaped_step = ap (quoted good true len) (sym (drop_more t k 0 l))

  pub quote_step : get_or t k 0 ≡ quote → (closed_string good, len + 1) ≡ quoted good false len (drop k t)
  quote_step e =
      let here : quoted good false len (get_or t k 0 ∷ drop (k + 1) t) ≡ (closed_string good, len + 1) = rw e refl in
      sym here ∙ ap (quoted good false len) (sym (drop_more t k 0 l))

  pub plain_step : get_or t k 0 ≢ quote → quoted good (get_or t k 0 == backslash) (len + 1) (drop (k + 1) t) ≡ quoted good false len (drop k t)
  plain_step e =
      let no : eqb (get_or t k 0) quote ≡ false = grind (arith, common_steps) in
      let here : quoted good false len (get_or t k 0 ∷ drop (k + 1) t) ≡ quoted good (get_or t k 0 == backslash) (len + 1) (drop (k + 1) t) = rw no refl in
      sym here ∙ ap (quoted good false len) (sym (drop_more t k 0 l))

-- the closing quote
pub closes : (s t : List ℕ) (k len : ℕ) (good escaped : Bool) (kind : Lexeme) → t ≡ drop 1 s → k < length t → get_or t k 0 ≡ quote → escaped ≡ false → kind ≡ closed_string good
    → quoted good escaped len (drop k t) ≡ quoted true false 1 t → (kind, len + 1) ≡ string_front s
unfolding string_front
closes s t k len good escaped kind is l q plain e rest =
    rw e (quote_step t k len good l q ∙ ap (λ (b : Bool). quoted good b len (drop k t)) (sym plain) ∙ rest ∙ ap (quoted true false 1) is)

pub closes_boundary : (s t : List ℕ) (k len : ℕ) → t ≡ drop 1 s → IsUtf8 s → k < length t → len ≡ 1 + k → get_or t k 0 ≡ quote → IsCharBoundary s (len + 1)
closes_boundary s t k len is u l at q =
    let there : get_or s len 0 ≡ quote = rw (at, ← get_or-drop 1 s k 0, ← is) q in
    let most : length t ≡ length s - 1 = rw is (length-drop 1 s) in
    IsCharBoundary-after_ascii s len u (omega arith) (omega arith)

ends_so : (good escaped : Bool) (len : ℕ) → quoted good escaped len [] ≡ (kinds.OpenText, len)
ends_so good true len = refl
ends_so good false len = refl

-- the end of the text
pub ends : (s t : List ℕ) (k len : ℕ) (good escaped : Bool) → t ≡ drop 1 s → length t ≤ k
    → quoted good escaped len (drop k t) ≡ quoted true false 1 t → (kinds.OpenText, len) ≡ string_front s
unfolding string_front
ends s t k len good escaped is l rest =
    sym (ends_so good escaped len) ∙ ap (quoted good escaped len) (sym (drop_all k t l)) ∙ rest ∙ ap (quoted true false 1) is
