-- The brackets that are open, one lexeme more at a time.
use Rattle.std.proofs.Common.{◌≡◌, ℕ, ◌+◌, ◌-◌, ◌<◌, ◌≤◌, List, drop, Some, None, ap, ◌∙◌, sym}
use Rattle.jh_lexemes.specs.declared.lexeme.Lexeme.{Lexeme}
use Rattle.jh_lexemes.specs.Lexemes.{lexeme_of, lexemes_from}
use Rattle.jh_lexemes.specs.Opened.{after_lexeme, after_lexemes}
use Rattle.jh_lexemes.proofs.LexemesLemmas.{placed, lexemes_next, lexemes_none, lexemes_over}

module _ (places total text : List ℕ) (most turn at : ℕ) (rest : after_lexemes places (lexemes_from (most - turn) at (drop at text)) ≡ total) where
  pub goes_on : (end : ℕ) (kind : Lexeme) (new : List ℕ) → turn < most → Some (kind, end) ≡ placed at (lexeme_of (drop at text)) → new ≡ after_lexeme places kind at
      → after_lexemes new (lexemes_from (most - (turn + 1)) end (drop end text)) ≡ total
  goes_on end kind new l h is =
      ap (λ (p : List ℕ). after_lexemes p (lexemes_from (most - (turn + 1)) end (drop end text))) is
      ∙ ap (after_lexemes places) (sym (lexemes_next most turn at end text kind l h)) ∙ rest

  pub ends : None ≡ placed at (lexeme_of (drop at text)) → places ≡ total
  ends h = ap (after_lexemes places) (sym (lexemes_none (most - turn) at text h)) ∙ rest

  pub is_over : most ≤ turn → places ≡ total
  is_over l = ap (after_lexemes places) (sym (lexemes_over most turn at (drop at text) l)) ∙ rest
