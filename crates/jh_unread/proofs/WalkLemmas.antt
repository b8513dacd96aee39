-- A walk through a text, one lexeme more at a time.
use Rattle.std.proofs.Common.{◌≡◌, ℕ, ◌+◌, ◌-◌, ◌<◌, ◌≤◌, List, take, drop, Option, Some, None, ap, ◌∙◌, sym, Ok, Err, Bool, true, false, cond, inl, inr, ◌⊎◌}
use Rattle.std.specs.Prelude.{Result, IfOk, IsTrue}
use Rattle.jh_lexemes.specs.declared.lexeme.Lexeme.{Lexeme}
use Rattle.jh_lexemes.specs.Lexemes.{lexeme_of, lexemes_from}
use Rattle.jh_lexemes.proofs.CitedLemmas.{placed, lexemes_next, lexemes_none, lexemes_over}
use Rattle.jh_unread.specs.declared.parts.Part.{Part}
use Rattle.jh_unread.specs.Parts.{part_of}
use Rattle.jh_unread.specs.Unread.{Walk, walked, walk_behind, finished, on_or_finished}

-- what is so of what a call gives is so of what follows from it
pub if_ok_so : {A E : Type 0} (P Q : A → Type 0) (r : Result A E) → IfOk r P → ((a : A) → P a → Q a) → IfOk r Q
if_ok_so P Q (Ok a) h so = so a h
if_ok_so P Q (Err e) h so = tt

module _ (text : List ℕ) (most turn at : ℕ) (walk : Walk) (total : List ℕ) (rest : walked text (lexemes_from (most - turn) at (drop at text)) walk ≡ total) where
  pub ends : None ≡ placed at (lexeme_of (drop at text)) → finished text walk.operation walk.out ≡ total
  ends h = ap (λ ls. walked text ls walk) (sym (lexemes_none (most - turn) at text h)) ∙ rest

  pub is_over : most ≤ turn → finished text walk.operation walk.out ≡ total
  is_over l = ap (λ ls. walked text ls walk) (sym (lexemes_over most turn at (drop at text) l)) ∙ rest

  module _ (end : ℕ) (kind : Lexeme) (part : Part) (spelled behind : List ℕ) (l : turn < most) (found : Some (kind, end) ≡ placed at (lexeme_of (drop at text)))
      (spelled_is : spelled ≡ take (end - at) (drop at text)) (behind_is : behind ≡ drop end text) (part_is : part ≡ part_of kind spelled behind) where
    -- what the walk does with the lexeme here
    here : on_or_finished text walk (walked text (lexemes_from (most - (turn + 1)) end (drop end text))) (walk_behind walk part spelled) ≡ total
    here =
        rw (part_is, spelled_is, behind_is) (ap (λ ls. walked text ls walk) (sym (lexemes_next most turn at end text kind l found)) ∙ rest)

    pub goes_on : (next : Walk) → Some next ≡ walk_behind walk part spelled → walked text (lexemes_from (most - (turn + 1)) end (drop end text)) next ≡ total
    goes_on next h = ap (on_or_finished text walk (walked text (lexemes_from (most - (turn + 1)) end (drop end text)))) h ∙ here

    pub stops : None ≡ walk_behind walk part spelled → finished text walk.operation walk.out ≡ total
    stops h = ap (on_or_finished text walk (walked text (lexemes_from (most - (turn + 1)) end (drop end text)))) h ∙ here

-- what a call says by whether it goes on
pub next_is : {A : Type 0} (goes : Bool) (a : A) (o : Option A) → goes ≡ true → cond goes (Some a) None ≡ o → Some a ≡ o
next_is true a o h e = e
next_is false a o h e = absurd cc

pub none_is : {A : Type 0} (goes : Bool) (a : A) (o : Option A) → goes ≡ false → cond goes (Some a) None ≡ o → None ≡ o
none_is true a o h e = absurd cc
none_is false a o h e = e

pub stayed : (goes : Bool) (P : Type 0) → goes ≡ false → IsTrue goes ⊎ P → P
stayed true P h s = absurd cc
stayed false P h (inl t) = absurd cc
stayed false P h (inr p) = p
