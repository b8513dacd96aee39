-- Each byte behind a walk is as it was, or a space where there was no line feed.
use Rattle.std.proofs.Common.{◌≡◌, ℕ, zero, suc, ◌+◌, Bool, List, [], ◌∷◌, ◌++◌, length, map, take, drop, Option, Some, None, inl, refl, subst, ap, arith}
use Rattle.std.specs.Prelude.{◌≢◌}
use Rattle.std.specs.List.{AllZip}
use Rattle.std.proofs.lemmas.List.{take-append-drop, append_assoc}
use Rattle.std.proofs.lemmas.Grind.{common_steps}
use Rattle.jh_lexemes.specs.declared.lexeme.Lexeme.{Lexeme}
use Rattle.jh_lexemes.specs.Lexemes.{lexeme_of, lexemes_on, lexemes_from}
use Rattle.jh_unread.specs.declared.parts.Opened.{Opened}
use Rattle.jh_unread.specs.declared.parts.Part.{Part}
use Rattle.jh_unread.specs.declared.pairs.OpenMap.{OpenMap}
use Rattle.jh_unread.specs.declared.pairs.Followed.{Followed}
use Rattle.jh_unread.specs.Blanks.{blank, blank_behind, IsOwnOrBlank, AreOwnOrBlank}
use Rattle.jh_unread.specs.Nesting.{follow}
use Rattle.jh_unread.specs.Pairs.{unread_by}
use Rattle.jh_unread.specs.Parts.{part_of}
use Rattle.jh_unread.specs.Unread.{Walk, walk_start, blanked, operation_and_text, step_to, walk_with, walk_behind, finished, on_or_finished, walked, without_unread}

blank_own : (was is : ℕ) → IsOwnOrBlank was is → IsOwnOrBlank was (blank is)
blank_own was is h = grind (arith, common_steps)

pub own_all : (s : List ℕ) → AreOwnOrBlank s s
own_all [] = tt
own_all (c ∷ s) = (inl refl, own_all s)

own_append : (a b c d : List ℕ) → AreOwnOrBlank a b → AreOwnOrBlank c d → AreOwnOrBlank (a ++ c) (b ++ d)
own_append [] [] c d h k = k
own_append [] (y ∷ b) c d h k = absurd h
own_append (x ∷ a) [] c d h k = absurd h
own_append (x ∷ a) (y ∷ b) c d h k = (h.0, own_append a b c d h.1 k)

own_map : (a b : List ℕ) → AreOwnOrBlank a b → AreOwnOrBlank a (map blank b)
own_map [] [] h = tt
own_map [] (y ∷ b) h = absurd h
own_map (x ∷ a) [] h = absurd h
own_map (x ∷ a) (y ∷ b) h = (blank_own x y h.0, own_map a b h.1)

own_behind : (n : ℕ) (a b : List ℕ) → AreOwnOrBlank a b → AreOwnOrBlank a (blank_behind n b)
own_behind zero a b h = own_map a b h
own_behind (suc n) [] [] h = tt
own_behind (suc n) [] (y ∷ b) h = absurd h
own_behind (suc n) (x ∷ a) [] h = absurd h
own_behind (suc n) (x ∷ a) (y ∷ b) h = (h.0, own_behind n a b h.1)

own_blanked : (o : Option ℕ) (a b : List ℕ) → AreOwnOrBlank a b → AreOwnOrBlank a (blanked o b)
own_blanked (Some n) a b h = own_behind n a b h
own_blanked None a b h = h

-- what is left as it is
own_rest : (out done s : List ℕ) → AreOwnOrBlank done out → AreOwnOrBlank (done ++ s) (out ++ drop (length out) (done ++ s))
own_rest [] [] s h = own_all s
own_rest [] (x ∷ done) s h = absurd h
own_rest (y ∷ out) [] s h = absurd h
own_rest (y ∷ out) (x ∷ done) s h = (h.0, own_rest out done s h.1)

own_first : (n : ℕ) (out done s : List ℕ) → AreOwnOrBlank done out → AreOwnOrBlank (done ++ s) (take n out ++ drop (length (take n out)) (done ++ s))
own_first zero out done s h = own_all (done ++ s)
own_first (suc n) [] [] s h = own_all s
own_first (suc n) [] (x ∷ done) s h = absurd h
own_first (suc n) (y ∷ out) [] s h = absurd h
own_first (suc n) (y ∷ out) (x ∷ done) s h = (h.0, own_first n out done s h.1)

own_finished : (o : Option OpenMap) (out done s : List ℕ) → AreOwnOrBlank done out → AreOwnOrBlank (done ++ s) (finished (done ++ s) o out)
own_finished (Some operation) out done s h = own_first operation.start out done s h
own_finished None out done s h = own_rest out done s h

own_step : (o : Option OpenMap) (a out : List ℕ) (step : Followed) → AreOwnOrBlank a out → AreOwnOrBlank a (operation_and_text o out step).1
own_step None a out step h = h
own_step (Some operation) a out step h = own_blanked (unread_by operation step) a out h

abbrev WalkedOwn : ℕ → Type 0
WalkedOwn n = (at : ℕ) (s done : List ℕ) (walk : Walk) → AreOwnOrBlank done walk.out → AreOwnOrBlank (done ++ s) (walked (done ++ s) (lexemes_from n at s) walk)

-- on from a lexeme, by what is open behind it
own_on : (n : ℕ) → WalkedOwn n → (at : ℕ) (spelled behind done : List ℕ) (walk : Walk) (part : Part) (nest : Option (List Opened × Bool)) → AreOwnOrBlank done walk.out
    → AreOwnOrBlank (done ++ (spelled ++ behind)) (on_or_finished (done ++ (spelled ++ behind)) walk (walked (done ++ (spelled ++ behind)) (lexemes_from n at behind))
    (Rattle.std.specs.Prelude.option_map (λ after. walk_with after.0 (operation_and_text walk.operation (walk.out ++ spelled) (step_to walk part after))) nest))
own_on n more at spelled behind done walk part None h = own_finished walk.operation walk.out done (spelled ++ behind) h
own_on n more at spelled behind done walk part (Some after) h =
    let next = walk_with after.0 (operation_and_text walk.operation (walk.out ++ spelled) (step_to walk part after)) in
    let so_far = own_step walk.operation (done ++ spelled) (walk.out ++ spelled) (step_to walk part after) (own_append done walk.out spelled spelled h (own_all spelled)) in
    let all = more at behind (done ++ spelled) next so_far in
    subst (λ (t : List ℕ). AreOwnOrBlank t (walked t (lexemes_from n at behind) next)) (append_assoc done spelled behind) all

own_lexeme : (n : ℕ) → WalkedOwn n → (at : ℕ) (s done : List ℕ) (walk : Walk) (o : Option (Lexeme × ℕ)) → AreOwnOrBlank done walk.out
    → AreOwnOrBlank (done ++ s) (walked (done ++ s) (lexemes_on (lexemes_from n) at s o) walk)
own_lexeme n more at s done walk None h = own_finished walk.operation walk.out done s h
own_lexeme n more at s done walk (Some l) h =
    let part = part_of l.0 (take l.1 s) (drop l.1 s) in
    let both = own_on n more (at + l.1) (take l.1 s) (drop l.1 s) done walk part (follow walk.nest part) h in
    subst (λ (t : List ℕ). AreOwnOrBlank (done ++ t) (on_or_finished (done ++ t) walk (walked (done ++ t) (lexemes_from n (at + l.1) (drop l.1 s))) (walk_behind walk part (take l.1 s)))) (take-append-drop l.1 s) both

own_walked : (n : ℕ) → WalkedOwn n
unfolding lexemes_from
own_walked zero at s done walk h = own_finished walk.operation walk.out done s h
own_walked (suc n) at s done walk h = own_lexeme n (own_walked n) at s done walk (lexeme_of s) h

-- each byte of the whole text
pub own_without : (text : List ℕ) → AreOwnOrBlank text (without_unread text)
own_without text = own_walked (length text) 0 text [] walk_start tt

pub same_length : (a b : List ℕ) → AreOwnOrBlank a b → length b ≡ length a
same_length [] [] h = refl
same_length [] (y ∷ b) h = absurd h
same_length (x ∷ a) [] h = absurd h
same_length (x ∷ a) (y ∷ b) h = ap suc (same_length a b h.1)
