-- A text in which no token is refused stays as it is.
use Rattle.std.proofs.Common.{◌≡◌, ℕ, zero, suc, ◌+◌, Bool, true, false, cond, eqb, List, [], ◌∷◌, ◌++◌, length, take, drop, Option, Some, None, refl, subst, ap, ◌∙◌, sym}
use Rattle.std.specs.Prelude.{not, ◌&&◌, option_map}
use Rattle.std.specs.List.{list_all}
use Rattle.std.proofs.lemmas.List.{take-append-drop, append_assoc}
use Rattle.jh_lexemes.specs.declared.lexeme.Lexeme.{Lexeme}
use Rattle.jh_lexemes.specs.declared.lexeme.Lexeme.TheVariants as kinds
use Rattle.jh_lexemes.specs.Lexemes.{Lexed, lexeme_of, lexemes_on, lexemes_from}
use Rattle.jh_unread.specs.declared.parts.Found.{Found}
use Rattle.jh_unread.specs.declared.parts.Found.TheVariants.{Nothing, Refused, Faulty}
use Rattle.jh_unread.specs.declared.parts.Opened.{Opened}
use Rattle.jh_unread.specs.declared.parts.Opened.TheVariants as opened
use Rattle.jh_unread.specs.declared.parts.Part.{Part}
use Rattle.jh_unread.specs.declared.parts.Part.TheVariants.{Gap, Prefix, Opens, Closes, Whole, Broken}
use Rattle.jh_unread.specs.declared.pairs.Stage.{Stage}
use Rattle.jh_unread.specs.declared.pairs.Stage.TheVariants.{Key, ReadValue, OtherValue}
use Rattle.jh_unread.specs.declared.pairs.Entry.{Entry}
use Rattle.jh_unread.specs.declared.pairs.OpenMap.{OpenMap}
use Rattle.jh_unread.specs.declared.pairs.Followed.{Followed}
use Rattle.jh_unread.specs.Nesting.{follow}
use Rattle.jh_unread.specs.Pairs.{worse, found_in, begins_element, pair_from, pair_on, pair_after, ends_part, pair_at, pair_ended, pair_left, operation_behind, operation_if, unread_if, unread_pair, unread_by}
use Rattle.jh_unread.specs.Parts.{part_of, token_part, character_part, is_refused, begins_joined}
use Rattle.jh_unread.specs.Unread.{Walk, walk_start, blanked, operation_and_text, step_to, walk_with, finished, on_or_finished, walked, without_unread, is_token, HasNoRefused}

-- no refused token was found
abbrev is_clean : Found → Bool
is_clean Nothing = true
is_clean Refused = false
is_clean Faulty = true

abbrev CleanPair : Option Entry → Type 0
CleanPair (Some pair) = is_clean pair.found ≡ true
CleanPair None = Unit {0}

abbrev CleanOperation : Option OpenMap → Type 0
CleanOperation (Some operation) = CleanPair operation.pair
CleanOperation None = Unit {0}

abbrev kept_lexeme : Lexed → Bool
kept_lexeme l = not (is_token l.kind && is_refused l.spelled)

worse_clean : (a b : Found) → is_clean a ≡ true → is_clean b ≡ true → is_clean (worse a b) ≡ true
worse_clean Nothing b h k = k
worse_clean Refused b h k = absurd cc
worse_clean Faulty b h k = refl

token_clean : (r j : Bool) → not r ≡ true → is_clean (found_in (token_part r j)) ≡ true
token_clean true j h = absurd cc
token_clean false true h = refl
token_clean false false h = refl

character_clean : (r : Bool) → is_clean (found_in (character_part r)) ≡ true
character_clean true = refl
character_clean false = refl

part_clean : (kind : Lexeme) (spelled behind : List ℕ) → not (is_token kind && is_refused spelled) ≡ true → is_clean (found_in (part_of kind spelled behind)) ≡ true
part_clean kinds.White s r h = refl
part_clean kinds.Comment s r h = refl
part_clean kinds.Text s r h = refl
part_clean kinds.BadText s r h = refl
part_clean kinds.OpenText s r h = refl
part_clean kinds.Character s r h = character_clean (is_refused s)
part_clean kinds.Discard s r h = refl
part_clean kinds.Tag s r h = refl
part_clean (kinds.Open bracket) s r h = refl
part_clean kinds.OpenSet s r h = refl
part_clean (kinds.Close bracket) s r h = refl
part_clean kinds.Token s r h = token_clean (is_refused s) (begins_joined r) h

from_clean : (b : Bool) (step : Followed) → is_clean (found_in step.part) ≡ true → CleanPair (pair_from b step)
from_clean true step k = k
from_clean false step k = tt

on_clean : (o : Option Entry) (operation : OpenMap) (step : Followed) → CleanPair o → is_clean (found_in step.part) ≡ true → CleanPair (pair_on o operation step)
on_clean (Some pair) operation step h k = worse_clean pair.found (found_in step.part) h k
on_clean None operation step h k = from_clean ((eqb step.before operation.depth) && begins_element step.part) step k

at_clean : (stage : Stage) (out : List ℕ) (pair : Entry) → is_clean pair.found ≡ true → CleanPair (pair_at stage out pair)
at_clean Key out pair h = h
at_clean ReadValue out pair h = tt
at_clean OtherValue out pair h = tt

ended_clean : (out : List ℕ) (o : Option Entry) → CleanPair o → CleanPair (pair_ended out o)
ended_clean out (Some pair) h = at_clean pair.stage out pair h
ended_clean out None h = tt

left_clean : (b : Bool) (x y : Option Entry) → CleanPair x → CleanPair y → CleanPair (cond b x y)
left_clean true x y h k = h
left_clean false x y h k = k

behind_clean : (b : Bool) (operation : OpenMap) → CleanPair operation.pair → CleanOperation (cond b None (Some operation))
behind_clean true operation h = tt
behind_clean false operation h = h

operation_clean : (out : List ℕ) (operation : OpenMap) (step : Followed) → CleanPair operation.pair → is_clean (found_in step.part) ≡ true → CleanOperation (operation_behind out operation step)
operation_clean out operation step h k =
    let with = on_clean operation.pair operation step h k in
    behind_clean _ (record { start = operation.start; depth = operation.depth; pair = pair_left out operation step })
    (left_clean (ends_part operation step) (pair_ended out (pair_after operation step)) (pair_after operation step) (ended_clean out (pair_after operation step) with) with)

unread_if_clean : (stage : Stage) (found : Found) (place : ℕ) → is_clean found ≡ true → unread_if stage found place ≡ None
unread_if_clean Key found place h = refl
unread_if_clean ReadValue found place h = refl
unread_if_clean OtherValue Nothing place h = refl
unread_if_clean OtherValue Refused place h = absurd cc
unread_if_clean OtherValue Faulty place h = refl

unread_pair_clean : (o : Option Entry) → CleanPair o → unread_pair o ≡ None
unread_pair_clean (Some pair) h = unread_if_clean pair.stage pair.found pair.start h
unread_pair_clean None h = refl

none_either_way : (b : Bool) (o : Option ℕ) → o ≡ None → cond b o None ≡ None
none_either_way true o h = h
none_either_way false o h = refl

unread_clean : (operation : OpenMap) (step : Followed) → CleanPair operation.pair → is_clean (found_in step.part) ≡ true → unread_by operation step ≡ None
unread_clean operation step h k =
    none_either_way (ends_part operation step) (unread_pair (pair_after operation step)) (unread_pair_clean (pair_after operation step) (on_clean operation.pair operation step h k))

if_clean : (part : Part) (is_top : Bool) (step : Followed) → CleanOperation (operation_if part is_top step)
if_clean Gap is_top step = tt
if_clean (Prefix found) is_top step = tt
if_clean (Opens opened.Round) is_top step = tt
if_clean (Opens opened.Square) is_top step = tt
if_clean (Opens opened.Curly) true step = tt
if_clean (Opens opened.Curly) false step = tt
if_clean (Opens opened.Set) is_top step = tt
if_clean (Opens opened.Discard) is_top step = tt
if_clean (Closes bracket) is_top step = tt
if_clean (Whole found) is_top step = tt
if_clean Broken is_top step = tt

step_clean : (o : Option OpenMap) (out : List ℕ) (step : Followed) → CleanOperation o → is_clean (found_in step.part) ≡ true
    → CleanOperation (operation_and_text o out step).0 × ((operation_and_text o out step).1 ≡ out)
step_clean None out step h k = (if_clean step.part step.is_top step, refl)
step_clean (Some operation) out step h k =
    (operation_clean out operation step h k, ap (λ (o : Option ℕ). blanked o out) (unread_clean operation step h k))

take_rest : (n : ℕ) (out s : List ℕ) → take n out ++ drop (length (take n out)) (out ++ s) ≡ out ++ s
take_rest zero out s = refl
take_rest (suc n) [] s = refl
take_rest (suc n) (c ∷ out) s = ap (λ (t : List ℕ). c ∷ t) (take_rest n out s)

out_rest : (out s : List ℕ) → out ++ drop (length out) (out ++ s) ≡ out ++ s
out_rest [] s = refl
out_rest (c ∷ out) s = ap (λ (t : List ℕ). c ∷ t) (out_rest out s)

finished_same : (o : Option OpenMap) (out s : List ℕ) → finished (out ++ s) o out ≡ out ++ s
finished_same (Some operation) out s = take_rest operation.start out s
finished_same None out s = out_rest out s

abbrev WalkedSame : ℕ → Type 0
WalkedSame n = (at : ℕ) (s text : List ℕ) (walk : Walk) → CleanOperation walk.operation → text ≡ walk.out ++ s → list_all kept_lexeme (lexemes_from n at s) ≡ true
    → walked text (lexemes_from n at s) walk ≡ text

finish_same : (walk : Walk) (s text : List ℕ) → text ≡ walk.out ++ s → finished text walk.operation walk.out ≡ text
finish_same walk s text e =
    subst (λ (t : List ℕ). finished t walk.operation walk.out ≡ t) (sym e) (finished_same walk.operation walk.out s)

same_on : (n : ℕ) → WalkedSame n → (at : ℕ) (spelled behind text : List ℕ) (walk : Walk) (part : Part) (nest : Option (List Opened × Bool)) → CleanOperation walk.operation
    → is_clean (found_in part) ≡ true → text ≡ walk.out ++ (spelled ++ behind) → list_all kept_lexeme (lexemes_from n at behind) ≡ true
    → on_or_finished text walk (walked text (lexemes_from n at behind)) (option_map (λ after. walk_with after.0 (operation_and_text walk.operation (walk.out ++ spelled) (step_to walk part after))) nest) ≡ text
same_on n more at spelled behind text walk part None h k e all = finish_same walk (spelled ++ behind) text e
same_on n more at spelled behind text walk part (Some after) h k e all =
    let p = step_clean walk.operation (walk.out ++ spelled) (step_to walk part after) h k in
    let next = walk_with after.0 (operation_and_text walk.operation (walk.out ++ spelled) (step_to walk part after)) in
    let here : text ≡ (walk.out ++ spelled) ++ behind = e ∙ sym (append_assoc walk.out spelled behind) in
    let there : text ≡ next.out ++ behind = here ∙ ap (λ (t : List ℕ). t ++ behind) (sym p.1) in
    more at behind text next p.0 there all

both_true : (a b : Bool) → (a && b) ≡ true → (a ≡ true) × (b ≡ true)
both_true true b h = (refl, h)
both_true false b h = absurd cc

same_lexeme : (n : ℕ) → WalkedSame n → (at : ℕ) (s text : List ℕ) (walk : Walk) (o : Option (Lexeme × ℕ)) → CleanOperation walk.operation → text ≡ walk.out ++ s
    → list_all kept_lexeme (lexemes_on (lexemes_from n) at s o) ≡ true → walked text (lexemes_on (lexemes_from n) at s o) walk ≡ text
same_lexeme n more at s text walk None h e all = finish_same walk s text e
same_lexeme n more at s text walk (Some l) h e all =
    let part = part_of l.0 (take l.1 s) (drop l.1 s) in
    let both = both_true _ _ all in
    let here : text ≡ walk.out ++ (take l.1 s ++ drop l.1 s) = e ∙ ap (λ (t : List ℕ). walk.out ++ t) (sym (take-append-drop l.1 s)) in
    same_on n more (at + l.1) (take l.1 s) (drop l.1 s) text walk part (follow walk.nest part) h (part_clean l.0 (take l.1 s) (drop l.1 s) both.0) here both.1

same_walked : (n : ℕ) → WalkedSame n
unfolding lexemes_from
same_walked zero at s text walk h e all = finish_same walk s text e
same_walked (suc n) at s text walk h e all = same_lexeme n (same_walked n) at s text walk (lexeme_of s) h e all

-- the whole text
pub same_without : (text : List ℕ) → HasNoRefused text → without_unread text ≡ text
same_without text h = same_walked (length text) 0 text text walk_start tt refl h
