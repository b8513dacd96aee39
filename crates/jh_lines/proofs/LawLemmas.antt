-- Lines joined again are the bytes; what was told before something was heard.
use Rattle.std.proofs.Common.{◌≡◌, ◌≢◌, ℕ, ◌==◌, true, false, cond, List, [], ◌∷◌, ◌++◌, refl, sym, ap, ◌∙◌, subst}
use Rattle.std.proofs.Common.{append_assoc, append-nil, arith}
use Rattle.std.specs.List.{flat_map}
use Rattle.jh_lines.specs.Lines.{lines_from, rest_from}
use Rattle.jh_lines.specs.Events.{TalkEvent, Told, Heard, Ended, TellFailed, ListenFailed, told_in, IsPrompt}
use Rattle.jh_lines.specs.Laws.{HasNoFeed, with_feed, AreLinesOf}

one_more : (line : List ℕ) (byte : ℕ) → HasNoFeed line → byte ≢ 10 → HasNoFeed (line ++ byte ∷ [])
one_more [] byte all h = (h, tt)
one_more (x ∷ line) byte (first, rest) h = (first, one_more line byte rest h)

with_line : (line : List ℕ) (byte : ℕ) (bytes : List ℕ) → HasNoFeed line → byte ≡ 10
    → AreLinesOf (lines_from [] bytes) (rest_from [] bytes) bytes
    → AreLinesOf (line ∷ lines_from [] bytes) (rest_from [] bytes) (line ++ byte ∷ bytes)
with_line line byte bytes one is h = record {
  joined = ap (λ l. l ++ rest_from [] bytes) (append_assoc line (10 ∷ []) (flat_map with_feed (lines_from [] bytes)))
      ∙ append_assoc line (10 ∷ flat_map with_feed (lines_from [] bytes)) (rest_from [] bytes)
      ∙ ap (λ l. line ++ 10 ∷ l) h.joined ∙ ap (λ b. line ++ b ∷ bytes) (sym is);
  each = (one, h.each);
  last = h.last;
}

with_byte : (line : List ℕ) (byte : ℕ) (bytes : List ℕ) (lines : List (List ℕ)) (rest : List ℕ)
    → AreLinesOf lines rest ((line ++ byte ∷ []) ++ bytes) → AreLinesOf lines rest (line ++ byte ∷ bytes)
with_byte line byte bytes lines rest h = subst (AreLinesOf lines rest) (append_assoc line (byte ∷ []) bytes) h

-- where `line` has come of a line
pub joined_from : (line bytes : List ℕ) → HasNoFeed line
    → AreLinesOf (lines_from line bytes) (rest_from line bytes) (line ++ bytes)
joined_from line [] one = record { joined = sym (append-nil line); each = tt; last = one }
joined_from line (byte ∷ bytes) one =
    (elim (byte == 10) as (λ b. ((byte == 10) ≡ b)
    → AreLinesOf (cond b (line ∷ lines_from [] bytes) (lines_from (line ++ byte ∷ []) bytes))
    (cond b (rest_from [] bytes) (rest_from (line ++ byte ∷ []) bytes)) (line ++ byte ∷ bytes)) [
      | true ↦ λ is. with_line line byte bytes one (grind (arith, is)) (joined_from [] bytes tt)
      | false ↦ λ isnt. with_byte line byte bytes _ _
          (joined_from (line ++ byte ∷ []) bytes (one_more line byte one (λ e. grind (arith, isnt, e))))
    ]) refl

pub told_first : (due : List TalkEvent → List ℕ) (later earlier : List TalkEvent) (bytes : List ℕ)
    → IsPrompt due (later ++ Heard bytes ∷ earlier) → told_in earlier ≡ due earlier
told_first due [] earlier bytes h = h.0
told_first due (Told more ∷ later) earlier bytes h = told_first due later earlier bytes h.1
told_first due (Heard more ∷ later) earlier bytes h = told_first due later earlier bytes h.1
told_first due (Ended ∷ later) earlier bytes h = told_first due later earlier bytes h.1
told_first due (TellFailed more error ∷ later) earlier bytes h = told_first due later earlier bytes h.1
told_first due (ListenFailed error ∷ later) earlier bytes h = told_first due later earlier bytes h.1
