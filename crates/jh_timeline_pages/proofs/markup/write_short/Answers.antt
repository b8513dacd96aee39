use Rattle.std.proofs.Common.{◌≡◌, ◌∙◌, ◌<◌, ◌≤◌, ℕ, if◌then◌else◌, true, false, nat_lt, length, take, List, [], ◌∷◌, ◌++◌, codes, map, sym, subst, refl, ap, arith}
use Rattle.std.proofs.lemmas.Bool.Decides.{nat_tests}
use Rattle.std.proofs.lemmas.Iterator.{YieldsList-from_chars}
use Rattle.std.proofs.lemmas.Iterator.Consumers.{YieldsList-end, YieldsList-so_far, YieldsList-turn}
use Rattle.std.proofs.lemmas.Result.{on_ok_weaker}
use Rattle.std.specs.Io.KnownBytes.{Appends}
use Rattle.std.specs.List.{flat_map}
use Rattle.jh_edn.proofs.CitedLemmas.{appends_then}
use Rattle.jh_timeline_pages.specs.Markup.{short_text, escaped_character, label_room}
use Rattle.jh_timeline_pages.proofs.markup.write_short.Goals as goal

map_itself : {X : Type 0} (xs : List X) → map (λ x. x) xs ≡ xs
map_itself [] = refl
map_itself (x ∷ xs) = ap (λ ys. x ∷ ys) (map_itself xs)

short_long : (cs ys : List ℕ) → length ys ≡ label_room → ys ≡ take (length ys) cs → length ys < length cs → short_text cs ≡ flat_map escaped_character ys ++ codes "&#8230;"
short_long cs ys count begins longer =
    let more : nat_lt label_room (length cs) ≡ true = grind (arith, nat_tests) in
    let same : take label_room cs ≡ ys = ap (λ n. take n cs) (sym count) ∙ sym begins in
    ap (λ b. if b then flat_map escaped_character (take label_room cs) ++ codes "&#8230;" else flat_map escaped_character cs) more ∙ ap (λ ys. flat_map escaped_character ys ++ codes "&#8230;") same

short_whole : (cs ys : List ℕ) → length ys ≤ label_room → ys ≡ cs → short_text cs ≡ flat_map escaped_character ys
short_whole cs ys few all =
    let count : length ys ≡ length cs = ap length all in
    let fits : nat_lt label_room (length cs) ≡ false = grind (arith, nat_tests) in
    ap (λ b. if b then flat_map escaped_character (take label_room cs) ++ codes "&#8230;" else flat_map escaped_character cs) fits ∙ ap (flat_map escaped_character) (sym all)

pub returns-then-written-eq-LABEL_ROOM : goal.returns-then-written-eq-LABEL_ROOM
returns-then-written-eq-LABEL_ROOM g c =
    let contents = g.W.Write.contents in
    let ys = c.loop-character.yielded in
    let road = YieldsList-from_chars c.args.text.now c.utf8.text cc in
    let begins = sym (map_itself ys) ∙ YieldsList-so_far road ys _ c.loop-character.yielded_by in
    let turn = YieldsList-turn road ys _ c.loop-character.yielded_by _ _ c.in-Some.character c.in-Some.is c.next.ensures.steps in
    let count = sym c.loop-character.invariant.0 ∙ c.if-written-eq-LABEL_ROOM.true in
    on_ok_weaker c.put.result (λ end. subst (Appends (contents c.args.writer.now) (contents c.put.new.writer)) (sym (short_long _ ys count begins turn.0))
    (appends_then (contents c.args.writer.now) (contents c.loop-character.writer) (contents c.put.new.writer) _ _ c.loop-character.invariant.2 end)) c.put.ensures.bytes

pub returns : goal.returns
returns g c =
    let contents = g.W.Write.contents in
    let ys = c.loop-character.yielded in
    let all = YieldsList-end (YieldsList-from_chars c.args.text.now c.utf8.text cc) ys _ c.loop-character.yielded_by _ _ c.in-None.is c.next.ensures.steps in
    subst (Appends (contents c.args.writer.now) (contents c.loop-character.writer)) (sym (short_whole _ ys c.loop-character.invariant.1 (sym (map_itself ys) ∙ all.0))) c.loop-character.invariant.2
