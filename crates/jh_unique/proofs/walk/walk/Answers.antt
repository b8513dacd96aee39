use Rattle.std.proofs.Common.{◌≡◌, ◌+◌, ◌-◌, ◌<◌, ◌++◌, ◌∷◌, [], length, sym, ap, subst, ◌∙◌, arith}
use Rattle.std.proofs.lemmas.List.{length-append}
use Rattle.jh_unique.specs.Walk.{HasComeTo}
use Rattle.jh_unique.specs.Steps.{IsClusterList}
use Rattle.jh_unique.specs.Tables.{reads_under}
use Rattle.jh_unique.proofs.WalkLemmas.{with_reads, with_cas, walked}
use Rattle.jh_unique.proofs.StepLemmas.{room, list_of_walked}
use Rattle.jh_unique.proofs.walk.walk.Goals as goal

pub returns-in_default : goal.returns-in_default
returns-in_default c =
    let ops = c.args.ops.now in
    let initial = c.args.initial in
    let once = c.requires.once in
    let cluster = c.args.cluster in
    let value = c.walking.value.int in
    let numbers = c.walking.numbers.items in
    let more = reads_under c.args.known.now.reads value in
    let is : c.extend_from_slice.new.self.items ≡ numbers ++ more = c.in_ok-extend_from_slice.ensures.items ∙ ap (λ xs. numbers ++ xs) c.reads_of.ensures in
    let have = with_reads ops initial once cluster value numbers more c.walking.invariant (c.requires.known.reads value) in
    subst (IsClusterList ops initial cluster) (sym is) (list_of_walked ops initial once cluster (numbers ++ more) (walked ops initial once cluster value (numbers ++ more) have (λ p must cas. c.in_default.ensures p (must, cas))))

pub walking-smaller : goal.walking-smaller
walking-smaller c =
    let ops = c.args.ops.now in
    let value = c.walking.value.int in
    let numbers = c.walking.numbers.items in
    let more = reads_under c.args.known.now.reads value in
    let is : c.extend_from_slice.new.self.items ≡ numbers ++ more = c.in_ok-extend_from_slice.ensures.items ∙ ap (λ xs. numbers ++ xs) c.reads_of.ensures in
    let have = with_reads ops c.args.initial c.requires.once c.args.cluster value numbers more c.walking.invariant (c.requires.known.reads value) in
    let one = c.in-Some.ensures {u = tt} in
    let low : length (numbers ++ more) < length ops = room ops c.args.initial c.requires.once c.args.cluster value (numbers ++ more) c.in-Some.next.number c.in-Some.next.new.int have one.0 one.1 in
    let pushed : c.push.new.self.items ≡ (numbers ++ more) ++ c.in-Some.next.number ∷ [] = c.in_ok-push.ensures.items ∙ ap (λ xs. xs ++ c.in-Some.next.number ∷ []) is in
    let long : length c.push.new.self.items ≡ length (numbers ++ more) + 1 = ap length pushed ∙ length-append (numbers ++ more) (c.in-Some.next.number ∷ []) in
    let wide : length (numbers ++ more) ≡ length numbers + length more = length-append numbers more in
    let goal' : length ops - length c.push.new.self.items < length ops - length numbers = omega (arith, low, long, wide) in
    goal'

pub walking-preserved : goal.walking-preserved
walking-preserved c =
    let ops = c.args.ops.now in
    let initial = c.args.initial in
    let once = c.requires.once in
    let cluster = c.args.cluster in
    let value = c.walking.value.int in
    let numbers = c.walking.numbers.items in
    let more = reads_under c.args.known.now.reads value in
    let is : c.extend_from_slice.new.self.items ≡ numbers ++ more = c.in_ok-extend_from_slice.ensures.items ∙ ap (λ xs. numbers ++ xs) c.reads_of.ensures in
    let have = with_reads ops initial once cluster value numbers more c.walking.invariant (c.requires.known.reads value) in
    let one = c.in-Some.ensures {u = tt} in
    let pushed : c.push.new.self.items ≡ (numbers ++ more) ++ c.in-Some.next.number ∷ [] = c.in_ok-push.ensures.items ∙ ap (λ xs. xs ++ c.in-Some.next.number ∷ []) is in
    subst (HasComeTo ops initial cluster c.in-Some.next.new.int) (sym pushed) (with_cas ops initial once cluster value c.in-Some.next.new.int (numbers ++ more) c.in-Some.next.number have one.0 one.1 (λ p must cas. one.2 p (must, cas)))
