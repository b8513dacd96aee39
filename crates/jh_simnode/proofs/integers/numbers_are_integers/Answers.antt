use Rattle.std.proofs.Common.{ℤ, pos, rules, All, FitsSigned, take, get_or, subst, sym, w64}
use Rattle.std.proofs.lemmas.List.{take_all, take_more}
use Rattle.std.proofs.lemmas.List.Elements.{All-push}
use Rattle.jh_simnode.proofs.integers.numbers_are_integers.Goals as goal

pub loop-number-preserved : goal.loop-number-preserved
loop-number-preserved c =
    let P : ℤ → Type 0 = FitsSigned w64 in
    let xs = c.args.numbers.now in
    let i = c.loop-number.number-index in
    let here : P (get_or xs i (pos 0)) = search rules in
    subst (All P) (sym (take_more xs i (pos 0) c.loop-number-test.true)) (All-push P (take i xs) (get_or xs i (pos 0)) c.loop-number.invariant here)

pub returns : goal.returns
returns c = subst (All (FitsSigned w64)) (take_all c.loop-number.number-index c.args.numbers.now c.loop-number-test.false) c.loop-number.invariant
