use Rattle.std.proofs.Common.{All, length, take, get_or, subst, sym, refl}
use Rattle.std.proofs.lemmas.List.{take_all, take_more}
use Rattle.std.proofs.lemmas.List.Elements.{All-push}
use Rattle.jh_nemesis.specs.Steps.{FitsNodes}
use Rattle.jh_test_parts.specs.declared.parts.TestEntry.{TestEntry}
use Rattle.jh_test_parts.proofs.test.all_fit.Goals as goal

pub loop-entry-preserved : goal.loop-entry-preserved
loop-entry-preserved c =
    let P : TestEntry → Type 0 = λ entry. FitsNodes (length c.args.environment.now.names) entry.step in
    let xs = c.args.schedule.now in
    let i = c.loop-entry.entry-index in
    let x = c.entry-item.result in
    let here : P (get_or xs i x) = subst P c.entry-item.is (c.fits.ensures.0 c.if-not-fits.false) in
    subst (All P) (sym (take_more xs i x c.loop-entry-test.true)) (All-push P (take i xs) (get_or xs i x) c.loop-entry.invariant here)

pub returns : goal.returns
returns c =
    let P : TestEntry → Type 0 = λ entry. FitsNodes (length c.args.environment.now.names) entry.step in
    (λ _. subst (All P) (take_all c.loop-entry.entry-index c.args.schedule.now c.loop-entry-test.false) c.loop-entry.invariant, λ _. refl)
