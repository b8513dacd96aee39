use Rattle.std.proofs.Common.{All, take, get_or, subst, sym, refl}
use Rattle.std.proofs.lemmas.List.{take_all, take_more}
use Rattle.std.proofs.lemmas.List.Elements.{All-push}
use Rattle.jh_test_settings_texts.specs.WritableEntries.{IsWritableTestEntry}
use Rattle.jh_test_settings_texts.proofs.writable.are_writable.Goals as goal

pub loop-entry-preserved : goal.loop-entry-preserved
loop-entry-preserved c =
    let xs = c.args.entries.now in
    let i = c.loop-entry.entry-index in
    let x = c.entry-item.result in
    let here : IsWritableTestEntry (get_or xs i x) = subst IsWritableTestEntry c.entry-item.is (c.is_writable.ensures.0 c.if-not-is_writable.false) in
    subst (All IsWritableTestEntry) (sym (take_more xs i x c.loop-entry-test.true)) (All-push IsWritableTestEntry (take i xs) (get_or xs i x) c.loop-entry.invariant here)

pub returns : goal.returns
returns c =
    (λ _. subst (All IsWritableTestEntry) (take_all c.loop-entry.entry-index c.args.entries.now c.loop-entry-test.false) c.loop-entry.invariant, λ _. refl)
