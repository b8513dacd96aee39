use Rattle.std.proofs.Common.{All, length, take, get_or, subst, sym, ap, ◌∙◌}
use Rattle.std.proofs.lemmas.List.{take_more}
use Rattle.std.proofs.lemmas.List.Elements.{All-push}
use Rattle.toml.specs.Data.{string}
use Rattle.jh_test_parts.specs.declared.parts.TestEntry.{TestEntry}
use Rattle.jh_laws.specs.StepLines.{IsStepOver}
use Rattle.jh_test_settings_texts.proofs.EntryLemmas.{text_pushed}
use Rattle.jh_test_settings_texts.proofs.table.entry_texts.Goals as goal

pub loop-entry-preserved : goal.loop-entry-preserved
loop-entry-preserved c =
    let names = c.args.nodes.now in
    let xs = c.args.entries.now in
    let i = c.loop-entry.entry-index in
    let x = c.entry-item.result in
    let P : TestEntry → Type 0 = λ entry. IsStepOver (length c.args.nodes.now) entry.step in
    let here : P (get_or xs i x) = subst P c.entry-item.is c.in_ok-entry_text.ensures.over in
    let text = c.from.ensures ∙ ap string c.in_ok-entry_text.ensures.text in
    record {
      texts = rw c.in_ok-push.ensures.items (text_pushed names xs i x c.loop-entry.values.items c.from.result c.loop-entry-test.true c.entry-item.is c.loop-entry.invariant.texts text);
      over = subst (All P) (sym (take_more xs i x c.loop-entry-test.true)) (All-push P (take i xs) (get_or xs i x) c.loop-entry.invariant.over here);
    }
