use Rattle.std.proofs.Common.{true, ◌∙◌}
use Rattle.jh_cli.proofs.HistoryInputLemmas.{refused_for}
use Rattle.jh_cli.proofs.history_input.read_without_unread.Goals as goal

pub returns-in-Ok-clause-refused : goal.returns-in-Ok-clause-refused
returns-in-Ok-clause-refused g c =
    refused_for c.history_without_unread.result true (g.R.Read.remaining c.args.reader.now) c.in-Ok.text.now c.in_ok-input.input.items
    (c.in-Ok.ensures.cases.0 ∙ c.deref.ensures.value) c.in_ok-input.ensures.bytes c.history_without_unread.ensures.refused
