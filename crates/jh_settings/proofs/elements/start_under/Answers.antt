use Rattle.toml.specs.View.{table_view}
use Rattle.jh_edn.specs.View.{view}
use Rattle.jh_settings.proofs.StartLemmas.{start_refused}
use Rattle.jh_settings.proofs.elements.start_under.Goals as goal

pub returns : goal.returns
returns c =
    rw c.start_error.ensures (start_refused (table_view c.args.table.now) (view c.in_ok-element.element) c.in_ok-element.ensures c.in-Err.error c.in-Err.ensures)
