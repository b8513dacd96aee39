use Rattle.std.proofs.Common.{◌∙◌, ap, sym}
use Rattle.std.specs.Prelude.{map, option_map}
use Rattle.std.proofs.lemmas.List.{map-append}
use Rattle.jh_edn.specs.View.{views}
use Rattle.jh_ops.specs.Operation.{operations}
use Rattle.jh_bands.specs.BandsInside.{view_asked}
use Rattle.jh_bands.specs.Lines.{lines_in, view_line}
use Rattle.jh_bands.proofs.LineLemmas.{along_client, along_line}
use Rattle.jh_bands.proofs.lines.lines_of.Goals as goal

pub loop-index-preserved-then-is_client : goal.loop-index-preserved-then-is_client
loop-index-preserved-then-is_client c =
    let l = c.loop-index in
    let steps = views c.args.steps.now in
    along_client l.lines.items steps (option_map view_asked l.waiting) c.args.history.now l.index c.index-history-index.result (lines_in steps (operations c.args.history.now)) c.loop-index-test.true
    c.index-history-index.is (sym c.is_client.ensures ∙ c.if-is_client.true) l.invariant

pub loop-index-preserved : goal.loop-index-preserved
loop-index-preserved c =
    let l = c.loop-index in
    let steps = views c.args.steps.now in
    along_line l.lines.items c.push.new.self.items steps (option_map view_asked l.waiting) (option_map view_asked c.asked_in-waiting.result) c.args.history.now l.index c.index-history-index.result
    c.in_ok-label.label.items (lines_in steps (operations c.args.history.now)) c.loop-index-test.true c.index-history-index.is (sym c.is_client.ensures ∙ c.if-is_client.false) c.in_ok-label.ensures
    c.asked_in-waiting.ensures (ap (map view_line) c.in_ok-push.ensures.items ∙ map-append view_line l.lines.items _) l.invariant
