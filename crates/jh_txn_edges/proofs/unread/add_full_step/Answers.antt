use Rattle.std.proofs.Common.{◌<◌, length, get_or, sym, ◌∙◌, arith}
use Rattle.std.proofs.lemmas.Bool.{false≢true}
use Rattle.std.proofs.lemmas.Option.{slice_get-get_or}
use Rattle.jh_txn_edges.specs.MiddleSteps.{IsFullStep}
use Rattle.jh_txn_edges.proofs.MiddleStepLemmas.{full_added}
use Rattle.jh_txn_seen.proofs.MiddleLemmas.{no_middle}
use Rattle.jh_txn_edges.proofs.StepLemmas.{adds_none, on_ok_then}
use Rattle.jh_txn_edges.proofs.unread.add_full_step.Goals as goal

pub add_other-requires : goal.add_other-requires
add_other-requires c =
    let key = c.args.read.now.key in
    let low : key < length c.args.middles.now = omega (arith, c.requires.key, c.requires.longest) in
    c.requires.nodes key (get_or c.args.middles.now key no_middle) (slice_get-get_or c.args.middles.now key no_middle low)

pub returns-then-is_full : goal.returns-then-is_full
returns-then-is_full c =
    let middles = c.args.middles.now in
    let read = c.args.read.now in
    let low : read.key < length middles = omega (arith, c.requires.key, c.requires.longest) in
    let middle = get_or middles read.key no_middle in
    on_ok_then c.add_other.result _ _ (full_added c.args.longest.now middles read middle c.args.graph.now c.add_other.new.graph (c.is_full.ensures.0 c.if-is_full.true) (slice_get-get_or middles read.key no_middle low)) c.add_other.ensures

pub returns-else-is_full : goal.returns-else-is_full
returns-else-is_full c = adds_none (IsFullStep c.args.longest.now c.args.middles.now c.args.read.now) c.args.graph.now (λ p w t h. false≢true (sym c.if-is_full.false ∙ c.is_full.ensures.1 h.1))
