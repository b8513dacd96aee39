use Rattle.std.proofs.Common.{sym, ◌∙◌}
use Rattle.std.proofs.lemmas.Bool.Decides.{Decides-eqb}
use Rattle.std.proofs.lemmas.Option.{MatchOption-at_none, MatchOption-at_some}
use Rattle.std.proofs.lemmas.Slice.Eq.{strip_suffix_is}
use Rattle.jh_txn_reads.specs.Inside.{is_known_for, list_for}
use Rattle.jh_txn_reads.proofs.ReadLemmas.{sound_base, wrong_base, wrong_end}
use Rattle.jh_txn_reads.proofs.ops.judge_read.Goals as goal

pub returns-in_default-clause-judged : goal.returns-in_default-clause-judged
returns-in_default-clause-judged c =
    let view = c.args.view.now in
    let place = c.args.place in
    let own = c.as_slice-2.result.now in
    wrong_end c.args.txns.now place c.args.key (is_known_for view place) own (list_for view place) c.args.seen.now (sym c.turn_to.ensures.known ∙ c.if-view.false) (c.as_slice-2.ensures.value ∙ c.turn_to.ensures.list)
    (MatchOption-at_none _ _ c.in_default.is (strip_suffix_is Decides-eqb c.args.seen.now own c.strip_suffix.result c.strip_suffix.ensures.cases))

pub returns-in-Some-judge_base-clause-judged : goal.returns-in-Some-judge_base-clause-judged
returns-in-Some-judge_base-clause-judged c =
    let view = c.args.view.now in
    let place = c.args.place in
    let own = c.as_slice-2.result.now in
    let cut = MatchOption-at_some _ _ _ c.in-Some.is (strip_suffix_is Decides-eqb c.args.seen.now own c.strip_suffix.result c.strip_suffix.ensures.cases) in
    wrong_base c.args.txns.now place c.args.key (is_known_for view place) own (list_for view place) c.args.seen.now (sym c.turn_to.ensures.known ∙ c.if-view.false) (c.as_slice-2.ensures.value ∙ c.turn_to.ensures.list)
    c.in-Some.base.now cut c.in-Some-judge_base.kind c.in-Some-judge_base.ensures.judged

pub returns-clause-judged : goal.returns-clause-judged
returns-clause-judged c =
    let view = c.args.view.now in
    let place = c.args.place in
    let own = c.as_slice-2.result.now in
    let cut = MatchOption-at_some _ _ _ c.in-Some.is (strip_suffix_is Decides-eqb c.args.seen.now own c.strip_suffix.result c.strip_suffix.ensures.cases) in
    sound_base c.args.txns.now place c.args.key (is_known_for view place) own (list_for view place) c.args.seen.now (sym c.turn_to.ensures.known ∙ c.if-view.false) (c.as_slice-2.ensures.value ∙ c.turn_to.ensures.list)
    c.in-Some.base.now cut c.in_default-judge_base.ensures.judged
