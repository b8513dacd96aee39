use Rattle.std.proofs.Common.{◌≡◌, subst, arith, inl, inr}
use Rattle.std.proofs.lemmas.Bool.{cases_lt}
use Rattle.std.proofs.lemmas.Option.{MatchOption-at_none}
use Rattle.jh_txn.proofs.OrderCheckLemmas.{done_below}
use Rattle.jh_txn_reads.specs.Inside.{IsSoundTxn}
use Rattle.jh_txn_reads.proofs.SoundLemmas.{none_bad}
use Rattle.jh_txn_reads.proofs.ViewLemmas.{sound_if_not_done}
use Rattle.jh_txn_reads.proofs.find.judge_all.Goals as goal

pub loop-place-preserved : goal.loop-place-preserved
loop-place-preserved c =
    let txns = c.args.txns.now in
    let place = c.loop-place.place in
    let here : IsSoundTxn txns place = MatchOption-at_none _ _ c.in_default.is c.in_ok-bad.ensures.judged in
    record {
      sound = λ p low. elim (cases_lt p place) as (λ _. IsSoundTxn txns p) [
        | inl lt ↦ c.loop-place.invariant.sound p lt
        | inr ge ↦ let same : place ≡ p = omega (arith, low, ge) in subst (IsSoundTxn txns) same here
      ];
      empty = c.in_ok-bad.ensures.empty c.in_default.is;
      clear = c.in_ok-bad.ensures.clear c.in_default.is;
    }

pub returns : goal.returns
returns c =
    let txns = c.args.txns.now in
    none_bad txns c.requires.numbered.once (λ place. elim (cases_lt place c.loop-place.place) as (λ _. IsSoundTxn txns place) [
      | inl lt ↦ c.loop-place.invariant.sound place lt
      | inr ge ↦ sound_if_not_done txns place (λ done. absurd (omega (arith, ge, done_below txns place done)))
    ])
