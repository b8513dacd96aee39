use Rattle.std.proofs.Common.{◌≡◌, length, sym, ap, ◌∙◌, arith, refl, Some}
use Rattle.std.specs.Prelude.{slice_get}
use Rattle.std.proofs.lemmas.List.{length-set}
use Rattle.std.proofs.lemmas.Option.{slice_get-get_or}
use Rattle.jh_grudge.specs.Grudges.{RingDrops}
use Rattle.jh_grudge.specs.Ranks.{DropsIn}
use Rattle.jh_grudge.specs.declared.ranks.Rule.TheVariants.{Ring}
use Rattle.jh_grudge.proofs.LinkLemmas.{given, given_among}
use Rattle.jh_grudge.proofs.RankLemmas.{IsRanking, StandsAt, is_placing_none, is_placing_more, is_placing_all, ring_there, ring_back}
use Rattle.jh_grudge.proofs.JoinLemmas.{ring_joins}
use Rattle.jh_grudge.proofs.grudges.majorities_ring.Goals as goal

pub loop-place-init : goal.loop-place-init
loop-place-init c = record { ranking = is_placing_none c.args.nodes.now 256; long = refl }

pub loop-place-preserved : goal.loop-place-preserved
loop-place-preserved c =
    let l = c.loop-place in
    let at : slice_get c.args.nodes.now l.place ≡ Some c.from.result = slice_get-get_or c.args.nodes.now l.place 0 c.loop-place-test.true ∙ ap Some (sym c.from.ensures) in record {
      ranking = is_placing_more c.args.nodes.now l.place c.from.result l.ranks c.requires at (omega (arith, c.type_inv.nodes l.place, l.invariant.long)) l.invariant.ranking;
      long = length-set l.ranks c.from.result (Some l.place) ∙ l.invariant.long;
    }

pub returns : goal.returns
returns c =
    let nodes = c.args.nodes.now in
    let ranks = c.loop-place.ranks in
    let ranking : IsRanking (StandsAt nodes) ranks = is_placing_all nodes c.loop-place.place ranks (omega arith) c.loop-place.invariant.ranking in
    let shown = given c.grudge_by.result (DropsIn (Ring (length nodes)) ranks) (RingDrops nodes) (ring_there nodes ranks ranking) (ring_back nodes ranks ranking) c.grudge_by.ensures.links in record {
      links = shown;
      ascending = c.grudge_by.ensures.ascending;
      among = given_among c.grudge_by.result (RingDrops nodes) nodes (ring_joins nodes c.requires) shown;
    }
