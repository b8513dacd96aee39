use Rattle.std.proofs.Common.{◌≡◌, ℕ, ◌/◌, List, [], ◌∷◌, length, drop, replicate, None, sym, ap, subst, ◌∙◌}
use Rattle.std.specs.List.{Contains}
use Rattle.std.proofs.lemmas.List.{drop-drop}
use Rattle.jh_grudge.specs.Lists.{first_half}
use Rattle.jh_grudge.specs.Grudges.{IsIn, BridgeDrops, nodes_beyond_bridge}
use Rattle.jh_grudge.specs.Ranks.{DropsIn}
use Rattle.jh_grudge.specs.declared.ranks.Rule.TheVariants.{Apart}
use Rattle.jh_grudge.proofs.LinkLemmas.{given, given_among}
use Rattle.jh_grudge.proofs.RankLemmas.{IsRanking, is_ranking_none, sides_ranked, bridge_there_in, bridge_back_in}
use Rattle.jh_grudge.proofs.JoinLemmas.{bridge_joins}
use Rattle.jh_grudge.proofs.grudges.bridge.Goals as goal

pub returns : goal.returns
returns c =
    let nodes = c.args.nodes.now in
    let sides = first_half nodes ∷ nodes_beyond_bridge nodes ∷ [] in
    let ranks = c.rank_all-2.new.ranks in
    let first = c.bisect.ensures.first in
    let beyond : c.without_first.result.now ≡ nodes_beyond_bridge nodes =
    c.without_first.ensures ∙ ap (drop 1) c.bisect.ensures.second ∙ drop-drop 1 (length nodes / 2) nodes in
    let ranking : IsRanking (λ node rank. IsIn sides rank node) ranks = sides_ranked nodes (replicate 256 None) c.rank_all.new.ranks ranks c.requires (is_ranking_none sides 256)
    (λ node has. c.rank_all.ensures.ranked node (subst (λ (xs : List ℕ). Contains xs node) (sym first) has))
    (λ node lacks. c.rank_all.ensures.others node (subst (λ (xs : List ℕ). ¬ Contains xs node) (sym first) lacks))
    (λ node has. c.rank_all-2.ensures.ranked node (subst (λ (xs : List ℕ). Contains xs node) (sym beyond) has))
    (λ node lacks. c.rank_all-2.ensures.others node (subst (λ (xs : List ℕ). ¬ Contains xs node) (sym beyond) lacks)) in
    let shown = given c.grudge_by.result (DropsIn Apart ranks) (BridgeDrops nodes) (bridge_there_in nodes ranks ranking) (bridge_back_in nodes ranks ranking) c.grudge_by.ensures.links in record {
      links = shown;
      ascending = c.grudge_by.ensures.ascending;
      among = given_among c.grudge_by.result (BridgeDrops nodes) nodes (bridge_joins nodes c.requires) shown;
    }
