use Rattle.std.proofs.Common.{◌≡◌, ℕ, List, [], get_or, sym, ap, subst, ◌∙◌, arith}
use Rattle.std.specs.List.{Contains}
use Rattle.std.proofs.lemmas.List.{get_or-map, length-map}
use Rattle.jh_grudge.specs.Lists.{nodes_end_to_end, lists_of}
use Rattle.jh_grudge.specs.Grudges.{IsIn, CompleteDrops}
use Rattle.jh_grudge.specs.Ranks.{DropsIn}
use Rattle.jh_grudge.specs.declared.ranks.Rule.TheVariants.{Apart}
use Rattle.jh_grudge.proofs.LinkLemmas.{given, given_among}
use Rattle.jh_grudge.proofs.RankLemmas.{IsRanking, is_ranking_none, is_ranking_more, is_ranking_all, complete_there, complete_back}
use Rattle.jh_grudge.proofs.JoinLemmas.{alone, complete_joins}
use Rattle.jh_grudge.proofs.grudges.complete_grudge.Goals as goal

pub loop-number-init : goal.loop-number-init
loop-number-init c = is_ranking_none (lists_of c.args.components.now) 256

pub loop-number-preserved : goal.loop-number-preserved
loop-number-preserved c =
    let components = c.args.components.now in
    let n = c.loop-number.number in
    let here : get_or (lists_of components) n [] ≡ c.deref.result.now =
    get_or-map (λ v. v.items) components n c.index-components-number.result [] c.loop-number-test.true ∙ ap (λ v. v.items) (sym c.index-components-number.is) ∙ sym c.deref.ensures.value in
    is_ranking_more (lists_of components) n c.loop-number.ranks c.rank_all.new.ranks (alone components c.requires)
    (λ node has. c.rank_all.ensures.ranked node (subst (λ (xs : List ℕ). Contains xs node) here has))
    (λ node lacks. c.rank_all.ensures.others node (subst (λ (xs : List ℕ). ¬ Contains xs node) here lacks))
    c.loop-number.invariant

pub returns : goal.returns
returns c =
    let components = c.args.components.now in
    let lists = lists_of components in
    let ranks = c.loop-number.ranks in
    let long = length-map components (λ v. v.items) in
    let ranking : IsRanking (λ node rank. IsIn lists rank node) ranks = is_ranking_all lists c.loop-number.number ranks (omega arith) c.loop-number.invariant in
    let shown = given c.grudge_by.result (DropsIn Apart ranks) (CompleteDrops lists) (complete_there lists ranks ranking) (complete_back lists ranks ranking) c.grudge_by.ensures.links in record {
      links = shown;
      ascending = c.grudge_by.ensures.ascending;
      among = given_among c.grudge_by.result (CompleteDrops lists) (nodes_end_to_end components) (complete_joins components c.requires) shown;
    }
