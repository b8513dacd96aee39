use Rattle.std.proofs.Common.{ap, arith}
use Rattle.jh_grudge.specs.Ranks.{AreLinksBefore, drops_in}
use Rattle.jh_grudge.proofs.LinkLemmas.{links_start, links_end, whole_list}
use Rattle.jh_grudge.proofs.RankLemmas.{src_below_in}
use Rattle.jh_grudge.proofs.ranks.links_by.Goals as goal
use Rattle.jh_grudge.proofs.ranks.links_by.Goals.{else-loop-src-test, then-loop-src-test+in_ok-push_links_from+else-src-lt255}

pub loop-src-init : goal.loop-src-init
loop-src-init c = links_start (drops_in c.args.rule c.args.ranks.now) c.new-links.result.items c.new-links.ensures.items

pub returns : goal.returns
returns c =
    let all : AreLinksBefore (drops_in c.args.rule c.args.ranks.now) c.loop-src-test.links.items (256, 0) = elim c.loop-src-test.branch [
      | else-loop-src-test w ↦ absurd (omega arith)
      | then-loop-src-test+in_ok-push_links_from+else-src-lt255 w ↦
          links_end (drops_in c.args.rule c.args.ranks.now) w.push_links_from.new.links.items c.loop-src-test.links.items c.loop-src.src (ap (λ v. v.items) w.links-is) (omega arith) w.in_ok-push_links_from.ensures
    ] in record {
      exact = whole_list (drops_in c.args.rule c.args.ranks.now) c.loop-src-test.links.items 256 (src_below_in c.args.rule c.args.ranks.now 256 c.told-ranks) all;
      ascending = all.ascending;
    }
