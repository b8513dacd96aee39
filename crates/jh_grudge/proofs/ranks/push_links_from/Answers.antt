use Rattle.std.proofs.Common.{◌≡◌, ◌+◌, sym, ap, ◌∙◌, arith}
use Rattle.jh_grudge.specs.Ranks.{AreLinksBefore, drops_in}
use Rattle.jh_grudge.proofs.LinkLemmas.{links_pushed, links_kept, links_next}
use Rattle.jh_grudge.proofs.RankLemmas.{dst_below}
use Rattle.jh_grudge.proofs.ranks.push_links_from.Goals as goal
use Rattle.jh_grudge.proofs.ranks.push_links_from.Goals.{then-is_dropped+in_ok-push, else-is_dropped}

pub loop-dst-preserved : goal.loop-dst-preserved
loop-dst-preserved c =
    let l = c.loop-dst in
    let test = drops_in c.args.rule c.args.ranks.now in
    elim c.if-is_dropped.branch [
      | then-is_dropped+in_ok-push w ↦
          links_pushed test l.links.items c.if-is_dropped.links.items c.args.src l.dst (ap (λ v. v.items) w.links-is ∙ w.in_ok-push.ensures.items) (sym c.is_dropped.ensures ∙ w.if-is_dropped.true) l.invariant
      | else-is_dropped w ↦
          links_kept test l.links.items c.if-is_dropped.links.items c.args.src l.dst (ap (λ v. v.items) w.links-is) (sym c.is_dropped.ensures ∙ w.if-is_dropped.false) l.invariant
    ]

pub returns-after-is_dropped : goal.returns-after-is_dropped
returns-after-is_dropped c =
    let l = c.loop-dst in
    let test = drops_in c.args.rule c.args.ranks.now in
    let last : l.dst ≡ 255 = omega arith in
    let done : AreLinksBefore test c.if-is_dropped.links.items (c.args.src, l.dst + 1) = elim c.if-is_dropped.branch [
      | then-is_dropped+in_ok-push w ↦
          links_pushed test l.links.items c.if-is_dropped.links.items c.args.src l.dst (ap (λ v. v.items) w.links-is ∙ w.in_ok-push.ensures.items) (sym c.is_dropped.ensures ∙ w.if-is_dropped.true) l.invariant
      | else-is_dropped w ↦
          links_kept test l.links.items c.if-is_dropped.links.items c.args.src l.dst (ap (λ v. v.items) w.links-is) (sym c.is_dropped.ensures ∙ w.if-is_dropped.false) l.invariant
    ] in
    links_next test c.if-is_dropped.links.items c.args.src (l.dst + 1) (λ dst hit. let low = dst_below c.args.rule c.args.ranks.now dst c.args.src hit in omega arith) done
