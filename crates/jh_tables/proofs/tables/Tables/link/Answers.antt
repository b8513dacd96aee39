use Rattle.std.proofs.Common.{rules, ◌≡◌, ◌+◌, ◌*◌, ◌<◌, ◌∙◌, length, false, sym, ap, subst, arith, Some, get_or, refl}
use Rattle.std.specs.Prelude.{◌==◌}
use Rattle.jh_tables.specs.Cells.{link_at}
use Rattle.jh_tables.specs.Standing.{TablesValue, IsLinkInRange}
use Rattle.jh_tables.specs.Tallies.{calm_tally, latest_fix, link_now}
use Rattle.jh_tables.proofs.OverlayLemmas.{link_at_now}
use Rattle.jh_tables.proofs.RangeLemmas.{link_in_range}
use Rattle.jh_tables.proofs.tables.Tables.link.Goals as goal

pub link_now-requires : goal.link_now-requires
link_now-requires c =
    let w = c.self.invariant in
    let t = c.self.inside.counted in
    let from : c.args.from < length t.nodes = search rules in
    let to : c.args.to < length t.nodes = search rules in
    let within = link_in_range t w.faults w.tallies (omega (arith, w.few, w.laid)) w.square w.starting_links w.delays c.args.from c.args.to from to in
    rw (c.latest_fix.ensures, c.link-tally.ensures, c.place-2.ensures, c.place-3.ensures, c.count-count.ensures.count) (omega (arith, within.0))

pub returns-clause-link : goal.returns-clause-link
returns-clause-link c =
    let w = c.self.invariant in
    let t = c.self.inside.counted in
    let from : c.args.from < length t.nodes = search rules in
    let to : c.args.to < length t.nodes = search rules in
    let apart : (c.args.from == c.args.to) ≡ false = search rules in
    let read = link_at_now t w.square c.args.from c.args.to from to apart in
    let now : c.link_now.result ≡ link_now (get_or t.links (c.args.from * length t.nodes + c.args.to) calm_tally) (latest_fix c.args.from c.args.to t.fixes) =
    c.link_now.ensures ∙ rw (c.latest_fix.ensures, c.link-tally.ensures, c.place-2.ensures, c.place-3.ensures, c.count-count.ensures.count) refl in
    ap Some now ∙ sym read ∙ ap (λ (v : TablesValue). link_at v.cells c.args.from c.args.to) c.self.view_is

pub returns-clause-within : goal.returns-clause-within
returns-clause-within c =
    let w = c.self.invariant in
    let t = c.self.inside.counted in
    let from : c.args.from < length t.nodes = search rules in
    let to : c.args.to < length t.nodes = search rules in
    let within = link_in_range t w.faults w.tallies (omega (arith, w.few, w.laid)) w.square w.starting_links w.delays c.args.from c.args.to from to in
    let now : c.link_now.result ≡ link_now (get_or t.links (c.args.from * length t.nodes + c.args.to) calm_tally) (latest_fix c.args.from c.args.to t.fixes) =
    c.link_now.ensures ∙ rw (c.latest_fix.ensures, c.link-tally.ensures, c.place-2.ensures, c.place-3.ensures, c.count-count.ensures.count) refl in
    subst IsLinkInRange (sym now) within
