use Rattle.std.proofs.Common.{◌≡◌, ◌∙◌, ap, length, get_or, sym}
use Rattle.jh_simnode.specs.Reach.{env_cells}
use Rattle.jh_simnode.proofs.TakeOverLemmas.{send_takes}
use Rattle.jh_simnode.proofs.stores.send.Goals as goal

pub returns-then-is_older-clause-sent : goal.returns-then-is_older-clause-sent
returns-then-is_older-clause-sent c =
    let sources = c.args.sources.now in
    let source = c.index-sources-place.result in
    let target = c.index-sources-place-2.result in
    let from : source ≡ get_or sources c.args.from source = c.index-sources-place.is ∙ ap (λ p. get_or sources p source) c.place.ensures in
    let to : target ≡ get_or sources c.args.to target = c.index-sources-place-2.is ∙ ap (λ p. get_or sources p target) c.place-2.ensures in
    rw c.place-then-is_older.ensures
    (send_takes (env_cells c.args.env.now) c.args.from c.args.to (length c.args.env.now.names) c.args.replicas.now sources source target
    c.requires.sources c.requires.from c.requires.to from to (sym c.if-can_send.ensures) (sym c.if-is_older.ensures))
