use Rattle.std.proofs.Common.{rules, ◌≡◌, true}
use Rattle.jh_gen.specs.Fits.{fits}
use Rattle.jh_gen.specs.View.{generator_of}
use Rattle.jh_gen.proofs.DriverLemmas.{fits_more}
use Rattle.jh_gen.proofs.driver.Driver.new.Goals as goal

pub build-requires : goal.build-requires
build-requires c =
    let fit : fits c.args.clients (generator_of c.args.source) ≡ true = search rules in
    fits_more (generator_of c.args.source) c.args.clients 16 c.if-clients-gt-MAX_CLIENTS.false fit
