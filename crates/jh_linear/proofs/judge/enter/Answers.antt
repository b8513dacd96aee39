use Rattle.std.proofs.Common.{subst, arith}
use Rattle.jh_linear.specs.declared.search.Added.TheVariants.{Known, New}
use Rattle.jh_linear.specs.SearchInside.{Adds}
use Rattle.jh_linear.proofs.GoingOnLemmas.{entered_known, entered_new}
use Rattle.jh_linear.proofs.judge.enter.Goals as goal

pub returns-in-Known : goal.returns-in-Known
returns-in-Known c =
    let p = c.args.problem.now in
    let s = c.args.search.now in
    let added : Adds s c.add.new.search p.budget c.args.at c.args.placed.items c.args.config Known = subst (Adds s c.add.new.search p.budget c.args.at c.args.placed.items c.args.config) c.in-Known.is c.in_ok-add.ensures in
    entered_known p c.requires.problem s c.add.new.search c.requires.begun c.args.at c.requires.low c.args.placed.items (omega (arith, c.requires.longer)) c.args.config c.requires.stands added

pub returns-in-New : goal.returns-in-New
returns-in-New c =
    let p = c.args.problem.now in
    let s = c.args.search.now in
    let added : Adds s c.add.new.search p.budget c.args.at c.args.placed.items c.args.config New = subst (Adds s c.add.new.search p.budget c.args.at c.args.placed.items c.args.config) c.in-New.is c.in_ok-add.ensures in
    entered_new p c.requires.problem s c.add.new.search c.requires.begun c.args.at c.requires.low c.args.placed.items (omega (arith, c.requires.longer)) c.args.config c.requires.stands c.requires.open c.requires.far added
