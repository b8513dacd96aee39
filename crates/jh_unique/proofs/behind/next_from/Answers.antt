use Rattle.std.proofs.Common.{ap, sym, ◌∙◌}
use Rattle.jh_linear.specs.declared.register.RegOp.{RegOp}
use Rattle.jh_linear.specs.declared.register.RegCall.TheVariants.{Cas}
use Rattle.jh_unique.proofs.TableLemmas.{some_number, none_number}
use Rattle.jh_unique.proofs.PartLemmas.{possible_there}
use Rattle.jh_unique.proofs.WalkLemmas.{must_possible}
use Rattle.jh_unique.proofs.behind.next_from.Goals as goal

pub returns-in-Some : goal.returns-in-Some
returns-in-Some c =
    let ops = c.args.ops.now in
    let value = c.args.value.int in
    let number = c.in-Some.number in
    let table = c.requires.known.nexts in
    let is = sym c.found.ensures ∙ c.in-Some.is in
    let f = (table.sound value number is).1 in
    let new = c.new_of.ensures value f.1.0 (ap (λ (o : RegOp). o.call) c.op_at.ensures ∙ f.1.1) in
    (f.0, f.1.1 ∙ ap (λ n. Cas value n) (sym new), (λ other next. some_number other number (sym (table.whole value other (possible_there ops other (must_possible ops other next.0)) next) ∙ is)))

pub returns-in-None : goal.returns-in-None
returns-in-None c = λ p next.
    let ops = c.args.ops.now in
    let low = possible_there ops p (must_possible ops p next.0) in
    none_number c.found.result p c.in-None.is (c.found.ensures ∙ c.requires.known.nexts.whole c.args.value.int p low next)
