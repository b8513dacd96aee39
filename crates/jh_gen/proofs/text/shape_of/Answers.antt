use Rattle.std.proofs.Common.{rules, ◌≡◌, ◌∙◌, sym, Some}
use Rattle.jh_edn.specs.Edn.{elements_of}
use Rattle.jh_edn.specs.View.{view, views}
use Rattle.jh_gen.proofs.TextLemmas.{elements_read, smaller_within}
use Rattle.jh_gen.proofs.text.shape_of.Goals as goal

pub returns-clause-parsed : goal.returns-clause-parsed
returns-clause-parsed c =
    let read : elements_of (view c.args.value.now) ≡ Some (views c.in_ok-elements.field-0.now) = search rules in
    c.shape_in.ensures.parsed ∙ sym (elements_read (view c.args.value.now) (views c.in_ok-elements.field-0.now) read).parsed

pub returns-clause-smaller : goal.returns-clause-smaller
returns-clause-smaller c =
    let read : elements_of (view c.args.value.now) ≡ Some (views c.in_ok-elements.field-0.now) = search rules in
    smaller_within c.shape_in.result _ _ c.shape_in.ensures.smaller (elements_read (view c.args.value.now) (views c.in_ok-elements.field-0.now) read).smaller
