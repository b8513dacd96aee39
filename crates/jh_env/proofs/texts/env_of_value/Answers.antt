use Rattle.std.proofs.Common.{◌≡◌, map, Some, Ok, sym, ap, subst, ◌∙◌, rules}
use Rattle.std.proofs.lemmas.Result.{err_from_is_err_and}
use Rattle.jh_edn.specs.View.{view, view_pairs}
use Rattle.jh_env.specs.Text.{Keys, text_keys, Shape, shape_of}
use Rattle.jh_env.specs.Names.{AreNodeNames, AreFew, RefusesNames}
use Rattle.jh_env.specs.TextErrors.{AreSound, HasEntryError}
use Rattle.jh_env.specs.TextCells.{AreCellsOf}
use Rattle.jh_env.specs.TextInside.{entries_parsed}
use Rattle.jh_env.proofs.TextRefusalLemmas.{entry_refused, names_refused}
use Rattle.jh_env.proofs.texts.env_of_value.Goals as goal

pub returns-in_err-nodes-2 : goal.returns-in_err-nodes-2
returns-in_err-nodes-2 c =
    let keys : Keys = record { nodes = view c.in_ok-nodes.nodes.now; pairs = view_pairs c.in_ok-nodes.pairs.now } in
    let shape : Shape = record { names = map (λ s. s.now) c.in_ok-names.names.items; entries = entries_parsed c.in_ok-entries.entries.items } in
    let keys_are : text_keys (view c.args.value.now) ≡ Ok keys = search rules in
    let shaped : shape_of keys ≡ Some shape = search rules in
    let p = err_from_is_err_and c.from_residual-in_err-nodes-2.result c.from_residual-in_err-nodes-2.ensures.1 in
    let refused : RefusesNames (map (λ s. s.now) c.in_ok-names.names.items) c.in_err-nodes-2.field-0.0 = rw c.deref.ensures.value at c.in_err-nodes-2.ensures in
    rw (p.1, p.2) (names_refused (view c.args.value.now) shape c.in_err-nodes-2.field-0.0 (keys, keys_are, shaped) refused)

pub returns-in_err-set_all : goal.returns-in_err-set_all
returns-in_err-set_all c =
    let keys : Keys = record { nodes = view c.in_ok-nodes.nodes.now; pairs = view_pairs c.in_ok-nodes.pairs.now } in
    let shape : Shape = record { names = map (λ s. s.now) c.in_ok-names.names.items; entries = entries_parsed c.in_ok-entries.entries.items } in
    let keys_are : text_keys (view c.args.value.now) ≡ Ok keys = search rules in
    let shaped : shape_of keys ≡ Some shape = search rules in
    let named : c.in_ok-nodes-2.nodes ≡ shape.names = c.in_ok-nodes-2.ensures.0 ∙ ap (λ ns. map (λ s. s.now) ns) c.deref.ensures.value in
    let names : c.in_ok-start.start.names ≡ shape.names = c.in_ok-start.ensures.0 ∙ named in
    let p = err_from_is_err_and c.from_residual-in_err-set_all.result c.from_residual-in_err-set_all.ensures.1 in
    let wrong : HasEntryError shape.names shape.entries c.in_err-set_all.field-0.0 = rw (c.deref-2.ensures.value, names) at c.in_err-set_all.ensures in
    rw (p.1, p.2) (entry_refused (view c.args.value.now) shape c.in_err-set_all.field-0.0 (keys, keys_are, shaped)
    (subst AreFew named c.in_ok-nodes-2.ensures.2) (subst AreNodeNames named c.in_ok-nodes-2.ensures.1) wrong)

pub returns : goal.returns
returns c =
    let keys : Keys = record { nodes = view c.in_ok-nodes.nodes.now; pairs = view_pairs c.in_ok-nodes.pairs.now } in
    let shape : Shape = record { names = map (λ s. s.now) c.in_ok-names.names.items; entries = entries_parsed c.in_ok-entries.entries.items } in
    let keys_are : text_keys (view c.args.value.now) ≡ Ok keys = search rules in
    let shaped : shape_of keys ≡ Some shape = search rules in
    let named : c.in_ok-nodes-2.nodes ≡ shape.names = c.in_ok-nodes-2.ensures.0 ∙ ap (λ ns. map (λ s. s.now) ns) c.deref.ensures.value in
    let kept : c.in_ok-start-2.field-0.names ≡ c.in_ok-start.start.names = c.in_ok-start-2.ensures.start.0 ∙ c.in_ok-set_all.ensures.0 in
    let same : c.in_ok-start-2.field-0.names ≡ c.in_ok-nodes-2.nodes = kept ∙ c.in_ok-start.ensures.0 in
    let sound : AreSound c.in_ok-start.start.names shape.entries = rw c.deref-2.ensures.value at c.in_ok-set_all.ensures.1 in
    let parsed : AreCellsOf c.in_ok-start.start.names shape.entries c.set_all.new.start.cells = rw c.deref-2.ensures.value at c.in_ok-set_all.ensures.2 in (
      c.in_ok-start-2.ensures.stands.1,
      (
        shape,
        (keys, keys_are, shaped),
        sym (same ∙ named),
        subst AreFew (sym same) c.in_ok-nodes-2.ensures.2,
        subst AreNodeNames (sym same) c.in_ok-nodes-2.ensures.1,
        subst (λ ns. AreSound ns shape.entries) (sym kept) sound,
        rw (kept, c.in_ok-start-2.ensures.start.1) parsed,
      ),
      c.in_ok-start-2.ensures.work,
    )
