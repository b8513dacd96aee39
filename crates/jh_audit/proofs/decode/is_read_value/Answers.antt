use Rattle.std.proofs.lemmas.List.Folds.{list_all-map}
use Rattle.std.proofs.Common.{sym, ap, ◌∙◌}
use Rattle.std.specs.List.{list_all}
use Rattle.jh_edn.specs.View.{view}
use Rattle.jh_audit.specs.DecodeInside.{is_read_value}
use Rattle.jh_audit.proofs.FormLemmas.{list-items}
use Rattle.jh_edn.specs.Edn.{is_integer}
use Rattle.jh_audit.proofs.decode.is_read_value.Goals as goal

pub returns-in-Vector : goal.returns-in-Vector
returns-in-Vector c =
    c.are_integers.ensures ∙ sym (list_all-map is_integer view c.as_slice.result.now) ∙ ap (list_all is_integer) c.as_slice.ensures
    ∙ ap (list_all is_integer) (sym (list-items c.in-Vector.items)) ∙ sym (ap (λ v. is_read_value (view v)) c.in-Vector.is)
