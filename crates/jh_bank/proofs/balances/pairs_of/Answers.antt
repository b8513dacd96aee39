use Rattle.std.proofs.Common.{sym, ap, ◌∙◌}
use Rattle.std.specs.Prelude.{Some}
use Rattle.jh_edn.specs.Edn.{map_pairs}
use Rattle.jh_edn.specs.View.{view}
use Rattle.jh_edn.proofs.CitedLemmas.{pairs_in-members_of}
use Rattle.jh_bank.proofs.balances.pairs_of.Goals as goal

pub returns-in-Map : goal.returns-in-Map
returns-in-Map c =
    ap Some (c.as_slice.ensures ∙ sym (pairs_in-members_of c.in-Map.pairs))
    ∙ ap (λ value. map_pairs (view value)) (sym c.in-Map.is)
