use Rattle.std.proofs.Common.{◌∙◌, ap, codes}
use Rattle.std.specs.List.{list_any}
use Rattle.jh_edn.specs.Edn.{is_keyword}
use Rattle.jh_test_parts.proofs.LineLemmas.{any_viewed}
use Rattle.jh_test_parts.proofs.line.has_odd_time.Goals as goal

pub returns : goal.returns
returns c =
    c.has_key.ensures ∙ any_viewed (λ pair. is_keyword (codes "time") pair.0) c.as_slice.result.now
    ∙ ap (list_any (λ pair. is_keyword (codes "time") pair.0)) c.as_slice.ensures
