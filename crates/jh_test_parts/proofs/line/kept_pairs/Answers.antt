use Rattle.std.proofs.Common.{◌∙◌, ap}
use Rattle.jh_edn.specs.View.{view_pairs}
use Rattle.jh_test_parts.specs.LineMeanings.{is_kept, pairs_kept}
use Rattle.jh_test_parts.proofs.LineLemmas.{filter_viewed}
use Rattle.jh_test_parts.proofs.line.kept_pairs.Goals as goal

pub returns : goal.returns
returns c = c.of.ensures ∙ ap view_pairs c.in_ok-kept.ensures ∙ filter_viewed is_kept c.into_vec.result.items ∙ ap pairs_kept c.into_vec.ensures
