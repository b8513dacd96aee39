use Rattle.std.proofs.Common.{take}
use Rattle.jh_edn.specs.Edn.{items_of}
use Rattle.jh_edn.specs.Printable.{ArePrintable}
use Rattle.jh_gen.specs.Generator.{generator_size, generator_list_size, size_shares}
use Rattle.jh_gen.specs.View.{generator_of}
use Rattle.jh_settings_texts.proofs.NestingLemmas.{row_texts, shares_texts}
use Rattle.jh_settings_texts.proofs.depth.+within.Given as goal

abbrev pub decreases-is_within : goal.decreases-is_within
decreases-is_within l = generator_size (generator_of l.source.now)

abbrev pub decreases-are_within : goal.decreases-are_within
decreases-are_within l = generator_list_size l.members.now

abbrev pub decreases-shares_are_within : goal.decreases-shares_are_within
decreases-shares_are_within l = size_shares l.shares.now

abbrev pub invariant-are_within-loop-member : goal.invariant-are_within-loop-member
invariant-are_within-loop-member l = ArePrintable l.depth (items_of (row_texts (take l.member-index l.member-items)))

abbrev pub invariant-shares_are_within-loop-count : goal.invariant-shares_are_within-loop-count
invariant-shares_are_within-loop-count l = ArePrintable l.depth (items_of (shares_texts (take l.count-index l.count-items)))
