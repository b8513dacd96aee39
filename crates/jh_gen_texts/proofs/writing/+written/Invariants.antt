use Rattle.std.proofs.Common.{◌≡◌, ◌∷◌, take}
use Rattle.jh_edn.specs.Edn.{keyword}
use Rattle.jh_edn.specs.View.{views}
use Rattle.jh_gen.specs.Generator.{generator_size, generator_list_size, size_shares, row_of, share_list}
use Rattle.jh_gen.specs.View.{generator_of, generators_of, shares_of}
use Rattle.jh_gen_texts.specs.GeneratorWritten.{values_of_generators, values_of_shares, AreWritable, AreWritableShares}
use Rattle.jh_gen_texts.proofs.writing.+written.Given as goal

abbrev pub decreases-written : goal.decreases-written
decreases-written l = generator_size (generator_of l.source.now)

abbrev pub decreases-row_values : goal.decreases-row_values
decreases-row_values l = generator_list_size l.members.now

abbrev pub decreases-share_values : goal.decreases-share_values
decreases-share_values l = size_shares l.shares.now

abbrev pub invariant-row_values-loop-member : goal.invariant-row_values-loop-member
invariant-row_values-loop-member l = record {
  text : views l.values.items ≡ keyword l.name ∷ values_of_generators (row_of (generators_of (take l.member-index l.member-items)));
  writable : AreWritable (row_of (generators_of (take l.member-index l.member-items)));
}

abbrev pub invariant-share_values-loop-count : goal.invariant-share_values-loop-count
invariant-share_values-loop-count l = record {
  text : views l.values.items ≡ keyword l.name ∷ values_of_shares (share_list (shares_of (take l.count-index l.count-items)));
  writable : AreWritableShares (share_list (shares_of (take l.count-index l.count-items)));
}
