use Rattle.std.proofs.Common.{◌≡◌, ◌+◌, length, sym, subst, ◌∙◌, arith}
use Rattle.jh_unique.specs.Lists.{members_in}
use Rattle.jh_unique.specs.Keys.{HasClusterKey, HasKey}
use Rattle.jh_unique.specs.Sorted.{AreKeyedNumbers}
use Rattle.jh_unique.proofs.LateLemmas.{members_at}
use Rattle.jh_unique.proofs.SortedLemmas.{keyed_none, keyed_push}
use Rattle.jh_unique.proofs.keys.entries_of.Goals as goal

pub loop-cluster-init : goal.loop-cluster-init
loop-cluster-init c =
    let key = HasClusterKey c.args.ops.now (members_in c.args.lists.now) in
    subst (AreKeyedNumbers key 1 1) (sym c.new-entries.ensures.items) (keyed_none key 1)

pub loop-cluster-preserved : goal.loop-cluster-preserved
loop-cluster-preserved c =
    let ops = c.args.ops.now in
    let lists = c.args.lists.now in
    let l = c.loop-cluster in
    let key = HasClusterKey ops (members_in lists) in
    let at : members_in lists l.cluster ≡ c.as_slice.result.now = members_at lists l.cluster c.index-lists-cluster.result c.loop-cluster-test.true c.index-lists-cluster.is ∙ sym c.as_slice.ensures.value in
    let has_key : HasKey ops (members_in lists l.cluster) c.key_of.result = subst (λ xs. HasKey ops xs c.key_of.result) (sym at) c.key_of.ensures in
    subst (AreKeyedNumbers key 1 (l.cluster + 1)) (sym c.in_ok-push.ensures.items) (keyed_push key 1 l.cluster c.key_of.result l.entries.items (omega arith) has_key l.invariant)

pub returns : goal.returns
returns c =
    let end : c.loop-cluster.cluster ≡ length c.args.lists.now = omega arith in
    subst (λ n. AreKeyedNumbers (HasClusterKey c.args.ops.now (members_in c.args.lists.now)) 1 n c.loop-cluster.entries.items) end c.loop-cluster.invariant
