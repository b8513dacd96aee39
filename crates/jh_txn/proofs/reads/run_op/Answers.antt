use Rattle.std.proofs.Common.{◌≡◌, ◌<◌, refl, Some, length, subst, sym, ◌∙◌, ap}
use Rattle.std.specs.Bool.{Decides}
use Rattle.std.specs.Prelude.{slice_get}
use Rattle.std.proofs.lemmas.Bool.Decides.{Decides-eqb}
use Rattle.std.proofs.lemmas.Option.{slice_get_read}
use Rattle.std.proofs.lemmas.Slice.Eq.{slice_eq-Decides}
use Rattle.jh_txn.specs.Transactions.{IsKeyBelow}
use Rattle.jh_txn.proofs.OrderCheckLemmas.{sees_if}
use Rattle.jh_txn.proofs.reads.run_op.Goals as goal

pub returns-else-not-looks-clause-sees : goal.returns-else-not-looks-clause-sees
returns-else-not-looks-clause-sees c =
    let lists = c.args.lists.now in
    let list = c.index-lists-key-else-not-looks.result in
    let low : c.in-Read.key < length lists = subst (IsKeyBelow (length lists)) c.in-Read.is c.requires.key in
    let at : slice_get lists c.in-Read.key ≡ Some list = slice_get_read lists (length lists) c.in-Read.key list refl low c.index-lists-key-else-not-looks.is in
    let shown : c.as_slice.result.now ≡ list.items = c.as_slice.ensures.value ∙ ap (λ v. v.items) (sym c.index-lists-key-else-not-looks.is) in
    let decides : Decides c.eq.result (list.items ≡ c.in-Read.seen) = subst (λ xs. Decides c.eq.result (xs ≡ c.in-Read.seen)) shown (subst (λ ys. Decides c.eq.result (c.as_slice.result.now ≡ ys)) c.as_slice-else-not-looks.ensures (slice_eq-Decides Decides-eqb c.as_slice.result.now c.as_slice-else-not-looks.result.now c.eq.result c.eq.ensures)) in
    let both = sees_if lists c.args.op.now c.in-Read.key c.in-Read.seen list c.eq.result c.in-Read.is at decides in
    (λ e _. both.0 e, λ sees. both.1 (sees c.if-not-looks.false))
