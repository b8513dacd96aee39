use Rattle.std.proofs.Common.{◌≡◌, ℕ, List, ◌++◌, refl, sym, ap, subst, inl, inr}
use Rattle.jh_txn_seen.specs.Reads.{longest_of, seen_by}
use Rattle.jh_txn_seen.proofs.ReadLemmas.{begun, not_begun}
use Rattle.jh_txn_seen.proofs.longest.look_at.Goals as goal

pub returns-in-None : goal.returns-in-None
returns-in-None c =
    let seen = c.args.read.now.seen.now in
    inr (refl, (seen, sym (ap (λ xs. xs ++ seen) (ap seen_by c.in-None.is))))

pub returns-then-starts_with : goal.returns-then-starts_with
returns-then-starts_with c =
    let seen = c.args.read.now.seen.now in
    let there : longest_of c.args.table.now c.args.read.now.key ≡ c.in-Some.other.seen.now = ap seen_by c.in-Some.is in
    inl (refl, subst (λ xs. (rest : List ℕ) × (xs ≡ seen ++ rest)) (sym there) (begun c.in-Some.other.seen.now seen c.starts_with.result c.starts_with.ensures.value c.if-starts_with.true))

pub returns-then-starts_with-2 : goal.returns-then-starts_with-2
returns-then-starts_with-2 c =
    let seen = c.args.read.now.seen.now in
    let there : longest_of c.args.table.now c.args.read.now.key ≡ c.in-Some.other.seen.now = ap seen_by c.in-Some.is in
    inr (refl, subst (λ xs. (rest : List ℕ) × (seen ≡ xs ++ rest)) (sym there) (begun seen c.in-Some.other.seen.now c.starts_with-else-starts_with.result c.starts_with-else-starts_with.ensures.value c.if-starts_with-2.true))

pub returns-else-starts_with-2 : goal.returns-else-starts_with-2
returns-else-starts_with-2 c =
    let seen = c.args.read.now.seen.now in
    let other = c.in-Some.other.seen.now in (
      c.in-Some.is,
      λ h. elim h as (λ _. ⊥) [
        | inl e ↦ not_begun seen other c.starts_with-else-starts_with.result c.starts_with-else-starts_with.ensures.value c.if-starts_with-2.false e.0 e.1
        | inr e ↦ not_begun other seen c.starts_with.result c.starts_with.ensures.value c.if-starts_with.false e.0 e.1
      ],
    )
