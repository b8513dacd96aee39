use Rattle.std.proofs.Common.{◌<◌, ◌∷◌, [], ◌++◌, List, ℕ, length, take, get_or, sym, subst, arith}
use Rattle.std.proofs.lemmas.List.{take_more, take_all}
use Rattle.jh_unique.specs.Sorted.{ArePicked}
use Rattle.jh_unique.specs.Steps.{IsReadOf}
use Rattle.jh_unique.specs.Tables.{reads_under}
use Rattle.jh_unique.proofs.ListLemmas.{place_has}
use Rattle.jh_unique.proofs.TableLemmas.{reads_more, reads_skip, reads_all}
use Rattle.jh_unique.proofs.behind.reads_by_value.Goals.{in-Some+in_ok-add_read, in_default}
use Rattle.jh_unique.proofs.behind.reads_by_value.Goals as goal

pub read_at-requires-clause-number : goal.read_at-requires-clause-number
read_at-requires-clause-number c =
    let turn = c.args.turn.now in
    let low : c.loop-number.number-index < length turn = omega arith in
    c.requires.turn.low (get_or turn c.loop-number.number-index 0) (place_has turn c.loop-number.number-index low)

pub loop-number-preserved : goal.loop-number-preserved
loop-number-preserved c = λ v.
    let ops = c.args.ops.now in
    let turn = c.args.turn.now in
    let l = c.loop-number in
    let i = l.number-index in
    let x = get_or turn i 0 in
    let low : i < length turn = omega arith in
    subst (λ (xs : List ℕ). ArePicked (IsReadOf ops v) xs (reads_under c.match-read_at.reads v)) (sym (take_more turn i 0 low)) (elim c.match-read_at.branch as (λ _. ArePicked (IsReadOf ops v) (take i turn ++ x ∷ []) (reads_under c.match-read_at.reads v)) [
      | in-Some+in_ok-add_read w ↦ subst (λ t. ArePicked (IsReadOf ops v) (take i turn ++ x ∷ []) (reads_under t v)) (sym w.reads-is)
          (reads_more ops (take i turn) l.reads w.add_read.new.reads l.invariant x w.in-Some.value.int w.in-Some.ensures w.in_ok-add_read.ensures.this w.in_ok-add_read.ensures.others v)
      | in_default w ↦ subst (λ t. ArePicked (IsReadOf ops v) (take i turn ++ x ∷ []) (reads_under t v)) (sym w.reads-is)
          (reads_skip ops (take i turn) l.reads l.reads l.invariant x w.in_default.ensures v)
    ])

pub returns : goal.returns
returns c =
    let ops = c.args.ops.now in
    let turn = c.args.turn.now in
    let l = c.loop-number in
    reads_all ops turn c.requires.turn l.reads (λ v. subst (λ (xs : List ℕ). ArePicked (IsReadOf ops v) xs (reads_under l.reads v)) (take_all l.number-index turn c.loop-number-test.false) (l.invariant v))
