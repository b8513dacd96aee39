use Rattle.std.proofs.Common.{◌≡◌, ◌∙◌, true, false, length, drop, min, sym, ap, arith}
use Rattle.std.proofs.lemmas.List.{length_push}
use Rattle.std.proofs.lemmas.Slice.Zip.{zip_turn, zip_end}
use Rattle.jh_txn_histories.specs.ReadingInside.{written, written_ops}
use Rattle.jh_txn_histories.specs.Written.{are_answers, is_answer}
use Rattle.jh_txn_histories.proofs.ReadLemmas.{answers_end, answers_next, answers_stop, not_as_many}
use Rattle.jh_txn_histories.proofs.written.are_answers.Goals as goal

pub returns-then-asked-answers : goal.returns-then-asked-answers
returns-then-asked-answers c = sym (not_as_many c.args.asked.now c.args.answers.now (λ e. c.if-asked-answers.true e))

pub returns-then-not-branch : goal.returns-then-not-branch
returns-then-not-branch c =
    let asked = c.args.asked.now in
    let answers = c.args.answers.now in
    let n = length c.loop-one.yielded in
    let turn = zip_turn asked answers c.loop-one.yielded c.into_iter-one-iterator.result c.loop-one.one-iterator c.next.new.self c.next.result (cc) (cc) c.loop-one.yielded_by (c.in-Some.one, c.in-Some.other) c.in-Some.is c.next.ensures.steps in
    let no : is_answer (written c.in-Some.one.now) (written c.in-Some.other.now) ≡ false = sym c.in_ok-is_answer.ensures ∙ c.if-not-branch.true in
    sym (answers_stop asked answers n c.in-Some.one.now c.in-Some.other.now turn.0 turn.1 (turn.2 c.in-Some.one.now) (turn.3 c.in-Some.other.now) no) ∙ c.loop-one.invariant

pub loop-one-preserved : goal.loop-one-preserved
loop-one-preserved c =
    let asked = c.args.asked.now in
    let answers = c.args.answers.now in
    let n = length c.loop-one.yielded in
    let turn = zip_turn asked answers c.loop-one.yielded c.into_iter-one-iterator.result c.loop-one.one-iterator c.next.new.self c.next.result (cc) (cc) c.loop-one.yielded_by (c.in-Some.one, c.in-Some.other) c.in-Some.is c.next.ensures.steps in
    let yes : is_answer (written c.in-Some.one.now) (written c.in-Some.other.now) ≡ true = sym c.in_ok-is_answer.ensures ∙ c.if-not-branch.false in
    ap (λ k. are_answers (written_ops (drop k asked)) (written_ops (drop k answers))) (length_push c.loop-one.yielded (c.in-Some.one, c.in-Some.other))
    ∙ answers_next asked answers n c.in-Some.one.now c.in-Some.other.now turn.0 turn.1 (turn.2 c.in-Some.one.now) (turn.3 c.in-Some.other.now) yes
    ∙ c.loop-one.invariant

pub returns : goal.returns
returns c =
    let asked = c.args.asked.now in
    let answers = c.args.answers.now in
    let n = length c.loop-one.yielded in
    let end : n ≡ min (length asked) (length answers) = zip_end asked answers c.loop-one.yielded c.into_iter-one-iterator.result c.loop-one.one-iterator c.next.new.self c.next.result (cc) (cc) c.loop-one.yielded_by c.in-None.is c.next.ensures.steps in
    let many : length asked ≡ length answers = omega arith in
    sym (answers_end asked answers n (omega (arith, end, many)) (omega (arith, end, many))) ∙ c.loop-one.invariant
