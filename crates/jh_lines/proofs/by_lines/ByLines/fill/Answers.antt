use Rattle.std.proofs.Common.{◌∙◌, ap, length, sym, arith}
use Rattle.std.proofs.lemmas.List.{drop_all, length-drop}
use Rattle.jh_lines.proofs.ByLinesLemmas.{fills, ends}
use Rattle.jh_lines.proofs.by_lines.ByLines.fill.Goals as goal

pub returns-in_err-read_until-clause-kept : goal.returns-in_err-read_until-clause-kept
returns-in_err-read_until-clause-kept g c =
    fills _ _ _ _ (drop_all c.args.self.now.given c.args.self.now.line.items (omega (arith, c.if-self-len.true, c.len.ensures)))
    (rw c.clear.ensures.items at c.read_until.ensures.none_lost)

pub returns-in_ok-read_until-clause-kept : goal.returns-in_ok-read_until-clause-kept
returns-in_ok-read_until-clause-kept g c =
    fills _ _ _ _ (drop_all c.args.self.now.given c.args.self.now.line.items (omega (arith, c.if-self-len.true, c.len.ensures)))
    (rw c.clear.ensures.items at c.read_until.ensures.none_lost)

pub returns-in_ok-read_until-clause-end : goal.returns-in_ok-read_until-clause-end
returns-in_ok-read_until-clause-end g c = λ none.
    ends _ _ (drop_all c.args.self.now.given c.args.self.now.line.items (omega (arith, c.if-self-len.true, c.len.ensures)))
    (c.in_ok-read_until.ensures.end (omega (arith, ap length none, ap length c.clear.ensures.items, c.in_ok-read_until.ensures.ok)))

pub returns-else-self-len-clause-end : goal.returns-else-self-len-clause-end
returns-else-self-len-clause-end g c = λ none.
    absurd (omega (arith, c.if-self-len.false, c.len.ensures, sym (length-drop c.args.self.now.given c.args.self.now.line.items) ∙ ap length none))
