use Rattle.std.proofs.Common.{rules, ◌∙◌, List, length, All, subst, sym}
use Rattle.jh_nemesis.specs.Steps.{FitsNodes}
use Rattle.jh_simnode.specs.declared.schedule.Entry.{Entry}
use Rattle.jh_shrink.specs.Shrunk.{IsShrunk}
use Rattle.jh_cli.specs.ShrinkText.{RunAnswers}
use Rattle.jh_cli.proofs.ShrinkLemmas.{all_shrunk, shrunk_by}
use Rattle.jh_cli.proofs.shrink_command.shrink_plan.Goals as goal

pub returns-in-Ok-clause-shrunk : goal.returns-in-Ok-clause-shrunk
returns-in-Ok-clause-shrunk g c =
    let Answers = RunAnswers c.args.plan.now c.args.judge_budget in
    let same = c.in_ok-given.ensures ∙ c.schedule.ensures.schedule in
    let shrunk = shrunk_by _ _ Answers (λ schedule answer called. search rules) c.args.runs c.in_ok-given.given c.in-Ok.shrunk c.in-Ok.ensures in
    subst (λ (given : List Entry). IsShrunk Answers c.args.runs given c.in-Ok.shrunk) same shrunk

pub returns-in-Ok-clause-fits : goal.returns-in-Ok-clause-fits
returns-in-Ok-clause-fits g c =
    let P : Entry → Type 0 = λ entry. FitsNodes (length c.args.plan.now.env.names) entry.step in
    let Answers = RunAnswers c.args.plan.now c.args.judge_budget in
    let same = c.in_ok-given.ensures ∙ c.schedule.ensures.schedule in
    let shrunk = shrunk_by _ _ Answers (λ schedule answer called. search rules) c.args.runs c.in_ok-given.given c.in-Ok.shrunk c.in-Ok.ensures in
    all_shrunk P Answers c.args.runs c.in_ok-given.given c.in-Ok.shrunk shrunk (subst (All P) (sym same) c.schedule.ensures.steps)
