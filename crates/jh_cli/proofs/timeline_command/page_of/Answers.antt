use Rattle.std.proofs.Common.{◌≡◌, ◌∙◌, ℕ, List, ap, subst}
use Rattle.jh_timeline_pages.specs.Page.{page_text}
use Rattle.jh_timeline_pages.specs.declared.section.Section.{Section}
use Rattle.jh_timeline_pages.specs.declared.top.Top.{Top}
use Rattle.jh_timeline_sections.specs.SaidVerdicts.{said_verdict}
use Rattle.jh_cli.specs.Notices.{notice_of}
use Rattle.jh_cli.proofs.timeline_command.page_of.Goals as goal

pub returns : goal.returns
returns c =
    let shown = c.in_ok-status.field-0 in
    let notice = c.in_ok-notice.notice in
    let top : Top = record { title = shown.title; notice = notice; line = shown.line } in
    let said = c.said_verdict-said.ensures ∙ ap said_verdict c.deref.ensures.value in
    let noticed = c.in_ok-notice.ensures ∙ ap (notice_of c.args.question.judging shown.status) said in
    let text = c.in_ok-page_text.field-0.items in
    let below = c.deref-3.result.now in
    let sections : text ≡ page_text top shown.sections.items below =
    subst (λ (sections : List Section). text ≡ page_text top sections below) c.deref-2.ensures.value c.in_ok-page_text.ensures in
    let whole = subst (λ (below : List ℕ). text ≡ page_text top shown.sections.items below) c.deref-3.ensures.value sections in
    (top, shown.sections.items, c.in_ok-status.ensures.shows, noticed, whole)
