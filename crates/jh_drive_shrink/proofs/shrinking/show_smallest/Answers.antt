use Rattle.std.proofs.Common.{◌∙◌, inl, inr, ap, refl, subst, sym}
use Rattle.std.specs.Io.KnownBytes.{Appends}
use Rattle.jh_drive_shrink.specs.DriveShrink.{IsPartShown, settings_judging}
use Rattle.jh_drive_shrink.specs.PartsInside.{part_at}
use Rattle.jh_drive_shrink.specs.ShrinkInside.{IsPartWritten}
use Rattle.jh_drive_shrink.specs.ToldInside.{told_status}
use Rattle.jh_drive_shrink.proofs.ShownLemmas.{breaks_unwritten, broken_so, last_broken, not_shown, shown_so}
use Rattle.jh_drive_shrink.proofs.shrinking.show_smallest.Goals as goal

pub returns-in_err-write_bytes : goal.returns-in_err-write_bytes
returns-in_err-write_bytes g c = λ runs input before left.
    let s = c.args.settings.settings in
    let error = c.in_err-write_bytes.field-0.0 in
    broken_so s.test (settings_judging s) runs input _ before _ s.initial s.model s.budget c.from_residual.result error c.from_residual.ensures.1
    (breaks_unwritten s.test (settings_judging s) runs input _ before _ error c.in_err-write_bytes.ensures.written)

pub returns-then-has_passed : goal.returns-then-has_passed
returns-then-has_passed g c = λ runs input before left.
    let s = c.args.settings.settings in
    let written = subst (Appends (g.W.Write.contents c.args.writer.now) (g.W.Write.contents c.write_bytes.new.writer)) c.heading.ensures c.in_ok-write_bytes.ensures.written in
    inl (not_shown s.test (settings_judging s) runs input _ before _ c.args.smallest.now left _ c.if-has_passed.ensures written, refl)

pub returns-in_err-held : goal.returns-in_err-held
returns-in_err-held g c = λ runs input before left.
    let s = c.args.settings.settings in
    broken_so s.test (settings_judging s) runs input _ before _ s.initial s.model s.budget c.from_residual-in_err-held.result c.in_err-held.field-0.0 c.from_residual-in_err-held.ensures.1
    (last_broken s.test (settings_judging s) runs input _ before _ c.args.smallest.now left _ _ c.in_err-held.field-0.0 c.in_err-held.ensures)

pub returns-in_err-write_shown : goal.returns-in_err-write_shown
returns-in_err-write_shown g c = λ runs input before left.
    let s = c.args.settings.settings in
    let error = c.in_err-write_shown.field-0.0 in
    broken_so s.test (settings_judging s) runs input _ before _ s.initial s.model s.budget c.from_residual-in_err-write_shown.result error c.from_residual-in_err-write_shown.ensures.1
    (breaks_unwritten s.test (settings_judging s) runs input _ before _ error (c.in_err-write_shown.ensures (settings_judging s) c.in_ok-held.ensures.2.1.judged))

pub returns : goal.returns
returns g c = λ runs input before left.
    let s = c.args.settings.settings in
    let trial = c.in_ok-held.held in
    let part = part_at s.test c.args.smallest.now.places in
    let written = subst (λ told. IsPartWritten (settings_judging s) c.args.settings part told trial (g.W.Write.contents c.hold_last.new.writer) (g.W.Write.contents c.write_shown.new.writer)) c.behind-told.ensures
    (c.in_ok-write_shown.ensures (settings_judging s) c.in_ok-held.ensures.2.1.judged) in
    let shown = shown_so s.test (settings_judging s) runs input _ before _ c.args.smallest.now left _ _ _ c.args.settings trial refl c.if-has_passed.ensures c.in_ok-held.ensures written in
    inr (inl (
      c.status.result,
      subst (IsPartShown s.test (settings_judging s) runs input _ before _ s.initial s.model s.budget) (sym (c.status.ensures ∙ ap told_status c.behind-told.ensures)) shown,
      refl,
    ))
