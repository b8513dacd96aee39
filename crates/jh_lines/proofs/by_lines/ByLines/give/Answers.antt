use Rattle.std.proofs.Common.{drop, take, subst}
use Rattle.std.proofs.lemmas.List.{drop-drop}
use Rattle.std.specs.Io.KnownBytes.{Consumes, prepend_known}
use Rattle.std.proofs.KnownBytes.{prepend_known-read}
use Rattle.jh_lines.specs.ByLines.{left_by_lines, unread_line}
use Rattle.jh_lines.proofs.ByLinesLemmas.{given_front, given_none, given_stops, same_count}
use Rattle.jh_lines.proofs.StreamLemmas.{slice_rest}
use Rattle.jh_lines.proofs.by_lines.ByLines.give.Goals as goal

pub returns-clause-bytes : goal.returns-clause-bytes
returns-clause-bytes g c =
    let filled = c.fill.new.self in
    let count = c.in_ok-count.count in
    let whole = slice_rest filled.line.items filled.given in
    let read = rw (c.through_feed-piece.ensures, c.deref.ensures.value, whole) at c.in_ok-count.ensures in
    let most = rw (c.deref.ensures.value, whole) at c.min-most.ensures in
    let counted = same_count _ _ read.count in
    let front = given_front (unread_line filled) c.args.buffer.now c.read.new.buf _ _ count c.requires most counted read.bytes.0 read.rest in
    let rest = drop-drop count filled.given filled.line.items in
    let given =
    prepend_known-read _ (g.B.Read.remaining filled.reader) (unread_line filled) (drop count (unread_line filled)) _ ⊥
    c.fill.ensures.kept front (λ never. absurd never) in (
      subst (λ l. Consumes (left_by_lines g.B.Read.remaining c.args.self.now)
          (prepend_known l (g.B.Read.remaining filled.reader)) (take count c.read.new.buf)) rest given.0,
      λ none. c.in_ok-fill.ensures.end
          (given_none (unread_line filled) c.args.buffer.now c.read.new.buf _ _ count c.requires most counted read.bytes.0 read.rest none),
      given_stops (unread_line filled) c.args.buffer.now c.read.new.buf _ _ count c.requires most counted read.bytes.0 read.rest,
    )
