use Rattle.std.proofs.Common.{rules, ◌≡◌, [], ◌∷◌, ◌++◌, ◌<◌, length, take, get_or, arith}
use Rattle.std.specs.Io.KnownBytes.{Appends}
use Rattle.std.specs.List.{flat_map}
use Rattle.jh_edn.specs.Bytes.{quote}
use Rattle.jh_edn.specs.Print.{escape}
use Rattle.jh_edn.proofs.EscapeLemmas.{piece_more, piece_last}
use Rattle.jh_edn.proofs.PrintLemmas.{appends_then}
use Rattle.jh_edn.proofs.writer.write_text.Goals as goal

pub returns-then-len-left-clause-bytes : goal.returns-then-len-left-clause-bytes
returns-then-len-left-clause-bytes g c =
    let contents = g.W.Write.contents in
    let so_far = c.pieces.invariant in
    let left = c.pieces.left.now in
    let n = c.bare_len-len.result in
    let bare : Appends (contents c.pieces.writer) (contents c.put-in-pieces.new.writer) (take n left) = search rules in
    let whole : so_far.0 ++ take n left ≡ quote ∷ flat_map escape c.args.text.now = piece_last so_far.0 left (quote ∷ flat_map escape c.args.text.now) n c.bare_len-len.ensures.len so_far.2 (grind (arith)) in
    let text : Appends (contents c.args.writer.now) (contents c.put-in-pieces.new.writer) (quote ∷ flat_map escape c.args.text.now) =
    rw (← whole) (appends_then (contents c.args.writer.now) (contents c.pieces.writer) (contents c.put-in-pieces.new.writer) so_far.0 (take n left) so_far.1 bare) in
    appends_then (contents c.args.writer.now) (contents c.put-in-pieces.new.writer) (contents c.put-then-len-left.new.writer) (quote ∷ flat_map escape c.args.text.now) (quote ∷ []) text c.in_ok-put-3.ensures.bytes

pub pieces-preserved : goal.pieces-preserved
pieces-preserved g c =
    let contents = g.W.Write.contents in
    let so_far = c.pieces.invariant in
    let left = c.pieces.left.now in
    let n = c.bare_len-len.result in
    let some : n < length left = grind (arith) in
    let bare : Appends (contents c.pieces.writer) (contents c.put-in-pieces.new.writer) (take n left) = search rules in
    let escaped : Appends (contents c.put-in-pieces.new.writer) (contents c.write_byte.new.writer) (escape (get_or left n 0)) = search rules in (
      (so_far.0 ++ take n left) ++ escape (get_or left n 0),
      appends_then (contents c.args.writer.now) (contents c.put-in-pieces.new.writer) (contents c.write_byte.new.writer) (so_far.0 ++ take n left) (escape (get_or left n 0))
          (appends_then (contents c.args.writer.now) (contents c.pieces.writer) (contents c.put-in-pieces.new.writer) so_far.0 (take n left) so_far.1 bare) escaped,
      rw c.behind-left.ensures (piece_more so_far.0 left (quote ∷ flat_map escape c.args.text.now) n c.bare_len-len.ensures.len so_far.2 some),
    )
