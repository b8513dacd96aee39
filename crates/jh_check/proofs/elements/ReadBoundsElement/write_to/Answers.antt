use Rattle.std.proofs.Common.{rules, ◌≡◌, ℕ, List, ◌++◌, codes, ap, append_assoc, subst}
use Rattle.std.proofs.lemmas.Result.{on_ok_weaker}
use Rattle.std.specs.Fmt.{signed_decimal}
use Rattle.std.specs.Io.KnownBytes.{Appends}
use Rattle.jh_edn.proofs.CitedLemmas.{appends_then}
use Rattle.jh_edn.specs.Print.{print}
use Rattle.jh_check.specs.Lines.{read_value}
use Rattle.jh_check.proofs.elements.ReadBoundsElement.write_to.Goals as goal

pub returns-clause-bytes : goal.returns-clause-bytes
returns-clause-bytes g c =
    let contents = g.W.Write.contents in
    let start = contents c.args.writer.now in
    let read = c.args.self.now in
    let value = codes " " ++ signed_decimal read.value in
    let upper = codes " " ++ signed_decimal read.upper in
    let first : Appends start (contents c.write_behind.new.writer) (codes "[" ++ signed_decimal read.lower) = search rules in
    let second : Appends (contents c.write_behind.new.writer) (contents c.write_behind-2.new.writer) value = search rules in
    let third : Appends (contents c.write_behind-2.new.writer) (contents c.write_behind-3.new.writer) upper = search rules in
    let a = appends_then start (contents c.write_behind.new.writer) (contents c.write_behind-2.new.writer) _ _ first second in
    let b = appends_then start (contents c.write_behind-2.new.writer) (contents c.write_behind-3.new.writer) _ _ a third in
    let text : ((codes "[" ++ signed_decimal read.lower) ++ value) ++ upper ++ codes "]" ≡ print (read_value read) =
    ap (λ (w : List ℕ). codes "[" ++ (w ++ codes "]")) (append_assoc (signed_decimal read.lower) value upper) in
    on_ok_weaker c.put.result (λ end. subst (Appends start (contents c.put.new.writer)) text (appends_then start (contents c.write_behind-3.new.writer) (contents c.put.new.writer) _ _ b end)) c.put.ensures.bytes
