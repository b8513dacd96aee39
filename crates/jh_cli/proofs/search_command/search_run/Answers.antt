use Rattle.std.proofs.Common.{ℕ, List, subst}
use Rattle.std.specs.Prelude.{IfSome}
use Rattle.std.proofs.lemmas.Result.{err_from_is_err_and}
use Rattle.jh_cli.specs.SearchRefusals.{RefusesSearch, RefusesSearchBytes}
use Rattle.jh_cli.specs.SearchText.{IsSearchTextOf}
use Rattle.jh_cli.proofs.SearchLemmas.{refused_by_bytes}
use Rattle.jh_cli.proofs.WritingLemmas.{on_input, output_refused, output_written}
use Rattle.jh_cli.proofs.search_command.search_run.Goals as goal

pub returns-in_err-output-clause-refused : goal.returns-in_err-output-clause-refused
returns-in_err-output-clause-refused g c =
    let p = err_from_is_err_and c.from_residual-in_err-output.result c.from_residual-in_err-output.ensures.1 in
    let error = c.in_err-output.field-0.0 in
    rw (p.1, p.2) (on_input _ _ (g.R.Read.remaining c.args.reader.now) (λ input spelled.
    refused_by_bytes c.args.question input error (subst (λ (bytes : List ℕ). RefusesSearchBytes c.args.question bytes error) spelled (rw c.deref.ensures.value at c.in_err-output.ensures)))
    c.in_ok-input.ensures.bytes)

pub returns-clause-written : goal.returns-clause-written
returns-clause-written g c =
    let known = g.R.Read.remaining c.args.reader.now in
    let goes : IfSome known (λ input. IsSearchTextOf c.args.question input c.in_ok-output.output.status c.in_ok-output.output.text.items) =
    on_input _ _ known (λ input spelled. subst (λ (bytes : List ℕ). IsSearchTextOf c.args.question bytes c.in_ok-output.output.status c.in_ok-output.output.text.items) spelled (rw c.deref.ensures.value at c.in_ok-output.ensures)) c.in_ok-input.ensures.bytes in
    output_written (IsSearchTextOf c.args.question) known (g.W.Write.contents c.args.writer.now) (g.W.Write.contents c.finish.new.writer) c.finish.result c.in_ok-output.output.status c.in_ok-output.output.text.items
    goes c.finish.ensures.status c.finish.ensures.written

pub returns-clause-refused : goal.returns-clause-refused
returns-clause-refused g c =
    let known = g.R.Read.remaining c.args.reader.now in
    let goes : IfSome known (λ input. IsSearchTextOf c.args.question input c.in_ok-output.output.status c.in_ok-output.output.text.items) =
    on_input _ _ known (λ input spelled. subst (λ (bytes : List ℕ). IsSearchTextOf c.args.question bytes c.in_ok-output.output.status c.in_ok-output.output.text.items) spelled (rw c.deref.ensures.value at c.in_ok-output.ensures)) c.in_ok-input.ensures.bytes in
    output_refused (IsSearchTextOf c.args.question) (RefusesSearch c.args.question) known c.finish.result c.in_ok-output.output.status c.in_ok-output.output.text.items
    (λ input is. (c.in_ok-output.output.status, c.in_ok-output.output.text.items, is)) goes c.finish.ensures.failed
