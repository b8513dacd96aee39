-- The document that is written of a plan begins with its first key.
use Rattle.std.proofs.Common.{◌≡◌, ◌≢◌, ℕ, List, ◌++◌, true, ap, ◌∙◌, arith}
use Rattle.toml_parser.specs.Lexical.{first}
use Rattle.toml_writer.specs.Text.{key_text}
use Rattle.toml.specs.Text.{IsDocumentText}
use Rattle.jh_simnode.specs.Plans.{PlanValue}
use Rattle.jh_settings_texts.specs.DocumentWritten.{document_of}

pub begins_unmarked : (p : PlanValue) (budget : ℕ) (text : List ℕ) → IsDocumentText true (document_of p budget) text → first text ≢ 239
unfolding key_text
begins_unmarked p budget text written =
    let begins : first text ≡ 98 = ap first (written.2 ∙ ap (λ line. line ++ written.1) written.3.1) in
    λ marked. omega (arith, begins, marked)
