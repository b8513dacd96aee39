-- Comments before a document (TOML 1.1, "Comment").
use Rattle.std.specs.Prelude.{◌≡◌, true, List, ℕ, ◌∷◌, ◌++◌}
use Rattle.std.specs.List.{list_all}
use Rattle.toml_parser.specs.Lexical.{hash, is_non_eol, line_feed}

-- what may stand in a comment: no line feed, and no other control character but tabs
abbrev pub IsComment : List ℕ → Type 0
IsComment comment = list_all is_non_eol comment ≡ true

-- a text with a line before it that is a comment
abbrev pub behind_comment : List ℕ → List ℕ → List ℕ
behind_comment comment text = hash ∷ (comment ++ line_feed ∷ text)
