-- What the proofs of crates above may cite of these: the lexemes of a text, one more at a time.
pub use Rattle.jh_lexemes.proofs.LexemesLemmas.{placed, lexemes_next, lexemes_none, lexemes_over, lexemes_first}
