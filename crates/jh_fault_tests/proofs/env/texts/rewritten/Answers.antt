use Rattle.std.proofs.lemmas.Str.{IsCharBoundary-start}
use Rattle.jh_fault_tests.proofs.env.texts.rewritten.Goals as goal

pub read_one-requires : goal.read_one-requires
read_one-requires c = IsCharBoundary-start c.args.text.now c.utf8.text
